-- The first word.
use Rattle.std.proofs.Common.{arith, ◌≡◌, ◌∙◌, ap, sym, subst, length, refl, List, [], ◌∷◌, Bool, true, false, Option, Some, None, Result}
use Rattle.std.specs.Prelude.{if◌then◌else◌, codes, string_bytes, String, IfOk, IsErrOf}
use Rattle.std.specs.Str.{bytes_eq}
use Rattle.command_words.specs.Options.{texts}
use Rattle.command_words.specs.Commands.{command_of, layout_of, make_of, write_of}
use Rattle.command_words.specs.declared.Command.{Command}
use Rattle.command_words.specs.declared.Command.TheVariants.{Write}
use Rattle.command_words.specs.declared.WordsError.{WordsError}
use Rattle.command_words.specs.declared.WordsError.TheVariants.{BadWords}

module _ {A : Type 0} (words : List (String A)) where
  pub no_words : length words ≡ 0 → command_of (texts words) ≡ None
  unfolding command_of
  no_words e = by_words words e
    where
      by_words : (words : List (String A)) → length words ≡ 0 → command_of (texts words) ≡ None
      by_words [] e = refl
      by_words (word ∷ rest) e = absurd (omega (arith, e))

  module _ (first : String A) (rest : List (String A)) (parts : words ≡ first ∷ rest) where
    -- the command by what the first word is
    abbrev by_word : Bool → Bool → Bool → Option Command
    by_word is_layout is_make is_write = if is_layout then layout_of (texts rest) else (if is_make then make_of (texts rest) else (if is_write then write_of (texts rest) else None))

    same_parts : command_of (texts words) ≡ by_word (bytes_eq (string_bytes first) (codes "layout")) (bytes_eq (string_bytes first) (codes "make")) (bytes_eq (string_bytes first) (codes "write"))
    unfolding command_of
    same_parts = ap (λ (ws : List (String A)). command_of (texts ws)) parts

    -- where it is one of them or none
    at_word : (l m w : Bool) → bytes_eq (string_bytes first) (codes "layout") ≡ l → bytes_eq (string_bytes first) (codes "make") ≡ m → bytes_eq (string_bytes first) (codes "write") ≡ w
        → command_of (texts words) ≡ by_word l m w
    at_word l m w is_l is_m is_w = same_parts ∙ ap (λ b. by_word b (bytes_eq (string_bytes first) (codes "make")) (bytes_eq (string_bytes first) (codes "write"))) is_l
        ∙ ap (λ b. by_word l b (bytes_eq (string_bytes first) (codes "write"))) is_m ∙ ap (by_word l m) is_w

    names_layout : bytes_eq (string_bytes first) (codes "layout") ≡ true → command_of (texts words) ≡ layout_of (texts rest)
    names_layout e = at_word true _ _ e refl refl

    names_make : bytes_eq (string_bytes first) (codes "layout") ≡ false → bytes_eq (string_bytes first) (codes "make") ≡ true → command_of (texts words) ≡ make_of (texts rest)
    names_make n e = at_word false true _ n e refl

    names_write : bytes_eq (string_bytes first) (codes "layout") ≡ false → bytes_eq (string_bytes first) (codes "make") ≡ false → bytes_eq (string_bytes first) (codes "write") ≡ true
        → command_of (texts words) ≡ write_of (texts rest)
    names_write n m e = at_word false false true n m e

    pub names_none : bytes_eq (string_bytes first) (codes "layout") ≡ false → bytes_eq (string_bytes first) (codes "make") ≡ false → bytes_eq (string_bytes first) (codes "write") ≡ false
        → command_of (texts words) ≡ None
    names_none n m e = at_word false false false n m e

    module _ (r : Result Command WordsError) where
      pub layout_ok : bytes_eq (string_bytes first) (codes "layout") ≡ true → IfOk r (λ command. layout_of (texts rest) ≡ Some command) → IfOk r (λ command. command_of (texts words) ≡ Some command)
      layout_ok e p = subst (λ (o : Option Command). IfOk r (λ command. o ≡ Some command)) (sym (names_layout e)) p

      pub layout_bad : bytes_eq (string_bytes first) (codes "layout") ≡ true → (IsErrOf r BadWords → layout_of (texts rest) ≡ None) → IsErrOf r BadWords → command_of (texts words) ≡ None
      layout_bad e p q = names_layout e ∙ p q

      pub make_ok : bytes_eq (string_bytes first) (codes "layout") ≡ false → bytes_eq (string_bytes first) (codes "make") ≡ true
          → IfOk r (λ command. make_of (texts rest) ≡ Some command) → IfOk r (λ command. command_of (texts words) ≡ Some command)
      make_ok n e p = subst (λ (o : Option Command). IfOk r (λ command. o ≡ Some command)) (sym (names_make n e)) p

      pub make_bad : bytes_eq (string_bytes first) (codes "layout") ≡ false → bytes_eq (string_bytes first) (codes "make") ≡ true
          → (IsErrOf r BadWords → make_of (texts rest) ≡ None) → IsErrOf r BadWords → command_of (texts words) ≡ None
      make_bad n e p q = names_make n e ∙ p q

      pub write_ok : bytes_eq (string_bytes first) (codes "layout") ≡ false → bytes_eq (string_bytes first) (codes "make") ≡ false → bytes_eq (string_bytes first) (codes "write") ≡ true
          → IfOk r (λ command. write_of (texts rest) ≡ Some command) → IfOk r (λ command. command_of (texts words) ≡ Some command)
      write_ok n m e p = subst (λ (o : Option Command). IfOk r (λ command. o ≡ Some command)) (sym (names_write n m e)) p

      pub write_bad : bytes_eq (string_bytes first) (codes "layout") ≡ false → bytes_eq (string_bytes first) (codes "make") ≡ false → bytes_eq (string_bytes first) (codes "write") ≡ true
          → (IsErrOf r BadWords → write_of (texts rest) ≡ None) → IsErrOf r BadWords → command_of (texts words) ≡ None
      write_bad n m e p q = names_write n m e ∙ p q

pub ruleset naming = (no_words, names_none, layout_ok, layout_bad, make_ok, make_bad, write_ok, write_bad)

-- ---- `write`

module _ {A : Type 0} (words : List (String A)) where
  pub write_alone : length words ≡ 0 → write_of (texts words) ≡ Some Write
  unfolding write_of
  write_alone e = by_words words e
    where
      by_words : (words : List (String A)) → length words ≡ 0 → write_of (texts words) ≡ Some Write
      by_words [] e = refl
      by_words (word ∷ rest) e = absurd (omega (arith, e))

  pub write_not : (length words ≡ 0 → ⊥) → write_of (texts words) ≡ None
  unfolding write_of
  write_not n = by_words words n
    where
      by_words : (words : List (String A)) → (length words ≡ 0 → ⊥) → write_of (texts words) ≡ None
      by_words [] n = absurd (n refl)
      by_words (word ∷ rest) n = refl

pub ruleset writing = (write_alone, write_not)
