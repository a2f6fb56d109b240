-- Braces, cut at the end of their first declaration.
use Rattle.std.proofs.Common.{◌≡◌, ℕ, suc, ◌+◌, ◌<◌, Bool, true, false, not, ◌||◌, List, [], ◌∷◌, take, drop, length, Result, Ok, Err, refl, ap, sym, ◌∙◌, cond, if◌then◌else◌, arith, subst}
use Rattle.std.specs.List.{position_or_len}
use Rattle.std.proofs.lemmas.List.{length-drop}
use Rattle.std.proofs.lemmas.Bool.{ne_eqb}
use Rattle.text_scan.specs.declared.line.Fault.{Fault}
use Rattle.text_scan.specs.declared.line.Place.{Place}
use Rattle.track_text.specs.Gives.{fault_at}
use Rattle.value_text.specs.Declarations.{place_after}
use Rattle.doc_text.specs.Label.{DeclaredMap}
use Rattle.doc_text.specs.Texts.{Text, text_at, past, up_to, ◌>>=◌}
use Rattle.doc_text.specs.NodeText.{Braces, is_close, is_semicolon, ends_declaration, braces_of, one_text, with_text, onto_first, braces_in, SoFar, one_declared, all_declared, with_braces}

-- places add up
pub place-sum : (at : Place) (m n : ℕ) → place_after (place_after at m) n ≡ place_after at (m + n)
place-sum at m n = ap (λ (c : ℕ). record { line = at.line; column = c }) (omega arith)

one_more : (n : ℕ) → 1 + n ≡ suc n
one_more n = omega arith

abbrev pub end_at : List ℕ → ℕ
end_at bytes = position_or_len ends_declaration bytes

-- a first declaration, and what is left from its end on
abbrev with_front : Text → Braces → Braces
with_front text braces = record { texts = text ∷ braces.texts; close = braces.close }

abbrev alone : Text → Result Text Fault → Braces
alone text close = record { texts = text ∷ []; close = close }

abbrev cut_by : Bool → Text → Place → List ℕ → Braces
cut_by true front at rest = alone front (Ok (text_at (place_after at 1) rest))
cut_by false front at rest = with_front front (braces_of (place_after at 1) rest)

abbrev cut_at : Text → Place → List ℕ → Braces
cut_at front at [] = alone front (Err (fault_at 9 at))
cut_at front at (byte ∷ rest) = cut_by (is_close byte) front at rest

onto_cut_by : (b : Bool) (at : Place) (byte : ℕ) (front : Text) (p : Place) (rest : List ℕ) → onto_first at byte (cut_by b front p rest) ≡ cut_by b (text_at at (byte ∷ front.bytes)) p rest
onto_cut_by true at byte front p rest = refl
onto_cut_by false at byte front p rest = refl

onto_cut : (at : Place) (byte : ℕ) (front : Text) (p : Place) (rest : List ℕ) → onto_first at byte (cut_at front p rest) ≡ cut_at (text_at at (byte ∷ front.bytes)) p rest
onto_cut at byte front p [] = refl
onto_cut at byte front p (x ∷ rest) = onto_cut_by (is_close x) at byte front p rest

-- by what the first byte is
step : (close semicolon : Bool) (at : Place) (byte : ℕ) (bytes : List ℕ) → is_close byte ≡ close
    → braces_of (place_after at 1) bytes ≡ cut_at (text_at (place_after at 1) (take (end_at bytes) bytes)) (place_after (place_after at 1) (end_at bytes)) (drop (end_at bytes) bytes)
    → (if close then one_text at (Ok (text_at (place_after at 1) bytes)) else if semicolon then with_text at (braces_of (place_after at 1) bytes) else onto_first at byte (braces_of (place_after at 1) bytes))
    ≡ cut_at (text_at at (take (cond (not (close || semicolon)) (1 + end_at bytes) 0) (byte ∷ bytes))) (place_after at (cond (not (close || semicolon)) (1 + end_at bytes) 0)) (drop (cond (not (close || semicolon)) (1 + end_at bytes) 0) (byte ∷ bytes))
step true s at byte bytes e h = rw (e, place-sum at 0 1) refl
step false true at byte bytes e h = rw (e, place-sum at 0 1) refl
step false false at byte bytes e h = rw (one_more (end_at bytes), h, place-sum at 1 (end_at bytes), one_more (end_at bytes)) (onto_cut at byte (text_at (place_after at 1) (take (end_at bytes) bytes)) (place_after at (suc (end_at bytes))) (drop (end_at bytes) bytes))

cut : (at : Place) (bytes : List ℕ) → braces_of at bytes ≡ cut_at (text_at at (take (end_at bytes) bytes)) (place_after at (end_at bytes)) (drop (end_at bytes) bytes)
cut at [] = refl
cut at (byte ∷ bytes) = step (is_close byte) (is_semicolon byte) at byte bytes refl (cut (place_after at 1) bytes)

-- ---- the declarations in braces, one after another

abbrev Read : Type 0
Read = Result (DeclaredMap × Text) Fault

abbrev pub closing_by : Bool → ℕ → Text → SoFar → Read
closing_by true version rest made = Ok (made.1, rest)
closing_by false version rest made = with_braces version (braces_in rest) made

-- what is read from the end of a declaration on
abbrev pub closing : ℕ → Text → List ℕ → SoFar → Read
closing version back [] made = Err (fault_at 9 back.at)
closing version back (byte ∷ rest) made = closing_by (is_close byte) version (past 1 back) made

-- the texts after the first, and the close
abbrev rest_of : Bool → Place → List ℕ → Braces
rest_of true p rest = record { texts = []; close = Ok (text_at (place_after p 1) rest) }
rest_of false p rest = braces_of (place_after p 1) rest

-- the close, after all declarations
abbrev finish : Result Text Fault → SoFar → Read
finish close more = close >>= λ after. Ok (more.1, after)

by_close : (b : Bool) (version : ℕ) (p : Place) (rest : List ℕ) (read : Result SoFar Fault)
    → (read >>= all_declared version (rest_of b p rest).texts >>= finish (rest_of b p rest).close) ≡ (read >>= closing_by b version (text_at (place_after p 1) rest))
by_close true version p rest (Ok more) = refl
by_close true version p rest (Err fault) = refl
by_close false version p rest (Ok more) = refl
by_close false version p rest (Err fault) = refl

by_cut : (b : Bool) (version : ℕ) (front : Text) (p : Place) (rest : List ℕ) (made : SoFar)
    → with_braces version (cut_by b front p rest) made ≡ (one_declared version front made >>= closing_by b version (text_at (place_after p 1) rest))
by_cut true version front p rest made = by_close true version p rest (one_declared version front made)
by_cut false version front p rest made = by_close false version p rest (one_declared version front made)

abbrev missing : Place → SoFar → Read
missing p more = Err (fault_at 9 p)

no_close : (version : ℕ) (p : Place) (read : Result SoFar Fault) → (read >>= all_declared version [] >>= finish (Err (fault_at 9 p))) ≡ (read >>= missing p)
no_close version p (Ok more) = refl
no_close version p (Err fault) = refl

by_rest : (version : ℕ) (front : Text) (p : Place) (rest : List ℕ) (made : SoFar)
    → with_braces version (cut_at front p rest) made ≡ (one_declared version front made >>= closing version (text_at p rest) rest)
unfolding past
by_rest version front p [] made = no_close version p (one_declared version front made)
by_rest version front p (byte ∷ rest) made = by_cut (is_close byte) version front p rest made

first_then : (version : ℕ) (text : Text) (made : SoFar)
    → with_braces version (braces_in text) made ≡ (one_declared version (up_to (end_at text.bytes) text) made >>= closing version (past (end_at text.bytes) text) (past (end_at text.bytes) text).bytes)
unfolding past
first_then version text made =
    ap (λ (b : Braces). with_braces version b made) (cut text.at text.bytes)
    ∙ by_rest version (up_to (end_at text.bytes) text) (place_after text.at (end_at text.bytes)) (drop (end_at text.bytes) text.bytes) made

-- ---- by what stands at the end of the first declaration

pub at_fault : (version : ℕ) (text : Text) (made : SoFar) (fault : Fault) → one_declared version (up_to (end_at text.bytes) text) made ≡ Err fault → with_braces version (braces_in text) made ≡ Err fault
at_fault version text made fault e = first_then version text made ∙ ap (λ (r : Result SoFar Fault). r >>= closing version (past (end_at text.bytes) text) (past (end_at text.bytes) text).bytes) e

after_ok : (version : ℕ) (text : Text) (made more : SoFar) → one_declared version (up_to (end_at text.bytes) text) made ≡ Ok more
    → with_braces version (braces_in text) made ≡ closing version (past (end_at text.bytes) text) (past (end_at text.bytes) text).bytes more
after_ok version text made more e = first_then version text made ∙ ap (λ (r : Result SoFar Fault). r >>= closing version (past (end_at text.bytes) text) (past (end_at text.bytes) text).bytes) e

pub at_end : (version : ℕ) (text : Text) (made more : SoFar) → one_declared version (up_to (end_at text.bytes) text) made ≡ Ok more → (past (end_at text.bytes) text).bytes ≡ []
    → with_braces version (braces_in text) made ≡ Err (fault_at 9 (past (end_at text.bytes) text).at)
at_end version text made more e n = after_ok version text made more e ∙ ap (λ (l : List ℕ). closing version (past (end_at text.bytes) text) l more) n

pub at_close : (version : ℕ) (text : Text) (made more : SoFar) (byte : ℕ) (rest : List ℕ) → one_declared version (up_to (end_at text.bytes) text) made ≡ Ok more → (past (end_at text.bytes) text).bytes ≡ byte ∷ rest → is_close byte ≡ true
    → with_braces version (braces_in text) made ≡ Ok (more.1, past 1 (past (end_at text.bytes) text))
at_close version text made more byte rest e n c =
    after_ok version text made more e ∙ ap (λ (l : List ℕ). closing version (past (end_at text.bytes) text) l more) n ∙ ap (λ (b : Bool). closing_by b version (past 1 (past (end_at text.bytes) text)) more) c

pub at_next : (version : ℕ) (text : Text) (made more : SoFar) (byte : ℕ) (rest : List ℕ) → one_declared version (up_to (end_at text.bytes) text) made ≡ Ok more → (past (end_at text.bytes) text).bytes ≡ byte ∷ rest → is_close byte ≡ false
    → with_braces version (braces_in text) made ≡ with_braces version (braces_in (past 1 (past (end_at text.bytes) text))) more
at_next version text made more byte rest e n c =
    after_ok version text made more e ∙ ap (λ (l : List ℕ). closing version (past (end_at text.bytes) text) l more) n ∙ ap (λ (b : Bool). closing_by b version (past 1 (past (end_at text.bytes) text)) more) c

pub falls : (text : Text) (byte : ℕ) (rest : List ℕ) → (past (end_at text.bytes) text).bytes ≡ byte ∷ rest → length (past 1 (past (end_at text.bytes) text)).bytes < length text.bytes
unfolding past
falls text byte rest n =
    let some : length (drop (end_at text.bytes) text.bytes) ≡ length (byte ∷ rest) = ap length n in
    omega (arith, some, length-drop (end_at text.bytes) text.bytes, length-drop 1 (drop (end_at text.bytes) text.bytes))

pub ruleset cutting = (at_fault, at_end, at_close, at_next, falls)

-- ---- the same of texts that were cut before
module _ (version : ℕ) (text front back : Text) (made more : SoFar) (total : Read) (seen : List ℕ) (stop : ℕ) (s : seen ≡ text.bytes) (p : stop ≡ end_at seen) (f : front ≡ up_to stop text) (b : back ≡ past stop text) where
  stop_is : stop ≡ end_at text.bytes
  stop_is = p ∙ ap end_at s

  front_is : front ≡ up_to (end_at text.bytes) text
  front_is = f ∙ ap (λ n. up_to n text) stop_is

  back_is : back ≡ past (end_at text.bytes) text
  back_is = b ∙ ap (λ n. past n text) stop_is

  read_is : one_declared version front made ≡ Ok more → one_declared version (up_to (end_at text.bytes) text) made ≡ Ok more
  read_is e = ap (λ (t : Text). one_declared version t made) (sym front_is) ∙ e

  pub missing_close : one_declared version front made ≡ Ok more → back.bytes ≡ [] → with_braces version (braces_in text) made ≡ total → total ≡ Err (fault_at 9 back.at)
  missing_close e n t =
      sym t ∙ at_end version text made more (read_is e) (ap (λ (x : Text). x.bytes) (sym back_is) ∙ n)
      ∙ ap (λ (x : Text). Err (fault_at 9 x.at)) (sym back_is)

  module _ (byte : ℕ) (rest : List ℕ) (n : back.bytes ≡ byte ∷ rest) (after : Text) (a : after ≡ past 1 back) where
    bytes_are : (past (end_at text.bytes) text).bytes ≡ byte ∷ rest
    bytes_are = ap (λ (x : Text). x.bytes) (sym back_is) ∙ n

    after_is : after ≡ past 1 (past (end_at text.bytes) text)
    after_is = a ∙ ap (past 1) back_is

    pub closed_here : one_declared version front made ≡ Ok more → byte ≡ 125 → with_braces version (braces_in text) made ≡ total → total ≡ Ok (more.1, after)
    closed_here e c t =
        sym t ∙ at_close version text made more byte rest (read_is e) bytes_are (ap is_close c)
        ∙ ap (λ (x : Text). Ok (more.1, x)) (sym after_is)

    pub smaller : length after.bytes < length text.bytes
    smaller = subst (λ (x : Text). length x.bytes < length text.bytes) (sym after_is) (falls text byte rest bytes_are)

    pub next_one : one_declared version front made ≡ Ok more → (byte ≡ 125 → ⊥) → with_braces version (braces_in text) made ≡ total → with_braces version (braces_in after) more ≡ total
    next_one e c t =
        ap (λ (x : Text). with_braces version (braces_in x) more) after_is
        ∙ sym (at_next version text made more byte rest (read_is e) bytes_are (ne_eqb byte 125 c))
        ∙ t

pub nil_of : (bytes : List ℕ) → length bytes ≡ 0 → bytes ≡ []
nil_of [] h = refl
nil_of (byte ∷ bytes) h = absurd (omega (arith, h))
