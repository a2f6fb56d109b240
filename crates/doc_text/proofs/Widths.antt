-- The widths of words, one after another.
use Rattle.std.proofs.Common.{◌≡◌, ℕ, ℤ, ◌+◌, ◌<◌, ◌≤◌, List, [], ◌∷◌, ◌++◌, drop, get_or, length, Result, Ok, Err, refl, ap, sym, drop-cons, add-one}
use Rattle.std.proofs.lemmas.List.{drop_all}
use Rattle.text_scan.specs.declared.line.Fault.{Fault}
use Rattle.text_scan.specs.declared.token.Token.{Token}
use Rattle.track_text.specs.Words.{word_at}
use Rattle.value_text.specs.Declarations.{place_after}
use Rattle.doc_text.specs.Texts.{Text, ◌>>=◌}
use Rattle.doc_text.specs.Tokens.{size_of_word}
use Rattle.doc_text.specs.NodeText.{width_at, widths_of}

abbrev pub behind : List ℤ → Result (List ℤ) Fault → Result (List ℤ) Fault
behind widths (Ok more) = Ok (widths ++ more)
behind widths (Err fault) = Err fault

append-none : (xs : List ℤ) → xs ++ [] ≡ xs
append-none [] = refl
append-none (x ∷ xs) = ap (λ l. x ∷ l) (append-none xs)

append-assoc : (xs ys zs : List ℤ) → (xs ++ ys) ++ zs ≡ xs ++ (ys ++ zs)
append-assoc [] ys zs = refl
append-assoc (x ∷ xs) ys zs = ap (λ l. x ∷ l) (append-assoc xs ys zs)

pub behind-none : (read : Result (List ℤ) Fault) → behind [] read ≡ read
behind-none (Ok more) = refl
behind-none (Err fault) = refl

abbrev width_of : Text → Token → Result ℤ Fault
width_of text token = width_at (place_after text.at token.start) (size_of_word (word_at text.bytes token))

from_token : (text : Text) (tokens : List Token) (i : ℕ) (d : Token) → i < length tokens → widths_of text (drop i tokens) ≡ widths_of text (get_or tokens i d ∷ drop (i + 1) tokens)
from_token text tokens i d h = rw add-one (ap (widths_of text) (drop-cons tokens i d h))

behind_more : (widths : List ℤ) (width : ℤ) (read : Result (List ℤ) Fault) → behind widths (read >>= λ more. Ok (width ∷ more)) ≡ behind (widths ++ width ∷ []) read
behind_more widths width (Ok more) = ap Ok (sym (append-assoc widths (width ∷ []) more))
behind_more widths width (Err fault) = refl

pub all_read : (text : Text) (widths : List ℤ) (tokens : List Token) (i : ℕ) → length tokens ≤ i → behind widths (widths_of text (drop i tokens)) ≡ Ok widths
all_read text widths tokens i h = rw (drop_all i tokens h) (ap Ok (append-none widths))

pub one_read : (text : Text) (widths : List ℤ) (tokens : List Token) (i : ℕ) (d : Token) (width : ℤ) → i < length tokens → width_of text (get_or tokens i d) ≡ Ok width
    → behind widths (widths_of text (drop i tokens)) ≡ behind (widths ++ width ∷ []) (widths_of text (drop (i + 1) tokens))
one_read text widths tokens i d width h e = rw (from_token text tokens i d h, e) (behind_more widths width (widths_of text (drop (i + 1) tokens)))

pub one_bad : (text : Text) (widths : List ℤ) (tokens : List Token) (i : ℕ) (d : Token) (fault : Fault) → i < length tokens → width_of text (get_or tokens i d) ≡ Err fault
    → behind widths (widths_of text (drop i tokens)) ≡ Err fault
one_bad text widths tokens i d fault h e = rw (from_token text tokens i d h, e) refl

pub ruleset reading = (behind-none, all_read, one_read, one_bad)
