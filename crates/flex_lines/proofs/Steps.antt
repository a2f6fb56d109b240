-- Steps over items that are not frozen.
use Rattle.std.proofs.Common.{arith, ap, ◌≡◌, ◌∙◌, sym, refl, ℕ, suc, ◌+◌, ◌<◌, ℤ, pos, ◌+ℤ◌, Bool, true, false, List, [], ◌∷◌, drop, get_or, length, map, if◌then◌else◌}
use Rattle.std.proofs.lemmas.Int.{ints}
use Rattle.std.proofs.lemmas.List.{drop_more}
use Rattle.part_rules.specs.Lists.{sum_of, total_of}
use Rattle.part_rules.specs.FlexLines.{Piece, violation, weight_of}
use Rattle.flex_lines.specs.declared.flexible.Flexible.{Flexible}
use Rattle.flex_lines.specs.Rounds.{change_of, newly_held, piece, pieces, stopped, stops, tries}

pub total_next : (f : Piece → ℕ) (fs : List Flexible) (i : ℕ) (d : Flexible) → i < length fs → total_of (map f (pieces (drop i fs))) ≡ f (piece (get_or fs i d)) + total_of (map f (pieces (drop (i + 1) fs)))
total_next f fs i d h = ap (λ (xs : List Flexible). total_of (map f (pieces xs))) (drop_more fs i d h)

pub sum_next : (f : Piece → ℤ) (fs : List Flexible) (i : ℕ) (d : Flexible) → i < length fs → sum_of (map f (pieces (drop i fs))) ≡ f (piece (get_or fs i d)) +ℤ sum_of (map f (pieces (drop (i + 1) fs)))
sum_next f fs i d h = ap (λ (xs : List Flexible). sum_of (map f (pieces xs))) (drop_more fs i d h)

-- what is left of a list begins with its item
pub drop_item : {A : Type 0} → (xs : List A) (i : ℕ) (x : A) → i < length xs → x ≡ get_or xs i x → drop i xs ≡ x ∷ drop (i + 1) xs
drop_item xs i x h is = drop_more xs i x h ∙ ap (λ y. y ∷ drop (i + 1) xs) (sym is)

-- what is left of two lists begins with their items
both : {A B C : Type 0} → (f : List A → List B → C) (xs : List A) (ys : List B) (i : ℕ) (x : A) (y : B) → i < length xs → length ys ≡ length xs → x ≡ get_or xs i x → y ≡ get_or ys i y → f (drop i xs) (drop i ys) ≡ f (x ∷ drop (i + 1) xs) (y ∷ drop (i + 1) ys)
both f xs ys i x y h l a b = ap (λ zs. f zs (drop i ys)) (drop_item xs i x h a) ∙ ap (f (x ∷ drop (i + 1) xs)) (drop_item ys i y (omega (arith, h, l)) b)

pub change_next : (fs : List Flexible) (sizes : List ℤ) (i : ℕ) (f : Flexible) (size : ℤ) → i < length fs → length sizes ≡ length fs → f ≡ get_or fs i f → size ≡ get_or sizes i size
    → change_of (drop i fs) (drop i sizes) ≡ violation (piece f) size +ℤ change_of (drop (i + 1) fs) (drop (i + 1) sizes)
change_next fs sizes i f size h l a b = both change_of fs sizes i f size h l a b

pub held_next : (sum : ℤ) (fs : List Flexible) (sizes : List ℤ) (i : ℕ) (f : Flexible) (size : ℤ) → i < length fs → length sizes ≡ length fs → f ≡ get_or fs i f → size ≡ get_or sizes i size → stops sum f size ≡ true
    → newly_held sum (drop i fs) (drop i sizes) ≡ (stopped f size +ℤ f.item.margins) +ℤ newly_held sum (drop (i + 1) fs) (drop (i + 1) sizes)
held_next sum fs sizes i f size h l a b t =
    both (newly_held sum) fs sizes i f size h l a b
    ∙ ap (λ (s : Bool). (if s then stopped f size +ℤ f.item.margins else pos 0) +ℤ newly_held sum (drop (i + 1) fs) (drop (i + 1) sizes)) t

pub held_past : (sum : ℤ) (fs : List Flexible) (sizes : List ℤ) (i : ℕ) (f : Flexible) (size : ℤ) → i < length fs → length sizes ≡ length fs → f ≡ get_or fs i f → size ≡ get_or sizes i size → stops sum f size ≡ false
    → newly_held sum (drop i fs) (drop i sizes) ≡ newly_held sum (drop (i + 1) fs) (drop (i + 1) sizes)
held_past sum fs sizes i f size h l a b t =
    both (newly_held sum) fs sizes i f size h l a b
    ∙ ap (λ (s : Bool). (if s then stopped f size +ℤ f.item.margins else pos 0) +ℤ newly_held sum (drop (i + 1) fs) (drop (i + 1) sizes)) t
    ∙ omega (arith, ints)

abbrev Free : Type 0
Free = List Flexible

-- one size is tried for each item
pub tries-length : (grow : Bool) (space : ℤ) (whole before : ℕ) (fs : Free) → length (tries grow space whole before (pieces fs)) ≡ length fs
tries-length grow space whole before [] = refl
tries-length grow space whole before (f ∷ fs) = ap suc (tries-length grow space whole (before + weight_of grow (piece f)) fs)
