-- Lines with their names, as they are collected.
use Rattle.std.proofs.Common.{arith, refl, sym, ap, ◌∙◌, ◌≡◌, ℕ, zero, suc, ◌+◌, ◌<◌, ℤ, pos, List, [], ◌∷◌, ◌++◌, length, take, get_or, slice_set, append_assoc}
use Rattle.std.proofs.lemmas.List.{append-nil, take_more, get_or-set_same}
use Rattle.part_rules.specs.LineNames.{NamedSpan, area_names, names_by_areas}
use Rattle.line_names.specs.Tables.{AreLines}

-- ---- names put on a line

set_again : {A : Type 0} (xs : List A) (i : ℕ) (a b : A) → slice_set (slice_set xs i a) i b ≡ slice_set xs i b
set_again [] i a b = refl
set_again (x ∷ xs) zero a b = refl
set_again (x ∷ xs) (suc i) a b = ap (λ ys. x ∷ ys) (set_again xs i a b)

pub named_next : (old now : List (List (List ℕ))) (k i : ℕ) (names : List (List ℕ)) (name : List ℕ) → k < length old → i < length names → name ≡ get_or names i name → now ≡ slice_set old k (get_or old k [] ++ take i names) →
    slice_set now k (get_or now k [] ++ name ∷ []) ≡ slice_set old k (get_or old k [] ++ take (i + 1) names)
named_next old now k i names name g h e f =
    let all : (get_or old k [] ++ take i names) ++ name ∷ [] ≡ get_or old k [] ++ take (i + 1) names = append_assoc (get_or old k []) (take i names) (name ∷ []) ∙ ap (λ n. get_or old k [] ++ (take i names ++ n ∷ [])) e ∙ ap (λ ns. get_or old k [] ++ ns) (sym (take_more names i name h)) in
    ap (λ z. slice_set z k (get_or z k [] ++ name ∷ [])) f
    ∙ set_again old k (get_or old k [] ++ take i names) (get_or (slice_set old k (get_or old k [] ++ take i names)) k [] ++ name ∷ [])
    ∙ ap (λ z. slice_set old k (z ++ name ∷ [])) (get_or-set_same old k (get_or old k [] ++ take i names) [] g)
    ∙ ap (λ z. slice_set old k z) all

-- ---- the names that areas give

names_by_areas-append : (line : ℤ) (xs ys : List NamedSpan) → names_by_areas line (xs ++ ys) ≡ names_by_areas line xs ++ names_by_areas line ys
names_by_areas-append line [] ys = refl
names_by_areas-append line (x ∷ xs) ys = ap (λ names. area_names line x ++ names) (names_by_areas-append line xs ys) ∙ sym (append_assoc (area_names line x) (names_by_areas line xs) (names_by_areas line ys))

names_by_areas-more : (line : ℤ) (areas : List NamedSpan) (i : ℕ) (area : NamedSpan) → i < length areas → area ≡ get_or areas i area → names_by_areas line (take i areas) ++ area_names line area ≡ names_by_areas line (take (i + 1) areas)
names_by_areas-more line areas i area h e =
    ap (λ a. names_by_areas line (take i areas) ++ area_names line a) e
    ∙ ap (λ names. names_by_areas line (take i areas) ++ names) (sym (append-nil (area_names line (get_or areas i area))))
    ∙ sym (names_by_areas-append line (take i areas) (get_or areas i area ∷ []))
    ∙ ap (λ xs. names_by_areas line xs) (sym (take_more areas i area h))

-- the names of the next area
pub areas_next : (old now next : List (List (List ℕ))) (areas : List NamedSpan) (i : ℕ) (area : NamedSpan) → i < length areas → area ≡ get_or areas i area → AreLines (λ line. get_or old line [] ++ names_by_areas (pos line) (take i areas)) (length old) now →
    AreLines (λ line. get_or now line [] ++ area_names (pos line) area) (length now) next → AreLines (λ line. get_or old line [] ++ names_by_areas (pos line) (take (i + 1) areas)) (length old) next
areas_next old now next areas i area h e f g =
    record {
      counted = g.counted ∙ f.counted;
      named = λ line k.
          g.named line (omega (arith, k, f.counted))
          ∙ ap (λ names. names ++ area_names (pos line) area) (f.named line k)
          ∙ append_assoc (get_or old line []) (names_by_areas (pos line) (take i areas)) (area_names (pos line) area)
          ∙ ap (λ names. get_or old line [] ++ names) (names_by_areas-more (pos line) areas i area h e);
    }
