-- The items as placement begins.
use Rattle.std.proofs.Common.{ap, ◌≡◌, sym, ◌∙◌, ℕ, ◌+◌, ◌<◌, add-one, Bool, List, [], ◌∷◌, ◌++◌, length, drop, get_or, map, append_assoc, drop-cons}
use Rattle.std.specs.Prelude.{Option, option_to_list}
use Rattle.std.proofs.lemmas.List.{map-append}
use Rattle.lunit.specs.declared.geometry.Area.{Area}
use Rattle.part_rules.specs.declared.wish.Wish.{Wish}
use Rattle.part_rules.specs.Placement as rules
use Rattle.part_rules.specs.Placement.{areas_of, begun, fixed_area}
use Rattle.grid_placement.specs.declared.entry.Entry.{Entry}
use Rattle.grid_placement.specs.Entries.{seen, all_seen}
use Rattle.grid_placement.specs.Wishes.{wish_in_flow}

-- what is left begins with the next one
pub next_of : {X : Type 0} (xs : List X) (i : ℕ) (d : X) → i < length xs → drop i xs ≡ get_or xs i d ∷ drop (i + 1) xs
next_of xs i d h = drop-cons xs i d h ∙ ap (λ (j : ℕ). get_or xs i d ∷ drop j xs) (sym (add-one i))

-- one more that is seen
pub seen_more : (out : List Entry) (e : Entry) (rest : List rules.Entry) → all_seen (out ++ e ∷ []) ++ rest ≡ all_seen out ++ (seen e ∷ rest)
seen_more out e rest = ap (λ (s : List rules.Entry). s ++ rest) (map-append seen out (e ∷ [])) ∙ append_assoc (all_seen out) (seen e ∷ []) rest

abbrev left_of : Bool → List Wish → ℕ → List rules.Entry
left_of flow items i = map begun (map (wish_in_flow flow) (drop i items))

begun_next : (flow : Bool) (items : List Wish) (i : ℕ) (d : Wish) → i < length items → left_of flow items i ≡ begun (wish_in_flow flow (get_or items i d)) ∷ left_of flow items (i + 1)
begun_next flow items i d h = ap (λ (ws : List Wish). map begun (map (wish_in_flow flow) ws)) (next_of items i d h)

entry_is : (w : Wish) (area : Option Area) (v : Wish) → w ≡ v → area ≡ fixed_area w.column w.row → (let e : Entry = record { wish = w; area = area } in seen e ≡ begun v)
entry_is w area v e f = λ i. record { wish = e i; area = (f ∙ (λ j. fixed_area (e j).column (e j).row)) i }

pub begin_entries : (flow : Bool) (items : List Wish) (i : ℕ) (d : Wish) (out : List Entry) (w : Wish) (area : Option Area) (all : List rules.Entry) → i < length items
    → all_seen out ++ left_of flow items i ≡ all → w ≡ wish_in_flow flow (get_or items i d) → area ≡ fixed_area w.column w.row → all_seen (out ++ record { wish = w; area = area } ∷ []) ++ left_of flow items (i + 1) ≡ all
begin_entries flow items i d out w area all h inv e f =
    seen_more out (record { wish = w; area = area }) (left_of flow items (i + 1))
    ∙ ap (λ (x : rules.Entry). all_seen out ++ (x ∷ left_of flow items (i + 1))) (entry_is w area (wish_in_flow flow (get_or items i d)) e f)
    ∙ ap (λ (r : List rules.Entry). all_seen out ++ r) (sym (begun_next flow items i d h)) ∙ inv

pub begin_cells : (flow : Bool) (items : List Wish) (i : ℕ) (d : Wish) (held after all : List Area) (w : Wish) (area : Option Area) → i < length items
    → held ++ areas_of (left_of flow items i) ≡ all → w ≡ wish_in_flow flow (get_or items i d) → area ≡ fixed_area w.column w.row → after ≡ held ++ option_to_list area → after ++ areas_of (left_of flow items (i + 1)) ≡ all
begin_cells flow items i d held after all w area h inv e f g =
    ap (λ (x : List Area). x ++ areas_of (left_of flow items (i + 1))) g
    ∙ append_assoc held (option_to_list area) (areas_of (left_of flow items (i + 1)))
    ∙ ap (λ (x : rules.Entry). held ++ areas_of (x ∷ left_of flow items (i + 1))) (entry_is w area (wish_in_flow flow (get_or items i d)) e f)
    ∙ ap (λ (r : List rules.Entry). held ++ areas_of r) (sym (begun_next flow items i d h)) ∙ inv
