-- The children that a grid sees, by their numbers.
use Rattle.std.proofs.Common.{◌≡◌, sym, ap, ◌∙◌, subst, arith, refl, ℕ, zero, suc, ◌+◌, ◌-◌, ◌<◌, ◌≤◌, ℤ, List, [], ◌∷◌, ◌++◌, drop, take, length, map, max, true, false, Bool}
use Rattle.std.specs.Prelude.{All, get_or}
use Rattle.std.proofs.lemmas.List.{length-map, map-append, take_more, append_assoc}
use Rattle.lunit.specs.declared.geometry.Spot.{Spot}
use Rattle.style_types.specs.declared.track.Template.{Template}
use Rattle.style_types.specs.declared.track.Template.TheVariants as template
use Rattle.part_rules.specs.declared.wish.Wish.{Wish}
use Rattle.tree_rules.specs.Answers.{Kid}
use Rattle.tree_rules.specs.Chains.{Sibling, sibling_of}
use Rattle.tree_rules.specs.Contexts as rules
use Rattle.tree_rules.specs.Templates.{subgrid_sets}
use Rattle.placing.specs.Insides.{AreFilled, IsFilled}
use Rattle.placing.specs.Ranges.{IsTemplate}
use Rattle.placing.specs.Wishes.{no_sibling, spot_along}

pub wish_is : (c : rules.Context) (s : Sibling) (x y : Spot) → x ≡ spot_along 0 c.columns.table s.is_grid s.grid → y ≡ spot_along 1 c.rows.table s.is_grid s.grid → record { column = x; row = y } ≡ rules.wish_of c s
wish_is c s x y p q = λ i. record { column = p i; row = q i }

pub sibling_there : (kids rest : List Kid) (n : ℕ) (kid : Kid) → drop n kids ≡ kid ∷ rest → get_or (map (λ (k : Kid). sibling_of k.label) kids) n no_sibling ≡ sibling_of kid.label
sibling_there [] rest zero kid e = absurd cc
sibling_there [] rest (suc n) kid e = absurd cc
sibling_there (k ∷ kids) rest zero kid e = let same : k ≡ kid = cc in ap (λ (z : Kid). sibling_of z.label) same
sibling_there (k ∷ kids) rest (suc n) kid e = sibling_there kids rest n kid e

pub wishes_step : (f : ℕ → Wish) (numbers : List ℕ) (i : ℕ) (old new : List Wish) (w : Wish) → i < length numbers → old ≡ map f (take i numbers) → new ≡ old ++ w ∷ [] → w ≡ f (get_or numbers i 0) → new ≡ map f (take (i + 1) numbers)
wishes_step f numbers i old new w h a b e =
    b
    ∙ (λ j. a j ++ e j ∷ [])
    ∙ sym (map-append f (take i numbers) (get_or numbers i 0 ∷ []))
    ∙ ap (map f) (sym (take_more numbers i 0 h))

pub filled_push : (ws : List Wish) (w : Wish) → AreFilled ws → IsFilled w.column → IsFilled w.row → AreFilled (ws ++ w ∷ [])
filled_push [] w h c r = ((c, r), tt)
filled_push (v ∷ vs) w h c r = (h.0, filled_push vs w h.1 c r)

-- the automatic span of a grid by its name sets, of which a template that is no subgrid has none
pub span_of_sets : (t : Template) → max 1 (length (subgrid_sets t) - 1) ≡ rules.automatic_span true t
span_of_sets template.Absent = refl
span_of_sets (template.Tracks l) = refl
span_of_sets (template.Subgrid sets) = refl

pub few_sets : (t : Template) → IsTemplate t → length (subgrid_sets t) ≤ 20001
few_sets template.Absent h = omega arith
few_sets (template.Tracks l) h = omega arith
few_sets (template.Subgrid sets) h = h

-- Name sets for a track at most, or for none, tell the span of a child of any kind.
pub span_of_few : (is_grid : Bool) (t : Template) → length (subgrid_sets t) ≤ 2 → 1 ≡ rules.automatic_span is_grid t
span_of_few false t h = refl
span_of_few true template.Absent h = refl
span_of_few true (template.Tracks l) h = refl
span_of_few true (template.Subgrid []) h = refl
span_of_few true (template.Subgrid (x ∷ [])) h = refl
span_of_few true (template.Subgrid (x ∷ y ∷ [])) h = refl
span_of_few true (template.Subgrid (x ∷ y ∷ z ∷ rest)) h = absurd (omega (arith, h))

pub span_of_other : (is_grid : Bool) (t : Template) → is_grid ≡ false → 1 ≡ rules.automatic_span is_grid t
span_of_other is_grid t e = ap (λ x. rules.automatic_span x t) (sym e)

pub span_of_grid : (is_grid : Bool) (t : Template) (n : ℕ) → is_grid ≡ true → n ≡ max 1 (length (subgrid_sets t) - 1) → n ≡ rules.automatic_span is_grid t
span_of_grid is_grid t n e h = h ∙ span_of_sets t ∙ ap (λ x. rules.automatic_span x t) (sym e)

pub ruleset span_laws = (span_of_few, span_of_other, span_of_grid, few_sets)

pub orders_step : (kids rest : List Kid) (i : ℕ) (old new all : List ℤ) (kid : Kid) (x : ℤ) → old ++ map (λ (k : Kid). k.label.grid.order) (drop i kids) ≡ all → drop i kids ≡ kid ∷ rest → new ≡ old ++ x ∷ [] → x ≡ kid.label.grid.order
    → new ++ map (λ (k : Kid). k.label.grid.order) rest ≡ all
orders_step kids rest i old new all kid x h e n same =
    (λ j. (n ∙ ap (λ y. old ++ y ∷ []) same) j ++ map (λ (k : Kid). k.label.grid.order) rest)
    ∙ append_assoc old (kid.label.grid.order ∷ []) (map (λ (k : Kid). k.label.grid.order) rest)
    ∙ ap (λ l. old ++ map (λ (k : Kid). k.label.grid.order) l) (sym e)
    ∙ h

pub orders_count : (kids : List Kid) (orders : List ℤ) → orders ≡ map (λ (k : Kid). k.label.grid.order) kids → length orders ≡ length kids
orders_count kids orders e = ap length e ∙ length-map kids (λ (k : Kid). k.label.grid.order)

pub all_below : (kids : List Kid) (orders : List ℤ) (numbers : List ℕ) → orders ≡ map (λ (k : Kid). k.label.grid.order) kids → All (λ n. n < length orders) numbers → All (λ n. n < length kids) numbers
all_below kids orders numbers e h = subst (λ m. All (λ n. n < m) numbers) (orders_count kids orders e) h

-- numbers of as many items
pub all_within : {k n : ℕ} (numbers seen : List ℕ) → seen ≡ numbers → k ≡ n → All (λ x. x < n) numbers → All (λ x. x < k) seen
all_within {k} {n} numbers seen e count h = subst (λ m. All (λ x. x < m) seen) (sym count) (subst (All (λ x. x < n)) (sym e) h)

pub ruleset wish_laws = (sibling_there)
