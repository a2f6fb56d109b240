-- Declared sizes, and repetitions that are counted against them.
use Rattle.std.proofs.Common.{arith, rules, refl, sym, ap, subst, ◌∙◌, ◌≡◌, ℕ, suc, ◌*◌, ◌/◌, ◌<◌, ℤ, pos, negsuc, ◌+ℤ◌, ◌-ℤ◌, ◌*ℤ◌, ◌≤ℤ◌, true, ◌&&◌, List, [], ◌∷◌, length, map, Option, Some, None}
use Rattle.std.specs.Prelude.{int_le}
use Rattle.std.specs.Int.{int_max, int_min}
use Rattle.std.specs.Option.{unwrap_or}
use Rattle.std.proofs.lemmas.Int.{ints, int_max_is, int_min_is}
use Rattle.lunit.specs.Units.{IsUnits, bottom, clamp, floor_div, percent, top}
use Rattle.line_names.specs.Repeats.{are_counted}
use Rattle.part_rules.specs.Repetition.{counted, repetitions, repetitions_by_division}
use Rattle.part_rules.specs.declared.names.RepeatSpace.{RepeatSpace}
use Rattle.part_rules.proofs.Repeats.{by_division}
use Rattle.style_types.specs.declared.track.Template.{Template}
use Rattle.style_types.specs.declared.track.Template.TheVariants as template
use Rattle.style_types.specs.declared.track.TrackFn.{TrackFn}
use Rattle.style_types.specs.declared.track.TrackList.{TrackList}
use Rattle.style_types.specs.declared.value.Size.{Size}
use Rattle.style_types.specs.declared.value.Size.TheVariants as size
use Rattle.tree_rules.specs.Labels.{GridAxis}
use Rattle.tree_rules.specs.Repetitions.{counted_breadth, counted_track, gap_by, list_count, template_count}
use Rattle.placing.specs.Axes.{listed}
use Rattle.placing.specs.Counted.{IsInner, IsTwoEdges}
use Rattle.placing.specs.Ranges.{IsEdge, IsSize}

-- ---- borders and paddings

pub edge_is : (x y : ℤ) → x ≡ y → IsEdge y → IsEdge x
edge_is x y e h = subst IsEdge (sym e) h

pub edge_sum : (a b : ℤ) → IsEdge a → IsEdge b → IsUnits (a +ℤ b)
edge_sum a b h k = (omega (arith, ints, h.low, k.low), omega (arith, ints, h.high, k.high))

pub edges_range : (r a b : ℤ) → r ≡ a +ℤ b → IsEdge a → IsEdge b → IsTwoEdges r
edges_range r a b e h k = record { low = omega (arith, ints, e, h.low, k.low); high = omega (arith, ints, e, h.high, k.high) }

pub inner_sum : (a b : ℤ) → IsTwoEdges a → IsTwoEdges b → IsUnits (a +ℤ b)
inner_sum a b h k = (omega (arith, ints, h.low, k.low), omega (arith, ints, h.high, k.high))

pub inner_range : (r a b : ℤ) → r ≡ a +ℤ b → IsTwoEdges a → IsTwoEdges b → IsInner r
inner_range r a b e h k = record { low = omega (arith, ints, e, h.low, k.low); high = omega (arith, ints, e, h.high, k.high) }

-- ---- declared sizes

pub border_sum : (inner size : ℤ) → IsInner inner → IsEdge size → IsUnits (size +ℤ inner)
border_sum inner size h k = (omega (arith, ints, h.low, k.low), omega (arith, ints, h.high, k.high))

pub border_around : (r inner size : ℤ) → r ≡ size +ℤ inner → IsEdge size → inner ≤ℤ r
border_around r inner size e k = omega (arith, ints, e, k.low)

pub border_above : (r inner size : ℤ) → r ≡ int_max size inner → inner ≤ℤ r
border_above r inner size e = omega (arith, ints, e, int_max_is size inner)

-- ---- rooms

pub room_units : (inner x : ℤ) → pos 0 ≤ℤ inner → inner ≤ℤ x → x ≤ℤ top → IsUnits (x -ℤ inner)
room_units inner x h k m = (omega (arith, ints), omega (arith, ints))

pub above_both : (inner x : ℤ) → inner ≤ℤ int_max inner x
above_both inner x = omega (arith, ints, int_max_is inner x)

pub above_first : (inner x y : ℤ) → inner ≤ℤ x → inner ≤ℤ int_max x y
above_first inner x y h = omega (arith, ints, int_max_is x y)

-- ---- counted lengths

clamp_low : (z : ℤ) → pos 0 ≤ℤ z → pos 0 ≤ℤ clamp z
unfolding clamp
clamp_low z h = omega (arith, ints, h, int_max_is bottom (int_min top z), int_min_is top z)

floor_low : (r d : ℕ) → floor_div (pos r) d ≡ pos (r / d)
unfolding floor_div
floor_low r d = refl

product : (n t : ℕ) → pos n *ℤ pos t ≡ pos (n * t)
product n t = omega (arith, ints)

percent_low : (x : ℤ) (t : ℕ) → pos 0 ≤ℤ x → pos 0 ≤ℤ percent x t
percent_low (pos n) t h =
    let exact : floor_div (pos n *ℤ pos t) 100000 ≡ pos (n * t / 100000) = ap (λ (z : ℤ). floor_div z 100000) (product n t) ∙ floor_low (n * t) 100000 in
    clamp_low (floor_div (pos n *ℤ pos t) 100000) (subst (λ (z : ℤ). pos 0 ≤ℤ z) (sym exact) (omega (arith, ints)))
percent_low (negsuc n) t h = absurd (omega (arith, ints, h))

-- no gap is below 0
pub gap_low : (r x n : ℤ) (s : Size) → r ≡ gap_by (Some x) n s → n ≡ pos 0 → IsSize s → pos 0 ≤ℤ x → pos 0 ≤ℤ r
gap_low r x n s e z h k = subst (λ (y : ℤ). pos 0 ≤ℤ y) (sym (e ∙ ap (λ (m : ℤ). gap_by (Some x) m s) z)) (low x s h k)
  where
    low : (x : ℤ) (s : Size) → IsSize s → pos 0 ≤ℤ x → pos 0 ≤ℤ gap_by (Some x) (pos 0) s
    low x size.Auto h k = omega (arith, ints)
    low x size.Absent h k = omega (arith, ints)
    low x size.Normal h k = omega (arith, ints)
    low x size.Content h k = omega (arith, ints)
    low x (size.Length y) h k = h.low
    low x (size.Percent t) h k = percent_low x t k

at_least_px : (y : ℤ) → int_le (pos 64) (int_max (pos 64) y) ≡ true
at_least_px y = let low : pos 64 ≤ℤ int_max (pos 64) y = omega (arith, ints, int_max_is (pos 64) y) in test (pos 64) (int_max (pos 64) y) low
  where
    test : (a b : ℤ) → a ≤ℤ b → int_le a b ≡ true
    test a b h = search rules

one_counted : (least most : Option ℤ) → int_le (pos 64) (counted least most) ≡ true
one_counted least None = at_least_px (unwrap_or least (pos 0))
one_counted least (Some m) = at_least_px (int_max (unwrap_or least m) m)

pub all_counted : (x : ℤ) (fs : List TrackFn) → are_counted (map (counted_track x) fs) ≡ true
all_counted x [] = refl
all_counted x (f ∷ fs) = ap (λ b. b && are_counted (map (counted_track x) fs)) (one_counted (counted_breadth x f.least) (counted_breadth x f.most)) ∙ all_counted x fs

pub counted_list : (x : ℤ) (fs : List TrackFn) (ls ms : List ℤ) → ls ≡ ms → ms ≡ map (counted_track x) fs → are_counted ls ≡ true
counted_list x fs ls ms e f = ap are_counted (e ∙ f) ∙ all_counted x fs

length_map : {A B : Type 0} → (f : A → B) (xs : List A) → length (map f xs) ≡ length xs
length_map f [] = refl
length_map f (x ∷ xs) = ap suc (length_map f xs)

pub some_counted : (x : ℤ) (fs : List TrackFn) (ls ms : List ℤ) → ls ≡ ms → ms ≡ map (counted_track x) fs → 0 < length fs → 0 < length ls
some_counted x fs ls ms e f h = omega (arith, ap length e, ap length f, length_map (counted_track x) fs)

-- the number that is counted is the one by division
pub counts_are : (x gap g : ℤ) (fs rs : List TrackFn) (ls ms las mas : List ℤ) (space : RepeatSpace) → las ≡ ls → ls ≡ map (counted_track x) fs → mas ≡ ms → ms ≡ map (counted_track x) rs → gap ≡ g →
    repetitions las mas gap space ≡ repetitions_by_division (map (counted_track x) fs) (map (counted_track x) rs) g space
counts_are x gap g fs rs ls ms las mas space a e b f h =
    ap (λ (xs : List ℤ). repetitions xs mas gap space) (a ∙ e)
    ∙ ap (λ (xs : List ℤ). repetitions (map (counted_track x) fs) xs gap space) (b ∙ f)
    ∙ ap (λ (z : ℤ). repetitions (map (counted_track x) fs) (map (counted_track x) rs) z space) h
    ∙ sym (by_division (map (counted_track x) fs) (map (counted_track x) rs) g space)

-- ---- templates

pub count_list : (g : GridAxis) (t : Template) (l : TrackList) (space : RepeatSpace) → Some l ≡ listed t → template_count g t space ≡ list_count g l.sizes l.repeat space
count_list g template.Absent l space h = absurd (cc)
count_list g (template.Tracks k) l space h = let e : l ≡ k = (cc) in ap (λ (x : TrackList). list_count g x.sizes x.repeat space) (sym e)
count_list g (template.Subgrid sets) l space h = absurd (cc)

pub count_none : (g : GridAxis) (t : Template) (space : RepeatSpace) → None ≡ listed t → template_count g t space ≡ 1
count_none g template.Absent space h = refl
count_none g (template.Tracks k) space h = absurd (cc)
count_none g (template.Subgrid sets) space h = refl

pub ruleset edges = (edge_is)

pub ruleset edge_sums = (edge_sum, edges_range)

pub ruleset inner_sums = (inner_sum, inner_range)

pub ruleset border_sums = (border_sum, border_around, border_above)

pub ruleset rooms = (room_units, above_both, above_first)

pub ruleset counted_templates = (count_list, count_none)
