-- The frames of the children of a flex container name each child once, in document order.
use Rattle.std.proofs.Common.{arith, ap, ◌≡◌, ◌∙◌, sym, refl, ℕ, suc, ◌+◌, ◌*◌, ℤ, pos, ◌+ℤ◌, ◌-ℤ◌, Bool, true, false, List, [], ◌∷◌, ◌++◌, length, map, Option, Some}
use Rattle.std.specs.Prelude.{slice_range}
use Rattle.std.proofs.lemmas.List.{length-map, map-append}
use Rattle.node_arena.specs.declared.number.NodeId.{NodeId}
use Rattle.part_rules.specs.declared.flex.FlexItem.{FlexItem}
use Rattle.part_rules.specs.FlexLines.{gaps, line_margins}
use Rattle.part_rules.specs.Lists.{joined, sum_of, zipped}
use Rattle.placing.proofs.Numbers.{map_sorted}
use Rattle.placing.specs.Kept.{frame_of}
use Rattle.placing.specs.declared.node.Frame.{Frame}
use Rattle.tree_rules.proofs.Lengths.{length_crosses, length_in_order, length_main_sizes, length_margins, slices, slices_all}
use Rattle.tree_rules.proofs.Sorted.{back_in_order}
use Rattle.tree_rules.specs.Answers.{Kid}
use Rattle.tree_rules.specs.FlexSizes as rules
use Rattle.tree_rules.specs.Frames as frames
use Rattle.tree_rules.specs.Frames.{LineAt, auto_margins, flex_child}
use Rattle.tree_rules.specs.Labels.{Label}
use Rattle.tree_rules.specs.NodeSizes.{margin, margins, stretches}
use Rattle.tree_rules.specs.Orders.{in_order, numbered_from, sorted_by}
use Rattle.tree_rules.specs.Repetitions.{gap_by}
use Rattle.box_layout.specs.FlexFrames.{flex_told}
use Rattle.box_layout.specs.Sittings.{flex_numbered, framed_child}

abbrev Told : Type 0
Told = ℕ × frames.Framed

-- ---- line by line

first_is : (column : Bool) (x : Label) (cross : ℤ) (l : LineAt) (start : ℤ) (s : frames.Sitting) → (flex_child column x cross l start s).0 ≡ s.settled.member.number
first_is true x cross l start s = refl
first_is false x cross l start s = refl

along_places : (column : Bool) (x : Label) (cross : ℤ) (l : LineAt) (moved : ℕ → ℤ) (gap : ℤ) (k : ℕ) (at : ℤ) (taken : List ℤ) (line : List frames.Sitting) → length taken ≡ 2 * length line
    → map (λ (e : Told). e.0) (frames.along_line column x cross l moved gap k at taken line) ≡ map (λ (s : frames.Sitting). s.settled.member.number) line
along_places column x cross l moved gap k at [] [] h = refl
along_places column x cross l moved gap k at [] (s ∷ rest) h = absurd (omega (arith, h))
along_places column x cross l moved gap k at (t ∷ []) line h = absurd (omega (arith, h))
along_places column x cross l moved gap k at (t ∷ u ∷ taken) [] h = absurd (omega (arith, h))
along_places column x cross l moved gap k at (t ∷ u ∷ taken) (s ∷ rest) h =
    let g = rules.main_grid column s.settled.member.kid.label in
    let start = at +ℤ moved k +ℤ margin g.margin_start +ℤ t in
    let next = at +ℤ t +ℤ u +ℤ s.main +ℤ margins g +ℤ gap in
    ap (λ n. n ∷ map (λ (e : Told). e.0) (frames.along_line column x cross l moved gap (k + 1) next taken rest)) (first_is column x cross l start s)
    ∙ ap (λ ns. s.settled.member.number ∷ ns) (along_places column x cross l moved gap (k + 1) next taken rest (omega (arith, h)))

autos_count : (column : Bool) (line : List frames.Sitting) → length (joined (map (λ (s : frames.Sitting). auto_margins (rules.main_grid column s.settled.member.kid.label)) line)) ≡ 2 * length line
autos_count column [] = refl
autos_count column (s ∷ rest) = omega (arith, autos_count column rest)

line_places : (column : Bool) (x : Label) (main cross gap : ℤ) (l : LineAt) (line : List frames.Sitting) → map (λ (e : Told). e.0) (frames.line_framed column x main cross gap l line) ≡ map (λ (s : frames.Sitting). s.settled.member.number) line
line_places column x main cross gap l line =
    let rest = main -ℤ gaps gap (length line) -ℤ sum_of (map (λ (s : frames.Sitting). s.main +ℤ margins (rules.main_grid column s.settled.member.kid.label)) line) in
    let autos : List Bool = joined (map (λ (s : frames.Sitting). auto_margins (rules.main_grid column s.settled.member.kid.label)) line) in
    along_places column x cross l _ gap 0 (pos 0) (line_margins rest autos) line (length_margins rest autos ∙ autos_count column line)

lines_places : (column : Bool) (x : Label) (main cross gap between : ℤ) (moved : ℕ → ℤ) (k : ℕ) (at : ℤ) (sizes : List ℤ) (ranges : List (ℕ × ℕ)) (all : List frames.Sitting) → length sizes ≡ length ranges
    → map (λ (e : Told). e.0) (frames.lines_framed column x main cross gap between moved k at sizes ranges all) ≡ map (λ (s : frames.Sitting). s.settled.member.number) (slices all ranges)
lines_places column x main cross gap between moved k at [] [] all h = refl
lines_places column x main cross gap between moved k at [] (r ∷ ranges) all h = absurd (omega (arith, h))
lines_places column x main cross gap between moved k at (z ∷ sizes) [] all h = absurd (omega (arith, h))
lines_places column x main cross gap between moved k at (z ∷ sizes) (r ∷ ranges) all h =
    let l : LineAt = record { at = at +ℤ moved k; size = z } in
    let line : List frames.Sitting = slice_range all r.0 r.1 in
    let later : List Told = frames.lines_framed column x main cross gap between moved (k + 1) (at +ℤ z +ℤ between) sizes ranges all in
    map-append (λ (e : Told). e.0) (frames.line_framed column x main cross gap l line) later
    ∙ ap (λ ns. ns ++ map (λ (e : Told). e.0) later) (line_places column x main cross gap l line)
    ∙ ap (λ ns. map (λ (s : frames.Sitting). s.settled.member.number) line ++ ns) (lines_places column x main cross gap between moved (k + 1) (at +ℤ z +ℤ between) sizes ranges all (omega (arith, h)))
    ∙ sym (map-append (λ (s : frames.Sitting). s.settled.member.number) line (slices all ranges))

-- ---- in document order

children_of : (child : ℕ → NodeId) (told : List Told) → map (λ (f : Frame). f.child) (map (framed_child child) told) ≡ map child (map (λ (e : Told). e.0) told)
children_of child [] = refl
children_of child (e ∷ told) = ap (λ cs. child e.0 ∷ cs) (children_of child told)

sorted_places : {A : Type 0} → (es : List (ℕ × A)) → map (λ (e : ℕ × A). e.0) (sorted_by (λ (e : ℕ × A). pos e.0) es) ≡ sorted_by (λ (n : ℕ). pos n) (map (λ (e : ℕ × A). e.0) es)
sorted_places {A} es = sym (map_sorted (λ (e : ℕ × A). e.0) (λ (e : ℕ × A). pos e.0) (λ (n : ℕ). pos n) (λ e. refl) es)

sitting_places : (column : Bool) (cross : Option ℤ) (members : List rules.Member) (boxes mains : List ℤ) → length boxes ≡ length members → length mains ≡ length members
    → map (λ (s : frames.Sitting). s.settled.member.number) (zipped (frames.sitting_of column cross) (zipped rules.settled_at members boxes) mains) ≡ map (λ (m : rules.Member). m.number) members
sitting_places column cross [] boxes mains h k = refl
sitting_places column cross (m ∷ members) [] mains h k = absurd (omega (arith, h))
sitting_places column cross (m ∷ members) (x ∷ boxes) [] h k = absurd (omega (arith, k))
sitting_places column cross (m ∷ members) (x ∷ boxes) (z ∷ mains) h k = ap (λ ns. m.number ∷ ns) (sitting_places column cross members boxes mains (omega (arith, h)) (omega (arith, k)))

member_places : (es : List (ℕ × Kid)) → map (λ (m : rules.Member). m.number) (map rules.member_of es) ≡ map (λ (e : ℕ × Kid). e.0) es
member_places [] = refl
member_places (e ∷ es) = ap (λ ns. e.0 ∷ ns) (member_places es)

count_zipped : {A B C : Type 0} → (f : A → B → C) (xs : List A) (ys : List B) → length ys ≡ length xs → length (zipped f xs ys) ≡ length xs
count_zipped f [] ys h = refl
count_zipped f (x ∷ xs) [] h = omega (arith, h)
count_zipped f (x ∷ xs) (y ∷ ys) h = ap suc (count_zipped f xs ys (omega (arith, h)))

-- the children of the frames are those of the numbers from 0 on
pub told_children : (child : ℕ → NodeId) (column : Bool) (x : Label) (kids : List Kid) (main cross gap : ℤ) (items : List FlexItem) (boxes : List ℤ) → length items ≡ length kids → length boxes ≡ length kids
    → map (λ (f : Frame). f.child) (flex_told child column (rules.flex_by x kids) main cross (rules.lines_by x main gap items) (zipped rules.settled_at (rules.flex_by x kids).members boxes)) ≡ map child (map (λ (e : ℕ × Kid). e.0) (numbered_from 0 kids))
told_children child column x kids main cross gap items boxes h k =
    let order : Kid → ℤ = λ y. y.label.grid.order in
    let f : rules.Flex = rules.flex_by x kids in
    let lines : rules.Lines = rules.lines_by x main gap items in
    let settled : List rules.Settled = zipped rules.settled_at f.members boxes in
    let all : List frames.Sitting = zipped (frames.sitting_of column (Some cross)) settled lines.mains in
    let sizes : List ℤ = rules.crosses_of column x settled lines.ranges (Some cross) in
    let told : List Told = flex_numbered column x main cross sizes lines.ranges all in
    let count : length f.members ≡ length kids = length-map (in_order order kids) rules.member_of ∙ length_in_order order kids in
    let boxed : length boxes ≡ length f.members = k ∙ sym count in
    let mains_count : length lines.mains ≡ length items = length_main_sizes main gap x.content.wrap items in
    let mained : length lines.mains ≡ length f.members = mains_count ∙ h ∙ sym count in
    let settled_all : length settled ≡ length f.members = count_zipped rules.settled_at f.members boxes boxed in
    let all_count : length all ≡ length items = count_zipped (frames.sitting_of column (Some cross)) settled lines.mains (mained ∙ sym settled_all) ∙ settled_all ∙ count ∙ sym h in
    let same : length sizes ≡ length lines.ranges =
    length_crosses (map (rules.outer_cross column (Some cross)) settled) lines.ranges (Some cross) (gap_by (Some cross) (pos 0) (rules.cross_grid column x).gap) x.content.wrap (stretches x.content.block.distribution.mode) in
    let places : map (λ (e : Told). e.0) told ≡ map (λ (e : ℕ × Kid). e.0) (in_order order kids) =
    lines_places column x main cross _ _ _ 0 (pos 0) sizes lines.ranges all same
    ∙ ap (map (λ (s : frames.Sitting). s.settled.member.number)) (slices_all all main gap x.content.wrap items all_count)
    ∙ sitting_places column (Some cross) f.members boxes lines.mains boxed mained
    ∙ member_places (in_order order kids) in
    children_of child (sorted_by (λ (e : Told). pos e.0) told)
    ∙ ap (map child) (sorted_places told ∙ ap (sorted_by (λ (n : ℕ). pos n)) places ∙ sym (sorted_places (in_order order kids)) ∙ ap (map (λ (e : ℕ × Kid). e.0)) (back_in_order order kids))

-- ---- the frames of the definitions

plain_frames : (child : ℕ → NodeId) (told : List Told) → map frame_of (map (framed_child child) told) ≡ map (λ (f : frames.Framed). f.frame) (map (λ (e : Told). e.1) told)
plain_frames child [] = refl
plain_frames child (e ∷ told) = ap (λ fs. e.1.frame ∷ fs) (plain_frames child told)

-- without the numbers of the children they are those of the definition
pub told_frames : (child : ℕ → NodeId) (column : Bool) (f : rules.Flex) (main cross : ℤ) (lines : rules.Lines) (settled : List rules.Settled)
    → map frame_of (flex_told child column f main cross lines settled) ≡ map (λ (g : frames.Framed). g.frame) (frames.flex_framed column f main cross lines settled)
told_frames child column f main cross lines settled =
    let sizes : List ℤ = rules.crosses_of column f.label settled lines.ranges (Some cross) in
    let all : List frames.Sitting = zipped (frames.sitting_of column (Some cross)) settled lines.mains in
    plain_frames child (sorted_by (λ (e : Told). pos e.0) (flex_numbered column f.label main cross sizes lines.ranges all))
