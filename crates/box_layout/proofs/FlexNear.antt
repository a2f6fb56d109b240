-- The children of a flex container of the definitions stand near it, and what they are given is near.
use Rattle.std.proofs.Common.{arith, ◌≡◌, ◌∙◌, ℕ, ◌+◌, ◌-◌, ◌^◌, ◌≤◌, ℤ, pos, ◌+ℤ◌, ◌-ℤ◌, Bool, true, false, not, ◌&&◌, List, [], ◌∷◌, length, map, Option, Some, None, if◌then◌else◌}
use Rattle.std.specs.Ordering.{int_eq}
use Rattle.std.specs.Prelude.{slice_range}
use Rattle.std.proofs.lemmas.Int.{ints, int_max_is}
use Rattle.std.proofs.lemmas.List.{length-map}
use Rattle.lunit.specs.Units.{IsUnits, clamp}
use Rattle.part_rules.specs.declared.flex.FlexItem.{FlexItem}
use Rattle.part_rules.specs.Alignment.{content_moved}
use Rattle.part_rules.specs.FlexLines.{cross_rest, gaps, line_crosses, line_margins, own_cross, stretched_lines}
use Rattle.part_rules.specs.Lists.{greatest_with, joined, sum_of, zipped}
use Rattle.part_rules.specs.Sharing.{shares}
use Rattle.inline_sizes.proofs.FineContexts.{each_in_order}
use Rattle.placing.proofs.Each.{Each}
use Rattle.placing.proofs.Numbers.{each_sorted}
use Rattle.placing.specs.Ranges.{IsGridStyle}
use Rattle.style_types.specs.declared.value.Align.{Align}
use Rattle.tree_rules.proofs.Lengths.{length_crosses, length_in_order}
use Rattle.tree_rules.specs.Answers.{Kid}
use Rattle.tree_rules.specs.Distribution.{is_safe, mode_of}
use Rattle.tree_rules.specs.FlexSizes as rules
use Rattle.tree_rules.specs.Frames as frames
use Rattle.tree_rules.specs.Labels.{Label}
use Rattle.tree_rules.specs.NodeSizes.{Bounds, bounds_of, fitted, inner, margin, margins, stretches}
use Rattle.tree_rules.specs.Orders.{in_order, sorted_by}
use Rattle.tree_rules.specs.Repetitions.{gap_by}
use Rattle.tree_rules.specs.declared.query.Given.{Given}
use Rattle.box_layout.proofs.ColumnAlike.{ranges_few}
use Rattle.box_layout.proofs.Everywhere.{each_append, each_slice}
use Rattle.box_layout.proofs.GridNear.{block_units, content_units, inline_units, told_stand}
use Rattle.box_layout.proofs.Near.{chosen_units, clamped_units, flex_near}
use Rattle.box_layout.specs.Near.{AreSized, AreUnits, IsSized, StandNear}
use Rattle.box_layout.specs.Ranges.{IsWithin}
use Rattle.box_layout.specs.Sittings.{flex_numbered}
use Rattle.box_layout.specs.Stands.{IsGivenNear, StandBelow, StandsBelow, farthest_child}

-- ---- children whose sizes are lengths

-- a child of a row or of a column
record IsFit (column : Bool) (s : rules.Settled) : Type 0 where
  grid : IsGridStyle s.member.kid.label.grid
  inline : (level : ℕ) → IsGivenNear level s.inline
  cross : (cross : ℤ) → IsUnits (rules.cross_box column (Some cross) s)

abbrev IsStyled : rules.Member → Type 0
IsStyled m = IsGridStyle m.kid.label.grid

settled_fit : (m : rules.Member) (box : ℤ) (level : ℕ) → IsGivenNear level (rules.settled_at m box).inline
settled_fit m box level =
    let x : Label = m.kid.label in
    content_units (bounds_of None x.content.border_box x.grid.columns x.content.inline).inner box

row_fit : (m : rules.Member) (box : ℤ) → IsStyled m → IsFit false (rules.settled_at m box)
row_fit m box style = record {
  grid = style;
  inline = settled_fit m box;
  cross = λ cross. let x : Label = m.kid.label in block_units (bounds_of (Some cross) x.content.border_box x.grid.rows x.content.block) false (pos 0) (pos 0) (rules.settled_at m box).down.block;
}

column_fit : (m : rules.Member) (box : ℤ) → IsStyled m → IsUnits box → IsFit true (rules.settled_at m box)
column_fit m box style units = record { grid = style; inline = settled_fit m box; cross = λ cross. units }

rows_fit : (members : List rules.Member) (mains : List ℤ) → Each IsStyled members → Each (IsFit false) (zipped rules.settled_at members mains)
rows_fit [] mains h = tt
rows_fit (m ∷ members) [] h = tt
rows_fit (m ∷ members) (z ∷ mains) h = (row_fit m z h.0, rows_fit members mains h.1)

columns_fit : (container : Label) (width : ℤ) (members : List rules.Member) → Each IsStyled members → Each (IsFit true) (map (λ (m : rules.Member). rules.settled_at m (rules.column_box container width m)) members)
columns_fit container width [] h = tt
columns_fit container width (m ∷ members) h =
    let x : Label = m.kid.label in
    let b : Bounds = bounds_of (Some width) x.content.border_box x.grid.columns x.content.inline in
    let units : IsUnits (rules.column_box container width m) = inline_units b (not container.content.wrap && rules.is_stretched_across true container x) (margins x.grid.columns) width m.inline in
    (column_fit m (rules.column_box container width m) h.0 units, columns_fit container width members h.1)

-- ---- with their places in their lines

-- a child in its line, of a container of this level
record IsSat (level : ℕ) (s : frames.Sitting) : Type 0 where
  sized : IsSized s
  inline : IsGivenNear level s.settled.inline

sitting_sat : (level : ℕ) (column : Bool) (cross : ℤ) (s : rules.Settled) (main : ℤ) → IsFit column s → IsSat level (frames.sitting_of column (Some cross) s main)
sitting_sat level column cross s main h = record { sized = record { main = clamped_units main; cross = h.cross cross; grid = h.grid }; inline = h.inline level }

sittings_sat : (level : ℕ) (column : Bool) (cross : ℤ) (settled : List rules.Settled) (mains : List ℤ) → Each (IsFit column) settled → Each (IsSat level) (zipped (frames.sitting_of column (Some cross)) settled mains)
sittings_sat level column cross [] mains h = tt
sittings_sat level column cross (s ∷ settled) [] h = tt
sittings_sat level column cross (s ∷ settled) (z ∷ mains) h = (sitting_sat level column cross s z h.0, sittings_sat level column cross settled mains h.1)

all_sized : (level : ℕ) (all : List frames.Sitting) → Each (IsSat level) all → AreSized all
all_sized level [] h = tt
all_sized level (s ∷ rest) h = (h.0.sized, all_sized level rest h.1)

zipped_few : {A B C : Type 0} (f : A → B → C) (xs : List A) (ys : List B) → length (zipped f xs ys) ≤ length xs
zipped_few f [] ys = omega arith
zipped_few f (x ∷ xs) [] = omega arith
zipped_few f (x ∷ xs) (y ∷ ys) = omega (arith, zipped_few f xs ys)

-- ---- the cross sizes of lines

greatest_units : (z : ℤ) (xs : List ℤ) → IsUnits z → Each IsUnits xs → IsUnits (greatest_with z xs)
greatest_units z [] h k = h
greatest_units z (x ∷ xs) h k =
    let later = greatest_units z xs h k.1 in
    (omega (arith, ints, int_max_is x (greatest_with z xs), k.0.0, later.0), omega (arith, ints, int_max_is x (greatest_with z xs), k.0.1, later.1))

outers_units : (column : Bool) (cross : Option ℤ) (settled : List rules.Settled) → Each IsUnits (map (rules.outer_cross column cross) settled)
outers_units column cross [] = tt
outers_units column cross (s ∷ settled) = (clamped_units (rules.cross_box column cross s +ℤ margins (rules.cross_grid column s.member.kid.label)), outers_units column cross settled)

own_units : (outers : List ℤ) (cross : ℤ) (wrap : Bool) (range : ℕ × ℕ) → Each IsUnits outers → IsUnits (own_cross outers (Some cross) wrap range)
own_units outers cross false range h = clamped_units cross
own_units outers cross true range h = greatest_units (pos 0) (slice_range outers range.0 range.1) (omega (arith, ints), omega (arith, ints)) (each_slice IsUnits range.0 (range.1 - range.0) outers h)

owns_units : (outers : List ℤ) (cross : ℤ) (wrap : Bool) (ranges : List (ℕ × ℕ)) → Each IsUnits outers → AreUnits (map (own_cross outers (Some cross) wrap) ranges)
owns_units outers cross wrap [] h = tt
owns_units outers cross wrap (r ∷ ranges) h = (own_units outers cross wrap r h, owns_units outers cross wrap ranges h)

shared_units : (sizes parts : List ℤ) → AreUnits (zipped (λ size share. clamp (size +ℤ share)) sizes parts)
shared_units [] parts = tt
shared_units (z ∷ sizes) [] = tt
shared_units (z ∷ sizes) (p ∷ parts) = (clamped_units (z +ℤ p), shared_units sizes parts)

stretched_units : (cross gap : ℤ) (stretch : Bool) (sizes : List ℤ) → AreUnits sizes → AreUnits (stretched_lines (Some cross) gap stretch sizes)
stretched_units cross gap true sizes h = shared_units sizes (shares (cross_rest cross gap sizes) (map (λ (size : ℤ). let none : Option ℤ = None in none) sizes))
stretched_units cross gap false sizes h = h

crosses_units : (outers : List ℤ) (ranges : List (ℕ × ℕ)) (cross gap : ℤ) (wrap stretch : Bool) → Each IsUnits outers → AreUnits (line_crosses outers ranges (Some cross) gap wrap stretch)
crosses_units outers ranges cross gap wrap stretch h = stretched_units cross gap (wrap && stretch) (map (own_cross outers (Some cross) wrap) ranges) (owns_units outers cross wrap ranges h)

-- ---- what each child is given

-- the size of its border box, and what it is given
record IsTold (level : ℕ) (f : frames.Framed) : Type 0 where
  width : IsUnits f.frame.rect.width
  height : IsUnits f.frame.rect.height
  inline : IsGivenNear (level + 1) f.frame.inline
  block : IsGivenNear (level + 1) f.frame.block

abbrev AreTold : ℕ → List (ℕ × frames.Framed) → Type 0
AreTold level xs = Each (λ (e : ℕ × frames.Framed). IsTold level e.1) xs

across_units : (column : Bool) (x : Label) (cross : ℤ) (l : frames.LineAt) (s : frames.Sitting) → IsUnits s.cross → IsUnits (frames.size_across column x cross l s)
across_units column x cross l s h =
    let y : Label = s.settled.member.kid.label in
    let b : Bounds = bounds_of (Some cross) y.content.border_box (rules.cross_grid column y) (rules.cross_content column y) in
    chosen_units (rules.is_stretched_across column x y) (clamp (fitted b (l.size -ℤ margins (rules.cross_grid column y)))) s.cross (clamped_units (fitted b (l.size -ℤ margins (rules.cross_grid column y)))) h

across_given : (level : ℕ) (s : rules.Settled) (box : ℤ) (b : Bool) → IsGivenNear level s.inline → IsGivenNear level (if b then s else rules.settled_at s.member box).inline
across_given level s box true h = h
across_given level s box false h = settled_fit s.member box level

child_told : (level : ℕ) (column : Bool) (x : Label) (cross : ℤ) (l : frames.LineAt) (at : ℤ) (s : frames.Sitting) → IsSat (level + 1) s → IsTold level (frames.flex_child column x cross l at s).1
child_told level true x cross l at s sat =
    let y : Label = s.settled.member.kid.label in
    let box : ℤ = frames.size_across true x cross l s in
    record {
      width = across_units true x cross l s sat.sized.cross;
      height = sat.sized.main;
      inline = across_given (level + 1) s.settled box (int_eq s.settled.box box) sat.inline;
      block = content_units (inner y.grid.rows) s.main;
    }
child_told level false x cross l at s sat =
    let y : Label = s.settled.member.kid.label in
    let box : ℤ = frames.size_across false x cross l s in
    record {
      width = sat.sized.main;
      height = across_units false x cross l s sat.sized.cross;
      inline = sat.inline;
      block = content_units (inner y.grid.rows) box;
    }

along_told : (level : ℕ) (column : Bool) (x : Label) (cross : ℤ) (l : frames.LineAt) (moved : ℕ → ℤ) (gap : ℤ) (k : ℕ) (at : ℤ) (taken : List ℤ) (line : List frames.Sitting) → Each (IsSat (level + 1)) line → AreTold level (frames.along_line column x cross l moved gap k at taken line)
along_told level column x cross l moved gap k at [] line h = tt
along_told level column x cross l moved gap k at (t ∷ []) line h = tt
along_told level column x cross l moved gap k at (t ∷ u ∷ taken) [] h = tt
along_told level column x cross l moved gap k at (t ∷ u ∷ taken) (s ∷ rest) h =
    let g = rules.main_grid column s.settled.member.kid.label in
    (child_told level column x cross l (at +ℤ moved k +ℤ margin g.margin_start +ℤ t) s h.0, along_told level column x cross l moved gap (k + 1) (at +ℤ t +ℤ u +ℤ s.main +ℤ margins g +ℤ gap) taken rest h.1)

line_told : (level : ℕ) (column : Bool) (x : Label) (main cross gap : ℤ) (l : frames.LineAt) (line : List frames.Sitting) → Each (IsSat (level + 1)) line → AreTold level (frames.line_framed column x main cross gap l line)
line_told level column x main cross gap l line h =
    let rest = main -ℤ gaps gap (length line) -ℤ sum_of (map (λ (s : frames.Sitting). s.main +ℤ margins (rules.main_grid column s.settled.member.kid.label)) line) in
    let taken : List ℤ = line_margins rest (joined (map (λ (s : frames.Sitting). frames.auto_margins (rules.main_grid column s.settled.member.kid.label)) line)) in
    let a : Align = x.content.inline.distribution in
    along_told level column x cross l (λ k. content_moved (mode_of a.mode) (is_safe a) (rest -ℤ sum_of taken) k (length line)) gap 0 (pos 0) taken line h

lines_told : (level : ℕ) (column : Bool) (x : Label) (main cross gap between : ℤ) (moved : ℕ → ℤ) (k : ℕ) (at : ℤ) (sizes : List ℤ) (ranges : List (ℕ × ℕ)) (all : List frames.Sitting) → Each (IsSat (level + 1)) all
    → AreTold level (frames.lines_framed column x main cross gap between moved k at sizes ranges all)
lines_told level column x main cross gap between moved k at [] ranges all h = tt
lines_told level column x main cross gap between moved k at (z ∷ sizes) [] all h = tt
lines_told level column x main cross gap between moved k at (z ∷ sizes) (range ∷ ranges) all h =
    let l : frames.LineAt = record { at = at +ℤ moved k; size = z } in
    let line : List frames.Sitting = slice_range all range.0 range.1 in
    each_append (λ (e : ℕ × frames.Framed). IsTold level e.1) (frames.line_framed column x main cross gap l line) (frames.lines_framed column x main cross gap between moved (k + 1) (at +ℤ z +ℤ between) sizes ranges all)
    (line_told level column x main cross gap l line (each_slice (IsSat (level + 1)) range.0 (range.1 - range.0) all h))
    (lines_told level column x main cross gap between moved (k + 1) (at +ℤ z +ℤ between) sizes ranges all h)

near_child : (z : ℤ) → IsWithin (2 ^ 50) z → IsWithin farthest_child z
near_child z h = (omega (arith, ints, h.0), omega (arith, ints, h.1))

both_stand : (level : ℕ) (xs : List (ℕ × frames.Framed)) → StandNear xs → AreTold level xs → Each (λ (e : ℕ × frames.Framed). StandsBelow level e.1.frame) xs
both_stand level [] h k = tt
both_stand level (e ∷ xs) h k = (
  record { x = near_child e.1.frame.rect.x h.0.x; y = near_child e.1.frame.rect.y h.0.y; width = k.0.width; height = k.0.height; inline = k.0.inline; block = k.0.block },
  both_stand level xs h.1 k.1,
)

-- ---- all children

flex_stands : (level : ℕ) (column : Bool) (f : rules.Flex) (main cross : ℤ) (lines : rules.Lines) (settled : List rules.Settled) → IsGridStyle f.label.grid → IsUnits main → IsUnits cross → length lines.ranges ≤ 65536 → length settled ≤ 65536 → Each (IsFit column) settled
    → StandBelow level (map (λ (f : frames.Framed). f.frame) (frames.flex_framed column f main cross lines settled))
flex_stands level column f main cross lines settled style main_is cross_is few count fit =
    let x : Label = f.label in
    let gap = gap_by (Some main) (pos 0) (rules.main_grid column x).gap in
    let between = gap_by (Some cross) (pos 0) (rules.cross_grid column x).gap in
    let outers : List ℤ = map (rules.outer_cross column (Some cross)) settled in
    let stretch : Bool = stretches x.content.block.distribution.mode in
    let sizes : List ℤ = line_crosses outers lines.ranges (Some cross) between x.content.wrap stretch in
    let free = cross -ℤ gaps between (length sizes) -ℤ sum_of sizes in
    let a : Align = x.content.block.distribution in
    let all : List frames.Sitting = zipped (frames.sitting_of column (Some cross)) settled lines.mains in
    let sat : Each (IsSat (level + 1)) all = sittings_sat (level + 1) column cross settled lines.mains fit in
    let numbered : List (ℕ × frames.Framed) = flex_numbered column x main cross sizes lines.ranges all in
    let same : length sizes ≡ length lines.ranges = length_crosses outers lines.ranges (Some cross) between x.content.wrap stretch in
    let near : StandNear numbered = flex_near column x main cross sizes lines.ranges all style main_is cross_is (crosses_units outers lines.ranges cross between x.content.wrap stretch (outers_units column (Some cross) settled)) (omega (arith, same, few)) (all_sized (level + 1) all sat)
    (omega (arith, count, zipped_few (frames.sitting_of column (Some cross)) settled lines.mains)) in
    let told : AreTold level numbered = lines_told level column x main cross gap between (λ k. content_moved (mode_of a.mode) (is_safe a) free k (length sizes)) 0 (pos 0) sizes lines.ranges all sat in
    told_stand level (sorted_by (λ (e : ℕ × frames.Framed). pos e.0) numbered) (each_sorted (λ (e : ℕ × frames.Framed). pos e.0) (λ (e : ℕ × frames.Framed). StandsBelow level e.1.frame) numbered (both_stand level numbered near told))

-- ---- by the children of the container

pub members_styled : (kids : List (ℕ × Kid)) → Each (λ (k : ℕ × Kid). IsGridStyle k.1.label.grid) kids → Each IsStyled (map rules.member_of kids)
members_styled [] h = tt
members_styled (k ∷ kids) h = (h.0, members_styled kids h.1)

module _ (level : ℕ) (x : Label) (kids : List Kid) (style : IsGridStyle x.grid) (styled : Each (λ (k : Kid). IsGridStyle k.label.grid) kids) (few : length kids ≤ 65536) where
  order : Kid → ℤ
  order k = k.label.grid.order

  members : List rules.Member
  members = map rules.member_of (in_order order kids)

  fine : Each IsStyled members
  unfolding members
  fine = members_styled (in_order order kids) (each_in_order (λ (k : Kid). IsGridStyle k.label.grid) order kids styled)

  counted : length members ≡ length kids
  unfolding members
  counted = length-map (in_order order kids) rules.member_of ∙ length_in_order order kids

  pub row_stands : (width : ℤ) (height : Given) → IsUnits width → IsUnits (frames.given_size height)
      → let f = rules.flex_by x kids in let lines = rules.row_lines f width in StandBelow level (map (λ (f : frames.Framed). f.frame) (frames.row_framed f width lines (rules.row_settled f lines) height))
  unfolding members order
  row_stands width height width_is height_is =
      let f : rules.Flex = rules.flex_by x kids in
      let lines : rules.Lines = rules.row_lines f width in
      let items : List FlexItem = map (λ (m : rules.Member). rules.flex_item false (Some width) m.kid.label m.inline) members in
      let count : length items ≡ length members = length-map members (λ (m : rules.Member). rules.flex_item false (Some width) m.kid.label m.inline) in
      flex_stands level false f width (frames.given_size height) lines (rules.row_settled f lines) style width_is height_is
      (omega (arith, few, counted, count, ranges_few width (gap_by (Some width) (pos 0) x.grid.columns.gap) x.content.wrap items))
      (omega (arith, few, counted, zipped_few rules.settled_at members lines.mains))
      (rows_fit members lines.mains fine)

  pub column_stands : (width : ℤ) (height : Given) → IsUnits width → IsUnits (frames.given_size height)
      → let f = rules.flex_by x kids in StandBelow level (map (λ (f : frames.Framed). f.frame) (frames.column_framed f width (rules.column_settled f width) height))
  unfolding members order
  column_stands width height width_is height_is =
      let f : rules.Flex = rules.flex_by x kids in
      let main : ℤ = frames.given_size height in
      let settle : rules.Member → rules.Settled = λ m. rules.settled_at m (rules.column_box x width m) in
      let settled : List rules.Settled = map settle members in
      let items : List FlexItem = map (rules.column_item (Some main)) settled in
      let gap = gap_by (Some main) (pos 0) x.grid.rows.gap in
      let lines : rules.Lines = rules.lines_by x main gap items in
      let settled_count : length settled ≡ length members = length-map members settle in
      let count : length items ≡ length settled = length-map settled (rules.column_item (Some main)) in
      flex_stands level true f main width lines settled style height_is width_is
      (omega (arith, few, counted, settled_count, count, ranges_few main gap x.content.wrap items))
      (omega (arith, few, counted, settled_count))
      (columns_fit x width members fine)
