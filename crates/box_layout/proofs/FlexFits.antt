-- What the frames of a flex container give its children is a size of at least 0.
use Rattle.std.proofs.Common.{ℕ, ◌+◌, ◌-◌, ℤ, pos, ◌+ℤ◌, ◌-ℤ◌, ◌≤ℤ◌, Bool, true, false, not, ◌&&◌, List, [], ◌∷◌, length, map, Some, if◌then◌else◌}
use Rattle.std.specs.Ordering.{int_eq}
use Rattle.std.specs.Prelude.{slice_range, unwrap_or}
use Rattle.lunit.specs.Units.{IsUnits, clamp}
use Rattle.part_rules.specs.declared.flex.FlexItem.{FlexItem}
use Rattle.part_rules.specs.Alignment.{content_moved}
use Rattle.part_rules.specs.FlexLines.{gaps, line_margins}
use Rattle.part_rules.specs.Lists.{joined, sum_of, zipped}
use Rattle.placing.proofs.Each.{Each, each_map}
use Rattle.placing.proofs.Numbers.{each_sorted}
use Rattle.placing.specs.Ranges.{IsGridStyle}
use Rattle.style_types.specs.declared.value.Align.{Align}
use Rattle.tree_rules.specs.Answers.{Kid}
use Rattle.tree_rules.specs.Distribution.{is_safe, mode_of}
use Rattle.tree_rules.specs.FlexSizes as rules
use Rattle.tree_rules.specs.Frames as frames
use Rattle.tree_rules.specs.Labels.{GridAxis, Label}
use Rattle.tree_rules.specs.NodeSizes.{Bounds, bounds_of, fit_to, fitted, inner, margin, margins}
use Rattle.tree_rules.specs.Orders.{in_order, sorted_by}
use Rattle.tree_rules.specs.Queries.{IsGivenFor}
use Rattle.tree_rules.specs.Repetitions.{gap_by}
use Rattle.tree_rules.specs.declared.query.Given.{Given}
use Rattle.inline_sizes.proofs.FineContexts.{each_in_order}
use Rattle.inline_sizes.proofs.InRange.{inner_units}
use Rattle.inline_sizes.proofs.Limits.{content_some, least_clamped}
use Rattle.block_sizes.proofs.Mains.{mains_cover}
use Rattle.block_sizes.specs.Flexes.{AreCovering, HaveInner}
use Rattle.box_layout.proofs.Everywhere.{each_append, each_slice}
use Rattle.box_layout.proofs.FlexNear.{members_styled}
use Rattle.box_layout.proofs.GivenTracks.{fitted_least}

chosen_least : (b : Bool) (p x y : ℤ) → p ≤ℤ x → p ≤ℤ y → p ≤ℤ (if b then x else y)
chosen_least true p x y h k = h
chosen_least false p x y h k = k

-- what is given is a size of at least 0
abbrev IsOpen : Given → Type 0
IsOpen g = IsGivenFor true false 0 g

abbrev IsStyled : rules.Member → Type 0
IsStyled m = IsGridStyle m.kid.label.grid

-- ---- children that have room for their borders and paddings

record HasRoom (column : Bool) (s : rules.Settled) : Type 0 where
  grid : IsGridStyle s.member.kid.label.grid
  inline : IsOpen s.inline
  cross : (cross : ℤ) → inner (rules.cross_grid column s.member.kid.label) ≤ℤ rules.cross_box column (Some cross) s

settled_open : (m : rules.Member) (box : ℤ) → inner m.kid.label.grid.columns ≤ℤ box → IsOpen (rules.settled_at m box).inline
settled_open m box h = content_some (inner m.kid.label.grid.columns) box h

row_room : (m : rules.Member) (box : ℤ) → IsStyled m → inner m.kid.label.grid.columns ≤ℤ box → HasRoom false (rules.settled_at m box)
row_room m box style h = record {
  grid = style;
  inline = settled_open m box h;
  cross = λ cross.
      let x : Label = m.kid.label in
      let b : Bounds = bounds_of (Some cross) x.content.border_box x.grid.rows x.content.block in
      fitted_least b (unwrap_or b.size ((rules.settled_at m box).down.block +ℤ b.inner)) (inner_units x.grid.rows style.rows);
}

column_room : (m : rules.Member) (box : ℤ) → IsStyled m → inner m.kid.label.grid.columns ≤ℤ box → HasRoom true (rules.settled_at m box)
column_room m box style h = record { grid = style; inline = settled_open m box h; cross = λ cross. h }

abbrev row_items : ℤ → List rules.Member → List FlexItem
row_items width members = map (λ (m : rules.Member). rules.flex_item false (Some width) m.kid.label m.inline) members

row_inner : (width : ℤ) (members : List rules.Member) → Each IsStyled members → HaveInner (row_items width members)
row_inner width [] h = tt
row_inner width (m ∷ members) h = (inner_units m.kid.label.grid.columns h.0.columns, row_inner width members h.1)

rows_room : (width : ℤ) (members : List rules.Member) (mains : List ℤ) → Each IsStyled members → AreCovering (row_items width members) mains → Each (HasRoom false) (zipped rules.settled_at members mains)
rows_room width [] mains h c = tt
rows_room width (m ∷ members) [] h c = tt
rows_room width (m ∷ members) (z ∷ mains) h c = (row_room m z h.0 c.0, rows_room width members mains h.1 c.1)

columns_room : (container : Label) (width : ℤ) (members : List rules.Member) → Each IsStyled members → Each (HasRoom true) (map (λ (m : rules.Member). rules.settled_at m (rules.column_box container width m)) members)
columns_room container width [] h = tt
columns_room container width (m ∷ members) h =
    let x : Label = m.kid.label in
    let b : Bounds = bounds_of (Some width) x.content.border_box x.grid.columns x.content.inline in
    let stretched : Bool = not container.content.wrap && rules.is_stretched_across true container x in
    let least : inner x.grid.columns ≤ℤ rules.column_box container width m =
    fitted_least b (unwrap_or b.size (if stretched then width -ℤ margins x.grid.columns else fit_to b (margins x.grid.columns) width m.inline)) (inner_units x.grid.columns h.0.columns) in
    (column_room m (rules.column_box container width m) h.0 least, columns_room container width members h.1)

column_inner : (main : ℤ) (settled : List rules.Settled) → Each (HasRoom true) settled → HaveInner (map (rules.column_item (Some main)) settled)
column_inner main [] h = tt
column_inner main (s ∷ settled) h = (inner_units s.member.kid.label.grid.rows h.0.grid.rows, column_inner main settled h.1)

-- ---- in their lines

-- in a column the main size has room too
abbrev MainRoom : Bool → frames.Sitting → Type 0
MainRoom true s = inner s.settled.member.kid.label.grid.rows ≤ℤ s.main
MainRoom false s = Unit {0}

record IsRoomy (column : Bool) (s : frames.Sitting) : Type 0 where
  grid : IsGridStyle s.settled.member.kid.label.grid
  inline : IsOpen s.settled.inline
  cross : inner (rules.cross_grid column s.settled.member.kid.label) ≤ℤ s.cross
  main : MainRoom column s

row_sittings : (cross : ℤ) (settled : List rules.Settled) (mains : List ℤ) → Each (HasRoom false) settled → Each (IsRoomy false) (zipped (frames.sitting_of false (Some cross)) settled mains)
row_sittings cross [] mains h = tt
row_sittings cross (s ∷ settled) [] h = tt
row_sittings cross (s ∷ settled) (z ∷ mains) h = (record { grid = h.0.grid; inline = h.0.inline; cross = h.0.cross cross; main = tt }, row_sittings cross settled mains h.1)

column_sittings : (main cross : ℤ) (settled : List rules.Settled) (mains : List ℤ) → Each (HasRoom true) settled → AreCovering (map (rules.column_item (Some main)) settled) mains → Each (IsRoomy true) (zipped (frames.sitting_of true (Some cross)) settled mains)
column_sittings main cross [] mains h c = tt
column_sittings main cross (s ∷ settled) [] h c = tt
column_sittings main cross (s ∷ settled) (z ∷ mains) h c =
    let rows : GridAxis = s.member.kid.label.grid.rows in
    (record { grid = h.0.grid; inline = h.0.inline; cross = h.0.cross cross; main = least_clamped (inner rows) z (inner_units rows h.0.grid.rows) c.0 }, column_sittings main cross settled mains h.1 c.1)

-- what a child is given in both axes
pub record IsOpenFrame (f : frames.Framed) : Type 0 where
  pub inline : IsGivenFor true false 0 f.frame.inline
  pub block : IsGivenFor true false 0 f.frame.block

abbrev AreOpen : List (ℕ × frames.Framed) → Type 0
AreOpen xs = Each (λ (e : ℕ × frames.Framed). IsOpenFrame e.1) xs

cross_style : (column : Bool) (x : Label) → IsGridStyle x.grid → IsUnits (inner (rules.cross_grid column x))
cross_style true x h = inner_units x.grid.columns h.columns
cross_style false x h = inner_units x.grid.rows h.rows

across_least : (column : Bool) (x : Label) (cross : ℤ) (l : frames.LineAt) (s : frames.Sitting) → IsRoomy column s → inner (rules.cross_grid column s.settled.member.kid.label) ≤ℤ frames.size_across column x cross l s
across_least column x cross l s h =
    let y : Label = s.settled.member.kid.label in
    let g : GridAxis = rules.cross_grid column y in
    let b : Bounds = bounds_of (Some cross) y.content.border_box g (rules.cross_content column y) in
    chosen_least (rules.is_stretched_across column x y) (inner g) (clamp (fitted b (l.size -ℤ margins g))) s.cross (fitted_least b (l.size -ℤ margins g) (cross_style column y h.grid)) h.cross

across_open : (s : rules.Settled) (box : ℤ) (b : Bool) → IsOpen s.inline → inner s.member.kid.label.grid.columns ≤ℤ box → IsOpen (if b then s else rules.settled_at s.member box).inline
across_open s box true h k = h
across_open s box false h k = settled_open s.member box k

child_open : (column : Bool) (x : Label) (cross : ℤ) (l : frames.LineAt) (at : ℤ) (s : frames.Sitting) → IsRoomy column s → IsOpenFrame (frames.flex_child column x cross l at s).1
child_open true x cross l at s h =
    let y : Label = s.settled.member.kid.label in
    let box : ℤ = frames.size_across true x cross l s in
    record { inline = across_open s.settled box (int_eq s.settled.box box) h.inline (across_least true x cross l s h); block = content_some (inner y.grid.rows) s.main h.main }
child_open false x cross l at s h =
    let y : Label = s.settled.member.kid.label in
    record { inline = h.inline; block = content_some (inner y.grid.rows) (frames.size_across false x cross l s) (across_least false x cross l s h) }

along_open : (column : Bool) (x : Label) (cross : ℤ) (l : frames.LineAt) (moved : ℕ → ℤ) (gap : ℤ) (k : ℕ) (at : ℤ) (taken : List ℤ) (line : List frames.Sitting) → Each (IsRoomy column) line → AreOpen (frames.along_line column x cross l moved gap k at taken line)
along_open column x cross l moved gap k at [] line h = tt
along_open column x cross l moved gap k at (t ∷ []) line h = tt
along_open column x cross l moved gap k at (t ∷ u ∷ taken) [] h = tt
along_open column x cross l moved gap k at (t ∷ u ∷ taken) (s ∷ rest) h =
    let g : GridAxis = rules.main_grid column s.settled.member.kid.label in
    (child_open column x cross l (at +ℤ moved k +ℤ margin g.margin_start +ℤ t) s h.0, along_open column x cross l moved gap (k + 1) (at +ℤ t +ℤ u +ℤ s.main +ℤ margins g +ℤ gap) taken rest h.1)

line_open : (column : Bool) (x : Label) (main cross gap : ℤ) (l : frames.LineAt) (line : List frames.Sitting) → Each (IsRoomy column) line → AreOpen (frames.line_framed column x main cross gap l line)
line_open column x main cross gap l line h =
    let rest = main -ℤ gaps gap (length line) -ℤ sum_of (map (λ (s : frames.Sitting). s.main +ℤ margins (rules.main_grid column s.settled.member.kid.label)) line) in
    let taken : List ℤ = line_margins rest (joined (map (λ (s : frames.Sitting). frames.auto_margins (rules.main_grid column s.settled.member.kid.label)) line)) in
    let a : Align = x.content.inline.distribution in
    along_open column x cross l (λ k. content_moved (mode_of a.mode) (is_safe a) (rest -ℤ sum_of taken) k (length line)) gap 0 (pos 0) taken line h

lines_open : (column : Bool) (x : Label) (main cross gap between : ℤ) (moved : ℕ → ℤ) (k : ℕ) (at : ℤ) (sizes : List ℤ) (ranges : List (ℕ × ℕ)) (all : List frames.Sitting) → Each (IsRoomy column) all
    → AreOpen (frames.lines_framed column x main cross gap between moved k at sizes ranges all)
lines_open column x main cross gap between moved k at [] ranges all h = tt
lines_open column x main cross gap between moved k at (z ∷ sizes) [] all h = tt
lines_open column x main cross gap between moved k at (z ∷ sizes) (range ∷ ranges) all h =
    let l : frames.LineAt = record { at = at +ℤ moved k; size = z } in
    let line : List frames.Sitting = slice_range all range.0 range.1 in
    each_append (λ (e : ℕ × frames.Framed). IsOpenFrame e.1) (frames.line_framed column x main cross gap l line) (frames.lines_framed column x main cross gap between moved (k + 1) (at +ℤ z +ℤ between) sizes ranges all)
    (line_open column x main cross gap l line (each_slice (IsRoomy column) range.0 (range.1 - range.0) all h))
    (lines_open column x main cross gap between moved (k + 1) (at +ℤ z +ℤ between) sizes ranges all h)

-- ---- all children

flex_open : (column : Bool) (f : rules.Flex) (main cross : ℤ) (lines : rules.Lines) (settled : List rules.Settled) → Each (IsRoomy column) (zipped (frames.sitting_of column (Some cross)) settled lines.mains) → Each IsOpenFrame (frames.flex_framed column f main cross lines settled)
flex_open column f main cross lines settled h =
    let x : Label = f.label in
    let gap = gap_by (Some main) (pos 0) (rules.main_grid column x).gap in
    let between = gap_by (Some cross) (pos 0) (rules.cross_grid column x).gap in
    let sizes : List ℤ = rules.crosses_of column x settled lines.ranges (Some cross) in
    let free = cross -ℤ gaps between (length sizes) -ℤ sum_of sizes in
    let a : Align = x.content.block.distribution in
    let all : List frames.Sitting = zipped (frames.sitting_of column (Some cross)) settled lines.mains in
    let moved : ℕ → ℤ = λ k. content_moved (mode_of a.mode) (is_safe a) free k (length sizes) in
    let made : List (ℕ × frames.Framed) = frames.lines_framed column x main cross gap between moved 0 (pos 0) sizes lines.ranges all in
    each_map (λ (e : ℕ × frames.Framed). e.1) IsOpenFrame (sorted_by (λ (e : ℕ × frames.Framed). pos e.0) made)
    (each_sorted (λ (e : ℕ × frames.Framed). pos e.0) (λ (e : ℕ × frames.Framed). IsOpenFrame e.1) made (lines_open column x main cross gap between moved 0 (pos 0) sizes lines.ranges all h))

module _ (x : Label) (kids : List Kid) (styled : Each (λ (k : Kid). IsGridStyle k.label.grid) kids) where
  abbrev members : List rules.Member
  members = map rules.member_of (in_order (λ (k : Kid). k.label.grid.order) kids)

  fine : Each IsStyled members
  fine = members_styled (in_order (λ (k : Kid). k.label.grid.order) kids) (each_in_order (λ (k : Kid). IsGridStyle k.label.grid) (λ (k : Kid). k.label.grid.order) kids styled)

  pub row_open : (width : ℤ) (height : Given) → let f = rules.flex_by x kids in let lines = rules.row_lines f width in Each IsOpenFrame (frames.row_framed f width lines (rules.row_settled f lines) height)
  row_open width height =
      let f : rules.Flex = rules.flex_by x kids in
      let lines : rules.Lines = rules.row_lines f width in
      let cover : AreCovering (row_items width members) lines.mains = mains_cover width (gap_by (Some width) (pos 0) x.grid.columns.gap) x.content.wrap (row_items width members) (row_inner width members fine) in
      flex_open false f width (frames.given_size height) lines (rules.row_settled f lines) (row_sittings (frames.given_size height) (rules.row_settled f lines) lines.mains (rows_room width members lines.mains fine cover))

  pub column_open : (width : ℤ) (height : Given) → let f = rules.flex_by x kids in Each IsOpenFrame (frames.column_framed f width (rules.column_settled f width) height)
  column_open width height =
      let f : rules.Flex = rules.flex_by x kids in
      let main : ℤ = frames.given_size height in
      let settled : List rules.Settled = rules.column_settled f width in
      let items : List FlexItem = map (rules.column_item (Some main)) settled in
      let gap = gap_by (Some main) (pos 0) x.grid.rows.gap in
      let lines : rules.Lines = rules.lines_by x main gap items in
      let room : Each (HasRoom true) settled = columns_room x width members fine in
      let cover : AreCovering items lines.mains = mains_cover main gap x.content.wrap items (column_inner main settled room) in
      flex_open true f main width lines settled (column_sittings main width settled lines.mains room cover)
