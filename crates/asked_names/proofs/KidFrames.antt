-- The frames of a container are those of its children one by one, and the boxes below it are theirs.
use Rattle.std.specs.Prelude.{◌≡◌, refl, ℕ, ◌+◌, ℤ, pos, ◌+ℤ◌, ◌-ℤ◌, Bool, true, false, List, [], ◌∷◌, ◌++◌, map, length, slice_range, Some, if◌then◌else◌}
use Rattle.std.specs.Ordering.{int_eq}
use Rattle.std.proofs.Common.{ap, sym, arith, subst, ◌∙◌}
use Rattle.lunit.specs.declared.item.Item.{Item}
use Rattle.part_rules.specs.declared.flex.FlexItem.{FlexItem}
use Rattle.part_rules.specs.declared.view.View.{View}
use Rattle.part_rules.specs.FlexLines.{gaps}
use Rattle.part_rules.specs.Alignment.{content_moved}
use Rattle.part_rules.specs.Lists.{joined, sum_of, zipped}
use Rattle.part_rules.specs.Placement.{placed}
use Rattle.tree_rules.specs.declared.kind.NodeKind.{NodeKind}
use Rattle.tree_rules.specs.declared.kind.NodeKind.TheVariants as kind
use Rattle.tree_rules.specs.declared.query.Given.{Given}
use Rattle.tree_rules.specs.declared.query.Query.{Query}
use Rattle.tree_rules.specs.Answers.{Down, Kid, Pair}
use Rattle.tree_rules.specs.AskedQueries.{pairs_below}
use Rattle.tree_rules.specs.Chains.{Link, Sibling, has_chain, sibling_of}
use Rattle.tree_rules.specs.Contexts.{Context, cut_area, placed_children, shape_of, wish_of, with_area}
use Rattle.tree_rules.specs.Distribution.{is_safe, mode_of}
use Rattle.tree_rules.specs.NodeSizes.{margin, margins}
use Rattle.tree_rules.specs.FlexSizes.{Member, Settled, column_block, column_box, column_item, column_settled, crosses_of, cross_grid, flex_by, flex_item, lines_by, main_grid, member_of, row_block, row_lines, row_settled, settled_at}
use Rattle.tree_rules.specs.Frames.{Framed, LineAt, Sitting, along_line, auto_margins, boxes_at, column_child, column_framed, down_of, flex_child, flex_framed, given_size, grid_child, grid_framed, line_framed, lines_framed, moved_by, place_across, row_child, row_framed, sitting_of, size_across}
use Rattle.tree_rules.specs.GridSizes.{Entry, Grid, TrackAxis, Wide, entry_of, grid_block, grid_by, grid_lends_rows, inline_of_entry, pairs_for, rows_of_grid, view_by, wide_children, wide_of}
use Rattle.tree_rules.specs.Labels.{GridStyle, Label}
use Rattle.tree_rules.specs.Orders.{in_document_order, in_order, numbered_from, sorted_by}
use Rattle.tree_rules.specs.Repetitions.{gap_by}
use Rattle.tree_rules.specs.Whole.{answers_by, column_down, row_down}
use Rattle.tree_rules.proofs.Lengths.{length_crosses, length_in_order, length_main_sizes, length_map, length_margins, length_placed, length_zipped, slices, slices_all}
use Rattle.tree_rules.proofs.Pairs.{each_joined, each_mapped, each_through, each_weaker, each_zipped}
use Rattle.tree_rules.proofs.Sorted.{EachTwo, back_in_order, number_of, sort_alike, without_numbers}
use Rattle.box_layout.specs.KidBoxes.{boxes_from}

-- a frame is one of this child, with what the child knows by what the frame gives it
pub record IsKidFrame (pairs : List Pair) (k : Kid) (f : Framed) : Type 0 where
  pub name : f.name ≡ k.label.name
  pub down : f.down ≡ k.answers.down (pairs_for k pairs) f.frame.inline

-- a frame is one of this child, and has its number
record IsNumbered (pairs : List Pair) (e : ℕ × Kid) (f : ℕ × Framed) : Type 0 where
  number : pos e.0 ≡ pos f.0
  frame : IsKidFrame pairs e.1 f.1

-- ---- frames in document order

back : (pairs : List Pair) (order : Kid → ℤ) (kids : List Kid) (found : List (ℕ × Framed)) → EachTwo (IsNumbered pairs) (in_order order kids) found → EachTwo (IsKidFrame pairs) kids (in_document_order found)
back pairs order kids found h =
    let sorted = sorted_by (number_of {A = Framed}) found in
    let alike : EachTwo (IsNumbered pairs) (sorted_by (number_of {A = Kid}) (in_order order kids)) sorted = sort_alike (IsNumbered pairs) (number_of {A = Kid}) (number_of {A = Framed}) (λ e f r. r.number) (in_order order kids) found h in
    let numbered : EachTwo (IsNumbered pairs) (numbered_from 0 kids) sorted = subst (λ l. EachTwo (IsNumbered pairs) l sorted) (back_in_order order kids) alike in
    without_numbers (IsKidFrame pairs) 0 kids sorted (each_weaker (IsNumbered pairs) (λ (e : ℕ × Kid) (f : ℕ × Framed). IsKidFrame pairs e.1 f.1) (λ e f r. r.frame) (numbered_from 0 kids) sorted numbered)

-- ---- grids

length_areas : (c : Context) (g : GridStyle) (children : List Sibling) → length (placed_children c g children).areas ≡ length children
length_areas c g children =
    let ordered = in_order (λ (s : Sibling). s.grid.order) children in
    let wishes = map (λ (e : ℕ × Sibling). wish_of c e.1) ordered in
    length_zipped with_area ordered (map (cut_area c) (placed wishes (shape_of c g))) (length_map (cut_area c) (placed wishes (shape_of c g)) ∙ length_placed wishes (shape_of c g) ∙ length_map (λ (e : ℕ × Sibling). wish_of c e.1) ordered) ∙ length_in_order (λ (s : Sibling). s.grid.order) children

record IsEntry (e : ℕ × Kid) (n : Entry) : Type 0 where
  number : n.number ≡ e.0
  kid : n.kid ≡ e.1

record IsWide (pairs : List Pair) (n : Entry) (w : Wide) : Type 0 where
  entry : w.entry ≡ n
  down : w.down ≡ n.kid.answers.down (pairs_for n.kid pairs) w.inline

wide_is : (g : Grid) (columns : View 0) (n : Entry) (sizes : ℤ × ℤ) → IsWide g.pairs n (wide_of g columns n sizes)
wide_is g columns n sizes = record { entry = refl; down = refl }

record IsPlaced (w : Wide) (f : ℕ × Framed) : Type 0 where
  number : f.0 ≡ w.entry.number
  name : f.1.name ≡ w.entry.kid.label.name
  inline : f.1.frame.inline ≡ w.inline
  down : f.1.down ≡ w.down

placed_is : (g : Grid) (columns : View 0) (rows : View 1) (w : Wide) → IsPlaced w (grid_child g columns rows w)
placed_is g columns rows w = record { number = refl; name = refl; inline = refl; down = refl }

wide_numbered : (pairs : List Pair) (e : ℕ × Kid) (n : Entry) (w : Wide) (f : ℕ × Framed) → IsEntry e n → IsWide pairs n w → IsPlaced w f → IsNumbered pairs e f
wide_numbered pairs e n w f a b c = record {
  number = ap pos (sym (c.number ∙ ap (λ (m : Entry). m.number) b.entry ∙ a.number));
  frame = record {
    name = c.name ∙ ap (λ (m : Entry). m.kid.label.name) b.entry ∙ ap (λ (k : Kid). k.label.name) a.kid;
    down = c.down ∙ b.down ∙ (λ i. (a.kid i).answers.down (pairs_for (a.kid i) pairs) (sym c.inline i));
  };
}

grid_frames : (x : Label) (chain : List Link) (kids : List Kid) (outer : List Pair) (width : Given) (columns : View 0) (axis : TrackAxis) (height : Given)
    → EachTwo (IsKidFrame (grid_by x chain kids outer width).pairs) kids (grid_framed (grid_by x chain kids outer width) columns axis (wide_children (grid_by x chain kids outer width) columns) height)
grid_frames x chain kids outer width columns axis height =
    let g = grid_by x chain kids outer width in
    let rows : View 1 = view_by axis height in
    let order : Kid → ℤ = λ k. k.label.grid.order in
    let ordered = in_order order kids in
    let wides = wide_children g columns in
    let siblings = map (λ (k : Kid). sibling_of k.label) kids in
    let entries_are : EachTwo IsEntry ordered g.entries = each_zipped IsEntry entry_of (λ e a. record { number = refl; kid = refl }) ordered g.placed.areas (length_areas g.context x.grid siblings ∙ length_map (λ (k : Kid). sibling_of k.label) kids ∙ sym (length_in_order order kids)) in
    let wides_are : EachTwo (IsWide g.pairs) g.entries wides = each_zipped (IsWide g.pairs) (wide_of g columns) (wide_is g columns) g.entries g.inlines (length_map (inline_of_entry g.pairs) g.entries) in
    let placed_are : EachTwo IsPlaced wides (map (grid_child g columns rows) wides) = each_mapped IsPlaced (grid_child g columns rows) (placed_is g columns rows) wides in
    let frames_are : EachTwo (λ (n : Entry) (f : ℕ × Framed). (w : Wide) × IsWide g.pairs n w × IsPlaced w f) g.entries (map (grid_child g columns rows) wides) = each_through (IsWide g.pairs) IsPlaced (λ (n : Entry) (f : ℕ × Framed). (w : Wide) × IsWide g.pairs n w × IsPlaced w f)
    (λ n w f a b. (w, a, b)) g.entries wides (map (grid_child g columns rows) wides) wides_are placed_are in
    back g.pairs order kids (map (grid_child g columns rows) wides)
    (each_through IsEntry (λ (n : Entry) (f : ℕ × Framed). (w : Wide) × IsWide g.pairs n w × IsPlaced w f) (IsNumbered g.pairs) (λ e n f a b. wide_numbered g.pairs e n b.0 f a b.1 b.2) ordered g.entries (map (grid_child g columns rows) wides) entries_are frames_are)

-- ---- flex containers

record IsMember (e : ℕ × Kid) (m : Member) : Type 0 where
  number : m.number ≡ e.0
  kid : m.kid ≡ e.1

-- a child knows what it does at the width that it is given
abbrev Knows : Settled → Type 0
Knows s = s.down ≡ s.member.kid.answers.down [] s.inline

record IsSettled (m : Member) (s : Settled) : Type 0 where
  member : s.member ≡ m
  knows : Knows s

-- a frame of a child
record IsSat (t : Sitting) (f : ℕ × Framed) : Type 0 where
  number : f.0 ≡ t.settled.member.number
  name : f.1.name ≡ t.settled.member.kid.label.name
  down : Knows t.settled → f.1.down ≡ t.settled.member.kid.answers.down [] f.1.frame.inline

record Still (s new : Settled) : Type 0 where
  down : Knows s → new.down ≡ s.member.kid.answers.down [] new.inline

still_if : (c : Bool) (s : Settled) (box : ℤ) → Still s (if c then s else settled_at s.member box)
still_if true s box = record { down = λ k. k }
still_if false s box = record { down = λ k. refl }

row_is : (container : Label) (at across size : ℤ) (t : Sitting) → IsSat t (row_child container at across size t)
row_is container at across size t = record { number = refl; name = refl; down = λ k. k }

column_is : (container : Label) (at across size : ℤ) (t : Sitting) → IsSat t (column_child container at across size t)
column_is container at across size t = record { number = refl; name = refl; down = λ k. (still_if (int_eq t.settled.box size) t.settled size).down k }

child_if : (c : Bool) (t : Sitting) (f g : ℕ × Framed) → IsSat t f → IsSat t g → IsSat t (if c then f else g)
child_if true t f g h k = h
child_if false t f g h k = k

child_is : (column : Bool) (container : Label) (cross : ℤ) (l : LineAt) (at : ℤ) (t : Sitting) → IsSat t (flex_child column container cross l at t)
child_is column container cross l at t =
    let size = size_across column container cross l t in
    let across = place_across column container l t.settled.member.kid.label size in
    child_if column t (column_child container at across size t) (row_child container at across size t) (column_is container at across size t) (row_is container at across size t)

along_is : (rest : List Sitting) (taken : List ℤ) (column : Bool) (container : Label) (cross : ℤ) (l : LineAt) (moved : ℕ → ℤ) (gap : ℤ) (k : ℕ) (at : ℤ) → length taken ≡ length rest + length rest → EachTwo IsSat rest (along_line column container cross l moved gap k at taken rest)
along_is [] [] column container cross l moved gap k at h = tt
along_is [] (t ∷ []) column container cross l moved gap k at h = tt
along_is [] (t ∷ u ∷ taken) column container cross l moved gap k at h = tt
along_is (s ∷ rest) [] column container cross l moved gap k at h = absurd (omega arith)
along_is (s ∷ rest) (t ∷ []) column container cross l moved gap k at h = absurd (omega arith)
along_is (s ∷ rest) (t ∷ u ∷ taken) column container cross l moved gap k at h =
    let g = main_grid column s.settled.member.kid.label in
    (child_is column container cross l (at +ℤ moved k +ℤ margin g.margin_start +ℤ t) s, along_is rest taken column container cross l moved gap (k + 1) (at +ℤ t +ℤ u +ℤ s.main +ℤ margins g +ℤ gap) (omega arith))

length_autos : (column : Bool) (line : List Sitting) → length (joined (map (λ (s : Sitting). auto_margins (main_grid column s.settled.member.kid.label)) line)) ≡ length line + length line
length_autos column [] = refl
length_autos column (s ∷ rest) = omega (arith, length_autos column rest)

line_is : (column : Bool) (container : Label) (main cross gap : ℤ) (l : LineAt) (line : List Sitting) → EachTwo IsSat line (line_framed column container main cross gap l line)
line_is column container main cross gap l line = along_is line _ column container cross l _ gap 0 (pos 0) (length_margins _ (joined (map (λ (s : Sitting). auto_margins (main_grid column s.settled.member.kid.label)) line)) ∙ length_autos column line)

lines_are : (sizes : List ℤ) (ranges : List (ℕ × ℕ)) (column : Bool) (container : Label) (main cross gap between : ℤ) (moved : ℕ → ℤ) (k : ℕ) (at : ℤ) (all : List Sitting) → length sizes ≡ length ranges →
    EachTwo IsSat (slices all ranges) (lines_framed column container main cross gap between moved k at sizes ranges all)
lines_are [] [] column container main cross gap between moved k at all h = tt
lines_are [] (r ∷ ranges) column container main cross gap between moved k at all h = absurd (omega arith)
lines_are (z ∷ sizes) [] column container main cross gap between moved k at all h = tt
lines_are (z ∷ sizes) (r ∷ ranges) column container main cross gap between moved k at all h =
    let l : LineAt = record { at = at +ℤ moved k; size = z } in
    let line = slice_range all r.0 r.1 in
    each_joined IsSat line (slices all ranges) (line_framed column container main cross gap l line) (lines_framed column container main cross gap between moved (k + 1) (at +ℤ z +ℤ between) sizes ranges all) (line_is column container main cross gap l line)
    (lines_are sizes ranges column container main cross gap between moved (k + 1) (at +ℤ z +ℤ between) all (omega arith))

pub no_pairs : (k : Kid) → pairs_for k [] ≡ []
no_pairs k = at (has_chain k.chain)
  where
    none : List Pair
    none = []

    at : (c : Bool) → (if c then none else none) ≡ none
    at true = refl
    at false = refl

-- from a child to its frame
sat_numbered : (e : ℕ × Kid) (m : Member) (s : Settled) (t : Sitting) (f : ℕ × Framed) → IsMember e m → IsSettled m s → t.settled ≡ s → IsSat t f → IsNumbered [] e f
sat_numbered e m s t f a b c d =
    let member : t.settled.member ≡ m = ap (λ (u : Settled). u.member) c ∙ b.member in
    let kid : t.settled.member.kid ≡ e.1 = ap (λ (u : Member). u.kid) member ∙ a.kid in
    let known : Knows t.settled = subst Knows (sym c) b.knows in
    record {
      number = ap pos (sym (d.number ∙ ap (λ (u : Member). u.number) member ∙ a.number));
      frame = record {
        name = d.name ∙ ap (λ (k : Kid). k.label.name) kid;
        down = d.down known ∙ ap (λ (k : Kid). k.answers.down [] f.1.frame.inline) kid ∙ ap (λ (p : List Pair). e.1.answers.down p f.1.frame.inline) (sym (no_pairs e.1));
      };
    }

-- the frames of a flex container whose children have settled, on lines that are found with one item for each of them
flex_frames : (column : Bool) (x : Label) (kids : List Kid) (main cross gap : ℤ) (items : List FlexItem) (settled : List Settled) → length items ≡ length settled → EachTwo IsSettled (flex_by x kids).members settled
    → EachTwo (IsKidFrame []) kids (flex_framed column (flex_by x kids) main cross (lines_by x main gap items) settled)
flex_frames column x kids main cross gap items settled few are =
    let f = flex_by x kids in
    let order : Kid → ℤ = λ k. k.label.grid.order in
    let lines = lines_by x main gap items in
    let all = zipped (sitting_of column (Some cross)) settled lines.mains in
    let sizes = crosses_of column x settled lines.ranges (Some cross) in
    let main_gap = gap_by (Some main) (pos 0) (main_grid column x).gap in
    let between = gap_by (Some cross) (pos 0) (cross_grid column x).gap in
    let a = x.content.block.distribution in
    let free = cross -ℤ gaps between (length sizes) -ℤ sum_of sizes in
    let found = lines_framed column x main cross main_gap between (λ k. content_moved (mode_of a.mode) (is_safe a) free k (length sizes)) 0 (pos 0) sizes lines.ranges all in
    let mains_few : length lines.mains ≡ length settled = length_main_sizes main gap x.content.wrap items ∙ few in
    let sat : EachTwo IsSat (slices all lines.ranges) found = lines_are sizes lines.ranges column x main cross main_gap between (λ k. content_moved (mode_of a.mode) (is_safe a) free k (length sizes)) 0 (pos 0) all (length_crosses _ lines.ranges (Some cross) _ x.content.wrap _) in
    let all_sat : EachTwo IsSat all found = subst (λ l. EachTwo IsSat l found) (slices_all all main gap x.content.wrap items (length_zipped (sitting_of column (Some cross)) settled lines.mains mains_few ∙ sym few)) sat in
    let sitting : EachTwo (λ (s : Settled) (t : Sitting). t.settled ≡ s) settled all = each_zipped (λ (s : Settled) (t : Sitting). t.settled ≡ s) (sitting_of column (Some cross)) (λ s m. refl) settled lines.mains mains_few in
    let members : EachTwo IsMember (in_order order kids) f.members = each_mapped IsMember member_of (λ e. record { number = refl; kid = refl }) (in_order order kids) in
    let second : EachTwo (λ (s : Settled) (r : ℕ × Framed). (t : Sitting) × (t.settled ≡ s) × IsSat t r) settled found = each_through (λ (s : Settled) (t : Sitting). t.settled ≡ s) IsSat (λ (s : Settled) (r : ℕ × Framed). (t : Sitting) × (t.settled ≡ s) × IsSat t r)
    (λ s t r p q. (t, p, q)) settled all found sitting all_sat in
    let third : EachTwo (λ (m : Member) (r : ℕ × Framed). (s : Settled) × IsSettled m s × ((t : Sitting) × (t.settled ≡ s) × IsSat t r)) f.members found = each_through IsSettled (λ (s : Settled) (r : ℕ × Framed). (t : Sitting) × (t.settled ≡ s) × IsSat t r)
    (λ (m : Member) (r : ℕ × Framed). (s : Settled) × IsSettled m s × ((t : Sitting) × (t.settled ≡ s) × IsSat t r)) (λ m s r p q. (s, p, q)) f.members settled found are second in
    back [] order kids found (each_through IsMember (λ (m : Member) (r : ℕ × Framed). (s : Settled) × IsSettled m s × ((t : Sitting) × (t.settled ≡ s) × IsSat t r)) (IsNumbered []) (λ e m r p q. sat_numbered e m q.0 q.2.0 r p q.1 q.2.1 q.2.2) (in_order order kids) f.members found members third)

settled_is : (m : Member) (box : ℤ) → IsSettled m (settled_at m box)
settled_is m box = record { member = refl; knows = refl }

row_frames : (x : Label) (kids : List Kid) (width : ℤ) (height : Given) → EachTwo (IsKidFrame []) kids (row_framed (flex_by x kids) width (row_lines (flex_by x kids) width) (row_settled (flex_by x kids) (row_lines (flex_by x kids) width)) height)
row_frames x kids width height =
    let f = flex_by x kids in
    let items = map (λ (m : Member). flex_item false (Some width) m.kid.label m.inline) f.members in
    let gap = gap_by (Some width) (pos 0) x.grid.columns.gap in
    let lines = row_lines f width in
    let few : length lines.mains ≡ length f.members = length_main_sizes width gap x.content.wrap items ∙ length_map (λ (m : Member). flex_item false (Some width) m.kid.label m.inline) f.members in
    flex_frames false x kids width (given_size height) gap items (row_settled f lines) (length_map (λ (m : Member). flex_item false (Some width) m.kid.label m.inline) f.members ∙ sym (length_zipped settled_at f.members lines.mains few))
    (each_zipped IsSettled settled_at settled_is f.members lines.mains few)

column_frames : (x : Label) (kids : List Kid) (width : ℤ) (height : Given) → EachTwo (IsKidFrame []) kids (column_framed (flex_by x kids) width (column_settled (flex_by x kids) width) height)
column_frames x kids width height =
    let f = flex_by x kids in
    let main = given_size height in
    let settled = column_settled f width in
    flex_frames true x kids main width (gap_by (Some main) (pos 0) x.grid.rows.gap) (map (column_item (Some main)) settled) settled (length_map (column_item (Some main)) settled)
    (each_mapped IsSettled (λ (m : Member). settled_at m (column_box x width m)) (λ m. settled_is m (column_box x width m)) f.members)

-- ---- any node

-- the boxes below a node are those of its children with their frames
abbrev IsTold : List Pair → List Kid → Down → Type 0
IsTold pairs kids d = (height : Given) (at : ℤ × ℤ) → d.boxes height at ≡ boxes_from pairs at kids (d.frames height)

boxes_told : (pairs : List Pair) (at : ℤ × ℤ) (kids : List Kid) (fs : List Framed) → EachTwo (IsKidFrame pairs) kids fs → boxes_at at fs ≡ boxes_from pairs at kids (map (λ (f : Framed). f.frame) fs)
unfolding boxes_from
boxes_told pairs at [] [] h = refl
boxes_told pairs at [] (f ∷ fs) h = absurd h
boxes_told pairs at (k ∷ ks) [] h = absurd h
boxes_told pairs at (k ∷ ks) (f ∷ fs) h =
    let rect = moved_by at f.frame.rect in
    λ i. (h.0.name i, rect) ∷ (h.0.down i).boxes f.frame.block (rect.x, rect.y) ++ boxes_told pairs at ks fs h.1 i

down_told : (pairs : List Pair) (kids : List Kid) (block : ℤ) (lent : List Item) (framed : Given → List Framed) → ((height : Given) → EachTwo (IsKidFrame pairs) kids (framed height)) → IsTold pairs kids (down_of block lent framed)
down_told pairs kids block lent framed h height at = boxes_told pairs at kids (framed height) (h height)

down_if : (c : Bool) (pairs : List Pair) (kids : List Kid) (d e : Down) → IsTold pairs kids d → IsTold pairs kids e → IsTold pairs kids (if c then d else e)
down_if true pairs kids d e h k = h
down_if false pairs kids d e h k = k

no_frames : (pairs : List Pair) (at : ℤ × ℤ) (kids : List Kid) → [] ≡ boxes_from pairs at kids []
unfolding boxes_from
no_frames pairs at [] = refl
no_frames pairs at (k ∷ kids) = refl

-- The boxes below a node.
pub told_by : (k : NodeKind) (x : Label) (chain : List Link) (kids : List Kid) (q : Query) (height : Given) (at : ℤ × ℤ) →
    ((answers_by k x chain kids).down q.reps q.inline).boxes height at ≡ boxes_from (pairs_below k x chain kids q) at kids (((answers_by k x chain kids).down q.reps q.inline).frames height)
told_by kind.Grid x chain kids q height at =
    let grid = grid_by x chain kids q.reps q.inline in
    let columns : View 0 = view_by grid.columns q.inline in
    let wides = wide_children grid columns in
    let rows = rows_of_grid grid wides in
    down_told grid.pairs kids (grid_block grid rows) (grid_lends_rows grid rows) (grid_framed grid columns rows wides) (grid_frames x chain kids q.reps q.inline columns rows) height at
told_by kind.Flex x chain kids q height at =
    let f = flex_by x kids in
    let width = given_size q.inline in
    down_if x.content.column [] kids (column_down f width) (row_down f width)
    (down_told [] kids (column_block f (column_settled f width)) [] (column_framed f width (column_settled f width)) (column_frames x kids width))
    (down_told [] kids (row_block f (row_lines f width) (row_settled f (row_lines f width))) [] (row_framed f width (row_lines f width) (row_settled f (row_lines f width))) (row_frames x kids width))
    height at
told_by (kind.Leaf content) x chain kids q height at = no_frames [] at kids
