-- The boxes of a tree belong to its nodes one by one, in document order, and their sizes are limited.
use Rattle.std.specs.Prelude.{◌≡◌, refl, ℕ, ◌+◌, ℤ, pos, ◌+ℤ◌, ◌-ℤ◌, ◌⊎◌, Bool, true, false, List, [], ◌∷◌, map, length, slice_range, Option, Some, if◌then◌else◌}
use Rattle.std.specs.Ordering.{int_eq}
use Rattle.std.proofs.Common.{ap, sym, arith, subst, inl, inr, true≢false, ◌∙◌}
use Rattle.std.proofs.lemmas.Int.{clamps, ints}
use Rattle.lunit.specs.Units.{IsUnits, clamp}
use Rattle.lunit.specs.declared.item.Item.{Item}
use Rattle.part_rules.specs.declared.flex.FlexItem.{FlexItem}
use Rattle.part_rules.specs.declared.view.View.{View}
use Rattle.part_rules.specs.FlexLines.{gaps}
use Rattle.part_rules.specs.Alignment.{content_moved}
use Rattle.part_rules.specs.Lists.{joined, sum_of, zipped}
use Rattle.part_rules.specs.Placement.{placed}
use Rattle.plain_tree.specs.Trees.{Trees, leafless, tree, labels_of}
use Rattle.tree_rules.specs.declared.kind.NodeKind.{NodeKind}
use Rattle.tree_rules.specs.declared.kind.NodeKind.TheVariants as kind
use Rattle.tree_rules.specs.declared.query.Given.{Given}
use Rattle.tree_rules.specs.Answers.{Box, Down, Kid, Pair}
use Rattle.tree_rules.specs.Boxes.{AreLimited, IsBareLeaf, LeavesAreBare, boxes, names_of, names_told, root_framed, root_inline, root_of, root_width}
use Rattle.tree_rules.specs.Chains.{Above, Link, Sibling, above_of, chain_of, sibling_of}
use Rattle.tree_rules.specs.Contexts.{Context, cut_area, placed_children, shape_of, wish_of, with_area}
use Rattle.tree_rules.specs.Distribution.{is_safe, mode_of}
use Rattle.tree_rules.specs.NodeSizes.{margin, margins}
use Rattle.tree_rules.specs.FlexSizes.{Member, Settled, column_block, column_box, column_item, column_settled, cross_box, cross_grid, crosses_of, flex_by, flex_item, lines_by, main_grid, member_of, row_block, row_lines, row_settled, settled_at}
use Rattle.tree_rules.specs.Frames.{Extent, Framed, LineAt, Sitting, along_line, auto_margins, boxes_at, column_child, column_framed, down_of, flex_child, flex_framed, given_size, grid_child, grid_framed, line_framed, lines_framed, moved_by, place_across, row_child, row_framed, sitting_of, size_across}
use Rattle.tree_rules.specs.GridSizes.{Entry, Grid, TrackAxis, Wide, child_inline, entry_of, grid_block, grid_by, grid_lends_rows, inline_of_entry, pairs_for, rows_of_grid, view_by, wide_children, wide_of}
use Rattle.tree_rules.specs.Labels.{GridStyle, Label}
use Rattle.tree_rules.specs.Orders.{in_document_order, in_order, numbered_from, sorted_by}
use Rattle.tree_rules.specs.Repetitions.{gap_by}
use Rattle.tree_rules.specs.Whole.{answers_by, column_down, kids_of, row_down}
use Rattle.tree_rules.proofs.Lengths.{length_crosses, length_in_order, length_main_sizes, length_map, length_margins, length_placed, length_zipped, slices, slices_all}
use Rattle.tree_rules.proofs.Pairs.{each_joined, each_mapped, each_through, each_weaker, each_zipped}
use Rattle.tree_rules.proofs.Sorted.{EachTwo, back_in_order, number_of, sort_alike, without_numbers}

-- ---- sizes

limited : (z : ℤ) → IsUnits (clamp z)
unfolding clamp
limited z = (omega (arith, ints, clamps), omega (arith, ints, clamps))

limited_if : (c : Bool) (x y : ℤ) → IsUnits x → IsUnits y → IsUnits (if c then x else y)
limited_if true x y h k = h
limited_if false x y h k = k

-- ---- boxes and nodes

-- a box is one of this node
record IsBoxOf (x : Label) (b : Box) : Type 0 where
  name : b.0 ≡ x.name
  width : IsUnits b.1.width
  height : IsUnits b.1.height

-- the boxes below a node are those of the trees below it
abbrev Tells : Down → Trees Label → Type 0
Tells d below = (height : Given) (at : ℤ × ℤ) → EachTwo IsBoxOf (labels_of below) (d.boxes height at)

-- children with their answers, whatever they are asked
abbrev AllTell : List Kid → Trees Label → Type 0
AllTell [] leafless = Unit {0}
AllTell [] (tree x below after) = ⊥
AllTell (k ∷ ks) leafless = ⊥
AllTell (k ∷ ks) (tree x below after) = (k.label.name ≡ x.name) × (((pairs : List Pair) (g : Given) → Tells (k.answers.down pairs g) below) × AllTell ks after)

-- a frame is one of this child, with what the child knows by its inline size
pub record IsFrameOf (k : Kid) (f : Framed) : Type 0 where
  pub name : f.name ≡ k.label.name
  pub width : IsUnits f.frame.rect.width
  pub height : IsUnits f.frame.rect.height
  pub pairs : List Pair
  pub inline : Given
  pub down : f.down ≡ k.answers.down pairs inline

-- a frame is one of this child, and has its number
record IsNumbered (e : ℕ × Kid) (f : ℕ × Framed) : Type 0 where
  number : pos e.0 ≡ pos f.0
  frame : IsFrameOf e.1 f.1

boxes_tell : (fs : List Framed) (kids : List Kid) (t : Trees Label) → EachTwo IsFrameOf kids fs → AllTell kids t → (at : ℤ × ℤ) → EachTwo IsBoxOf (labels_of t) (boxes_at at fs)
boxes_tell [] [] leafless h all at = tt
boxes_tell [] [] (tree x below after) h all at = absurd all
boxes_tell [] (k ∷ ks) t h all at = absurd h
boxes_tell (f ∷ fs) [] t h all at = absurd h
boxes_tell (f ∷ fs) (k ∷ ks) leafless h all at = absurd all
boxes_tell (f ∷ fs) (k ∷ ks) (tree x below after) h all at =
    let rect = moved_by at f.frame.rect in
    let own : Tells f.down below = subst (λ (d : Down). Tells d below) (sym (h.0).down) (all.1.0 (h.0).pairs (h.0).inline) in
    (record { name = (h.0).name ∙ all.0; width = (h.0).width; height = (h.0).height }, each_joined IsBoxOf (labels_of below) (labels_of after) (f.down.boxes f.frame.block (rect.x, rect.y)) (boxes_at at fs) (own f.frame.block (rect.x, rect.y)) (boxes_tell fs ks after h.1 all.1.1 at))

-- ---- frames in document order

back : (order : Kid → ℤ) (kids : List Kid) (found : List (ℕ × Framed)) → EachTwo IsNumbered (in_order order kids) found → EachTwo IsFrameOf kids (in_document_order found)
back order kids found h =
    let sorted = sorted_by (number_of {A = Framed}) found in
    let alike : EachTwo IsNumbered (sorted_by (number_of {A = Kid}) (in_order order kids)) sorted = sort_alike IsNumbered (number_of {A = Kid}) (number_of {A = Framed}) (λ e f r. r.number) (in_order order kids) found h in
    let numbered : EachTwo IsNumbered (numbered_from 0 kids) sorted = subst (λ l. EachTwo IsNumbered l sorted) (back_in_order order kids) alike in
    without_numbers IsFrameOf 0 kids sorted (each_weaker IsNumbered (λ (e : ℕ × Kid) (f : ℕ × Framed). IsFrameOf e.1 f.1) (λ e f r. r.frame) (numbered_from 0 kids) sorted numbered)

-- ---- grids

length_areas : (c : Context) (g : GridStyle) (children : List Sibling) → length (placed_children c g children).areas ≡ length children
length_areas c g children =
    let ordered = in_order (λ (s : Sibling). s.grid.order) children in
    let wishes = map (λ (e : ℕ × Sibling). wish_of c e.1) ordered in
    length_zipped with_area ordered (map (cut_area c) (placed wishes (shape_of c g))) (length_map (cut_area c) (placed wishes (shape_of c g)) ∙ length_placed wishes (shape_of c g) ∙ length_map (λ (e : ℕ × Sibling). wish_of c e.1) ordered) ∙ length_in_order (λ (s : Sibling). s.grid.order) children

record IsEntry (e : ℕ × Kid) (n : Entry) : Type 0 where
  number : n.number ≡ e.0
  kid : n.kid ≡ e.1

record IsWide (n : Entry) (w : Wide) : Type 0 where
  entry : w.entry ≡ n
  box : IsUnits w.box
  pairs : List Pair
  inline : Given
  down : w.down ≡ n.kid.answers.down pairs inline

box_limited : (c : Bool) (x y : ℤ × Given) → IsUnits x.0 → IsUnits y.0 → IsUnits (if c then x else y).0
box_limited true x y h k = h
box_limited false x y h k = k

extent_limited : (c : Bool) (x y : Extent) → IsUnits x.size → IsUnits y.size → IsUnits (if c then x else y).size
extent_limited true x y h k = h
extent_limited false x y h k = k

wide_is : (g : Grid) (columns : View 0) (n : Entry) (sizes : ℤ × ℤ) → IsWide n (wide_of g columns n sizes)
wide_is g columns n sizes = record { entry = refl; box = box_limited _ _ _ (limited _) (limited _); pairs = pairs_for n.kid g.pairs; inline = (child_inline g columns n sizes).1; down = refl }

record IsPlaced (w : Wide) (f : ℕ × Framed) : Type 0 where
  number : f.0 ≡ w.entry.number
  name : f.1.name ≡ w.entry.kid.label.name
  width : f.1.frame.rect.width ≡ w.box
  height : IsUnits f.1.frame.rect.height
  down : f.1.down ≡ w.down

placed_is : (g : Grid) (columns : View 0) (rows : View 1) (w : Wide) → IsPlaced w (grid_child g columns rows w)
placed_is g columns rows w = record { number = refl; name = refl; width = refl; height = extent_limited _ _ _ (limited _) (limited _); down = refl }

wide_numbered : (e : ℕ × Kid) (n : Entry) (w : Wide) (f : ℕ × Framed) → IsEntry e n → IsWide n w → IsPlaced w f → IsNumbered e f
wide_numbered e n w f a b c = record {
  number = ap pos (sym (c.number ∙ ap (λ (m : Entry). m.number) b.entry ∙ a.number));
  frame = record {
    name = c.name ∙ ap (λ (m : Entry). m.kid.label.name) b.entry ∙ ap (λ (k : Kid). k.label.name) a.kid;
    width = subst IsUnits (sym c.width) b.box;
    height = c.height;
    pairs = b.pairs;
    inline = b.inline;
    down = c.down ∙ b.down ∙ ap (λ (k : Kid). k.answers.down b.pairs b.inline) a.kid;
  };
}

pub grid_frames : (x : Label) (chain : List Link) (kids : List Kid) (outer : List Pair) (width : Given) (columns : View 0) (axis : TrackAxis) (height : Given)
    → EachTwo IsFrameOf kids (grid_framed (grid_by x chain kids outer width) columns axis (wide_children (grid_by x chain kids outer width) columns) height)
grid_frames x chain kids outer width columns axis height =
    let g = grid_by x chain kids outer width in
    let rows : View 1 = view_by axis height in
    let order : Kid → ℤ = λ k. k.label.grid.order in
    let ordered = in_order order kids in
    let wides = wide_children g columns in
    let siblings = map (λ (k : Kid). sibling_of k.label) kids in
    let entries_are : EachTwo IsEntry ordered g.entries = each_zipped IsEntry entry_of (λ e a. record { number = refl; kid = refl }) ordered g.placed.areas (length_areas g.context x.grid siblings ∙ length_map (λ (k : Kid). sibling_of k.label) kids ∙ sym (length_in_order order kids)) in
    let wides_are : EachTwo IsWide g.entries wides = each_zipped IsWide (wide_of g columns) (wide_is g columns) g.entries g.inlines (length_map (inline_of_entry g.pairs) g.entries) in
    let placed_are : EachTwo IsPlaced wides (map (grid_child g columns rows) wides) = each_mapped IsPlaced (grid_child g columns rows) (placed_is g columns rows) wides in
    let frames_are : EachTwo (λ (n : Entry) (f : ℕ × Framed). (w : Wide) × IsWide n w × IsPlaced w f) g.entries (map (grid_child g columns rows) wides) = each_through IsWide IsPlaced (λ (n : Entry) (f : ℕ × Framed). (w : Wide) × IsWide n w × IsPlaced w f) (λ n w f a b. (w, a, b))
    g.entries wides (map (grid_child g columns rows) wides) wides_are placed_are in
    back order kids (map (grid_child g columns rows) wides) (each_through IsEntry (λ (n : Entry) (f : ℕ × Framed). (w : Wide) × IsWide n w × IsPlaced w f) IsNumbered (λ e n f a b. wide_numbered e n b.0 f a b.1 b.2) ordered g.entries (map (grid_child g columns rows) wides) entries_are frames_are)

-- ---- flex containers

record IsMember (e : ℕ × Kid) (m : Member) : Type 0 where
  number : m.number ≡ e.0
  kid : m.kid ≡ e.1

record IsSettled (column : Bool) (m : Member) (s : Settled) : Type 0 where
  member : s.member ≡ m
  box : column ≡ true → IsUnits s.box
  inline : Given
  down : s.down ≡ m.kid.answers.down [] inline

record IsSitting (column : Bool) (s : Settled) (t : Sitting) : Type 0 where
  settled : t.settled ≡ s
  main : IsUnits t.main
  cross : (column ≡ true → IsUnits s.box) → IsUnits t.cross

-- a frame is one of this child, which knows what it knew before, or what it does at another width
record IsSat (t : Sitting) (f : ℕ × Framed) : Type 0 where
  number : f.0 ≡ t.settled.member.number
  name : f.1.name ≡ t.settled.member.kid.label.name
  width : IsUnits t.main → IsUnits t.cross → IsUnits f.1.frame.rect.width
  height : IsUnits t.main → IsUnits t.cross → IsUnits f.1.frame.rect.height
  down : (f.1.down ≡ t.settled.down) ⊎ ((g : Given) × (f.1.down ≡ t.settled.member.kid.answers.down [] g))

size_limited : (column : Bool) (container : Label) (cross : ℤ) (l : LineAt) (t : Sitting) → IsUnits t.cross → IsUnits (size_across column container cross l t)
size_limited column container cross l t h = limited_if _ _ t.cross (limited _) h

Knows : Settled → Settled → Type 0
Knows new s = (new.down ≡ s.down) ⊎ ((g : Given) × (new.down ≡ s.member.kid.answers.down [] g))

knows_if : (c : Bool) (s : Settled) (box : ℤ) → Knows (if c then s else settled_at s.member box) s
unfolding Knows
knows_if true s box = inl refl
knows_if false s box = inr ((settled_at s.member box).inline, refl)

row_is : (container : Label) (at across size : ℤ) (t : Sitting) → (IsUnits t.cross → IsUnits size) → IsSat t (row_child container at across size t)
row_is container at across size t h = record { number = refl; name = refl; width = λ m c. m; height = λ m c. h c; down = inl refl }

column_is : (container : Label) (at across size : ℤ) (t : Sitting) → (IsUnits t.cross → IsUnits size) → IsSat t (column_child container at across size t)
unfolding Knows
column_is container at across size t h = record { number = refl; name = refl; width = λ m c. h c; height = λ m c. m; down = knows_if (int_eq t.settled.box size) t.settled size }

child_if : (c : Bool) (t : Sitting) (f g : ℕ × Framed) → IsSat t f → IsSat t g → IsSat t (if c then f else g)
child_if true t f g h k = h
child_if false t f g h k = k

child_is : (column : Bool) (container : Label) (cross : ℤ) (l : LineAt) (at : ℤ) (t : Sitting) → IsSat t (flex_child column container cross l at t)
child_is column container cross l at t =
    let size = size_across column container cross l t in
    let across = place_across column container l t.settled.member.kid.label size in
    child_if column t (column_child container at across size t) (row_child container at across size t) (column_is container at across size t (size_limited column container cross l t)) (row_is container at across size t (size_limited column container cross l t))

along_is : (rest : List Sitting) (taken : List ℤ) (column : Bool) (container : Label) (cross : ℤ) (l : LineAt) (moved : ℕ → ℤ) (gap : ℤ) (k : ℕ) (at : ℤ) → length taken ≡ length rest + length rest → EachTwo IsSat rest (along_line column container cross l moved gap k at taken rest)
along_is [] [] column container cross l moved gap k at h = tt
along_is [] (t ∷ []) column container cross l moved gap k at h = tt
along_is [] (t ∷ u ∷ taken) column container cross l moved gap k at h = tt
along_is (s ∷ rest) [] column container cross l moved gap k at h = absurd (omega arith)
along_is (s ∷ rest) (t ∷ []) column container cross l moved gap k at h = absurd (omega arith)
along_is (s ∷ rest) (t ∷ u ∷ taken) column container cross l moved gap k at h =
    let g = main_grid column s.settled.member.kid.label in
    (child_is column container cross l (at +ℤ moved k +ℤ margin g.margin_start +ℤ t) s, along_is rest taken column container cross l moved gap (k + 1) (at +ℤ t +ℤ u +ℤ s.main +ℤ margins g +ℤ gap) (omega arith))

length_autos : (column : Bool) (line : List Sitting) → length (joined (map (λ (s : Sitting). auto_margins (main_grid column s.settled.member.kid.label)) line)) ≡ length line + length line
length_autos column [] = refl
length_autos column (s ∷ rest) = omega (arith, length_autos column rest)

line_is : (column : Bool) (container : Label) (main cross gap : ℤ) (l : LineAt) (line : List Sitting) → EachTwo IsSat line (line_framed column container main cross gap l line)
line_is column container main cross gap l line = along_is line _ column container cross l _ gap 0 (pos 0) (length_margins _ (joined (map (λ (s : Sitting). auto_margins (main_grid column s.settled.member.kid.label)) line)) ∙ length_autos column line)

lines_are : (sizes : List ℤ) (ranges : List (ℕ × ℕ)) (column : Bool) (container : Label) (main cross gap between : ℤ) (moved : ℕ → ℤ) (k : ℕ) (at : ℤ) (all : List Sitting) → length sizes ≡ length ranges →
    EachTwo IsSat (slices all ranges) (lines_framed column container main cross gap between moved k at sizes ranges all)
lines_are [] [] column container main cross gap between moved k at all h = tt
lines_are [] (r ∷ ranges) column container main cross gap between moved k at all h = absurd (omega arith)
lines_are (z ∷ sizes) [] column container main cross gap between moved k at all h = tt
lines_are (z ∷ sizes) (r ∷ ranges) column container main cross gap between moved k at all h =
    let l : LineAt = record { at = at +ℤ moved k; size = z } in
    let line = slice_range all r.0 r.1 in
    each_joined IsSat line (slices all ranges) (line_framed column container main cross gap l line) (lines_framed column container main cross gap between moved (k + 1) (at +ℤ z +ℤ between) sizes ranges all) (line_is column container main cross gap l line)
    (lines_are sizes ranges column container main cross gap between moved (k + 1) (at +ℤ z +ℤ between) all (omega arith))

-- from a child to its frame
down_through : (column : Bool) (kid : Kid) (m : Member) (s : Settled) (t : Sitting) (d : Down) → m.kid ≡ kid → IsSettled column m s → t.settled ≡ s → (d ≡ t.settled.down) ⊎ ((g : Given) × (d ≡ t.settled.member.kid.answers.down [] g)) → (g : Given) × (d ≡ kid.answers.down [] g)
down_through column kid m s t d a b c (inl e) = (b.inline, e ∙ ap (λ (u : Settled). u.down) c ∙ b.down ∙ ap (λ (k : Kid). k.answers.down [] b.inline) a)
down_through column kid m s t d a b c (inr e) = (e.0, e.1 ∙ ap (λ (u : Settled). u.member.kid.answers.down [] e.0) c ∙ ap (λ (u : Member). u.kid.answers.down [] e.0) b.member ∙ ap (λ (k : Kid). k.answers.down [] e.0) a)

sat_numbered : (column : Bool) (e : ℕ × Kid) (m : Member) (s : Settled) (t : Sitting) (f : ℕ × Framed) → IsMember e m → IsSettled column m s → IsSitting column s t → IsSat t f → IsNumbered e f
sat_numbered column e m s t f a b c d =
    let found = down_through column e.1 m s t f.1.down a.kid b c.settled d.down in
    let member : t.settled.member ≡ m = ap (λ (u : Settled). u.member) c.settled ∙ b.member in
    record {
      number = ap pos (sym (d.number ∙ ap (λ (u : Member). u.number) member ∙ a.number));
      frame = record {
        name = d.name ∙ ap (λ (u : Member). u.kid.label.name) member ∙ ap (λ (k : Kid). k.label.name) a.kid;
        width = d.width c.main (c.cross b.box);
        height = d.height c.main (c.cross b.box);
        pairs = [];
        inline = found.0;
        down = found.1;
      };
    }

cross_limited : (column : Bool) (cross : Option ℤ) (s : Settled) → (column ≡ true → IsUnits s.box) → IsUnits (cross_box column cross s)
cross_limited true cross s h = h refl
cross_limited false cross s h = limited _

sitting_is : (column : Bool) (cross : Option ℤ) (s : Settled) (main : ℤ) → IsSitting column s (sitting_of column cross s main)
sitting_is column cross s main = record { settled = refl; main = limited main; cross = cross_limited column cross s }

-- The frames of a flex container whose children have settled, on lines that are found with one item for each of them.
flex_frames : (column : Bool) (x : Label) (kids : List Kid) (main cross gap : ℤ) (items : List FlexItem) (settled : List Settled) → length items ≡ length settled → EachTwo (IsSettled column) (flex_by x kids).members settled
    → EachTwo IsFrameOf kids (flex_framed column (flex_by x kids) main cross (lines_by x main gap items) settled)
flex_frames column x kids main cross gap items settled few are =
    let f = flex_by x kids in
    let order : Kid → ℤ = λ k. k.label.grid.order in
    let lines = lines_by x main gap items in
    let all = zipped (sitting_of column (Some cross)) settled lines.mains in
    let sizes = crosses_of column x settled lines.ranges (Some cross) in
    let main_gap = gap_by (Some main) (pos 0) (main_grid column x).gap in
    let between = gap_by (Some cross) (pos 0) (cross_grid column x).gap in
    let a = x.content.block.distribution in
    let free = cross -ℤ gaps between (length sizes) -ℤ sum_of sizes in
    let found = lines_framed column x main cross main_gap between (λ k. content_moved (mode_of a.mode) (is_safe a) free k (length sizes)) 0 (pos 0) sizes lines.ranges all in
    let mains_few : length lines.mains ≡ length settled = length_main_sizes main gap x.content.wrap items ∙ few in
    let sat : EachTwo IsSat (slices all lines.ranges) found = lines_are sizes lines.ranges column x main cross main_gap between (λ k. content_moved (mode_of a.mode) (is_safe a) free k (length sizes)) 0 (pos 0) all (length_crosses _ lines.ranges (Some cross) _ x.content.wrap _) in
    let all_sat : EachTwo IsSat all found = subst (λ l. EachTwo IsSat l found) (slices_all all main gap x.content.wrap items (length_zipped (sitting_of column (Some cross)) settled lines.mains mains_few ∙ sym few)) sat in
    let sitting : EachTwo (IsSitting column) settled all = each_zipped (IsSitting column) (sitting_of column (Some cross)) (sitting_is column (Some cross)) settled lines.mains mains_few in
    let members : EachTwo IsMember (in_order order kids) f.members = each_mapped IsMember member_of (λ e. record { number = refl; kid = refl }) (in_order order kids) in
    let second : EachTwo (λ (s : Settled) (r : ℕ × Framed). (t : Sitting) × IsSitting column s t × IsSat t r) settled found = each_through (IsSitting column) IsSat (λ (s : Settled) (r : ℕ × Framed). (t : Sitting) × IsSitting column s t × IsSat t r) (λ s t r p q. (t, p, q)) settled all
    found sitting all_sat in
    let third : EachTwo (λ (m : Member) (r : ℕ × Framed). (s : Settled) × IsSettled column m s × ((t : Sitting) × IsSitting column s t × IsSat t r)) f.members found = each_through (IsSettled column) (λ (s : Settled) (r : ℕ × Framed). (t : Sitting) × IsSitting column s t × IsSat t r)
    (λ (m : Member) (r : ℕ × Framed). (s : Settled) × IsSettled column m s × ((t : Sitting) × IsSitting column s t × IsSat t r)) (λ m s r p q. (s, p, q)) f.members settled found are second in
    back order kids found
    (each_through IsMember (λ (m : Member) (r : ℕ × Framed). (s : Settled) × IsSettled column m s × ((t : Sitting) × IsSitting column s t × IsSat t r)) IsNumbered (λ e m r p q. sat_numbered column e m q.0 q.2.0 r p q.1 q.2.1 q.2.2) (in_order order kids) f.members found members
    third)

row_settled_is : (m : Member) (box : ℤ) → IsSettled false m (settled_at m box)
row_settled_is m box = record { member = refl; box = λ e. absurd (true≢false (sym e)); inline = (settled_at m box).inline; down = refl }

column_settled_is : (container : Label) (width : ℤ) (m : Member) → IsSettled true m (settled_at m (column_box container width m))
column_settled_is container width m = record { member = refl; box = λ e. limited _; inline = (settled_at m (column_box container width m)).inline; down = refl }

pub row_frames : (x : Label) (kids : List Kid) (width : ℤ) (height : Given) → EachTwo IsFrameOf kids (row_framed (flex_by x kids) width (row_lines (flex_by x kids) width) (row_settled (flex_by x kids) (row_lines (flex_by x kids) width)) height)
row_frames x kids width height =
    let f = flex_by x kids in
    let items = map (λ (m : Member). flex_item false (Some width) m.kid.label m.inline) f.members in
    let gap = gap_by (Some width) (pos 0) x.grid.columns.gap in
    let lines = row_lines f width in
    let few : length lines.mains ≡ length f.members = length_main_sizes width gap x.content.wrap items ∙ length_map (λ (m : Member). flex_item false (Some width) m.kid.label m.inline) f.members in
    flex_frames false x kids width (given_size height) gap items (row_settled f lines) (length_map (λ (m : Member). flex_item false (Some width) m.kid.label m.inline) f.members ∙ sym (length_zipped settled_at f.members lines.mains few))
    (each_zipped (IsSettled false) settled_at row_settled_is f.members lines.mains few)

pub column_frames : (x : Label) (kids : List Kid) (width : ℤ) (height : Given) → EachTwo IsFrameOf kids (column_framed (flex_by x kids) width (column_settled (flex_by x kids) width) height)
column_frames x kids width height =
    let f = flex_by x kids in
    let main = given_size height in
    let settled = column_settled f width in
    flex_frames true x kids main width (gap_by (Some main) (pos 0) x.grid.rows.gap) (map (column_item (Some main)) settled) settled (length_map (column_item (Some main)) settled)
    (each_mapped (IsSettled true) (λ (m : Member). settled_at m (column_box x width m)) (column_settled_is x width) f.members)

-- ---- any node

down_tells : (block : ℤ) (lent : List Item) (framed : Given → List Framed) (kids : List Kid) (t : Trees Label) → ((height : Given) → EachTwo IsFrameOf kids (framed height)) → AllTell kids t → Tells (down_of block lent framed) t
down_tells block lent framed kids t h all height at = boxes_tell (framed height) kids t (h height) all at

down_if : (c : Bool) (d e : Down) (t : Trees Label) → Tells d t → Tells e t → Tells (if c then d else e) t
down_if true d e t h k = h
down_if false d e t h k = k

kind_tells : (k : NodeKind) (x : Label) (chain : List Link) (kids : List Kid) (t : Trees Label) → IsBareLeaf k t → AllTell kids t → (pairs : List Pair) (g : Given) → Tells ((answers_by k x chain kids).down pairs g) t
kind_tells kind.Grid x chain kids t bare all pairs g =
    let grid = grid_by x chain kids pairs g in
    let columns : View 0 = view_by grid.columns g in
    let wides = wide_children grid columns in
    let rows = rows_of_grid grid wides in
    down_tells (grid_block grid rows) (grid_lends_rows grid rows) (grid_framed grid columns rows wides) kids t (grid_frames x chain kids pairs g columns rows) all
kind_tells kind.Flex x chain kids t bare all pairs g =
    let f = flex_by x kids in
    let width = given_size g in
    down_if x.content.column (column_down f width) (row_down f width) t (down_tells (column_block f (column_settled f width)) [] (column_framed f width (column_settled f width)) kids t (column_frames x kids width) all)
    (down_tells (row_block f (row_lines f width) (row_settled f (row_lines f width))) [] (row_framed f width (row_lines f width) (row_settled f (row_lines f width))) kids t (row_frames x kids width) all)
kind_tells (kind.Leaf content) x chain kids leafless bare all pairs g = λ height at. tt
kind_tells (kind.Leaf content) x chain kids (tree y below after) bare all pairs g = absurd bare

kids_tell : (above : Above) (n : ℕ) (t : Trees Label) → LeavesAreBare t → AllTell (kids_of above n t) t
kids_tell above n leafless h = tt
kids_tell above n (tree x below after) h =
    let chain = chain_of above n x in
    let lower = above_of x chain below in
    (refl, (kind_tells x.kind x chain (kids_of lower 0 below) below h.0 (kids_tell lower 0 below h.1.0), kids_tell above (n + 1) after h.1.1))

-- ---- a whole tree

root_frame : (width height : ℤ) (r : Kid) → IsFrameOf r (root_framed width height r)
root_frame width height r = record { name = refl; width = limited _; height = limited _; pairs = []; inline = root_inline r (root_width width r); down = refl }

all_told : (width height : ℤ) (x : Label) (below : Trees Label) → LeavesAreBare (tree x below leafless) → EachTwo IsBoxOf (labels_of (tree x below leafless)) (boxes width height x below)
all_told width height x below h =
    let r = root_of x below in
    boxes_tell (root_framed width height r ∷ []) (r ∷ []) (tree x below leafless) (root_frame width height r, tt) (refl, (kind_tells x.kind x [] (kids_of (above_of x [] below) 0 below) below h.0 (kids_tell (above_of x [] below) 0 below h.1.0), tt)) (pos 0, pos 0)

names_are : (xs : List Label) (told : List Box) → EachTwo IsBoxOf xs told → names_told told ≡ map (λ (x : Label). x.name) xs
names_are [] [] h = refl
names_are [] (b ∷ told) h = absurd h
names_are (x ∷ xs) [] h = absurd h
names_are (x ∷ xs) (b ∷ told) h = λ i. (h.0).name i ∷ names_are xs told h.1 i

sizes_are : (xs : List Label) (told : List Box) → EachTwo IsBoxOf xs told → AreLimited told
sizes_are [] [] h = tt
sizes_are [] (b ∷ told) h = absurd h
sizes_are (x ∷ xs) [] h = absurd h
sizes_are (x ∷ xs) (b ∷ told) h = (((h.0).width, (h.0).height), sizes_are xs told h.1)

-- The boxes of a tree name each node once, in document order.
pub each_named : (width height : ℤ) (x : Label) (below : Trees Label) → LeavesAreBare (tree x below leafless) → names_told (boxes width height x below) ≡ names_of (tree x below leafless)
each_named width height x below h = names_are (labels_of (tree x below leafless)) (boxes width height x below) (all_told width height x below h)

-- The size of each box is limited.
pub each_limited : (width height : ℤ) (x : Label) (below : Trees Label) → LeavesAreBare (tree x below leafless) → AreLimited (boxes width height x below)
each_limited width height x below h = sizes_are (labels_of (tree x below leafless)) (boxes width height x below) (all_told width height x below h)
