-- The frames of a flex container of a tree are those of the definitions, each with the child of its place.
use Rattle.std.proofs.Common.{arith, ap, ◌≡◌, ◌∙◌, sym, refl, ℕ, zero, suc, ◌+◌, ◌≤◌, ℤ, pos, Bool, true, false, List, [], ◌∷◌, length, map, subst, Option, Some, add-zero}
use Rattle.std.specs.Prelude.{slice_get, unwrap_or}
use Rattle.std.proofs.lemmas.List.{length-map}
use Rattle.node_arena.specs.declared.number.NodeId.{NodeId}
use Rattle.node_arena.specs.Numbers.{below_at, child_at, number_of, top_numbers, tops}
use Rattle.part_rules.specs.declared.flex.FlexItem.{FlexItem}
use Rattle.part_rules.specs.Lists.{zipped}
use Rattle.placing.proofs.Each.{Each}
use Rattle.placing.specs.Kept.{frame_of}
use Rattle.placing.specs.Nodes.{BareTrees, children_at, kids_at, sight_at}
use Rattle.placing.specs.declared.node.Frame.{Frame}
use Rattle.placing.specs.Ranges.{AreReadable}
use Rattle.plain_tree.specs.Trees.{Trees, leafless, tree}
use Rattle.tree_rules.proofs.Lengths.{length_in_order, length_main_sizes}
use Rattle.tree_rules.specs.Answers.{Kid}
use Rattle.tree_rules.specs.FlexSizes as rules
use Rattle.tree_rules.specs.Frames as frames
use Rattle.tree_rules.specs.Orders.{in_order, numbered_from}
use Rattle.tree_rules.specs.Repetitions.{gap_by}
use Rattle.inline_sizes.specs.Flexes.{AreMembers, IsChild, flex_seen, member_of}
use Rattle.placing.specs.declared.lined.Member.{Member}
use Rattle.block_sizes.specs.Settling.{column_boxes_seen, settled_seen}
use Rattle.box_layout.proofs.ColumnAlike.{ranges_few}
use Rattle.box_layout.proofs.FlexAlike.{each_child}
use Rattle.box_layout.proofs.Named.{told_children, told_frames}
use Rattle.box_layout.specs.FlexFrames.{AreFrames, AreStyled, column_lines_seen, column_seen, flex_told, numbered, row_seen, settled_by}

-- ---- the children by their numbers

pub tops_get : {A : Type 0} → (t : Trees (NodeId × A)) (i : ℕ) → number_of (slice_get (tops t) i) ≡ slice_get (top_numbers t) i
tops_get leafless i = refl
tops_get (tree x below after) zero = refl
tops_get (tree x below after) (suc i) = tops_get after i

numbers_all : {A : Type 0} → (d : NodeId) (get : ℕ → Option NodeId) (kids : List A) (xs : List NodeId) (k : ℕ) → ((j : ℕ) → get (k + j) ≡ slice_get xs j) → length kids ≡ length xs
    → map (λ i. unwrap_or (get i) d) (map (λ (e : ℕ × A). e.0) (numbered_from k kids)) ≡ xs
numbers_all d get [] [] k h e = refl
numbers_all d get [] (x ∷ xs) k h e = absurd (omega (arith, e))
numbers_all d get (y ∷ kids) [] k h e = absurd (omega (arith, e))
numbers_all {A} d get (y ∷ kids) (x ∷ xs) k h e =
    let here : get k ≡ Some x = ap get (sym (add-zero k)) ∙ h 0 in
    let next : (j : ℕ) → get (k + 1 + j) ≡ slice_get xs j = λ j. let place : k + 1 + j ≡ k + suc j = omega arith in ap get place ∙ h (suc j) in
    ap (λ (o : Option NodeId). unwrap_or o d ∷ map (λ i. unwrap_or (get i) d) (map (λ (f : ℕ × A). f.0) (numbered_from (k + 1) kids))) here ∙ ap (λ ns. x ∷ ns) (numbers_all d get kids xs (k + 1) next (omega (arith, e)))

numbered_children : (b : BareTrees) (n : NodeId) → length (kids_at b n) ≡ length (children_at b n) → map (numbered b n) (map (λ (e : ℕ × Kid). e.0) (numbered_from 0 (kids_at b n))) ≡ children_at b n
numbered_children b n same = numbers_all n (child_at b n) (kids_at b n) (children_at b n) 0 (λ j. let place : 0 + j ≡ j = omega arith in ap (child_at b n) place ∙ tops_get (below_at b n) j) same

-- ---- in any lines

seen_is : (b : BareTrees) (n : NodeId) → flex_seen b n ≡ rules.flex_by (sight_at b n).label (kids_at b n)
unfolding flex_seen
seen_is b n = refl

pub members_count : (b : BareTrees) (n : NodeId) → length (flex_seen b n).members ≡ length (kids_at b n)
unfolding flex_seen
members_count b n =
    let order : Kid → ℤ = λ k. k.label.grid.order in
    length-map (in_order order (kids_at b n)) rules.member_of ∙ length_in_order order (kids_at b n)

pub frames_made : (b : BareTrees) (n : NodeId) (column : Bool) (main cross gap : ℤ) (items : List FlexItem) (boxes : List ℤ) (made : List Frame) → length (kids_at b n) ≡ length (children_at b n) → length items ≡ length (kids_at b n) → length boxes ≡ length (kids_at b n)
    → made ≡ flex_told (numbered b n) column (flex_seen b n) main cross (rules.lines_by (flex_seen b n).label main gap items) (zipped rules.settled_at (flex_seen b n).members boxes)
    → AreFrames b n (frames.flex_framed column (flex_seen b n) main cross (rules.lines_by (flex_seen b n).label main gap items) (zipped rules.settled_at (flex_seen b n).members boxes)) made
frames_made b n column main cross gap items boxes made same counted boxed is =
    let By : rules.Flex → List NodeId = λ f. map (λ (g : Frame). g.child) (flex_told (numbered b n) column f main cross (rules.lines_by f.label main gap items) (zipped rules.settled_at f.members boxes)) in
    record {
      same = ap (map frame_of) is ∙ told_frames (numbered b n) column (flex_seen b n) main cross (rules.lines_by (flex_seen b n).label main gap items) (zipped rules.settled_at (flex_seen b n).members boxes);
      children = ap (map (λ (g : Frame). g.child)) is ∙ ap By (seen_is b n) ∙ told_children (numbered b n) column (sight_at b n).label (kids_at b n) main cross gap items boxes counted boxed ∙ numbered_children b n same;
    }

-- ---- settled children

pub settled_is : (b : BareTrees) (n : NodeId) (members : List Member) (boxes : List ℤ) → map (member_of b) members ≡ (flex_seen b n).members → settled_seen b n boxes ≡ settled_by b members boxes
unfolding settled_seen
settled_is b n members boxes same = ap (λ ms. zipped rules.settled_at ms boxes) (sym same)

pub told_members : (b : BareTrees) (n : NodeId) (members : List Member) → map (member_of b) members ≡ (flex_seen b n).members → length members ≡ length (kids_at b n)
told_members b n members same = sym (length-map members (member_of b)) ∙ ap length same ∙ members_count b n

zip_map : {A B C : Type 0} → (f : A → B → C) (g : A → B) (xs : List A) → zipped f xs (map g xs) ≡ map (λ x. f x (g x)) xs
zip_map f g [] = refl
zip_map f g (x ∷ xs) = ap (λ zs. f x (g x) ∷ zs) (zip_map f g xs)

-- ---- a row

abbrev row_items : BareTrees → NodeId → ℤ → List FlexItem
row_items b n width = map (λ (m : rules.Member). rules.flex_item false (Some width) m.kid.label m.inline) (flex_seen b n).members

pub row_mains : (b : BareTrees) (n : NodeId) (width : ℤ) → length (rules.row_lines (flex_seen b n) width).mains ≡ length (kids_at b n)
row_mains b n width =
    length_main_sizes width (gap_by (Some width) (pos 0) (flex_seen b n).label.grid.columns.gap) (flex_seen b n).label.content.wrap (row_items b n width)
    ∙ length-map (flex_seen b n).members (λ (m : rules.Member). rules.flex_item false (Some width) m.kid.label m.inline) ∙ members_count b n

pub row_ranges : (b : BareTrees) (n : NodeId) (width : ℤ) → length (kids_at b n) ≤ 65536 → length (rules.row_lines (flex_seen b n) width).ranges ≤ 65536
row_ranges b n width few =
    let count : length (row_items b n width) ≡ length (kids_at b n) = length-map (flex_seen b n).members (λ (m : rules.Member). rules.flex_item false (Some width) m.kid.label m.inline) ∙ members_count b n in
    omega (arith, count, few, ranges_few width (gap_by (Some width) (pos 0) (flex_seen b n).label.grid.columns.gap) (flex_seen b n).label.content.wrap (row_items b n width))

pub row_made : (b : BareTrees) (n : NodeId) (width height : ℤ) (members : List Member) (lines : rules.Lines) (made : List Frame) → length (kids_at b n) ≡ length (children_at b n) → map (member_of b) members ≡ (flex_seen b n).members → lines ≡ rules.row_lines (flex_seen b n) width
    → made ≡ flex_told (numbered b n) false (flex_seen b n) width height lines (settled_by b members lines.mains) → AreFrames b n (row_seen b n width height) made
row_made b n width height members lines made same members_is lines_is is =
    let seen : rules.Lines = rules.row_lines (flex_seen b n) width in
    let count : length (row_items b n width) ≡ length (kids_at b n) = length-map (flex_seen b n).members (λ (m : rules.Member). rules.flex_item false (Some width) m.kid.label m.inline) ∙ members_count b n in
    frames_made b n false width height (gap_by (Some width) (pos 0) (flex_seen b n).label.grid.columns.gap) (row_items b n width) seen.mains made same count (row_mains b n width)
    (is ∙ ap (λ (l : rules.Lines). flex_told (numbered b n) false (flex_seen b n) width height l (settled_by b members l.mains)) lines_is ∙ ap (λ ms. flex_told (numbered b n) false (flex_seen b n) width height seen (zipped rules.settled_at ms seen.mains)) members_is)

-- ---- a column

column_settled_is : (b : BareTrees) (n : NodeId) (width : ℤ) → zipped rules.settled_at (flex_seen b n).members (column_boxes_seen b n width) ≡ rules.column_settled (flex_seen b n) width
column_settled_is b n width = zip_map rules.settled_at (rules.column_box (flex_seen b n).label width) (flex_seen b n).members

pub column_made : (b : BareTrees) (n : NodeId) (width height : ℤ) (members : List Member) (boxes : List ℤ) (lines : rules.Lines) (made : List Frame) → length (kids_at b n) ≡ length (children_at b n) → map (member_of b) members ≡ (flex_seen b n).members → boxes ≡ column_boxes_seen b n width
    → lines ≡ column_lines_seen b n height (settled_by b members boxes) → made ≡ flex_told (numbered b n) true (flex_seen b n) height width lines (settled_by b members boxes) → AreFrames b n (column_seen b n width height) made
column_made b n width height members boxes lines made same members_is boxes_is lines_is is =
    let f : rules.Flex = flex_seen b n in
    let gap = gap_by (Some height) (pos 0) f.label.grid.rows.gap in
    let seen : List ℤ = column_boxes_seen b n width in
    let settled : List rules.Settled = zipped rules.settled_at f.members seen in
    let whole : List rules.Settled = rules.column_settled f width in
    let same_settled : settled_by b members boxes ≡ settled = ap (settled_by b members) boxes_is ∙ ap (λ ms. zipped rules.settled_at ms seen) members_is in
    let boxed : length seen ≡ length (kids_at b n) = length-map f.members (rules.column_box f.label width) ∙ members_count b n in
    let items : List FlexItem = map (rules.column_item (Some height)) settled in
    let count : length items ≡ length (kids_at b n) = length-map settled (rules.column_item (Some height)) ∙ ap length (column_settled_is b n width) ∙ length-map f.members (λ m. rules.settled_at m (rules.column_box f.label width m)) ∙ members_count b n in
    let found : AreFrames b n (frames.flex_framed true f height width (rules.lines_by f.label height gap items) settled) made =
    frames_made b n true height width gap items seen made same count boxed
    (is ∙ ap (λ (l : rules.Lines). flex_told (numbered b n) true f height width l (settled_by b members boxes)) lines_is ∙ ap (λ (ss : List rules.Settled). flex_told (numbered b n) true f height width (column_lines_seen b n height ss) ss) same_settled) in
    subst (λ (ss : List rules.Settled). AreFrames b n (frames.flex_framed true f height width (rules.lines_by f.label height gap (map (rules.column_item (Some height)) ss)) ss) made) (column_settled_is b n width) found

pub column_ranges : (b : BareTrees) (n : NodeId) (height : ℤ) (settled : List rules.Settled) → length settled ≤ 65536 → length (column_lines_seen b n height settled).ranges ≤ 65536
column_ranges b n height settled few =
    let items : List FlexItem = map (rules.column_item (Some height)) settled in
    omega (arith, few, length-map settled (rules.column_item (Some height)), ranges_few height (gap_by (Some height) (pos 0) (flex_seen b n).label.grid.rows.gap) (flex_seen b n).label.content.wrap items)

pub column_mains : (b : BareTrees) (n : NodeId) (height : ℤ) (settled : List rules.Settled) → length (column_lines_seen b n height settled).mains ≡ length settled
column_mains b n height settled =
    length_main_sizes height (gap_by (Some height) (pos 0) (flex_seen b n).label.grid.rows.gap) (flex_seen b n).label.content.wrap (map (rules.column_item (Some height)) settled) ∙ length-map settled (rules.column_item (Some height))

pub column_boxed : (b : BareTrees) (n : NodeId) (width : ℤ) → length (column_boxes_seen b n width) ≡ length (kids_at b n)
column_boxed b n width = length-map (flex_seen b n).members (rules.column_box (flex_seen b n).label width) ∙ members_count b n

-- ---- the style of each child

pub each_styled : (b : BareTrees) (n : NodeId) (members : List Member) → AreReadable b → Each (IsChild b n) members → AreStyled (map (member_of b) members)
each_styled b n [] readable h = tt
each_styled b n (m ∷ members) readable h = ((readable.nodes m.child h.0.live).grid, each_styled b n members readable h.1)

pub all_styled : (b : BareTrees) (n : NodeId) (members : List Member) → AreReadable b → AreMembers b n members → AreStyled (flex_seen b n).members
all_styled b n members readable h = subst AreStyled h.same (each_styled b n members readable (each_child (IsChild b n) members h.children))
