-- A column asks each child for its block size at the width of its frame.
use Rattle.std.proofs.Common.{arith, ap, ◌≡◌, ◌∙◌, sym, subst, refl, ℕ, zero, suc, ◌+◌, ◌<◌, ℤ, pos, ◌-◌, ◌+ℤ◌, ◌-ℤ◌, ◌≤ℤ◌, Bool, true, false, List, [], ◌∷◌, ◌++◌, drop, take, get_or, length, map, Some, if◌then◌else◌, add-zero}
use Rattle.std.specs.List.{drop-map}
use Rattle.std.specs.Prelude.{Contains, slice_get, slice_range}
use Rattle.std.proofs.lemmas.List.{drop_more, length-map}
use Rattle.std.proofs.lemmas.List.Elements.{Contains-append_right}
use Rattle.lunit.specs.Units.{IsUnits, clamp}
use Rattle.inline_sizes.proofs.InRange.{inner_units}
use Rattle.inline_sizes.proofs.Limits.{content_some, first_least, least_clamped}
use Rattle.node_arena.specs.declared.number.NodeId.{NodeId}
use Rattle.part_rules.specs.Alignment.{content_moved}
use Rattle.part_rules.specs.FlexLines.{gaps}
use Rattle.part_rules.specs.Lists.{sum_of, zipped}
use Rattle.style_types.specs.declared.value.Align.{Align}
use Rattle.tree_rules.specs.Distribution.{is_safe, mode_of}
use Rattle.placing.proofs.Each.{Each, each_map}
use Rattle.placing.proofs.Numbers.{each_sorted}
use Rattle.node_arena.specs.Numbers.{below_at, child_at}
use Rattle.placing.specs.Children.{IsNext, IsTree}
use Rattle.placing.specs.Kept.{frame_of}
use Rattle.placing.specs.Nodes.{BareTrees, IsLive, children_at, kids_at, sight_at, uses_at}
use Rattle.placing.specs.declared.node.Frame as placed
use Rattle.placing.specs.Ranges.{IsGridStyle}
use Rattle.tree_rules.specs.Answers.{Frame}
use Rattle.tree_rules.specs.AskedQueries.{ToChild, asks_frames, block_query, flex_asks_block, flex_asks_inline, flex_uses, frame_width, settled_in, uses_by}
use Rattle.tree_rules.specs.FlexSizes as rules
use Rattle.tree_rules.specs.Frames as frames
use Rattle.tree_rules.specs.Frames.{LineAt, given_box, given_size, size_across}
use Rattle.tree_rules.specs.Labels.{GridAxis, Label}
use Rattle.tree_rules.specs.NodeSizes.{Bounds, bounds_of, fitted, inner, margin, margins}
use Rattle.tree_rules.specs.Orders.{in_document_order, numbered_from, sorted_by}
use Rattle.tree_rules.specs.Repetitions.{gap_by}
use Rattle.tree_rules.specs.Queries.{IsGivenFor, needs_inline}
use Rattle.tree_rules.specs.Whole.{answers_by, column_down, flex_answers, row_down}
use Rattle.tree_rules.specs.declared.kind.NodeKind.{NodeKind}
use Rattle.tree_rules.specs.declared.kind.NodeKind.TheVariants as kind
use Rattle.tree_rules.specs.declared.query.Query.{Query}
use Rattle.inline_sizes.specs.Flexes.{flex_seen}
use Rattle.block_sizes.proofs.Leading.{contains_drop, map_drop}
use Rattle.inline_sizes.proofs.Asked.{chain_in_flex}
use Rattle.box_layout.proofs.Alike.{new_inline}
use Rattle.box_layout.proofs.Framed.{tops_get}
use Rattle.box_layout.specs.FlexFrames.{AreFrames, AreStyled, AsksWidths, column_seen}

-- ---- the question leads to each child

numbered_drop : {A : Type 0} → (j k : ℕ) (xs rest : List A) (x : A) → drop k xs ≡ x ∷ rest → drop k (numbered_from j xs) ≡ (j + k, x) ∷ numbered_from (j + k + 1) rest
numbered_drop {A} j zero xs rest x e = ap (numbered_from j) e ∙ ap (λ (i : ℕ). (i, x) ∷ numbered_from (i + 1) rest) (sym (add-zero j))
numbered_drop j (suc k) [] rest x e = absurd cc
numbered_drop {A} j (suc k) (y ∷ ys) rest x e = let place : j + 1 + k ≡ j + suc k = omega arith in numbered_drop (j + 1) k ys rest x e ∙ ap (λ (i : ℕ). (i, x) ∷ numbered_from (i + 1) rest) place

module _ (b : BareTrees) (n : NodeId) (q : Query) where
  seen_uses : (sight_at b n).label.kind ≡ kind.Flex → uses_at b n q ≡ flex_uses (rules.flex_by (sight_at b n).label (kids_at b n)) (flex_answers (sight_at b n).label (kids_at b n)) q
  seen_uses is =
      let x = (sight_at b n).label in
      ap (λ (z : NodeKind). uses_by z x (sight_at b n).chain (kids_at b n) q) is
      ∙ ap (λ (z : NodeKind). flex_uses (rules.flex_by x (kids_at b n)) (answers_by z x (sight_at b n).chain (kids_at b n)) q) is

  pub widths_lead : (width height : ℤ) (k : ℕ) (f : frames.Framed) → (sight_at b n).label.kind ≡ kind.Flex → (sight_at b n).label.content.column ≡ true → AsksWidths width height q
      → drop k (column_seen b n width height) ≡ f ∷ drop (k + 1) (column_seen b n width height) → Contains (uses_at b n q) (k, block_query false [] f.frame.inline)
  unfolding flex_seen
  widths_lead width height k f is flow asks next =
      let x = (sight_at b n).label in
      let flex : rules.Flex = rules.flex_by x (kids_at b n) in
      let w = given_size q.inline in
      let asked : ToChild = (k, block_query false [] f.frame.inline) in
      let inlines : List ToChild = map flex_asks_inline flex.members in
      let blocks : List ToChild = if needs_inline q.ask then map flex_asks_block (settled_in flex w) else [] in
      let told : List Frame = map (λ (g : frames.Framed). g.frame) (frames.column_framed flex w (rules.column_settled flex w) q.block) in
      let all : List Frame = ((flex_answers x (kids_at b n)).down q.reps q.inline).frames q.block in
      let whole : all ≡ told = ap (λ (t : Bool). (if t then column_down flex w else row_down flex w).frames q.block) flow in
      let same : told ≡ map (λ (g : frames.Framed). g.frame) (column_seen b n width height) =
      ap (λ z. map (λ (g : frames.Framed). g.frame) (frames.column_framed flex z (rules.column_settled flex z) q.block)) asks.inline
      ∙ ap (λ z. map (λ (g : frames.Framed). g.frame) (frames.flex_framed true flex z width (rules.lines_by x z (gap_by (Some z) (pos 0) x.grid.rows.gap) (map (rules.column_item (Some z)) (rules.column_settled flex width))) (rules.column_settled flex width))) asks.block in
      let there : drop k all ≡ f.frame ∷ map (λ (g : frames.Framed). g.frame) (drop (k + 1) (column_seen b n width height)) =
      ap (drop k) (whole ∙ same) ∙ map_drop (λ (g : frames.Framed). g.frame) (column_seen b n width height) (drop (k + 1) (column_seen b n width height)) k f next in
      let place : drop k (numbered_from 0 all) ≡
      (0 + k, f.frame) ∷ numbered_from (0 + k + 1) (map (λ (g : frames.Framed). g.frame) (drop (k + 1) (column_seen b n width height))) = numbered_drop 0 k all (map (λ (g : frames.Framed). g.frame) (drop (k + 1) (column_seen b n width height))) f.frame there in
      let first : 0 + k ≡ k = omega arith in
      let listed : Contains (map frame_width (numbered_from 0 all)) asked =
      subst (λ (i : ℕ). Contains (map frame_width (numbered_from 0 all)) (i, block_query false [] f.frame.inline)) first
      (contains_drop (map frame_width (numbered_from 0 all)) _ k (0 + k, block_query false [] f.frame.inline) (map_drop frame_width (numbered_from 0 all) _ k (0 + k, f.frame) place)) in
      let yes : asks_frames flex q.ask ≡ true = ap (asks_frames flex) asks.asked ∙ flow in
      subst (λ (l : List ToChild). Contains l asked) (sym (seen_uses is))
      (Contains-append_right (inlines ++ blocks) (if asks_frames flex q.ask then map frame_width (numbered_from 0 all) else []) asked
      (subst (λ (t : Bool). Contains (if t then map frame_width (numbered_from 0 all) else []) asked) (sym yes) listed))

-- ---- the width of each frame has room

fitted_least : (b : Bounds) (z : ℤ) → IsUnits b.inner → b.inner ≤ℤ clamp (fitted b z)
fitted_least b z h = least_clamped b.inner (fitted b z) h (first_least b.inner _)

chosen_least : (t : Bool) (p x y : ℤ) → p ≤ℤ x → p ≤ℤ y → p ≤ℤ (if t then x else y)
chosen_least true p x y h k = h
chosen_least false p x y h k = k

-- a child of a column with a box in which its borders and paddings have room
pub record IsRoomy (s : frames.Sitting) : Type 0 where
  pub grid : IsGridStyle s.settled.member.kid.label.grid
  pub inline : s.settled.inline ≡ given_box s.settled.member.kid.label.grid.columns s.settled.box
  pub room : inner s.settled.member.kid.label.grid.columns ≤ℤ s.cross

across_least : (x : Label) (cross : ℤ) (l : LineAt) (s : frames.Sitting) → IsRoomy s → inner s.settled.member.kid.label.grid.columns ≤ℤ size_across true x cross l s
across_least x cross l s h =
    let y = s.settled.member.kid.label in
    let b : Bounds = bounds_of (Some cross) y.content.border_box y.grid.columns y.content.inline in
    chosen_least (rules.is_stretched_across true x y) (inner y.grid.columns) (clamp (fitted b (l.size -ℤ margins y.grid.columns))) s.cross (fitted_least b _ (inner_units y.grid.columns h.grid.columns)) h.room

given_roomy : (g : GridAxis) (size : ℤ) → inner g ≤ℤ size → IsGivenFor true false 0 (given_box g size)
given_roomy g size h = content_some (inner g) size h

-- it is given a size of at least 0
abbrev pub IsOpen : frames.Framed → Type 0
IsOpen f = IsGivenFor true false 0 f.frame.inline

abbrev Opens : ℕ × frames.Framed → Type 0
Opens e = IsOpen e.1

child_open : (x : Label) (cross : ℤ) (l : LineAt) (start : ℤ) (s : frames.Sitting) → IsRoomy s → Opens (frames.flex_child true x cross l start s)
child_open x cross l start s h =
    let g = s.settled.member.kid.label.grid.columns in
    let size = size_across true x cross l s in
    subst (IsGivenFor true false 0) (sym (new_inline s.settled size h.inline)) (given_roomy g size (across_least x cross l s h))

along_open : (x : Label) (cross : ℤ) (l : LineAt) (moved : ℕ → ℤ) (gap : ℤ) (k : ℕ) (at : ℤ) (taken : List ℤ) (line : List frames.Sitting) → Each IsRoomy line → Each Opens (frames.along_line true x cross l moved gap k at taken line)
along_open x cross l moved gap k at [] line h = tt
along_open x cross l moved gap k at (t ∷ []) line h = tt
along_open x cross l moved gap k at (t ∷ u ∷ taken) [] h = tt
along_open x cross l moved gap k at (t ∷ u ∷ taken) (s ∷ rest) h =
    let g = rules.main_grid true s.settled.member.kid.label in
    (child_open x cross l (at +ℤ moved k +ℤ margin g.margin_start +ℤ t) s h.0, along_open x cross l moved gap (k + 1) (at +ℤ t +ℤ u +ℤ s.main +ℤ margins g +ℤ gap) taken rest h.1)

each_append : {A : Type 0} → (P : A → Type 0) (xs ys : List A) → Each P xs → Each P ys → Each P (xs ++ ys)
each_append P [] ys h k = k
each_append P (x ∷ xs) ys h k = (h.0, each_append P xs ys h.1 k)

each_drop : {A : Type 0} → (P : A → Type 0) (n : ℕ) (xs : List A) → Each P xs → Each P (drop n xs)
each_drop P zero xs h = h
each_drop P (suc n) [] h = tt
each_drop P (suc n) (x ∷ xs) h = each_drop P n xs h.1

each_take : {A : Type 0} → (P : A → Type 0) (n : ℕ) (xs : List A) → Each P xs → Each P (take n xs)
each_take P zero xs h = tt
each_take P (suc n) [] h = tt
each_take P (suc n) (x ∷ xs) h = (h.0, each_take P n xs h.1)

lines_open : (x : Label) (main cross gap between : ℤ) (moved : ℕ → ℤ) (k : ℕ) (at : ℤ) (sizes : List ℤ) (ranges : List (ℕ × ℕ)) (all : List frames.Sitting) → Each IsRoomy all → Each Opens (frames.lines_framed true x main cross gap between moved k at sizes ranges all)
lines_open x main cross gap between moved k at [] ranges all h = tt
lines_open x main cross gap between moved k at (z ∷ sizes) [] all h = tt
lines_open x main cross gap between moved k at (z ∷ sizes) (r ∷ ranges) all h =
    let l : LineAt = record { at = at +ℤ moved k; size = z } in
    let line : List frames.Sitting = slice_range all r.0 r.1 in
    each_append Opens (frames.line_framed true x main cross gap l line) (frames.lines_framed true x main cross gap between moved (k + 1) (at +ℤ z +ℤ between) sizes ranges all)
    (along_open x cross l _ gap 0 (pos 0) _ line (each_take IsRoomy (r.1 - r.0) (drop r.0 all) (each_drop IsRoomy r.0 all h)))
    (lines_open x main cross gap between moved (k + 1) (at +ℤ z +ℤ between) sizes ranges all h)

in_order_open : (told : List (ℕ × frames.Framed)) → Each Opens told → Each IsOpen (in_document_order told)
in_order_open told h =
    each_map (λ (e : ℕ × frames.Framed). e.1) IsOpen (sorted_by (λ (e : ℕ × frames.Framed). pos e.0) told) (each_sorted (λ (e : ℕ × frames.Framed). pos e.0) Opens told h)

roomy_all : (x : Label) (width : ℤ) (members : List rules.Member) (mains : List ℤ) → AreStyled members
    → Each IsRoomy (zipped (frames.sitting_of true (Some width)) (map (λ (m : rules.Member). rules.settled_at m (rules.column_box x width m)) members) mains)
roomy_all x width [] mains h = tt
roomy_all x width (m ∷ members) [] h = tt
roomy_all x width (m ∷ members) (z ∷ mains) h =
    let y = m.kid.label in
    let b : Bounds = bounds_of (Some width) y.content.border_box y.grid.columns y.content.inline in
    (record { grid = h.0; inline = refl; room = fitted_least b _ (inner_units y.grid.columns h.0.columns) }, roomy_all x width members mains h.1)

-- each frame of a column is given a width of at least 0
pub column_open : (b : BareTrees) (n : NodeId) (width height : ℤ) → AreStyled (flex_seen b n).members → Each IsOpen (column_seen b n width height)
column_open b n width height h =
    let f : rules.Flex = flex_seen b n in
    let x : Label = f.label in
    let gap = gap_by (Some height) (pos 0) x.grid.rows.gap in
    let between = gap_by (Some width) (pos 0) x.grid.columns.gap in
    let settled : List rules.Settled = rules.column_settled f width in
    let lines : rules.Lines = rules.lines_by x height gap (map (rules.column_item (Some height)) settled) in
    let sizes : List ℤ = rules.crosses_of true x settled lines.ranges (Some width) in
    let free = width -ℤ gaps between (length sizes) -ℤ sum_of sizes in
    let a : Align = x.content.block.distribution in
    let moved : ℕ → ℤ = λ k. content_moved (mode_of a.mode) (is_safe a) free k (length sizes) in
    let all : List frames.Sitting = zipped (frames.sitting_of true (Some width)) settled lines.mains in
    in_order_open (frames.lines_framed true x height width gap between moved 0 (pos 0) sizes lines.ranges all) (lines_open x height width gap between moved 0 (pos 0) sizes lines.ranges all (roomy_all x width f.members lines.mains h))

pub each_here : {A : Type 0} → (P : A → Type 0) (k : ℕ) (xs rest : List A) (x : A) → drop k xs ≡ x ∷ rest → Each P xs → P x
each_here P zero [] rest x e h = absurd cc
each_here P zero (y ∷ ys) rest x e h = let same : y ≡ x = cc in subst P same h.0
each_here P (suc k) [] rest x e h = absurd cc
each_here P (suc k) (y ∷ ys) rest x e h = each_here P k ys rest x e h.1

-- ---- one child

-- some frame, where a place is asked for that is there
other : placed.Frame → frames.Framed
other f = record { name = []; frame = frame_of f; down = frames.down_of (pos 0) [] (λ height. []) }

-- What is known of the child of a frame: in the tree as it was (b) and as it is (d).
pub record IsWidened (b d : BareTrees) (n : NodeId) (width height : ℤ) (k : ℕ) (made : placed.Frame) : Type 0 where
  pub framed : frames.Framed
  pub next : drop k (column_seen b n width height) ≡ framed ∷ drop (k + 1) (column_seen b n width height)
  pub inline : made.inline ≡ framed.frame.inline
  pub given : IsGivenFor true false 0 made.inline
  pub number : child_at b n k ≡ Some made.child
  pub live : IsLive d made.child
  pub none : (sight_at d made.child).chain ≡ []

frames_count : (b : BareTrees) (n : NodeId) (width height : ℤ) (made : List placed.Frame) → AreFrames b n (column_seen b n width height) made → length (column_seen b n width height) ≡ length made
frames_count b n width height made h = sym (length-map (column_seen b n width height) (λ (f : frames.Framed). f.frame)) ∙ sym (ap length h.same) ∙ length-map made frame_of

mapped_here : {A B : Type 0} → (f : A → B) (xs : List A) (ys : List B) (k : ℕ) (x : A) → map f xs ≡ ys → k < length xs → x ≡ get_or xs k x → drop k ys ≡ f x ∷ drop (k + 1) ys
mapped_here f xs ys k x e h is =
    let whole : drop k (map f xs) ≡ f x ∷ map f (drop (k + 1) xs) = map_drop f xs (drop (k + 1) xs) k x (drop_more xs k x h ∙ ap (λ z. z ∷ drop (k + 1) xs) (sym is)) in
    ap (drop k) (sym e) ∙ whole ∙ ap (λ zs. f x ∷ zs) (sym (drop-map f (k + 1) xs) ∙ ap (drop (k + 1)) e)

got_here : {A : Type 0} → (xs rest : List A) (k : ℕ) (x : A) → drop k xs ≡ x ∷ rest → slice_get xs k ≡ Some x
got_here [] rest zero x e = absurd cc
got_here [] rest (suc k) x e = absurd cc
got_here (y ∷ ys) rest zero x e = let same : y ≡ x = cc in ap Some same
got_here (y ∷ ys) rest (suc k) x e = got_here ys rest k x e

pub widened : (b d : BareTrees) (n : NodeId) (width height : ℤ) (made : List placed.Frame) (k : ℕ) (f : placed.Frame) → d ≡ b → IsTree b → (sight_at b n).label.kind ≡ kind.Flex → AreStyled (flex_seen b n).members → AreFrames b n (column_seen b n width height) made
    → k < length made → f ≡ get_or made k f → IsWidened b d n width height k f
widened b d n width height made k f same tree flex styled h less is =
    let framed : List frames.Framed = column_seen b n width height in
    let count : length framed ≡ length made = frames_count b n width height made h in
    let g : frames.Framed = get_or framed k (other f) in
    let next : drop k framed ≡ g ∷ drop (k + 1) framed = drop_more framed k (other f) (omega (arith, count, less)) in
    let here : drop k (map (λ (x : frames.Framed). x.frame) framed) ≡ frame_of f ∷ drop (k + 1) (map (λ (x : frames.Framed). x.frame) framed) = mapped_here frame_of made (map (λ (x : frames.Framed). x.frame) framed) k f h.same less is in
    let there : drop k (map (λ (x : frames.Framed). x.frame) framed) ≡ g.frame ∷ map (λ (x : frames.Framed). x.frame) (drop (k + 1) framed) = map_drop (λ (x : frames.Framed). x.frame) framed (drop (k + 1) framed) k g next in
    let frame_is : frame_of f ≡ g.frame = cc in
    let inline_is : f.inline ≡ g.frame.inline = ap (λ (z : Frame). z.inline) frame_is in
    let child_here : drop k (children_at b n) ≡ f.child ∷ drop (k + 1) (children_at b n) = mapped_here (λ (z : placed.Frame). z.child) made (children_at b n) k f h.children less is in
    let number_is : child_at b n k ≡ Some f.child = tops_get (below_at b n) k ∙ got_here (children_at b n) (drop (k + 1) (children_at b n)) k f.child child_here in
    let following : IsNext b n k f.child = tree.next n f.child k number_is in
    record {
      framed = g;
      next = next;
      inline = inline_is;
      given = subst (IsGivenFor true false 0) (sym inline_is) (each_here IsOpen k framed (drop (k + 1) framed) g next (column_open b n width height styled));
      number = number_is;
      live = subst (λ (z : BareTrees). IsLive z f.child) (sym same) following.live;
      none = subst (λ (z : BareTrees). (sight_at z f.child).chain ≡ []) (sym same) (chain_in_flex b n f.child k following flex);
    }
