-- What is asked of a leaf: its inline sizes, and its block size at a width; nothing else plays a part in such a question.
use Rattle.std.proofs.Common.{◌≡◌, refl, ap, sym, subst, ◌∙◌, ℕ, zero, suc, ◌+◌, ◌-◌, ◌<◌, ◌≤◌, ℤ, pos, ◌+ℤ◌, ◌-ℤ◌, Bool, true, false, ◌&&◌, List, [], ◌∷◌, ◌++◌, length, drop, take, map, Option, Some, None, arith, inl, inr}
use Rattle.std.specs.Prelude.{⊤, Contains, int_le, slice_index_or, slice_range, if◌then◌else◌}
use Rattle.std.specs.Ordering.{int_eq}
use Rattle.std.proofs.lemmas.Bool.{false≢true, true≢false}
use Rattle.lunit.specs.declared.geometry.Area.{Area}
use Rattle.part_rules.specs.declared.view.View.{View}
use Rattle.part_rules.specs.Alignment.{content_moved}
use Rattle.part_rules.specs.FlexLines.{gaps}
use Rattle.part_rules.specs.Lists.{sum_of, zipped}
use Rattle.tree_rules.specs.declared.kind.NodeKind.{NodeKind}
use Rattle.tree_rules.specs.declared.kind.NodeKind.TheVariants as kind
use Rattle.tree_rules.specs.declared.query.Ask.{Ask}
use Rattle.tree_rules.specs.declared.query.Ask.TheVariants as ask
use Rattle.tree_rules.specs.declared.query.Given.{Given}
use Rattle.tree_rules.specs.declared.query.Given.TheVariants as given
use Rattle.tree_rules.specs.declared.query.Query.{Query}
use Rattle.tree_rules.specs.Answers.{Answers, Frame, Kid, Pair}
use Rattle.tree_rules.specs.AskedQueries.{ToChild, all_of, asks_frames, block_query, flex_asks_block, flex_asks_inline, flex_uses, frame_width, frames_query, grid_asks_block, grid_asks_inline, grid_uses, inline_query, leads_to, pairs_below, passed_to, passes_from, settled_in, uses, uses_by}
use Rattle.tree_rules.specs.Chains.{Above, Link, chain_of, has_chain, has_subgrid, is_grid_kind, is_subgrid, link_to}
use Rattle.tree_rules.specs.Distribution.{is_safe, mode_of}
use Rattle.tree_rules.specs.Repetitions.{gap_by}
use Rattle.tree_rules.specs.FlexSizes.{Flex, Lines, Member, Settled, column_box, column_item, column_settled, cross_grid, crosses_of, flex_by, lines_by, main_grid, row_lines, row_settled, settled_at}
use Rattle.tree_rules.specs.Frames.{Framed, LineAt, Sitting, along_line, column_framed, flex_child, flex_framed, given_size, line_framed, lines_framed, row_framed, sitting_of}
use Rattle.tree_rules.specs.GridSizes.{Entry, Grid, Wide, entry_of, grid_by, pairs_for, view_by, wide_children, wide_of}
use Rattle.tree_rules.specs.Labels.{Label}
use Rattle.tree_rules.specs.Orders.{in_order, numbered_from, put_before, sorted_by}
use Rattle.tree_rules.specs.Queries.{is_container, needs_inline}
use Rattle.sparing.specs.Memory.{IsLeafQuery}
use Rattle.tree_rules.specs.Whole.{answers_by, column_down, flex_answers, row_down, step}

-- ---- facts of each item of a list

abbrev pub Every : {A : Type 0} → (A → Type 0) → List A → Type 0
Every P [] = ⊤
Every P (x ∷ xs) = P x × Every P xs

module _ {A : Type 0} (P : A → Type 0) where
  every_both : (xs ys : List A) → Every P xs → Every P ys → Every P (xs ++ ys)
  every_both [] ys p q = q
  every_both (x ∷ xs) ys p q = (p.0, every_both xs ys p.1 q)

  every_if : (c : Bool) (xs ys : List A) → Every P xs → Every P ys → Every P (if c then xs else ys)
  every_if true xs ys p q = p
  every_if false xs ys p q = q

  every_take : (n : ℕ) (xs : List A) → Every P xs → Every P (take n xs)
  every_take zero xs p = tt
  every_take (suc n) [] p = tt
  every_take (suc n) (x ∷ xs) p = (p.0, every_take n xs p.1)

  every_drop : (n : ℕ) (xs : List A) → Every P xs → Every P (drop n xs)
  every_drop zero xs p = p
  every_drop (suc n) [] p = tt
  every_drop (suc n) (x ∷ xs) p = every_drop n xs p.1

  every_range : (i j : ℕ) (xs : List A) → Every P xs → Every P (slice_range xs i j)
  every_range i j xs p = every_take (j - i) (drop i xs) (every_drop i xs p)

  every_put : (key : A → ℤ) (x : A) (xs : List A) → P x → Every P xs → Every P (put_before key x xs)
  every_put key x [] p q = (p, tt)
  every_put key x (y ∷ xs) p q = every_if (int_le (key x) (key y)) (x ∷ y ∷ xs) (y ∷ put_before key x xs) (p, q) (q.0, every_put key x xs p q.1)

  every_sorted : (key : A → ℤ) (xs : List A) → Every P xs → Every P (sorted_by key xs)
  every_sorted key [] p = tt
  every_sorted key (x ∷ xs) p = every_put key x (sorted_by key xs) p.0 (every_sorted key xs p.1)

  every_of : ((x : A) → P x) → (xs : List A) → Every P xs
  every_of f [] = tt
  every_of f (x ∷ xs) = (f x, every_of f xs)

  every_at : (xs : List A) → Every P xs → (k : ℕ) (d : A) → k < length xs → P (slice_index_or xs k d)
  every_at [] p k d l = absurd (omega arith)
  every_at (x ∷ xs) p zero d l = p.0
  every_at (x ∷ xs) p (suc k) d l = every_at xs p.1 k d (omega arith)

  -- of one of them
  pub every_one : (xs : List A) (x : A) → Every P xs → Contains xs x → P x
  every_one xs x p h = subst P h.2 (every_at xs p h.0 x h.1)

module _ {A B : Type 0} (P : A → Type 0) (Q : B → Type 0) (f : A → B) (g : (x : A) → P x → Q (f x)) where
  every_map : (xs : List A) → Every P xs → Every Q (map f xs)
  every_map [] p = tt
  every_map (x ∷ xs) p = (g x p.0, every_map xs p.1)

every_weaker : {A : Type 0} (P Q : A → Type 0) → ((x : A) → P x → Q x) → (xs : List A) → Every P xs → Every Q xs
every_weaker P Q g [] p = tt
every_weaker P Q g (x ∷ xs) p = (g x p.0, every_weaker P Q g xs p.1)

every_zipped : {A B C : Type 0} (P : A → Type 0) (Q : C → Type 0) (f : A → B → C) → ((x : A) (y : B) → P x → Q (f x y)) → (xs : List A) (ys : List B) → Every P xs → Every Q (zipped f xs ys)
every_zipped P Q f g [] ys p = tt
every_zipped P Q f g (x ∷ xs) [] p = tt
every_zipped P Q f g (x ∷ xs) (y ∷ ys) p = (g x y p.0, every_zipped P Q f g xs ys p.1)

-- ---- items by their numbers

abbrev pub nth : {A : Type 0} → ℕ → List A → Option A
nth n [] = None
nth zero (x ∷ xs) = Some x
nth (suc n) (x ∷ xs) = nth n xs

pub nth_drop : {A : Type 0} (n : ℕ) (xs : List A) (x : A) (rest : List A) → drop n xs ≡ x ∷ rest → nth n xs ≡ Some x
nth_drop zero [] x rest e = absurd (cc e)
nth_drop zero (y ∷ xs) x rest e = at e
  where
    at : y ∷ xs ≡ x ∷ rest → Some y ≡ Some x
    at h = cc
nth_drop (suc n) [] x rest e = absurd (cc e)
nth_drop (suc n) (y ∷ xs) x rest e = nth_drop n xs x rest e

-- the items of a list from a number on
abbrev IsAt : {A : Type 0} → ℕ → List A → ℕ × A → Type 0
IsAt n xs e = (n ≤ e.0) × ((i : ℕ) → e.0 ≡ n + i → nth i xs ≡ Some e.1)

at_head : {A : Type 0} (n : ℕ) (x : A) (xs : List A) (i : ℕ) → n ≡ n + i → nth i (x ∷ xs) ≡ Some x
at_head n x xs zero e = refl
at_head n x xs (suc i) e = absurd (omega (arith, e))

at_later : {A : Type 0} (n : ℕ) (x : A) (xs : List A) (e : ℕ × A) → IsAt (n + 1) xs e → IsAt n (x ∷ xs) e
at_later {A} n x xs e h = (omega (arith, h.0), by_number)
  where
    by_number : (i : ℕ) → e.0 ≡ n + i → nth i (x ∷ xs) ≡ Some e.1
    by_number zero g = absurd (omega (arith, h.0, g))
    by_number (suc i) g = h.1 i (omega (arith, g))

numbered_at : {A : Type 0} (n : ℕ) (xs : List A) → Every (IsAt n xs) (numbered_from n xs)
numbered_at n [] = tt
numbered_at n (x ∷ xs) = ((omega arith, at_head n x xs), every_weaker (IsAt (n + 1) xs) (IsAt n (x ∷ xs)) (at_later n x xs) (numbered_from (n + 1) xs) (numbered_at (n + 1) xs))

-- ---- questions to leaves

-- a size is given
abbrev pub HasWidth : Given → Type 0
HasWidth given.None = ⊥
HasWidth (given.Size width) = ⊤
HasWidth (given.Tracks edges gap) = ⊥

pub block_leaf : (g : Given) → HasWidth g → IsLeafQuery (block_query false [] g)
block_leaf given.None h = absurd h
block_leaf (given.Size width) h = inr (width, refl)
block_leaf (given.Tracks edges gap) h = absurd h

inline_plain : (c s : Bool) (pairs : List Pair) → c ≡ false → IsLeafQuery (inline_query (c && s) (if c then pairs else []))
inline_plain true s pairs e = absurd (false≢true (sym e))
inline_plain false s pairs e = inl refl

block_plain : (c s : Bool) (pairs : List Pair) (g : Given) → c ≡ false → HasWidth g → IsLeafQuery (block_query (c && s) (if c then pairs else []) g)
block_plain true s pairs g e h = absurd (false≢true (sym e))
block_plain false s pairs g e h = block_leaf g h

width_if : (c s : Bool) (shared own : ℤ × Given) → c ≡ false → HasWidth own.1 → HasWidth (if c && s then shared else own).1
width_if true s shared own e h = absurd (false≢true (sym e))
width_if false s shared own e h = h

some_same : {A : Type 0} (x y : A) → Some x ≡ Some y → x ≡ y
some_same x y e = cc

-- ---- the questions of a node to its children

module _ (kids : List Kid) where
  -- what is asked of a leaf that sees no grid above it
  abbrev pub IsPlain : ToChild → Type 0
  IsPlain t = (k : Kid) → nth t.0 kids ≡ Some k → is_container k.label.kind ≡ false → has_chain k.chain ≡ false → IsLeafQuery t.1

  -- a child with its number
  abbrev IsNumbered : ℕ × Kid → Type 0
  IsNumbered e = nth e.0 kids ≡ Some e.1

  numbered : Every IsNumbered (numbered_from 0 kids)
  numbered = every_weaker (IsAt 0 kids) IsNumbered (λ e h. h.1 e.0 (omega arith)) (numbered_from 0 kids) (numbered_at 0 kids)

  plain_of : (t : ToChild) → IsLeafQuery t.1 → IsPlain t
  plain_of t h k e leaf none = h

  -- ---- of a grid

  abbrev IsEntry : Entry → Type 0
  IsEntry n = nth n.number kids ≡ Some n.kid

  abbrev IsWide : Wide → Type 0
  IsWide w = IsEntry w.entry × (has_chain w.entry.kid.chain ≡ false → HasWidth w.inline)

  no_chain : (n : Entry) (k : Kid) → IsEntry n → nth n.number kids ≡ Some k → has_chain k.chain ≡ false → has_chain n.kid.chain ≡ false
  no_chain n k h e none = ap (λ (x : Kid). has_chain x.chain) (some_same n.kid k (sym h ∙ e)) ∙ none

  asks_inline : (g : Grid) (n : Entry) → IsEntry n → IsPlain (grid_asks_inline g n)
  asks_inline g n h k e leaf none = inline_plain (has_chain n.kid.chain) (is_subgrid n.kid.label.grid.columns.template) g.pairs (no_chain n k h e none)

  asks_block : (g : Grid) (w : Wide) → IsWide w → IsPlain (grid_asks_block g w)
  asks_block g w h k e leaf none =
      let free = no_chain w.entry k h.0 e none in
      block_plain (has_chain w.entry.kid.chain) (is_subgrid w.entry.kid.label.grid.rows.template) g.pairs w.inline free (h.1 free)

  wide_is : (g : Grid) (columns : View 0) (n : Entry) (sizes : ℤ × ℤ) → IsEntry n → IsWide (wide_of g columns n sizes)
  wide_is g columns n sizes h = (h, λ free. width_if (has_chain n.kid.chain) (is_subgrid n.kid.label.grid.columns.template) _ _ free tt)

  grid_plain : (g : Grid) (q : Query) → Every IsEntry g.entries → Every IsPlain (grid_uses g q)
  grid_plain g q h =
      let columns : View 0 = view_by g.columns q.inline in
      every_both IsPlain (map (grid_asks_inline g) g.entries) (if needs_inline q.ask then map (grid_asks_block g) (wide_children g columns) else [])
      (every_map IsEntry IsPlain (grid_asks_inline g) (asks_inline g) g.entries h)
      (every_if IsPlain (needs_inline q.ask) (map (grid_asks_block g) (wide_children g columns)) []
      (every_map IsWide IsPlain (grid_asks_block g) (asks_block g) (wide_children g columns) (every_zipped IsEntry IsWide (wide_of g columns) (wide_is g columns) g.entries g.inlines h)) tt)

  entries_of_grid : (x : Label) (chain : List Link) (outer : List Pair) (width : Given) → Every IsEntry (grid_by x chain kids outer width).entries
  entries_of_grid x chain outer width =
      every_zipped IsNumbered IsEntry entry_of (λ (e : ℕ × Kid) (a : ℕ × Area) h. h) (in_order (λ (k : Kid). k.label.grid.order) kids) (grid_by x chain kids outer width).placed.areas
      (every_sorted IsNumbered (λ (e : ℕ × Kid). e.1.label.grid.order) (numbered_from 0 kids) numbered)

  -- ---- of a flex container

  abbrev IsSettled : Settled → Type 0
  IsSettled s = HasWidth s.inline

  settled_if : (c : Bool) (s t : Settled) → IsSettled s → IsSettled t → IsSettled (if c then s else t)
  settled_if true s t p q = p
  settled_if false s t p q = q

  abbrev IsSat : Sitting → Type 0
  IsSat s = HasWidth s.settled.inline

  abbrev IsFramed : ℕ × Framed → Type 0
  IsFramed f = HasWidth f.1.frame.inline

  framed_if : (c : Bool) (f g : ℕ × Framed) → IsFramed f → IsFramed g → IsFramed (if c then f else g)
  framed_if true f g p q = p
  framed_if false f g p q = q

  child_framed : (column : Bool) (container : Label) (cross : ℤ) (l : LineAt) (at : ℤ) (s : Sitting) → IsSat s → IsFramed (flex_child column container cross l at s)
  child_framed column container cross l at s h = framed_if column _ _ (settled_if (int_eq s.settled.box _) s.settled _ h tt) h

  along_framed : (column : Bool) (container : Label) (cross : ℤ) (l : LineAt) (moved : ℕ → ℤ) (gap : ℤ) (k : ℕ) (at : ℤ) (taken : List ℤ) (rest : List Sitting) → Every IsSat rest → Every IsFramed (along_line column container cross l moved gap k at taken rest)
  along_framed column container cross l moved gap k at [] rest h = tt
  along_framed column container cross l moved gap k at (t ∷ []) rest h = tt
  along_framed column container cross l moved gap k at (t ∷ u ∷ taken) [] h = tt
  along_framed column container cross l moved gap k at (t ∷ u ∷ taken) (s ∷ rest) h = (child_framed column container cross l _ s h.0, along_framed column container cross l moved gap (k + 1) _ taken rest h.1)

  lines_of_frames : (column : Bool) (container : Label) (main cross gap between : ℤ) (moved : ℕ → ℤ) (k : ℕ) (at : ℤ) (sizes : List ℤ) (ranges : List (ℕ × ℕ)) (all : List Sitting) → Every IsSat all
      → Every IsFramed (lines_framed column container main cross gap between moved k at sizes ranges all)
  lines_of_frames column container main cross gap between moved k at [] ranges all h = tt
  lines_of_frames column container main cross gap between moved k at (size ∷ sizes) [] all h = tt
  lines_of_frames column container main cross gap between moved k at (size ∷ sizes) (range ∷ ranges) all h =
      let l : LineAt = record { at = at +ℤ moved k; size = size } in
      every_both IsFramed (line_framed column container main cross gap l (slice_range all range.0 range.1)) (lines_framed column container main cross gap between moved (k + 1) (at +ℤ size +ℤ between) sizes ranges all)
      (along_framed column container cross l _ gap 0 (pos 0) _ (slice_range all range.0 range.1) (every_range IsSat range.0 range.1 all h))
      (lines_of_frames column container main cross gap between moved (k + 1) (at +ℤ size +ℤ between) sizes ranges all h)

  abbrev IsInWidth : Framed → Type 0
  IsInWidth f = HasWidth f.frame.inline

  flex_in_width : (column : Bool) (f : Flex) (main cross : ℤ) (lines : Lines) (settled : List Settled) → Every IsSettled settled → Every IsInWidth (flex_framed column f main cross lines settled)
  flex_in_width column f main cross lines settled h =
      let x = f.label in
      let gap = gap_by (Some main) (pos 0) (main_grid column x).gap in
      let between = gap_by (Some cross) (pos 0) (cross_grid column x).gap in
      let sizes = crosses_of column x settled lines.ranges (Some cross) in
      let free = cross -ℤ gaps between (length sizes) -ℤ sum_of sizes in
      let a = x.content.block.distribution in
      let all = zipped (sitting_of column (Some cross)) settled lines.mains in
      let moved : ℕ → ℤ = λ k. content_moved (mode_of a.mode) (is_safe a) free k (length sizes) in
      let found : List (ℕ × Framed) = lines_framed column x main cross gap between moved 0 (pos 0) sizes lines.ranges all in
      let sat : Every IsSat all = every_zipped IsSettled IsSat (sitting_of column (Some cross)) (λ s m g. g) settled lines.mains h in
      every_map IsFramed IsInWidth (λ (e : ℕ × Framed). e.1) (λ e g. g) (sorted_by (λ (e : ℕ × Framed). pos e.0) found)
      (every_sorted IsFramed (λ (e : ℕ × Framed). pos e.0) found (lines_of_frames column x main cross gap between moved 0 (pos 0) sizes lines.ranges all sat))

  abbrev IsFrame : Frame → Type 0
  IsFrame f = HasWidth f.inline

  row_in_width : (f : Flex) (width : ℤ) → Every IsSettled (row_settled f (row_lines f width))
  row_in_width f width = every_zipped (λ (m : Member). ⊤) IsSettled settled_at (λ m box h. tt) f.members (row_lines f width).mains (every_of (λ (m : Member). ⊤) (λ m. tt) f.members)

  column_in_width : (f : Flex) (width : ℤ) → Every IsSettled (column_settled f width)
  column_in_width f width = every_map (λ (m : Member). ⊤) IsSettled (λ (m : Member). settled_at m (column_box f.label width m)) (λ m h. tt) f.members (every_of (λ (m : Member). ⊤) (λ m. tt) f.members)

  frames_if : (c : Bool) (f : Flex) (width : ℤ) (height : Given) → Every IsFrame ((if c then column_down f width else row_down f width).frames height)
  frames_if true f width height =
      let settled = column_settled f width in
      let main = given_size height in
      let lines = lines_by f.label main (gap_by (Some main) (pos 0) f.label.grid.rows.gap) (map (column_item (Some main)) settled) in
      every_map IsInWidth IsFrame (λ (x : Framed). x.frame) (λ x g. g) (column_framed f width settled height) (flex_in_width true f main width lines settled (column_in_width f width))
  frames_if false f width height =
      let lines = row_lines f width in
      let settled = row_settled f lines in
      every_map IsInWidth IsFrame (λ (x : Framed). x.frame) (λ x g. g) (row_framed f width lines settled height) (flex_in_width false f width (given_size height) lines settled (row_in_width f width))

  settled_plain : (f : Flex) (width : ℤ) → Every IsPlain (map flex_asks_block (settled_in f width))
  settled_plain f width =
      every_map IsSettled IsPlain flex_asks_block (λ s h. plain_of (flex_asks_block s) (block_leaf s.inline h)) (settled_in f width)
      (every_if IsSettled f.label.content.column (column_settled f width) (row_settled f (row_lines f width)) (column_in_width f width) (row_in_width f width))

  abbrev IsNumberedFrame : ℕ × Frame → Type 0
  IsNumberedFrame f = HasWidth f.1.inline

  frames_numbered : (n : ℕ) (fs : List Frame) → Every IsFrame fs → Every IsNumberedFrame (numbered_from n fs)
  frames_numbered n [] h = tt
  frames_numbered n (f ∷ fs) h = (h.0, frames_numbered (n + 1) fs h.1)

  flex_plain : (x : Label) (a : Answers) (q : Query) → a ≡ flex_answers x kids → Every IsPlain (flex_uses (flex_by x kids) a q)
  flex_plain x a q e =
      let f = flex_by x kids in
      let frames : List Frame = (a.down q.reps q.inline).frames q.block in
      let in_width : Every IsFrame frames = subst (λ (b : Answers). Every IsFrame ((b.down q.reps q.inline).frames q.block)) (sym e) (frames_if x.content.column f (given_size q.inline) q.block) in
      let inlines = map flex_asks_inline f.members in
      let blocks = map flex_asks_block (settled_in f (given_size q.inline)) in
      let widths = map frame_width (numbered_from 0 frames) in
      every_both IsPlain (inlines ++ (if needs_inline q.ask then blocks else [])) (if asks_frames f q.ask then widths else [])
      (every_both IsPlain inlines (if needs_inline q.ask then blocks else [])
      (every_map (λ (m : Member). ⊤) IsPlain flex_asks_inline (λ m h. plain_of (flex_asks_inline m) (inl refl)) f.members (every_of (λ (m : Member). ⊤) (λ m. tt) f.members))
      (every_if IsPlain (needs_inline q.ask) blocks [] (settled_plain f (given_size q.inline)) tt))
      (every_if IsPlain (asks_frames f q.ask) widths []
      (every_map IsNumberedFrame IsPlain frame_width (λ g h. plain_of (frame_width g) (block_leaf g.1.inline h)) (numbered_from 0 frames) (frames_numbered 0 frames in_width)) tt)

  -- ---- of any node

  uses_plain : (x : Label) (chain : List Link) (q : Query) (k : NodeKind) → x.kind ≡ k → Every IsPlain (uses_by k x chain kids q)
  uses_plain x chain q kind.Grid e = grid_plain (grid_by x chain kids q.reps q.inline) q (entries_of_grid x chain q.reps q.inline)
  uses_plain x chain q kind.Flex e = flex_plain x (step x chain kids) q (ap (λ (k : NodeKind). answers_by k x chain kids) e)
  uses_plain x chain q (kind.Leaf content) e = tt

  -- ---- and of frames, which pass on to containers alone

  passed_plain : (pairs : List Pair) (e : ℕ × Kid) (f : Frame) → IsNumbered e → Every IsPlain (passed_to pairs e f)
  passed_plain pairs e f h = by_kind (is_container e.1.label.kind) refl
    where
      by_kind : (c : Bool) → is_container e.1.label.kind ≡ c → Every IsPlain (if c then (e.0, frames_query (pairs_for e.1 pairs) f) ∷ [] else [])
      by_kind true is = ((λ k g leaf none. absurd (false≢true (sym leaf ∙ ap (λ (x : Kid). is_container x.label.kind) (some_same k e.1 (sym g ∙ h)) ∙ is))), tt)
      by_kind false is = tt

  all_plain : (lists : List (List ToChild)) → Every (λ l. Every IsPlain l) lists → Every IsPlain (all_of lists)
  all_plain [] h = tt
  all_plain (l ∷ lists) h = every_both IsPlain l (all_of lists) h.0 (all_plain lists h.1)

  passes_plain : (x : Label) (chain : List Link) (q : Query) (a : Ask) → Every IsPlain (passes_from a x chain kids q)
  passes_plain x chain q ask.Inline = tt
  passes_plain x chain q ask.LendColumns = tt
  passes_plain x chain q ask.Block = tt
  passes_plain x chain q ask.LendRows = tt
  passes_plain x chain q ask.Frames =
      all_plain _ (every_zipped IsNumbered (λ l. Every IsPlain l) (passed_to (pairs_below x.kind x chain kids q)) (passed_plain (pairs_below x.kind x chain kids q)) (numbered_from 0 kids) (((step x chain kids).down q.reps q.inline).frames q.block) numbered)

  -- Whatever a node asks of its children, of a leaf it asks for its inline sizes, or for its block size at a width.
  pub leads_plain : (x : Label) (chain : List Link) (q : Query) → Every IsPlain (leads_to x chain kids q)
  leads_plain x chain q = every_both IsPlain (uses x chain kids q) (passes_from q.ask x chain kids q) (uses_plain x chain q x.kind refl) (passes_plain x chain q q.ask)

-- ---- a leaf sees no grid above it

chain_if : (a s : Bool) (k : NodeKind) (links : List Link) → is_container k ≡ false → has_chain (if a && (is_grid_kind k && s) then links else []) ≡ false
chain_if a s kind.Grid links e = absurd (true≢false e)
chain_if a s kind.Flex links e = absurd (true≢false e)
chain_if true s (kind.Leaf content) links e = refl
chain_if false s (kind.Leaf content) links e = refl

pub leaf_chain : (above : Above) (n : ℕ) (x : Label) → is_container x.kind ≡ false → has_chain (chain_of above n x) ≡ false
leaf_chain above n x e = chain_if above.is_grid (has_subgrid x.grid) x.kind (link_to above n ∷ above.chain) e
