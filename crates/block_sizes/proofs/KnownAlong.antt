-- What the children of a flex container told last for its block size: what is known of a child, and what is kept.
use Rattle.std.proofs.Common.{◌≡◌, ℕ, zero, suc, ◌+◌, ◌<◌, ℤ, ◌≤ℤ◌, Bool, true, false, List, [], ◌∷◌, ◌++◌, Option, Some, None, append_assoc, arith, drop, length, map, refl, sym, ap, ◌∙◌, subst}
use Rattle.std.specs.Prelude.{IfSome, get_or, slice_get, if◌then◌else◌}
use Rattle.std.proofs.lemmas.List.{drop_more}
use Rattle.node_arena.specs.declared.number.NodeId.{NodeId}
use Rattle.node_arena.specs.Numbers.{below_at}
use Rattle.node_arena.proofs.Standing.{some_is}
use Rattle.part_rules.specs.declared.flex.FlexItem.{FlexItem}
use Rattle.part_rules.specs.Lists.{zipped}
use Rattle.placing.specs.Members.{AreInOrder, Every, IsPlace, Place, TellsAlong, along_place, along_turn, member_in, number_of}
use Rattle.placing.specs.Nodes.{BareTrees, children_at, kid_at, kids_at, sight_at}
use Rattle.placing.specs.Told.{ArePastAlong, AreToldAlong, IsPastAlong, last_turn}
use Rattle.placing.specs.declared.lined.KeptAlong.{KeptAlong}
use Rattle.placing.proofs.Stale.{some_holds}
use Rattle.lunit.specs.Units.{IsUnits}
use Rattle.std.specs.Int.{int_max}
use Rattle.std.proofs.lemmas.Int.{int_max_is, ints}
use Rattle.tree_rules.specs.NodeSizes.{inner}
use Rattle.inline_sizes.proofs.Limits.{least_clamped}
use Rattle.placing.specs.declared.lined.ColumnParts.{ColumnParts}
use Rattle.placing.specs.declared.lined.Member.{Member}
use Rattle.placing.specs.declared.lined.RowParts.{RowParts}
use Rattle.placing.specs.declared.lined.ToldAlong.{ToldAlong}
use Rattle.placing.proofs.Each.{Each}
use Rattle.placing.proofs.Numbers.{numbers_of_items}
use Rattle.tree_rules.specs.Answers.{Kid}
use Rattle.tree_rules.specs.FlexSizes as rules
use Rattle.tree_rules.specs.Labels.{Label}
use Rattle.tree_rules.specs.Orders.{in_order}
use Rattle.inline_sizes.proofs.Held.{tops_get}
use Rattle.inline_sizes.specs.Flexes.{AreMembers, IsChild, flex_seen, member_of}
use Rattle.block_sizes.proofs.HeldLines.{each_of}
use Rattle.block_sizes.proofs.Settled.{map_length, seen_length}
use Rattle.block_sizes.specs.Settling.{AreKnown, HasBlock, HasItem, IsColumn, IsKnown, IsRow, TellsBlock, along_of, alongs, block_of, row_items_seen, settled_seen}

-- ---- what is known
one_of : {A B : Type 0} (f : A → B) (P : B → Type 0) (es : List A) → Every P (map f es) → (k : ℕ) (e : A) → k < length es → e ≡ get_or es k e → P (f e)
one_of f P [] h k e l is = absurd (omega (arith, l))
one_of f P (x ∷ es) h zero e l is = subst (λ z. P (f z)) (sym is) h.0
one_of f P (x ∷ es) h (suc k) e l is = one_of f P es h.1 k e (omega (arith, l)) is

this_of : {A : Type 0} (P : A → Type 0) (es : List A) → Every P es → (k : ℕ) (e : A) → k < length es → e ≡ get_or es k e → P e
this_of P [] h k e l is = absurd (omega (arith, l))
this_of P (x ∷ es) h zero e l is = subst P (sym is) h.0
this_of P (x ∷ es) h (suc k) e l is = this_of P es h.1 k e (omega (arith, l)) is

-- the child of the same number is the same
pub known_tells : (b : BareTrees) (n : NodeId) (width : ℤ) (past : List ToldAlong) (m : Member) (k : ℕ) (e : ToldAlong) → AreKnown b n width past → IsChild b n m → k < length past → e ≡ get_or past k e → e.number ≡ m.number → e.turn < last_turn
    → TellsAlong (sight_at b n).label width (kid_at b m.child) e
known_tells b n width past m k e are child l is number few =
    let own : slice_get (children_at b n) m.number ≡ Some m.child = sym (tops_get (below_at b n) m.number) ∙ child.number in
    let there : slice_get (children_at b n) e.number ≡ Some e.child = one_of along_place (IsPlace (children_at b n)) past are.children k e l is in
    let same : e.child ≡ m.child = some_is e.child m.child (sym there ∙ ap (slice_get (children_at b n)) number ∙ own) in
    subst (λ c. TellsAlong (sight_at b n).label width (kid_at b c) e) same (this_of (λ (x : ToldAlong). along_turn x < last_turn → TellsAlong (sight_at b n).label width (kid_at b (along_place x).1) x) past are.told k e l is few)

pub past_known : (b : BareTrees) (n : NodeId) (width : ℤ) (past : List ToldAlong) → ArePastAlong b n width past → AreKnown b n width past
past_known b n width past h = record { children = h.order.children; told = h.told }

pub none_known : (b : BareTrees) (n : NodeId) (width : ℤ) (past : List ToldAlong) → past ≡ [] → AreKnown b n width past
none_known b n width past e = subst (AreKnown b n width) (sym e) (record { children = tt; told = tt })

-- the block size of a child
pub known_blocks : (b : BareTrees) (n : NodeId) (width : ℤ) (c : NodeId) (last : Option ToldAlong) → IsKnown b n width c last → IfSome last (TellsBlock (kid_at b c))
known_blocks b n width c None h = tt
known_blocks b n width c (Some e) h = h.block

pub block_known : (k : Kid) (last : Option ToldAlong) (size block : ℤ) → HasBlock last size block → IfSome last (TellsBlock k) → block ≡ (rules.settled_at (member_in k) size).down.block
block_known k None size block has h = absurd has
block_known k (Some e) size block has h = has.1 ∙ h ∙ ap (λ (x : ℤ). (rules.settled_at (member_in k) x).down.block) has.0

-- the item of a child of a row, and of a child of a column
pub row_known : (x : Label) (width : ℤ) (k : Kid) (e : ToldAlong) (m : rules.Member) → x.content.column ≡ false → TellsAlong x width k e → m.kid ≡ k → m.inline ≡ k.answers.inline [] → e.item ≡ rules.flex_item false (Some width) m.kid.label m.inline
row_known x width k e m flow h kid inline =
    h.item
    ∙ ap (λ (c : Bool). if c then rules.flex_item true None k.label (e.block, e.block) else rules.flex_item false (Some width) k.label (k.answers.inline [])) flow
    ∙ (λ i. rules.flex_item false (Some width) (sym kid i).label (sym inline i))

pub item_known : (x : Label) (width : ℤ) (k : Kid) (last : Option ToldAlong) (block : ℤ) (item : FlexItem) → x.content.column ≡ true → HasItem last block item → IfSome last (TellsAlong x width k) → item ≡ rules.flex_item true None k.label (block, block)
item_known x width k None block item flow has h = absurd has
item_known x width k (Some e) block item flow has h =
    has.1 ∙ h.item
    ∙ ap (λ (c : Bool). if c then rules.flex_item true None k.label (e.block, e.block) else rules.flex_item false (Some width) k.label (k.answers.inline [])) flow
    ∙ ap (λ (z : ℤ). rules.flex_item true None k.label (z, z)) has.0

pub size_known : (x : Label) (width : ℤ) (k : Kid) (e : ToldAlong) (m : rules.Member) → x.content.column ≡ true → TellsAlong x width k e → m.kid ≡ k → m.inline ≡ k.answers.inline [] → e.size ≡ rules.column_box x width m
size_known x width k e m flow h kid inline = h.size flow ∙ (λ i. rules.column_box x width (record { number = m.number; kid = sym kid i; inline = sym inline i }))

-- it has room for borders and paddings
at_least : (p z : ℤ) → p ≤ℤ int_max p z
at_least p z = omega (arith, ints, int_max_is p z)

pub box_room : (x : Label) (width : ℤ) (m : rules.Member) → IsUnits (inner m.kid.label.grid.columns) → inner m.kid.label.grid.columns ≤ℤ rules.column_box x width m
box_room x width m u = least_clamped (inner m.kid.label.grid.columns) _ u (at_least (inner m.kid.label.grid.columns) _)

-- what was told at this inline size
pub at_width : (b : BareTrees) (n : NodeId) (width kept : ℤ) (told : List ToldAlong) (past : Option KeptAlong) (k : KeptAlong) → past ≡ Some k → k ≡ record { width = kept; told = told } → kept ≡ width → IfSome past (IsPastAlong b n) → AreKnown b n width told
at_width b n width kept told past k e f same h =
    let is : IsPastAlong b n (record { width = kept; told = told }) = some_holds (IsPastAlong b n) past k (record { width = kept; told = told }) e (sym f) h in
    past_known b n width told (subst (λ w. ArePastAlong b n w told) same is)

-- ---- members
abbrev member_place : Member → Place
member_place m = (m.number, m.child)

module _ (b : BareTrees) (n : NodeId) where
  -- each has the sizes that the child answers
  inlines_in : (ms : List Member) (xs : List (ℕ × Kid)) → map (member_of b) ms ≡ map rules.member_of xs → Each (λ (m : Member). m.inline ≡ (kid_at b m.child).answers.inline []) ms
  inlines_in [] xs e = tt
  inlines_in (m ∷ ms) [] e = absurd cc
  inlines_in (m ∷ ms) (x ∷ xs) e =
      let first : member_of b m ≡ rules.member_of x = cc in
      let rest : map (member_of b) ms ≡ map rules.member_of xs = cc in
      (ap (λ (z : rules.Member). z.inline) first ∙ ap (λ (z : rules.Member). z.kid.answers.inline []) (sym first), inlines_in ms xs rest)

  inlines_are : (ms : List Member) → AreMembers b n ms → Each (λ (m : Member). m.inline ≡ (kid_at b m.child).answers.inline []) ms
  unfolding flex_seen
  inlines_are ms h = inlines_in ms (in_order (λ (k : Kid). k.label.grid.order) (kids_at b n)) h.same

  inline_at : (ms : List Member) → Each (λ (m : Member). m.inline ≡ (kid_at b m.child).answers.inline []) ms → (k : ℕ) (m : Member) → k < length ms → m ≡ get_or ms k m → m.inline ≡ (kid_at b m.child).answers.inline []
  inline_at [] h k m l is = absurd (omega (arith, l))
  inline_at (x ∷ ms) h zero m l is = subst (λ (z : Member). z.inline ≡ (kid_at b z.child).answers.inline []) (sym is) h.0
  inline_at (x ∷ ms) h (suc k) m l is = inline_at ms h.1 k m (omega (arith, l)) is

  pub member_inline : (ms : List Member) (k : ℕ) (m : Member) → AreMembers b n ms → k < length ms → m ≡ get_or ms k m → m.inline ≡ (kid_at b m.child).answers.inline []
  member_inline ms k m are l is = inline_at ms (inlines_are ms are) k m l is

  -- they stand in order-modified document order
  numbers_in : (ms : List Member) → map number_of (map member_place ms) ≡ map (λ (r : rules.Member). r.number) (map (member_of b) ms)
  numbers_in [] = refl
  numbers_in (m ∷ ms) = ap (λ l. m.number ∷ l) (numbers_in ms)

  numbers_of : (xs : List (ℕ × Kid)) → map (λ (r : rules.Member). r.number) (map rules.member_of xs) ≡ map (λ (e : ℕ × Kid). e.0) xs
  numbers_of [] = refl
  numbers_of (x ∷ xs) = ap (λ l. x.0 ∷ l) (numbers_of xs)

  places_in : (ms : List Member) → Each (IsChild b n) ms → Every (IsPlace (children_at b n)) (map member_place ms)
  places_in [] h = tt
  places_in (m ∷ ms) h = (sym (tops_get (below_at b n) m.number) ∙ h.0.number, places_in ms h.1)

  pub members_order : (ms : List Member) → AreMembers b n ms → AreInOrder (sight_at b n) (children_at b n) (map member_place ms)
  unfolding flex_seen
  members_order ms h =
      record {
        numbers = numbers_in ms ∙ ap (map (λ (r : rules.Member). r.number)) h.same ∙ numbers_of (in_order (λ (k : Kid). k.label.grid.order) (kids_at b n))
            ∙ sym (numbers_of_items (λ (k : Kid). k.label.grid.order) (kids_at b n));
        children = places_in ms (each_of (IsChild b n) ms h.children);
      }

-- ---- what is kept
-- one child more
pub quad_step : (dm : Member) (dx dy : ℤ) (di : FlexItem) (ms : List Member) (xs ys : List ℤ) (is : List FlexItem) (k : ℕ) (m : Member) (x y : ℤ) (i : FlexItem) (e : ToldAlong) (done pushed all : List ToldAlong) → k < length ms → length xs ≡ length ms → length ys ≡ length ms → length is ≡ length ms
    → m ≡ get_or ms k dm → x ≡ get_or xs k dx → y ≡ get_or ys k dy → i ≡ get_or is k di → e ≡ along_of m x y i → pushed ≡ done ++ e ∷ [] → done ++ alongs (drop k ms) (drop k xs) (drop k ys) (drop k is) ≡ all
    → pushed ++ alongs (drop (k + 1) ms) (drop (k + 1) xs) (drop (k + 1) ys) (drop (k + 1) is) ≡ all
quad_step dm dx dy di ms xs ys is k m x y i e done pushed all h same_x same_y same_i is_m is_x is_y is_i is_e push holds =
    let rest : List ToldAlong = alongs (drop (k + 1) ms) (drop (k + 1) xs) (drop (k + 1) ys) (drop (k + 1) is) in
    let first : alongs (drop k ms) (drop k xs) (drop k ys) (drop k is) ≡ e ∷ rest =
    ap (λ us. alongs us (drop k xs) (drop k ys) (drop k is)) (drop_more ms k dm h ∙ ap (λ u. u ∷ drop (k + 1) ms) (sym is_m))
    ∙ ap (λ us. alongs (m ∷ drop (k + 1) ms) us (drop k ys) (drop k is)) (drop_more xs k dx (omega (arith, h, same_x)) ∙ ap (λ u. u ∷ drop (k + 1) xs) (sym is_x))
    ∙ ap (λ us. alongs (m ∷ drop (k + 1) ms) (x ∷ drop (k + 1) xs) us (drop k is)) (drop_more ys k dy (omega (arith, h, same_y)) ∙ ap (λ u. u ∷ drop (k + 1) ys) (sym is_y))
    ∙ ap (alongs (m ∷ drop (k + 1) ms) (x ∷ drop (k + 1) xs) (y ∷ drop (k + 1) ys)) (drop_more is k di (omega (arith, h, same_i)) ∙ ap (λ u. u ∷ drop (k + 1) is) (sym is_i))
    ∙ ap (λ u. u ∷ rest) (sym is_e) in
    ap (λ us. us ++ rest) push ∙ append_assoc done (e ∷ []) rest ∙ sym (ap (λ us. done ++ us) first) ∙ holds

alongs_places : (ms : List Member) (xs ys : List ℤ) (is : List FlexItem) → length xs ≡ length ms → length ys ≡ length ms → length is ≡ length ms → map along_place (alongs ms xs ys is) ≡ map member_place ms
alongs_places [] xs ys is f g h = refl
alongs_places (m ∷ ms) [] ys is f g h = absurd (omega (arith, f))
alongs_places (m ∷ ms) (x ∷ xs) [] is f g h = absurd (omega (arith, g))
alongs_places (m ∷ ms) (x ∷ xs) (y ∷ ys) [] f g h = absurd (omega (arith, h))
alongs_places (m ∷ ms) (x ∷ xs) (y ∷ ys) (i ∷ is) f g h = ap (λ l. (m.number, m.child) ∷ l) (alongs_places ms xs ys is (omega (arith, f)) (omega (arith, g)) (omega (arith, h)))

module _ (b : BareTrees) (x : Label) (width : ℤ) where
  abbrev Tells : ToldAlong → Type 0
  Tells e = TellsAlong x width (kid_at b e.child) e

  -- of a row
  row_tells : x.content.column ≡ false → (ms : List Member) (mains blocks : List ℤ) (items : List FlexItem) → Each (λ (m : Member). m.inline ≡ (kid_at b m.child).answers.inline []) ms → blocks ≡ map block_of (zipped rules.settled_at (map (member_of b) ms) mains)
      → items ≡ map (λ (m : rules.Member). rules.flex_item false (Some width) m.kid.label m.inline) (map (member_of b) ms) → Every Tells (alongs ms mains blocks items)
  row_tells flow [] mains blocks items h e f = tt
  row_tells flow (m ∷ ms) [] blocks items h e f = tt
  row_tells flow (m ∷ ms) (y ∷ mains) [] items h e f = absurd cc
  row_tells flow (m ∷ ms) (y ∷ mains) (z ∷ blocks) [] h e f = absurd cc
  row_tells flow (m ∷ ms) (y ∷ mains) (z ∷ blocks) (i ∷ items) h e f =
      let block : z ≡ block_of (rules.settled_at (member_of b m) y) = cc in
      let later : blocks ≡ map block_of (zipped rules.settled_at (map (member_of b) ms) mains) = cc in
      let item : i ≡ rules.flex_item false (Some width) (kid_at b m.child).label m.inline = cc in
      let others : items ≡ map (λ (o : rules.Member). rules.flex_item false (Some width) o.kid.label o.inline) (map (member_of b) ms) = cc in (
        record {
          size = λ column. absurd (never (sym column ∙ flow));
          block = block;
          item = item
              ∙ ap (λ (s : ℤ × ℤ). rules.flex_item false (Some width) (kid_at b m.child).label s) h.0
              ∙ ap (λ (c : Bool). if c then rules.flex_item true None (kid_at b m.child).label (z, z) else rules.flex_item false (Some width) (kid_at b m.child).label ((kid_at b m.child).answers.inline [])) (sym flow);
        },
        row_tells flow ms mains blocks items h.1 later others,
      )
    where
      never : true ≡ false → ⊥
      never e = cc

  -- of a column
  column_tells : x.content.column ≡ true → (ms : List Member) (boxes blocks : List ℤ) (items : List FlexItem) → Each (λ (m : Member). m.inline ≡ (kid_at b m.child).answers.inline []) ms → boxes ≡ map (rules.column_box x width) (map (member_of b) ms)
      → blocks ≡ map block_of (zipped rules.settled_at (map (member_of b) ms) boxes) → items ≡ map (rules.column_item None) (zipped rules.settled_at (map (member_of b) ms) boxes) → Every Tells (alongs ms boxes blocks items)
  column_tells flow [] boxes blocks items h d e f = tt
  column_tells flow (m ∷ ms) [] blocks items h d e f = absurd cc
  column_tells flow (m ∷ ms) (y ∷ boxes) [] items h d e f = absurd cc
  column_tells flow (m ∷ ms) (y ∷ boxes) (z ∷ blocks) [] h d e f = absurd cc
  column_tells flow (m ∷ ms) (y ∷ boxes) (z ∷ blocks) (i ∷ items) h d e f =
      let size : y ≡ rules.column_box x width (member_of b m) = cc in
      let sizes : boxes ≡ map (rules.column_box x width) (map (member_of b) ms) = cc in
      let block : z ≡ block_of (rules.settled_at (member_of b m) y) = cc in
      let later : blocks ≡ map block_of (zipped rules.settled_at (map (member_of b) ms) boxes) = cc in
      let item : i ≡ rules.column_item None (rules.settled_at (member_of b m) y) = cc in
      let others : items ≡ map (rules.column_item None) (zipped rules.settled_at (map (member_of b) ms) boxes) = cc in (
        record {
          size = λ column. size ∙ ap (λ (s : ℤ × ℤ). rules.column_box x width (record { number = m.number; kid = kid_at b m.child; inline = s })) h.0;
          block = block;
          item = item
              ∙ ap (λ (s : ℤ). rules.flex_item true None (kid_at b m.child).label (s, s)) (sym block)
              ∙ ap (λ (c : Bool). if c then rules.flex_item true None (kid_at b m.child).label (z, z) else rules.flex_item false (Some width) (kid_at b m.child).label ((kid_at b m.child).answers.inline [])) (sym flow);
        },
        column_tells flow ms boxes blocks items h.1 sizes later others,
      )

pub row_kept : (b : BareTrees) (n : NodeId) (width : ℤ) (row : RowParts) (items : List FlexItem) → (sight_at b n).label.content.column ≡ false → IsRow b n width row → length row.lines.mains ≡ length row.members → length row.blocks ≡ length row.members → length items ≡ length row.members
    → items ≡ row_items_seen b n width → AreToldAlong b n width (alongs row.members row.lines.mains row.blocks items)
unfolding settled_seen
row_kept b n width row items flow h f g k e =
    record {
      order = subst (AreInOrder (sight_at b n) (children_at b n)) (sym (alongs_places row.members row.lines.mains row.blocks items f g k)) (members_order b n row.members h.children);
      told = row_tells b (sight_at b n).label width flow row.members row.lines.mains row.blocks items (inlines_are b n row.members h.children)
          (h.across ∙ ap (λ (ms : List rules.Member). map block_of (zipped rules.settled_at ms row.lines.mains)) (sym h.children.same))
          (e ∙ ap (map (λ (m : rules.Member). rules.flex_item false (Some width) m.kid.label m.inline)) (sym h.children.same));
    }

seen_label : (b : BareTrees) (n : NodeId) → (flex_seen b n).label ≡ (sight_at b n).label
unfolding flex_seen
seen_label b n = refl

pub column_kept : (b : BareTrees) (n : NodeId) (width : ℤ) (column : ColumnParts) (items : List FlexItem) → (sight_at b n).label.content.column ≡ true → IsColumn b n width column → length column.boxes ≡ length column.members → length column.blocks ≡ length column.members
    → length items ≡ length column.members → items ≡ map (rules.column_item None) (settled_seen b n column.boxes) → AreToldAlong b n width (alongs column.members column.boxes column.blocks items)
unfolding settled_seen
column_kept b n width column items flow h f g k e =
    record {
      order = subst (AreInOrder (sight_at b n) (children_at b n)) (sym (alongs_places column.members column.boxes column.blocks items f g k)) (members_order b n column.members h.children);
      told = column_tells b (sight_at b n).label width flow column.members column.boxes column.blocks items (inlines_are b n column.members h.children)
          (h.across ∙ (λ i. map (rules.column_box (seen_label b n i) width) (sym h.children.same i)))
          (h.along ∙ ap (λ (ms : List rules.Member). map block_of (zipped rules.settled_at ms column.boxes)) (sym h.children.same))
          (e ∙ ap (λ (ms : List rules.Member). map (rules.column_item None) (zipped rules.settled_at ms column.boxes)) (sym h.children.same));
    }

pub column_counted : (b : BareTrees) (n : NodeId) (width : ℤ) (column : ColumnParts) → IsColumn b n width column → length column.boxes ≡ length column.members
column_counted b n width column h = ap length h.across ∙ map_length (rules.column_box (flex_seen b n).label width) (flex_seen b n).members ∙ seen_length b n column.members h.children.same
