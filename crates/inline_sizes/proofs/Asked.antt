-- What a grid asks of a child, and what the child answers.
use Rattle.std.proofs.Common.{◌≡◌, ℕ, ◌+◌, ◌∷◌, ◌++◌, [], List, Bool, true, false, ◌&&◌, if◌then◌else◌, length, refl, sym, ap, ◌∙◌, subst, arith, ℤ, pos, Some, inl}
use Rattle.std.specs.Prelude.{not, OnErr, OnOk, Result, Ok, Err, IfSome, IfNone, Option, None}
use Rattle.std.proofs.lemmas.Bool.{false≢true}
use Rattle.lunit.specs.declared.item.Item.{Item}
use Rattle.node_arena.specs.Numbers.{child_at}
use Rattle.node_arena.specs.declared.number.NodeId.{NodeId}
use Rattle.part_rules.specs.declared.view.Level.{Level}
use Rattle.placing.specs.Areas.{IsPlaced}
use Rattle.placing.specs.Children.{IsNext, IsParent, IsTree}
use Rattle.placing.specs.Insides.{IsInside}
use Rattle.placing.specs.Nodes.{BareTrees, IsLive, above_at, kid_at, sight_at}
use Rattle.placing.specs.Seats.{IsSeat, context_at, context_of}
use Rattle.placing.specs.Walks.{State, Stopped, Walked, WalkedBelow}
use Rattle.placing.specs.declared.contexts.Above.{Above}
use Rattle.placing.specs.declared.contexts.Above.TheVariants as above
use Rattle.placing.specs.declared.contexts.Context.{Context}
use Rattle.placing.specs.declared.items.ChildArea.{ChildArea}
use Rattle.tree_rules.specs.Answers.{Pair}
use Rattle.tree_rules.specs.AskedQueries.{inline_query}
use Rattle.tree_rules.specs.Chains.{Link, has_chain, has_subgrid, is_grid_kind, is_subgrid}
use Rattle.tree_rules.specs.Contexts as rules
use Rattle.tree_rules.specs.GridSizes.{shares_columns}
use Rattle.tree_rules.specs.Labels.{Label}
use Rattle.tree_rules.specs.LentItems.{child_item}
use Rattle.tree_rules.specs.Places.{Seen}
use Rattle.tree_rules.specs.Queries.{Answer, Fits, answer_of, inline_sizes, lent_items, is_container, may_ask, sees_columns, sees_rows}
use Rattle.tree_rules.specs.declared.kind.NodeKind.{NodeKind}
use Rattle.tree_rules.specs.declared.kind.NodeKind.TheVariants as kind
use Rattle.tree_rules.specs.declared.query.Ask.TheVariants as ask
use Rattle.tree_rules.specs.declared.query.Query.{Query}
use Rattle.inline_sizes.specs.Grids.{IsEntry, IsLaid, asked_of, column_levels, has_subgrid_kind, items_seen, pairs_seen, sizes_seen}
use Rattle.placing.specs.Wides.{IsAbove}
use Rattle.inline_sizes.specs.GridsSeen.{HasLines}
use Rattle.inline_sizes.specs.Lifted.{IsLifted}
use Rattle.placing.specs.declared.wide.GridBase.{GridBase}

-- ---- walks

pub walked_stopped : (n : NodeId) (q : Query) (s t : State) → Walked n q s t → Stopped n q s t
walked_stopped n q s t w = record { more = 0; rest = []; walk = w.walk; within = w.within; cut = inl refl }

pub on_ok : {T E : Type 0} (r : Result T E) (P : Type 0) → P → OnOk r P
on_ok (Ok x) P p = p
on_ok (Err e) P p = tt

-- A walk that came to the children of a node, and then to its end: by what the end says of every walk that came so far.
module _ {T E : Type 0} (r : Result T E) (n : NodeId) (q : Query) (more : ℕ) (s mid t : State) (w : WalkedBelow n q more s mid) where
  pub ok_walked : OnOk r ((old : State) → WalkedBelow n q more old mid → Walked n q old t) → OnOk r (Walked n q s t)
  ok_walked = at r
    where
      at : (x : Result T E) → OnOk x ((old : State) → WalkedBelow n q more old mid → Walked n q old t) → OnOk x (Walked n q s t)
      at (Ok a) f = f s w
      at (Err e) f = tt

  pub err_stopped : OnErr r ((old : State) → WalkedBelow n q more old mid → Stopped n q old t) → OnErr r (Stopped n q s t)
  err_stopped = at r
    where
      at : (x : Result T E) → OnErr x ((old : State) → WalkedBelow n q more old mid → Stopped n q old t) → OnErr x (Stopped n q s t)
      at (Ok a) f = tt
      at (Err e) f = f s w

-- ---- answers, out of their constructors

sizes_in : ℤ × ℤ → Answer → ℤ × ℤ
sizes_in other (inline_sizes sizes) = sizes
sizes_in other a = other

pub sizes_are : (x y : ℤ × ℤ) → inline_sizes x ≡ inline_sizes y → x ≡ y
unfolding sizes_in
sizes_are x y e = ap (sizes_in x) e

items_in : List Item → Answer → List Item
items_in other (lent_items items) = items
items_in other a = other

pub items_are : (x y : List Item) → lent_items x ≡ lent_items y → x ≡ y
unfolding items_in
items_are x y e = ap (items_in x) e

-- ---- a child under a grid

pub both_true : (x y : Bool) → (x && y) ≡ true → x ≡ true
both_true true y e = refl
both_true false y e = absurd (false≢true e)

-- the chain of a child
module _ (grid : Bool) (x : Label) (link : Link) (chain : List Link) where
  chain_under : List Link
  chain_under = if grid && (is_grid_kind x.kind && has_subgrid x.grid) then link ∷ chain else []

  has_under : grid ≡ true → has_chain chain_under ≡ has_subgrid_kind x
  unfolding chain_under
  has_under e = ap (λ g. has_chain (if g && (is_grid_kind x.kind && has_subgrid x.grid) then link ∷ chain else [])) e ∙ at (is_grid_kind x.kind && has_subgrid x.grid)
    where
      at : (t : Bool) → has_chain (if t then link ∷ chain else []) ≡ t
      at true = refl
      at false = refl

  counts_under : (pairs : List Pair) → length pairs ≡ length chain + 1 → length (if has_chain chain_under then pairs else []) ≡ length chain_under
  unfolding chain_under
  counts_under pairs e = at (grid && (is_grid_kind x.kind && has_subgrid x.grid))
    where
      at : (t : Bool) → length (if has_chain (if t then link ∷ chain else []) then pairs else []) ≡ length (if t then link ∷ chain else [])
      at true = omega (arith, e)
      at false = refl

-- the levels of the context
pub levels_above : (c : rules.Context) (a : Above) → IsAbove c a → column_levels a ≡ c.columns.levels
levels_above c above.Nothing h = absurd h
levels_above c (above.Grid made) h = ap (λ (z : rules.Context). z.columns.levels) h

seat_above : (b : BareTrees) (n : NodeId) (base : GridBase) (e : ChildArea) (a : Above) → IsAbove (context_at (sight_at b n) base.pairs) a → IsPlaced b n (context_at (sight_at b n) base.pairs) base.placed →
    ((c : Context) (reps : List Pair) → context_of c ≡ context_at (sight_at b n) reps → IsPlaced b n (context_of c) base.placed → has_chain (sight_at b e.child).chain ≡ true → IsSeat (sight_at b e.child) reps (above.Grid c) e.area) →
    has_chain (sight_at b e.child).chain ≡ true → IsSeat (sight_at b e.child) base.pairs a e.area
seat_above b n base e above.Nothing h p seat some = absurd h
seat_above b n base e (above.Grid made) h p seat some = seat made base.pairs h (subst (λ z. IsPlaced b n z base.placed) (sym h) p) some

-- what holds of an entry
pub entry_here : (b : BareTrees) (n : NodeId) (base : GridBase) (e : ChildArea) → IsTree b → (sight_at b n).label.kind ≡ kind.Grid → IsLaid b n base → IsLive b e.child → child_at b n e.number ≡ Some e.child →
    ((c : rules.Context) → IsPlaced b n c base.placed → IsInside c e.area) →
    ((c : Context) (reps : List Pair) → context_of c ≡ context_at (sight_at b n) reps → IsPlaced b n (context_of c) base.placed → has_chain (sight_at b e.child).chain ≡ true → IsSeat (sight_at b e.child) reps (above.Grid c) e.area) →
    (has_chain (sight_at b e.child).chain ≡ false → IsSeat (sight_at b e.child) [] above.Nothing e.area) →
    HasLines (context_at (sight_at b n) base.pairs) →
    IsEntry b n base e
unfolding chain_under
entry_here b n base e tree is laid live number inside seat alone lines =
    let next = tree.next n e.child e.number number in
    let grid : (above_at b n).is_grid ≡ true = ap is_grid_kind is in
    record {
      live = live;
      number = number;
      smaller = next.smaller;
      chain = ap has_chain next.chain ∙ has_under (above_at b n).is_grid (sight_at b e.child).label _ (sight_at b n).chain grid;
      counts = ap (λ (l : List Link). length (if has_chain l then base.pairs else [])) next.chain
          ∙ counts_under (above_at b n).is_grid (sight_at b e.child).label _ (sight_at b n).chain base.pairs laid.counts ∙ ap length (sym next.chain);
      lifted = subst (λ (l : List Level). IsLifted l e.area.columns) (sym (levels_above (context_at (sight_at b n) base.pairs) base.above laid.context)) (lines.column_area e.area (inside (context_at (sight_at b n) base.pairs) laid.placed));
      inside = inside (context_at (sight_at b n) base.pairs) laid.placed;
      seat = seat_above b n base e base.above laid.context laid.placed seat;
      alone = alone;
    }

-- ---- a child that is a subgrid in the columns, and one that is not

module _ (b : BareTrees) (n : NodeId) (base : GridBase) (e : ChildArea) (h : IsEntry b n base e) where
  -- it is told by its own values
  pub shares_told : shares_columns (kid_at b e.child) ≡ (has_subgrid_kind (sight_at b e.child).label && is_subgrid (sight_at b e.child).label.grid.columns.template)
  shares_told = ap (λ t. t && is_subgrid (sight_at b e.child).label.grid.columns.template) h.chain

  fits_own : (shared : Bool) → sees_columns (sight_at b e.child) ≡ shared → Fits (sight_at b e.child) (inline_query shared (pairs_seen b base e))
  fits_own true is = record { ask = is; reps = h.counts; inline = refl; block = refl }
  fits_own false is = record { ask = ap not is; reps = h.counts; inline = refl; block = refl }

  -- the question fits it
  pub fits_asked : Fits (sight_at b e.child) (asked_of b base e)
  fits_asked = fits_own (sees_columns (sight_at b e.child)) refl

  pub asked_as : (shared : Bool) → shares_columns (kid_at b e.child) ≡ shared → asked_of b base e ≡ inline_query shared (pairs_seen b base e)
  asked_as shared is = ap (λ t. inline_query t (pairs_seen b base e)) is

  pub shared_chain : shares_columns (kid_at b e.child) ≡ true → has_chain (sight_at b e.child).chain ≡ true
  shared_chain is = both_true (has_chain (sight_at b e.child).chain) _ is

  pub pairs_all : has_chain (sight_at b e.child).chain ≡ true → pairs_seen b base e ≡ base.pairs
  pairs_all some = ap (λ t. if t then base.pairs else []) some

  pub pairs_none : has_chain (sight_at b e.child).chain ≡ false → pairs_seen b base e ≡ []
  pairs_none none = ap (λ t. if t then base.pairs else []) none

  -- what a subgrid in the columns is asked
  pub shared_asked : shares_columns (kid_at b e.child) ≡ true → asked_of b base e ≡ inline_query true base.pairs
  shared_asked is = asked_as true is ∙ ap (inline_query true) (pairs_all (shared_chain is))

  pub shared_fits : shares_columns (kid_at b e.child) ≡ true → Fits (sight_at b e.child) (inline_query true base.pairs)
  shared_fits is = subst (Fits (sight_at b e.child)) (shared_asked is) fits_asked

  -- and another subgrid
  pub rows_asked : shares_columns (kid_at b e.child) ≡ false → has_chain (sight_at b e.child).chain ≡ true → asked_of b base e ≡ inline_query false base.pairs
  rows_asked is some = asked_as false is ∙ ap (inline_query false) (pairs_all some)

  pub rows_fits : shares_columns (kid_at b e.child) ≡ false → has_chain (sight_at b e.child).chain ≡ true → Fits (sight_at b e.child) (inline_query false base.pairs)
  rows_fits is some = subst (Fits (sight_at b e.child)) (rows_asked is some) fits_asked

  -- and a node that is no subgrid
  pub alone_asked : shares_columns (kid_at b e.child) ≡ false → has_chain (sight_at b e.child).chain ≡ false → asked_of b base e ≡ inline_query false []
  alone_asked is none = asked_as false is ∙ ap (inline_query false) (pairs_none none)

  pub alone_fits : shares_columns (kid_at b e.child) ≡ false → has_chain (sight_at b e.child).chain ≡ false → Fits (sight_at b e.child) (inline_query false [])
  alone_fits is none = subst (Fits (sight_at b e.child)) (alone_asked is none) fits_asked

  -- ---- what it answers

  -- a child that is no subgrid in the columns, by the sizes that answer the question
  pub sizes_answered : shares_columns (kid_at b e.child) ≡ false → (reps : List Pair) (sizes : ℤ × ℤ) → pairs_seen b base e ≡ reps → inline_sizes sizes ≡ answer_of (sight_at b e.child) (inline_query false reps) → sizes ≡ sizes_seen b base e
  sizes_answered is reps sizes p v =
      sizes_are _ _ v
      ∙ ap (λ (r : List Pair). (kid_at b e.child).answers.inline r) (sym p)
      ∙ ap (λ (t : Bool). if t then (pos 0, pos 0) else (kid_at b e.child).answers.inline (pairs_seen b base e)) (sym is)

  -- a subgrid in the columns is not asked for its sizes
  pub sizes_none : shares_columns (kid_at b e.child) ≡ true → (pos 0, pos 0) ≡ sizes_seen b base e
  sizes_none is = ap (λ (t : Bool). if t then (pos 0, pos 0) else (kid_at b e.child).answers.inline (pairs_seen b base e)) (sym is)

  abbrev own : List Item
  own = child_item (context_at (sight_at b n) base.pairs).columns.levels (kid_at b e.child).label.content.border_box (kid_at b e.child).label.content.scrolls (kid_at b e.child).label.grid.columns (kid_at b e.child).label.content.inline e.area.columns (sizes_seen b base e) ∷ []

  -- the items that it lends
  pub items_lent : shares_columns (kid_at b e.child) ≡ true → (old new lent : List Item) → new ≡ old ++ lent → lent_items lent ≡ answer_of (sight_at b e.child) (inline_query true base.pairs) → new ≡ old ++ items_seen b n base e
  items_lent is old new lent grown v =
      grown ∙ ap (λ l. old ++ l) (items_are _ _ v ∙ ap (λ (t : Bool). if t then (kid_at b e.child).answers.lend_columns base.pairs else own) (sym is))

  -- its own item
  pub items_own : shares_columns (kid_at b e.child) ≡ false → IsLaid b n base → (old new : List Item) (item : Item) (sizes : ℤ × ℤ) → new ≡ old ++ item ∷ [] → sizes ≡ sizes_seen b base e →
      item ≡ child_item (column_levels base.above) (kid_at b e.child).label.content.border_box (kid_at b e.child).label.content.scrolls (kid_at b e.child).label.grid.columns (kid_at b e.child).label.content.inline e.area.columns sizes →
      new ≡ old ++ items_seen b n base e
  items_own is laid old new item sizes grown s v =
      grown ∙ ap (λ l. old ++ l) (
      ap (λ i. i ∷ []) (v ∙ (λ j. child_item (levels_above _ base.above laid.context j) (kid_at b e.child).label.content.border_box (kid_at b e.child).label.content.scrolls (kid_at b e.child).label.grid.columns (kid_at b e.child).label.content.inline e.area.columns (s j)))
      ∙ ap (λ (t : Bool). if t then (kid_at b e.child).answers.lend_columns base.pairs else own) (sym is))

-- ---- any node

-- a child of a flex container sees no grid
pub chain_in_flex : (b : BareTrees) (n c : NodeId) (index : ℕ) → IsNext b n index c → (sight_at b n).label.kind ≡ kind.Flex → (sight_at b c).chain ≡ []
chain_in_flex b n c index next is =
    next.chain ∙ ap (λ g. if g && (is_grid_kind (sight_at b c).label.kind && has_subgrid (sight_at b c).label.grid) then record { name = (above_at b n).name; grid = (above_at b n).grid; children = (above_at b n).children; way = index } ∷ (sight_at b n).chain else []) (ap is_grid_kind is)

-- the question for the sizes of a node that sees no grid fits it
pub fits_no_chain : (s : Seen) → s.chain ≡ [] → Fits s (inline_query false [])
fits_no_chain s none = record { ask = ap (λ l. not (has_chain l && is_subgrid s.label.grid.columns.template)) none; reps = sym (ap length none); inline = refl; block = refl }

-- of what fits
not_false : (t : Bool) → not t ≡ true → t ≡ false
not_false true h = absurd (false≢true h)
not_false false h = refl

pub sizes_fit : (s : Seen) (q : Query) → q.ask ≡ ask.Inline → Fits s q → sees_columns s ≡ false
sizes_fit s q is f = not_false (sees_columns s) (sym (ap (may_ask (is_container s.label.kind) (sees_columns s) (sees_rows s)) is) ∙ f.ask)

pub lent_fit : (s : Seen) (q : Query) → q.ask ≡ ask.LendColumns → Fits s q → has_chain s.chain ≡ true
lent_fit s q is f = both_true (has_chain s.chain) _ (sym (ap (may_ask (is_container s.label.kind) (sees_columns s) (sees_rows s)) is) ∙ f.ask)
