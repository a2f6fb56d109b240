-- The items that subgrids lend lie within what they span (CSS Grid 2, section 9).
use Rattle.std.proofs.Common.{arith, refl, ap, subst, sym, ◌∙◌, ◌≡◌, ℕ, ◌+◌, ◌<◌, ◌≤◌, ℤ, ◌<ℤ◌, Bool, true, false, ◌&&◌, List, [], ◌∷◌, ◌++◌, length, map, None, true≢false}
use Rattle.std.specs.Prelude.{reverse, if◌then◌else◌}
use Rattle.std.proofs.lemmas.Int.{ints}
use Rattle.std.proofs.lemmas.List.{reverse-append}
use Rattle.lunit.specs.declared.geometry.Area.{Area}
use Rattle.lunit.specs.declared.geometry.Span.{Span}
use Rattle.lunit.specs.declared.item.Item.{Item}
use Rattle.part_rules.specs.declared.view.Level.{Level}
use Rattle.part_rules.specs.declared.view.View.{View}
use Rattle.part_rules.specs.LineNames.{NamedSpan}
use Rattle.part_rules.specs.Lists.{joined, zipped}
use Rattle.plain_tree.specs.Trees.{Trees, count_of, leafless, tree}
use Rattle.tree_rules.specs.declared.kind.NodeKind.{NodeKind}
use Rattle.tree_rules.specs.declared.kind.NodeKind.TheVariants as kind
use Rattle.tree_rules.specs.declared.query.Given.{Given}
use Rattle.tree_rules.specs.declared.query.Given.TheVariants as given
use Rattle.tree_rules.specs.Answers.{Down, Kid, Pair}
use Rattle.tree_rules.specs.Chains.{Above, Link, Sibling, above_of, chain_of, has_chain, has_subgrid, is_grid_kind, is_subgrid, link_to, sibling_of, siblings_of}
use Rattle.tree_rules.specs.Contexts.{AxisContext, Context, area_of, column_cells, context_by, context_under, level_of, lower_context, named_columns, named_rows, own_context, placed_children, row_cells, shared_context, with_area}
use Rattle.tree_rules.specs.FlexSizes.{flex_by}
use Rattle.tree_rules.specs.Frames.{given_size}
use Rattle.tree_rules.specs.GridSizes.{Entry, Grid, Wide, column_items_of, entry_of, grid_by, grid_lends_columns, grid_lends_rows, pairs_for, row_items_of, rows_of_grid, shares_columns, shares_rows, view_by, wide_children, wide_of}
use Rattle.tree_rules.specs.Labels.{GridAxis, Label}
use Rattle.tree_rules.specs.LentItems.{child_item, empty_item, lifted}
use Rattle.tree_rules.specs.Orders.{in_order}
use Rattle.tree_rules.specs.Repetitions.{gap_by, own_pair}
use Rattle.tree_rules.specs.Whole.{answers_by, column_down, flex_answers, kids_of, row_down}
use Rattle.placing.proofs.Each.{Each}
use Rattle.placing.specs.Insides.{IsInside, IsWithin}
use Rattle.placing.specs.Ranges.{IsGridStyle}
use Rattle.placing.specs.Seats.{Seat, alone, seat_of, under}
use Rattle.inline_sizes.proofs.FineContexts.{HasGridStyle, IsFine, IsFineChain, area_each, areas_cut, areas_inside, context_fine, each_in_order, each_weaker, link_inside, ordered, within_span}

-- ---- where items lie

-- an item over some tracks of a span, and no others
abbrev pub IsOver : Span → Item → Type 0
IsOver b i = IsWithin b.start b.end i.span

-- a span within a greater one
over_more : (b c : Span) (i : Item) → IsWithin b.start b.end c → IsOver c i → IsOver b i
over_more b c i h k = record { low = omega (arith, ints, h.low, k.low); some = k.some; high = omega (arith, ints, h.high, k.high) }

-- items that a subgrid in this seat lends, along the columns
abbrev pub AreLentColumns : Seat → List Item → Type 0
AreLentColumns alone items = Unit {0}
AreLentColumns (under c a) items = Each (IsOver (lifted c.columns.levels a.columns)) items

-- and along the rows
abbrev pub AreLentRows : Seat → List Item → Type 0
AreLentRows alone items = Unit {0}
AreLentRows (under c a) items = Each (IsOver (lifted c.rows.levels a.rows)) items

no_columns : (s : Seat) → AreLentColumns s []
no_columns alone = tt
no_columns (under c a) = tt

no_rows : (s : Seat) → AreLentRows s []
no_rows alone = tt
no_rows (under c a) = tt

-- ---- a child

-- the links of a subgrid begin with the one to its parent
pub record IsOnWay (above : Above) (chain : List Link) : Type 0 where
  pub way : ℕ
  pub within : way < length above.children
  pub links : chain ≡ link_to above way ∷ above.chain

-- What a child that is a subgrid lends lies within what it spans.
pub record IsLender (above : Above) (k : Kid) : Type 0 where
  pub columns : shares_columns k ≡ true → (pairs : List Pair) → AreLentColumns (seat_of k.chain (reverse pairs)) (k.answers.lend_columns pairs)
  pub rows : shares_rows k ≡ true → (pairs : List Pair) (width : Given) → AreLentRows (seat_of k.chain (reverse pairs)) (k.answers.down pairs width).lend_rows
  pub way : has_chain k.chain ≡ true → IsOnWay above k.chain

first_of : (a b : Bool) → (a && b) ≡ true → a ≡ true
first_of true b h = refl
first_of false b h = h

second_of : (a b : Bool) → (a && b) ≡ true → b ≡ true
second_of true b h = h
second_of false b h = absurd (true≢false (sym h))

-- ---- lists

each_joined : {A : Type 0} → (P : A → Type 0) (xs ys : List A) → Each P xs → Each P ys → Each P (xs ++ ys)
each_joined P [] ys h k = k
each_joined P (x ∷ xs) ys h k = (h.0, each_joined P xs ys h.1 k)

all_joined : {A B C : Type 0} → (P : C → Type 0) (Q : A → Type 0) (f : A → B → List C) (xs : List A) (ys : List B) → ((x : A) (y : B) → Q x → Each P (f x y)) → Each Q xs → Each P (joined (zipped f xs ys))
all_joined P Q f [] ys g h = tt
all_joined P Q f (x ∷ xs) [] g h = tt
all_joined P Q f (x ∷ xs) (y ∷ ys) g h = each_joined P (f x y) (joined (zipped f xs ys)) (g x y h.0) (all_joined P Q f xs ys g h.1)

all_zipped : {A B C : Type 0} → (P : C → Type 0) (Q : A → Type 0) (f : A → B → C) (xs : List A) (ys : List B) → ((x : A) (y : B) → Q x → P (f x y)) → Each Q xs → Each P (zipped f xs ys)
all_zipped P Q f [] ys g h = tt
all_zipped P Q f (x ∷ xs) [] g h = tt
all_zipped P Q f (x ∷ xs) (y ∷ ys) g h = (g x y h.0, all_zipped P Q f xs ys g h.1)

map_joined : {A C : Type 0} → (P : C → Type 0) (Q : A → Type 0) (f : A → List C) (xs : List A) → ((x : A) → Q x → Each P (f x)) → Each Q xs → Each P (joined (map f xs))
map_joined P Q f [] g h = tt
map_joined P Q f (x ∷ xs) g h = each_joined P (f x) (joined (map f xs)) (g x h.0) (map_joined P Q f xs g h.1)

both_zipped : {A B C : Type 0} → (P : C → Type 0) (Q : A → Type 0) (R : B → Type 0) (f : A → B → C) (xs : List A) (ys : List B) → ((x : A) (y : B) → Q x → R y → P (f x y)) → Each Q xs → Each R ys → Each P (zipped f xs ys)
both_zipped P Q R f [] ys g h k = tt
both_zipped P Q R f (x ∷ xs) [] g h k = tt
both_zipped P Q R f (x ∷ xs) (y ∷ ys) g h k = (g x y h.0 k.0, both_zipped P Q R f xs ys g h.1 k.1)

pub right_zipped : {A B C : Type 0} → (P : C → Type 0) (R : B → Type 0) (f : A → B → C) (xs : List A) (ys : List B) → ((x : A) (y : B) → R y → P (f x y)) → Each R ys → Each P (zipped f xs ys)
right_zipped P R f [] ys g k = tt
right_zipped P R f (x ∷ xs) [] g k = tt
right_zipped P R f (x ∷ xs) (y ∷ ys) g k = (g x y k.0, right_zipped P R f xs ys g k.1)

siblings_below : (above : Above) (n : ℕ) (below : Trees Label) → map (λ (k : Kid). sibling_of k.label) (kids_of above n below) ≡ siblings_of below
siblings_below above n leafless = refl
siblings_below above n (tree x below after) = ap (λ l. sibling_of x ∷ l) (siblings_below above (n + 1) after)

own_first : (outer : List Pair) (p : Pair) → reverse (outer ++ p ∷ []) ≡ p ∷ reverse outer
own_first outer p = reverse-append outer (p ∷ [])

-- ---- a grid, whose children lend what lies within them

module _ (x : Label) (chain : List Link) (below : Trees Label) (style : IsGridStyle x.grid) (fine : IsFineChain chain)
    (children : Each HasGridStyle (siblings_of below)) (lenders : Each (IsLender (above_of x chain below)) (kids_of (above_of x chain below) 0 below)) where
  abbrev above_it : Above
  above_it = above_of x chain below

  abbrev kids : List Kid
  kids = kids_of above_it 0 below

  abbrev pub siblings : List Sibling
  siblings = map (λ (k : Kid). sibling_of k.label) kids

  abbrev pub grid_of_kids : List Pair → Given → Grid
  grid_of_kids outer width = grid_by x chain kids outer width

  abbrev context : List Pair → Context
  context pairs = context_by x.grid chain (reverse pairs)

  abbrev all_pairs : List Pair → Given → List Pair
  all_pairs outer width = outer ++ own_pair x width ∷ []

  same_siblings : siblings ≡ siblings_of below
  same_siblings = siblings_below above_it 0 below

  styled : Each HasGridStyle siblings
  styled = subst (Each HasGridStyle) (sym same_siblings) children

  pub its_context : (pairs : List Pair) → IsFine (context pairs)
  its_context pairs = context_fine x.grid chain (reverse pairs) style fine

  pub its_areas : (pairs : List Pair) → Each (IsInside (context pairs)) (areas_cut (context pairs) x.grid siblings)
  its_areas pairs = areas_inside (context pairs) x.grid siblings (its_context pairs) styled

  -- what is known of an entry, where each area has a property
  pub record IsEntryOf (P : Area → Type 0) (e : Entry) : Type 0 where
    pub lender : IsLender above_it e.kid
    pub area : P e.area

  pub entries_of : (P : Area → Type 0) (pairs : List Pair) → Each P (areas_cut (context pairs) x.grid siblings)
      → Each (IsEntryOf P) (zipped entry_of (in_order (λ (k : Kid). k.label.grid.order) kids) (placed_children (context pairs) x.grid siblings).areas)
  entries_of P pairs h =
      both_zipped (IsEntryOf P) (λ (e : ℕ × Kid). IsLender above_it e.1) (λ (a : ℕ × Area). P a.1) entry_of (in_order (λ (k : Kid). k.label.grid.order) kids) (placed_children (context pairs) x.grid siblings).areas
      (λ k a l p. record { lender = l; area = p })
      (each_in_order (IsLender above_it) (λ (k : Kid). k.label.grid.order) kids lenders)
      (right_zipped (λ (a : ℕ × Area). P a.1) P with_area (ordered siblings) (areas_cut (context pairs) x.grid siblings) (λ s a p. p) h)

  -- the seat of a child that is a subgrid
  seat_is : (pairs : List Pair) (chain_below : List Link) (w : IsOnWay above_it chain_below) → seat_of chain_below (reverse pairs) ≡ under (context pairs) (area_of (placed_children (context pairs) x.grid siblings) w.way)
  seat_is pairs chain_below w =
      ap (λ (l : List Link). seat_of l (reverse pairs)) w.links
      ∙ ap (λ (ss : List Sibling). under (context pairs) (area_of (placed_children (context pairs) x.grid ss) w.way)) (sym same_siblings)

  -- an area of such a child is one of the areas
  way_each : (P : Area → Type 0) (pairs : List Pair) (chain_below : List Link) (w : IsOnWay above_it chain_below) → Each P (areas_cut (context pairs) x.grid siblings) → P (area_of (placed_children (context pairs) x.grid siblings) w.way)
  way_each P pairs chain_below w h = area_each P (context pairs) x.grid siblings w.way (subst (λ (ss : List Sibling). w.way < length ss) (sym same_siblings) w.within) h

  -- ---- columns

  abbrev InColumns : Span → List Pair → Area → Type 0
  InColumns b pairs a = IsWithin b.start b.end (lifted (context pairs).columns.levels a.columns)

  column_entry : (b : Span) (pairs : List Pair) (e : Entry) (sizes : ℤ × ℤ) → Each (InColumns b pairs) (areas_cut (context pairs) x.grid siblings) → IsEntryOf (InColumns b pairs) e → Each (IsOver b) (column_items_of (context pairs).columns pairs e sizes)
  column_entry b pairs e sizes h k = go (shares_columns e.kid) refl
    where
      own : List Item
      own = child_item (context pairs).columns.levels e.kid.label.content.border_box e.kid.label.content.scrolls e.kid.label.grid.columns e.kid.label.content.inline e.area.columns sizes ∷ []

      lent : shares_columns e.kid ≡ true → Each (IsOver b) (e.kid.answers.lend_columns pairs)
      lent shares =
          let w : IsOnWay above_it e.kid.chain = k.lender.way (first_of (has_chain e.kid.chain) (is_subgrid e.kid.label.grid.columns.template) shares) in
          let a : Area = area_of (placed_children (context pairs) x.grid siblings) w.way in
          each_weaker (IsOver (lifted (context pairs).columns.levels a.columns)) (IsOver b) (e.kid.answers.lend_columns pairs)
          (λ i over. over_more b (lifted (context pairs).columns.levels a.columns) i (way_each (InColumns b pairs) pairs e.kid.chain w h) over)
          (subst (λ (s : Seat). AreLentColumns s (e.kid.answers.lend_columns pairs)) (seat_is pairs e.kid.chain w) (k.lender.columns shares pairs))

      go : (t : Bool) → shares_columns e.kid ≡ t → Each (IsOver b) (column_items_of (context pairs).columns pairs e sizes)
      go true same = subst (λ (t : Bool). Each (IsOver b) (if t then e.kid.answers.lend_columns pairs else own)) (sym same) (lent same)
      go false same = subst (λ (t : Bool). Each (IsOver b) (if t then e.kid.answers.lend_columns pairs else own)) (sym same) (k.area, tt)

  pub column_items : (b : Span) (outer : List Pair) (width : Given) → Each (InColumns b (all_pairs outer width)) (areas_cut (context (all_pairs outer width)) x.grid siblings) → Each (IsOver b) (grid_of_kids outer width).columns.items
  column_items b outer width h =
      let pairs : List Pair = all_pairs outer width in
      all_joined (IsOver b) (IsEntryOf (InColumns b pairs)) (column_items_of (context pairs).columns pairs) (grid_of_kids outer width).entries (grid_of_kids outer width).inlines
      (λ e sizes k. column_entry b pairs e sizes h k)
      (entries_of (InColumns b pairs) pairs h)

  -- ---- rows

  abbrev InRows : Span → List Pair → Area → Type 0
  InRows b pairs a = IsWithin b.start b.end (lifted (context pairs).rows.levels a.rows)

  -- what is known of a child with its inline size
  record IsWideOf (P : Area → Type 0) (pairs : List Pair) (w : Wide) : Type 0 where
    entry : IsEntryOf P w.entry
    given_there : Given
    there : w.down ≡ w.entry.kid.answers.down (pairs_for w.entry.kid pairs) given_there

  row_entry : (b : Span) (pairs : List Pair) (w : Wide) → Each (InRows b pairs) (areas_cut (context pairs) x.grid siblings) → IsWideOf (InRows b pairs) pairs w → Each (IsOver b) (row_items_of (context pairs).rows w.entry w.down)
  row_entry b pairs w h k = go (shares_rows e.kid) refl
    where
      e : Entry
      e = w.entry

      own : List Item
      own = child_item (context pairs).rows.levels e.kid.label.content.border_box e.kid.label.content.scrolls e.kid.label.grid.rows e.kid.label.content.block e.area.rows (w.down.block, w.down.block) ∷ []

      lent : shares_rows e.kid ≡ true → Each (IsOver b) w.down.lend_rows
      lent shares =
          let linked : has_chain e.kid.chain ≡ true = first_of (has_chain e.kid.chain) (is_subgrid e.kid.label.grid.rows.template) shares in
          let o : IsOnWay above_it e.kid.chain = k.entry.lender.way linked in
          let a : Area = area_of (placed_children (context pairs) x.grid siblings) o.way in
          let same_pairs : pairs_for e.kid pairs ≡ pairs = ap (λ (t : Bool). if t then pairs else []) linked in
          let same_down : w.down ≡ e.kid.answers.down pairs k.given_there = k.there ∙ ap (λ (ps : List Pair). e.kid.answers.down ps k.given_there) same_pairs in
          subst (λ (d : Down). Each (IsOver b) d.lend_rows) (sym same_down)
          (each_weaker (IsOver (lifted (context pairs).rows.levels a.rows)) (IsOver b) (e.kid.answers.down pairs k.given_there).lend_rows
          (λ i over. over_more b (lifted (context pairs).rows.levels a.rows) i (way_each (InRows b pairs) pairs e.kid.chain o h) over)
          (subst (λ (s : Seat). AreLentRows s (e.kid.answers.down pairs k.given_there).lend_rows) (seat_is pairs e.kid.chain o) (k.entry.lender.rows shares pairs k.given_there)))

      go : (t : Bool) → shares_rows e.kid ≡ t → Each (IsOver b) (row_items_of (context pairs).rows w.entry w.down)
      go true same = subst (λ (t : Bool). Each (IsOver b) (if t then w.down.lend_rows else own)) (sym same) (lent same)
      go false same = subst (λ (t : Bool). Each (IsOver b) (if t then w.down.lend_rows else own)) (sym same) (k.entry.area, tt)

  pub row_items : (b : Span) (outer : List Pair) (width : Given) (columns : View 0) → Each (InRows b (all_pairs outer width)) (areas_cut (context (all_pairs outer width)) x.grid siblings)
      → Each (IsOver b) (rows_of_grid (grid_of_kids outer width) (wide_children (grid_of_kids outer width) columns)).items
  row_items b outer width columns h =
      let pairs : List Pair = all_pairs outer width in
      let g : Grid = grid_of_kids outer width in
      map_joined (IsOver b) (IsWideOf (InRows b pairs) pairs) (λ (w : Wide). row_items_of (context pairs).rows w.entry w.down) (wide_children g columns)
      (λ w k. row_entry b pairs w h k)
      (all_zipped (IsWideOf (InRows b pairs) pairs) (IsEntryOf (InRows b pairs)) (wide_of g columns) g.entries g.inlines
      (λ e sizes k. record { entry = k; given_there = (wide_of g columns e sizes).inline; there = refl })
      (entries_of (InRows b pairs) pairs h))

-- ---- a subgrid in its seat

-- the levels of a subgrid are its own and those of its parent
shared_levels : (parent : AxisContext) (span : Span) (g : GridAxis) (cells : ℕ) (named : List NamedSpan) (count : ℕ) → is_subgrid g.template ≡ true → (context_under parent span g cells named count).levels ≡ level_of g span (gap_by None parent.gap g.gap) parent.gap ∷ parent.levels
shared_levels parent span g cells named count h = ap (λ (b : Bool). (if b then shared_context parent span g named else own_context g cells named count).levels) h

-- a subgrid's own item and those of its children lie within what it spans
all_lent : (c : AxisContext) (l : Level) (outer : List Level) (items : List Item) → c.levels ≡ l ∷ outer → l.span.start <ℤ l.span.end → Each (IsOver (lifted outer l.span)) items → Each (IsOver (lifted outer l.span)) (empty_item c.levels ++ items)
all_lent c l outer items e some h =
    subst (λ (ls : List Level). Each (IsOver (lifted outer l.span)) (empty_item ls ++ items)) (sym e)
    (record { low = omega (arith, ints); some = omega (arith, ints, some); high = omega (arith, ints) }, h)

module _ (x : Label) (link : Link) (chain : List Link) (below : Trees Label) (style : IsGridStyle x.grid) (fine : IsFineChain (link ∷ chain))
    (children : Each HasGridStyle (siblings_of below)) (lenders : Each (IsLender (above_of x (link ∷ chain) below)) (kids_of (above_of x (link ∷ chain) below) 0 below)) where
  abbrev parent : List Pair → Context
  parent pairs = context_by link.grid chain (reverse pairs)

  abbrev area_in : List Pair → Area
  area_in pairs = area_of (placed_children (parent pairs) link.grid link.children) link.way

  abbrev lower : List Pair → Given → Context
  lower pairs width = context_by x.grid (link ∷ chain) (reverse (pairs ++ own_pair x width ∷ []))

  lower_is : (pairs : List Pair) (width : Given) → lower pairs width ≡ lower_context (parent pairs) (area_in pairs) x.grid (own_pair x width)
  lower_is pairs width = ap (context_by x.grid (link ∷ chain)) (own_first pairs (own_pair x width))

  inside : (pairs : List Pair) → IsInside (parent pairs) (area_in pairs)
  inside pairs = link_inside (parent pairs) link (context_fine link.grid chain (reverse pairs) fine.0.grid fine.1) fine.0

  column_levels : (pairs : List Pair) (width : Given) → is_subgrid x.grid.columns.template ≡ true
      → (lower pairs width).columns.levels ≡ level_of x.grid.columns (area_in pairs).columns (gap_by None (parent pairs).columns.gap x.grid.columns.gap) (parent pairs).columns.gap ∷ (parent pairs).columns.levels
  column_levels pairs width h =
      ap (λ (c : Context). c.columns.levels) (lower_is pairs width)
      ∙ shared_levels (parent pairs).columns (area_in pairs).columns x.grid.columns (column_cells x.grid.areas) (named_columns x.grid.areas) (own_pair x width).0 h

  row_levels : (pairs : List Pair) (width : Given) → is_subgrid x.grid.rows.template ≡ true
      → (lower pairs width).rows.levels ≡ level_of x.grid.rows (area_in pairs).rows (gap_by None (parent pairs).rows.gap x.grid.rows.gap) (parent pairs).rows.gap ∷ (parent pairs).rows.levels
  row_levels pairs width h =
      ap (λ (c : Context). c.rows.levels) (lower_is pairs width)
      ∙ shared_levels (parent pairs).rows (area_in pairs).rows x.grid.rows (row_cells x.grid.areas) (named_rows x.grid.areas) (own_pair x width).1 h

  lends_columns : (pairs : List Pair) (width : Given) → is_subgrid x.grid.columns.template ≡ true → Each (IsOver (lifted (parent pairs).columns.levels (area_in pairs).columns)) (grid_lends_columns (grid_of_kids x (link ∷ chain) below style fine children lenders pairs width))
  lends_columns pairs width h =
      let c : AxisContext = (lower pairs width).columns in
      let l : Level = level_of x.grid.columns (area_in pairs).columns (gap_by None (parent pairs).columns.gap x.grid.columns.gap) (parent pairs).columns.gap in
      let outer : List Level = (parent pairs).columns.levels in
      let b : Span = lifted outer l.span in
      let all : List Pair = pairs ++ own_pair x width ∷ [] in
      all_lent c l outer (grid_of_kids x (link ∷ chain) below style fine children lenders pairs width).columns.items (column_levels pairs width h) (inside pairs).columns.some
      (column_items x (link ∷ chain) below style fine children lenders b pairs width
      (each_weaker (IsInside (lower pairs width)) (λ (a : Area). IsWithin b.start b.end (lifted c.levels a.columns)) (areas_cut (lower pairs width) x.grid (siblings x (link ∷ chain) below style fine children lenders))
      (λ a i. within_span c l outer a.columns (column_levels pairs width h) (its_context x (link ∷ chain) below style fine children lenders all).columns i.columns)
      (its_areas x (link ∷ chain) below style fine children lenders all)))

  lends_rows : (pairs : List Pair) (width : Given) (columns : View 0) → is_subgrid x.grid.rows.template ≡ true
      → Each (IsOver (lifted (parent pairs).rows.levels (area_in pairs).rows))
      (grid_lends_rows (grid_of_kids x (link ∷ chain) below style fine children lenders pairs width) (rows_of_grid (grid_of_kids x (link ∷ chain) below style fine children lenders pairs width) (wide_children (grid_of_kids x (link ∷ chain) below style fine children lenders pairs width) columns)))
  lends_rows pairs width columns h =
      let c : AxisContext = (lower pairs width).rows in
      let l : Level = level_of x.grid.rows (area_in pairs).rows (gap_by None (parent pairs).rows.gap x.grid.rows.gap) (parent pairs).rows.gap in
      let outer : List Level = (parent pairs).rows.levels in
      let b : Span = lifted outer l.span in
      let all : List Pair = pairs ++ own_pair x width ∷ [] in
      let g : Grid = grid_of_kids x (link ∷ chain) below style fine children lenders pairs width in
      all_lent c l outer (rows_of_grid g (wide_children g columns)).items (row_levels pairs width h) (inside pairs).rows.some
      (row_items x (link ∷ chain) below style fine children lenders b pairs width columns
      (each_weaker (IsInside (lower pairs width)) (λ (a : Area). IsWithin b.start b.end (lifted c.levels a.rows)) (areas_cut (lower pairs width) x.grid (siblings x (link ∷ chain) below style fine children lenders))
      (λ a i. within_span c l outer a.rows (row_levels pairs width h) (its_context x (link ∷ chain) below style fine children lenders all).rows i.rows)
      (its_areas x (link ∷ chain) below style fine children lenders all)))

-- ---- any node

-- the styles of all nodes of a tree are ones that a text reads as
abbrev pub AreStyled : Trees Label → Type 0
AreStyled leafless = Unit {0}
AreStyled (tree x below after) = IsGridStyle x.grid × (AreStyled below × AreStyled after)

-- Where it is a grid, what stands above these trees is so, and the trees are those of its children from this number on.
pub record IsFineGrid (above : Above) (n : ℕ) (t : Trees Label) : Type 0 where
  pub grid : IsGridStyle above.grid
  pub siblings : Each HasGridStyle above.children
  pub links : IsFineChain above.chain
  pub within : n + count_of t ≤ length above.children

abbrev pub IsFineAbove : Above → ℕ → Trees Label → Type 0
IsFineAbove above n t = above.is_grid ≡ true → IsFineGrid above n t

pub chain_made : (above : Above) (n : ℕ) (x : Label) (below after : Trees Label) → IsFineAbove above n (tree x below after) → IsFineChain (chain_of above n x)
chain_made above n x below after f = go above.is_grid (is_grid_kind x.kind && has_subgrid x.grid) f
  where
    go : (a b : Bool) → (a ≡ true → IsFineGrid above n (tree x below after)) → IsFineChain (if a && b then link_to above n ∷ above.chain else [])
    go true true g = let h = g refl in (record { grid = h.grid; children = h.siblings; way = omega (arith, h.within) }, h.links)
    go true false g = tt
    go false b g = tt

pub siblings_styled : (t : Trees Label) → AreStyled t → Each HasGridStyle (siblings_of t)
siblings_styled leafless h = tt
siblings_styled (tree x below after) h = (h.0, siblings_styled after h.1.1)

pub siblings_counted : (t : Trees Label) → length (siblings_of t) ≡ count_of t
siblings_counted leafless = refl
siblings_counted (tree x below after) = omega (arith, siblings_counted after)

pub fine_below : (above : Above) (n : ℕ) (x : Label) (below after : Trees Label) → IsFineAbove above n (tree x below after) → IsGridStyle x.grid → AreStyled below → IsFineAbove (above_of x (chain_of above n x) below) 0 below
fine_below above n x below after f style h e = record {
  grid = style;
  siblings = siblings_styled below h;
  links = chain_made above n x below after f;
  within = omega (arith, siblings_counted below);
}

pub fine_after : (above : Above) (n : ℕ) (x : Label) (below after : Trees Label) → IsFineAbove above n (tree x below after) → IsFineAbove above (n + 1) after
fine_after above n x below after f e = let h = f e in record { grid = h.grid; siblings = h.siblings; links = h.links; within = omega (arith, h.within) }

-- a child that is a subgrid stands on the way from its parent
on_way : (above : Above) (n : ℕ) (x : Label) (below after : Trees Label) → IsFineAbove above n (tree x below after) → has_chain (chain_of above n x) ≡ true → IsOnWay above (chain_of above n x)
on_way above n x below after f h = go above.is_grid (is_grid_kind x.kind && has_subgrid x.grid) f h
  where
    go : (a b : Bool) → (a ≡ true → IsFineGrid above n (tree x below after)) → has_chain (if a && b then link_to above n ∷ above.chain else []) ≡ true → IsOnWay above (if a && b then link_to above n ∷ above.chain else [])
    go true true g k = record { way = n; within = let w = g refl in omega (arith, w.within); links = refl }
    go true false g k = absurd (true≢false (sym k))
    go false b g k = absurd (true≢false (sym k))

flex_rows : (x : Label) (kids : List Kid) (s : Seat) (pairs : List Pair) (width : Given) → AreLentRows s ((flex_answers x kids).down pairs width).lend_rows
flex_rows x kids s pairs width = go x.content.column
  where
    go : (t : Bool) → AreLentRows s (if t then column_down (flex_by x kids) (given_size width) else row_down (flex_by x kids) (given_size width)).lend_rows
    go true = no_rows s
    go false = no_rows s

-- what a node lends, by its kind and the links upwards
lent_columns : (k : NodeKind) (x : Label) (chain : List Link) (below : Trees Label) → x.kind ≡ k → IsGridStyle x.grid → IsFineChain chain → Each HasGridStyle (siblings_of below)
    → Each (IsLender (above_of x chain below)) (kids_of (above_of x chain below) 0 below) → is_subgrid x.grid.columns.template ≡ true → (pairs : List Pair)
    → AreLentColumns (seat_of chain (reverse pairs)) ((answers_by k x chain (kids_of (above_of x chain below) 0 below)).lend_columns pairs)
lent_columns kind.Grid x [] below e style fine children lenders h pairs = tt
lent_columns kind.Grid x (link ∷ chain) below e style fine children lenders h pairs = lends_columns x link chain below style fine children lenders pairs given.None h
lent_columns kind.Flex x chain below e style fine children lenders h pairs = no_columns (seat_of chain (reverse pairs))
lent_columns (kind.Leaf content) x chain below e style fine children lenders h pairs = no_columns (seat_of chain (reverse pairs))

lent_rows : (k : NodeKind) (x : Label) (chain : List Link) (below : Trees Label) → x.kind ≡ k → IsGridStyle x.grid → IsFineChain chain → Each HasGridStyle (siblings_of below)
    → Each (IsLender (above_of x chain below)) (kids_of (above_of x chain below) 0 below) → is_subgrid x.grid.rows.template ≡ true → (pairs : List Pair) (width : Given)
    → AreLentRows (seat_of chain (reverse pairs)) ((answers_by k x chain (kids_of (above_of x chain below) 0 below)).down pairs width).lend_rows
lent_rows kind.Grid x [] below e style fine children lenders h pairs width = tt
lent_rows kind.Grid x (link ∷ chain) below e style fine children lenders h pairs width =
    lends_rows x link chain below style fine children lenders pairs width (view_by (grid_of_kids x (link ∷ chain) below style fine children lenders pairs width).columns width) h
lent_rows kind.Flex x chain below e style fine children lenders h pairs width = flex_rows x (kids_of (above_of x chain below) 0 below) (seat_of chain (reverse pairs)) pairs width
lent_rows (kind.Leaf content) x chain below e style fine children lenders h pairs width = no_rows (seat_of chain (reverse pairs))

-- Each child lends what lies within what it spans.
pub all_lenders : (above : Above) (n : ℕ) (t : Trees Label) → IsFineAbove above n t → AreStyled t → Each (IsLender above) (kids_of above n t)
all_lenders above n leafless f h = tt
all_lenders above n (tree x below after) f h =
    let chain : List Link = chain_of above n x in
    let lower : Each (IsLender (above_of x chain below)) (kids_of (above_of x chain below) 0 below) = all_lenders (above_of x chain below) 0 below (fine_below above n x below after f h.0 h.1.0) h.1.0 in
    let fine : IsFineChain chain = chain_made above n x below after f in
    let children : Each HasGridStyle (siblings_of below) = siblings_styled below h.1.0 in (
      record {
        columns = λ shares pairs. lent_columns x.kind x chain below refl h.0 fine children lower (second_of (has_chain chain) (is_subgrid x.grid.columns.template) shares) pairs;
        rows = λ shares pairs width. lent_rows x.kind x chain below refl h.0 fine children lower (second_of (has_chain chain) (is_subgrid x.grid.rows.template) shares) pairs width;
        way = on_way above n x below after f;
      },
      all_lenders above (n + 1) after (fine_after above n x below after f) h.1.1,
    )
