-- What nodes keep longer than their answers, in a tree that changed.
use Rattle.std.proofs.Common.{◌≡◌, ℕ, zero, suc, ◌+◌, ◌<◌, ◌≤◌, Bool, true, false, List, [], ◌∷◌, Option, Some, None, cond, refl, sym, ap, ◌∙◌, arith, length, map, subst}
use Rattle.std.specs.Prelude.{◌==◌, ℤ, ◌&&◌, IfSome, nat_lt, reverse, slice_get}
use Rattle.std.proofs.lemmas.Bool.{and_parts, eq-eqb, eqb-true, ltb-true}
use Rattle.lunit.specs.declared.geometry.Area.{Area}
use Rattle.lunit.specs.declared.item.Item.{Item}
use Rattle.node_arena.specs.declared.number.NodeId.{NodeId}
use Rattle.node_arena.specs.Numbers.{Part, below_of, either, one, part_at, same, times, top_numbers}
use Rattle.node_arena.proofs.Same.{one_yes, part_some, same_from}
use Rattle.node_arena.proofs.Standing.{some_is}
use Rattle.plain_tree.specs.Trees.{Trees, leafless, tree}
use Rattle.tree_rules.specs.Answers as plain
use Rattle.tree_rules.specs.Answers.{Kid, Pair}
use Rattle.tree_rules.specs.Chains.{Above, Sibling, sibling_of, siblings_of}
use Rattle.tree_rules.specs.Contexts as rules
use Rattle.part_rules.specs.Lists.{zipped}
use Rattle.part_rules.specs.Placement.{placed, range_of}
use Rattle.part_rules.specs.declared.track.Space.TheVariants.{MaxContent}
use Rattle.part_rules.specs.declared.view.View.{View}
use Rattle.part_rules.specs.declared.wish.Wish.{Wish}
use Rattle.tree_rules.specs.GridSizes.{TrackAxis, Wide, column_items_of, inline_of_entry, row_items_of, total_for}
use Rattle.tree_rules.specs.Labels.{GridStyle, Label}
use Rattle.tree_rules.specs.Orders.{in_order, numbered_from, sorted_by}
use Rattle.tree_rules.specs.Places.{Seen, answers_of}
use Rattle.tree_rules.specs.Whole.{kids_of}
use Rattle.placing.specs.Areas.{child_in}
use Rattle.placing.specs.Bases.{AreOf, HoldsPlaces}
use Rattle.placing.specs.Keeping.{standing_of}
use Rattle.placing.specs.Members.{AreInOrder, Every, IsPlace, Place, Tells, TellsAlong, along_place, along_turn, place_of, turn_in}
use Rattle.placing.specs.Nodes.{BareTrees, IsLive, children_at, kid_at, sight_at}
use Rattle.placing.specs.Order.{numbers_in_order}
use Rattle.placing.specs.Seats.{context_at}
use Rattle.placing.specs.Told.{AreColumns, AreFrames, AreRows, AreRowsFor, AreTurns, Fresh, HoldsAlong, HoldsColumns, HoldsEach, HoldsFrames, HoldsMembers, HoldsPast, HoldsTold, IsFrameIn, TellsColumns, TellsFrame, TellsRows, columns_in, entry_with, is_fresh, last_turn, row_axis, rows_in, wide_told}
use Rattle.placing.specs.Wides.{HoldsAreas, HoldsRows, IsAbove, child_of, kids_in}
use Rattle.placing.specs.declared.contexts.Placed.{Placed}
use Rattle.placing.specs.declared.lined.KeptAlong.{KeptAlong}
use Rattle.placing.specs.declared.lined.ToldAlong.{ToldAlong}
use Rattle.placing.specs.declared.lined.ToldMember.{ToldMember}
use Rattle.placing.specs.declared.node.Frame.{Frame}
use Rattle.placing.specs.declared.told.KeptColumns.{KeptColumns}
use Rattle.placing.specs.declared.told.KeptFrames.{KeptFrames}
use Rattle.placing.specs.declared.told.KeptWide.{KeptWide}
use Rattle.placing.specs.declared.told.Past.{Past}
use Rattle.placing.specs.declared.told.ToldColumns.{ToldColumns}
use Rattle.placing.specs.declared.told.ToldRows.{ToldRows}
use Rattle.placing.specs.declared.wide.GridBase.{GridBase}
use Rattle.placing.specs.declared.wide.RowsAt.{RowsAt}
use Rattle.placing.specs.declared.wide.WideChild.{WideChild}
use Rattle.placing.proofs.Numbers.{map_sorted, numbered_map}
use Rattle.placing.proofs.Seated.{siblings_below}
use Rattle.placing.proofs.Tellings.{told_fewer}

-- ---- contexts and areas by what they depend on
orders_below : (above : Above) (n : ℕ) (below : Trees Label) → map (λ (k : Kid). k.label.grid.order) (kids_of above n below) ≡ map (λ (s : Sibling). s.grid.order) (siblings_of below)
orders_below above n leafless = refl
orders_below above n (tree x below after) = ap (λ l. x.grid.order ∷ l) (orders_below above (n + 1) after)

-- a numbered child, of which areas see this
abbrev standing : ℕ × Sibling → ℕ × Sibling
standing e = (e.0, standing_of e.1)

-- the order of children depends on what areas depend on
order_stands : (xs : List Sibling) → in_order (λ (s : Sibling). s.grid.order) (map standing_of xs) ≡ map standing (in_order (λ (s : Sibling). s.grid.order) xs)
order_stands xs =
    ap (sorted_by (λ (e : ℕ × Sibling). e.1.grid.order)) (numbered_map standing_of 0 xs)
    ∙ map_sorted standing (λ (e : ℕ × Sibling). e.1.grid.order) (λ (e : ℕ × Sibling). e.1.grid.order) (λ e. refl) (numbered_from 0 xs)

wishes_stand : (c : rules.Context) (es : List (ℕ × Sibling)) → map (λ (e : ℕ × Sibling). rules.wish_of c e.1) (map standing es) ≡ map (λ (e : ℕ × Sibling). rules.wish_of c e.1) es
wishes_stand c [] = refl
wishes_stand c (e ∷ es) = ap (λ l. rules.wish_of c e.1 ∷ l) (wishes_stand c es)

zipped_stand : (es : List (ℕ × Sibling)) (areas : List Area) → zipped rules.with_area (map standing es) areas ≡ zipped rules.with_area es areas
zipped_stand [] areas = refl
zipped_stand (e ∷ es) [] = refl
zipped_stand (e ∷ es) (a ∷ areas) = ap (λ l. (e.0, a) ∷ l) (zipped_stand es areas)

-- the areas of children in this order, with these wishes
abbrev placed_in : rules.Context → GridStyle → List (ℕ × Sibling) → List Wish → rules.Placed
placed_in c g ordered wishes =
    let areas = map (rules.cut_area c) (placed wishes (rules.shape_of c g)) in
    record {
      areas = zipped rules.with_area ordered areas;
      columns = range_of c.columns.table.tracks (map (λ (a : Area). a.columns) areas);
      rows = range_of c.rows.table.tracks (map (λ (a : Area). a.rows) areas);
    }

ordered_stand : (c : rules.Context) (g : GridStyle) (es : List (ℕ × Sibling)) (wishes : List Wish) → placed_in c g (map standing es) wishes ≡ placed_in c g es wishes
ordered_stand c g es wishes =
    let areas = map (rules.cut_area c) (placed wishes (rules.shape_of c g)) in
    λ i. record {
      areas = zipped_stand es areas i;
      columns = range_of c.columns.table.tracks (map (λ (a : Area). a.columns) areas);
      rows = range_of c.rows.table.tracks (map (λ (a : Area). a.rows) areas);
    }

placed_standing : (c : rules.Context) (g : GridStyle) (xs : List Sibling) → rules.placed_children c g (map standing_of xs) ≡ rules.placed_children c g xs
placed_standing c g xs =
    let ordered = in_order (λ (s : Sibling). s.grid.order) xs in
    ap (λ (l : List (ℕ × Sibling)). placed_in c g l (map (λ (e : ℕ × Sibling). rules.wish_of c e.1) l)) (order_stands xs)
    ∙ ap (placed_in c g (map standing ordered)) (wishes_stand c ordered)
    ∙ ordered_stand c g ordered (map (λ (e : ℕ × Sibling). rules.wish_of c e.1) ordered)

-- children of which areas see the same have the same areas
pub standing_placed : (c : rules.Context) (g : GridStyle) (xs ys : List Sibling) → map standing_of xs ≡ map standing_of ys → rules.placed_children c g xs ≡ rules.placed_children c g ys
standing_placed c g xs ys e = sym (placed_standing c g xs) ∙ ap (rules.placed_children c g) e ∙ placed_standing c g ys

orders_stand : (xs : List Sibling) → map (λ (s : Sibling). s.grid.order) (map standing_of xs) ≡ map (λ (s : Sibling). s.grid.order) xs
orders_stand [] = refl
orders_stand (x ∷ xs) = ap (λ l. x.grid.order ∷ l) (orders_stand xs)

module _ (s z : Seen) (grid : z.label.grid ≡ s.label.grid) (chain : z.chain ≡ s.chain) (siblings : map standing_of (siblings_of z.below) ≡ map standing_of (siblings_of s.below)) where
  kids_stand : map standing_of (map (λ (k : Kid). sibling_of k.label) (kids_in s)) ≡ map standing_of (map (λ (k : Kid). sibling_of k.label) (kids_in z))
  kids_stand = ap (map standing_of) (siblings_below _ 0 s.below) ∙ sym siblings ∙ sym (ap (map standing_of) (siblings_below _ 0 z.below))

  orders_same : map (λ (k : Kid). k.label.grid.order) (kids_in z) ≡ map (λ (k : Kid). k.label.grid.order) (kids_in s)
  orders_same =
      orders_below _ 0 z.below
      ∙ sym (orders_stand (siblings_of z.below))
      ∙ ap (map (λ (x : Sibling). x.grid.order)) siblings
      ∙ orders_stand (siblings_of s.below)
      ∙ sym (orders_below _ 0 s.below)

  areas_same : (kids : List NodeId) (c : rules.Context) (p : Placed) → HoldsAreas s kids c p → HoldsAreas z kids c p
  areas_same kids c p h =
      record {
        placed = h.placed
            ∙ standing_placed c s.label.grid (map (λ (k : Kid). sibling_of k.label) (kids_in s)) (map (λ (k : Kid). sibling_of k.label) (kids_in z)) kids_stand
            ∙ ap (λ g. rules.placed_children c g (map (λ (k : Kid). sibling_of k.label) (kids_in z))) (sym grid);
        numbers = h.numbers ∙ ap numbers_in_order (sym orders_same);
        children = h.children;
        inside = h.inside;
      }

  context_same : (pairs : List Pair) → context_at z pairs ≡ context_at s pairs
  context_same pairs = (λ i. rules.context_by (grid i) (chain i) (reverse pairs))

  pub places_same : (kids : List NodeId) (base : GridBase) → HoldsPlaces s kids base → HoldsPlaces z kids base
  places_same kids base h =
      let context : context_at z base.pairs ≡ context_at s base.pairs = context_same base.pairs in
      record {
        outer = h.outer;
        pairs = h.pairs;
        counts = h.counts ∙ ap (λ l. length l + 1) (sym chain);
        context = subst (λ c. IsAbove c base.above) (sym context) h.context;
        placed = subst (λ c. HoldsAreas z kids c base.placed) (sym context) (areas_same kids (context_at s base.pairs) base.placed h.placed);
      }

  pub all_same : (kids : List NodeId) (bases : List GridBase) → AreOf s kids bases → AreOf z kids bases
  all_same kids [] h = tt
  all_same kids (base ∷ rest) h = (places_same kids base h.0, all_same kids rest h.1)

-- ---- children are live
module _ {A : Type 0} where
  times_of : (t : Trees (NodeId × A)) (n c : NodeId) (p : Part A) → part_at t n ≡ Some p → times c p.1 ≤ times c t
  times_of leafless n c p e = absurd cc
  times_of (tree x below after) n c p e = at (same x.0 n) (part_at below n) refl e (times_of below n c p) (times_of after n c p)
    where
      at : (b : Bool) (o : Option (Part A)) → part_at below n ≡ o → cond b (Some (x.1, below)) (either o (part_at after n)) ≡ Some p → (part_at below n ≡ Some p → times c p.1 ≤ times c below)
          → (part_at after n ≡ Some p → times c p.1 ≤ times c after) → times c p.1 ≤ one (same x.0 c) + times c below + times c after
      at true o f h under later = let is : (x.1, below) ≡ p = some_is (x.1, below) p h in subst (λ (z : Part A). times c z.1 ≤ one (same x.0 c) + times c below + times c after) is (omega arith)
      at false None f h under later = omega (arith, later h)
      at false (Some y) f h under later = omega (arith, under (f ∙ h))

  top_times : (t : Trees (NodeId × A)) (m : ℕ) (c : NodeId) → slice_get (top_numbers t) m ≡ Some c → 1 ≤ times c t
  top_times leafless m c e = absurd cc
  top_times (tree x below after) zero c e = omega (arith, one_yes (same x.0 c) (same_from x.0 c (some_is x.0 c e)))
  top_times (tree x below after) (suc m) c e = omega (arith, top_times after m c e)

pub children_live : (b : BareTrees) (n : NodeId) (m : ℕ) (c : NodeId) → slice_get (children_at b n) m ≡ Some c → IsLive b c
children_live b n m c e = at (part_at b n) refl e
  where
    at : (o : Option (Part _)) → part_at b n ≡ o → slice_get (top_numbers (below_of o)) m ≡ Some c → IsLive b c
    at None f h = absurd cc
    at (Some p) f h = part_some b c (omega (arith, times_of b n c p f, top_times p.1 m c h))

pub record IsOneOf (kids : List NodeId) (c : NodeId) : Type 0 where
  pub index : ℕ
  pub there : slice_get kids index ≡ Some c

pub is_named : (kids : List NodeId) (numbers : List ℕ) (areas : List (NodeId × Area)) (k : ℕ) (c : NodeId) (a : Area) → map (slice_get kids) numbers ≡ map child_in areas → slice_get areas k ≡ Some (c, a) → IsOneOf kids c
is_named kids [] [] k c a e h = absurd cc
is_named kids [] (x ∷ areas) k c a e h = absurd cc
is_named kids (m ∷ ms) [] k c a e h = absurd cc
is_named kids (m ∷ ms) (x ∷ areas) zero c a e h =
    let first : slice_get kids m ≡ Some x.0 = cc in
    record { index = m; there = first ∙ ap (λ (z : NodeId × Area). Some z.0) (some_is x (c, a) h) }
is_named kids (m ∷ ms) (x ∷ areas) (suc k) c a e h =
    let rest : map (slice_get kids) ms ≡ map child_in areas = cc in
    is_named kids ms areas k c a rest h

-- ---- turns
-- no child of these areas has a later turn than another time
abbrev pub AreLater : (NodeId → ℕ) → (NodeId → ℕ) → List (NodeId × Area) → Type 0
AreLater turn late areas = (k : ℕ) (c : NodeId) (a : Area) → slice_get areas k ≡ Some (c, a) → turn c ≤ late c

pub turns_later : (turn late : NodeId → ℕ) (areas : List (NodeId × Area)) (turns : List ℕ) → AreLater turn late areas → AreTurns turn areas turns → AreTurns late areas turns
turns_later turn late [] [] l h = tt
turns_later turn late [] (s ∷ turns) l h = absurd h
turns_later turn late (e ∷ areas) [] l h = absurd h
turns_later turn late (e ∷ areas) (s ∷ turns) l h = (omega (arith, h.0, l 0 e.0 e.1 refl), turns_later turn late areas turns (λ k. l (suc k)) h.1)

pub record StandsStill (turn late : NodeId → ℕ) (c : NodeId) : Type 0 where
  pub same : late c ≡ turn c
  pub few : late c < last_turn

still_there : (turn late : NodeId → ℕ) (areas : List (NodeId × Area)) (turns : List ℕ) (k : ℕ) (c : NodeId) (a : Area) → AreLater turn late areas → AreTurns turn areas turns → is_fresh late areas turns k ≡ true
    → slice_get areas k ≡ Some (c, a) → StandsStill turn late c
still_there turn late [] turns k c a l h f e = absurd cc
still_there turn late (x ∷ areas) [] k c a l h f e = absurd h
still_there turn late (x ∷ areas) (s ∷ turns) zero c a l h f e =
    let both = and_parts (s == late x.0) (nat_lt s last_turn) f in
    let turned : s ≡ late x.0 = eqb-true s (late x.0) both.0 in
    let low : s < last_turn = ltb-true s last_turn both.1 in
    let later : turn x.0 ≤ late x.0 = l 0 x.0 x.1 refl in
    subst (λ (z : NodeId × Area). StandsStill turn late z.0) (some_is x (c, a) e) (record { same = omega (arith, turned, later, h.0); few = omega (arith, turned, low) })
still_there turn late (x ∷ areas) (s ∷ turns) (suc k) c a l h f e = still_there turn late areas turns k c a (λ j. l (suc j)) h.1 f e

fresh_before : (turn late : NodeId → ℕ) (areas : List (NodeId × Area)) (turns : List ℕ) (k : ℕ) → AreLater turn late areas → AreTurns turn areas turns → is_fresh late areas turns k ≡ true → is_fresh turn areas turns k ≡ true
fresh_before turn late [] turns k l h f = f
fresh_before turn late (x ∷ areas) [] k l h f = f
fresh_before turn late (x ∷ areas) (s ∷ turns) zero l h f =
    let both = and_parts (s == late x.0) (nat_lt s last_turn) f in
    let turned : s ≡ late x.0 = eqb-true s (late x.0) both.0 in
    let later : turn x.0 ≤ late x.0 = l 0 x.0 x.1 refl in
    let own : (s == turn x.0) ≡ true = eq-eqb s (turn x.0) (omega (arith, turned, later, h.0)) in
    (λ i. own i && both.1 i)
fresh_before turn late (x ∷ areas) (s ∷ turns) (suc k) l h f = fresh_before turn late areas turns k (λ j. l (suc j)) h.1 f

-- ---- what was told holds on
kid_same : (b d : BareTrees) (c : NodeId) → sight_at d c ≡ sight_at b c → kid_at b c ≡ kid_at d c
kid_same b d c e = ap (λ (s : Seen). record { label = s.label; chain = s.chain; answers = answers_of s }) (sym e)

module _ (b d : BareTrees) (turn late : NodeId → ℕ) (n : NodeId)
    (label : (sight_at d n).label ≡ (sight_at b n).label) (chain : (sight_at d n).chain ≡ (sight_at b n).chain)
    (siblings : map standing_of (siblings_of (sight_at d n).below) ≡ map standing_of (siblings_of (sight_at b n).below)) (kids : children_at d n ≡ children_at b n)
    (later : (c : NodeId) → IsLive d c → turn c ≤ late c)
    (stands : (c : NodeId) → IsLive d c → late c ≡ turn c → late c < last_turn → sight_at d c ≡ sight_at b c) where
  grid : (sight_at d n).label.grid ≡ (sight_at b n).label.grid
  grid = ap (λ (x : Label). x.grid) label

  context_stays : (base : GridBase) → context_at (sight_at b n) base.pairs ≡ context_at (sight_at d n) base.pairs
  context_stays base = sym (context_same (sight_at b n) (sight_at d n) grid chain siblings base.pairs)

  child_live : (base : GridBase) → HoldsPlaces (sight_at b n) (children_at b n) base → (k : ℕ) (c : NodeId) (a : Area) → slice_get base.placed.areas k ≡ Some (c, a) → IsLive d c
  child_live base h k c a e =
      let one_of : IsOneOf (children_at b n) c = is_named (children_at b n) base.placed.numbers base.placed.areas k c a h.placed.children e in
      children_live d n one_of.index c (ap (λ l. slice_get l one_of.index) kids ∙ one_of.there)

  are_later : (base : GridBase) → HoldsPlaces (sight_at b n) (children_at b n) base → AreLater turn late base.placed.areas
  are_later base h k c a e = later c (child_live base h k c a e)

  kid_stays : (base : GridBase) (turns : List ℕ) → HoldsPlaces (sight_at b n) (children_at b n) base → AreTurns turn base.placed.areas turns
      → (k : ℕ) (c : NodeId) (a : Area) → is_fresh late base.placed.areas turns k ≡ true → slice_get base.placed.areas k ≡ Some (c, a) → kid_at b c ≡ kid_at d c
  kid_stays base turns h t k c a f e =
      let still : StandsStill turn late c = still_there turn late base.placed.areas turns k c a (are_later base h) t f e in
      kid_same b d c (stands c (child_live base h k c a e) still.same still.few)

  places_stay : (base : GridBase) → HoldsPlaces (sight_at b n) (children_at b n) base → HoldsPlaces (sight_at d n) (children_at d n) base
  places_stay base h = subst (λ l. HoldsPlaces (sight_at d n) l base) (sym kids) (places_same (sight_at b n) (sight_at d n) grid chain siblings (children_at b n) base h)

  columns_stay : (t : ToldColumns) (turns : List ℕ) → HoldsPlaces (sight_at b n) (children_at b n) t.parts.base → AreTurns turn t.parts.base.placed.areas turns
      → AreColumns (sight_at b n) (kid_at b) (Fresh turn t.parts.base.placed.areas turns) t → AreColumns (sight_at d n) (kid_at d) (Fresh late t.parts.base.placed.areas turns) t
  columns_stay t turns h s w =
      record {
        counted = w.counted;
        told = told_fewer (Fresh turn t.parts.base.placed.areas turns) (Fresh late t.parts.base.placed.areas turns) (TellsColumns (sight_at b n) (kid_at b) t.parts.base) (TellsColumns (sight_at d n) (kid_at d) t.parts.base) t.parts.inlines t.parts.items t.ends w.told
            (λ k x p within f. fresh_before turn late t.parts.base.placed.areas turns k (are_later t.parts.base h) s f) (λ k x p within f. tells k x p f);
      }
    where
      tells : (k : ℕ) (x : ℤ × ℤ) (p : List Item) → is_fresh late t.parts.base.placed.areas turns k ≡ true → TellsColumns (sight_at b n) (kid_at b) t.parts.base k x p → TellsColumns (sight_at d n) (kid_at d) t.parts.base k x p
      tells k x p f y =
          record {
            sizes = λ c a e. y.sizes c a e ∙ ap (λ (kid : Kid). inline_of_entry t.parts.base.pairs (entry_with kid a)) (kid_stays t.parts.base turns h s k c a f e);
            items = λ c a e. y.items c a e ∙ items c a (kid_stays t.parts.base turns h s k c a f e);
          }
        where
          items : (c : NodeId) (a : Area) → kid_at b c ≡ kid_at d c
              → column_items_of (context_at (sight_at b n) t.parts.base.pairs).columns t.parts.base.pairs (entry_with (kid_at b c) a) (inline_of_entry t.parts.base.pairs (entry_with (kid_at b c) a))
              ≡ column_items_of (context_at (sight_at d n) t.parts.base.pairs).columns t.parts.base.pairs (entry_with (kid_at d c) a) (inline_of_entry t.parts.base.pairs (entry_with (kid_at d c) a))
          items c a kid = λ i. column_items_of (context_stays t.parts.base i).columns t.parts.base.pairs (entry_with (kid i) a) (inline_of_entry t.parts.base.pairs (entry_with (kid i) a))

  rows_stay : (base : GridBase) (t : ToldRows) (turns : List ℕ) → HoldsPlaces (sight_at b n) (children_at b n) base → AreTurns turn base.placed.areas turns
      → AreRows (sight_at b n) (kid_at b) base (Fresh turn base.placed.areas turns) t → AreRows (sight_at d n) (kid_at d) base (Fresh late base.placed.areas turns) t
  rows_stay base t turns h s w =
      record {
        counted = w.counted;
        told = told_fewer (Fresh turn base.placed.areas turns) (Fresh late base.placed.areas turns) (TellsRows (sight_at b n) (kid_at b) base t.columns t.align) (TellsRows (sight_at d n) (kid_at d) base t.columns t.align) t.children t.items t.ends w.told
            (λ k x p within f. fresh_before turn late base.placed.areas turns k (are_later base h) s f) (λ k x p within f. tells k x p f);
      }
    where
      tells : (k : ℕ) (x : WideChild) (p : List Item) → is_fresh late base.placed.areas turns k ≡ true → TellsRows (sight_at b n) (kid_at b) base t.columns t.align k x p → TellsRows (sight_at d n) (kid_at d) base t.columns t.align k x p
      tells k x p f y =
          record {
            child = λ c a e. y.child c a e ∙ ap (λ (kid : Kid). child_of (wide_told kid a base t.columns t.align)) (kid_stays base turns h s k c a f e);
            items = λ c a e. y.items c a e ∙ items c a (kid_stays base turns h s k c a f e);
          }
        where
          items : (c : NodeId) (a : Area) → kid_at b c ≡ kid_at d c
              → row_items_of (context_at (sight_at b n) base.pairs).rows (entry_with (kid_at b c) a) (wide_told (kid_at b c) a base t.columns t.align).down
              ≡ row_items_of (context_at (sight_at d n) base.pairs).rows (entry_with (kid_at d c) a) (wide_told (kid_at d c) a base t.columns t.align).down
          items c a kid = λ i. row_items_of (context_stays base i).rows (entry_with (kid i) a) (wide_told (kid i) a base t.columns t.align).down

  -- the axis of the rows depends on the values of the grid, and on what stands in its base and its items
  axis_stays : (base : GridBase) (items : List Item) → row_axis (sight_at d n) base items ≡ row_axis (sight_at b n) base items
  unfolding row_axis
  axis_stays base items = ap (λ (x : Label). row_axis (record { label = x; chain = []; below = leafless }) base items) label

  laid_stay : (base : GridBase) (items : List Item) (o : Option RowsAt) → IfSome o (AreRowsFor (sight_at b n) base items) → IfSome o (AreRowsFor (sight_at d n) base items)
  laid_stay base items None h = tt
  laid_stay base items (Some r) h =
      record {
        size = h.size ∙ ap (λ (a : TrackAxis). total_for {axis = 1} a MaxContent) (sym (axis_stays base items));
        laid = subst (λ (a : TrackAxis). HoldsRows a base.placed.rows r) (sym (axis_stays base items)) h.laid;
      }

  -- a frame depends on the values of the grid, and on its base
  frame_stays : (base : GridBase) (columns : View 0) (rows : View 1) (w : Wide) (f : plain.Frame) → IsFrameIn (sight_at b n) base columns rows w f → IsFrameIn (sight_at d n) base columns rows w f
  frame_stays base columns rows w f h = record { same = λ g own placed. h.same g (own ∙ label) placed }

  frames_stay : (base : GridBase) (columns : View 0) (rows : View 1) (turns : List ℕ) (frames : List Frame) → HoldsPlaces (sight_at b n) (children_at b n) base → AreTurns turn base.placed.areas turns
      → AreFrames (sight_at b n) (kid_at b) base columns rows (Fresh turn base.placed.areas turns) frames → AreFrames (sight_at d n) (kid_at d) base columns rows (Fresh late base.placed.areas turns) frames
  frames_stay base columns rows turns frames h s w =
      record {
        counted = w.counted;
        each = λ i k m f there own fresh. tells k f fresh (w.each i k m f there own (fresh_before turn late base.placed.areas turns k (are_later base h) s fresh));
      }
    where
      wide : (c : NodeId) (a : Area) → kid_at b c ≡ kid_at d c → wide_told (kid_at b c) a base columns (sight_at b n).label.content.inline.items ≡ wide_told (kid_at d c) a base columns (sight_at d n).label.content.inline.items
      wide c a kid = λ i. wide_told (kid i) a base columns (sym label i).content.inline.items

      tells : (k : ℕ) (f : Frame) → is_fresh late base.placed.areas turns k ≡ true → TellsFrame (sight_at b n) (kid_at b) base columns rows k f → TellsFrame (sight_at d n) (kid_at d) base columns rows k f
      tells k f fresh y =
          record {
            child = y.child;
            frame = λ c a e. frame_stays base columns rows (wide_told (kid_at d c) a base columns (sight_at d n).label.content.inline.items) (record { rect = f.rect; inline = f.inline; block = f.block })
                (subst (λ (z : Wide). IsFrameIn (sight_at b n) base columns rows z (record { rect = f.rect; inline = f.inline; block = f.block })) (wide c a (kid_stays base turns h s k c a fresh e)) (y.frame c a e));
          }

  -- the children of a flex container stand in the same order
  order_stays : (places : List Place) → AreInOrder (sight_at b n) (children_at b n) places → AreInOrder (sight_at d n) (children_at d n) places
  order_stays places h =
      record {
        numbers = h.numbers ∙ ap numbers_in_order (sym (orders_same (sight_at b n) (sight_at d n) grid chain siblings));
        children = subst (λ l. Every (IsPlace l) places) (sym kids) h.children;
      }

  -- each tells what it told where its turn is the same
  module _ {A : Type 0} (place : A → Place) (last : A → ℕ) (T U : Kid → A → Type 0) (still : (k : Kid) (e : A) → T k e → U k e) where
    turns_stay : (told : List A) → Every (IsPlace (children_at d n)) (map place told) → Every (λ e. last e ≤ turn (place e).1) told → Every (λ e. last e ≤ late (place e).1) told
    turns_stay [] h g = tt
    turns_stay (e ∷ es) h g = (omega (arith, g.0, later (place e).1 (children_live d n (place e).0 (place e).1 h.0)), turns_stay es h.1 g.1)

    tells_on : (e : A) → IsLive d (place e).1 → last e ≤ turn (place e).1 → (last e ≡ turn (place e).1 → last e < last_turn → T (kid_at b (place e).1) e) → last e ≡ late (place e).1 → last e < last_turn → U (kid_at d (place e).1) e
    tells_on e live had w same few =
        let after : turn (place e).1 ≤ late (place e).1 = later (place e).1 live in
        let stood : late (place e).1 ≡ turn (place e).1 = omega (arith, same, had, after) in
        let low : late (place e).1 < last_turn = omega (arith, same, few) in
        let was : last e ≡ turn (place e).1 = omega (arith, same, had, after) in
        still (kid_at d (place e).1) e (subst (λ (k : Kid). T k e) (kid_same b d (place e).1 (stands (place e).1 live stood low)) (w was few))

    each_stays : (told : List A) → Every (IsPlace (children_at d n)) (map place told) → Every (λ e. last e ≤ turn (place e).1) told
        → Every (λ e. last e ≡ turn (place e).1 → last e < last_turn → T (kid_at b (place e).1) e) told → Every (λ e. last e ≡ late (place e).1 → last e < last_turn → U (kid_at d (place e).1) e) told
    each_stays [] h g w = tt
    each_stays (e ∷ es) h g w = (tells_on e (children_live d n (place e).0 (place e).1 h.0) g.0 w.0, each_stays es h.1 g.1 w.1)

    all_stay : (told : List A) → HoldsEach place last T b turn n told → HoldsEach place last U d late n told
    all_stay told h =
        let order : AreInOrder (sight_at d n) (children_at d n) (map place told) = order_stays (map place told) h.order in
        record { order = order; turns = turns_stay told order.children h.turns; told = each_stays told order.children h.turns h.told }

  pub past_stays : (p : Past) → HoldsPast b turn n p → HoldsPast d late n p
  past_stays p h =
      record {
        bases = subst (λ l. AreOf (sight_at d n) l p.bases) (sym kids) (all_same (sight_at b n) (sight_at d n) grid chain siblings (children_at b n) p.bases h.bases);
        columns = columns p.columns h.columns;
        wide = wide p.wide h.wide;
        frames = frames p.frames h.frames;
        members = members p.members h.members;
        along = along p.along h.along;
      }
    where
      told_along : (width : ℤ) (k : Kid) (e : ToldAlong) → TellsAlong (sight_at b n).label width k e → TellsAlong (sight_at d n).label width k e
      told_along width k e f = subst (λ (x : Label). TellsAlong x width k e) (sym label) f

      along : (o : Option KeptAlong) → IfSome o (HoldsAlong b turn n) → IfSome o (HoldsAlong d late n)
      along None w = tt
      along (Some k) w = all_stay along_place along_turn (TellsAlong (sight_at b n).label k.width) (TellsAlong (sight_at d n).label k.width) (told_along k.width) k.told w

      members : (o : Option (List ToldMember)) → IfSome o (HoldsMembers b turn n) → IfSome o (HoldsMembers d late n)
      members None w = tt
      members (Some told) w = all_stay place_of turn_in Tells Tells (λ k e f. f) told w

      columns : (o : Option KeptColumns) → IfSome o (HoldsColumns b turn n) → IfSome o (HoldsColumns d late n)
      columns None w = tt
      columns (Some k) w =
          record {
            places = places_stay k.told.parts.base w.places;
            turns = turns_later turn late k.told.parts.base.placed.areas k.turns (are_later k.told.parts.base w.places) w.turns;
            told = columns_stay k.told k.turns w.places w.turns w.told;
          }

      wide : (o : Option KeptWide) → IfSome o (HoldsTold b turn n) → IfSome o (HoldsTold d late n)
      wide None w = tt
      wide (Some k) w =
          record {
            places = places_stay k.wide.parts.base w.places;
            turns = turns_later turn late k.wide.parts.base.placed.areas k.turns (are_later k.wide.parts.base w.places) w.turns;
            columns = columns_stay (columns_in k) k.turns w.places w.turns w.columns;
            rows = rows_stay k.wide.parts.base (rows_in k) k.turns w.places w.turns w.rows;
            laid = laid_stay k.wide.parts.base k.wide.items k.wide.rows w.laid;
          }

      frames : (o : Option KeptFrames) → IfSome o (HoldsFrames b turn n) → IfSome o (HoldsFrames d late n)
      frames None w = tt
      frames (Some k) w =
          record {
            places = places_stay k.base w.places;
            turns = turns_later turn late k.base.placed.areas k.turns (are_later k.base w.places) w.turns;
            frames = frames_stay k.base k.columns k.rows k.turns k.frames w.places w.turns w.frames;
          }
