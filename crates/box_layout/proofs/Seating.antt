-- The seats of the children of a node.
use Rattle.std.proofs.Common.{arith, ◌≡◌, ℕ, suc, ◌+◌, ◌≤◌, ◌<◌, ◌==◌, ◌∷◌, ◌++◌, [], List, Bool, true, false, ◌&&◌, if◌then◌else◌, length, map, drop, refl, sym, ap, ◌∙◌, subst, Some, inl, inr}
use Rattle.std.specs.Prelude.{◌⊎◌, ◌≢◌, get_or, slice_set}
use Rattle.std.proofs.lemmas.Bool.{false≢true, eqb-true, eqb-false}
use Rattle.std.proofs.lemmas.List.{drop_all, length-map, get_or-set_same, get_or-set_other}
use Rattle.lunit.specs.declared.geometry.Area.{Area}
use Rattle.node_arena.specs.declared.number.NodeId.{NodeId}
use Rattle.node_arena.specs.Numbers.{child_at}
use Rattle.part_rules.specs.Lists.{zipped}
use Rattle.placing.specs.Areas.{HasChildren, IsPlaced, entries_at, entry_by, numbered_area, orders_at, placed_of}
use Rattle.placing.specs.Children.{IsNext, IsTree}
use Rattle.placing.specs.Nodes.{BareTrees, above_at, children_at, kid_at, kids_at, sight_at}
use Rattle.placing.specs.Seats.{IsSeat, context_at, context_of}
use Rattle.placing.specs.declared.contexts.Above.{Above}
use Rattle.placing.specs.declared.contexts.Above.TheVariants as above
use Rattle.placing.specs.declared.contexts.Context.{Context}
use Rattle.placing.specs.declared.contexts.Placed.{Placed}
use Rattle.placing.specs.declared.items.ChildArea.{ChildArea}
use Rattle.placing.proofs.Entries.{alone_there, counts}
use Rattle.placing.proofs.Numbers.{count_order, drop_within, has, has_all, numbers_of_items}
use Rattle.tree_rules.specs.Answers.{Kid, Pair}
use Rattle.tree_rules.specs.Chains.{Link, has_chain, is_grid_kind}
use Rattle.tree_rules.specs.GridSizes.{Entry, entry_of, pairs_for}
use Rattle.tree_rules.specs.Orders.{in_order}
use Rattle.tree_rules.specs.AskedQueries.{pairs_below}
use Rattle.tree_rules.specs.Repetitions.{own_pair}
use Rattle.tree_rules.specs.declared.kind.NodeKind.{NodeKind}
use Rattle.tree_rules.specs.declared.kind.NodeKind.TheVariants as kind
use Rattle.tree_rules.specs.declared.query.Given.{Given}
use Rattle.tree_rules.specs.declared.query.Query.{Query}
use Rattle.inline_sizes.proofs.Held.{held_base}
use Rattle.inline_sizes.specs.Grids.{IsBase, has_subgrid_kind}
use Rattle.placing.specs.Wides.{HoldsWide, IsAbove}
use Rattle.placing.specs.declared.wide.GridBase.{GridBase}
use Rattle.placing.specs.declared.wide.GridWide.{GridWide}
use Rattle.box_layout.specs.Beneath.{AreSeats, HasPairs, IsAreaOf, above_held, base_held, pairs_held}
use Rattle.box_layout.specs.BoxesSeen.{pairs_seen as pairs_below_at}
use Rattle.box_layout.specs.declared.child_seats.ChildSeats.{ChildSeats}
use Rattle.box_layout.specs.declared.child_seats.HeldBase.{HeldBase}

-- ---- chains

no_chain : (chain : List Link) → has_chain chain ≡ false → chain ≡ []
no_chain [] e = refl
no_chain (l ∷ chain) e = absurd (false≢true (sym e))

chain_is : (grid sub : Bool) (link : Link) (chain : List Link) → has_chain (if grid && sub then link ∷ chain else []) ≡ (grid && sub)
chain_is true true link chain = refl
chain_is true false link chain = refl
chain_is false sub link chain = refl

chain_counts : (grid sub : Bool) (link : Link) (chain : List Link) → has_chain (if grid && sub then link ∷ chain else []) ≡ true → length (if grid && sub then link ∷ chain else []) ≡ length chain + 1
chain_counts true true link chain e = omega arith
chain_counts true false link chain e = absurd (false≢true e)
chain_counts false sub link chain e = absurd (false≢true e)

child_within : (b : BareTrees) (n c : NodeId) (i : ℕ) → IsNext b n i c → i < length (kids_at b n)
child_within b n c i next = drop_within (kids_at b n) _ i (kid_at b c) next.kids

pub number_there : (b : BareTrees) (n c : NodeId) (i : ℕ) → IsTree b → child_at b n i ≡ Some c → i < length (kids_at b n)
number_there b n c i tree child = child_within b n c i (tree.next n c i child)

-- ---- no seats

module _ (b : BareTrees) (n : NodeId) (tree : IsTree b) where
  told_here : (i : ℕ) (c : NodeId) → child_at b n i ≡ Some c → has_chain (sight_at b c).chain ≡ ((above_at b n).is_grid && has_subgrid_kind (sight_at b c).label)
  told_here i c child = ap has_chain (tree.next n c i child).chain ∙ chain_is (above_at b n).is_grid (has_subgrid_kind (sight_at b c).label) _ (sight_at b n).chain

  pub no_seats_by : (seats : ChildSeats) → seats.some ≡ false → ((i : ℕ) (c : NodeId) → child_at b n i ≡ Some c → has_chain (sight_at b c).chain ≡ false) → AreSeats b n seats
  no_seats_by seats none all =
      record {
        told = λ i c child. all i c child ∙ ap (λ t. t && has_subgrid_kind (sight_at b c).label) (sym none);
        seated = λ i c child some. absurd (false≢true (sym (all i c child) ∙ some));
      }

  pub seats_in_flex : (seats : ChildSeats) → seats.some ≡ false → is_grid_kind (sight_at b n).label.kind ≡ false → AreSeats b n seats
  seats_in_flex seats none other = no_seats_by seats none (λ i c child. told_here i c child ∙ ap (λ t. t && has_subgrid_kind (sight_at b c).label) other)

  -- ---- seats in a grid

  seat_of_area : (base : GridBase) (p : Placed) (i : ℕ) (c : NodeId) (a : Area) (up : Above) → IsAbove (context_at (sight_at b n) base.pairs) up → IsPlaced b n (context_at (sight_at b n) base.pairs) p → IsAreaOf b n p i a
      → child_at b n i ≡ Some c → has_chain (sight_at b c).chain ≡ true → IsSeat (sight_at b c) base.pairs up a
  seat_of_area base p i c a above.Nothing h placed area child some = absurd h
  seat_of_area base p i c a (above.Grid made) h placed area child some = area c made base.pairs child h (subst (λ z. IsPlaced b n z p) (sym h) placed) some

  pub seats_made : (outer : List Pair) (width : Given) (held : HeldBase) (base : GridBase) (areas : List Area) (seats : ChildSeats) → base ≡ base_held held → IsBase b n outer width base → is_grid_kind (sight_at b n).label.kind ≡ true →
      length areas ≡ length (kids_at b n) → ((i : ℕ) → i < length (kids_at b n) → (d : Area) → IsAreaOf b n base.placed i (get_or areas i d)) →
      seats ≡ record { some = true; held = Some held; areas = areas } → AreSeats b n seats
  seats_made outer width held base areas seats same made grid counted area is =
      subst (AreSeats b n) (sym is)
      (record {
        told = λ i c child. told_here i c child ∙ ap (λ t. t && has_subgrid_kind (sight_at b c).label) grid;
        seated = λ i c child some. record {
          counts = ap (λ (x : GridBase). length x.pairs) (sym same)
              ∙ made.laid.counts
              ∙ sym (ap length (tree.next n c i child).chain ∙ chain_counts (above_at b n).is_grid (has_subgrid_kind (sight_at b c).label) _ (sight_at b n).chain (ap has_chain (sym (tree.next n c i child).chain) ∙ some));
          there = omega (arith, counted, number_there b n c i tree child);
          seat = λ d. subst (λ (x : GridBase). IsSeat (sight_at b c) x.pairs x.above (get_or areas i d)) same
              (seat_of_area base base.placed i c (get_or areas i d) base.above made.laid.context made.laid.placed (area i (number_there b n c i tree child) d) child some);
        };
      })

pub pairs_made : (b : BareTrees) (n : NodeId) (outer : List Pair) (width : Given) (held : HeldBase) (areas : List Area) (seats : ChildSeats) (q : Query) → IsBase b n outer width (base_held held) → (sight_at b n).label.kind ≡ kind.Grid →
    seats ≡ record { some = true; held = Some held; areas = areas } → q.reps ≡ outer → q.inline ≡ width → HasPairs b n q seats
unfolding pairs_below_at
pairs_made b n outer width held areas seats q made grid is reps inline some =
    ap (λ (s : ChildSeats). pairs_held s.held) is
    ∙ made.pairs
    ∙ ap (λ p. outer ++ p ∷ []) made.pair
    ∙ (λ i. sym reps i ++ own_pair (sight_at b n).label (sym inline i) ∷ [])
    ∙ ap (λ (k : NodeKind). pairs_below k (sight_at b n).label (sight_at b n).chain (kids_at b n) q) (sym grid)

-- the base in a grid in its columns that is kept
pub kept_base : (b : BareTrees) (n : NodeId) (outer : List Pair) (width : Given) (wide again : GridWide) → HoldsWide (sight_at b n) (children_at b n) outer width wide → again ≡ wide → IsBase b n outer width again.parts.base
kept_base b n outer width wide again kept same = subst (λ (w : GridWide). IsBase b n outer width w.parts.base) (sym same) (held_base b n outer width wide.parts.base kept.grid.base)

-- the base that is made, behind a pointer
pub made_base : (b : BareTrees) (n : NodeId) (outer : List Pair) (width : Given) (base made : GridBase) → IsBase b n outer width base → made ≡ base → IsBase b n outer width made
made_base b n outer width base made is same = subst (IsBase b n outer width) (sym same) is

pub ruleset bases = (kept_base, made_base)

pub grid_kind_is : (k : NodeKind) → is_grid_kind k ≡ true → k ≡ kind.Grid
grid_kind_is kind.Grid e = refl
grid_kind_is kind.Flex e = absurd (false≢true e)
grid_kind_is (kind.Leaf content) e = absurd (false≢true e)

-- ---- the area of each child

-- the area of this child is still to come, or it is in its place
abbrev pub IsComing : BareTrees → NodeId → Placed → List Area → ℕ → ℕ → Type 0
IsComing b n p areas i number = (has number (map (λ (e : Entry). e.number) (drop i (entries_at b n p))) ≡ true) ⊎ ((d : Area) → IsAreaOf b n p number (get_or areas number d))

module _ (b : BareTrees) (n : NodeId) (p : Placed) where
  zipped_numbers : (xs : List (ℕ × Kid)) (areas : List (ℕ × Area)) → length xs ≤ length areas → map (λ (e : Entry). e.number) (zipped entry_of xs areas) ≡ map (λ (e : ℕ × Kid). e.0) xs
  zipped_numbers [] areas h = refl
  zipped_numbers (x ∷ xs) [] h = absurd (omega (arith, h))
  zipped_numbers (x ∷ xs) (a ∷ areas) h = ap (λ l. x.0 ∷ l) (zipped_numbers xs areas (omega (arith, h)))

  zipped_count : (ns : List ℕ) (es : List (NodeId × Area)) → length ns ≡ length es → length (zipped numbered_area ns es) ≡ length ns
  zipped_count [] es h = refl
  zipped_count (m ∷ ns) [] h = absurd (omega (arith, h))
  zipped_count (m ∷ ns) (e ∷ es) h = ap suc (zipped_count ns es (omega (arith, h)))

  orders_counted : length (orders_at b n) ≡ length (kids_at b n)
  orders_counted = length-map (kids_at b n) (λ (k : Kid). k.label.grid.order)

  pub areas_counted : HasChildren b n p → length p.areas ≡ length (kids_at b n)
  areas_counted named = sym (counts b n p named) ∙ count_order (orders_at b n) p.numbers named.numbers ∙ orders_counted

  ordered_counted : HasChildren b n p → length (in_order (λ (k : Kid). k.label.grid.order) (kids_at b n)) ≡ length p.numbers
  ordered_counted named =
      sym (length-map (in_order (λ (k : Kid). k.label.grid.order) (kids_at b n)) (λ (e : ℕ × Kid). e.0))
      ∙ ap length (sym (numbers_of_items (λ (k : Kid). k.label.grid.order) (kids_at b n)) ∙ sym named.numbers)

  numbers_are : HasChildren b n p → map (λ (e : Entry). e.number) (entries_at b n p) ≡ p.numbers
  numbers_are named =
      zipped_numbers (in_order (λ (k : Kid). k.label.grid.order) (kids_at b n)) (placed_of p).areas (omega (arith, ordered_counted named, zipped_count p.numbers p.areas (counts b n p named)))
      ∙ sym (numbers_of_items (λ (k : Kid). k.label.grid.order) (kids_at b n)) ∙ sym named.numbers

  pub all_coming : HasChildren b n p → (areas : List Area) (number : ℕ) → number < length (kids_at b n) → IsComing b n p areas 0 number
  all_coming named areas number within = inl (ap (has number) (numbers_are named ∙ named.numbers) ∙ has_all number (orders_at b n) (omega (arith, within, orders_counted)))

  pub all_come : HasChildren b n p → (areas : List Area) (i number : ℕ) → length p.areas ≤ i → IsComing b n p areas i number → (d : Area) → IsAreaOf b n p number (get_or areas number d)
  all_come named areas i number end (inr here) = here
  all_come named areas i number end (inl h) =
      let few : length (entries_at b n p) ≤ i = omega (arith, end, counts b n p named, ap length (numbers_are named), length-map (entries_at b n p) (λ (e : Entry). e.number)) in
      absurd (false≢true (sym (ap (λ (l : List Entry). has number (map (λ (e : Entry). e.number) l)) (drop_all i (entries_at b n p) few)) ∙ h))

  module _ (areas new : List Area) (i : ℕ) (e : ChildArea) (next : drop i (entries_at b n p) ≡ entry_by b e ∷ drop (i + 1) (entries_at b n p)) (put : new ≡ slice_set areas e.number e.area) (within : e.number < length areas) (child : child_at b n e.number ≡ Some e.child)
      (seat : (c : Context) (reps : List Pair) → context_of c ≡ context_at (sight_at b n) reps → IsPlaced b n (context_of c) p → has_chain (sight_at b e.child).chain ≡ true → IsSeat (sight_at b e.child) reps (above.Grid c) e.area) where
    own_area : IsAreaOf b n p e.number e.area
    own_area c made reps there context placed some =
        let same : e.child ≡ c = some_is _ _ (sym child ∙ there) in
        subst (λ z. IsSeat (sight_at b z) reps (above.Grid made) e.area) same (seat made reps context placed (ap (λ z. has_chain (sight_at b z).chain) same ∙ some))
      where
        some_is : (x y : NodeId) → Some x ≡ Some y → x ≡ y
        some_is x y e = cc

    pub coming_next : (number : ℕ) → IsComing b n p areas i number → IsComing b n p new (i + 1) number
    coming_next number old = go (e.number == number) refl old
      where
        go : (t : Bool) → (e.number == number) ≡ t → IsComing b n p areas i number → IsComing b n p new (i + 1) number
        go true is was =
            let same : e.number ≡ number = eqb-true e.number number is in
            inr (λ d. subst (λ k. IsAreaOf b n p k (get_or new k d)) same (subst (IsAreaOf b n p e.number) (sym (ap (λ l. get_or l e.number d) put ∙ get_or-set_same areas e.number e.area d within)) own_area))
        go false is (inl h) =
            inl (sym (ap (λ (t : Bool). if t then true else has number (map (λ (z : Entry). z.number) (drop (i + 1) (entries_at b n p)))) is) ∙ sym (ap (λ (l : List Entry). has number (map (λ (z : Entry). z.number) l)) next) ∙ h)
        go false is (inr here) =
            let other : e.number ≢ number = eqb-false e.number number is in
            inr (λ d. subst (IsAreaOf b n p number) (sym (ap (λ l. get_or l number d) put ∙ get_or-set_other areas e.number number e.area d (λ s. other (sym s)))) (here d))

-- ---- the seat of a child

module _ (b : BareTrees) (n c : NodeId) (i : ℕ) (seats : ChildSeats) (are : AreSeats b n seats) (child : child_at b n i ≡ Some c) (lower : Bool) (is : lower ≡ has_chain (sight_at b c).chain) (reps : List Pair) (same : reps ≡ (if lower then pairs_held seats.held else [])) where
  pub counts_here : length reps ≡ length (sight_at b c).chain
  counts_here = ap length same ∙ at lower is
    where
      at : (t : Bool) → t ≡ has_chain (sight_at b c).chain → length (if t then pairs_held seats.held else []) ≡ length (sight_at b c).chain
      at true e = (are.seated i c child (sym e)).counts
      at false e = ap length (sym (no_chain (sight_at b c).chain (sym e)))

  pub seat_here : (up : Above) (area : Area) → up ≡ (if lower then above_held seats.held above.Nothing else above.Nothing) → (i < length seats.areas → (d : Area) → area ≡ get_or seats.areas i d) → IsSeat (sight_at b c) reps up area
  seat_here up area above_is area_is = at lower is same above_is
    where
      at : (t : Bool) → t ≡ has_chain (sight_at b c).chain → reps ≡ (if t then pairs_held seats.held else []) → up ≡ (if t then above_held seats.held above.Nothing else above.Nothing) → IsSeat (sight_at b c) reps up area
      at true e r u =
          let seated = are.seated i c child (sym e) in
          subst (λ a. IsSeat (sight_at b c) reps up a) (sym (area_is seated.there area)) (subst (λ z. IsSeat (sight_at b c) z up (get_or seats.areas i area)) (sym r) (subst (λ z. IsSeat (sight_at b c) (pairs_held seats.held) z (get_or seats.areas i area)) (sym u) (seated.seat area)))
      at false e r u = subst (λ z. IsSeat (sight_at b c) z up area) (sym r) (subst (λ z. IsSeat (sight_at b c) [] z area) (sym u) (alone_there b c area (sym e)))

  pub pairs_here : (q : Query) → HasPairs b n q seats → reps ≡ pairs_for (kid_at b c) (pairs_below_at b n q)
  pairs_here q have = same ∙ at seats.some refl ∙ ap (λ (t : Bool). if t then pairs_below_at b n q else []) is
    where
      at : (t : Bool) → seats.some ≡ t → (if lower then pairs_held seats.held else []) ≡ (if lower then pairs_below_at b n q else [])
      at true e = ap (λ (p : List Pair). if lower then p else []) (have e)
      at false e =
          let no : lower ≡ false = is ∙ are.told i c child ∙ ap (λ (t : Bool). t && has_subgrid_kind (sight_at b c).label) e in
          ap (λ (t : Bool). if t then pairs_held seats.held else []) no ∙ sym (ap (λ (t : Bool). if t then pairs_below_at b n q else []) no)
