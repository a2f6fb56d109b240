-- Contexts by seats, and the seat of a subgrid.
use Rattle.std.proofs.Common.{◌≡◌, refl, sym, ap, ◌∙◌, subst, arith, ℕ, ◌+◌, ◌<◌, Bool, true, false, ◌==◌, List, [], ◌∷◌, ◌++◌, length, map, drop, Some, if◌then◌else◌, true≢false}
use Rattle.std.specs.Prelude.{reverse}
use Rattle.std.proofs.lemmas.Bool.{eqb-false, eqb-true}
use Rattle.std.proofs.lemmas.List.{length-map, reverse-append}
use Rattle.lunit.specs.declared.geometry.Area.{Area}
use Rattle.node_arena.specs.Numbers.{child_at, same}
use Rattle.node_arena.specs.declared.number.NodeId.{NodeId}
use Rattle.node_arena.proofs.Same.{same_is, same_refl}
use Rattle.part_rules.specs.Lists.{zipped}
use Rattle.part_rules.specs.Placement.{no_area}
use Rattle.plain_tree.specs.Trees.{Trees, leafless, tree}
use Rattle.tree_rules.specs.Answers.{Kid, Pair}
use Rattle.tree_rules.specs.Chains.{Above, link_to, sibling_of, siblings_of}
use Rattle.tree_rules.specs.Contexts as rules
use Rattle.tree_rules.specs.Contexts.{context_by}
use Rattle.tree_rules.specs.Labels.{GridStyle, Label}
use Rattle.tree_rules.specs.Orders.{of_number}
use Rattle.tree_rules.specs.Places.{Seen}
use Rattle.tree_rules.specs.Whole.{kids_of}
use Rattle.placing.specs.declared.contexts.Above.TheVariants as above
use Rattle.placing.specs.declared.contexts.Above.{Above as AboveGrid}
use Rattle.placing.specs.declared.contexts.Context.{Context}
use Rattle.placing.specs.declared.contexts.Placed.{Placed}
use Rattle.placing.specs.Areas.{IsPlaced, child_in, found_area, numbered_area, orders_at, placed_of}
use Rattle.placing.specs.Insides.{AreInside, IsInside}
use Rattle.placing.specs.Nodes.{BareTrees, above_at, kid_at, kids_at, sight_at}
use Rattle.placing.specs.Seats.{IsSeat, IsSubgridOf, context_at, context_by_seat, context_in, context_of, seat_by, seat_of, under}
use Rattle.placing.proofs.Numbers.{drop_within, has, has_all}

own_first : (outer : List Pair) (p : Pair) → reverse (outer ++ p ∷ []) ≡ p ∷ reverse outer
own_first outer p = reverse-append outer (p ∷ [])

pub seated : (s : Seen) (outer : List Pair) (above : AboveGrid) (a : Area) (g : GridStyle) (p : Pair) → s.label.grid ≡ g → IsSeat s outer above a → context_in (seat_by above a) g p ≡ context_at s (outer ++ p ∷ [])
seated s outer above a g p same seat =
    ap (λ x. context_in x g p) seat.seat
    ∙ ap (λ x. context_in (seat_of s.chain (reverse outer)) x p) (sym same)
    ∙ sym (context_by_seat s.label.grid s.chain p (reverse outer))
    ∙ ap (context_by s.label.grid s.chain) (sym (own_first outer p))

-- ---- what a node sees of its children

pub siblings_below : (above : Above) (n : ℕ) (below : Trees Label) → map (λ (k : Kid). sibling_of k.label) (kids_of above n below) ≡ siblings_of below
siblings_below above n leafless = refl
siblings_below above n (tree x below after) = ap (λ l. sibling_of x ∷ l) (siblings_below above (n + 1) after)

-- ---- the area of a child

-- a child that is found by its number as a node is the one of its place
found_is : (b : BareTrees) (n id : NodeId) (way : ℕ) (numbers : List ℕ) (areas : List (NodeId × Area)) → child_at b n way ≡ Some id → ((k : ℕ) → child_at b n k ≡ Some id → k ≡ way)
    → map (child_at b n) numbers ≡ map child_in areas → found_area id areas ≡ of_number way no_area (zipped numbered_area numbers areas)
found_is b n id way [] [] there only h = refl
found_is b n id way [] (e ∷ es) there only h = absurd cc
found_is b n id way (m ∷ ms) [] there only h = absurd cc
found_is b n id way (m ∷ ms) (e ∷ es) there only h = go (same e.0 id) (m == way) refl refl (found_is b n id way ms es there only cc)
  where
    first : child_at b n m ≡ Some e.0
    first = cc

    go : (c d : Bool) → same e.0 id ≡ c → (m == way) ≡ d → found_area id es ≡ of_number way no_area (zipped numbered_area ms es)
        → (if c then e.1 else found_area id es) ≡ (if d then e.1 else of_number way no_area (zipped numbered_area ms es))
    go true true p q lower = refl
    go false false p q lower = lower
    go true false p q lower =
        let other : e.0 ≡ id = same_is e.0 id p in
        absurd (eqb-false m way q (only m (first ∙ ap (λ (x : NodeId). Some x) other)))
    go false true p q lower =
        let place : m ≡ way = eqb-true m way q in
        let other : e.0 ≡ id = (let s : Some e.0 ≡ Some id = sym first ∙ ap (child_at b n) place ∙ there in cc) in
        absurd (true≢false (sym (same_refl id) ∙ ap (λ (x : NodeId). same x id) (sym other) ∙ p))

-- the area of such a child lies within the limits
found_inside : (b : BareTrees) (n id : NodeId) (c : rules.Context) (way : ℕ) (numbers : List ℕ) (areas : List (NodeId × Area)) → child_at b n way ≡ Some id
    → map (child_at b n) numbers ≡ map child_in areas → AreInside c (map (λ (e : NodeId × Area). e.1) areas) → has way numbers ≡ true → IsInside c (found_area id areas)
found_inside b n id c way [] areas there h inside held = absurd (true≢false (sym held))
found_inside b n id c way (m ∷ ms) [] there h inside held = absurd cc
found_inside b n id c way (m ∷ ms) (e ∷ es) there h inside held = go (same e.0 id) (m == way) refl refl held (λ more. found_inside b n id c way ms es there (cc) inside.1 more)
  where
    first : child_at b n m ≡ Some e.0
    first = cc

    go : (x y : Bool) → same e.0 id ≡ x → (m == way) ≡ y → (if y then true else has way ms) ≡ true → (has way ms ≡ true → IsInside c (found_area id es)) → IsInside c (if x then e.1 else found_area id es)
    go true y p q held lower = inside.0
    go false false p q held lower = lower held
    go false true p q held lower =
        let place : m ≡ way = eqb-true m way q in
        let other : e.0 ≡ id = (let s : Some e.0 ≡ Some id = sym first ∙ ap (child_at b n) place ∙ there in cc) in
        absurd (true≢false (sym (same_refl id) ∙ ap (λ (x : NodeId). same x id) (sym other) ∙ p))

-- ---- the seat of a subgrid

-- the area in its grid's context makes it
pub seat_with : (b : BareTrees) (id parent : NodeId) (outer : List Pair) (c : Context) (p : Placed) (way : ℕ) (a : Area)
    → (sight_at b id).chain ≡ link_to (above_at b parent) way ∷ (sight_at b parent).chain
    → context_of c ≡ context_at (sight_at b parent) outer → IsPlaced b parent (context_of c) p
    → a ≡ rules.area_of (placed_of p) way
    → under (context_of c) a ≡ seat_of (sight_at b id).chain (reverse outer)
seat_with b id parent outer c p way a chain context placed area =
    (λ i. under (context i) ((area ∙ ap (λ (x : rules.Placed). rules.area_of x way) (placed.placed ∙ (λ j. rules.placed_children (context j) (sight_at b parent).label.grid (siblings_below (above_at b parent) 0 (sight_at b parent).below j)))) i))
    ∙ ap (λ l. seat_of l (reverse outer)) (sym chain)

pub subgrid_seat : (b : BareTrees) (id parent : NodeId) (outer : List Pair) (c : Context) (p : Placed) → IsSubgridOf b id parent
    → context_of c ≡ context_at (sight_at b parent) outer → IsPlaced b parent (context_of c) p → IsSeat (sight_at b id) outer (above.Grid c) (found_area id p.areas)
subgrid_seat b id parent outer c p sub context placed =
    record {
      seat = seat_with b id parent outer c p sub.way (found_area id p.areas) sub.chain context placed (found_is b parent id sub.way p.numbers p.areas sub.next.number sub.next.only placed.children.children);
      inside = found_inside b parent id (context_of c) sub.way p.numbers p.areas sub.next.number placed.children.children placed.inside (subst (λ l. has sub.way l ≡ true) (sym placed.children.numbers) (has_all sub.way (orders_at b parent) within));
    }
  where
    within : sub.way < length (orders_at b parent)
    within = omega (arith, drop_within (kids_at b parent) (drop (sub.way + 1) (kids_at b parent)) sub.way (kid_at b id) sub.next.kids, length-map (kids_at b parent) (λ (k : Kid). k.label.grid.order))

pub ruleset seat_laws = (seated)

pub ruleset chain_laws = (subgrid_seat)
