-- A child in its area.
use Rattle.std.proofs.Common.{◌≡◌, refl, sym, ap, ◌∙◌, subst, arith, ℕ, zero, suc, ◌+◌, ◌<◌, Bool, true, false, ◌&&◌, List, [], ◌∷◌, length, map, drop, Some, if◌then◌else◌, true≢false, add-one}
use Rattle.std.specs.Prelude.{get_or, reverse, slice_get}
use Rattle.std.proofs.Math.Seq.{drop-cons}
use Rattle.std.proofs.lemmas.List.{length-map}
use Rattle.std.proofs.lemmas.Option.{slice_get-get_or, slice_get_within}
use Rattle.lunit.specs.declared.geometry.Area.{Area}
use Rattle.node_arena.specs.Numbers.{child_at}
use Rattle.node_arena.specs.declared.number.NodeId.{NodeId}
use Rattle.part_rules.specs.Lists.{zipped}
use Rattle.part_rules.specs.Placement.{no_area}
use Rattle.tree_rules.specs.Answers.{Kid, Pair}
use Rattle.tree_rules.specs.Chains.{Above, Link, chain_of, has_chain, link_to, sibling_of}
use Rattle.tree_rules.specs.Contexts as rules
use Rattle.tree_rules.specs.GridSizes.{Entry, entry_of}
use Rattle.tree_rules.specs.Labels.{Label}
use Rattle.tree_rules.specs.Orders.{in_order}
use Rattle.placing.specs.declared.contexts.Above.TheVariants as above
use Rattle.placing.specs.declared.contexts.Context.{Context}
use Rattle.placing.specs.declared.contexts.Placed.{Placed}
use Rattle.placing.specs.Areas.{HasChildren, IsPlaced, child_in, entries_at, numbered_area, placed_of, siblings_at}
use Rattle.placing.specs.Children.{IsNext, IsTree}
use Rattle.placing.specs.Insides.{AreInside, IsInside}
use Rattle.placing.specs.Nodes.{BareTrees, above_at, kid_at, kids_at, sight_at}
use Rattle.placing.specs.Order.{item_of, items_of}
use Rattle.placing.specs.Seats.{IsSeat, context_at, context_of, seat_of}
use Rattle.tree_rules.specs.Places.{Seen}
use Rattle.tree_rules.proofs.Lengths.{length_zipped}
use Rattle.placing.specs.Bases.{HoldsPlaces}
use Rattle.placing.specs.Wides.{kids_in}
use Rattle.placing.specs.declared.wide.GridBase.{GridBase}
use Rattle.placing.proofs.Numbers.{Differ, differ_in_order, head_is, items_in_order, of_number_at}
use Rattle.placing.proofs.Seated.{seat_with}

-- ---- lists side by side

pub zipped_drop : {A B C : Type 0} (f : A → B → C) (xs xs' : List A) (ys ys' : List B) (i : ℕ) (x : A) (y : B) → drop i xs ≡ x ∷ xs' → drop i ys ≡ y ∷ ys' → drop i (zipped f xs ys) ≡ f x y ∷ zipped f xs' ys'
zipped_drop f [] xs' ys ys' zero x y p q = absurd cc
zipped_drop f [] xs' ys ys' (suc i) x y p q = absurd cc
zipped_drop f (u ∷ us) xs' [] ys' zero x y p q = absurd cc
zipped_drop f (u ∷ us) xs' [] ys' (suc i) x y p q = absurd cc
zipped_drop f (u ∷ us) xs' (v ∷ vs) ys' zero x y p q =
    let a : u ≡ x = cc in
    let b : us ≡ xs' = cc in
    let c : v ≡ y = cc in
    let d : vs ≡ ys' = cc in
    λ j. f (a j) (c j) ∷ zipped f (b j) (d j)
zipped_drop f (u ∷ us) xs' (v ∷ vs) ys' (suc i) x y p q = zipped_drop f us xs' vs ys' i x y p q

tail_drop : {A : Type 0} (xs rest : List A) (i : ℕ) (x : A) → drop i xs ≡ x ∷ rest → drop (i + 1) xs ≡ rest
tail_drop {A} xs rest i x e = ap (λ n. drop n xs) (add-one i) ∙ go xs i e
  where
    go : (us : List A) (k : ℕ) → drop k us ≡ x ∷ rest → drop (suc k) us ≡ rest
    go [] zero h = absurd cc
    go [] (suc k) h = absurd cc
    go (u ∷ us) zero h = cc
    go (u ∷ us) (suc k) h = go us k h

map_drop : {A B : Type 0} (f : A → B) (xs rest : List A) (i : ℕ) (x : A) → drop i xs ≡ x ∷ rest → drop i (map f xs) ≡ f x ∷ map f rest
map_drop f [] rest zero x e = absurd cc
map_drop f [] rest (suc i) x e = absurd cc
map_drop f (u ∷ us) rest zero x e =
    let a : u ≡ x = cc in
    let b : us ≡ rest = cc in
    λ j. f (a j) ∷ map f (b j)
map_drop f (u ∷ us) rest (suc i) x e = map_drop f us rest i x e

pub at_index : {A : Type 0} (xs : List A) (i : ℕ) (d : A) → i < length xs → drop i xs ≡ get_or xs i d ∷ drop (i + 1) xs
at_index xs i d h = drop-cons xs i d h ∙ ap (λ n. get_or xs i d ∷ drop n xs) (sym (add-one i))

-- ---- the child at an index

module _ (b : BareTrees) (id : NodeId) (p : Placed) (i n : ℕ) (e : NodeId × Area) (named : HasChildren b id p)
    (numbers : drop i p.numbers ≡ n ∷ drop (i + 1) p.numbers) (areas : drop i p.areas ≡ e ∷ drop (i + 1) p.areas) where
  -- its number as a node
  pub child_there : child_at b id n ≡ Some e.0
  child_there = first (map_drop (child_at b id) p.numbers (drop (i + 1) p.numbers) i n numbers) (map_drop child_in p.areas (drop (i + 1) p.areas) i e areas)
    where
      first : drop i (map (child_at b id) p.numbers) ≡ child_at b id n ∷ map (child_at b id) (drop (i + 1) p.numbers) → drop i (map child_in p.areas) ≡ Some e.0 ∷ map child_in (drop (i + 1) p.areas) → child_at b id n ≡ Some e.0
      first x y = let z : child_at b id n ∷ map (child_at b id) (drop (i + 1) p.numbers) ≡ Some e.0 ∷ map child_in (drop (i + 1) p.areas) = sym x ∙ ap (drop i) named.children ∙ y in cc

  area_there : drop i (placed_of p).areas ≡ (n, e.1) ∷ zipped numbered_area (drop (i + 1) p.numbers) (drop (i + 1) p.areas)
  area_there = zipped_drop numbered_area p.numbers (drop (i + 1) p.numbers) p.areas (drop (i + 1) p.areas) i n e numbers areas

  kids_there : in_order (λ (k : Kid). k.label.grid.order) (kids_at b id) ≡ items_of (kid_at b id) (kids_at b id) p.numbers
  kids_there = items_in_order (λ (k : Kid). k.label.grid.order) (kid_at b id) (kids_at b id) ∙ ap (items_of (kid_at b id) (kids_at b id)) (sym named.numbers)

  -- the entries from it on
  pub entry_there : IsNext b id n e.0 → drop i (entries_at b id p) ≡ record { number = n; kid = kid_at b e.0; area = e.1 } ∷ drop (i + 1) (entries_at b id p)
  entry_there next =
      ahead
      ∙ ap (λ (k : Kid). record { number = n; kid = k; area = e.1 } ∷ zipped entry_of rest_kids rest_areas) (head_is (kid_at b id) (kids_at b id) (drop (n + 1) (kids_at b id)) n (kid_at b e.0) next.kids)
      ∙ ap (λ (l : List Entry). record { number = n; kid = kid_at b e.0; area = e.1 } ∷ l) (sym (tail_drop (entries_at b id p) (zipped entry_of rest_kids rest_areas) i (entry_of (item_of (kid_at b id) (kids_at b id) n) (n, e.1)) ahead))
    where
      rest_kids : List (ℕ × Kid)
      rest_kids = items_of (kid_at b id) (kids_at b id) (drop (i + 1) p.numbers)

      rest_areas : List (ℕ × Area)
      rest_areas = zipped numbered_area (drop (i + 1) p.numbers) (drop (i + 1) p.areas)

      ahead : drop i (entries_at b id p) ≡ entry_of (item_of (kid_at b id) (kids_at b id) n) (n, e.1) ∷ zipped entry_of rest_kids rest_areas
      ahead = zipped_drop entry_of (in_order (λ (k : Kid). k.label.grid.order) (kids_at b id)) rest_kids (placed_of p).areas rest_areas i (item_of (kid_at b id) (kids_at b id) n) (n, e.1)
          (ap (drop i) kids_there ∙ map_drop (item_of (kid_at b id) (kids_at b id)) p.numbers (drop (i + 1) p.numbers) i n numbers) area_there

  -- its area is within the limits
  pub inside_there : (c : rules.Context) → IsPlaced b id c p → IsInside c e.1
  inside_there c placed = go p.areas i (drop (i + 1) p.areas) areas placed.inside
    where
      go : (es : List (NodeId × Area)) (k : ℕ) (rest : List (NodeId × Area)) → drop k es ≡ e ∷ rest → AreInside c (map (λ (x : NodeId × Area). x.1) es) → IsInside c e.1
      go [] zero rest h all = absurd cc
      go [] (suc k) rest h all = absurd cc
      go (x ∷ es) zero rest h all = let same : x ≡ e = cc in subst (λ (z : NodeId × Area). IsInside c z.1) same all.0
      go (x ∷ es) (suc k) rest h all = go es k rest h all.1

  -- the area of the entry is that of its number
  own_area : (c : rules.Context) → IsPlaced b id c p → e.1 ≡ rules.area_of (placed_of p) n
  own_area c placed = sym (of_number_at no_area (placed_of p).areas (zipped numbered_area (drop (i + 1) p.numbers) (drop (i + 1) p.areas)) i n e.1 differ area_there)
    where
      differ : Differ (placed_of p).areas
      differ = subst (λ (x : rules.Placed). Differ x.areas) (sym placed.placed) (differ_in_order (λ s. s.grid.order) (siblings_at b id) rules.with_area (λ x y. refl) _)

  linked : (above : Above) (way : ℕ) (x : Label) (l : List Link) → l ≡ chain_of above way x → has_chain l ≡ true → l ≡ link_to above way ∷ above.chain
  linked above way x l same some = same ∙ go (above.is_grid && _) (ap has_chain (sym same) ∙ some)
    where
      go : (t : Bool) → has_chain (if t then link_to above way ∷ above.chain else []) ≡ true → (if t then link_to above way ∷ above.chain else []) ≡ link_to above way ∷ above.chain
      go true h = refl
      go false h = absurd (true≢false (sym h))

  pub seat_there : IsNext b id n e.0 → (c : Context) (reps : List Pair) → context_of c ≡ context_at (sight_at b id) reps → IsPlaced b id (context_of c) p → has_chain (sight_at b e.0).chain ≡ true → IsSeat (sight_at b e.0) reps (above.Grid c) e.1
  seat_there next c reps context placed some =
      record {
        seat = seat_with b e.0 id reps c p n e.1 (linked (above_at b id) n (sight_at b e.0).label (sight_at b e.0).chain next.chain some) context placed (own_area (context_of c) placed);
        inside = inside_there (context_of c) placed;
      }

-- a node that is no subgrid
pub alone_there : (b : BareTrees) (c : NodeId) (a : Area) → has_chain (sight_at b c).chain ≡ false → IsSeat (sight_at b c) [] above.Nothing a
alone_there b c a none = go (sight_at b c).chain refl none
  where
    go : (l : List Link) → (sight_at b c).chain ≡ l → has_chain l ≡ false → IsSeat (sight_at b c) [] above.Nothing a
    go [] same h = record { seat = ap (λ x. seat_of x (reverse [])) (sym same); inside = tt }
    go (x ∷ l) same h = absurd (true≢false h)

pub counts : (b : BareTrees) (id : NodeId) (p : Placed) → HasChildren b id p → length p.numbers ≡ length p.areas
counts b id p named = sym (length-map p.numbers (child_at b id)) ∙ ap length named.children ∙ length-map p.areas child_in

-- ---- the entry at an index

pub record IsEntry (b : BareTrees) (id : NodeId) (p : Placed) (i n : ℕ) (e : NodeId × Area) : Type 0 where
  pub next : IsNext b id n e.0
  pub entry : drop i (entries_at b id p) ≡ record { number = n; kid = kid_at b e.0; area = e.1 } ∷ drop (i + 1) (entries_at b id p)
  pub inside : (c : rules.Context) → IsPlaced b id c p → IsInside c e.1
  pub seat : (c : Context) (reps : List Pair) → context_of c ≡ context_at (sight_at b id) reps → IsPlaced b id (context_of c) p → has_chain (sight_at b e.0).chain ≡ true → IsSeat (sight_at b e.0) reps (above.Grid c) e.1

listed : {A : Type 0} (l all : List A) (i : ℕ) (d : A) → l ≡ all → i < length l → drop i all ≡ get_or l i d ∷ drop (i + 1) all
listed {A} l all i d e h = subst (λ (x : List A). drop i x ≡ get_or l i d ∷ drop (i + 1) x) e (at_index l i d h)

pub is_entry : (b : BareTrees) (id : NodeId) (p : Placed) (numbers : List ℕ) (areas : List (NodeId × Area)) (i : ℕ) (d : NodeId × Area) → IsTree b → HasChildren b id p → numbers ≡ p.numbers → areas ≡ p.areas → i < length p.areas
    → IsEntry b id p i (get_or numbers i 0) (get_or areas i d)
is_entry b id p numbers areas i d whole named x y h =
    record {
      next = next;
      entry = entry_there b id p i n e named at_number at_area next;
      inside = inside_there b id p i n e named at_number at_area;
      seat = seat_there b id p i n e named at_number at_area next;
    }
  where
    n : ℕ
    n = get_or numbers i 0

    e : NodeId × Area
    e = get_or areas i d

    at_number : drop i p.numbers ≡ n ∷ drop (i + 1) p.numbers
    at_number = listed numbers p.numbers i 0 x (omega (arith, h, ap length x, counts b id p named))

    at_area : drop i p.areas ≡ e ∷ drop (i + 1) p.areas
    at_area = listed areas p.areas i d y (omega (arith, h, ap length y))

    next : IsNext b id n e.0
    next = whole.next id e.0 n (child_there b id p i n e named at_number at_area)

-- ---- the child of an entry

-- It is the entry of the child of this index.
pub record HasKid (b : BareTrees) (id : NodeId) (p : Placed) (i : ℕ) (e : Entry) : Type 0 where
  pub child : NodeId
  pub number : child_at b id e.number ≡ Some child
  pub area : slice_get p.areas i ≡ Some (child, e.area)
  pub kid : e.kid ≡ kid_at b child

pub entries_counted : (b : BareTrees) (id : NodeId) (p : Placed) → HasChildren b id p → length (entries_at b id p) ≡ length p.areas
entries_counted b id p named =
    length_zipped entry_of (in_order (λ (k : Kid). k.label.grid.order) (kids_at b id)) (placed_of p).areas (placed ∙ sym kids) ∙ kids ∙ counts b id p named
  where
    kids : length (in_order (λ (k : Kid). k.label.grid.order) (kids_at b id)) ≡ length p.numbers
    kids =
        ap length (items_in_order (λ (k : Kid). k.label.grid.order) (kid_at b id) (kids_at b id) ∙ ap (items_of (kid_at b id) (kids_at b id)) (sym named.numbers))
        ∙ length-map p.numbers (item_of (kid_at b id) (kids_at b id))

    placed : length (placed_of p).areas ≡ length p.numbers
    placed = length_zipped numbered_area p.numbers p.areas (sym (counts b id p named))

got_there : {A : Type 0} (xs rest : List A) (i : ℕ) (x : A) → drop i xs ≡ x ∷ rest → slice_get xs i ≡ Some x
got_there [] rest zero x e = absurd cc
got_there [] rest (suc i) x e = absurd cc
got_there (y ∷ xs) rest zero x e = cc
got_there (y ∷ xs) rest (suc i) x e = got_there xs rest i x e

pub entries_told : (b : BareTrees) (id : NodeId) (p : Placed) (i : ℕ) (e : Entry) → IsTree b → HasChildren b id p → slice_get (entries_at b id p) i ≡ Some e → HasKid b id p i e
entries_told b id p i e whole named there =
    record {
      child = own.0;
      number = ap (λ (x : Entry). child_at b id x.number) same ∙ found.next.number;
      area = slice_get-get_or p.areas i d within ∙ ap (λ (x : Entry). Some (own.0, x.area)) (sym same);
      kid = ap (λ (x : Entry). x.kid) same;
    }
  where
    d : NodeId × Area
    d = (record { slot = 0; turn = 0 }, no_area)

    own : NodeId × Area
    own = get_or p.areas i d

    within : i < length p.areas
    within = omega (arith, slice_get_within (entries_at b id p) i e there, entries_counted b id p named)

    found : IsEntry b id p i (get_or p.numbers i 0) own
    found = is_entry b id p p.numbers p.areas i d whole named refl refl within

    some_same : (x y : Entry) → Some x ≡ Some y → x ≡ y
    some_same x y h = cc

    same : e ≡ record { number = get_or p.numbers i 0; kid = kid_at b own.0; area = own.1 }
    same = some_same e (record { number = get_or p.numbers i 0; kid = kid_at b own.0; area = own.1 }) (sym there ∙ got_there (entries_at b id p) (drop (i + 1) (entries_at b id p)) i _ found.entry)

-- ---- areas by the same counts

areas_alike : (ms ns : List ℕ) (xs ys : List (NodeId × Area)) → length ms ≡ length xs → length ns ≡ length ys → zipped numbered_area ms xs ≡ zipped numbered_area ns ys → map child_in xs ≡ map child_in ys → xs ≡ ys
areas_alike [] [] [] [] a b e f = refl
areas_alike [] [] [] (y ∷ ys) a b e f = absurd (omega (arith, b))
areas_alike [] [] (x ∷ xs) ys a b e f = absurd (omega (arith, a))
areas_alike [] (n ∷ ns) [] [] a b e f = absurd (omega (arith, b))
areas_alike [] (n ∷ ns) [] (y ∷ ys) a b e f = absurd cc
areas_alike [] (n ∷ ns) (x ∷ xs) ys a b e f = absurd (omega (arith, a))
areas_alike (m ∷ ms) ns [] ys a b e f = absurd (omega (arith, a))
areas_alike (m ∷ ms) [] (x ∷ xs) [] a b e f = absurd cc
areas_alike (m ∷ ms) [] (x ∷ xs) (y ∷ ys) a b e f = absurd (omega (arith, b))
areas_alike (m ∷ ms) (n ∷ ns) (x ∷ xs) [] a b e f = absurd (omega (arith, b))
areas_alike (m ∷ ms) (n ∷ ns) (x ∷ xs) (y ∷ ys) a b e f =
    let first : numbered_area m x ≡ numbered_area n y = cc in
    let area : x.1 ≡ y.1 = ap (λ (z : ℕ × Area). z.1) first in
    let rest : zipped numbered_area ms xs ≡ zipped numbered_area ns ys = cc in
    let child : x.0 ≡ y.0 = cc in
    let children : map child_in xs ≡ map child_in ys = cc in
    let others : xs ≡ ys = areas_alike ms ns xs ys (omega (arith, a)) (omega (arith, b)) rest children in
    λ i. (child i, area i) ∷ others i

numbered_count : (kids : List NodeId) (p : Placed) → map (slice_get kids) p.numbers ≡ map child_in p.areas → length p.numbers ≡ length p.areas
numbered_count kids p e = sym (length-map p.numbers (slice_get kids)) ∙ ap length e ∙ length-map p.areas child_in

-- The areas of the children of a node are the same by the same counts.
pub places_alike : (s : Seen) (kids : List NodeId) (p q : GridBase) → HoldsPlaces s kids p → HoldsPlaces s kids q → p.pairs ≡ q.pairs → p.placed ≡ q.placed
places_alike s kids p q a b e = λ i. record { areas = areas i; numbers = numbers i; columns = (placed i).columns; rows = (placed i).rows }
  where
    placed : placed_of p.placed ≡ placed_of q.placed
    placed = a.placed.placed ∙ ap (λ pairs. rules.placed_children (context_at s pairs) s.label.grid (map (λ (k : Kid). sibling_of k.label) (kids_in s))) e ∙ sym b.placed.placed

    numbers : p.placed.numbers ≡ q.placed.numbers
    numbers = a.placed.numbers ∙ sym b.placed.numbers

    areas : p.placed.areas ≡ q.placed.areas
    areas = areas_alike p.placed.numbers q.placed.numbers p.placed.areas q.placed.areas (numbered_count kids p.placed a.placed.children) (numbered_count kids q.placed b.placed.children)
        (ap (λ (x : rules.Placed). x.areas) placed) (sym a.placed.children ∙ ap (map (slice_get kids)) numbers ∙ b.placed.children)
