-- The grid of the code is that of the definitions, and its questions lead to its children.
use Rattle.std.proofs.Common.{◌≡◌, ℕ, zero, suc, ◌+◌, ◌∷◌, ◌++◌, [], List, length, map, drop, refl, sym, ap, ◌∙◌, subst, arith, ◌≤◌, length-append, append-nil, Contains, ℤ, Some}
use Rattle.std.proofs.lemmas.List.{drop_all}
use Rattle.std.proofs.lemmas.List.Elements.{Contains-append_left, Contains-append_right, Contains-push}
use Rattle.lunit.specs.declared.item.Item.{Item}
use Rattle.node_arena.specs.declared.number.NodeId.{NodeId}
use Rattle.part_rules.specs.Lists.{zipped}
use Rattle.node_arena.specs.Numbers.{child_at}
use Rattle.placing.specs.Areas.{IsPlaced, entries_at, entry_by, numbered_area, placed_at, placed_of}
use Rattle.placing.specs.Nodes.{BareTrees, kids_at, sight_at, uses_at}
use Rattle.placing.specs.Seats.{context_at, context_of}
use Rattle.placing.specs.Walks.{IsStep, State, StepsDown, Stopped, Walked, WalkedBelow, bare_in}
use Rattle.placing.specs.declared.items.ChildArea.{ChildArea}
use Rattle.placing.specs.declared.contexts.Above.TheVariants as above
use Rattle.placing.specs.declared.contexts.Context.{Context}
use Rattle.placing.specs.declared.contexts.Placed.{Placed}
use Rattle.tree_rules.specs.Answers.{Kid, Pair}
use Rattle.tree_rules.specs.AskedQueries.{ToChild, grid_asks_inline, inline_query, uses_by}
use Rattle.tree_rules.specs.Contexts as rules
use Rattle.tree_rules.specs.GridSizes.{Entry, entry_of, inline_of_entry, pairs_for, shares_columns}
use Rattle.tree_rules.specs.Labels.{Label}
use Rattle.tree_rules.specs.Orders.{in_order}
use Rattle.tree_rules.specs.Repetitions.{own_pair}
use Rattle.tree_rules.specs.declared.kind.NodeKind.{NodeKind}
use Rattle.tree_rules.specs.declared.kind.NodeKind.TheVariants as kind
use Rattle.tree_rules.specs.declared.query.Given.{Given}
use Rattle.tree_rules.specs.declared.query.Given.TheVariants as given
use Rattle.tree_rules.specs.declared.query.Query.{Query}
use Rattle.inline_sizes.specs.Grids.{AreAnswers, IsBase, IsCounted, IsGrid, LeadsOn, asked_of, items_from}
use Rattle.placing.specs.Wides.{IsAbove}
use Rattle.inline_sizes.specs.GridsSeen.{grid_seen}
use Rattle.placing.specs.declared.wide.GridBase.{GridBase}

-- ---- lists

-- what stands at the front of the rest of a list is in it
pub contains_drop : {A : Type 0} (xs rest : List A) (i : ℕ) (x : A) → drop i xs ≡ x ∷ rest → Contains xs x
contains_drop [] rest zero x e = absurd cc
contains_drop [] rest (suc i) x e = absurd cc
contains_drop (u ∷ us) rest zero x e = let same : x ≡ u = cc in subst (λ z. Contains (z ∷ us) x) same (Contains-append_left (x ∷ []) us x (Contains-push [] x))
contains_drop (u ∷ us) rest (suc i) x e = Contains-append_right (u ∷ []) us x (contains_drop us rest i x e)

pub map_drop : {A B : Type 0} (f : A → B) (xs rest : List A) (i : ℕ) (x : A) → drop i xs ≡ x ∷ rest → drop i (map f xs) ≡ f x ∷ map f rest
map_drop f [] rest zero x e = absurd cc
map_drop f [] rest (suc i) x e = absurd cc
map_drop f (u ∷ us) rest zero x e =
    let a : u ≡ x = cc in
    let b : us ≡ rest = cc in
    λ j. f (a j) ∷ map f (b j)
map_drop f (u ∷ us) rest (suc i) x e = map_drop f us rest i x e

-- ---- before its children are asked

own_pair_same : (x y : Label) (width : Given) → x.grid ≡ y.grid → x.content ≡ y.content → own_pair x width ≡ own_pair y width
own_pair_same x y (given.Size v) g h = λ i. own_pair (record { name = []; kind = kind.Grid; grid = g i; content = h i }) (given.Size v)
own_pair_same x y (given.Tracks edges gap) g h = λ i. own_pair (record { name = []; kind = kind.Grid; grid = g i; content = h i }) (given.Tracks edges gap)
own_pair_same x y given.None g h = λ i. own_pair (record { name = []; kind = kind.Grid; grid = g i; content = h i }) given.None

-- its counts, by the style alone
pub counted : (b : BareTrees) (n : NodeId) (outer : List Pair) (width : Given) (pair : Pair) (pairs : List Pair) (x : Label) → pairs ≡ outer ++ pair ∷ [] → pair ≡ own_pair x width → x.grid ≡ (sight_at b n).label.grid → x.content ≡ (sight_at b n).label.content →
    IsCounted b n outer width (pair, pairs)
counted b n outer width pair pairs x e o g h = record { pair = o ∙ own_pair_same x (sight_at b n).label width g h; pairs = e }

pub based : (b : BareTrees) (n : NodeId) (outer : List Pair) (width : Given) (c : Context) (p : Placed) (counts : Pair × List Pair) →
    length outer ≡ length (sight_at b n).chain → IsCounted b n outer width counts → context_of c ≡ context_at (sight_at b n) (outer ++ counts.0 ∷ []) → IsPlaced b n (context_of c) p →
    IsBase b n outer width (record { pair = counts.0; pairs = counts.1; above = above.Grid c; placed = p })
based b n outer width c p counts l h k q =
    let ck : context_of c ≡ context_at (sight_at b n) counts.1 = k ∙ ap (context_at (sight_at b n)) (sym h.pairs) in
    record {
      laid = record {
        counts = ap length h.pairs ∙ length-append outer (counts.0 ∷ []) ∙ ap (λ m. m + 1) l;
        context = ck;
        placed = subst (λ z. IsPlaced b n z p) ck q;
      };
      pair = h.pair;
      pairs = h.pairs;
    }

-- ---- the grid of the definitions

module _ (b : BareTrees) (n : NodeId) (outer : List Pair) (width : Given) (base : GridBase) (h : IsBase b n outer width base) where
  -- its counts
  pub seen_pairs : base.pairs ≡ (grid_seen b n outer width).pairs
  unfolding grid_seen
  seen_pairs = h.pairs ∙ ap (λ p. outer ++ p ∷ []) h.pair

  -- its context
  pub seen_context : context_at (sight_at b n) base.pairs ≡ (grid_seen b n outer width).context
  unfolding grid_seen
  seen_context = ap (context_at (sight_at b n)) (h.pairs ∙ ap (λ p. outer ++ p ∷ []) h.pair)

  -- the areas of its children
  pub seen_placed : placed_of base.placed ≡ (grid_seen b n outer width).placed
  unfolding grid_seen
  seen_placed = h.laid.placed.placed ∙ ap (placed_at b n) (ap (context_at (sight_at b n)) (h.pairs ∙ ap (λ p. outer ++ p ∷ []) h.pair))

  pub seen_entries : entries_at b n base.placed ≡ (grid_seen b n outer width).entries
  unfolding grid_seen
  seen_entries = ap (λ (z : rules.Placed). zipped entry_of (in_order (λ (k : Kid). k.label.grid.order) (kids_at b n)) z.areas) (h.laid.placed.placed ∙ ap (placed_at b n) (ap (context_at (sight_at b n)) (h.pairs ∙ ap (λ p. outer ++ p ∷ []) h.pair)))

  seen_inlines : map (inline_of_entry (grid_seen b n outer width).pairs) (grid_seen b n outer width).entries ≡ (grid_seen b n outer width).inlines
  unfolding grid_seen
  seen_inlines = refl

  seen_items : items_from (grid_seen b n outer width).context.columns (grid_seen b n outer width).pairs (grid_seen b n outer width).entries ≡ (grid_seen b n outer width).columns.items
  unfolding grid_seen
  seen_items = refl

  -- with what its children answer
  pub grid_made : (sizes : List (ℤ × ℤ)) (made : List Item) → AreAnswers b n base sizes made → IsGrid b n outer width (record { base = base; inlines = sizes; items = made })
  grid_made sizes made a =
      record {
        base = h;
        pairs = seen_pairs;
        context = subst (λ z. IsAbove z base.above) seen_context h.laid.context;
        placed = subst (λ z. IsPlaced b n z base.placed) seen_context h.laid.placed;
        entries = seen_entries;
        inlines = a.inlines ∙ (λ i. map (inline_of_entry (seen_pairs i)) (seen_entries i)) ∙ seen_inlines;
        items = a.items ∙ (λ i. items_from (seen_context i).columns (seen_pairs i) (seen_entries i)) ∙ seen_items;
      }

  asks_next : (k : ℕ) (e : Entry) → drop k (entries_at b n base.placed) ≡ e ∷ drop (k + 1) (entries_at b n base.placed) → (rest : List ToChild) →
      Contains (map (grid_asks_inline (grid_seen b n outer width)) (grid_seen b n outer width).entries ++ rest) (e.number, inline_query (shares_columns e.kid) (pairs_for e.kid base.pairs))
  asks_next k e next rest =
      let there : drop k (grid_seen b n outer width).entries ≡ e ∷ drop (k + 1) (grid_seen b n outer width).entries = subst (λ (l : List Entry). drop k l ≡ e ∷ drop (k + 1) l) seen_entries next in
      let asked = contains_drop _ _ k (grid_asks_inline (grid_seen b n outer width) e) (map_drop (grid_asks_inline (grid_seen b n outer width)) (grid_seen b n outer width).entries (drop (k + 1) (grid_seen b n outer width).entries) k e there) in
      let here : grid_asks_inline (grid_seen b n outer width) e ≡ (e.number, inline_query (shares_columns e.kid) (pairs_for e.kid base.pairs)) = ap (λ (ps : List Pair). (e.number, inline_query (shares_columns e.kid) (pairs_for e.kid ps))) (sym seen_pairs) in
      Contains-append_left _ rest _ (subst (Contains (map (grid_asks_inline (grid_seen b n outer width)) (grid_seen b n outer width).entries)) here asked)

-- A question with its counts and its width leads to its children.
leads_by : (b : BareTrees) (n : NodeId) (base : GridBase) (q : Query) → IsBase b n q.reps q.inline base → (k : NodeKind) → k ≡ kind.Grid → (i : ℕ) (e : Entry) → drop i (entries_at b n base.placed) ≡ e ∷ drop (i + 1) (entries_at b n base.placed) →
    Contains (uses_by k (sight_at b n).label (sight_at b n).chain (kids_at b n) q) (e.number, inline_query (shares_columns e.kid) (pairs_for e.kid base.pairs))
unfolding grid_seen
leads_by b n base q h k is i e next =
    subst (λ (z : NodeKind). Contains (uses_by z (sight_at b n).label (sight_at b n).chain (kids_at b n) q) (e.number, inline_query (shares_columns e.kid) (pairs_for e.kid base.pairs))) (sym is)
    (asks_next b n q.reps q.inline base h i e next _)

pub leads_on : (b : BareTrees) (n : NodeId) (outer : List Pair) (width : Given) (base : GridBase) → (sight_at b n).label.kind ≡ kind.Grid → IsBase b n outer width base → (q : Query) → q.reps ≡ outer → q.inline ≡ width → LeadsOn b n base q
leads_on b n outer width base is h q r w = λ k e next. leads_by b n base q (subst (λ (o : List Pair). IsBase b n o q.inline base) (sym r) (subst (λ (g : Given). IsBase b n outer g base) (sym w) h)) (sight_at b n).label.kind is k e next

-- of the tree that keeps it, and as the code reads it there
module _ (b d : BareTrees) (same : d ≡ b) (n : NodeId) (outer : List Pair) (width : Given) (base read : GridBase) (is : read ≡ base) (h : IsBase b n outer width base) where
  pub base_there : IsBase d n outer width read
  base_there = subst (λ z. IsBase z n outer width read) (sym same) (subst (IsBase b n outer width) (sym is) h)

  pub grid_there : (sizes : List (ℤ × ℤ)) (made : List Item) → AreAnswers d n read sizes made → IsGrid b n outer width (record { base = base; inlines = sizes; items = made })
  grid_there sizes made a = grid_made b n outer width base h sizes made (subst (λ z. AreAnswers z n base sizes made) same (subst (λ x. AreAnswers d n x sizes made) is a))

  pub leads_there : (sight_at b n).label.kind ≡ kind.Grid → (q : Query) → q.reps ≡ outer → q.inline ≡ width → LeadsOn d n read q
  leads_there k q r w = leads_on d n outer width read (subst (λ (z : BareTrees). (sight_at z n).label.kind ≡ kind.Grid) (sym same) k) base_there q r w

-- all of them
pub all_there : {A B : Type 0} (f : List A → List B) (xs : List A) (k : ℕ) (done all : List B) → f [] ≡ [] → length xs ≤ k → done ++ f (drop k xs) ≡ all → done ≡ all
all_there f xs k done all none end so_far = sym (ap (λ l. done ++ f l) (drop_all k xs end) ∙ ap (λ l. done ++ l) none ∙ append-nil done) ∙ so_far

-- ---- a walk of its children

zipped_few : {A B C : Type 0} (f : A → B → C) (xs : List A) (ys : List B) → length (zipped f xs ys) ≤ length ys
zipped_few f [] ys = omega arith
zipped_few f (x ∷ xs) [] = omega arith
zipped_few f (x ∷ xs) (y ∷ ys) = omega (arith, zipped_few f xs ys)

-- of a grid of the same tree, as it is called in the middle of a walk
module _ (b d : BareTrees) (is : d ≡ b) (n : NodeId) (base : GridBase) (e : ChildArea) (k : ℕ) (next : drop k (entries_at d n base.placed) ≡ entry_by d e ∷ drop (k + 1) (entries_at d n base.placed)) where
  module _ (steps : StepsDown b) (number : child_at d n e.number ≡ Some e.child) (q : Query) (leads : LeadsOn b n base q) (old mid new : State) (here : bare_in mid ≡ d) (w : WalkedBelow n q 0 old mid) where
    step_here : IsStep d n e.number e.child
    step_here = subst StepsDown (sym is) steps n e.child e.number number

    asks_here : Contains (uses_at d n q) (e.number, asked_of d base e)
    asks_here = subst (λ z. LeadsOn z n base q) (sym is) leads k (entry_by d e) next

    pub below_then : Walked e.child (asked_of d base e) mid new → WalkedBelow n q 0 old new
    below_then x = step_here.below q (asked_of d base e) 0 old mid new asks_here here w x

    pub stops_then : Stopped e.child (asked_of d base e) mid new → Stopped n q old new
    stops_then x = step_here.stops q (asked_of d base e) 0 old mid new asks_here here w x
