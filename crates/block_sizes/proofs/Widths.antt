-- The children of a grid in its columns, as the code holds them, one after the other.
use Rattle.std.proofs.Common.{arith, ◌≡◌, ℕ, zero, suc, ◌+◌, ◌<◌, ◌≤◌, ◌∷◌, ◌++◌, [], List, length, drop, refl, sym, ap, ◌∙◌, subst, append-nil, ℤ, Some}
use Rattle.std.specs.Prelude.{get_or}
use Rattle.std.proofs.lemmas.List.{drop_all, drop_more, length-map}
use Rattle.node_arena.specs.Numbers.{child_at}
use Rattle.node_arena.specs.declared.number.NodeId.{NodeId}
use Rattle.part_rules.specs.Lists.{zipped}
use Rattle.part_rules.specs.declared.view.View.{View}
use Rattle.placing.specs.Areas.{entries_at, entry_by, placed_of}
use Rattle.placing.specs.Nodes.{BareTrees, kid_at, sight_at}
use Rattle.placing.specs.Seats.{context_at}
use Rattle.placing.specs.Walks.{IsStep, State, StepsDown, Stopped, Walked, WalkedBelow, bare_in}
use Rattle.placing.specs.declared.items.ChildArea.{ChildArea}
use Rattle.tree_rules.specs.Answers.{Pair}
use Rattle.tree_rules.specs.Contexts as rules
use Rattle.tree_rules.specs.AskedQueries.{block_query}
use Rattle.tree_rules.specs.GridSizes.{Entry, Wide, from_first, pairs_for, shares_columns, shares_rows}
use Rattle.tree_rules.specs.declared.query.Given.{Given}
use Rattle.tree_rules.specs.declared.query.Query.{Query}
use Rattle.inline_sizes.specs.Grids.{IsGrid}
use Rattle.inline_sizes.specs.GridsSeen.{grid_seen}
use Rattle.placing.specs.declared.wide.GridBase.{GridBase}
use Rattle.placing.specs.declared.wide.GridParts.{GridParts}
use Rattle.block_sizes.specs.Children.{inline_of_child}
use Rattle.block_sizes.specs.Wides.{LeadsDown, asked_of, asks_of, columns_seen, items_from, rows_seen, wide_in, wide_seen, wides_seen}

-- ---- lists

drop_next : {A : Type 0} (u : A) (us : List A) (k : ℕ) → drop (suc k + 1) (u ∷ us) ≡ drop (k + 1) us
drop_next u us k = let e : suc k + 1 ≡ suc (k + 1) = omega arith in ap (λ n. drop n (u ∷ us)) e

zipped_by : {A B C : Type 0} (f : A → B → C) (xs xs' : List A) (ys ys' : List B) (k : ℕ) (x : A) (y : B) → drop k xs ≡ x ∷ xs' → drop k ys ≡ y ∷ ys' → drop k (zipped f xs ys) ≡ f x y ∷ zipped f xs' ys'
zipped_by f [] xs' ys ys' zero x y h e = absurd cc
zipped_by f [] xs' ys ys' (suc k) x y h e = absurd cc
zipped_by f (u ∷ us) xs' [] ys' zero x y h e = absurd cc
zipped_by f (u ∷ us) xs' [] ys' (suc k) x y h e = absurd cc
zipped_by f (u ∷ us) xs' (v ∷ vs) ys' zero x y h e =
    let a : u ≡ x = cc in
    let b : v ≡ y = cc in
    let c : us ≡ xs' = cc in
    let d : vs ≡ ys' = cc in
    λ j. f (a j) (b j) ∷ zipped f (c j) (d j)
zipped_by f (u ∷ us) xs' (v ∷ vs) ys' (suc k) x y h e = zipped_by f us xs' vs ys' k x y h e

-- what is left of two lists joined item by item
tail_drop : {A : Type 0} (xs rest : List A) (k : ℕ) (x : A) → drop k xs ≡ x ∷ rest → drop (k + 1) xs ≡ rest
tail_drop [] rest zero x h = absurd cc
tail_drop [] rest (suc k) x h = absurd cc
tail_drop (u ∷ us) rest zero x h = cc
tail_drop (u ∷ us) rest (suc k) x h = drop_next u us k ∙ tail_drop us rest k x h

zipped_next : {A B C : Type 0} (f : A → B → C) (xs : List A) (ys : List B) (k : ℕ) (x : A) (y : B) → drop k xs ≡ x ∷ drop (k + 1) xs → drop k ys ≡ y ∷ drop (k + 1) ys → drop k (zipped f xs ys) ≡ f x y ∷ drop (k + 1) (zipped f xs ys)
zipped_next f xs ys k x y h e =
    let here = zipped_by f xs (drop (k + 1) xs) ys (drop (k + 1) ys) k x y h e in
    here ∙ ap (λ l. f x y ∷ l) (sym (tail_drop (zipped f xs ys) (zipped f (drop (k + 1) xs) (drop (k + 1) ys)) k (f x y) here))

-- ---- the grid

module _ (b : BareTrees) (n : NodeId) (outer : List Pair) (width : Given) (parts : GridParts) (grid : IsGrid b n outer width parts) where
  placed_is : placed_of parts.base.placed ≡ (grid_seen b n outer width).placed
  unfolding grid_seen
  placed_is = grid.placed.placed

  pub columns_are : parts.base.placed.columns ≡ (grid_seen b n outer width).placed.columns
  columns_are = ap (λ (p : rules.Placed). p.columns) placed_is

  pub context_is : context_at (sight_at b n) parts.base.pairs ≡ (grid_seen b n outer width).context
  unfolding grid_seen
  context_is = ap (context_at (sight_at b n)) grid.pairs

  module _ (view : View 0) (v : view ≡ columns_seen b n outer width) (e : ChildArea) (sizes : ℤ × ℤ) where
    -- a child as the code tells it
    pub wide_is : wide_in b n parts.base view e sizes ≡ wide_seen b n outer width (entry_by b e) sizes
    unfolding wide_seen grid_seen
    wide_is = λ i.
        let inline : ℤ × Given = inline_of_child (sight_at b n).label.content.inline.items (v i) (from_first (columns_are i) e.area.columns) (kid_at b e.child).label (shares_columns (kid_at b e.child)) sizes in
        record { entry = entry_by b e; box = inline.0; inline = inline.1; down = (kid_at b e.child).answers.down (pairs_for (kid_at b e.child) (grid.pairs i)) inline.1 }

    pub asked_is : asked_of b parts.base e (wide_in b n parts.base view e sizes).inline ≡ asks_of b n outer width (wide_seen b n outer width (entry_by b e) sizes)
    unfolding wide_seen
    asked_is = λ i. block_query (shares_rows (kid_at b e.child)) (pairs_for (kid_at b e.child) (grid.pairs i)) (wide_is i).inline

    -- it comes next
    pub wide_next : (k : ℕ) → drop k (entries_at b n parts.base.placed) ≡ entry_by b e ∷ drop (k + 1) (entries_at b n parts.base.placed) → drop k parts.inlines ≡ sizes ∷ drop (k + 1) parts.inlines
        → drop k (wides_seen b n outer width) ≡ wide_seen b n outer width (entry_by b e) sizes ∷ drop (k + 1) (wides_seen b n outer width)
    unfolding wides_seen wide_seen
    wide_next k h s =
        zipped_next (wide_seen b n outer width) (grid_seen b n outer width).entries (grid_seen b n outer width).inlines k (entry_by b e) sizes
        (subst (λ (l : List Entry). drop k l ≡ entry_by b e ∷ drop (k + 1) l) grid.entries h)
        (subst (λ (l : List (ℤ × ℤ)). drop k l ≡ sizes ∷ drop (k + 1) l) grid.inlines s)

-- ---- all of them

pub all_there : {A B : Type 0} (f : List A → List B) (xs : List A) (k : ℕ) (done all : List B) → f [] ≡ [] → length xs ≤ k → done ++ f (drop k xs) ≡ all → done ≡ all
all_there f xs k done all none end so_far = sym (ap (λ l. done ++ f l) (drop_all k xs end) ∙ ap (λ l. done ++ l) none ∙ append-nil done) ∙ so_far

-- the items of the rows
pub rows_items : (b : BareTrees) (n : NodeId) (outer : List Pair) (width : Given) → items_from b n outer width (wides_seen b n outer width) ≡ (rows_seen b n outer width).items
unfolding rows_seen
rows_items b n outer width = refl

-- ---- a walk of a child, in the middle of one of the grid

module _ (b d : BareTrees) (is : d ≡ b) (n : NodeId) (outer : List Pair) (width : Given) (w : Wide) (c : NodeId) (r : Query) (k : ℕ) (next : drop k (wides_seen b n outer width) ≡ w ∷ drop (k + 1) (wides_seen b n outer width)) (asked : r ≡ asks_of b n outer width w)
    (steps : StepsDown b) (number : child_at b n w.entry.number ≡ Some c) (q : Query) (leads : LeadsDown b n outer width q) (old mid new : State) (here : bare_in mid ≡ d) (before : WalkedBelow n q 0 old mid) where
  step_here : IsStep b n w.entry.number c
  step_here = steps n c w.entry.number number

  pub below_then : Walked c r mid new → WalkedBelow n q 0 old new
  below_then x = step_here.below q (asks_of b n outer width w) 0 old mid new (leads k w next) (here ∙ is) before (subst (λ (z : Query). Walked c z mid new) asked x)

  pub stops_then : Stopped c r mid new → Stopped n q old new
  stops_then x = step_here.stops q (asks_of b n outer width w) 0 old mid new (leads k w next) (here ∙ is) before (subst (λ (z : Query). Stopped c z mid new) asked x)

-- ---- places in the lists

pub drop_some : {A : Type 0} (xs rest : List A) (k : ℕ) (x : A) → drop k xs ≡ x ∷ rest → k < length xs
drop_some [] rest zero x h = absurd cc
drop_some [] rest (suc k) x h = absurd cc
drop_some (u ∷ us) rest zero x h = omega arith
drop_some (u ∷ us) rest (suc k) x h = omega (arith, drop_some us rest k x h)

inlines_counted : (b : BareTrees) (n : NodeId) (outer : List Pair) (width : Given) → length (grid_seen b n outer width).inlines ≡ length (grid_seen b n outer width).entries
unfolding grid_seen
inlines_counted b n outer width = length-map (grid_seen b n outer width).entries _

-- there are sizes of the child that comes next
pub sizes_there : (b : BareTrees) (n : NodeId) (outer : List Pair) (width : Given) (parts : GridParts) (k : ℕ) (e : Entry) (rest : List Entry) → IsGrid b n outer width parts → drop k (entries_at b n parts.base.placed) ≡ e ∷ rest → k < length parts.inlines
sizes_there b n outer width parts k e rest grid next =
    omega (arith, drop_some (entries_at b n parts.base.placed) rest k e next, ap length grid.entries, ap length grid.inlines, inlines_counted b n outer width)

pub sizes_next : (xs ys : List (ℤ × ℤ)) (k : ℕ) (d x : ℤ × ℤ) → ys ≡ xs → k < length xs → x ≡ get_or ys k d → drop k xs ≡ x ∷ drop (k + 1) xs
sizes_next xs ys k d x same h is = drop_more xs k d h ∙ ap (λ (z : ℤ × ℤ). z ∷ drop (k + 1) xs) (sym (is ∙ ap (λ (l : List (ℤ × ℤ)). get_or l k d) same))

-- ---- one turn, in the middle of a walk

wide_number : (b : BareTrees) (n : NodeId) (outer : List Pair) (width : Given) (e : ChildArea) (sizes : ℤ × ℤ) → e.number ≡ (wide_seen b n outer width (entry_by b e) sizes).entry.number
unfolding wide_seen
wide_number b n outer width e sizes = refl

-- what the code asks of a child of the same tree is what is asked of the child that comes next
pub record IsTurn (b d : BareTrees) (n : NodeId) (outer : List Pair) (width : Given) (base : GridBase) (view : View 0) (e : ChildArea) (sizes : ℤ × ℤ) (k : ℕ) : Type 0 where
  pub wide : Wide
  pub next : drop k (wides_seen b n outer width) ≡ wide ∷ drop (k + 1) (wides_seen b n outer width)
  pub asked : asked_of d base e (wide_in d n base view e sizes).inline ≡ asks_of b n outer width wide
  pub number : child_at b n wide.entry.number ≡ Some e.child

turn : (b d : BareTrees) → d ≡ b → (n : NodeId) (outer : List Pair) (width : Given) (parts : GridParts) (view : View 0) (e : ChildArea) (sizes : ℤ × ℤ) (k : ℕ) → IsGrid b n outer width parts → view ≡ columns_seen b n outer width →
    drop k (entries_at d n parts.base.placed) ≡ entry_by d e ∷ drop (k + 1) (entries_at d n parts.base.placed) → drop k parts.inlines ≡ sizes ∷ drop (k + 1) parts.inlines → child_at d n e.number ≡ Some e.child → IsTurn b d n outer width parts.base view e sizes k
turn b d is n outer width parts view e sizes k grid v next there number =
    record {
      wide = wide_seen b n outer width (entry_by b e) sizes;
      next = wide_next b n outer width parts grid view v e sizes k (subst (λ (z : BareTrees). drop k (entries_at z n parts.base.placed) ≡ entry_by z e ∷ drop (k + 1) (entries_at z n parts.base.placed)) is next) there;
      asked = ap (λ (z : BareTrees). asked_of z parts.base e (wide_in z n parts.base view e sizes).inline) is ∙ asked_is b n outer width parts grid view v e sizes;
      number = ap (child_at b n) (sym (wide_number b n outer width e sizes)) ∙ subst (λ (z : BareTrees). child_at z n e.number ≡ Some e.child) is number;
    }

-- the child that comes next, by the base that the code reads
pub turn_read : (b d : BareTrees) → d ≡ b → (n : NodeId) (outer : List Pair) (width : Given) (parts : GridParts) (read : GridBase) → read ≡ parts.base → (view : View 0) (e : ChildArea) (sizes : ℤ × ℤ) (k : ℕ) → IsGrid b n outer width parts → view ≡ columns_seen b n outer width →
    drop k (entries_at d n parts.base.placed) ≡ entry_by d e ∷ drop (k + 1) (entries_at d n parts.base.placed) → drop k parts.inlines ≡ sizes ∷ drop (k + 1) parts.inlines → child_at d n e.number ≡ Some e.child → IsTurn b d n outer width read view e sizes k
turn_read b d is n outer width parts read same view e sizes k grid v next there number =
    subst (λ (base : GridBase). IsTurn b d n outer width base view e sizes k) (sym same) (turn b d is n outer width parts view e sizes k grid v next there number)
