-- What the frames of a grid give the leaves among its children.
use Rattle.std.proofs.Common.{arith, ◌≡◌, refl, sym, ap, ◌∙◌, subst, ℕ, zero, suc, ◌+◌, ◌<◌, Bool, true, false, List, [], ◌∷◌, map, drop, length, None, Some, true≢false}
use Rattle.std.specs.Prelude.{IsSome, ◌&&◌, slice_get}
use Rattle.layout_cache.specs.Kept.{answer_to}
use Rattle.node_arena.specs.declared.number.NodeId.{NodeId}
use Rattle.node_arena.specs.Numbers.{IsNumbered, below_at, child_at}
use Rattle.placing.specs.Children.{IsNext, IsTree}
use Rattle.placing.specs.Keeping.{is_leaf}
use Rattle.placing.specs.Kept.{frame_of}
use Rattle.placing.specs.Nodes.{NodeTrees, bare, children_at, kid_at, kids_at, sight_at}
use Rattle.placing.specs.Ranges.{AreReadable}
use Rattle.placing.specs.Walks.{State, kept_in}
use Rattle.placing.specs.declared.node.Frame.{Frame as NodeFrame}
use Rattle.tree_rules.specs.Answers.{Pair}
use Rattle.tree_rules.specs.AskedQueries.{block_query, pairs_below}
use Rattle.tree_rules.specs.Chains.{Link, has_chain, is_subgrid}
use Rattle.tree_rules.specs.GridSizes.{pairs_for, shares_columns}
use Rattle.tree_rules.specs.Queries.{Fits, IsGivenFor, answer_of, child_frames}
use Rattle.tree_rules.specs.declared.kind.NodeKind.TheVariants as kind
use Rattle.tree_rules.specs.declared.query.Ask.TheVariants as ask
use Rattle.tree_rules.specs.declared.query.Given.{Given}
use Rattle.tree_rules.specs.declared.query.Given.TheVariants as given
use Rattle.tree_rules.specs.declared.query.Query.{Query}
use Rattle.box_layout.specs.Asking.{frames_asked}
use Rattle.box_layout.specs.BoxesSeen.{frames_seen}
use Rattle.box_layout.specs.LeafHeights.{AreLeafFrames, AreLeavesKept, HoldLeaves, UsesLeaves, height_asked}
use Rattle.box_layout.proofs.BoxesFit.{frames_given}
use Rattle.box_layout.proofs.BoxSteps.{frames_told}
use Rattle.box_layout.proofs.Framed.{tops_get}
use Rattle.box_layout.proofs.GridFits.{context_of_kid}
use Rattle.box_layout.proofs.KidLeaves.{IsLeafMeasured, leaf_chain, leaf_measured}

-- ---- lists

mapped_there : {A B : Type 0} (f : A → B) (xs rest : List A) (i : ℕ) (x : A) → drop i xs ≡ x ∷ rest → drop i (map f xs) ≡ f x ∷ map f rest
mapped_there f [] rest zero x e = absurd cc
mapped_there f [] rest (suc i) x e = absurd cc
mapped_there f (u ∷ us) rest zero x e =
    let a : u ≡ x = cc in
    let b : us ≡ rest = cc in
    λ j. f (a j) ∷ map f (b j)
mapped_there f (u ∷ us) rest (suc i) x e = mapped_there f us rest i x e

got_there : {A : Type 0} (xs rest : List A) (i : ℕ) (x : A) → drop i xs ≡ x ∷ rest → slice_get xs i ≡ Some x
got_there [] rest zero x e = absurd cc
got_there [] rest (suc i) x e = absurd cc
got_there (u ∷ us) rest zero x e = let same : u ≡ x = cc in ap Some same
got_there (u ∷ us) rest (suc i) x e = got_there us rest i x e

-- the item that became this one
record IsFrom {A B : Type 0} (f : A → B) (xs : List A) (i : ℕ) (y : B) : Type 0 where
  item : A
  rest : List A
  there : drop i xs ≡ item ∷ rest
  is : f item ≡ y

from_there : {A B : Type 0} (f : A → B) (xs : List A) (i : ℕ) (y : B) (others : List B) → drop i (map f xs) ≡ y ∷ others → IsFrom f xs i y
from_there f [] zero y others e = absurd cc
from_there f [] (suc i) y others e = absurd cc
from_there f (u ∷ us) zero y others e = let same : f u ≡ y = cc in record { item = u; rest = us; there = refl; is = same }
from_there f (u ∷ us) (suc i) y others e = let k = from_there f us i y others e in record { item = k.item; rest = k.rest; there = k.there; is = k.is }

some_is : (x y : NodeId) → Some x ≡ Some y → x ≡ y
some_is x y e = cc

to_zero : (shared : Bool) (n : ℕ) (g : Given) → shared ≡ false → IsGivenFor true shared n g → IsGivenFor true false 0 g
to_zero true n g e h = absurd (true≢false e)
to_zero false n (given.Size x) e h = h
to_zero false n (given.Tracks edges gap) e h = absurd h
to_zero false n given.None e h = absurd h

-- an answer that is there is not wanting
pub known : {A B : Type 0} (x : A) → Some x ≡ None → B
known x e = absurd cc

-- ---- frames of a grid

module _ (t : NodeTrees) (n : NodeId) (readable : AreReadable (bare t)) (numbered : IsNumbered t) (is_tree : IsTree (bare t)) (q : Query) (is : (sight_at (bare t) n).label.kind ≡ kind.Grid) (framed : q ≡ frames_asked q.reps q.inline q.block) (fits : Fits (sight_at (bare t) n) q)
    (frames : List NodeFrame)
    (value : child_frames (map frame_of frames) ≡ answer_of (sight_at (bare t) n) q) (children : map (λ (f : NodeFrame). f.child) frames ≡ children_at (bare t) n) where
  asks : q.ask ≡ ask.Frames
  asks = ap (λ (z : Query). z.ask) framed

  seen : frames_seen (bare t) n q ≡ map frame_of frames
  seen =
      ap (frames_seen (bare t) n) framed
      ∙ frames_told (bare t) n q.reps q.inline q.block frames (value ∙ ap (answer_of (sight_at (bare t) n)) framed)

  child_there : (i : ℕ) (f : NodeFrame) (rest : List NodeFrame) → drop i frames ≡ f ∷ rest → child_at (bare t) n i ≡ Some f.child
  child_there i f rest at =
      tops_get (below_at (bare t) n) i
      ∙ ap (λ l. slice_get l i) (sym children)
      ∙ got_there (map (λ (g : NodeFrame). g.child) frames) (map (λ (g : NodeFrame). g.child) rest) i f.child (mapped_there (λ (g : NodeFrame). g.child) frames rest i f at)

  frame_there : (i : ℕ) (f : NodeFrame) (rest : List NodeFrame) → drop i frames ≡ f ∷ rest → drop i (frames_seen (bare t) n q) ≡ frame_of f ∷ map frame_of rest
  frame_there i f rest at = ap (drop i) seen ∙ mapped_there frame_of frames rest i f at

  next_there : (i : ℕ) (f : NodeFrame) (rest : List NodeFrame) → drop i frames ≡ f ∷ rest → IsNext (bare t) n i f.child
  next_there i f rest at = is_tree.next n f.child i (child_there i f rest at)

  alone_there : (i : ℕ) (f : NodeFrame) (rest : List NodeFrame) → drop i frames ≡ f ∷ rest → is_leaf (sight_at (bare t) f.child).label.kind ≡ true → (sight_at (bare t) f.child).chain ≡ []
  alone_there i f rest at leaf = (next_there i f rest at).chain ∙ leaf_chain _ i (sight_at (bare t) f.child).label leaf

  measured_there : (i : ℕ) (f : NodeFrame) (rest : List NodeFrame) → drop i frames ≡ f ∷ rest → is_leaf (sight_at (bare t) f.child).label.kind ≡ true → IsLeafMeasured (bare t) n q i (kid_at (bare t) f.child) (frame_of f)
  measured_there i f rest at leaf =
      leaf_measured (bare t) n q is asks i (kid_at (bare t) f.child) (drop (i + 1) (kids_at (bare t) n)) (frame_of f) (map frame_of rest) (next_there i f rest at).kids (frame_there i f rest at) (alone_there i f rest at leaf)

  given_there : (i : ℕ) (f : NodeFrame) (rest : List NodeFrame) → drop i frames ≡ f ∷ rest → is_leaf (sight_at (bare t) f.child).label.kind ≡ true → IsGivenFor true false 0 f.inline
  unfolding frames_seen
  given_there i f rest at leaf =
      let k = kid_at (bare t) f.child in
      let s = sight_at (bare t) n in
      let pairs : List Pair = pairs_below s.label.kind s.label s.chain (kids_at (bare t) n) q in
      let right = frames_given t n readable numbered is_tree q framed fits i f.child (frame_of f) (map frame_of rest) (child_there i f rest at) (frame_there i f rest at) in
      to_zero (shares_columns k) (context_of_kid k (pairs_for k pairs)).columns.table.tracks f.inline (ap (λ (l : List Link). has_chain l && is_subgrid k.label.grid.columns.template) (alone_there i f rest at leaf)) right.inline

  pub leaf_frames : AreLeafFrames (bare t) n frames
  leaf_frames = record { child = child_there; leaf = λ i f rest at leaf. record { given = given_there i f rest at leaf; width = (measured_there i f rest at leaf).width } }

  pub leaf_uses : UsesLeaves (bare t) n q frames
  leaf_uses i f rest at leaf = (measured_there i f rest at leaf).asked

  -- the leaves' answers at the widths of their frames are those at the content widths of their rectangles
  pub leaves_kept : (s : State) → HoldLeaves (bare t) (length frames) frames s → AreLeavesKept (bare t) n q s
  leaves_kept s held i c f rest child leaf next =
      let from = from_there frame_of frames i f rest (ap (drop i) (sym seen) ∙ next) in
      let g : NodeFrame = from.item in
      let same : g.child ≡ c = some_is g.child c (sym (child_there i g from.rest from.there) ∙ child) in
      let its : is_leaf (sight_at (bare t) g.child).label.kind ≡ true = subst (λ z. is_leaf (sight_at (bare t) z).label.kind ≡ true) (sym same) leaf in
      let here : IsSome (answer_to (block_query false [] g.inline) (kept_in s g.child)) = held i g from.rest (within frames i g from.rest from.there) from.there its in
      subst (λ (r : Query). IsSome (answer_to r (kept_in s c))) ((λ j. block_query false [] ((measured_there i g from.rest from.there its).width j)) ∙ (λ j. height_asked (sight_at (bare t) (same j)).label (from.is j).rect.width))
      (subst (λ z. IsSome (answer_to (block_query false [] g.inline) (kept_in s z))) same here)
    where
      within : (xs : List NodeFrame) (k : ℕ) (x : NodeFrame) (others : List NodeFrame) → drop k xs ≡ x ∷ others → k < length xs
      within [] zero x others e = absurd cc
      within [] (suc k) x others e = absurd cc
      within (y ∷ ys) zero x others e = omega arith
      within (y ∷ ys) (suc k) x others e = omega (arith, within ys k x others e)
