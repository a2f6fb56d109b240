-- The frames of the children of a node tell which of them are subgrids of it (CSS Grid 2, section 9).
use Rattle.std.proofs.Common.{arith, refl, sym, ap, ◌≡◌, ◌∙◌, ℕ, zero, suc, ◌+◌, ◌<◌, Bool, true, false, ◌&&◌, ◌||◌, List, [], ◌∷◌, drop, length, map, Some, if◌then◌else◌}
use Rattle.std.specs.Prelude.{get_or}
use Rattle.std.proofs.lemmas.Bool.{false≢true}
use Rattle.std.proofs.lemmas.List.{length-drop}
use Rattle.node_arena.specs.Numbers.{IsNumbered, child_at}
use Rattle.node_arena.specs.declared.number.NodeId.{NodeId}
use Rattle.placing.specs.Children.{IsNext, IsTree}
use Rattle.placing.specs.Kept.{frame_of}
use Rattle.placing.specs.Nodes.{BareTrees, NodeTrees, above_at, bare, kid_at, kids_at, sight_at}
use Rattle.placing.specs.Ranges.{AreReadable}
use Rattle.placing.specs.declared.node.Frame.{Frame as NodeFrame}
use Rattle.tree_rules.specs.Answers.{Frame, Kid, Pair}
use Rattle.tree_rules.specs.AskedQueries.{pairs_below}
use Rattle.tree_rules.specs.Chains.{Link, has_chain, has_subgrid, is_grid_kind, is_subgrid, link_to}
use Rattle.tree_rules.specs.GridSizes.{pairs_for, shares_columns, shares_rows}
use Rattle.tree_rules.specs.Places.{answers_of}
use Rattle.tree_rules.specs.Queries.{Fits, IsGivenFor}
use Rattle.tree_rules.specs.declared.query.Given.{Given}
use Rattle.tree_rules.specs.declared.query.Given.TheVariants as given
use Rattle.box_layout.specs.Asking.{frames_asked}
use Rattle.box_layout.specs.Beneath.{AreTelling, has_lower, is_lower, is_tracks}
use Rattle.box_layout.specs.BoxesSeen.{frames_seen}
use Rattle.box_layout.proofs.BoxSteps.{frame_there}
use Rattle.box_layout.proofs.BoxesFit.{frames_given}
use Rattle.box_layout.proofs.GridFits.{IsGivenRight, context_of_kid}
use Rattle.box_layout.proofs.Seating.{number_there}

-- ---- of one child

-- tracks are given exactly to a child that shares them
tracks_shared : (shared : Bool) (n : ℕ) (g : Given) → IsGivenFor true shared n g → is_tracks g ≡ shared
tracks_shared true n (given.Tracks edges gap) h = refl
tracks_shared false n (given.Tracks edges gap) h = absurd h
tracks_shared true n (given.Size x) h = absurd h
tracks_shared false n (given.Size x) h = refl
tracks_shared true n given.None h = absurd h
tracks_shared false n given.None h = absurd h

either_axis : (some columns rows : Bool) → (some ≡ true → (columns || rows) ≡ true) → ((some && columns) || (some && rows)) ≡ some
either_axis true columns rows h = h refl
either_axis false columns rows h = refl

lower_told : (pairs : List Pair) (k : Kid) (f : Frame) → IsGivenRight pairs k f → (has_chain k.chain ≡ true → has_subgrid k.label.grid ≡ true) → is_lower f ≡ has_chain k.chain
lower_told pairs k f right sub =
    (λ i. tracks_shared (shares_columns k) (context_of_kid k (pairs_for k pairs)).columns.table.tracks f.inline right.inline i || tracks_shared (shares_rows k) (context_of_kid k (pairs_for k pairs)).rows.table.tracks f.block right.block i)
    ∙ either_axis (has_chain k.chain) (is_subgrid k.label.grid.columns.template) (is_subgrid k.label.grid.rows.template) sub

-- a node that sees a grid above it is a subgrid in an axis
chain_sub : (grid is sub : Bool) (link : Link) (chain : List Link) → has_chain (if grid && (is && sub) then link ∷ chain else []) ≡ true → sub ≡ true
chain_sub true true true link chain e = refl
chain_sub true true false link chain e = absurd (false≢true e)
chain_sub true false sub link chain e = absurd (false≢true e)
chain_sub false is sub link chain e = absurd (false≢true e)

-- ---- of all children

pub frames_tell : (t : NodeTrees) (n : NodeId) → AreReadable (bare t) → IsNumbered t → IsTree (bare t) → (reps : List Pair) (inline block : Given) → Fits (sight_at (bare t) n) (frames_asked reps inline block)
    → AreTelling (bare t) n (((answers_of (sight_at (bare t) n)).down reps inline).frames block)
frames_tell t n readable numbered tree reps inline block fits index c f rest child next =
    let below : IsNext (bare t) n index c = tree.next n c index child in
    sym
    (lower_told (pairs_below (sight_at (bare t) n).label.kind (sight_at (bare t) n).label (sight_at (bare t) n).chain (kids_at (bare t) n) (frames_asked reps inline block)) (kid_at (bare t) c) f
    (frames_given t n readable numbered tree (frames_asked reps inline block) refl fits index c f rest child next)
    (λ some. chain_sub (above_at (bare t) n).is_grid (is_grid_kind (sight_at (bare t) c).label.kind) (has_subgrid (sight_at (bare t) c).label.grid) (link_to (above_at (bare t) n) index) (above_at (bare t) n).chain (sym (ap has_chain below.chain) ∙ some)))

pub tell_seen : (b : BareTrees) (n : NodeId) (reps : List Pair) (inline block : Given) → AreTelling b n (((answers_of (sight_at b n)).down reps inline).frames block) → AreTelling b n (frames_seen b n (frames_asked reps inline block))
unfolding frames_seen
tell_seen b n reps inline block tell = tell

-- ---- whether there is one

either_left : (x y : Bool) → (x || y) ≡ false → x ≡ false
either_left true y e = e
either_left false y e = refl

either_right : (x y : Bool) → (x || y) ≡ false → y ≡ false
either_right true y e = absurd (false≢true (sym e))
either_right false y e = e

none_lower : (frames : List Frame) (i : ℕ) (f : Frame) (rest : List Frame) → has_lower frames ≡ false → drop i frames ≡ f ∷ rest → is_lower f ≡ false
none_lower [] zero f rest none e = absurd cc
none_lower [] (suc i) f rest none e = absurd cc
none_lower (g ∷ frames) zero f rest none e = let same : g ≡ f = cc in ap is_lower (sym same) ∙ either_left (is_lower g) (has_lower frames) none
none_lower (g ∷ frames) (suc i) f rest none e = none_lower frames i f rest (either_right (is_lower g) (has_lower frames) none) e

pub none_chained : (b : BareTrees) (n : NodeId) (frames : List NodeFrame) → IsTree b → AreTelling b n (map frame_of frames) → length (map frame_of frames) ≡ length (kids_at b n) → has_lower (map frame_of frames) ≡ false
    → (i : ℕ) (c : NodeId) → child_at b n i ≡ Some c → has_chain (sight_at b c).chain ≡ false
none_chained b n frames tree tell counted none i c child = go (drop i (map frame_of frames)) refl
  where
    go : (l : List Frame) → drop i (map frame_of frames) ≡ l → has_chain (sight_at b c).chain ≡ false
    go (f ∷ rest) e = tell i c f rest child e ∙ none_lower (map frame_of frames) i f rest none e
    go [] e = absurd (omega (arith, counted, number_there b n c i tree child, length-drop i (map frame_of frames), ap length e))

-- the child of an index is one, or one of those after it is
module _ (frames : List NodeFrame) (i : ℕ) (f : NodeFrame) (within : i < length frames) (is : f ≡ get_or frames i f) (so_far : has_lower (drop i (map frame_of frames)) ≡ has_lower (map frame_of frames)) where
  abbrev after : List Frame
  after = drop (i + 1) (map frame_of frames)

  lower_next : has_lower (map frame_of frames) ≡ (is_lower (frame_of f) || has_lower after)
  lower_next = sym so_far ∙ ap has_lower (frame_there (map frame_of frames) frames i f refl within is)

  pub lower_here : is_lower (frame_of f) ≡ true → true ≡ has_lower (map frame_of frames)
  lower_here some = sym (lower_next ∙ ap (λ (t : Bool). t || has_lower after) some)

  pub lower_past : is_lower (frame_of f) ≡ false → has_lower after ≡ has_lower (map frame_of frames)
  lower_past none = sym (lower_next ∙ ap (λ (t : Bool). t || has_lower after) none)
