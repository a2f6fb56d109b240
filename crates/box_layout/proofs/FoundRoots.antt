-- The boxes of a tree by the frame of its root, where what its containers were asked is kept.
use Rattle.std.proofs.Common.{◌≡◌, ◌≤◌, ◌∷◌, ◌++◌, [], List, ℕ, ℤ, false, true, refl, sym, ap, subst, ◌∙◌, pos}
use Rattle.node_arena.specs.declared.number.NodeId.{NodeId}
use Rattle.node_arena.specs.Numbers.{top_numbers}
use Rattle.placing.specs.declared.node.Frame.{Frame as NodeFrame}
use Rattle.placing.specs.Kept.{frame_of}
use Rattle.placing.specs.Nodes.{BareTrees, sight_at}
use Rattle.placing.specs.Walks.{State, bare_in, kept_in}
use Rattle.tree_rules.specs.Boxes.{root_framed, root_of}
use Rattle.tree_rules.specs.Queries.{Fits, is_container}
use Rattle.box_layout.specs.Asking.{frames_asked}
use Rattle.box_layout.specs.BoxesSeen.{IsNearAt}
use Rattle.box_layout.specs.FoundRoots.{IsRootFrame}
use Rattle.box_layout.specs.LastBoxes.{AreFound, Found}
use Rattle.box_layout.specs.Paths.{AreKeptBelow, IsPathKept}
use Rattle.box_layout.specs.declared.layout.RootFrame.{RootFrame}
use Rattle.box_layout.proofs.RootBoxes.{path_kept}

first_is : (a b : NodeId) → a ∷ [] ≡ b ∷ [] → a ≡ b
first_is a b e = cc

-- what a layout finds
pub root_found : (b : BareTrees) (root : NodeId) (width height : ℤ) (f : NodeFrame) → top_numbers b ≡ root ∷ [] → f.child ≡ root → frame_of f ≡ (root_framed width height (root_of (sight_at b root).label (sight_at b root).below)).frame
    → (is_container (sight_at b root).label.kind ≡ true → Fits (sight_at b root) (frames_asked [] f.inline f.block)) → ((level : ℕ) → 1 ≤ level → IsNearAt level (pos 0) (pos 0) (frame_of f)) → IsRootFrame b width height (record { width = width; height = height; frame = f })
root_found b root width height f top child value fits near =
    record {
      across = refl;
      down = refl;
      top = top ∙ ap (λ n. n ∷ []) (sym child);
      value = value ∙ ap (λ n. (root_framed width height (root_of (sight_at b n).label (sight_at b n).below)).frame) (sym child);
      fits = subst (λ n. is_container (sight_at b n).label.kind ≡ true → Fits (sight_at b n) (frames_asked [] f.inline f.block)) (sym child) fits;
      near = near;
    }

-- what a layout finds of the root, by the root's number
module _ (b : BareTrees) (root : NodeId) (width height : ℤ) (r : RootFrame) (top : top_numbers b ≡ root ∷ []) (found : IsRootFrame b width height r) where
  child_is : r.frame.child ≡ root
  child_is = first_is r.frame.child root (sym found.top ∙ top)

  pub value_here : frame_of r.frame ≡ (root_framed width height (root_of (sight_at b root).label (sight_at b root).below)).frame
  value_here = found.value ∙ ap (λ n. (root_framed width height (root_of (sight_at b n).label (sight_at b n).below)).frame) child_is

  pub fits_here : is_container (sight_at b root).label.kind ≡ true → Fits (sight_at b root) (frames_asked [] r.frame.inline r.frame.block)
  fits_here = subst (λ n. is_container (sight_at b n).label.kind ≡ true → Fits (sight_at b n) (frames_asked [] r.frame.inline r.frame.block)) child_is found.fits

  pub kept_here : (s : State) → IsPathKept b width height s → is_container (sight_at b root).label.kind ≡ true → AreKeptBelow b root (frames_asked [] r.frame.inline r.frame.block) s
  kept_here s kept container = path_kept b root width height (frame_of r.frame) s top value_here kept container

-- what is kept, with whatever was counted
pub still : (b : BareTrees) (root : NodeId) (width height : ℤ) (r : RootFrame) (s t : State) → top_numbers b ≡ root ∷ [] → IsRootFrame b width height r → IsPathKept b width height s
    → ((is_container (sight_at b root).label.kind ≡ true → AreKeptBelow b root (frames_asked [] r.frame.inline r.frame.block) s) → t ≡ s) → t ≡ s
still b root width height r s t top found kept quiet = quiet (kept_here b root width height r top found s kept)

-- what was found last still holds where nothing changed
pub last_still : (s t : State) (all : List Found) → t ≡ s → s.tally.lost ≡ false → (t.tally.lost ≡ false → AreFound (bare_in s) (kept_in t) all) → AreFound (bare_in t) (kept_in t) all
last_still s t all same none found = subst (λ z. AreFound z (kept_in t) all) (ap bare_in (sym same)) (found (ap (λ u. u.tally.lost) same ∙ none))
