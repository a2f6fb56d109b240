-- The boxes of containers that were found last: as they are handed over again, and as a walk leaves and adds them.
use Rattle.std.proofs.Common.{arith, refl, ◌≡◌, ℤ, ◌+ℤ◌, ◌-ℤ◌, List, [], ◌∷◌, true, false, sym, ap, subst, ◌∙◌, inl, inr, Some}
use Rattle.std.specs.Prelude.{◌⊎◌, Contains, IsSome, Option, ℕ}
use Rattle.std.proofs.lemmas.Bool.{false≢true}
use Rattle.std.proofs.lemmas.Int.{ints}
use Rattle.layout_cache.specs.Kept.{answer_to}
use Rattle.lunit.specs.declared.geometry.Rect.{Rect}
use Rattle.node_arena.specs.declared.number.NodeId.{NodeId}
use Rattle.outside.specs.declared.event.Event.{Event}
use Rattle.placing.specs.declared.node.Answer.{Answer}
use Rattle.placing.specs.Nodes.{BareTrees, sight_at}
use Rattle.placing.specs.Walks.{Lasts, State, Walk, kept_in}
use Rattle.tree_rules.specs.Answers.{Box, Frame, Pair}
use Rattle.tree_rules.specs.Frames.{moved_boxes, moved_by}
use Rattle.tree_rules.specs.Places.{Seen, answers_of}
use Rattle.tree_rules.specs.Queries.{is_container}
use Rattle.tree_rules.specs.declared.query.Given.{Given}
use Rattle.tree_rules.specs.declared.query.Query.{Query}
use Rattle.box_layout.specs.Asking.{frames_asked}
use Rattle.box_layout.specs.BoxesSeen.{boxes_seen, boxes_with}
use Rattle.box_layout.specs.LastBoxes.{AddsFew, AreFound, Found, IsFound, IsFoundOf, boxes_now}
use Rattle.box_layout.specs.LeafHeights.{MeasuresBelow}
use Rattle.box_layout.specs.Paths.{AreKeptBelow, Passes}
use Rattle.box_layout.proofs.BelowSteps.{below_told}

-- ---- few boxes

few_are : (xs below : List Box) (few : Option (List Box)) → AddsFew xs (Some []) few → few ≡ Some below → below ≡ xs
few_are xs below few h is = subst (AddsFew xs (Some [])) is h

-- ---- after a walk

-- they still are, where no answer went
pub found_last : (b : BareTrees) (all : List Found) (s t : State) → Lasts s t → AreFound b (kept_in s) all → AreFound b (kept_in t) all
found_last b all s t lasts found f there live =
    let before : IsFound b (kept_in s) f = found f there live in
    record { container = before.container; own = before.own; boxes = before.boxes; paths = λ m r way. lasts m r (before.paths m r way) }

pub still_found : (b : BareTrees) (all : List Found) {May : NodeId → Query → Type 0} {more : ℕ} {rest : List Event} (s t : State) → Walk May more rest s t → (s.tally.lost ≡ false → AreFound b (kept_in s) all) → t.tally.lost ≡ false → AreFound b (kept_in t) all
still_found b all s t w found none = found_last b all s t (w.lasting none).1 (found (w.lasting none).0)

-- one container more, whose box and those below it were found now
pub found_more : (b : BareTrees) (kept : NodeId → List (Query × Answer)) (n : NodeId) (q : Query) (name : List ℕ) (rect : Rect) (few : Option (List Box)) (old new : List Found)
    → is_container (sight_at b n).label.kind ≡ true → name ≡ (sight_at b n).label.name → AddsFew (boxes_seen b n q (rect.x, rect.y)) (Some []) few → ((m : NodeId) (r : Query) → Passes b n q m r → IsSome (answer_to r (kept m)))
    → ((f : Found) → Contains new f → Contains old f ⊎ IsFoundOf n q (name, rect) few f) → AreFound b kept old → AreFound b kept new
found_more b kept n q name rect few old new container named seen paths keeps found f there live = go (keeps f there)
  where
    go : Contains old f ⊎ IsFoundOf n q (name, rect) few f → IsFound b kept f
    go (inl before) = found f before live
    go (inr now) =
        let below : now.below ≡ boxes_seen b n q (rect.x, rect.y) = few_are (boxes_seen b n q (rect.x, rect.y)) now.below few seen now.few in
        record {
          container = subst (λ (z : NodeId). is_container (sight_at b z).label.kind ≡ true) (sym now.id) container;
          own = rect;
          boxes = now.boxes ∙ (λ i. (named i, rect) ∷ below i) ∙ (λ i. ((sight_at b (sym now.id i)).label.name, rect) ∷ boxes_seen b (sym now.id i) (sym now.query i) (rect.x, rect.y));
          paths = λ m r way. paths m r (subst (λ (z : Query). Passes b n z m r) now.query (subst (λ (z : NodeId). Passes b z f.query m r) now.id way));
        }

-- ---- found again

abbrev MoveAlong : Type 0
MoveAlong = (s : Seen) (reps : List Pair) (inline block : Given) (x y right down : ℤ) → ((answers_of s).down reps inline).boxes block (right +ℤ x, down +ℤ y) ≡ moved_boxes (right, down) (((answers_of s).down reps inline).boxes block (x, y))

there_again : (x own : ℤ) → (x -ℤ own) +ℤ own ≡ x
there_again x own = omega (arith, ints)

moved_again : MoveAlong → (b : BareTrees) (n : NodeId) (reps : List Pair) (inline block : Given) (own rect : Rect)
    → moved_boxes (rect.x -ℤ own.x, rect.y -ℤ own.y) (boxes_seen b n (frames_asked reps inline block) (own.x, own.y)) ≡ boxes_seen b n (frames_asked reps inline block) (rect.x, rect.y)
unfolding boxes_seen
moved_again along b n reps inline block own rect =
    sym (along (sight_at b n) reps inline block own.x own.y (rect.x -ℤ own.x) (rect.y -ℤ own.y))
    ∙ (λ i. ((answers_of (sight_at b n)).down reps inline).boxes block (there_again rect.x own.x i, there_again rect.y own.y i))

-- they are those of the definitions, where the container stands now
pub boxes_again : MoveAlong → (b : BareTrees) (kept : NodeId → List (Query × Answer)) (n : NodeId) (reps pairs : List Pair) → reps ≡ pairs → (f : Frame) (at : ℤ × ℤ) (boxes : List Box) (rect : Rect) → rect ≡ moved_by at f.rect
    → IsFound b kept (record { id = n; query = frames_asked reps f.inline f.block; boxes = boxes }) → boxes_now boxes rect ≡ boxes_with b n pairs f at
boxes_again along b kept n reps pairs same f at boxes rect moved found =
    ap (λ (l : List Box). boxes_now l rect) found.boxes
    ∙ (λ i. ((sight_at b n).label.name, rect) ∷ moved_again along b n reps f.inline f.block found.own rect i)
    ∙ below_told b n reps pairs same f at (sight_at b n).label.name rect refl moved

-- the questions on their way are kept
pub kept_again : (b : BareTrees) (s : State) (n : NodeId) (reps pairs : List Pair) → reps ≡ pairs → (f : Frame) (boxes : List Box) → IsFound b (kept_in s) (record { id = n; query = frames_asked reps f.inline f.block; boxes = boxes })
    → AreKeptBelow b n (frames_asked pairs f.inline f.block) s
kept_again b s n reps pairs same f boxes found = subst (λ (r : List Pair). AreKeptBelow b n (frames_asked r f.inline f.block) s) same found.paths

-- no grid on a way whose questions are kept is without its frames
pub measured_again : (b : BareTrees) (n : NodeId) (q : Query) (s : State) → AreKeptBelow b n q s → MeasuresBelow b n q s s
measured_again b n q s kept m r way grid none = absurd (false≢true (subst IsSome none (kept m r way)))
