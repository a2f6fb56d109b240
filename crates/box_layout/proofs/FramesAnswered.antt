-- What a grid answers to the question for its frames, and that it measures nothing for it.
use Rattle.std.proofs.Common.{◌≡◌, ◌∙◌, [], List, sym, ap}
use Rattle.node_arena.specs.declared.number.NodeId.{NodeId}
use Rattle.part_rules.specs.declared.view.View.{View}
use Rattle.placing.specs.Nodes.{BareTrees, kids_at, sight_at}
use Rattle.placing.specs.Walks.{events_at, events_by}
use Rattle.tree_rules.specs.Answers.{Frame, Pair}
use Rattle.tree_rules.specs.GridSizes.{view_by}
use Rattle.tree_rules.specs.Queries.{answer_by, answer_of, child_frames}
use Rattle.tree_rules.specs.Whole.{answers_by}
use Rattle.tree_rules.specs.declared.kind.NodeKind.{NodeKind}
use Rattle.tree_rules.specs.declared.kind.NodeKind.TheVariants as kind
use Rattle.tree_rules.specs.declared.query.Ask.TheVariants as ask
use Rattle.tree_rules.specs.declared.query.Query.{Query}
use Rattle.inline_sizes.specs.GridsSeen.{grid_seen}
use Rattle.block_sizes.specs.Wides.{columns_seen, rows_seen, wides_seen}
use Rattle.box_layout.specs.GridFrames.{framed_in}

frames_answer : (b : BareTrees) (n : NodeId) (q : Query) → (sight_at b n).label.kind ≡ kind.Grid → q.ask ≡ ask.Frames
    → child_frames (framed_in b n q.reps q.inline (view_by {axis = 1} (rows_seen b n q.reps q.inline) q.block)) ≡ answer_of (sight_at b n) q
unfolding grid_seen columns_seen wides_seen rows_seen
frames_answer b n q k a = λ i. answer_by (answers_by (sym k i) (sight_at b n).label (sight_at b n).chain (kids_at b n)) (sym a i) q

-- what was found in the course of a call answers the question that it began with
pub frames_told : (b now : BareTrees) → now ≡ b → (n : NodeId) (q : Query) (outer : List Pair) → outer ≡ q.reps → (rows : View 1) (frames : List Frame) → (sight_at b n).label.kind ≡ kind.Grid → q.ask ≡ ask.Frames
    → rows ≡ view_by {axis = 1} (rows_seen now n outer q.inline) q.block → frames ≡ framed_in now n outer q.inline rows → child_frames frames ≡ answer_of (sight_at b n) q
frames_told b now same n q outer reps rows frames k a lie made =
    ap child_frames (made ∙ (λ i. framed_in (same i) n (reps i) q.inline ((lie ∙ (λ j. view_by {axis = 1} (rows_seen (same j) n (reps j) q.inline) q.block)) i))) ∙ frames_answer b n q k a

pub grid_quiet : (b : BareTrees) (n : NodeId) (q : Query) → (sight_at b n).label.kind ≡ kind.Grid → events_at b n q ≡ []
grid_quiet b n q k = ap (λ (z : NodeKind). events_by z (sight_at b n).label.name q) k
