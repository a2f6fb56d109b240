-- What a flex container answers to the question for its frames, and that it measures nothing for it.
use Rattle.std.proofs.Common.{◌≡◌, ◌∙◌, ap, sym, ℤ, Bool, true, false, List, [], map, if◌then◌else◌}
use Rattle.node_arena.specs.declared.number.NodeId.{NodeId}
use Rattle.placing.specs.Kept.{frame_of}
use Rattle.placing.specs.Nodes.{BareTrees, kids_at, sight_at}
use Rattle.placing.specs.Walks.{events_at, events_by}
use Rattle.placing.specs.declared.node.Frame.{Frame}
use Rattle.tree_rules.specs.Answers.{Down}
use Rattle.tree_rules.specs.Frames.{Framed, given_size}
use Rattle.tree_rules.specs.Labels.{Label}
use Rattle.tree_rules.specs.Queries.{answer_by, answer_of, child_frames}
use Rattle.tree_rules.specs.Whole.{answers_by, column_down, flex_down, row_down}
use Rattle.tree_rules.specs.declared.kind.NodeKind.{NodeKind}
use Rattle.tree_rules.specs.declared.kind.NodeKind.TheVariants as kind
use Rattle.tree_rules.specs.declared.query.Ask.TheVariants as ask
use Rattle.tree_rules.specs.declared.query.Query.{Query}
use Rattle.inline_sizes.proofs.FlexMembers.{flex_label}
use Rattle.inline_sizes.specs.Flexes.{flex_seen}
use Rattle.box_layout.specs.FlexFrames.{AreFrames, column_seen, row_seen}

module _ (b : BareTrees) (n : NodeId) (q : Query) (is : (sight_at b n).label.kind ≡ kind.Flex) (asks : q.ask ≡ ask.Frames) where
  flex_answer : child_frames ((flex_down (flex_seen b n) (given_size q.inline)).frames q.block) ≡ answer_of (sight_at b n) q
  unfolding flex_seen
  flex_answer = λ i. answer_by (answers_by (sym is i) (sight_at b n).label (sight_at b n).chain (kids_at b n)) (sym asks i) q

  flows : (column : Bool) → (sight_at b n).label.content.column ≡ column → (flex_seen b n).label.content.column ≡ column
  flows column c = ap (λ (x : Label). x.content.column) (sym (flex_label b n)) ∙ c

  chosen_answer : (column : Bool) → (sight_at b n).label.content.column ≡ column
      → child_frames ((if column then column_down (flex_seen b n) (given_size q.inline) else row_down (flex_seen b n) (given_size q.inline)).frames q.block) ≡ answer_of (sight_at b n) q
  chosen_answer column c =
      let row : Down = row_down (flex_seen b n) (given_size q.inline) in
      let columns : Down = column_down (flex_seen b n) (given_size q.inline) in
      ap (λ (t : Bool). child_frames ((if t then columns else row).frames q.block)) (sym (flows column c)) ∙ flex_answer

  -- The frames of a row, and of a column, of these sizes are its answer.
  pub row_told : (sight_at b n).label.content.column ≡ false → (width height : ℤ) (made : List Frame) → width ≡ given_size q.inline → height ≡ given_size q.block → AreFrames b n (row_seen b n width height) made → child_frames (map frame_of made) ≡ answer_of (sight_at b n) q
  row_told c width height made w h are = ap child_frames (are.same ∙ (λ i. map (λ (f : Framed). f.frame) (row_seen b n (w i) (h i)))) ∙ chosen_answer false c

  pub column_told : (sight_at b n).label.content.column ≡ true → (width height : ℤ) (made : List Frame) → width ≡ given_size q.inline → height ≡ given_size q.block → AreFrames b n (column_seen b n width height) made → child_frames (map frame_of made) ≡ answer_of (sight_at b n) q
  column_told c width height made w h are = ap child_frames (are.same ∙ (λ i. map (λ (f : Framed). f.frame) (column_seen b n (w i) (h i)))) ∙ chosen_answer true c

  pub flex_quiet : events_at b n q ≡ []
  flex_quiet = ap (λ (z : NodeKind). events_by z (sight_at b n).label.name q) is
