use Rattle.std.proofs.Common.{arith, sym, ap, ◌∙◌, ◌∷◌, [], List}
use Rattle.placing.specs.Walks.{State, Stopped, WalkedBelow, kept_with}
use Rattle.placing.specs.declared.node.Answer.TheVariants as answer
use Rattle.placing.proofs.Leaves.{on_err}
use Rattle.placing.proofs.Walks.{stopped}
use Rattle.tree_rules.specs.Answers.{Pair}
use Rattle.tree_rules.specs.GridSizes.{grid_lends_rows}
use Rattle.tree_rules.specs.Queries.{lent_items}
use Rattle.tree_rules.specs.declared.query.Query.{Query}
use Rattle.inline_sizes.specs.GridsSeen.{grid_seen}
use Rattle.block_sizes.proofs.NodeAnswers.{grid_quiet, lent_answer}
use Rattle.block_sizes.specs.Wides.{rows_seen}
use Rattle.walker.specs.Walkers.{kept, nodes, seen}
use Rattle.block_sizes.proofs.answered.rows_answered.Goals as goal

pub lent_of-requires-clause-wide : goal.lent_of-requires-clause-wide
lent_of-requires-clause-wide g c = c.requires.told.wide

pub put-requires-clause-value : goal.put-requires-clause-value
put-requires-clause-value g c =
    ap lent_items (c.in_ok-items.ensures ∙ ap (λ (r : List Pair). grid_lends_rows (grid_seen (nodes c.args.walk.now) c.args.id r c.args.query.inline) (rows_seen (nodes c.args.walk.now) c.args.id r c.args.query.inline)) (sym (ap (λ (q : Query). q.reps) c.requires.query)))
    ∙ lent_answer (nodes c.args.walk.now) c.args.id c.args.query c.requires.kind (ap (λ (q : Query). q.ask) c.requires.query)

pub put-requires-clause-quiet : goal.put-requires-clause-quiet
put-requires-clause-quiet g c = grid_quiet (nodes c.args.walk.now) c.args.id c.args.query c.requires.kind

pub returns-clause-value : goal.returns-clause-value
returns-clause-value g c =
    ap lent_items (c.in_ok-lent.ensures ∙ c.as_slice.ensures) ∙
    ap lent_items (c.in_ok-items.ensures ∙ ap (λ (r : List Pair). grid_lends_rows (grid_seen (nodes c.args.walk.now) c.args.id r c.args.query.inline) (rows_seen (nodes c.args.walk.now) c.args.id r c.args.query.inline)) (sym (ap (λ (q : Query). q.reps) c.requires.query)))
    ∙ lent_answer (nodes c.args.walk.now) c.args.id c.args.query c.requires.kind (ap (λ (q : Query). q.ask) c.requires.query)

pub returns-in_err-items-clause-stopped : goal.returns-in_err-items-clause-stopped
returns-in_err-items-clause-stopped g c =
    let all : (old : State) → WalkedBelow c.args.id c.args.query 1 old (seen g.R.Ruler.log c.args.walk.now) → Stopped c.args.id c.args.query old (seen g.R.Ruler.log c.args.walk.now) =
    λ old w. stopped c.args.id c.args.query 1 _ _ w in
    on_err _ _ all

pub returns-in_err-lent-clause-stopped : goal.returns-in_err-lent-clause-stopped
returns-in_err-lent-clause-stopped g c =
    let all : (old : State) → WalkedBelow c.args.id c.args.query 1 old (seen g.R.Ruler.log c.args.walk.now) → Stopped c.args.id c.args.query old (seen g.R.Ruler.log c.args.walk.now) =
    λ old w. stopped c.args.id c.args.query 1 _ _ w in
    on_err _ _ all

pub returns-in_err-put-clause-stopped : goal.returns-in_err-put-clause-stopped
returns-in_err-put-clause-stopped g c =
    let all : (old : State) → WalkedBelow c.args.id c.args.query 1 old (seen g.R.Ruler.log c.args.walk.now) → Stopped c.args.id c.args.query old (seen g.R.Ruler.log c.put.new.self) =
    λ old w. c.in_err-put.ensures.stopped old 1 w in
    on_err _ _ all

pub returns-clause-walked : goal.returns-clause-walked
returns-clause-walked g c = λ old w. c.in_ok-put.ensures.joins old 1 (omega arith) w

pub returns-clause-own : goal.returns-clause-own
returns-clause-own g c = c.in_ok-put.ensures.own ∙ ap (λ l. kept_with (kept c.args.walk.now c.args.id) ((c.args.query, answer.Lent l) ∷ [])) (sym (c.in_ok-lent.ensures ∙ c.as_slice.ensures))
