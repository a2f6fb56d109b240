use Rattle.std.proofs.Common.{arith, sym, ap, subst, ◌∙◌, ◌∷◌, []}
use Rattle.placing.specs.Nodes.{sight_at}
use Rattle.placing.specs.Seats.{context_at}
use Rattle.placing.specs.Walks.{State, Stopped, WalkedBelow, kept_with}
use Rattle.placing.specs.declared.node.Answer.TheVariants as answer
use Rattle.placing.proofs.Leaves.{on_err}
use Rattle.placing.proofs.Walks.{stopped}
use Rattle.tree_rules.specs.Queries.{lent_items}
use Rattle.tree_rules.specs.declared.query.Given.TheVariants as given
use Rattle.inline_sizes.proofs.Anew.{grid_quiet, lent_answer}
use Rattle.inline_sizes.proofs.Asked.{levels_above}
use Rattle.inline_sizes.specs.Lifted.{IsSelfLifted}
use Rattle.walker.specs.Walkers.{kept, nodes, seen}
use Rattle.inline_sizes.proofs.answered.columns_answered.Goals as goal

pub grid_lends-requires : goal.grid_lends-requires
grid_lends-requires g c =
    record {
      lifted = subst IsSelfLifted (sym (levels_above (context_at (sight_at (nodes c.args.walk.now) c.args.id) c.args.parts.now.base.pairs) c.args.parts.now.base.above c.requires.grid.base.laid.context))
          (c.items_lie_in_their_tracks.ensures.lines c.args.parts.now.base.pairs).column_self;
    }

pub returns-in_err-items-clause-stopped : goal.returns-in_err-items-clause-stopped
returns-in_err-items-clause-stopped g c =
    let all : (old : State) → WalkedBelow c.args.id c.args.query 0 old (seen g.R.Ruler.log c.args.walk.now) → Stopped c.args.id c.args.query old (seen g.R.Ruler.log c.args.walk.now) =
    λ old w. stopped c.args.id c.args.query 0 _ _ w in
    on_err _ _ all

pub returns-in_err-lent-clause-stopped : goal.returns-in_err-lent-clause-stopped
returns-in_err-lent-clause-stopped g c =
    let all : (old : State) → WalkedBelow c.args.id c.args.query 0 old (seen g.R.Ruler.log c.args.walk.now) → Stopped c.args.id c.args.query old (seen g.R.Ruler.log c.args.walk.now) =
    λ old w. stopped c.args.id c.args.query 0 _ _ w in
    on_err _ _ all

pub put-requires-clause-value : goal.put-requires-clause-value
put-requires-clause-value g c =
    ap lent_items (c.in_ok-items.ensures (nodes c.args.walk.now) c.args.id c.args.query.reps given.None c.requires.grid) ∙ lent_answer (nodes c.args.walk.now) c.args.id c.args.query c.requires.kind c.requires.ask

pub put-requires-clause-quiet : goal.put-requires-clause-quiet
put-requires-clause-quiet g c = grid_quiet (nodes c.args.walk.now) c.args.id c.args.query c.requires.kind

pub returns-in_err-put-clause-stopped : goal.returns-in_err-put-clause-stopped
returns-in_err-put-clause-stopped g c =
    let all : (old : State) → WalkedBelow c.args.id c.args.query 0 old (seen g.R.Ruler.log c.args.walk.now) → Stopped c.args.id c.args.query old (seen g.R.Ruler.log c.put.new.self) =
    λ old w. c.in_err-put.ensures.stopped old 0 w in
    on_err _ _ all

pub returns-clause-value : goal.returns-clause-value
returns-clause-value g c =
    ap lent_items (c.in_ok-lent.ensures ∙ c.as_slice.ensures)
    ∙ ap lent_items (c.in_ok-items.ensures (nodes c.args.walk.now) c.args.id c.args.query.reps given.None c.requires.grid)
    ∙ lent_answer (nodes c.args.walk.now) c.args.id c.args.query c.requires.kind c.requires.ask

pub returns-clause-walked : goal.returns-clause-walked
returns-clause-walked g c = λ old w. c.in_ok-put.ensures.joins old 0 (omega arith) w

pub returns-clause-own : goal.returns-clause-own
returns-clause-own g c = c.in_ok-put.ensures.own ∙ ap (λ l. kept_with (kept c.args.walk.now c.args.id) ((c.args.query, answer.Lent l) ∷ [])) (sym (c.in_ok-lent.ensures ∙ c.as_slice.ensures))
