use Rattle.std.proofs.Common.{sym, ap, subst, ◌∙◌, ◌≡◌, [], true, false}
use Rattle.placing.specs.Nodes.{BareTrees, IsLive, sight_at}
use Rattle.placing.specs.Walks.{Stopped}
use Rattle.placing.proofs.Leaves.{on_err}
use Rattle.placing.proofs.Walks.{stopped}
use Rattle.tree_rules.specs.AskedQueries.{inline_query}
use Rattle.tree_rules.specs.declared.query.Query.{Query}
use Rattle.inline_sizes.specs.Flexes.{AreMembers, flex_seen}
use Rattle.block_sizes.specs.Settling.{AreKnown, AreRoomy, column_boxes_seen}
use Rattle.walker.specs.Walkers.{nodes, seen}
use Rattle.block_sizes.proofs.begun.begin_column.Goals as goal

pub boxes_in_column-requires : goal.boxes_in_column-requires
boxes_in_column-requires g c =
    let back = sym (c.in_ok-parts.ensures.below (inline_query false [])).walk.bare_same in
    record {
      live = subst (λ (z : BareTrees). IsLive z c.args.id) back c.requires.live;
      readable = c.flex_in.ensures.stands.readable;
      direction = subst (λ (z : BareTrees). (sight_at z c.args.id).label.content.column ≡ true) back c.requires.direction;
      members = subst (AreMembers (nodes c.flex_in.new.walk) c.args.id) (sym c.as_slice.ensures) (subst (λ (z : BareTrees). AreMembers z c.args.id c.in_ok-parts.parts.members) back c.in_ok-parts.ensures.value);
      past = subst (λ (z : BareTrees). AreKnown z c.args.id c.args.width c.args.past.now) back c.requires.past;
    }

pub returns-in_err-boxes-clause-stopped : goal.returns-in_err-boxes-clause-stopped
returns-in_err-boxes-clause-stopped g c =
    let all : (q : Query) → Stopped c.args.id q (seen g.R.Ruler.log c.args.walk.now) (seen g.R.Ruler.log c.flex_in.new.walk) = λ q. stopped c.args.id q 0 _ _ (c.in_ok-parts.ensures.below q) in
    on_err _ _ all

pub returns-clause-same : goal.returns-clause-same
returns-clause-same g c = (c.in_ok-parts.ensures.below (inline_query false [])).walk.bare_same

pub returns-clause-boxes : goal.returns-clause-boxes
returns-clause-boxes g c = c.in_ok-boxes.ensures.value ∙ ap (λ (z : BareTrees). column_boxes_seen z c.args.id c.args.width) (c.in_ok-parts.ensures.below (inline_query false [])).walk.bare_same

pub returns-clause-roomy : goal.returns-clause-roomy
returns-clause-roomy g c = subst (λ (z : BareTrees). AreRoomy (flex_seen z c.args.id).members c.in_ok-boxes.boxes) (c.in_ok-parts.ensures.below (inline_query false [])).walk.bare_same c.in_ok-boxes.ensures.roomy
