use Rattle.std.proofs.Common.{sym, ap, ◌≡◌, ◌∙◌}
use Rattle.std.proofs.lemmas.Bool.{false≢true}
use Rattle.placing.specs.Nodes.{sight_at}
use Rattle.tree_rules.specs.Chains.{is_grid_kind}
use Rattle.tree_rules.specs.declared.kind.NodeKind.TheVariants as kind
use Rattle.inline_sizes.proofs.Asked.{on_ok}
use Rattle.box_layout.specs.LeafHeights.{AreLeavesKept}
use Rattle.tree_rules.specs.declared.query.Query.{Query}
use Rattle.walker.specs.Walkers.{nodes, seen}
use Rattle.box_layout.proofs.framing.frames_anew.Goals as goal

pub flex_frames_anew-requires-clause-ask : goal.flex_frames_anew-requires-clause-ask
flex_frames_anew-requires-clause-ask g c = ap (λ (q : Query). q.ask) c.requires.query

pub returns-clause-leaves : goal.returns-clause-leaves
returns-clause-leaves g c =
    let none : (sight_at (nodes c.args.walk.now) c.args.id).label.kind ≡ kind.Grid →
    AreLeavesKept (nodes c.args.walk.now) c.args.id c.args.query (seen g.R.Ruler.log c.flex_frames_anew.new.walk) = λ grid. absurd
    (false≢true (sym (sym c.is_grid.ensures ∙ c.if-is_grid.false) ∙ ap is_grid_kind (c.node_at.ensures.kind ∙ grid))) in
    on_ok _ _ none
