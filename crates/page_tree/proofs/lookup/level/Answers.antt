use Rattle.std.proofs.Common.{ap, length, sym, ◌∙◌}
use Rattle.node_arena.specs.Numbers.{way_up}
use Rattle.node_arena.specs.Plain.{Nodes}
use Rattle.placing.specs.declared.node.Node.{Node}
use Rattle.page_tree.specs.Pages.{trees_in}
use Rattle.page_tree.proofs.Lookups.{found_level, no_level}
use Rattle.page_tree.proofs.lookup.level.Goals as goal

pub returns-in-Some-clause-value : goal.returns-in-Some-clause-value
returns-in-Some-clause-value c = c.level.ensures.value ∙ ap (λ (n : Nodes Node). length (way_up n.tree c.in-Some.id)) c.tree.ensures ∙ found_level c.args.page.now.nodes.tree c.args.name.now c.in-Some.id c.in-Some.ensures

pub returns-in-None-clause-value : goal.returns-in-None-clause-value
returns-in-None-clause-value c = no_level (trees_in c.args.page.now) c.args.name.now (sym c.in-None.ensures.there)
