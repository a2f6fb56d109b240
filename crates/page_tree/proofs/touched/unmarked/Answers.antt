use Rattle.std.proofs.Common.{◌≡◌, false, ap}
use Rattle.node_arena.specs.Numbers.{is_among}
use Rattle.page_tree.proofs.Marking.{each_any}
use Rattle.page_tree.proofs.touched.unmarked.Goals as goal

pub returns-clause-numbers : goal.returns-clause-numbers
returns-clause-numbers c = record { each = each_any (λ x. is_among x.0 c.new-numbers.result ≡ false) c.args.page.now.nodes.tree (λ x. ap (is_among x.0) c.new-numbers.ensures) }
