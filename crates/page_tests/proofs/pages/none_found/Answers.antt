use Rattle.page_tests.proofs.Readied.{none_right}
use Rattle.page_tests.proofs.pages.none_found.Goals as goal

pub returns : goal.returns
returns c = none_right c.args.page.now.nodes.tree c.new.result c.new.ensures
