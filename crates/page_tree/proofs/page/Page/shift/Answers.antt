use Rattle.page_tree.proofs.Turned.{apart_of}
use Rattle.page_tree.proofs.page.Page.shift.Goals as goal

pub move_under-requires : goal.move_under-requires
move_under-requires c = apart_of c.args.self.now c.known-id.result c.known-to.result c.args.name.now c.args.parent.now c.args.index c.stands.ensures.rooted c.known-id.ensures c.known-to.ensures c.requires.found
