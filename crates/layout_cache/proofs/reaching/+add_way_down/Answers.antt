use Rattle.std.proofs.Common.{Option, ap, subst, ◌∙◌}
use Rattle.std.specs.Prelude.{IfSome, IsTrue}
use Rattle.node_arena.specs.Numbers.{way_of}
use Rattle.node_arena.specs.Plain.{is_live}
use Rattle.node_arena.specs.declared.number.NodeId.{NodeId}
use Rattle.layout_cache.proofs.OneWay.{added_down}
use Rattle.layout_cache.proofs.reaching.+add_way_down.Goals as goal

pub returns : goal.returns
returns g t c =
    let live = subst (λ (o : Option NodeId). IfSome o (λ id. IsTrue (is_live c.args.tree.now id))) c.in-Some.is c.requires in
    added_down c.args.found.now.items c.add_way_down.new.found.items c.push.new.self.items c.in-Some.id (way_of c.args.tree.now.tree c.parent.result) (way_of c.args.tree.now.tree c.args.next)
    c.in_ok-add_way_down.ensures c.in_ok-push.ensures.items (ap (way_of c.args.tree.now.tree) c.in-Some.is ∙ c.parent.ensures.way live)
