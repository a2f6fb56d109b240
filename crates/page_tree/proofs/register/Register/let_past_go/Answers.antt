use Rattle.std.proofs.Common.{ap, sym, subst, ◌∙◌}
use Rattle.std.specs.BTreeMap.{get}
use Rattle.std.specs.Ordering.{nat_cmp}
use Rattle.std.specs.Cmp.Lexicographic.{slice_cmp}
use Rattle.layout_cache.specs.Reach.{all_forgot}
use Rattle.node_arena.specs.Plain.{Nodes}
use Rattle.placing.specs.declared.node.Node.{Node}
use Rattle.placing.specs.Keeping.{without_past_of}
use Rattle.placing.proofs.KeptTrees.{drops_bare}
use Rattle.page_tree.specs.Registers.{IsRegister}
use Rattle.page_tree.proofs.Bares.{same_registered}
use Rattle.page_tree.proofs.register.Register.let_past_go.Goals as goal

pub invariant_of-self : goal.invariant_of-self
invariant_of-self c =
    let find = get (slice_cmp nat_cmp) c.self.inside.numbers in
    subst (λ (n : Nodes Node). IsRegister find n.tree) (sym c.drop_past.ensures) (same_registered find _ c.self.inside.tree.tree (drops_bare c.args.all c.args.reached.now c.self.inside.tree.tree) c.self.invariant)

pub returns : goal.returns
returns c = c.drop_past.ensures ∙ ap (all_forgot (without_past_of c.args.all) c.args.reached.now) c.self.view_is
