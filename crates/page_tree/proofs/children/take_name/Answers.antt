use Rattle.std.proofs.Common.{◌≡◌, None, Some, ap, ◌∙◌}
use Rattle.std.specs.Prelude.{if◌then◌else◌}
use Rattle.std.specs.BTreeMap.{get}
use Rattle.std.specs.Cmp.Lexicographic.{slice_cmp}
use Rattle.std.specs.Ordering.{nat_cmp}
use Rattle.std.specs.Str.{bytes_eq}
use Rattle.placing.specs.declared.node.Node.{Node}
use Rattle.page_tree.proofs.Registers.{updated}
use Rattle.page_tree.proofs.children.take_name.Goals as goal

pub returns-in-Some : goal.returns-in-Some
returns-in-Some c v e name =
    let node = c.in-Some.node.now in
    let both : Some node ≡ Some v = c.in-Some.ensures ∙ e in
    let is : node ≡ v = cc in
    updated c.args.numbers.now c.remove.new.self node.name None c.remove.ensures.updates name
    ∙ ap (λ (y : Node). if bytes_eq y.name name then None else get (slice_cmp nat_cmp) c.args.numbers.now name) is

pub returns-in-None : goal.returns-in-None
returns-in-None c v e name = let none : None ≡ Some v = c.in-None.ensures ∙ e in absurd cc
