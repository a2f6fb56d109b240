use Rattle.std.proofs.Common.{◌≡◌, ◌∙◌, sym, subst, ℕ, List, length}
use Rattle.std.specs.Prelude.{IfOk}
use Rattle.std.proofs.lemmas.List.{length-map}
use Rattle.tree_rules.specs.Answers.{Kid}
use Rattle.placing.specs.Areas.{orders_at}
use Rattle.placing.specs.Nodes.{bare, kids_at}
use Rattle.placing.proofs.Numbers.{unmoved}
use Rattle.placing.proofs.placement.sorted_numbers.Goals as goal

pub returns-then-are_ascending : goal.returns-then-are_ascending
returns-then-are_ascending c =
    let b = bare c.args.tree.now.tree in
    subst (λ (ns : List ℕ). IfOk c.numbers_as_they_come.result (λ numbers. numbers ≡ ns))
    (unmoved _ (orders_at b c.args.id) (length c.args.children.now) (sym c.are_ascending.ensures ∙ c.if-are_ascending.true) (c.requires.count ∙ sym (length-map (kids_at b c.args.id) (λ (k : Kid). k.label.grid.order))))
    c.numbers_as_they_come.ensures
