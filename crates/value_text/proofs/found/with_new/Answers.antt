use Rattle.std.proofs.Common.{ap, ◌∙◌, ◌++◌, ◌∷◌, []}
use Rattle.value_text.specs.declared.found.Found.{Found}
use Rattle.value_text.proofs.Adding.{adds_new}
use Rattle.value_text.proofs.found.with_new.Goals as goal

pub returns-clause-list : goal.returns-clause-list
returns-clause-list c =
    c.in_ok-push.ensures.ok ∙ ap (λ (f : Found). c.args.list ++ f ∷ []) c.new_found.ensures ∙ adds_new c.args.name c.args.list c.args.row c.args.column c.requires
