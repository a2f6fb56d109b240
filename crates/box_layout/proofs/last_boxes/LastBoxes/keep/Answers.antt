use Rattle.std.proofs.Common.{List, subst}
use Rattle.std.specs.Prelude.{◌⊎◌, Contains}
use Rattle.tree_rules.specs.declared.query.Query.{Query}
use Rattle.box_layout.specs.LastBoxes.{Found, IsFoundOf}
use Rattle.box_layout.proofs.last_boxes.LastBoxes.keep.Goals as goal

pub invariant_of-self : goal.invariant_of-self
invariant_of-self c = c.put.ensures.listed c.self.invariant

pub returns : goal.returns
returns c = λ f there.
    subst (λ (q : Query). Contains c.args.self.now f ⊎ IsFoundOf c.args.id q (c.args.name.now, c.args.rect) c.args.few.now f) c.in-Ok.ensures
    (subst (λ (z : List Found). Contains z f ⊎ IsFoundOf c.args.id c.in-Ok.query (c.args.name.now, c.args.rect) c.args.few.now f) c.self.view_is (c.put.ensures.all c.self.invariant f there))
