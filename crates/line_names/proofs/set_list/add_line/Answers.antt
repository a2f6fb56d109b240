use Rattle.std.proofs.Common.{ap, ◌∙◌, ◌++◌, ◌∷◌, [], w32}
use Rattle.std.proofs.lemmas.Int.{to_z-of_z}
use Rattle.line_names.proofs.SetLists.{list_more, list_past}
use Rattle.line_names.proofs.set_list.add_line.Goals as goal

pub returns-in_ok-push-clause-added : goal.returns-in_ok-push-clause-added
returns-in_ok-push-clause-added c =
    list_more c.args.lists.now c.args.kind c.in-Some.list.now c.push.new.self c.args.line c.in-Some.ensures.value (c.in_ok-push.ensures ∙ ap (λ z. c.in-Some.list.now ++ z ∷ []) (to_z-of_z w32 c.args.line c.ranges.line))

pub returns-in_default-clause-added : goal.returns-in_default-clause-added
returns-in_default-clause-added c = list_past c.args.lists.now c.args.kind c.args.line c.in_default.ensures.value
