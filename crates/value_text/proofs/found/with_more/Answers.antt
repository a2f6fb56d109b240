use Rattle.std.proofs.Common.{rules, ◌≡◌, List, Some, slice_get, slice_set, ap, sym, ◌∙◌}
use Rattle.value_text.specs.declared.found.Found.{Found}
use Rattle.value_text.specs.Places.{place_from}
use Rattle.value_text.specs.AreaText.{with_cell}
use Rattle.value_text.proofs.Adding.{found}
use Rattle.value_text.proofs.found.with_more.Goals as goal

pub returns-clause-list : goal.returns-clause-list
returns-clause-list c =
    let at = found c.args.name c.args.list c.args.place c.requires in
    let more : c.in_ok-more.more ≡ with_cell c.in-Some.found.now c.args.row c.args.column = search rules in
    let here : slice_get c.args.list c.args.place ≡ Some c.in-Some.found.now = search rules in
    c.set.ensures ∙ ap (λ (f : Found). slice_set c.args.list c.args.place f) more ∙ at.adds c.in-Some.found.now c.args.row c.args.column here

pub returns-clause-places : goal.returns-clause-places
returns-clause-places c q =
    let at = found c.args.name c.args.list c.args.place c.requires in
    let more : c.in_ok-more.more ≡ with_cell c.in-Some.found.now c.args.row c.args.column = search rules in
    let here : slice_get c.args.list c.args.place ≡ Some c.in-Some.found.now = search rules in
    at.stays c.in-Some.found.now c.args.row c.args.column here q 0
    ∙ ap (λ (xs : List Found). place_from 0 q xs) (sym (c.set.ensures ∙ ap (λ (f : Found). slice_set c.args.list c.args.place f) more))
