use Rattle.std.proofs.Common.{rules, ◌≡◌, ℕ, List, Some, None, ap, sym, ◌∙◌, subst}
use Rattle.std.specs.BTreeMap.{get, Updates}
use Rattle.std.specs.Cmp.Lexicographic.{slice_cmp}
use Rattle.std.specs.Ordering.{nat_cmp}
use Rattle.value_text.specs.declared.found.Found.{Found}
use Rattle.value_text.specs.Places.{place_from}
use Rattle.value_text.proofs.Adding.{Tells, tells_new}
use Rattle.value_text.proofs.found.FoundList.add.Goals as goal

pub invariant_of-result-in-None : goal.invariant_of-result-in-None
invariant_of-result-in-None c name =
    let places = c.self.inside.places in
    let list = c.self.inside.list in
    let absent : get (slice_cmp nat_cmp) places c.args.name ≡ None = search rules in
    let none : place_from 0 c.args.name list ≡ None = sym (c.self.invariant c.args.name) ∙ absent in
    let updates = subst (λ (n : ℕ). Updates (slice_cmp nat_cmp) places c.insert.new.self c.args.name (Some n)) c.len.ensures c.in_ok-insert-in-None.ensures.updates in
    let before : Tells places list = record { place = c.self.invariant } in
    let tells = tells_new places c.insert.new.self list c.args.name c.args.row c.args.column before none updates in
    tells.place name ∙ ap (λ (xs : List Found). place_from 0 name xs) (sym c.in_ok-list-in-None.ensures.pushed)
