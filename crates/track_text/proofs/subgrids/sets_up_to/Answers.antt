use Rattle.std.proofs.Common.{rules, ◌≡◌, List, [], ◌∷◌, ap, ◌∙◌, sym, codes}
use Rattle.std.specs.Option.{option_map}
use Rattle.track_text.specs.Words.{Word, front, rest_up_to}
use Rattle.track_text.specs.Templates.{set_first}
use Rattle.track_text.specs.Gives.{behind}
use Rattle.track_text.proofs.Rests.{gives_bad, at_close, at_form, at_neither, at_end}
use Rattle.track_text.proofs.Fronts.{gives_handed, rest_falls}
use Rattle.track_text.proofs.subgrids.sets_up_to.Goals as goal

pub returns-in_err-word : goal.returns-in_err-word
returns-in_err-word c =
    let e : c.loop-sets.words ≡ [] = search rules in
    gives_bad c.from_residual.result (rest_up_to (codes ")") set_first c.args.words) (search rules)
    (sym c.loop-sets.invariant
    ∙ ap (λ (words : List Word). option_map (behind c.loop-sets.sets) (rest_up_to (codes ")") set_first words)) e
    ∙ at_end c.loop-sets.sets (codes ")") set_first)

pub returns-then-eq : goal.returns-then-eq
returns-then-eq c =
    let word = c.in_ok-word.word.now in
    let rest = c.in_ok-word.rest in
    let e : c.loop-sets.words ≡ word ∷ rest = search rules in
    sym c.loop-sets.invariant
    ∙ ap (λ (words : List Word). option_map (behind c.loop-sets.sets) (rest_up_to (codes ")") set_first words)) e
    ∙ at_close c.loop-sets.sets (codes ")") set_first word rest (search rules)

pub returns-in_err-set : goal.returns-in_err-set
returns-in_err-set c =
    let word = c.in_ok-word.word.now in
    let rest = c.in_ok-word.rest in
    let e : c.loop-sets.words ≡ word ∷ rest = search rules in
    gives_handed c.from_residual-in_err-set.result c.in_err-set.field-0.0 (front set_first (word ∷ rest)) (rest_up_to (codes ")") set_first c.args.words)
    (search rules) c.in_err-set.ensures
    (λ none. sym c.loop-sets.invariant
    ∙ ap (λ (words : List Word). option_map (behind c.loop-sets.sets) (rest_up_to (codes ")") set_first words)) e
    ∙ at_neither c.loop-sets.sets (codes ")") set_first word rest (search rules) none)

pub loop-sets-smaller : goal.loop-sets-smaller
loop-sets-smaller c =
    let word = c.in_ok-word.word.now in
    let rest = c.in_ok-word.rest in
    let e : c.loop-sets.words ≡ word ∷ rest = search rules in
    rw e (rest_falls set_first word rest c.in_ok-set.set c.in_ok-set.rest c.in_ok-set.ensures)

pub loop-sets-preserved : goal.loop-sets-preserved
loop-sets-preserved c =
    let word = c.in_ok-word.word.now in
    let rest = c.in_ok-word.rest in
    let e : c.loop-sets.words ≡ word ∷ rest = search rules in
    ap (λ (sets : List (List Word)). option_map (behind sets) (rest_up_to (codes ")") set_first c.in_ok-set.rest)) c.in_ok-push.ensures.ok
    ∙ sym (at_form c.loop-sets.sets (codes ")") set_first word rest c.in_ok-set.rest c.in_ok-set.set (search rules) c.in_ok-set.ensures)
    ∙ ap (λ (words : List Word). option_map (behind c.loop-sets.sets) (rest_up_to (codes ")") set_first words)) (sym e)
    ∙ c.loop-sets.invariant
