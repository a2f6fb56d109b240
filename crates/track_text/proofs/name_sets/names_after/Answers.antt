use Rattle.std.proofs.Common.{rules, ◌≡◌, List, [], ◌∷◌, ap, ◌∙◌, sym, codes}
use Rattle.std.specs.Option.{option_map}
use Rattle.track_text.specs.Words.{Word, rest_up_to}
use Rattle.track_text.specs.NameSets.{name_first}
use Rattle.track_text.specs.Gives.{behind}
use Rattle.track_text.proofs.Rests.{at_name, at_no_name, at_end, gives_bad}
use Rattle.track_text.proofs.name_sets.names_after.Goals as goal

pub loop-names-preserved : goal.loop-names-preserved
loop-names-preserved c =
    let word = c.in_ok-word.word.now in
    let rest = c.in_ok-word.rest in
    let name = c.in_ok-ok_or.field-0 in
    let e : c.loop-names.words ≡ word ∷ rest = search rules in
    ap (λ (names : List Word). option_map (behind names) (rest_up_to (codes "]") name_first rest)) c.in_ok-push.ensures.ok
    ∙ sym (at_name c.loop-names.names word rest name (search rules) (search rules))
    ∙ ap (λ (words : List Word). option_map (behind c.loop-names.names) (rest_up_to (codes "]") name_first words)) (sym e)
    ∙ c.loop-names.invariant

pub returns-in_err-word : goal.returns-in_err-word
returns-in_err-word c =
    let e : c.loop-names.words ≡ [] = search rules in
    gives_bad c.from_residual.result (rest_up_to (codes "]") name_first c.args.words) (search rules)
    (sym c.loop-names.invariant
    ∙ ap (λ (words : List Word). option_map (behind c.loop-names.names) (rest_up_to (codes "]") name_first words)) e
    ∙ at_end c.loop-names.names (codes "]") name_first)

pub returns-in_err-ok_or : goal.returns-in_err-ok_or
returns-in_err-ok_or c =
    let word = c.in_ok-word.word.now in
    let rest = c.in_ok-word.rest in
    let e : c.loop-names.words ≡ word ∷ rest = search rules in
    gives_bad c.from_residual-in_err-ok_or.result (rest_up_to (codes "]") name_first c.args.words) (search rules)
    (sym c.loop-names.invariant
    ∙ ap (λ (words : List Word). option_map (behind c.loop-names.names) (rest_up_to (codes "]") name_first words)) e
    ∙ at_no_name c.loop-names.names word rest (search rules) (search rules))
