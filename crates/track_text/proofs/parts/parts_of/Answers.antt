use Rattle.std.proofs.Common.{rules, ◌≡◌, List, [], ◌∷◌, ap, ◌∙◌, sym}
use Rattle.track_text.specs.declared.entry.Part.{Part}
use Rattle.track_text.specs.Words.{Word, front, all_from}
use Rattle.track_text.specs.Repeats.{part_first}
use Rattle.track_text.proofs.Fronts.{gives_handed, rest_falls}
use Rattle.track_text.proofs.Joins.{all_with, all_at_form, all_at_none, all_at_end}
use Rattle.track_text.proofs.parts.parts_of.Goals as goal

pub returns-in_err-part : goal.returns-in_err-part
returns-in_err-part c =
    let word = c.in-Some.word.now in
    let rest = c.in-Some.rest in
    let e : c.loop-word.words ≡ word ∷ rest = search rules in
    gives_handed c.from_residual.result c.in_err-part.field-0.0 (front (part_first c.args.relative) (word ∷ rest)) (all_from (part_first c.args.relative) c.args.words)
    (search rules) c.in_err-part.ensures
    (λ none. sym c.loop-word.invariant
    ∙ ap (λ (words : List Word). all_with c.loop-word.parts (all_from (part_first c.args.relative) words)) e
    ∙ all_at_none c.loop-word.parts (part_first c.args.relative) word rest none)

pub loop-word-smaller : goal.loop-word-smaller
loop-word-smaller c =
    let word = c.in-Some.word.now in
    let rest = c.in-Some.rest in
    let e : c.loop-word.words ≡ word ∷ rest = search rules in
    rw e (rest_falls (part_first c.args.relative) word rest c.in_ok-part.part c.in_ok-part.rest c.in_ok-part.ensures)

pub loop-word-preserved : goal.loop-word-preserved
loop-word-preserved c =
    let word = c.in-Some.word.now in
    let rest = c.in-Some.rest in
    let e : c.loop-word.words ≡ word ∷ rest = search rules in
    ap (λ (parts : List Part). all_with parts (all_from (part_first c.args.relative) c.in_ok-part.rest)) c.in_ok-push.ensures.ok
    ∙ sym (all_at_form c.loop-word.parts (part_first c.args.relative) word rest c.in_ok-part.rest c.in_ok-part.part c.in_ok-part.ensures)
    ∙ ap (λ (words : List Word). all_with c.loop-word.parts (all_from (part_first c.args.relative) words)) (sym e)
    ∙ c.loop-word.invariant

pub returns : goal.returns
returns c =
    let e : c.loop-word.words ≡ [] = search rules in
    sym c.loop-word.invariant
    ∙ ap (λ (words : List Word). all_with c.loop-word.parts (all_from (part_first c.args.relative) words)) e
    ∙ all_at_end c.loop-word.parts (part_first c.args.relative)
