use Rattle.std.proofs.Common.{rules, ◌≡◌, List, [], ◌∷◌, ◌++◌, ap, ◌∙◌, sym, codes}
use Rattle.std.specs.Option.{option_map}
use Rattle.track_text.specs.declared.entry.Entry.{Entry}
use Rattle.track_text.specs.Words.{Word, front, rest_up_to}
use Rattle.track_text.specs.Repeats.{entry_first, joined_read}
use Rattle.track_text.proofs.Rests.{gives_bad}
use Rattle.track_text.proofs.Fronts.{gives_handed, rest_falls}
use Rattle.track_text.proofs.Joins.{joined_behind, joins_close, joins_form, joins_neither, joins_end}
use Rattle.track_text.proofs.parts.entries_up_to.Goals as goal

pub returns-in_err-word : goal.returns-in_err-word
returns-in_err-word c =
    let e : c.loop-entries.words ≡ [] = search rules in
    gives_bad c.from_residual.result (option_map joined_read (rest_up_to (codes ")") (entry_first c.args.relative) c.args.words)) (search rules)
    (sym c.loop-entries.invariant
    ∙ ap (λ (words : List Word). option_map (joined_behind c.loop-entries.entries) (rest_up_to (codes ")") (entry_first c.args.relative) words)) e
    ∙ joins_end c.loop-entries.entries (codes ")") (entry_first c.args.relative))

pub returns-then-eq : goal.returns-then-eq
returns-then-eq c =
    let word = c.in_ok-word.word.now in
    let rest = c.in_ok-word.rest in
    let e : c.loop-entries.words ≡ word ∷ rest = search rules in
    sym c.loop-entries.invariant
    ∙ ap (λ (words : List Word). option_map (joined_behind c.loop-entries.entries) (rest_up_to (codes ")") (entry_first c.args.relative) words)) e
    ∙ joins_close c.loop-entries.entries (codes ")") (entry_first c.args.relative) word rest (search rules)

pub returns-in_err-more : goal.returns-in_err-more
returns-in_err-more c =
    let word = c.in_ok-word.word.now in
    let rest = c.in_ok-word.rest in
    let e : c.loop-entries.words ≡ word ∷ rest = search rules in
    gives_handed c.from_residual-in_err-more.result c.in_err-more.field-0.0 (front (entry_first c.args.relative) (word ∷ rest)) (option_map joined_read (rest_up_to (codes ")") (entry_first c.args.relative) c.args.words))
    (search rules) c.in_err-more.ensures
    (λ none. sym c.loop-entries.invariant
    ∙ ap (λ (words : List Word). option_map (joined_behind c.loop-entries.entries) (rest_up_to (codes ")") (entry_first c.args.relative) words)) e
    ∙ joins_neither c.loop-entries.entries (codes ")") (entry_first c.args.relative) word rest (search rules) none)

pub loop-entries-smaller : goal.loop-entries-smaller
loop-entries-smaller c =
    let word = c.in_ok-word.word.now in
    let rest = c.in_ok-word.rest in
    let e : c.loop-entries.words ≡ word ∷ rest = search rules in
    rw e (rest_falls (entry_first c.args.relative) word rest c.in_ok-more.more c.in_ok-more.rest c.in_ok-more.ensures)

pub loop-entries-preserved : goal.loop-entries-preserved
loop-entries-preserved c =
    let word = c.in_ok-word.word.now in
    let rest = c.in_ok-word.rest in
    let e : c.loop-entries.words ≡ word ∷ rest = search rules in
    ap (λ (entries : List Entry). option_map (joined_behind entries) (rest_up_to (codes ")") (entry_first c.args.relative) c.in_ok-more.rest)) (c.in_ok-push_all.ensures ∙ ap (λ (more : List Entry). c.loop-entries.entries ++ more) (search rules))
    ∙ sym (joins_form c.loop-entries.entries (codes ")") (entry_first c.args.relative) word rest c.in_ok-more.rest c.in_ok-more.more (search rules) c.in_ok-more.ensures)
    ∙ ap (λ (words : List Word). option_map (joined_behind c.loop-entries.entries) (rest_up_to (codes ")") (entry_first c.args.relative) words)) (sym e)
    ∙ c.loop-entries.invariant
