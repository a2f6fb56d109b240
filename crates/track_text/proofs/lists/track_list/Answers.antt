use Rattle.std.proofs.Common.{rules, ◌≡◌, [], List, ap, ◌∙◌, sym, Option}
use Rattle.track_text.specs.declared.entry.Part.{Part}
use Rattle.track_text.specs.Words.{bind, all_from}
use Rattle.track_text.specs.Repeats.{part_first}
use Rattle.track_text.specs.Templates.{list_of, track_list}
use Rattle.track_text.proofs.Fronts.{gives_same, gives_handed}
use Rattle.track_text.proofs.TrackLists.{list-parts}
use Rattle.track_text.proofs.lists.track_list.Goals as goal

pub returns-in_err-parts : goal.returns-in_err-parts
returns-in_err-parts c = gives_handed c.from_residual.result c.in_err-parts.field-0.0 (all_from (part_first c.args.relative) c.args.words) (track_list c.args.relative c.args.words)
    (search rules) c.in_err-parts.ensures
    (λ none. list-parts c.args.relative c.args.words ∙ ap (λ (parts : Option (List Part)). bind parts (list_of [])) none)

pub returns : goal.returns
returns c =
    let parts : c.as_slice.result.now ≡ c.in_ok-parts.parts = search rules in
    gives_same c.list_of.result (list_of [] c.as_slice.result.now) (track_list c.args.relative c.args.words) c.list_of.ensures
    (list-parts c.args.relative c.args.words ∙ ap (λ (parts : Option (List Part)). bind parts (list_of [])) c.in_ok-parts.ensures ∙ ap (list_of []) (sym parts))
