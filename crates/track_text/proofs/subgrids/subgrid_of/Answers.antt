use Rattle.std.proofs.Common.{rules, ◌≡◌, List, Option, Some, take, ap, ◌∙◌, sym}
use Rattle.std.specs.Option.{option_map}
use Rattle.track_text.specs.declared.entry.Sets.{Sets}
use Rattle.track_text.specs.Words.{Word, all_from}
use Rattle.track_text.specs.Templates.{sets_first, sets_of, subgrid_of}
use Rattle.track_text.proofs.Fronts.{gives_handed}
use Rattle.track_text.proofs.SubgridSets.{subgrid_parts}
use Rattle.track_text.proofs.subgrids.subgrid_of.Goals as goal

pub returns-in_err-parts : goal.returns-in_err-parts
returns-in_err-parts c = gives_handed c.from_residual.result c.in_err-parts.field-0.0 (all_from sets_first c.args.words) (subgrid_of c.args.words)
    (search rules) c.in_err-parts.ensures
    (λ none. subgrid_parts c.args.words ∙ ap (λ (parts : Option (List Sets)). option_map (λ parts. take 20001 (sets_of parts)) parts) none)

pub returns : goal.returns
returns c =
    let held : c.in_ok-held.held ≡ take 20001 (sets_of c.in_ok-parts.parts) = search rules in
    subgrid_parts c.args.words ∙ ap (λ (parts : Option (List Sets)). option_map (λ parts. take 20001 (sets_of parts)) parts) c.in_ok-parts.ensures
    ∙ ap (λ (sets : List (List Word)). Some sets) (sym held)
