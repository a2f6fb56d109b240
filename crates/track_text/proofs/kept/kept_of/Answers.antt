use Rattle.std.proofs.Common.{rules, ◌≡◌, [], ap, ◌∙◌}
use Rattle.track_text.specs.Templates.{tracks_of, lines_of}
use Rattle.track_text.specs.Kept.{trim, thin}
use Rattle.track_text.proofs.Keeping.{tracks-are, names-are}
use Rattle.track_text.proofs.kept.kept_of.Goals as goal

pub returns-clause-sizes : goal.returns-clause-sizes
returns-clause-sizes c =
    let held : c.in_ok-entries.entries ≡ thin [] (trim 10000 c.args.entries.now) = search rules in
    let read : c.in_ok-tracks_of.field-0 ≡ tracks_of c.in_ok-entries.entries = search rules in
    read ∙ ap tracks_of held ∙ tracks-are c.args.entries.now

pub returns-clause-names : goal.returns-clause-names
returns-clause-names c =
    let held : c.in_ok-entries.entries ≡ thin [] (trim 10000 c.args.entries.now) = search rules in
    let read : c.in_ok-lines_of.field-0 ≡ lines_of c.in_ok-entries.entries = search rules in
    read ∙ ap lines_of held ∙ names-are c.args.entries.now
