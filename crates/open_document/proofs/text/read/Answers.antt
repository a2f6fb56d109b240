use Rattle.std.proofs.Common.{rules, refl, arith, ◌≡◌, ◌+◌, ◌≤◌, length, Ok}
use Rattle.session.specs.Input.{limit}
use Rattle.text_scan.specs.declared.line.Place.{Place}
use Rattle.doc_text.specs.Documents.{document_of}
use Rattle.open_document.proofs.Reading.{document_read}
use Rattle.open_document.proofs.text.read.Goals as goal

pub returns-in-Ok-clause-read : goal.returns-in-Ok-clause-read
returns-in-Ok-clause-read c =
    let few : length c.args.text.now ≤ limit = omega (arith, c.if-text-gt-LIMIT.false) in
    let held = c.in_ok-held.held in
    let end : Place = record { line = c.in_ok-held.count + 1; column = 1 } in
    let read : document_of held.lines end ≡ Ok c.in-Ok.doc = search rules in
    document_read c.args.text.now held c.in_ok-held.count held.lines end c.in_ok-held.ensures few refl refl c.in-Ok.doc read
