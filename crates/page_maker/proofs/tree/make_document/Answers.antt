use Rattle.std.proofs.Common.{rules, ◌≡◌, sym, subst}
use Rattle.doc_text.specs.Valid.{IsValid}
use Rattle.page_maker.specs.Making.{made_document}
use Rattle.page_maker.specs.Standing.{IsMade}
use Rattle.page_maker.proofs.Made.{made_of_states, valid_made, made_made}
use Rattle.page_maker.proofs.tree.make_document.Goals as goal

pub returns-clause-valid : goal.returns-clause-valid
returns-clause-valid c =
    let made : c.in_ok-doc.doc ≡ made_document c.args.seed c.args.nodes = search (rules, made_of_states) in
    subst IsValid (sym made) (valid_made c.args.seed c.args.nodes c.requires.some c.requires.few)

pub returns-clause-stands : goal.returns-clause-stands
returns-clause-stands c =
    let made : c.in_ok-doc.doc ≡ made_document c.args.seed c.args.nodes = search (rules, made_of_states) in
    subst (IsMade c.args.nodes) (sym made) (made_made c.args.seed c.args.nodes c.requires.some c.requires.few)
