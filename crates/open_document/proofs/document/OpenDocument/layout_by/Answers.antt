use Rattle.std.proofs.Common.{ap, sym, subst, ◌≡◌, ◌∙◌, List, []}
use Rattle.doc_text.specs.declared.document.Doc.{Doc}
use Rattle.session.specs.Boxes.{boxes_of}
use Rattle.session.specs.Printing.{Box}
use Rattle.session.specs.Standing.{doc_of}
use Rattle.open_document.specs.Apart.{AreApart, AreBoxes}
use Rattle.open_document.specs.Changed.{changed_in}
use Rattle.open_document.specs.Coming.{AreNext, HaveCome}
use Rattle.open_document.specs.Opened.{laid_out}
use Rattle.open_document.proofs.Laying.{AreLaid, document_boxes, laid_new, next_laid}
use Rattle.open_document.proofs.document.OpenDocument.layout_by.Goals as goal

pub returns-clause-ok : goal.returns-clause-ok
returns-clause-ok g c =
    let engine = c.self.inside.engine in
    let boxes : List Box = boxes_of (doc_of engine) in
    let last : List Box = c.self.inside.last.items in
    let told = c.lay_out.new.told in
    let next = c.in_ok-next.next in
    let apart : AreApart c.as_slice.result.now = subst AreApart (sym c.as_slice.ensures.value) c.self.invariant.1.0.apart in
    let same : told.before.now ≡ last = c.in_ok-counted.ensures.boxes.0 ∙ c.new-coming.ensures.before ∙ c.as_slice.ensures.value in
    let came : HaveCome told.before.now told.count told.changes.items told.apart told.boxes.items boxes = c.in_ok-counted.ensures.boxes.1 [] (c.new-coming.ensures.none apart) in
    let all : AreBoxes boxes = document_boxes (doc_of engine) c.stays_valid.ensures c.in_ok-counted.ensures.printable in
    let found : AreNext told.before.now boxes next.changes.items next.apart next.boxes.items next.changed = c.in_ok-next.ensures boxes all.apart came in
    let laid : AreLaid last c.take_place.new.last.items boxes c.take_place.result =
    next_laid last c.take_place.new.last.items told.before.now boxes next.changes.items next.apart next.boxes.items next.changed c.take_place.result same found c.take_place.ensures.boxes c.take_place.ensures.changed in
    laid_new engine c.lay_out.new.self c.lay_out.ensures.same last c.self.inside.changed c.self.inside.laid c.take_place.new.last.items c.take_place.result laid.are (laid.told ∙ ap (changed_in last) (sym laid.are))
    ∙ ap laid_out c.self.view_is
