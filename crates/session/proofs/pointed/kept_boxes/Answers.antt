use Rattle.std.proofs.Common.{◌≡◌, ◌∙◌}
use Rattle.page_tree.specs.Pages.{document_of}
use Rattle.session.specs.Boxes.{boxes_of}
use Rattle.session.proofs.Grounds.{few_listed, listed, made_listed, small_listed}
use Rattle.session.proofs.pointed.kept_boxes.Goals as goal

pub new-requires-clause-few : goal.new-requires-clause-few
new-requires-clause-few g c =
    let whole : c.from_vec.result ≡ boxes_of (document_of c.args.page.now) = c.from_vec.ensures ∙ listed c.new-list.result.boxes.items c.kept_boxes.new.told.boxes.items (document_of c.args.page.now) c.new-list.ensures c.in_ok-kept_boxes.ensures.boxes in
    few_listed c.from_vec.result (document_of c.args.page.now) whole c.requires.sound.valid

pub new-requires-clause-printable : goal.new-requires-clause-printable
new-requires-clause-printable g c =
    let whole : c.from_vec.result ≡ boxes_of (document_of c.args.page.now) = c.from_vec.ensures ∙ listed c.new-list.result.boxes.items c.kept_boxes.new.told.boxes.items (document_of c.args.page.now) c.new-list.ensures c.in_ok-kept_boxes.ensures.boxes in
    small_listed c.from_vec.result (document_of c.args.page.now) whole c.in_ok-kept_boxes.ensures.near

pub returns-clause-boxes : goal.returns-clause-boxes
returns-clause-boxes g c =
    let whole : c.from_vec.result ≡ boxes_of (document_of c.args.page.now) = c.from_vec.ensures ∙ listed c.new-list.result.boxes.items c.kept_boxes.new.told.boxes.items (document_of c.args.page.now) c.new-list.ensures c.in_ok-kept_boxes.ensures.boxes in
    made_listed c.new.result c.from_vec.result (document_of c.args.page.now) whole c.new.ensures
