use Rattle.placing.proofs.KeptTrees.{none_right}
use Rattle.page_tree.proofs.Filling.{root_holds, root_keeps, root_lone, root_names, whole_document}
use Rattle.page_tree.proofs.page.Page.new.Goals as goal

pub fill-requires : goal.fill-requires
fill-requires c =
    let root = c.in_ok-page.ensures in
    record { lone = root_lone c.args.doc.now c.in_ok-page.root c.in_ok-page.page root; names = root_names c.args.doc.now c.in_ok-page.root c.in_ok-page.page c.requires root }

pub returns-clause-document : goal.returns-clause-document
returns-clause-document c = whole_document c.args.doc.now c.in_ok-page.root c.in_ok-page.page c.fill.new.page c.in_ok-page.ensures c.in_ok-fill.ensures.ok c.in_ok-fill.ensures.around

pub returns-clause-right : goal.returns-clause-right
returns-clause-right c =
    none_right c.fill.new.page.nodes.tree (root_keeps c.args.doc.now c.in_ok-page.root c.in_ok-page.page c.fill.new.page c.in_ok-page.ensures c.in_ok-fill.ensures.ok)
    (root_holds c.args.doc.now c.in_ok-page.root c.in_ok-page.page c.fill.new.page c.in_ok-page.ensures c.in_ok-fill.ensures.ok)

pub returns-clause-none : goal.returns-clause-none
returns-clause-none c = root_keeps c.args.doc.now c.in_ok-page.root c.in_ok-page.page c.fill.new.page c.in_ok-page.ensures c.in_ok-fill.ensures.ok
