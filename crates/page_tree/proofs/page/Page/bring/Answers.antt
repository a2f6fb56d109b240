use Rattle.std.proofs.Common.{false, refl, ◌∙◌}
use Rattle.doc_text.proofs.Grown.{not_both}
use Rattle.doc_text.specs.View.{label_of}
use Rattle.page_tree.proofs.Filling.{added_back, added_brings, added_lone, added_low, added_named, added_names, around_on, fills_live}
use Rattle.page_tree.proofs.Turned.{anew, undone_brought}
use Rattle.page_tree.proofs.page.Page.bring.Goals as goal

pub add-requires : goal.add-requires
add-requires c =
    let new = anew c.args.self.now c.args.node.now c.stands.ensures.rooted c.requires.new in
    record { live = c.known-upper.ensures.live; new = new.own }

pub fill-requires : goal.fill-requires
fill-requires c =
    let t = c.args.self.now.nodes.tree in
    let w = c.add.new.self.nodes.tree in
    let new = anew c.args.self.now c.args.node.now c.stands.ensures.rooted c.requires.new in
    let a = c.in_ok-id.ensures.adds in
    record {
      lone = added_lone c.known-upper.result c.args.index (label_of c.args.node.now) c.in_ok-id.id t w c.stands.ensures.distinct c.known-upper.ensures.live a;
      names = added_names c.known-upper.result c.args.index (label_of c.args.node.now) c.in_ok-id.id t w c.stands.ensures.distinct c.known-upper.ensures.live a c.args.node.now.children new.apart new.distinct new.below;
    }

pub take_out-requires : goal.take_out-requires
take_out-requires c =
    let t = c.args.self.now.nodes.tree in
    let w = c.add.new.self.nodes.tree in
    let u = c.fill.new.page.nodes.tree in
    let label = label_of c.args.node.now in
    let a = c.in_ok-id.ensures.adds in
    let below = c.in-Err.ensures.err in
    record {
      live = fills_live _ c.in_ok-id.id w u (added_lone c.known-upper.result c.args.index label c.in_ok-id.id t w c.stands.ensures.distinct c.known-upper.ensures.live a) below;
      low = added_low c.known-upper.result c.args.index label c.in_ok-id.id t w c.stands.ensures.distinct c.known-upper.ensures.live a u below;
      name = added_named c.known-upper.result c.args.index label c.in_ok-id.id t w c.stands.ensures.distinct c.known-upper.ensures.live a u c.stands-in-Err.ensures.each below;
    }

pub returns-in-Ok-clause-changes : goal.returns-in-Ok-clause-changes
returns-in-Ok-clause-changes c =
    added_brings c.known-upper.result c.args.index (label_of c.args.node.now) c.in_ok-id.id c.args.self.now.nodes.tree c.add.new.self.nodes.tree c.stands.ensures.distinct c.known-upper.ensures.live c.in_ok-id.ensures.adds c.args.parent.now c.args.node.now c.fill.new.page.nodes.tree
    c.known-upper.ensures refl c.in-Ok.ensures.ok

pub returns-in-Err-clause-err : goal.returns-in-Err-clause-err
returns-in-Err-clause-err c =
    let back =
    c.take_out.ensures.nodes
    ∙ added_back c.known-upper.result c.args.index (label_of c.args.node.now) c.in_ok-id.id c.args.self.now.nodes.tree c.add.new.self.nodes.tree c.stands.ensures.distinct c.known-upper.ensures.live c.in_ok-id.ensures.adds c.fill.new.page.nodes.tree c.in-Err.ensures.err in
    undone_brought c.args.parent.now c.args.index c.args.node.now c.args.self.now c.take_out.new.self
    (around_on c.args.self.now c.fill.new.page c.take_out.new.self (around_on c.args.self.now c.add.new.self c.fill.new.page c.in_ok-id.ensures.around c.fill.ensures.around) c.take_out.ensures.around) back
    (λ alone. absurd (not_both false (c.in-Err.ensures.bare alone) refl))

pub returns-in-Err-clause-around : goal.returns-in-Err-clause-around
returns-in-Err-clause-around c =
    around_on c.args.self.now c.fill.new.page c.take_out.new.self (around_on c.args.self.now c.add.new.self c.fill.new.page c.in_ok-id.ensures.around c.fill.ensures.around) c.take_out.ensures.around

pub returns-in-Ok-clause-around : goal.returns-in-Ok-clause-around
returns-in-Ok-clause-around c = around_on c.args.self.now c.add.new.self c.fill.new.page c.in_ok-id.ensures.around c.fill.ensures.around
