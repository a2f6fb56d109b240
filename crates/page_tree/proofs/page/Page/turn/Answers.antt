use Rattle.std.proofs.Common.{sym, subst, ◌∙◌}
use Rattle.node_arena.specs.Numbers.{is_among}
use Rattle.box_layout.specs.LastBoxes.{AreFound}
use Rattle.placing.specs.Kept.{IsRight, kept_at}
use Rattle.placing.specs.Nodes.{NodeTrees, bare}
use Rattle.page_tree.specs.Forgotten.{Forgets}
use Rattle.page_tree.specs.Left.{all_left}
use Rattle.page_tree.proofs.Applied.{page_found, page_left}
use Rattle.page_tree.proofs.Turned.{turned_is}
use Rattle.page_tree.proofs.page.Page.turn.Goals as goal

pub returns-clause-document : goal.returns-clause-document
returns-clause-document c = c.let_reached_go.ensures.document ∙ turned_is c.args.change.now c.args.self.now c.change.new.self c.stands.ensures.rooted c.stands-2.ensures.rooted c.in_ok-change.ensures.changes c.in_ok-change.ensures.around

pub returns-clause-right : goal.returns-clause-right
returns-clause-right c right =
    let list = c.in_ok-reached.reached.nodes in
    let nodes = c.let_reached_go.ensures.nodes ∙ (λ i. all_left (c.in_ok-reached.ensures.felt i) (c.is_placing.ensures i) list c.change.new.self.nodes) in
    (page_left c.args.change.now c.args.self.now c.change.new.self c.let_reached_go.new.self list c.stands.ensures c.stands-2.ensures c.in_ok-change.ensures.changes c.in_ok-reached.ensures.nodes nodes).1 right

pub returns-clause-kept : goal.returns-clause-kept
returns-clause-kept c =
    let list = c.in_ok-reached.reached.nodes in
    let nodes = c.let_reached_go.ensures.nodes ∙ (λ i. all_left (c.in_ok-reached.ensures.felt i) (c.is_placing.ensures i) list c.change.new.self.nodes) in
    (page_left c.args.change.now c.args.self.now c.change.new.self c.let_reached_go.new.self list c.stands.ensures c.stands-2.ensures c.in_ok-change.ensures.changes c.in_ok-reached.ensures.nodes nodes).0

pub returns-clause-last : goal.returns-clause-last
returns-clause-last c =
    let list = c.in_ok-reached.reached.nodes in
    let nodes = c.let_reached_go.ensures.nodes ∙ (λ i. all_left (c.in_ok-reached.ensures.felt i) (c.is_placing.ensures i) list c.change.new.self.nodes) in
    page_found c.args.change.now c.args.self.now c.change.new.self c.let_reached_go.new.self list c.stands.ensures c.stands-2.ensures c.in_ok-change.ensures.changes c.in_ok-reached.ensures.nodes nodes
    c.args.last.now c.forget_new.new.last c.forget_all.new.last c.requires.last c.forget_new.ensures
    (subst (λ l. Forgets (λ n. is_among n l) c.forget_new.new.last c.forget_all.new.last) c.as_slice.ensures c.forget_all.ensures)

pub returns-in_err-change-clause-right : goal.returns-in_err-change-clause-right
returns-in_err-change-clause-right c right = subst IsRight (sym c.in_err-change.ensures.err.before.tree) right

pub returns-in_err-change-clause-last : goal.returns-in_err-change-clause-last
returns-in_err-change-clause-last c = subst (λ (t : NodeTrees). AreFound (bare t) (kept_at t) c.args.last.now) (sym c.in_err-change.ensures.err.before.tree) c.requires.last
