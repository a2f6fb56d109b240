use Rattle.std.proofs.Common.{rules, ◌≡◌, get_or, arith, ap, refl, sym, subst, ◌∙◌}
use Rattle.plain_tree.specs.Trees.{size_of}
use Rattle.doc_text.specs.declared.document.Plain.{Plain}
use Rattle.page_tree.specs.Fits.{AreNamedAnew}
use Rattle.std.specs.Prelude.{⊤}
use Rattle.page_tree.specs.Filled.{Fills}
use Rattle.page_tree.specs.Pages.{Held, trees_in}
use Rattle.page_tree.proofs.Filling.{NextChild, all_filled, around_on, child_smaller, fills_live, fills_none, fills_some, next_child, no_child, on_err}
use Rattle.page_tree.proofs.page.+fill.Goals as goal

pub add-requires : goal.add-requires
add-requires t c =
    let nodes = c.nodes-children.result.now in
    let child = c.index-children-index.result in
    let at : get_or nodes c.loop-index.index child ≡ child = search rules in
    let old = c.args.page.now.nodes.tree in
    let now = c.loop-index.page.nodes.tree in
    let step = subst (λ (n : Plain). NextChild nodes c.loop-index.index n c.args.id old now) at
    (next_child nodes c.loop-index.index child c.args.id old now c.loop-index-test.true c.stands.ensures.distinct c.stands-in-loop-index.ensures.distinct c.requires.lone
    (subst (λ s. AreNamedAnew s (trees_in c.args.page.now)) (sym c.nodes-children.ensures) c.requires.names) c.loop-index.invariant.fills) in
    record { live = fills_live _ c.args.id old now c.requires.lone c.loop-index.invariant.fills; new = step.fresh }

pub fill-requires : goal.fill-requires
fill-requires t c =
    let nodes = c.nodes-children.result.now in
    let child = c.index-children-index.result in
    let at : get_or nodes c.loop-index.index child ≡ child = search rules in
    let old = c.args.page.now.nodes.tree in
    let now = c.loop-index.page.nodes.tree in
    let step = subst (λ (n : Plain). NextChild nodes c.loop-index.index n c.args.id old now) at
    (next_child nodes c.loop-index.index child c.args.id old now c.loop-index-test.true c.stands.ensures.distinct c.stands-in-loop-index.ensures.distinct c.requires.lone
    (subst (λ s. AreNamedAnew s (trees_in c.args.page.now)) (sym c.nodes-children.ensures) c.requires.names) c.loop-index.invariant.fills) in
    let a = c.in_ok-below.ensures.adds in (
      omega (arith, child_smaller nodes c.loop-index.index child c.loop-index-test.true, ap size_of c.nodes-children.ensures, ap (λ (n : Plain). size_of n.children) at, c.decreases),
      (step.lone c.in_ok-below.below c.add.new.self.nodes.tree a, step.names c.in_ok-below.below c.add.new.self.nodes.tree a),
    )

pub loop-index-init : goal.loop-index-init
loop-index-init t c =
    record { fills = fills_none c.args.id c.args.page.now.nodes.tree c.stands.ensures.distinct c.requires.lone; around = record { version = refl; width = refl; height = refl } }

pub loop-index-preserved : goal.loop-index-preserved
loop-index-preserved t c =
    let nodes = c.nodes-children.result.now in
    let child = c.index-children-index.result in
    let at : get_or nodes c.loop-index.index child ≡ child = search rules in
    let old = c.args.page.now.nodes.tree in
    let now = c.loop-index.page.nodes.tree in
    let step = subst (λ (n : Plain). NextChild nodes c.loop-index.index n c.args.id old now) at
    (next_child nodes c.loop-index.index child c.args.id old now c.loop-index-test.true c.stands.ensures.distinct c.stands-in-loop-index.ensures.distinct c.requires.lone
    (subst (λ s. AreNamedAnew s (trees_in c.args.page.now)) (sym c.nodes-children.ensures) c.requires.names) c.loop-index.invariant.fills) in
    record {
      fills = step.next c.in_ok-below.below c.add.new.self.nodes.tree c.fill.new.page.nodes.tree c.in_ok-below.ensures.adds c.in_ok-fill.ensures.ok;
      around = around_on c.args.page.now c.add.new.self c.fill.new.page (around_on c.args.page.now c.loop-index.page c.add.new.self c.loop-index.invariant.around c.in_ok-below.ensures.around) c.fill.ensures.around;
    }

pub returns-clause-ok : goal.returns-clause-ok
returns-clause-ok t c =
    let f = all_filled c.nodes-children.result.now c.loop-index.index c.args.id c.args.page.now.nodes.tree c.loop-index.page.nodes.tree c.loop-index-test.false c.loop-index.invariant.fills in
    record { new = f.new; begun = f.begun; plain = f.plain ∙ c.nodes-children.ensures; is = f.is }

pub returns-in_err-below-clause-err : goal.returns-in_err-below-clause-err
returns-in_err-below-clause-err t c =
    on_err c.from_residual.result
    (subst (λ (h : Held). Fills (λ s. ⊤) c.args.id c.args.page.now.nodes.tree h.nodes.tree) (sym c.in_err-below.ensures.err) (fills_some _ c.args.id c.args.page.now.nodes.tree c.loop-index.page.nodes.tree c.loop-index.invariant.fills))

pub returns-in_err-below-clause-bare : goal.returns-in_err-below-clause-bare
returns-in_err-below-clause-bare t c none = absurd (no_child c.nodes-children.result.now c.loop-index.index c.loop-index-test.true (c.nodes-children.ensures ∙ none))

pub returns-in_err-fill-clause-err : goal.returns-in_err-fill-clause-err
returns-in_err-fill-clause-err t c =
    let nodes = c.nodes-children.result.now in
    let child = c.index-children-index.result in
    let at : get_or nodes c.loop-index.index child ≡ child = search rules in
    let old = c.args.page.now.nodes.tree in
    let now = c.loop-index.page.nodes.tree in
    let step = subst (λ (n : Plain). NextChild nodes c.loop-index.index n c.args.id old now) at
    (next_child nodes c.loop-index.index child c.args.id old now c.loop-index-test.true c.stands.ensures.distinct c.stands-in-loop-index.ensures.distinct c.requires.lone
    (subst (λ s. AreNamedAnew s (trees_in c.args.page.now)) (sym c.nodes-children.ensures) c.requires.names) c.loop-index.invariant.fills) in
    on_err c.from_residual-in_err-fill.result (step.some c.in_ok-below.below c.add.new.self.nodes.tree c.fill.new.page.nodes.tree c.in_ok-below.ensures.adds c.in_err-fill.ensures.err)

pub returns-in_err-fill-clause-bare : goal.returns-in_err-fill-clause-bare
returns-in_err-fill-clause-bare t c none = absurd (no_child c.nodes-children.result.now c.loop-index.index c.loop-index-test.true (c.nodes-children.ensures ∙ none))
