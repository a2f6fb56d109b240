use Rattle.std.proofs.Common.{◌+◌, true, false, refl, sym, ap, ◌∙◌}
use Rattle.std.proofs.lemmas.Bool.{le-ltb, lt-ltb}
use Rattle.std.specs.Prelude.{nat_lt}
use Rattle.doc_text.specs.Edits.{are_too_many}
use Rattle.page_tree.specs.Rows.{or_later}
use Rattle.page_tree.proofs.Moves.{leaf_left, place_told}
use Rattle.page_tree.proofs.refusal.of_place.Goals as goal

pub returns-then-children-index : goal.returns-then-children-index
returns-then-children-index c =
    c.told.ensures
    ∙ place_told c.args.page.now c.args.named.now c.args.parent.now c.args.index c.args.at true _ _ _ (sym (lt-ltb c.count_left-children.result c.args.index c.if-children-index.true) ∙ ap (λ n. nat_lt n c.args.index) c.count_left-children.ensures) refl refl refl

pub returns : goal.returns
returns c =
    let named = c.args.named.now in
    let parent = c.args.parent.now in
    let page = c.args.page.now in
    c.or_later.ensures
    ∙ ap (or_later c.is_too_low-deep.result 12 named.at) (c.or_later-later-2.ensures ∙ ap (or_later c.passes_children-full.result 13 named.at) c.or_later-later.ensures)
    ∙ place_told page named parent c.args.index c.args.at false _ _ _ (sym (le-ltb c.count_left-children.result c.args.index c.if-children-index.false) ∙ ap (λ n. nat_lt n c.args.index) c.count_left-children.ensures) c.is_too_low-deep.ensures
    (c.passes_children-full.ensures ∙ (λ i. are_too_many (c.version.ensures i) (c.count_left-children.ensures i + 1)))
    (c.is_leaf_at-leaf.ensures ∙ leaf_left page.nodes.tree named.name parent.name c.args.id c.args.to c.requires)
