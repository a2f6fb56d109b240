use Rattle.std.proofs.Common.{◌∙◌, arith}
use Rattle.page_tree.proofs.Forgotten.{next_not, none_after}
use Rattle.page_tree.proofs.forget.forget_all.Goals as goal

pub loop-index-preserved : goal.loop-index-preserved
loop-index-preserved c =
    λ f here.
    let now = c.forget.ensures f here in
    let before = c.loop-index.invariant f now.0 in
    (before.0, before.1 ∙ next_not f.id (record { slot = 0; turn = 0 }) c.args.ids.now c.loop-index.index (omega (arith, c.loop-index-test.true)) now.1)

pub returns : goal.returns
returns c =
    λ f here.
    let all = c.loop-index.invariant f here in
    (all.0, all.1 ∙ none_after f.id c.args.ids.now c.loop-index.index (omega (arith, c.loop-index-test.false)))
