use Rattle.std.proofs.Common.{arith, ap, ◌∙◌, ◌≡◌, ◌++◌, ◌∷◌, [], replicate}
use Rattle.line_names.proofs.SetLists.{one_empty_more}
use Rattle.line_names.proofs.set_list.empty_lists.Goals as goal

pub loop-preserved : goal.loop-preserved
loop-preserved c = c.in_ok-push.ensures.ok ∙ ap (λ l. c.loop.lists ++ l ∷ []) c.new.ensures ∙ one_empty_more c.loop.counter c.loop.lists c.loop.invariant

pub returns : goal.returns
returns c =
    let all : c.loop.counter ≡ c.args.count = omega (arith, c.loop-test.false, c.loop.auto) in
    c.loop.invariant ∙ ap (λ n. replicate n []) all
