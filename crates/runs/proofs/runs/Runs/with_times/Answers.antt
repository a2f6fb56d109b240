use Rattle.std.proofs.Common.{rules, arith, ap, sym, subst, ◌∙◌, ◌≡◌, ◌<◌, ◌*◌, ◌-◌, ◌++◌, List, IfOk, length, length-append, length-take, take}
use Rattle.runs.specs.Times.{times}
use Rattle.runs.proofs.Times.{limited, times_once}
use Rattle.runs.proofs.runs.Runs.with_times.Goals as goal

pub with-requires-3 : goal.with-requires-3
with-requires-3 g c =
    let full : c.args.limit - c.len.result < c.args.count * c.len-3.result = search rules in
    let all = limited c.args.limit c.args.count c.whole_times-whole.result c.len.result c.len-3.result c.len-4.result c.args.self c.args.body c.as_slice.result.now c.in_ok-made.made c.in_ok-rest.rest
    c.len.ensures.value c.len-3.ensures c.len-4.ensures c.as_slice.ensures c.requires.within full c.whole_times-whole.ensures c.in_ok-made.ensures c.in_ok-rest.ensures in
    let long : length (take c.args.limit (c.args.self ++ times c.args.count c.args.body)) ≡ length (c.in_ok-made.made ++ c.in_ok-rest.rest) = ap length all in
    omega (arith, long, length-append c.in_ok-made.made c.in_ok-rest.rest, length-take c.args.limit (c.args.self ++ times c.args.count c.args.body), c.requires.limit)

pub returns : goal.returns
returns g c =
    let full : c.args.limit - c.len.result < c.args.count * c.len-3.result = search rules in
    let all = limited c.args.limit c.args.count c.whole_times-whole.result c.len.result c.len-3.result c.len-4.result c.args.self c.args.body c.as_slice.result.now c.in_ok-made.made c.in_ok-rest.rest
    c.len.ensures.value c.len-3.ensures c.len-4.ensures c.as_slice.ensures c.requires.within full c.whole_times-whole.ensures c.in_ok-made.ensures c.in_ok-rest.ensures in
    subst (λ (xs : List _). IfOk c.with-3.result (λ made. made ≡ xs)) (ap (λ (xs : List _). c.in_ok-made.made ++ xs) (times_once c.in_ok-rest.rest) ∙ sym all) c.with-3.ensures
