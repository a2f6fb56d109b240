use Rattle.std.proofs.Common.{◌++◌, ◌+◌, ◌∷◌, sym, ap, ◌∙◌, arith, append-nil}
use Rattle.node_arena.specs.Numbers.{below_at, is_among}
use Rattle.layout_cache.specs.Reach.{reached, from_tree}
use Rattle.layout_cache.proofs.Reaches.{none_reached, past_none, from_end, gone_into, added}
use Rattle.layout_cache.proofs.reaching.+visit.Goals as goal

pub loop-index-preserved-in_default : goal.loop-index-preserved-in_default
loop-index-preserved-in_default g t c =
    ap (λ l. c.loop-index.found.items ++ l)
    (none_reached g.T.Linked.subgrid (λ n. is_among n c.args.marks.now.touched) (λ n. is_among n c.args.marks.now.above) c.args.marks.now.grid _ c.args.felt (past_none _ c.loop-index.index c.in_default.ensures.none)
    ∙ sym (none_reached g.T.Linked.subgrid (λ n. is_among n c.args.marks.now.touched) (λ n. is_among n c.args.marks.now.above) c.args.marks.now.grid _ c.args.felt c.in_default.ensures.none))
    ∙ c.loop-index.invariant

pub loop-index-preserved : goal.loop-index-preserved
loop-index-preserved g t c =
    added g.T.Linked.subgrid (λ n. is_among n c.args.marks.now.touched) (λ n. is_among n c.args.marks.now.above) c.args.marks.now.grid c.loop-index.found.items c.push.new.self.items c.visit.new.found.items
    (reached g.T.Linked.subgrid (λ n. is_among n c.args.marks.now.touched) (λ n. is_among n c.args.marks.now.above) c.args.marks.now.grid c.feels.result (below_at c.args.tree.now.tree c.in-Some.child))
    (reached g.T.Linked.subgrid (λ n. is_among n c.args.marks.now.touched) (λ n. is_among n c.args.marks.now.above) c.args.marks.now.grid c.args.felt (from_tree (c.loop-index.index + 1) (below_at c.args.tree.now.tree c.args.id)))
    _ c.in-Some.child c.in_ok-push.ensures.items c.in_ok-visit.ensures
    (ap (λ l. c.loop-index.found.items ++ l)
    (ap (λ b. c.in-Some.child ∷ reached g.T.Linked.subgrid (λ n. is_among n c.args.marks.now.touched) (λ n. is_among n c.args.marks.now.above) c.args.marks.now.grid b (below_at c.args.tree.now.tree c.in-Some.child)
    ++ reached g.T.Linked.subgrid (λ n. is_among n c.args.marks.now.touched) (λ n. is_among n c.args.marks.now.above) c.args.marks.now.grid c.args.felt (from_tree (c.loop-index.index + 1) (below_at c.args.tree.now.tree c.args.id)))
    c.feels.ensures
    ∙ sym (gone_into g.T.Linked.subgrid (λ n. is_among n c.args.marks.now.touched) (λ n. is_among n c.args.marks.now.above) c.args.marks.now.grid c.args.tree.now.tree c.args.id c.loop-index.index c.args.felt c.in-Some.child c.in-Some.joined c.in-Some.ensures.some
    (sym c.reaches.ensures ∙ c.if-not-reaches.false)))
    ∙ c.loop-index.invariant)

pub returns : goal.returns
returns g t c =
    sym (append-nil c.loop-index.found.items)
    ∙ ap (λ l. c.loop-index.found.items ++ l)
    (sym (none_reached g.T.Linked.subgrid (λ n. is_among n c.args.marks.now.touched) (λ n. is_among n c.args.marks.now.above) c.args.marks.now.grid _ c.args.felt (from_end (below_at c.args.tree.now.tree c.args.id) c.loop-index.index (omega (arith, c.count-index-end.ensures)))))
    ∙ c.loop-index.invariant
