use Rattle.std.proofs.Common.{None, cond, sym, ap, ◌∙◌, arith}
use Rattle.std.specs.BTreeMap.{get}
use Rattle.std.specs.Cmp.Lexicographic.{slice_cmp}
use Rattle.std.specs.Ordering.{nat_cmp}
use Rattle.node_arena.specs.Numbers.{below_at}
use Rattle.layout_cache.proofs.Reaches.{from_end, past_none}
use Rattle.doc_text.specs.Growth.{holds}
use Rattle.page_tree.specs.Documents.{plain_trees}
use Rattle.page_tree.proofs.Removals.{next_names}
use Rattle.page_tree.proofs.children.+take_names.Goals as goal

pub loop-index-preserved-in_default : goal.loop-index-preserved-in_default
loop-index-preserved-in_default t c name =
    ap (λ u. cond (holds (plain_trees u) name) None (get (slice_cmp nat_cmp) c.loop-index.numbers name)) (past_none _ c.loop-index.index c.in_default.ensures.none ∙ sym c.in_default.ensures.none)
    ∙ c.loop-index.invariant name

pub loop-index-preserved : goal.loop-index-preserved
loop-index-preserved t c name =
    next_names c.args.tree.now.tree c.args.id c.loop-index.index c.in-Some.child name _ _ _ c.in-Some.ensures.some (c.take_name.ensures c.in-Some.ensures.some.value c.in-Some.ensures.some.there name) (c.take_names.ensures name)
    ∙ c.loop-index.invariant name

pub returns : goal.returns
returns t c name =
    sym (ap (λ u. cond (holds (plain_trees u) name) None (get (slice_cmp nat_cmp) c.loop-index.numbers name)) (from_end (below_at c.args.tree.now.tree c.args.id) c.loop-index.index (omega (arith, c.count-index-end.ensures))))
    ∙ c.loop-index.invariant name
