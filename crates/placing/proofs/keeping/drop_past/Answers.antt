use Rattle.std.proofs.Common.{drop, ◌+◌, slice_index_or, sym, ap, ◌∙◌}
use Rattle.std.specs.Option.{option_copied_mut}
use Rattle.layout_cache.specs.Reach.{all_forgot}
use Rattle.layout_cache.proofs.Forgets.{emptied}
use Rattle.node_arena.specs.Plain.{with_value}
use Rattle.placing.specs.Keeping.{without_past_of}
use Rattle.placing.proofs.keeping.drop_past.Goals as goal

pub loop-id-preserved : goal.loop-id-preserved
loop-id-preserved c =
    ap (λ v. all_forgot (without_past_of c.args.all) (drop (c.loop-id.id-index + 1) c.args.ids.now) (with_value (slice_index_or c.args.ids.now c.loop-id.id-index (record { slot = 0; turn = 0 })) v c.loop-id.tree)) c.forget_past.ensures
    ∙ sym (emptied (without_past_of c.args.all) c.args.ids.now c.loop-id.id-index (record { slot = 0; turn = 0 }) c.in-Some.node.now c.loop-id.tree c.loop-id-test.true (ap option_copied_mut (sym c.in-Some.is) ∙ c.get_mut.ensures.value) c.get_mut.ensures.numbered)
    ∙ c.loop-id.invariant
