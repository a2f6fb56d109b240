use Rattle.std.proofs.Common.{refl, sym, ap, ◌∙◌}
use Rattle.std.proofs.lemmas.Bool.{false≢true}
use Rattle.layout_cache.specs.Kept.{answer_to}
use Rattle.layout_cache.proofs.Sames.{absent_from, found_there}
use Rattle.layout_cache.proofs.kept.Kept.find_from_oldest.Goals as goal

pub returns-then-same_query-clause-absent : goal.returns-then-same_query-clause-absent
returns-then-same_query-clause-absent g c = (
  λ e. absurd (false≢true e),
  λ h. absurd
      (found_there (record { ask = c.args.ask; reps = c.args.reps.now; inline = c.args.inline.now; block = c.args.block.now }) c.args.self.now c.loop-asked.asked-iterator c.in-Some.field-0.now _ c.loop-asked.invariant.2 c.in-Some.ensures.steps
      (sym c.same_query.ensures ∙ c.if-same_query.true) h),
)

pub returns-clause-absent : goal.returns-clause-absent
returns-clause-absent g c = (
  λ e. absent_from (record { ask = c.args.ask; reps = c.args.reps.now; inline = c.args.inline.now; block = c.args.block.now }) c.args.self.now
      (sym (ap (answer_to (record { ask = c.args.ask; reps = c.args.reps.now; inline = c.args.inline.now; block = c.args.block.now })) c.in-None.ensures.steps.0) ∙ c.loop-asked.invariant.2),
  λ h. refl,
)
