use Rattle.std.proofs.Common.{◌-◌, rules, slice_get, sym, ap, subst, ◌∙◌}
use Rattle.std.proofs.lemmas.Bool.{false≢true}
use Rattle.tree_rules.specs.KeptAnswers.{AreDistinct}
use Rattle.layout_cache.proofs.Distinct.{absent_back, absent_none, found_at}
use Rattle.layout_cache.proofs.Sames.{not_absent}
use Rattle.layout_cache.proofs.kept.Kept.find_from_newest.Goals as goal

pub returns-then-same_query-clause-value : goal.returns-then-same_query-clause-value
returns-then-same_query-clause-value g c =
    found_at (record { ask = c.args.ask; reps = c.args.reps.now; inline = c.args.inline.now; block = c.args.block.now }) c.args.self.now (c.loop-left.left - 1) c.in-Some.field-0.now
    (subst AreDistinct c.self.view_is c.self.invariant.3) (c.in-Some.ensures ∙ ap (λ xs. slice_get xs (c.loop-left.left - 1)) c.self.view_is) (sym c.same_query.ensures ∙ c.if-same_query.true)

pub returns-then-same_query-clause-absent : goal.returns-then-same_query-clause-absent
returns-then-same_query-clause-absent g c = (
  λ e. absurd (false≢true e),
  λ h. absurd (not_absent (record { ask = c.args.ask; reps = c.args.reps.now; inline = c.args.inline.now; block = c.args.block.now }) c.args.self.now c.in-Some.field-0.now.1
      (found_at (record { ask = c.args.ask; reps = c.args.reps.now; inline = c.args.inline.now; block = c.args.block.now }) c.args.self.now (c.loop-left.left - 1) c.in-Some.field-0.now
      (subst AreDistinct c.self.view_is c.self.invariant.3) (c.in-Some.ensures ∙ ap (λ xs. slice_get xs (c.loop-left.left - 1)) c.self.view_is) (sym c.same_query.ensures ∙ c.if-same_query.true)) h),
)

pub loop-left-preserved-else-same_query : goal.loop-left-preserved-else-same_query
loop-left-preserved-else-same_query g c =
    absent_back (record { ask = c.args.ask; reps = c.args.reps.now; inline = c.args.inline.now; block = c.args.block.now }) c.args.self.now c.loop-left.left c.in-Some.field-0.now (search rules)
    (c.in-Some.ensures ∙ ap (λ xs. slice_get xs (c.loop-left.left - 1)) c.self.view_is) (sym c.same_query.ensures ∙ c.if-same_query.false) c.loop-left.invariant

pub loop-left-preserved : goal.loop-left-preserved
loop-left-preserved g c =
    absent_none (record { ask = c.args.ask; reps = c.args.reps.now; inline = c.args.inline.now; block = c.args.block.now }) c.args.self.now (c.loop-left.left - 1)
    (c.in_default.ensures ∙ ap (λ xs. slice_get xs (c.loop-left.left - 1)) c.self.view_is)
