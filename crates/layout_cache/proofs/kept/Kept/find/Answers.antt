use Rattle.std.proofs.Common.{subst}
use Rattle.std.specs.Prelude.{◌↔◌, is_none, IsTrue}
use Rattle.tree_rules.specs.KeptAnswers.{IsAbsent}
use Rattle.layout_cache.proofs.kept.Kept.find.Goals as goal

pub returns-clause-absent : goal.returns-clause-absent
returns-clause-absent g c =
    subst (λ reps. IsTrue (is_none c.find_by.result) ↔ IsAbsent (record { ask = c.args.query.now.ask; reps = reps; inline = c.args.query.now.inline; block = c.args.query.now.block }) c.args.self.now) c.as_slice.ensures c.find_by.ensures.absent
