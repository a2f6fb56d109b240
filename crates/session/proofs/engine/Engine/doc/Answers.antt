use Rattle.session.proofs.Sound.{valid_copy}
use Rattle.session.proofs.engine.Engine.doc.Goals as goal

pub returns-clause-valid : goal.returns-clause-valid
returns-clause-valid c = valid_copy c.document.result c.self.inside.page c.self.invariant.0.sound.valid c.document.ensures
