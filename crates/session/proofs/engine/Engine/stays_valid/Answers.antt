use Rattle.std.proofs.Common.{subst}
use Rattle.doc_text.specs.Valid.{IsValid}
use Rattle.session.specs.Standing.{Standing, doc_of}
use Rattle.session.proofs.engine.Engine.stays_valid.Goals as goal

pub returns : goal.returns
returns c = subst (λ (s : Standing). IsValid (doc_of s)) c.self.view_is c.self.invariant.0.sound.valid
