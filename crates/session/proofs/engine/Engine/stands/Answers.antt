use Rattle.std.proofs.Common.{◌≡◌, subst, true}
use Rattle.session.specs.Laying.{KeepsPath}
use Rattle.session.specs.Standing.{HaveLed, IsSound, Standing, doc_of}
use Rattle.session.proofs.Sound.{path_laid}
use Rattle.session.proofs.engine.Engine.stands.Goals as goal

pub returns-clause-sound : goal.returns-clause-sound
returns-clause-sound c = subst (λ (s : Standing). IsSound s.page) c.self.view_is c.self.invariant.0.sound

pub returns-clause-led : goal.returns-clause-led
returns-clause-led c = subst (λ (s : Standing). HaveLed s.steps (doc_of s)) c.self.view_is c.self.invariant.0.led

pub returns-clause-path : goal.returns-clause-path
returns-clause-path c =
    subst (λ (s : Standing). s.laid ≡ true → KeepsPath s.page s.page) c.self.view_is (path_laid c.self.inside.page c.self.inside.root c.self.invariant.1.0)
