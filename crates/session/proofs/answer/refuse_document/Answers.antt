use Rattle.std.proofs.Common.{subst, ℕ, List}
use Rattle.outside.specs.Told.{Adds}
use Rattle.session.proofs.Serving.{document_refused, not_refused}
use Rattle.session.proofs.answer.refuse_document.Goals as goal

pub returns-in-Ok-write-clause-refused : goal.returns-in-Ok-write-clause-refused
returns-in-Ok-write-clause-refused g c =
    λ stats events. document_refused stats (g.K.Sink.written c.args.sink.now) (g.K.Sink.written c.write.new.sink) c.args.fault c.in-Ok.text.items events c.in-Ok.ensures
    (subst (λ (x : List ℕ). Adds (g.K.Sink.written c.args.sink.now) (g.K.Sink.written c.write.new.sink) x) c.deref.ensures.value c.in-Ok-write.ensures.ok)

pub returns-clause-refused : goal.returns-clause-refused
returns-clause-refused g c = λ stats events. not_refused stats (g.K.Sink.written c.args.sink.now) events c.args.fault
