use Rattle.std.proofs.Common.{sym, ◌∙◌}
use Rattle.std.proofs.lemmas.Bool.{false≢true}
use Rattle.clap.specs.Words.{app_of, kind_of}
use Rattle.command_words.specs.Options.{texts}
use Rattle.command_words.proofs.Taken.{reads, refuses}
use Rattle.command_words.proofs.options.matches_by.Goals as goal

pub returns-in-Ok-clause-read : goal.returns-in-Ok-clause-read
returns-in-Ok-clause-read c = reads (app_of c.args.command) (texts c.args.words.now) c.in-Ok.matches c.requires.free c.in-Ok.ensures.matches (c.in-Ok.ensures.kinds c.requires.free)

pub returns-clause-bad : goal.returns-clause-bad
returns-clause-bad c =
    λ _. refuses (app_of c.args.command) (texts c.args.words.now) (kind_of c.in-Err.error)
    (λ k. false≢true (sym c.if-eq.false ∙ (rw (c.kind.ensures ∙ k) at c.eq.ensures)))
    (c.in-Err.ensures.kinds c.requires.free)
