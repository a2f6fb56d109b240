use Rattle.std.proofs.Common.{◌≡◌, drop}
use Rattle.command_words.specs.Options.{texts, has_dashes}
use Rattle.command_words.proofs.options.has_dashes.Given as goal

abbrev pub invariant-loop-word : goal.invariant-loop-word
invariant-loop-word l = has_dashes (texts (drop l.word-index l.words)) ≡ has_dashes (texts l.words)
