use Rattle.std.proofs.Common.{sym, ◌∙◌, Some, None}
use Rattle.std.specs.Prelude.{option_map}
use Rattle.clap.specs.Words.{app_of}
use Rattle.command_words.specs.Options.{texts}
use Rattle.command_words.proofs.Asked.{make_simple, make_read}
use Rattle.command_words.proofs.make.read_make.Goals as goal

pub matches_by-requires : goal.matches_by-requires
matches_by-requires c = record { free = make_simple (app_of c.in-Ok.command) c.in-Ok.ensures }

pub returns-in-Some-clause-taken : goal.returns-in-Some-clause-taken
returns-in-Some-clause-taken c =
    make_read (app_of c.in-Ok.command) (texts c.args.words.now) c.in-Ok-matches_by.matches (option_map (λ s. s.now) c.get_str.result)
    (option_map (λ s. s.now) c.get_str-in-Ok-matches_by.result) (Some c.in-Some.command) c.in-Ok.ensures
    (sym c.has_dashes.ensures ∙ c.if-has_dashes.false) c.in-Ok-matches_by.ensures.read c.get_str.ensures c.get_str-in-Ok-matches_by.ensures c.in-Some.ensures

pub returns-in-Ok-matches_by-clause-bad : goal.returns-in-Ok-matches_by-clause-bad
returns-in-Ok-matches_by-clause-bad c =
    λ _. make_read (app_of c.in-Ok.command) (texts c.args.words.now) c.in-Ok-matches_by.matches (option_map (λ s. s.now) c.get_str.result)
    (option_map (λ s. s.now) c.get_str-in-Ok-matches_by.result) None c.in-Ok.ensures
    (sym c.has_dashes.ensures ∙ c.if-has_dashes.false) c.in-Ok-matches_by.ensures.read c.get_str.ensures c.get_str-in-Ok-matches_by.ensures c.in-None.ensures
