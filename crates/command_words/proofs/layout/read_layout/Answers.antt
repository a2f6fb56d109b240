use Rattle.std.proofs.Common.{sym, ◌∙◌}
use Rattle.std.specs.Prelude.{option_map}
use Rattle.clap.specs.Words.{app_of}
use Rattle.command_words.specs.Options.{texts}
use Rattle.command_words.proofs.Asked.{layout_simple, layout_read}
use Rattle.command_words.proofs.layout.read_layout.Goals as goal

pub matches_by-requires : goal.matches_by-requires
matches_by-requires c = record { free = layout_simple (app_of c.in-Ok.command) c.in-Ok.ensures }

pub returns-in-Ok-matches_by-clause-taken : goal.returns-in-Ok-matches_by-clause-taken
returns-in-Ok-matches_by-clause-taken c =
    layout_read (app_of c.in-Ok.command) (texts c.args.words.now) c.in-Ok-matches_by.matches (option_map (λ s. s.now) c.get_str.result) c.is_given.result c.in-Ok.ensures
    (sym c.has_dashes.ensures ∙ c.if-has_dashes.false) c.in-Ok-matches_by.ensures.read c.get_str.ensures c.is_given.ensures
