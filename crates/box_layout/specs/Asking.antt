-- The question for the frames of the children of a container.
use Rattle.std.specs.Prelude.{List}
use Rattle.tree_rules.specs.Answers.{Pair}
use Rattle.tree_rules.specs.declared.query.Ask.TheVariants as ask
use Rattle.tree_rules.specs.declared.query.Given.{Given}
use Rattle.tree_rules.specs.declared.query.Query.{Query}

-- of a container that sees these counts above it and is given this along each axis
abbrev pub frames_asked : List Pair → Given → Given → Query
frames_asked reps inline block = record { ask = ask.Frames; reps = reps; inline = inline; block = block }
