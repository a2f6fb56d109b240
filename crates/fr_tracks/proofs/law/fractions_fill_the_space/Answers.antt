use Rattle.std.proofs.Common.{arith}
use Rattle.std.proofs.lemmas.Int.{ints}
use Rattle.fr_tracks.proofs.Filling.{fills}
use Rattle.fr_tracks.proofs.law.fractions_fill_the_space.Goals as goal

pub returns : goal.returns
returns c = fills c.args.rows.now c.args.gutters c.args.space (omega (arith, ints)) c.requires.gutters c.requires.bases c.requires.room c.requires.factors
