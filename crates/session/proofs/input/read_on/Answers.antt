use Rattle.session.proofs.Pieces.{asks_stop, piece_stops}
use Rattle.session.proofs.input.read_on.Goals as goal

pub returns-in-Err-clause-on : goal.returns-in-Err-clause-on
returns-in-Err-clause-on g c =
    λ before given p. piece_stops before (g.S.Source.left c.args.source.now) (g.S.Source.left c.take_piece.new.source) given c.args.reader.now.lines c.take_piece.new.lines c.in-Err.status p c.requires.none c.in-Err.ensures.piece

-- ---- how often the source was asked

pub returns-in-Err-clause-asks : goal.returns-in-Err-clause-asks
returns-in-Err-clause-asks g c =
    λ before first p. asks_stop before (g.S.Source.left c.args.source.now) (g.S.Source.left c.take_piece.new.source) first (g.S.Source.asked c.args.source.now) (g.S.Source.asked c.take_piece.new.source) c.args.reader.now.count c.args.reader.now.lines c.take_piece.new.lines p
    c.take_piece.ensures.asked c.in-Err.status c.in-Err.ensures.piece
