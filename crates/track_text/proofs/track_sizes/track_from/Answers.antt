use Rattle.std.proofs.Common.{rules, Some, None, ap, ◌∙◌, sym}
use Rattle.track_text.specs.declared.side.Track.{Track}
use Rattle.track_text.proofs.Fronts.{at_minmax, at_fit, at_breadth}
use Rattle.track_text.proofs.track_sizes.track_from.Goals as goal

pub returns-then-eq : goal.returns-then-eq
returns-then-eq c = c.minmax_after.ensures ∙ sym (at_minmax c.args.relative c.args.word.now c.args.words (search rules))

pub returns-then-eq-2 : goal.returns-then-eq-2
returns-then-eq-2 c = c.fit_after.ensures ∙ sym (at_fit c.args.relative c.args.word.now c.args.words (search rules) (search rules))

pub returns-in_err-breadth : goal.returns-in_err-breadth
returns-in_err-breadth c = c.from_residual.ensures ∙ sym (at_breadth c.args.relative c.args.word.now c.args.words None (search rules) (search rules) (search rules))

pub returns : goal.returns
returns c = ap (λ (track : Track). Some (track, c.args.words)) c.track_alone.ensures ∙ sym (at_breadth c.args.relative c.args.word.now c.args.words (Some c.in_ok-breadth.breadth) (search rules) (search rules) (search rules))
