use Rattle.std.proofs.Common.{◌≡◌, ◌+◌, ◌-◌, pos, length}
use Rattle.part_rules.specs.Tracks.{spans_fitted}
use Rattle.track_sizing.specs.Ordered.{IsLeft}
use Rattle.track_sizing.specs.Placed.{AreIn, AreSet}
use Rattle.track_sizing.proofs.content.fit_spans.Given as goal

abbrev pub invariant-loop-turn : goal.invariant-loop-turn
invariant-loop-turn g l =
    record {
      same : spans_fitted l.space l.gap l.items (length l.fn.rows - l._turn) l.span l.rows ≡ spans_fitted l.space l.gap l.items (length l.fn.rows) 2 l.fn.rows;
      span : l.span ≡ l._turn + 2;
      set : AreSet l.first l.rows;
      left : IsLeft (pos l.span) l.items l.left;
      in_left : AreIn l.first (length l.fn.rows) l.left;
    }
