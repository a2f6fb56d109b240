-- Spans of lines of a subgrid as lines of the grid that sizes its tracks.
use Rattle.std.proofs.Common.{arith, List, [], ◌∷◌}
use Rattle.std.proofs.lemmas.Int.{ints}
use Rattle.lunit.specs.declared.geometry.Span.{Span}
use Rattle.part_rules.specs.declared.view.Level.{Level}
use Rattle.tree_rules.specs.LentItems.{lifted}
use Rattle.inline_sizes.specs.Lifted.{IsCovered, IsInside, IsLifted, IsLine}

-- In a grid that sizes its tracks itself lines are what they are.
pub top_lifted : (s : Span) → IsLine s.start → IsLine s.end → IsLifted [] s
top_lifted s h k = record {
  start = record { low = omega (arith, ints, h.low); high = omega (arith, ints, h.high) };
  end = record { low = omega (arith, ints, k.low); high = omega (arith, ints, k.high) };
}

-- What lies within the lines of a subgrid lies, lifted, within what the subgrid spans,
pub inside_covered : (l : Level) (outer : List Level) (s : Span) → IsInside l s → IsCovered (lifted outer l.span) (lifted (l ∷ outer) s)
inside_covered l outer s h = record {
  start = omega (arith, ints, h.start);
  end = omega (arith, ints, h.end);
}

-- and so it is lifted where that is.
pub inside_lifted : (l : Level) (outer : List Level) (s : Span) → IsLifted outer l.span → IsInside l s → IsLifted (l ∷ outer) s
inside_lifted l outer s e h = record {
  start = record { low = omega (arith, ints, e.start.low, h.start); high = omega (arith, ints, e.end.high, h.order, h.end) };
  end = record { low = omega (arith, ints, e.start.low, h.start, h.order); high = omega (arith, ints, e.end.high, h.end) };
}
