-- Tracks that lie in a span.
use Rattle.std.proofs.Common.{rules, ◌≡◌, ℤ, ◌≤ℤ◌, ◌<ℤ◌, true, int_le, int_lt}
use Rattle.std.proofs.lemmas.Bool.{and_parts, and_from}
use Rattle.lunit.specs.declared.geometry.Span.{Span}
use Rattle.cell_index.specs.Taken.{within}

lt_from : (a b : ℤ) → int_lt a b ≡ true → a <ℤ b
lt_from a b h = search rules

le_from : (a b : ℤ) → int_le a b ≡ true → a ≤ℤ b
le_from a b h = search rules

to_lt : (a b : ℤ) → a <ℤ b → int_lt a b ≡ true
to_lt a b h = search rules

to_le : (a b : ℤ) → a ≤ℤ b → int_le a b ≡ true
to_le a b h = search rules

pub within_from : (span : Span) (track : ℤ) → within span track ≡ true → (span.start ≤ℤ track) × (track <ℤ span.end)
within_from span track h =
    let parts : (int_le span.start track ≡ true) × (int_lt track span.end ≡ true) = and_parts (int_le span.start track) (int_lt track span.end) h in
    (le_from span.start track parts.0, lt_from track span.end parts.1)

pub to_within : (span : Span) (track : ℤ) → span.start ≤ℤ track → track <ℤ span.end → within span track ≡ true
to_within span track h k = and_from (int_le span.start track) (int_lt track span.end) (to_le span.start track h) (to_lt track span.end k)
