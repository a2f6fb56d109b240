-- What lies within a limit is not cut.
use Rattle.std.proofs.Common.{◌≡◌, refl, arith, ℤ, pos, ◌+ℤ◌, ◌-ℤ◌, ◌≤ℤ◌, ◌<ℤ◌, int_le, Bool, true, false, if◌then◌else◌}
use Rattle.std.specs.Int.{int_max, int_min}
use Rattle.std.proofs.lemmas.Int.{ints, clamps}
use Rattle.lunit.specs.declared.geometry.Area.{Area}
use Rattle.lunit.specs.declared.geometry.Span.{Span}
use Rattle.part_rules.specs.LineNames.{cut_span}
use Rattle.placing.specs.Insides.{IsUncut, IsWithin}

span_uncut : (low high : ℤ) (s : Span) → low ≤ℤ s.start → s.start <ℤ s.end → s.end ≤ℤ high → s ≡ cut_span low high s
span_uncut low high s first some last = go (int_le s.end low) (int_le high s.start) refl refl first some last
  where
    go : (b c : Bool) → int_le s.end low ≡ b → int_le high s.start ≡ c → low ≤ℤ s.start → s.start <ℤ s.end → s.end ≤ℤ high
        → s ≡ (if b then record { start = low; end = low +ℤ pos 1 } else if c then record { start = high -ℤ pos 1; end = high } else record { start = int_max low s.start; end = int_min high s.end })
    go true c p q x y z = absurd (omega (arith, ints))
    go false true p q x y z = absurd (omega (arith, ints))
    go false false p q x y z =
        let from : s.start ≡ int_max low s.start = omega (arith, ints, clamps) in
        let to : s.end ≡ int_min high s.end = omega (arith, ints, clamps) in
        λ i. record { start = from i; end = to i }

pub uncut : (limits a : Area) → IsWithin limits.columns.start limits.columns.end a.columns → IsWithin limits.rows.start limits.rows.end a.rows → IsUncut limits a
uncut limits a c r =
    let columns = span_uncut limits.columns.start limits.columns.end a.columns c.low c.some c.high in
    let rows = span_uncut limits.rows.start limits.rows.end a.rows r.low r.some r.high in
    record { same = λ i. record { columns = columns i; rows = rows i } }
