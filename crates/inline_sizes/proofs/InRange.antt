-- Margins, borders and paddings of a node whose values are in range.
use Rattle.std.proofs.Common.{arith, ◌≡◌, ℤ, pos, ◌+ℤ◌, ◌≤ℤ◌, Option, Some, None}
use Rattle.std.proofs.lemmas.Int.{ints}
use Rattle.lunit.specs.Units.{IsUnits}
use Rattle.placing.specs.Ranges.{IsGridAxis, IsMargin, IsOffset}
use Rattle.tree_rules.specs.Labels.{GridAxis}
use Rattle.tree_rules.specs.NodeSizes.{inner, inner_end, inner_start, margin, margins, outer_end, outer_start}

margin_near : (m : Option ℤ) → IsMargin m → IsOffset (margin m)
margin_near None h = record { low = omega (arith, ints); high = omega (arith, ints) }
margin_near (Some x) h = h

pub margins_units : (g : GridAxis) → IsGridAxis g → IsUnits (margins g)
margins_units g h =
    let a : IsOffset (margin g.margin_start) = margin_near g.margin_start h.margin_start in
    let b : IsOffset (margin g.margin_end) = margin_near g.margin_end h.margin_end in
    (omega (arith, ints, a.low, a.high, b.low, b.high), omega (arith, ints, a.low, a.high, b.low, b.high))

pub inner_start_units : (g : GridAxis) → IsGridAxis g → IsUnits (inner_start g)
inner_start_units g h =
    let a = h.border_start in
    let b = h.padding_start in
    (omega (arith, ints, a.low, a.high, b.low, b.high), omega (arith, ints, a.low, a.high, b.low, b.high))

pub inner_end_units : (g : GridAxis) → IsGridAxis g → IsUnits (inner_end g)
inner_end_units g h =
    let a = h.border_end in
    let b = h.padding_end in
    (omega (arith, ints, a.low, a.high, b.low, b.high), omega (arith, ints, a.low, a.high, b.low, b.high))

pub inner_units : (g : GridAxis) → IsGridAxis g → IsUnits (inner g)
inner_units g h =
    let a = h.border_start in
    let b = h.padding_start in
    let c = h.border_end in
    let d = h.padding_end in
    (omega (arith, ints, a.low, a.high, b.low, b.high, c.low, c.high, d.low, d.high), omega (arith, ints, a.low, a.high, b.low, b.high, c.low, c.high, d.low, d.high))

pub inner_from : (g : GridAxis) (start end : ℤ) → IsGridAxis g → start ≡ inner_start g → end ≡ inner_end g → IsUnits (start +ℤ end)
inner_from g start end h e f =
    let whole : IsUnits (inner g) = inner_units g h in
    (omega (arith, ints, e, f, whole.0), omega (arith, ints, e, f, whole.1))

pub inner_some : (g : GridAxis) → IsGridAxis g → pos 0 ≤ℤ inner g
inner_some g h = omega (arith, ints, h.border_start.low, h.padding_start.low, h.border_end.low, h.padding_end.low)

pub outer_start_units : (g : GridAxis) → IsGridAxis g → IsUnits (outer_start g)
outer_start_units g h =
    let a = h.border_start in
    let b = h.padding_start in
    let m : IsOffset (margin g.margin_start) = margin_near g.margin_start h.margin_start in
    (omega (arith, ints, a.low, a.high, b.low, b.high, m.low, m.high), omega (arith, ints, a.low, a.high, b.low, b.high, m.low, m.high))

pub outer_end_units : (g : GridAxis) → IsGridAxis g → IsUnits (outer_end g)
outer_end_units g h =
    let a = h.border_end in
    let b = h.padding_end in
    let m : IsOffset (margin g.margin_end) = margin_near g.margin_end h.margin_end in
    (omega (arith, ints, a.low, a.high, b.low, b.high, m.low, m.high), omega (arith, ints, a.low, a.high, b.low, b.high, m.low, m.high))

pub ruleset side_laws = (margins_units, inner_start_units, inner_end_units, inner_units, inner_some, outer_start_units, outer_end_units)
