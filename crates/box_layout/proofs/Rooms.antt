-- What is left of a length, and what margins and alignments make of it, within limits.
use Rattle.std.proofs.Common.{arith, ◌≡◌, refl, ℤ, pos, negsuc, ◌^◌, ◌≤◌, ◌-ℤ◌, ◌≤ℤ◌, int_lt, Bool, true, false, ◌&&◌, if◌then◌else◌}
use Rattle.std.specs.Prelude.{unsigned_abs}
use Rattle.std.proofs.lemmas.Int.{ints}
use Rattle.lunit.specs.Units.{floor_div}
use Rattle.part_rules.specs.declared.mode.Mode.{Mode}
use Rattle.part_rules.specs.declared.mode.Mode.TheVariants.{Start, End, Center, Stretch, Between, Around, Evenly}
use Rattle.part_rules.specs.Alignment.{auto_taken, margins_of, self_moved}
use Rattle.part_rules.proofs.Floor.{floor_div_low, floor_div_high}
use Rattle.placing.specs.Ranges.{IsGridAxis}
use Rattle.tree_rules.specs.Labels.{GridAxis}
use Rattle.tree_rules.specs.NodeSizes.{inner_start}
use Rattle.box_layout.specs.Ranges.{IsEdges, IsNearTo, IsRest, IsRoom, IsWithin}

-- ---- magnitudes

pub room_near : (z : ℤ) → IsRoom z → unsigned_abs z ≤ 2 ^ 56
room_near (pos n) h = omega (arith, ints, h.1)
room_near (negsuc n) h = omega (arith, ints, h.0)

pub rest_near : (z : ℤ) → IsRest z → unsigned_abs z ≤ 2 ^ 56
rest_near (pos n) h = omega (arith, ints, h.1)
rest_near (negsuc n) h = omega (arith, ints, h.0)

-- ---- `auto` margins

none_room : IsRoom (pos 0)
none_room = (omega (arith, ints), omega (arith, ints))

half_room : (z : ℤ) → pos 0 ≤ℤ z → IsRoom z → IsRoom (floor_div z 2)
half_room z some h =
    let low = floor_div_low z 2 (omega arith) in
    let high = floor_div_high z 2 (omega arith) in
    (omega (arith, ints, low, high, h.0, h.1, some), omega (arith, ints, low, high, h.0, h.1, some))

other_room : (z : ℤ) → pos 0 ≤ℤ z → IsRoom z → IsRoom (z -ℤ floor_div z 2)
other_room z some h =
    let low = floor_div_low z 2 (omega arith) in
    let high = floor_div_high z 2 (omega arith) in
    (omega (arith, ints, low, high, h.0, h.1, some), omega (arith, ints, low, high, h.0, h.1, some))

some_rooms : (z : ℤ) (before after : Bool) → pos 0 ≤ℤ z → IsRoom z → IsRoom (margins_of z before after).0 × IsRoom (margins_of z before after).1
some_rooms z false false some h = (none_room, none_room)
some_rooms z true false some h = (h, none_room)
some_rooms z false true some h = (none_room, h)
some_rooms z true true some h = (half_room z some h, other_room z some h)

rooms : (z : ℤ) (before after : Bool) → IsRoom z → IsRoom (auto_taken z before after).0 × IsRoom (auto_taken z before after).1
rooms z before after h = by (int_lt (pos 0) z) refl
  where
    by : (t : Bool) → int_lt (pos 0) z ≡ t → IsRoom (if t then margins_of z before after else (pos 0, pos 0)).0 × IsRoom (if t then margins_of z before after else (pos 0, pos 0)).1
    by true e = some_rooms z before after (omega (arith, ints)) h
    by false e = (none_room, none_room)

pub before_room : (z : ℤ) (before after : Bool) → IsRoom z → IsRoom (auto_taken z before after).0
before_room z before after h = (rooms z before after h).0

pub after_room : (z : ℤ) (before after : Bool) → IsRoom z → IsRoom (auto_taken z before after).1
after_room z before after h = (rooms z before after h).1

pub ruleset room_laws = (room_near, before_room, after_room)

-- ---- self values

none_rest : IsRest (pos 0)
none_rest = (omega (arith, ints), omega (arith, ints))

half_rest : (z : ℤ) → IsRest z → IsRest (floor_div z 2)
half_rest z h =
    let low = floor_div_low z 2 (omega arith) in
    let high = floor_div_high z 2 (omega arith) in
    (omega (arith, ints, low, high, h.0, h.1), omega (arith, ints, low, high, h.0, h.1))

pub chosen_rest : (b : Bool) (x : ℤ) → IsRest x → IsRest (if b then pos 0 else x)
chosen_rest true x h = none_rest
chosen_rest false x h = h

pub moved_rest : (mode : Mode) (safe : Bool) (z : ℤ) → IsRest z → IsRest (self_moved mode safe z)
moved_rest Start safe z h = chosen_rest (safe && int_lt z (pos 0)) (pos 0) none_rest
moved_rest End safe z h = chosen_rest (safe && int_lt z (pos 0)) z h
moved_rest Center safe z h = chosen_rest (safe && int_lt z (pos 0)) (floor_div z 2) (half_rest z h)
moved_rest Stretch safe z h = chosen_rest (safe && int_lt z (pos 0)) (pos 0) none_rest
moved_rest Between safe z h = none_rest
moved_rest Around safe z h = none_rest
moved_rest Evenly safe z h = none_rest

pub ruleset rest_laws = (rest_near, moved_rest)

-- ---- borders and paddings

pub edges_start : (g : GridAxis) → IsGridAxis g → IsEdges (inner_start g)
edges_start g h =
    let a = h.border_start in
    let b = h.padding_start in
    (omega (arith, ints, a.low, b.low), omega (arith, ints, a.high, b.high))

-- ---- in the viewport

pub from_zero : (z : ℤ) → IsNearTo (pos 0) z → IsWithin (2 ^ 36) z
from_zero z h = (omega (arith, ints, h.low), omega (arith, ints, h.high))
