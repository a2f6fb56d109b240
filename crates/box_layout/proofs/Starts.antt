-- Where children start over tracks that lie within range.
use Rattle.std.proofs.Common.{arith, ap, ◌≡◌, ◌∙◌, Bool, true, false, if◌then◌else◌, ℕ, zero, suc, ◌+◌, ◌-◌, ◌^◌, ℤ, pos, ◌-ℤ◌, ◌≤ℤ◌, List, [], ◌∷◌, drop, take}
use Rattle.std.proofs.lemmas.Int.{ints}
use Rattle.lunit.specs.declared.geometry.Span.{Span}
use Rattle.part_rules.specs.Lists.{above_zero}
use Rattle.part_rules.specs.Views.{area_size, first_start, tracks_over}
use Rattle.style_types.specs.Styles.{StyleMap}
use Rattle.placing.specs.Spread.{AreBetween, AreSpread}
use Rattle.box_layout.specs.GridFrames.{IsOver, place_over}
use Rattle.box_layout.specs.Places.{place_in_area}
use Rattle.box_layout.specs.Ranges.{IsNearTo, IsPlace, IsWithin}

between_drop : (low high : ℤ) (n : ℕ) (edges : List (ℤ × ℤ)) → AreBetween low high edges → AreBetween low high (drop n edges)
between_drop low high zero edges h = h
between_drop low high (suc n) [] h = tt
between_drop low high (suc n) (e ∷ rest) h = between_drop low high n rest h.1

between_take : (low high : ℤ) (n : ℕ) (edges : List (ℤ × ℤ)) → AreBetween low high edges → AreBetween low high (take n edges)
between_take low high zero edges h = tt
between_take low high (suc n) [] h = tt
between_take low high (suc n) (e ∷ rest) h = (h.0, between_take low high n rest h.1)

first_within : (by : ℕ) (edges : List (ℤ × ℤ)) (low high : ℤ) → low ≤ℤ pos 0 → pos 0 ≤ℤ high → (high -ℤ low) ≤ℤ pos by → AreBetween low high edges → IsWithin by (first_start edges)
first_within by [] low high a b w h = (omega (arith, ints), omega (arith, ints))
first_within by (e ∷ rest) low high a b w h = (omega (arith, ints, a, b, w, h.0.start_low), omega (arith, ints, a, b, w, h.0.start_high))

-- the first track of a span starts within the range
start_within : (by : ℕ) (edges : List (ℤ × ℤ)) (span : Span) → AreSpread by edges → IsWithin by (first_start (tracks_over edges span))
start_within by edges span s =
    first_within by (tracks_over edges span) s.low s.high s.below s.above s.width
    (between_take s.low s.high (above_zero span.end - above_zero span.start) (drop (above_zero span.start) edges) (between_drop s.low s.high (above_zero span.start) edges s.between))

pub place_within : (by : ℕ) (edges : List (ℤ × ℤ)) (span : Span) (start z : ℤ) → AreSpread by edges → start ≡ first_start (tracks_over edges span) → IsNearTo start z → IsWithin (by + 2 ^ 36) z
place_within by edges span start z s e n =
    let w : IsWithin by (first_start (tracks_over edges span)) = start_within by edges span s in
    (omega (arith, ints, e, w.0, w.1, n.low), omega (arith, ints, e, w.0, w.1, n.high))

pub place_near : (edges : List (ℤ × ℤ)) (span : Span) (start z : ℤ) → IsOver edges span → start ≡ first_start (tracks_over edges span) → IsNearTo start z → IsPlace z
place_near edges span start z o e n =
    let w : IsWithin (2 ^ 59) (first_start (tracks_over edges span)) = start_within (2 ^ 59) edges span o.spread in
    (omega (arith, ints, e, w.0, w.1, n.low), omega (arith, ints, e, w.0, w.1, n.high))

-- a child that shares the tracks does not stand by the size of its area
pub place_over_shared : (axis : ℕ) (shares : Bool) (container style : StyleMap) (edges : List (ℤ × ℤ)) (span : Span) (box start room : ℤ) (tracks : List (ℤ × ℤ))
    → tracks ≡ tracks_over edges span → start ≡ first_start tracks → room ≡ (if shares then pos 0 else area_size tracks)
    → place_in_area axis shares container style start room box ≡ place_over axis shares container style edges span box
place_over_shared axis true container style edges span box start room tracks t s r =
    ap (λ z. place_in_area axis true container style z (pos 0) box) (s ∙ ap first_start t)
place_over_shared axis false container style edges span box start room tracks t s r =
    ap (λ z. place_in_area axis false container style z room box) (s ∙ ap first_start t)
    ∙ ap (λ z. place_in_area axis false container style (first_start (tracks_over edges span)) z box) (r ∙ ap area_size t)
