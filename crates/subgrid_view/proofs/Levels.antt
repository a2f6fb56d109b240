-- From level to level.
use Rattle.std.proofs.Common.{arith, ap, ◌≡◌, ◌∙◌, sym, ℕ, ◌+◌, ◌<◌, ◌≤◌, ℤ, pos, ◌+ℤ◌, ◌-ℤ◌, List, [], ◌∷◌, drop, get_or, length, if◌then◌else◌}
use Rattle.std.specs.Ordering.{int_eq}
use Rattle.std.specs.Int.{int_min}
use Rattle.std.proofs.lemmas.Int.{ints, int_max_is, int_min_is}
use Rattle.std.proofs.lemmas.List.{drop_more, drop_all}
use Rattle.lunit.specs.Units.{IsUnits, clamp, bottom, top}
use Rattle.part_rules.specs.declared.view.Level.{Level}
use Rattle.part_rules.specs.Views.{extra_before, extra_after, half_after, half_before, gap_difference}

clamp_is_units : (z : ℤ) → IsUnits (clamp z)
unfolding clamp
clamp_is_units z = (omega (arith, ints, int_max_is bottom (int_min top z), int_min_is top z), omega (arith, ints, int_max_is bottom (int_min top z), int_min_is top z))

zero_is_units : IsUnits (pos 0)
zero_is_units = (omega (arith, ints), omega (arith, ints))

abbrev own_before : Level → ℤ → ℤ
own_before l line = if int_eq line (pos 0) then l.before else half_after (gap_difference l)

abbrev own_after : Level → ℤ → ℤ
own_after l line = if int_eq line (l.span.end -ℤ l.span.start) then l.after else half_before (gap_difference l)

-- an extra margin is a length
pub before_is_units : (levels : List Level) (line : ℤ) → IsUnits (extra_before levels line)
before_is_units [] line = zero_is_units
before_is_units (l ∷ outer) line = clamp_is_units (own_before l line +ℤ extra_before outer (l.span.start +ℤ line))

pub after_is_units : (levels : List Level) (line : ℤ) → IsUnits (extra_after levels line)
after_is_units [] line = zero_is_units
after_is_units (l ∷ outer) line = clamp_is_units (own_after l line +ℤ extra_after outer (l.span.start +ℤ line))

-- what the next level gives, with those above it
pub before_next : (levels : List Level) (i : ℕ) (l : Level) (line next margin : ℤ) → i < length levels → l ≡ get_or levels i l → margin ≡ own_before l line → next ≡ line +ℤ l.span.start
    → clamp (margin +ℤ extra_before (drop (i + 1) levels) next) ≡ extra_before (drop i levels) line
before_next levels i l line next margin h is m n =
    ap (λ (z : ℤ). clamp (z +ℤ extra_before (drop (i + 1) levels) next)) m
    ∙ ap (λ (z : ℤ). clamp (own_before l line +ℤ extra_before (drop (i + 1) levels) z)) (let e : next ≡ l.span.start +ℤ line = omega (arith, ints, n) in e)
    ∙ ap (λ (x : Level). extra_before (x ∷ drop (i + 1) levels) line) is
    ∙ sym (ap (λ (ls : List Level). extra_before ls line) (drop_more levels i l h))

pub after_next : (levels : List Level) (i : ℕ) (l : Level) (line next margin : ℤ) → i < length levels → l ≡ get_or levels i l → margin ≡ own_after l line → next ≡ line +ℤ l.span.start
    → clamp (margin +ℤ extra_after (drop (i + 1) levels) next) ≡ extra_after (drop i levels) line
after_next levels i l line next margin h is m n =
    ap (λ (z : ℤ). clamp (z +ℤ extra_after (drop (i + 1) levels) next)) m
    ∙ ap (λ (z : ℤ). clamp (own_after l line +ℤ extra_after (drop (i + 1) levels) z)) (let e : next ≡ l.span.start +ℤ line = omega (arith, ints, n) in e)
    ∙ ap (λ (x : Level). extra_after (x ∷ drop (i + 1) levels) line) is
    ∙ sym (ap (λ (ls : List Level). extra_after ls line) (drop_more levels i l h))

-- above the last level nothing is given
pub before_none : (levels : List Level) (i : ℕ) (line : ℤ) → length levels ≤ i → pos 0 ≡ extra_before (drop i levels) line
before_none levels i line h = sym (ap (λ (ls : List Level). extra_before ls line) (drop_all i levels h))

pub after_none : (levels : List Level) (i : ℕ) (line : ℤ) → length levels ≤ i → pos 0 ≡ extra_after (drop i levels) line
after_none levels i line h = sym (ap (λ (ls : List Level). extra_after ls line) (drop_all i levels h))
