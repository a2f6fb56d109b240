-- Limits one after the other.
use Rattle.std.proofs.Common.{arith, ◌≡◌, ap, ◌∙◌, ℤ, pos, ◌+ℤ◌, ◌-ℤ◌, ◌≤ℤ◌}
use Rattle.std.specs.Int.{int_max, int_min}
use Rattle.std.proofs.lemmas.Int.{ints, int_max_is, int_min_is}
use Rattle.lunit.specs.Units.{IsUnits, bottom, top, clamp}
use Rattle.subgrid_view.specs.Sums.{given, IsOrdered, IsWithLevel}
use Rattle.subgrid_view.specs.declared.margins.Limited.{Limited}

abbrev lim : ℤ → ℤ → ℤ → ℤ
lim a b z = int_max a (int_min b z)

-- Two limits one after the other are one pair of limits.
nested : (l m a b y : ℤ) → l ≤ℤ m → a ≤ℤ b → lim (lim l m a) (lim l m b) y ≡ lim l m (lim a b y)
nested l m a b y h k =
    omega
    (arith, ints, int_max_is l (int_min m a), int_min_is m a, int_max_is l (int_min m b), int_min_is m b, int_max_is (lim l m a) (int_min (lim l m b) y), int_min_is (lim l m b) y, int_max_is a (int_min b y), int_min_is b y, int_max_is l (int_min m (lim a b y)), int_min_is m (lim a b y))

moved : (s z : ℤ) → lim (s -ℤ top) (s +ℤ top) (s +ℤ z) ≡ s +ℤ lim bottom top z
moved s z = omega (arith, ints, int_max_is (s -ℤ top) (int_min (s +ℤ top) (s +ℤ z)), int_min_is (s +ℤ top) (s +ℤ z), int_max_is bottom (int_min top z), int_min_is top z)

-- The limits with one level more are still in order.
pub limits_in_order : (s : Limited) (sum least most : ℤ) → least ≡ lim s.least s.most (s.sum -ℤ top) → most ≡ lim s.least s.most (s.sum +ℤ top) → IsOrdered s → IsOrdered (record { sum = sum; least = least; most = most })
limits_in_order s sum least most e f h =
    let a : ℤ = s.sum -ℤ top in
    let b : ℤ = s.sum +ℤ top in
    let ordered : lim s.least s.most a ≤ℤ lim s.least s.most b = omega (arith, ints, int_max_is s.least (int_min s.most a), int_min_is s.most a, int_max_is s.least (int_min s.most b), int_min_is s.most b) in
    record {
      least = (omega (arith, ints, e, h.least, h.most, h.order, int_max_is s.least (int_min s.most a), int_min_is s.most a), omega (arith, ints, e, h.least, h.most, h.order, int_max_is s.least (int_min s.most a), int_min_is s.most a));
      most = (omega (arith, ints, f, h.least, h.most, h.order, int_max_is s.least (int_min s.most b), int_min_is s.most b), omega (arith, ints, f, h.least, h.most, h.order, int_max_is s.least (int_min s.most b), int_min_is s.most b));
      order = omega (arith, ints, e, f, ordered);
    }

-- What the levels above give with one level more is limited as it is level by level.
pub with_one_more : (s : Limited) (margin sum least most : ℤ) → sum ≡ s.sum +ℤ margin → least ≡ lim s.least s.most (s.sum -ℤ top) → most ≡ lim s.least s.most (s.sum +ℤ top) → IsOrdered s → IsWithLevel s margin (record { sum = sum; least = least; most = most })
unfolding clamp
with_one_more s margin sum least most d e f h outer =
    ap (λ (z : ℤ). lim z most (sum +ℤ outer)) e
    ∙ ap (λ (z : ℤ). lim (lim s.least s.most (s.sum -ℤ top)) z (sum +ℤ outer)) f
    ∙ ap (lim (lim s.least s.most (s.sum -ℤ top)) (lim s.least s.most (s.sum +ℤ top))) (let g : sum +ℤ outer ≡ s.sum +ℤ (margin +ℤ outer) = omega (arith, ints, d) in g)
    ∙ nested s.least s.most (s.sum -ℤ top) (s.sum +ℤ top) (s.sum +ℤ (margin +ℤ outer)) h.order (omega (arith, ints))
    ∙ ap (lim s.least s.most) (moved s.sum (margin +ℤ outer))

-- ---- the loop

-- Before the first level the margin of all levels is what they give.
pub none_given : (s : Limited) (margin : ℤ) → s.sum ≡ pos 0 → s.least ≡ bottom → s.most ≡ top → IsUnits margin → given s margin ≡ margin
none_given s margin d e f h = omega (arith, ints, d, e, f, h.0, h.1, int_max_is s.least (int_min s.most (s.sum +ℤ margin)), int_min_is s.most (s.sum +ℤ margin))
