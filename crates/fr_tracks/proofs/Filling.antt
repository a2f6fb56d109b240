-- Why the tracks fill the space: exactly those take part that stay flexible, and their parts are the whole leftover.
use Rattle.std.proofs.Common.{arith, ap, subst, ◌≡◌, ◌∙◌, sym, refl, true≢false, ℕ, zero, suc, ◌+◌, ◌<◌, ◌≤◌, ℤ, pos, negsuc, ◌+ℤ◌, ◌-ℤ◌, ◌*ℤ◌, ◌≤ℤ◌, ◌<ℤ◌, Bool, true, false, ◌&&◌, ◌||◌, List, [], ◌∷◌, map, length, Option, Some, None, if◌then◌else◌, int_le, int_lt}
use Rattle.std.specs.Prelude.{is_some, unwrap_or}
use Rattle.std.proofs.Math.Nat.{mul-le-mul_left}
use Rattle.std.specs.List.{list_any}
use Rattle.std.proofs.lemmas.Int.{ints, clamps}
use Rattle.lunit.specs.Units.{clamp, top}
use Rattle.part_rules.specs.declared.fraction.FrRow.{FrRow}
use Rattle.part_rules.specs.declared.fraction.Fraction.{Fraction}
use Rattle.part_rules.specs.Lists.{sum_of, total_of, zipped}
use Rattle.part_rules.specs.Sharing.{part, apportioned_after}
use Rattle.part_rules.proofs.Floor.{floor_div_low, floor_div_high, floor_div-none, floor_div-times, cancel}
use Rattle.part_rules.proofs.Fractions.{none_short}
use Rattle.part_rules.specs.Fractions.{is_flexible, factor_of, held, leftover, weight_of, falls_short, settled, inflexible, left_flexible, fraction_of, found, no_fraction, takes, weight_in, with_part, expanded}
use Rattle.fr_tracks.specs.Settled.{HaveBases, IsSpace}
use Rattle.fr_tracks.proofs.Settled.{IsStart, IsWithin, short_later, held_some, next_start, end_start, start_first, starts_over, leftover_some, weight_some}

-- ---- the tracks that are left flexible

-- the fraction of which the others fall short
record IsLeft (space : ℤ) (rows : List FrRow) : Type 0 where
  l : ℤ
  w : ℕ
  same : left_flexible (length rows) space rows ≡ map (settled l w) rows
  some : pos 0 ≤ℤ l
  within : IsWithin (leftover space (map (settled l w) rows)) (weight_of (map (settled l w) rows)) l w

left_from : (more : ℕ) (space : ℤ) (rows : List FrRow) (l : ℤ) (w : ℕ) → IsSpace space → HaveBases rows → IsStart space rows l w more → IsLeft space rows
left_from zero space rows l w fits bases start = record { l = l; w = w; same = starts_over space rows l w 0 start refl; some = start.some; within = start.within }
left_from (suc more) space rows l w fits bases start = go (list_any (falls_short (leftover space (map (settled l w) rows)) (weight_of (map (settled l w) rows))) (map (settled l w) rows)) refl (λ s v next. left_from more space rows s v fits bases next)
  where
    go : (t : Bool) → list_any (falls_short (leftover space (map (settled l w) rows)) (weight_of (map (settled l w) rows))) (map (settled l w) rows) ≡ t → ((s : ℤ) (v : ℕ) → IsStart space rows s v more → IsLeft space rows) → IsLeft space rows
    go true e again = again (leftover space (map (settled l w) rows)) (weight_of (map (settled l w) rows)) (next_start space rows l w more fits bases start e)
    go false e again = record { l = l; w = w; same = end_start space rows l w (suc more) start e; some = start.some; within = start.within }

-- ---- which tracks take part

at_most_test : (x y : ℤ) → x ≤ℤ y → int_le x y ≡ true
at_most_test x y h = go (int_le x y) refl
  where
    go : (t : Bool) → int_le x y ≡ t → t ≡ true
    go true e = refl
    go false e = absurd (omega (arith, ints))

above_test : (x y : ℤ) → y <ℤ x → int_le x y ≡ false
above_test x y h = go (int_le x y) refl
  where
    go : (t : Bool) → int_le x y ≡ t → t ≡ false
    go true e = absurd (omega (arith, ints))
    go false e = refl

-- A track takes part exactly where it stays flexible.
one_takes : (f : Fraction) (l : ℤ) (w : ℕ) (r : FrRow) → 0 < f.weight → pos 0 ≤ℤ l → pos 0 ≤ℤ f.space → pos 0 ≤ℤ r.base → IsWithin f.space f.weight l w → falls_short f.space f.weight (settled l w r) ≡ false → takes f r ≡ is_flexible (settled l w r)
one_takes f l w r some p q b h none = go (is_flexible r) (int_lt (l *ℤ pos (factor_of r)) (r.base *ℤ pos w)) refl refl none
  where
    go : (x t : Bool) → is_flexible r ≡ x → int_lt (l *ℤ pos (factor_of r)) (r.base *ℤ pos w) ≡ t → falls_short f.space f.weight (if x && t then inflexible r else r) ≡ false
        → takes f r ≡ is_flexible (if x && t then inflexible r else r)
    go true true e d n =
        let short : int_lt (f.space *ℤ pos (factor_of r)) (r.base *ℤ pos f.weight) ≡ true = short_later l w f.space f.weight r.base (factor_of r) some p q b h d in
        ap (λ (y : Bool). y && int_le (r.base *ℤ pos f.weight) (f.space *ℤ pos (factor_of r))) e ∙ above_test (r.base *ℤ pos f.weight) (f.space *ℤ pos (factor_of r)) (omega (arith, ints))
    go true false e d n =
        let enough : int_lt (f.space *ℤ pos (factor_of r)) (r.base *ℤ pos f.weight) ≡ false = sym (ap (λ (y : Bool). y && int_lt (f.space *ℤ pos (factor_of r)) (r.base *ℤ pos f.weight)) e) ∙ n in
        ap (λ (y : Bool). y && int_le (r.base *ℤ pos f.weight) (f.space *ℤ pos (factor_of r))) e ∙ at_most_test (r.base *ℤ pos f.weight) (f.space *ℤ pos (factor_of r)) (omega (arith, ints)) ∙ sym e
    go false t e d n = ap (λ (y : Bool). y && int_le (r.base *ℤ pos f.weight) (f.space *ℤ pos (factor_of r))) e ∙ sym e

neither : (a b : Bool) → (a || b) ≡ false → (a ≡ false) × (b ≡ false)
neither true b e = absurd (true≢false e)
neither false b e = (refl, e)

settled_base : (l : ℤ) (w : ℕ) (r : FrRow) → (settled l w r).base ≡ r.base
settled_base l w r = go (falls_short l w r)
  where
    go : (t : Bool) → (if t then inflexible r else r).base ≡ r.base
    go true = refl
    go false = refl

other_factor : (r : FrRow) → is_flexible r ≡ false → factor_of r ≡ 0
other_factor r e = go r.factor e
  where
    go : (o : Option ℕ) → is_some o ≡ false → unwrap_or o 0 ≡ 0
    go None e = refl
    go (Some n) e = absurd (true≢false e)

flexible_factor : (l : ℤ) (w : ℕ) (r : FrRow) → is_flexible (settled l w r) ≡ true → factor_of (settled l w r) ≡ factor_of r
flexible_factor l w r e = go (falls_short l w r) e
  where
    go : (t : Bool) → is_flexible (if t then inflexible r else r) ≡ true → factor_of (if t then inflexible r else r) ≡ factor_of r
    go true e = absurd (true≢false (sym e))
    go false e = refl

-- ---- parts up to the whole

part_most : (space : ℤ) (whole n : ℕ) → 0 < whole → pos 0 ≤ℤ space → n ≤ whole → part space whole n ≤ℤ space
part_most (negsuc a) whole n some p h = absurd (omega (arith, ints))
part_most (pos a) whole n some p h = cancel (part (pos a) whole n) (pos a) whole (omega (arith, ints, floor_div_low (pos a *ℤ pos n) whole some, mul-le-mul_left a h))

part_rises : (space : ℤ) (whole m n : ℕ) → 0 < whole → pos 0 ≤ℤ space → m ≤ n → part space whole m ≤ℤ part space whole n
part_rises (negsuc a) whole m n some p h = absurd (omega (arith, ints))
part_rises (pos a) whole m n some p h = cancel (part (pos a) whole m) (part (pos a) whole n) whole (omega (arith, ints, floor_div_low (pos a *ℤ pos m) whole some, floor_div_high (pos a *ℤ pos n) whole some, mul-le-mul_left a h))

part_least : (space : ℤ) (whole n : ℕ) → 0 < whole → pos 0 ≤ℤ space → pos 0 ≤ℤ part space whole n
part_least space whole n some p = omega (arith, ints, part_rises space whole 0 n some p (omega arith), floor_div-none space whole some)

part_kept : (space : ℤ) (whole m n : ℕ) → 0 < whole → pos 0 ≤ℤ space → space ≤ℤ top → m ≤ n → n ≤ whole → clamp (part space whole n -ℤ part space whole m) ≡ part space whole n -ℤ part space whole m
unfolding clamp
part_kept space whole m n some p most h g = omega (arith, ints, clamps, part_rises space whole m n some p h, part_most space whole n some p g, part_least space whole m some p)

-- ---- the sums

abbrev bases : List FrRow → List ℤ
bases rows = map (λ (r : FrRow). r.base) rows

parts_fill : (f : Fraction) (l : ℤ) (w before : ℕ) (rows : List FrRow) → 0 < f.weight → pos 0 ≤ℤ l → pos 0 ≤ℤ f.space → f.space ≤ℤ top → HaveBases rows → IsWithin f.space f.weight l w
    → list_any (falls_short f.space f.weight) (map (settled l w) rows) ≡ false → (before + total_of (map factor_of (map (settled l w) rows))) ≤ f.weight
    → sum_of (bases (zipped (with_part f) rows (apportioned_after before f.space f.weight (map (weight_in f) rows)))) +ℤ part f.space f.weight before
    ≡ sum_of (map held (map (settled l w) rows)) +ℤ part f.space f.weight (before + total_of (map factor_of (map (settled l w) rows)))
parts_fill f l w before [] some p q most b h none fits = ap (λ (n : ℕ). pos 0 +ℤ part f.space f.weight n) (let e : before ≡ before + 0 = omega arith in e)
parts_fill f l w before (r ∷ rest) some p q most b h none fits =
    let ns = neither (falls_short f.space f.weight (settled l w r)) (list_any (falls_short f.space f.weight) (map (settled l w) rest)) none in
    go (is_flexible (settled l w r)) refl (one_takes f l w r some p q b.0 h ns.0) (λ n g. parts_fill f l w n rest some p q most b.1 h ns.1 g)
  where
    go : (t : Bool) → is_flexible (settled l w r) ≡ t → takes f r ≡ is_flexible (settled l w r)
        → ((n : ℕ) → (n + total_of (map factor_of (map (settled l w) rest))) ≤ f.weight
        → sum_of (bases (zipped (with_part f) rest (apportioned_after n f.space f.weight (map (weight_in f) rest)))) +ℤ part f.space f.weight n
        ≡ sum_of (map held (map (settled l w) rest)) +ℤ part f.space f.weight (n + total_of (map factor_of (map (settled l w) rest))))
        → sum_of (bases (zipped (with_part f) (r ∷ rest) (apportioned_after before f.space f.weight (map (weight_in f) (r ∷ rest))))) +ℤ part f.space f.weight before
        ≡ sum_of (map held (map (settled l w) (r ∷ rest))) +ℤ part f.space f.weight (before + total_of (map factor_of (map (settled l w) (r ∷ rest))))
    go true e t again =
        let total : ℕ = total_of (map factor_of (map (settled l w) rest)) in
        let taken : takes f r ≡ true = t ∙ e in
        let weight : weight_in f r ≡ factor_of (settled l w r) = ap (λ (y : Bool). if y then factor_of r else 0) taken ∙ sym (flexible_factor l w r e) in
        let x : ℤ = part f.space f.weight (before + weight_in f r) -ℤ part f.space f.weight before in
        let base : (with_part f r x).base ≡ clamp x = ap (λ (y : Bool). (if y then record r { base = clamp x } else r).base) taken in
        let kept : clamp x ≡ x = part_kept f.space f.weight before (before + weight_in f r) some q most (omega arith) (omega arith) in
        let nothing : held (settled l w r) ≡ pos 0 = ap (λ (y : Bool). if y then pos 0 else (settled l w r).base) e in
        let whole : part f.space f.weight (before + weight_in f r + total) ≡ part f.space f.weight (before + (factor_of (settled l w r) + total)) = ap (part f.space f.weight) (let n : before + weight_in f r + total ≡ before + (factor_of (settled l w r) + total) = omega arith in n) in
        omega (arith, ints, again (before + weight_in f r) (omega arith), base, kept, nothing, whole)
    go false e t again =
        let total : ℕ = total_of (map factor_of (map (settled l w) rest)) in
        let passed : takes f r ≡ false = t ∙ e in
        let weight : weight_in f r ≡ 0 = ap (λ (y : Bool). if y then factor_of r else 0) passed in
        let none : factor_of (settled l w r) ≡ 0 = other_factor (settled l w r) e in
        let x : ℤ = part f.space f.weight (before + weight_in f r) -ℤ part f.space f.weight before in
        let base : (with_part f r x).base ≡ r.base = ap (λ (y : Bool). (if y then record r { base = clamp x } else r).base) passed in
        let own : held (settled l w r) ≡ r.base = ap (λ (y : Bool). if y then pos 0 else (settled l w r).base) e ∙ settled_base l w r in
        let same : part f.space f.weight (before + weight_in f r) ≡ part f.space f.weight before = ap (part f.space f.weight) (let n : before + weight_in f r ≡ before = omega arith in n) in
        let whole : part f.space f.weight (before + weight_in f r + total) ≡ part f.space f.weight (before + (factor_of (settled l w r) + total)) = ap (part f.space f.weight) (let n : before + weight_in f r + total ≡ before + (factor_of (settled l w r) + total) = omega arith in n) in
        omega (arith, ints, again (before + weight_in f r) (omega arith), base, own, same, whole)

-- the base sizes that are held are some of all base sizes
held_most : (l : ℤ) (w : ℕ) (rows : List FrRow) → HaveBases rows → sum_of (map held (map (settled l w) rows)) ≤ℤ sum_of (bases rows)
held_most l w [] b = omega (arith, ints)
held_most l w (r ∷ rest) b = go (is_flexible (settled l w r)) refl (held_most l w rest b.1)
  where
    go : (t : Bool) → is_flexible (settled l w r) ≡ t → sum_of (map held (map (settled l w) rest)) ≤ℤ sum_of (bases rest)
        → (held (settled l w r) +ℤ sum_of (map held (map (settled l w) rest))) ≤ℤ (r.base +ℤ sum_of (bases rest))
    go true e h = omega (arith, ints, ap (λ (y : Bool). if y then pos 0 else (settled l w r).base) e, b.0)
    go false e h = omega (arith, ints, ap (λ (y : Bool). if y then pos 0 else (settled l w r).base) e ∙ settled_base l w r)

no_factors : (rows : List FrRow) → list_any is_flexible rows ≡ false → total_of (map factor_of rows) ≡ 0
no_factors [] e = refl
no_factors (r ∷ rest) e =
    let es = neither (is_flexible r) (list_any is_flexible rest) e in
    omega (arith, other_factor r es.0, no_factors rest es.1)

some_flexible : (rows : List FrRow) → 1000 ≤ total_of (map factor_of rows) → list_any is_flexible rows ≡ true
some_flexible rows h = go (list_any is_flexible rows) refl
  where
    go : (t : Bool) → list_any is_flexible rows ≡ t → t ≡ true
    go true e = refl
    go false e = absurd (omega (arith, no_factors rows e))

leftover_kept : (space : ℤ) (rows : List FrRow) → HaveBases rows → sum_of (map held rows) <ℤ space → space ≤ℤ top → (leftover space rows ≡ space -ℤ sum_of (map held rows)) × (leftover space rows ≤ℤ top)
unfolding clamp
leftover_kept space rows b h most = (omega (arith, ints, clamps, held_some rows b), omega (arith, ints, clamps))

left_bases : (l : ℤ) (w : ℕ) (rows : List FrRow) → HaveBases rows → HaveBases (map (settled l w) rows)
left_bases l w [] b = tt
left_bases l w (r ∷ rest) b = (omega (arith, ints, settled_base l w r, b.0), left_bases l w rest b.1)

fills_left : (space : ℤ) (rows left : List FrRow) (l : ℤ) (w : ℕ) → left ≡ map (settled l w) rows → pos 0 ≤ℤ l → IsWithin (leftover space (map (settled l w) rows)) (weight_of (map (settled l w) rows)) l w
    → HaveBases rows → sum_of (bases rows) <ℤ space → space ≤ℤ top → 1000 ≤ total_of (map factor_of (map (settled l w) rows))
    → list_any (falls_short (leftover space (map (settled l w) rows)) (weight_of (map (settled l w) rows))) (map (settled l w) rows) ≡ false
    → sum_of (bases (expanded (fraction_of space left) rows)) ≡ space
fills_left space rows left l w e some within b room most factors none =
    let kept : List FrRow = map (settled l w) rows in
    let f : Fraction = record { space = leftover space kept; weight = weight_of kept } in
    let held_less : sum_of (map held kept) <ℤ space = omega (arith, ints, held_most l w rows b) in
    let rest = leftover_kept space kept (left_bases l w rows b) held_less most in
    let all : weight_of kept ≡ total_of (map factor_of kept) = omega arith in
    let is : fraction_of space left ≡ f = ap (fraction_of space) e ∙ ap (λ (t : Bool). if t then f else no_fraction) (some_flexible kept factors) in
    let whole : part f.space f.weight (0 + total_of (map factor_of kept)) ≡ f.space = ap (part f.space f.weight) (let n : 0 + total_of (map factor_of kept) ≡ weight_of kept = omega arith in n) ∙ floor_div-times f.space f.weight (weight_some kept) in
    let nothing : part f.space f.weight 0 ≡ pos 0 = floor_div-none f.space f.weight (weight_some kept) in
    let sums = parts_fill f l w 0 rows (weight_some kept) some (leftover_some space kept) rest.1 b within none (omega arith) in
    ap (λ (g : Fraction). sum_of (bases (expanded g rows))) is ∙ (let sum : sum_of (bases (expanded f rows)) ≡ space = omega (arith, ints, sums, whole, nothing, rest.0) in sum)

bases_some : (rows : List FrRow) → HaveBases rows → pos 0 ≤ℤ sum_of (bases rows)
bases_some [] b = omega (arith, ints)
bases_some (r ∷ rest) b = omega (arith, ints, b.0, bases_some rest b.1)

-- The base sizes and the gutters fill the space.
pub fills : (rows : List FrRow) (gutters space : ℤ) → space ≤ℤ top → pos 0 ≤ℤ gutters → HaveBases rows → (sum_of (map (λ (r : FrRow). r.base) rows) +ℤ gutters) <ℤ space
    → 1000 ≤ total_of (map factor_of (left_flexible (length rows) (space -ℤ gutters) rows))
    → (sum_of (map (λ (r : FrRow). r.base) (expanded (found rows gutters space) rows)) +ℤ gutters) ≡ space
fills rows gutters space most some b room factors =
    let less : ℤ = space -ℤ gutters in
    let fits : IsSpace less = (omega (arith, ints, bases_some rows b), omega (arith, ints)) in
    let left : IsLeft less rows = left_from (length rows) less rows (pos 0) 0 fits b (start_first less rows) in
    let sum = fills_left less rows (left_flexible (length rows) less rows) left.l left.w left.same left.some left.within b (omega (arith, ints)) (omega (arith, ints))
    (subst (λ (xs : List FrRow). 1000 ≤ total_of (map factor_of xs)) left.same factors)
    (subst (λ (xs : List FrRow). list_any (falls_short (leftover less xs) (weight_of xs)) xs ≡ false) left.same (none_short rows gutters space)) in
    omega (arith, ints, sum)
