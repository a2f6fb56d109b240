-- Tracks, their sizes and their edges.
use Rattle.std.proofs.Common.{arith, ap, ◌≡◌, ◌∙◌, sym, refl, ℕ, suc, ◌+◌, ◌-◌, ◌<◌, ◌≤◌, ℤ, pos, ◌+ℤ◌, ◌≤ℤ◌, true, false, List, [], ◌∷◌, drop, get_or, length, Option, Some, unwrap_or}
use Rattle.std.specs.Int.{int_max}
use Rattle.std.specs.List.{slice_get}
use Rattle.std.proofs.lemmas.Int.{ints, int_max_is}
use Rattle.std.proofs.lemmas.List.{drop_all, drop_more}
use Rattle.lunit.specs.Units.{IsUnits, clamp}
use Rattle.part_rules.specs.declared.track.Rule.{Rule}
use Rattle.part_rules.specs.Lists.{greatest_with, sum_of}
use Rattle.part_rules.specs.Views.{last_end}
use Rattle.tree_rules.specs.Distribution.{open_tracks}
use Rattle.inline_sizes.proofs.Limits.{clamp_units}

-- the end of the last track
pub last_is : (tracks : List (ℤ × ℤ)) (track : ℤ × ℤ) → slice_get tracks (length tracks - 1) ≡ Some track → track.1 ≡ last_end tracks
last_is [] track h = absurd cc
last_is (e ∷ []) track h = ap (λ (o : Option (ℤ × ℤ)). (unwrap_or o e).1) (sym h)
last_is (e ∷ f ∷ rest) track h =
    let place : suc (length (f ∷ rest) - 1) ≡ length (e ∷ f ∷ rest) - 1 = omega arith in
    last_is (f ∷ rest) track (ap (slice_get (e ∷ f ∷ rest)) place ∙ h)

-- ---- sums

pub sum_next : (sizes : List ℤ) (i : ℕ) (d : ℤ) → i < length sizes → sum_of (drop i sizes) ≡ get_or sizes i d +ℤ sum_of (drop (i + 1) sizes)
sum_next sizes i d h = ap sum_of (drop_more sizes i d h)

-- the sum so far is the whole sum at the end
pub all_summed : (sizes : List ℤ) (i : ℕ) (sum : ℤ) → length sizes ≤ i → sum +ℤ sum_of (drop i sizes) ≡ sum_of sizes → sum ≡ sum_of sizes
all_summed sizes i sum h e = let none : sum_of (drop i sizes) ≡ pos 0 = ap sum_of (drop_all i sizes h) in omega (arith, ints, e, none)

-- ---- the greatest

some-greatest : (ws : List ℤ) → pos 0 ≤ℤ greatest_with (pos 0) ws
some-greatest [] = omega (arith, ints)
some-greatest (w ∷ ws) = omega (arith, ints, int_max_is w (greatest_with (pos 0) ws), some-greatest ws)

pub zero-first : (ws : List ℤ) → int_max (pos 0) (greatest_with (pos 0) ws) ≡ greatest_with (pos 0) ws
zero-first ws = omega (arith, ints, int_max_is (pos 0) (greatest_with (pos 0) ws), some-greatest ws)

zero-last : (g : ℤ) → pos 0 ≤ℤ g → int_max g (pos 0) ≡ g
zero-last g h = omega (arith, ints, int_max_is g (pos 0))

pub max-next : (g w m : ℤ) → int_max (int_max g w) m ≡ int_max g (int_max w m)
max-next g w m = omega (arith, ints, int_max_is g w, int_max_is (int_max g w) m, int_max_is w m, int_max_is g (int_max w m))

pub some_next : (g w : ℤ) → pos 0 ≤ℤ g → pos 0 ≤ℤ int_max g w
some_next g w h = omega (arith, ints, h, int_max_is g w)

pub length_next : (g w : ℤ) → IsUnits g → IsUnits w → IsUnits (int_max g w)
length_next g w h k = (omega (arith, ints, h.0, h.1, k.0, k.1, int_max_is g w), omega (arith, ints, h.0, h.1, k.0, k.1, int_max_is g w))

-- after all sizes the greatest so far is the greatest of all, and a length
pub all_passed : (g : ℤ) (ws : List ℤ) (i : ℕ) → int_max g (greatest_with (pos 0) (drop i ws)) ≡ greatest_with (pos 0) ws → length ws ≤ i → pos 0 ≤ℤ g → IsUnits g → g ≡ clamp (greatest_with (pos 0) ws)
all_passed g ws i e h some u = sym (clamp_units g u) ∙ ap clamp (sym (zero-last g some) ∙ ap (λ l. int_max g (greatest_with (pos 0) l)) (sym (drop_all i ws h)) ∙ e)

pub ruleset greatest_laws = (zero-first, max-next, some_next, length_next)

-- ---- tracks that are not collapsed

open-collapsed : (r : Rule) (rest : List Rule) → r.collapsed ≡ true → open_tracks (r ∷ rest) ≡ open_tracks rest
open-collapsed r rest e = rw e refl

open-counted : (r : Rule) (rest : List Rule) → r.collapsed ≡ false → open_tracks (r ∷ rest) ≡ open_tracks rest + 1
open-counted r rest e = rw e (omega arith)

pub collapsed_next : (rules : List Rule) (i : ℕ) (d : Rule) → i < length rules → (get_or rules i d).collapsed ≡ true → open_tracks (drop i rules) ≡ open_tracks (drop (i + 1) rules)
collapsed_next rules i d h e = ap open_tracks (drop_more rules i d h) ∙ open-collapsed (get_or rules i d) (drop (i + 1) rules) e

pub counted_next : (rules : List Rule) (i : ℕ) (d : Rule) → i < length rules → (get_or rules i d).collapsed ≡ false → open_tracks (drop i rules) ≡ open_tracks (drop (i + 1) rules) + 1
counted_next rules i d h e = ap open_tracks (drop_more rules i d h) ∙ open-counted (get_or rules i d) (drop (i + 1) rules) e

pub all_counted : (rules : List Rule) (i count : ℕ) → length rules ≤ i → count + open_tracks (drop i rules) ≡ open_tracks rules → count ≡ open_tracks rules
all_counted rules i count h e = let none : open_tracks (drop i rules) ≡ 0 = ap open_tracks (drop_all i rules h) in omega (arith, e, none)

pub ruleset counting = (collapsed_next, counted_next, all_counted)
