-- The greatest word, from first to last.
use Rattle.std.proofs.Common.{arith, ap, ◌≡◌, sym, ◌∙◌, ℕ, ◌≤◌, ℤ, pos, ◌≤ℤ◌, List, [], ◌∷◌, drop, length}
use Rattle.std.specs.Int.{int_max, int_min}
use Rattle.std.proofs.lemmas.Int.{ints, int_max_is, int_min_is}
use Rattle.std.proofs.lemmas.List.{drop_all}
use Rattle.lunit.specs.Units.{bottom, clamp, top, IsUnits}
use Rattle.part_rules.specs.WordLines.{greatest}

some-greatest : (ws : List ℤ) → pos 0 ≤ℤ greatest ws
some-greatest [] = omega (arith, ints)
some-greatest (w ∷ ws) = omega (arith, ints, int_max_is w (greatest ws), some-greatest ws)

pub zero-first : (ws : List ℤ) → int_max (pos 0) (greatest ws) ≡ greatest ws
zero-first ws = omega (arith, ints, int_max_is (pos 0) (greatest ws), some-greatest ws)

zero-last : (g : ℤ) → pos 0 ≤ℤ g → int_max g (pos 0) ≡ g
zero-last g h = omega (arith, ints, int_max_is g (pos 0))

pub max-next : (g w m : ℤ) → int_max (int_max g w) m ≡ int_max g (int_max w m)
max-next g w m = omega (arith, ints, int_max_is g w, int_max_is (int_max g w) m, int_max_is w m, int_max_is g (int_max w m))

-- a length is within the limits
clamp-length : (z : ℤ) → IsUnits z → clamp z ≡ z
unfolding clamp
clamp-length z h = omega (arith, ints, int_min_is top z, int_max_is bottom (int_min top z))

-- after all words the greatest so far is the greatest of all
pub all_seen : (g : ℤ) (ws : List ℤ) (i : ℕ) → int_max g (greatest (drop i ws)) ≡ greatest ws → length ws ≤ i → pos 0 ≤ℤ g → g ≤ℤ top → g ≡ clamp (greatest ws)
all_seen g ws i e h some high =
    let same : g ≡ greatest ws = sym (zero-last g some) ∙ ap (λ l. int_max g (greatest l)) (sym (drop_all i ws h)) ∙ e in
    sym (clamp-length g (omega (arith, ints), high)) ∙ ap clamp same

pub ruleset max_laws = (zero-first, max-next)
