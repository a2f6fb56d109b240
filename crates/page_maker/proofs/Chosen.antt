-- What is chosen for a node.
use Rattle.std.proofs.Common.{ℕ, ◌+◌, ◌<◌, ◌≤◌, Bool, true, false, if◌then◌else◌, arith}
use Rattle.std.specs.Prelude.{◌==◌}
use Rattle.page_maker.specs.declared.choice.Choice.TheVariants as choice
use Rattle.page_maker.specs.Draws.{stepped, drawn}
use Rattle.page_maker.specs.Choices.{fixed_from, words_from, leaf_from, container, has_children, chosen, IsDrawn}

pub drawn_less : (k x : ℕ) → 0 < k → drawn k x < k
unfolding drawn
drawn_less k x h = omega (arith, h)

fixed_drawn : (x : ℕ) → IsDrawn (fixed_from x).0
unfolding fixed_from
fixed_drawn x =
    let w : drawn 50 (stepped x) < 50 = drawn_less 50 (stepped x) (omega arith) in
    let h : drawn 30 (stepped (stepped x)) < 30 = drawn_less 30 (stepped (stepped x)) (omega arith) in
    (omega (arith, w), omega (arith, h))

word_drawn : (x : ℕ) → 5 + drawn 40 x ≤ 50
word_drawn x = omega (arith, drawn_less 40 x (omega arith))

words_drawn : (x : ℕ) → IsDrawn (words_from x).0
unfolding words_from
words_drawn x = (word_drawn _, (word_drawn _, (word_drawn _, (word_drawn _, word_drawn _))))

leaf_drawn : (x : ℕ) → IsDrawn (leaf_from x).0
unfolding leaf_from
leaf_drawn x = by_kind (drawn 2 (stepped x) == 0)
  where
    by_kind : (b : Bool) → IsDrawn (if b then fixed_from (stepped x) else words_from (stepped x)).0
    by_kind true = fixed_drawn (stepped x)
    by_kind false = words_drawn (stepped x)

container_drawn : (n : ℕ) → IsDrawn (container n)
container_drawn n = by_number (n == 0) (n == 1)
  where
    by_number : (a b : Bool) → IsDrawn (if a then choice.Lent else if b then choice.Wrapping else choice.Columns)
    by_number true b = tt
    by_number false true = tt
    by_number false false = tt

pub chosen_drawn : (nodes i x : ℕ) → IsDrawn (chosen nodes i x).0
unfolding chosen
chosen_drawn nodes i x = by_place (i == 0) (has_children nodes i)
  where
    by_place : (a b : Bool) → IsDrawn (if a then (choice.Root, x) else if b then (container (drawn 3 (stepped x)), stepped x) else leaf_from x).0
    by_place true b = tt
    by_place false true = container_drawn (drawn 3 (stepped x))
    by_place false false = leaf_drawn x
