-- The states with which the draws for the nodes begin, one after another.
use Rattle.std.proofs.Common.{◌≡◌, sym, ap, ◌∙◌, refl, ℕ, zero, suc, ◌+◌, ◌-◌, ◌<◌, ◌≤◌, List, [], ◌∷◌, ◌++◌, length, append-nil, append_assoc, arith}
use Rattle.page_maker.specs.Choices.{chosen}
use Rattle.page_maker.specs.Making.{states_from, state_after, states}

next_count : (nodes i : ℕ) → i < nodes → nodes - i ≡ suc (nodes - (i + 1))
next_count nodes i h = omega (arith, h)

-- one node more
pub states_step : (begins : List ℕ) (nodes i x : ℕ) → i < nodes → begins ++ states_from (nodes - i) nodes i x ≡ (begins ++ x ∷ []) ++ states_from (nodes - (i + 1)) nodes (i + 1) (chosen nodes i x).1
states_step begins nodes i x h =
    ap (λ (n : ℕ). begins ++ states_from n nodes i x) (next_count nodes i h) ∙ sym (append_assoc begins (x ∷ []) (states_from (nodes - (i + 1)) nodes (i + 1) (chosen nodes i x).1))

pub state_step : (nodes i x : ℕ) → i < nodes → state_after (nodes - i) nodes i x ≡ state_after (nodes - (i + 1)) nodes (i + 1) (chosen nodes i x).1
state_step nodes i x h = ap (λ (n : ℕ). state_after n nodes i x) (next_count nodes i h)

none_left : (nodes i : ℕ) → nodes ≤ i → nodes - i ≡ 0
none_left nodes i h = omega (arith, h)

-- no node more
pub states_end : (begins : List ℕ) (nodes i x : ℕ) → nodes ≤ i → begins ++ states_from (nodes - i) nodes i x ≡ begins
states_end begins nodes i x h = ap (λ (n : ℕ). begins ++ states_from n nodes i x) (none_left nodes i h) ∙ append-nil begins

pub state_end : (nodes i x : ℕ) → nodes ≤ i → state_after (nodes - i) nodes i x ≡ x
state_end nodes i x h = ap (λ (n : ℕ). state_after n nodes i x) (none_left nodes i h)

all_left : (nodes : ℕ) → nodes - 0 ≡ nodes
all_left nodes = omega arith

pub states_first : (nodes x : ℕ) → states_from (nodes - 0) nodes 0 x ≡ states_from nodes nodes 0 x
states_first nodes x = ap (λ (n : ℕ). states_from n nodes 0 x) (all_left nodes)

pub state_first : (nodes x : ℕ) → state_after (nodes - 0) nodes 0 x ≡ state_after nodes nodes 0 x
state_first nodes x = ap (λ (n : ℕ). state_after n nodes 0 x) (all_left nodes)

-- as many states as nodes
counted : (count nodes i x : ℕ) → length (states_from count nodes i x) ≡ count
counted zero nodes i x = refl
counted (suc count) nodes i x = ap suc (counted count nodes (i + 1) (chosen nodes i x).1)

pub states_counted : (seed nodes : ℕ) → length (states seed nodes) ≡ nodes
unfolding states
states_counted seed nodes = counted nodes nodes 0 seed

pub ruleset state_laws = (states_step, state_step, states_end, state_end, states_first, state_first)
