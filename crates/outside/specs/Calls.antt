-- Which calls of an object in memory fail. Own rule.
use Rattle.std.specs.Prelude.{ℕ, Bool, ◌==◌, List}
use Rattle.std.specs.List.{list_any}
use Rattle.outside.specs.Faults.{one_more}

-- the number of the next call, from 1, is among those that fail
abbrev pub fails_next : List ℕ → ℕ → Bool
fails_next failing calls = list_any (λ number. number == one_more calls) failing
