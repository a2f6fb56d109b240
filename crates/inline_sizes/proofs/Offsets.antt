-- From level to level.
use Rattle.std.proofs.Common.{arith, ap, ◌≡◌, ℕ, ◌+◌, ◌<◌, ◌≤◌, ℤ, pos, ◌+ℤ◌, List, drop, get_or, length}
use Rattle.std.proofs.lemmas.Int.{ints}
use Rattle.std.proofs.lemmas.List.{drop_all, drop_more}
use Rattle.part_rules.specs.declared.view.Level.{Level}
use Rattle.tree_rules.specs.LentItems.{offset_of}

-- one level more
pub offset_next : (levels : List Level) (i : ℕ) (d : Level) → i < length levels → offset_of (drop i levels) ≡ (get_or levels i d).span.start +ℤ offset_of (drop (i + 1) levels)
offset_next levels i d h = ap offset_of (drop_more levels i d h)

pub no_more : (levels : List Level) (i : ℕ) (offset : ℤ) → length levels ≤ i → offset +ℤ offset_of (drop i levels) ≡ offset_of levels → offset ≡ offset_of levels
no_more levels i offset h e =
    let none : offset_of (drop i levels) ≡ pos 0 = ap offset_of (drop_all i levels h) in
    omega (arith, ints, e, none)
