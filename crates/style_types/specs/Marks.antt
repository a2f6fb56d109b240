-- Marks by the places of the properties in their table: where in the list of entries each stands.
use Rattle.std.specs.Prelude.{◌≡◌, ℕ, zero, suc, ◌+◌, ◌<◌, ◌≤◌, List, length, slice_index_or}
use Rattle.std.specs.List.{sum_by}

-- one for a mark that is set
abbrev pub one_if_set : ℕ → ℕ
one_if_set zero = 0
one_if_set (suc n) = 1

-- A mark for each property of the table: 0 where the property is not in the list, else one more than the index of its
-- entry. The list is given by the places of its properties; no two of them are the same, and there are at most as many
-- as marks that are set.
pub record IsMarked (marks places : List ℕ) : Type 0 where
  pub room : length marks ≡ 45
  pub held : (i : ℕ) → i < length places → slice_index_or marks (slice_index_or places i 0) 0 ≡ i + 1
  pub shown : (k i : ℕ) → slice_index_or marks k 0 ≡ i + 1 → (i < length places) × (slice_index_or places i 0 ≡ k)
  pub few : length places ≤ sum_by one_if_set marks
