-- The front of a list from a place on, and what comes after it.
use Rattle.std.proofs.Common.{◌≡◌, ℕ, ◌+◌, ◌-◌, ◌<◌, List, [], ◌∷◌, ◌++◌, Some, min, length, take, drop, sym, ap, ◌∙◌, refl, arith}
use Rattle.std.specs.Prelude.{slice_range}
use Rattle.std.proofs.Math.Seq.{take-append_seam}
use Rattle.std.proofs.lemmas.List.{take_rest, take-append-drop, drop-drop, length-drop}
use Rattle.std.proofs.lemmas.List.Folds.{drop_split}
use Rattle.outside.specs.Reading.{IsZeroAtEnd}

-- a slice from a place on gives its front, and the rest is the slice from there on
pub front_on : {A : Type 0} (at n : ℕ) (xs : List A) → drop at xs ≡ take n (take (length xs - at) (drop at xs)) ++ drop (at + n) xs
front_on at n xs = rw (take_rest xs at) (sym (take-append-drop n (drop at xs)) ∙ ap (λ l. take n (drop at xs) ++ l) (drop-drop n at xs))

-- what is copied to the front of a room, and what is left
pub copied_front : (xs room copy : List ℕ) (at n : ℕ) → copy ≡ slice_range xs at (at + n) → length copy ≡ n → drop at xs ≡ take n (copy ++ drop n room) ++ drop (at + n) xs
copied_front xs room copy at n is long =
    let front : take n (copy ++ drop n room) ≡ copy = rw (← long) (take-append_seam copy _) in
    rw (front, is) (drop_split xs at (at + n) (omega arith))

empty_of_length : (xs : List ℕ) → length xs ≡ 0 → xs ≡ []
empty_of_length [] h = refl
empty_of_length (x ∷ xs) h = absurd (omega (arith, h))

-- nothing is given exactly where nothing is left
pub zero_at_end : (xs : List ℕ) (at n most room : ℕ) → n ≡ min most (min room (length xs - at)) → 0 < most → 0 < room → IsZeroAtEnd (Some (drop at xs)) n
zero_at_end xs at n most room is some_most some_room =
    let left : length (drop at xs) ≡ length xs - at = length-drop at xs in
    (λ zero. empty_of_length (drop at xs) (omega arith), λ spent. let none : length (drop at xs) ≡ 0 = ap length spent in omega arith)
