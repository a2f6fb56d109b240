-- Lists of kept answers that are right (own rule).
use Rattle.std.specs.Prelude.{refl, ◌≡◌, ◌≢◌, ℕ, ◌-◌, ◌≤◌, List, [], ◌∷◌, length, drop}
use Rattle.tree_rules.specs.declared.query.Query.{Query}
use Rattle.tree_rules.specs.Places.{Seen}
use Rattle.tree_rules.specs.Queries.{Answer, Fits, answer_of}

-- a node keeps at most so many answers
abbrev pub most_kept : ℕ
most_kept = 16

-- the last so many items
abbrev pub last_of : {A : Type 0} → ℕ → List A → List A
last_of n xs = drop (length xs - n) xs

-- no pair has this question
abbrev pub IsAbsent : {A : Type 0} → Query → List (Query × A) → Type 0
IsAbsent q [] = Unit {0}
IsAbsent q (e ∷ rest) = (e.0 ≢ q) × IsAbsent q rest

-- all questions differ
abbrev pub AreDistinct : {A : Type 0} → List (Query × A) → Type 0
AreDistinct [] = Unit {0}
AreDistinct (e ∷ rest) = IsAbsent e.0 rest × AreDistinct rest

-- a fact of each pair
abbrev pub EachPair : {A : Type 0} → (Query → A → Type 0) → List (Query × A) → Type 0
EachPair P [] = Unit {0}
EachPair P (e ∷ rest) = P e.0 e.1 × EachPair P rest

-- an answer that is kept for a question that fits, and is the defined one; it may be kept in another form, of which `plain` makes the defined
-- one, as frames that name their children
pub record IsRightPair {A : Type 0} (s : Seen) (plain : A → Answer) (q : Query) (a : A) : Type 0 where
  pub fits : Fits s q
  pub answer : plain a ≡ answer_of s q

-- A list of kept answers of a node is right: its questions differ, each fits, each has the defined answer, and they are few.
pub record AreRight {A : Type 0} (s : Seen) (plain : A → Answer) (kept : List (Query × A)) : Type 0 where
  pub distinct : AreDistinct kept
  pub each : EachPair (IsRightPair s plain) kept
  pub few : length kept ≤ most_kept

-- ---- worked rows

-- Of three the last two.
last_two : last_of {A = ℕ} 2 (1 ∷ 2 ∷ 3 ∷ []) ≡ 2 ∷ 3 ∷ []
last_two = refl

all_of_fewer : last_of {A = ℕ} 2 (1 ∷ []) ≡ 1 ∷ []
all_of_fewer = refl
