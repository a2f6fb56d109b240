-- Lists that an object may tell or keep to itself: the bytes that a source has left, the bytes that a sink was given, the events
-- that a ruler logged. What is said of such a list holds where it is told. All own rules.
use Rattle.std.specs.Prelude.{◌≡◌, List, [], ◌++◌, Option, Some, None, ⊤}

-- the list is as before
abbrev pub Stays : {A : Type 0} → Option (List A) → Option (List A) → Type 0
Stays None after = ⊤
Stays (Some xs) None = ⊥
Stays (Some xs) (Some ys) = ys ≡ xs

-- the list grew at its end by xs
abbrev pub Adds : {A : Type 0} → Option (List A) → Option (List A) → List A → Type 0
Adds None after xs = ⊤
Adds (Some ys) None xs = ⊥
Adds (Some ys) (Some zs) xs = zs ≡ ys ++ xs

-- the list lost xs at its front
abbrev pub Loses : {A : Type 0} → Option (List A) → Option (List A) → List A → Type 0
Loses None after xs = ⊤
Loses (Some ys) None xs = ⊥
Loses (Some ys) (Some zs) xs = ys ≡ xs ++ zs

-- nothing is left
abbrev pub IsSpent : {A : Type 0} → Option (List A) → Type 0
IsSpent None = ⊤
IsSpent (Some xs) = xs ≡ []

-- the list grew by all of a whole list but the rest of it
pub record AddsAllBut {A : Type 0} (before after : Option (List A)) (rest whole : List A) : Type 0 where
  pub done : List A
  pub added : Adds before after done
  pub parts : done ++ rest ≡ whole

-- the list grew by a prefix of a whole list
pub record AddsPrefix {A : Type 0} (before after : Option (List A)) (whole : List A) : Type 0 where
  pub rest : List A
  pub added : AddsAllBut before after rest whole
