-- A journal as contracts see it.
use Rattle.std.specs.Prelude.{◌≡◌, ℕ, ◌-◌, List, [], ◌∷◌, ◌++◌, length, take, drop, reverse, refl}
use Rattle.std.specs.Coded.{Coded, code_by, coded×, coded_ℕ, coded_list}
use Rattle.edit_journal.specs.declared.change.Change.{Change}
use Rattle.edit_journal.specs.declared.change.Step.{Step}
use Rattle.edit_journal.specs.contracts.change.Step as step

-- the steps that were made and those that were taken back, the last one of each at its end, and for how many steps more there
-- is room
pub record Lists : Type 0 where
  pub done : List Step
  pub undone : List Step
  pub spare : ℕ

abbrev pub coded_lists : Coded Lists
coded_lists =
    code_by (List Step × (List Step × ℕ)) (coded× (coded_list step.the_row.coded) (coded× (coded_list step.the_row.coded) coded_ℕ))
    (λ l. (l.done, (l.undone, l.spare))) (λ p. record { done = p.0; undone = p.1.0; spare = p.1.1 }) (λ _. refl)

-- the lists of steps that stand in one list with so much room: so many that were made, then those that were taken back, the last
-- one first
abbrev pub lists_of : List Step → ℕ → ℕ → Lists
lists_of steps made room = record { done = take made steps; undone = reverse (drop made steps); spare = room - length steps }

abbrev pub KeepsLists : Lists → Lists → Type 0
KeepsLists before after = (after.done ≡ before.done) × (after.undone ≡ before.undone)

-- the change takes back the last of these steps
pub record TakesBackLast (change : Change) (steps : List Step) : Type 0 where
  pub front : List Step
  pub step : Step
  pub last : steps ≡ front ++ step ∷ []
  pub told : change ≡ step.back

-- the change makes the last of these steps again
pub record MakesLastAgain (change : Change) (steps : List Step) : Type 0 where
  pub front : List Step
  pub step : Step
  pub last : steps ≡ front ++ step ∷ []
  pub told : change ≡ step.forward

-- the last step that was made is the last that was taken back
pub record IsTakenBack (before after : Lists) : Type 0 where
  pub step : Step
  pub last : before.done ≡ after.done ++ step ∷ []
  pub over : after.undone ≡ before.undone ++ step ∷ []
  pub room : after.spare ≡ before.spare

-- the last step that was taken back is the last that was made
pub record IsMadeAgain (before after : Lists) : Type 0 where
  pub step : Step
  pub last : before.undone ≡ after.undone ++ step ∷ []
  pub over : after.done ≡ before.done ++ step ∷ []
  pub room : after.spare ≡ before.spare
