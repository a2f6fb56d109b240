-- What a journal is once nothing reads any more the change that it gave.
use Rattle.std.specs.Prelude.{◌≡◌, Result, MatchResult, ⊤}
use Rattle.std.specs.Borrow.{follows_so, Bor, MutBor, Fml}
use mathlib.Core.Option.{none}
use Rattle.edit_journal.specs.declared.change.Change.{Change}
use Rattle.edit_journal.specs.contracts.journal.Journal.{the_row}
use Rattle.edit_journal.specs.Journals.{Lists, IsTakenBack, IsMadeAgain}

module _ (journal : MutBor Lists) {E : Type 0} (result : Result (Bor Change) E) where
  -- as it was, or this
  abbrev RestsAs : (Lists → Lists → Type 0) → Fml
  RestsAs moves =
      follows_so the_row the_row journal.ghost_name none (λ _ _. ⊤)
      (λ after. MatchResult result (λ _. moves journal.now after) (λ _. after ≡ journal.now))

  abbrev pub RestsTakenBack : Fml
  RestsTakenBack = RestsAs IsTakenBack

  abbrev pub RestsMadeAgain : Fml
  RestsMadeAgain = RestsAs IsMadeAgain
