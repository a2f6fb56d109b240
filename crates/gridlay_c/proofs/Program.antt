-- What a run of the program over bytes in memory answers.
use Rattle.std.proofs.Common.{◌≡◌, ℕ, ◌<◌, ◌≤◌, ◌^◌, ◌-◌, List, [], ◌∷◌, false, Some, codes, inl, refl, subst, arith}
use Rattle.std.specs.Prelude.{IfSome}
use Rattle.clap.proofs.OnLiterals.{clap_on_literals}
use Rattle.command_words.specs.Commands.{command_of, layout_of}
use Rattle.command_words.specs.Options.{layout, is_taken, value_in}
use Rattle.command_words.specs.declared.Command.TheVariants.{Layout}
use Rattle.outside.specs.Faults.{Rose}
use Rattle.outside.specs.Told.{Adds, AddsPrefix}
use Rattle.outside.proofs.Laws.{steady}
use Rattle.session.specs.Outcome.{out}
use Rattle.session.specs.Runs.{IsComplete, IsOverComplete}
use Rattle.session.specs.Words.{asked}
use Rattle.session.specs.declared.status.Status.{Status}
use Rattle.session.specs.declared.status.Status.TheVariants.{NoMemory}
use Rattle.gridlay_c.specs.Program.{IsAnswer}

-- the one word is the command
pub is_layout : command_of (codes "layout" ∷ []) ≡ Some (Layout false)
unfolding clap_on_literals layout is_taken value_in layout_of command_of
is_layout = refl

-- a count that is always 0 does not rise
never_rises : ¬ Rose 0 0
never_rises = steady 0 (omega arith)

pub answered : (input written : List ℕ) (status : Status) → IsComplete (Some input) (λ b. Adds (Some []) (Some written) (out b)) 0 0 0 0 status → IsOverComplete (Some input) 0 0 0 0 status
    → IfSome (Some input) (λ b. AddsPrefix (Some []) (Some written) (out b)) → IsAnswer input written status
answered input written status complete over front = record {
  whole = λ few. complete few never_rises never_rises;
  over = λ many. over many never_rises never_rises;
  front = front;
}

-- the same over a list that is known to be empty
pub answered_from : (input before written : List ℕ) (status : Status) → before ≡ []
    → IsComplete (Some input) (λ b. Adds (Some before) (Some written) (out b)) 0 0 0 0 status → IsOverComplete (Some input) 0 0 0 0 status
    → IfSome (Some input) (λ b. AddsPrefix (Some before) (Some written) (out b)) → IsAnswer input written status
answered_from input before written status empty complete over front =
    let Done = λ (zs : List ℕ). IsComplete (Some input) (λ b. Adds (Some zs) (Some written) (out b)) 0 0 0 0 status in
    answered input written status (subst Done empty complete) over
    (subst (λ (zs : List ℕ). AddsPrefix (Some zs) (Some written) (out input)) empty front)

-- an answer for bytes is one for the input that they are
pub moved : {input bytes written : List ℕ} {status : Status} → IsAnswer bytes written status → bytes ≡ input → IsAnswer input written status
moved {written = written} {status = status} answer same = subst (λ (b : List ℕ). IsAnswer b written status) same answer

-- nothing was written for want of memory
pub unanswered : (input : List ℕ) → IsAnswer input [] NoMemory
unanswered input = record {
  whole = λ few. inl refl;
  over = λ many. inl refl;
  front = record { rest = out input; added = record { done = []; added = refl; parts = refl } };
}
