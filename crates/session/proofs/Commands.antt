-- The words of a run.
use Rattle.std.proofs.Common.{◌≡◌, refl, ap, sym, subst, ◌∙◌, ℕ, Bool, false, List, [], Option, Some, None, inl}
use Rattle.std.proofs.lemmas.Bool.{false≢true}
use Rattle.std.specs.Prelude.{⊤}
use Rattle.outside.specs.declared.event.Event.{Event}
use Rattle.outside.proofs.Laws.{stays_same, loses_none}
use Rattle.text_scan.specs.Lines.{lines_of}
use Rattle.command_words.specs.declared.Command.{Command}
use Rattle.command_words.specs.declared.Command.TheVariants.{Layout, Make, Write}
use Rattle.session.specs.Input.{AreFirst}
use Rattle.session.specs.Made.{HasMade}
use Rattle.session.specs.Runs.{HasRun}
use Rattle.session.specs.Words.{is_served, IsUnserved}
use Rattle.session.specs.Writing.{HasWritten}
use Rattle.session.specs.declared.status.Status.{Status}
use Rattle.session.specs.declared.status.Status.TheVariants.{Done, BadDocument, SomeRefused, ReadFault, WriteFault, NoMemory, InputLimit, TooLong, BadWords}
use Rattle.session.proofs.Finished.{has_run}
use Rattle.session.proofs.LastText.{has_written}
use Rattle.session.proofs.Making.{made_none}

stats_in : Option Command → Bool
stats_in None = false
stats_in (Some (Layout stats)) = stats
stats_in (Some (Make seed nodes)) = false
stats_in (Some Write) = false

seed_in : Option Command → ℕ
seed_in None = 0
seed_in (Some (Layout stats)) = 0
seed_in (Some (Make seed nodes)) = seed
seed_in (Some Write) = 0

nodes_in : Option Command → ℕ
nodes_in None = 0
nodes_in (Some (Layout stats)) = 0
nodes_in (Some (Make seed nodes)) = nodes
nodes_in (Some Write) = 0

-- words that are a command are served
pub not_served : {A : Type 0} (o : Option Command) (command : Command) → o ≡ Some command → is_served o ≡ false → A
not_served o command e n = absurd (false≢true (sym n ∙ ap is_served e))

IsLayout : Option Command → Type 0
IsLayout None = ⊥
IsLayout (Some (Layout stats)) = ⊤
IsLayout (Some (Make seed nodes)) = ⊥
IsLayout (Some Write) = ⊥

-- one command is not the other
pub not_both : {A : Type 0} (o : Option Command) (stats : Bool) (seed nodes : ℕ) → o ≡ Some (Layout stats) → o ≡ Some (Make seed nodes) → A
unfolding IsLayout
not_both o stats seed nodes e f = absurd (subst IsLayout (sym e ∙ f) tt)

IsWrite : Option Command → Type 0
IsWrite None = ⊥
IsWrite (Some (Layout stats)) = ⊥
IsWrite (Some (Make seed nodes)) = ⊥
IsWrite (Some Write) = ⊤

pub layout_not_write : {A : Type 0} (o : Option Command) (stats : Bool) → o ≡ Some (Layout stats) → o ≡ Some Write → A
unfolding IsWrite
layout_not_write o stats e f = absurd (subst IsWrite (sym f ∙ e) tt)

pub make_not_write : {A : Type 0} (o : Option Command) (seed nodes : ℕ) → o ≡ Some (Make seed nodes) → o ≡ Some Write → A
unfolding IsWrite
make_not_write o seed nodes e f = absurd (subst IsWrite (sym f ∙ e) tt)

-- what is known of the words that were read
pub by_numbers : (o : Option Command) (found many : ℕ) (P : ℕ → ℕ → Type 0) → o ≡ Some (Make found many) → P found many → (seed nodes : ℕ) → o ≡ Some (Make seed nodes) → P seed nodes
unfolding seed_in nodes_in
by_numbers o found many P e p seed nodes f = subst (λ (n : ℕ). P n nodes) (ap seed_in (sym e ∙ f)) (subst (λ (n : ℕ). P found n) (ap nodes_in (sym e ∙ f)) p)

pub by_stats : (o : Option Command) (found : Bool) (P : Bool → Type 0) → o ≡ Some (Layout found) → P found → (stats : Bool) → o ≡ Some (Layout stats) → P stats
unfolding stats_in
by_stats o found P e p stats f = subst P (ap stats_in (sym e ∙ f)) p

abbrev IsMemory : Status → Type 0
IsMemory NoMemory = ⊤
IsMemory status = ⊥

first_none : (left : Option (List ℕ)) → AreFirst left []
first_none None = tt
first_none (Some told) = record { rest = lines_of told; parts = refl }

module _ (left w : Option (List ℕ)) (l : Option (List Event)) (s k : ℕ) where
  -- nothing was done for want of memory
  pub none_run : (stats : Bool) → HasRun stats left left w w l l s s k k NoMemory
  none_run stats =
      has_run stats left left w w l l s s k k NoMemory
      (record { taken = []; given = []; took = loses_none left; first = first_none left; judged = inl (record { written = stays_same w; log = stays_same l }) })
      (λ e. absurd (subst IsMemory e tt)) (λ e. absurd (subst IsMemory e tt))

  pub unserved_run : (o : Option Command) (status : Status) → IsUnserved status → (status ≡ BadWords → is_served o ≡ false) → (stats : Bool) → o ≡ Some (Layout stats) → HasRun stats left left w w l l s s k k status
  unserved_run o Done u n stats e = absurd u
  unserved_run o BadDocument u n stats e = absurd u
  unserved_run o SomeRefused u n stats e = absurd u
  unserved_run o ReadFault u n stats e = absurd u
  unserved_run o WriteFault u n stats e = absurd u
  unserved_run o NoMemory u n stats e = none_run stats
  unserved_run o InputLimit u n stats e = absurd u
  unserved_run o TooLong u n stats e = absurd u
  unserved_run o BadWords u n stats e = not_served o (Layout stats) e (n refl)

module _ (w : Option (List ℕ)) (l : Option (List Event)) (p k : ℕ) where
  pub unserved_made : (o : Option Command) (status : Status) → IsUnserved status → (status ≡ BadWords → is_served o ≡ false) → (seed nodes : ℕ) → o ≡ Some (Make seed nodes) → HasMade seed nodes w w l l p p k k status
  unserved_made o Done u n seed nodes e = absurd u
  unserved_made o BadDocument u n seed nodes e = absurd u
  unserved_made o SomeRefused u n seed nodes e = absurd u
  unserved_made o ReadFault u n seed nodes e = absurd u
  unserved_made o WriteFault u n seed nodes e = absurd u
  unserved_made o NoMemory u n seed nodes e = made_none seed nodes w l p k
  unserved_made o InputLimit u n seed nodes e = absurd u
  unserved_made o TooLong u n seed nodes e = absurd u
  unserved_made o BadWords u n seed nodes e = not_served o (Make seed nodes) e (n refl)

module _ (left w : Option (List ℕ)) (s k : ℕ) where
  -- nothing was done for want of memory
  none_written : HasWritten left left w w s s k k NoMemory
  none_written =
      has_written left w w s s k k NoMemory (λ e. absurd (subst IsMemory e tt)) (λ e. absurd (subst IsMemory e tt)) left
      (record { taken = []; given = []; took = loses_none left; first = first_none left; judged = inl (stays_same w) })

  pub unserved_written : (o : Option Command) (status : Status) → IsUnserved status → (status ≡ BadWords → is_served o ≡ false) → o ≡ Some Write → HasWritten left left w w s s k k status
  unserved_written o Done u n e = absurd u
  unserved_written o BadDocument u n e = absurd u
  unserved_written o SomeRefused u n e = absurd u
  unserved_written o ReadFault u n e = absurd u
  unserved_written o WriteFault u n e = absurd u
  unserved_written o NoMemory u n e = none_written
  unserved_written o InputLimit u n e = absurd u
  unserved_written o TooLong u n e = absurd u
  unserved_written o BadWords u n e = not_served o Write e (n refl)

pub unserved_cause : (status : Status) → IsUnserved status → status ≡ ReadFault → ⊥
unserved_cause status u e = subst IsUnserved e u

pub unserved_write : (status : Status) → IsUnserved status → status ≡ WriteFault → ⊥
unserved_write status u e = subst IsUnserved e u

pub write_knows : {A : Type 0} (left left' w w' : Option (List ℕ)) (s s' k k' : ℕ) (status : Status) → HasWritten left left' w w' s s' k k' status → status ≡ BadWords → A
write_knows {A = A} left left' w w' s s' k k' status p e = by_words (subst (λ (x : Status). HasWritten left left' w w' s s' k k' x) e p)
  where
    by_words : HasWritten left left' w w' s s' k k' BadWords → A
    by_words p = absurd p.runs.judged
