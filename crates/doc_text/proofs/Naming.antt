-- The first of the faults of a node of a name.
use Rattle.std.proofs.Common.{◌≡◌, ℕ, Bool, true, false, Result, Ok, Err, refl, ap, sym, subst, if◌then◌else◌}
use Rattle.text_scan.specs.declared.line.Fault.{Fault}
use Rattle.text_scan.specs.declared.line.Place.{Place}
use Rattle.plain_tree.specs.Trees.{Trees}
use Rattle.track_text.specs.declared.errors.ReadError.{ReadError}
use Rattle.track_text.specs.declared.errors.ReadError.TheVariants as error
use Rattle.track_text.specs.Gives.{Reads, fault_at}
use Rattle.doc_text.specs.declared.kind.Kind.{Kind}
use Rattle.doc_text.specs.Label.{Label, DeclaredMap}
use Rattle.doc_text.specs.Texts.{Word, Text, ◌>>=◌}
use Rattle.doc_text.specs.NodeText.{node_text}
use Rattle.doc_text.specs.Growth.{holds, put_last}
use Rattle.doc_text.specs.Documents.{label_with, standing_on, named_on}
use Rattle.doc_text.specs.NamedFaults.{first_fault}

-- a fault of a part is that of what goes on from it
bind_fault : {A B : Type 0} (fault : ReadError) (part : Result A Fault) (next : A → Result B Fault) → Reads (Err fault) part → Reads (Err fault) (part >>= next)
bind_fault {A} (error.Fault f) part next h = ap (λ (r : Result A Fault). r >>= next) h
bind_fault error.NoMemory part next h = tt

-- a name that is taken comes first
before : (taken : Bool) (at : Place) (later : ReadError) (place : Result (Unit {0}) Fault) (next : Unit {0} → Result (Trees Label) Fault)
    → Reads (Err later) (place >>= next) → Reads (Err (first_fault taken at later)) ((if taken then Err (fault_at 6 at) else place) >>= next)
before true at later place next h = refl
before false at later place next h = h

module _ (version level : ℕ) (name : Word) (at : Place) (rest : Text) (trees : Trees Label) where
  put : Kind × DeclaredMap → Result (Trees Label) Fault
  put node = Ok (put_last level (label_with name node) trees)

  read : Unit {0} → Result (Trees Label) Fault
  read done = node_text version rest >>= put

  -- a fault of the place gives way to that of the name
  pub no_place : (answer later : ReadError) → answer ≡ first_fault (holds trees name) at later → Reads (Err later) (standing_on version level at trees) → Reads (Err answer) (named_on version level name at rest trees)
  unfolding read put
  no_place answer later e h =
      subst (λ (fault : ReadError). Reads (Err fault) (named_on version level name at rest trees)) (sym e)
      (before (holds trees name) at later (standing_on version level at trees) read (bind_fault later (standing_on version level at trees) read h))

  -- a fault of what stands after the name gives way too
  pub no_text : (answer later : ReadError) (done : Unit {0}) → answer ≡ first_fault (holds trees name) at later → standing_on version level at trees ≡ Ok done
      → Reads (Err later) (node_text version rest) → Reads (Err answer) (named_on version level name at rest trees)
  unfolding read put
  no_text answer later done e p h =
      subst (λ (fault : ReadError). Reads (Err fault) (named_on version level name at rest trees)) (sym e)
      (before (holds trees name) at later (standing_on version level at trees) read
      (subst (λ (place : Result (Unit {0}) Fault). Reads (Err later) (place >>= read)) (sym p) (bind_fault later (node_text version rest) put h)))
