-- What a reader of words answers, against what the words stand for.
use Rattle.std.specs.Prelude.{◌≡◌, ℕ, if◌then◌else◌, Option, Some, None, Result, Ok, Err, List, ◌++◌}
use Rattle.track_text.specs.declared.errors.Stop.{Stop}
use Rattle.track_text.specs.declared.errors.Stop.TheVariants as stop
use Rattle.text_scan.specs.declared.line.Fault.{Fault}
use Rattle.text_scan.specs.declared.line.Place.{Place}
use Rattle.track_text.specs.declared.errors.ReadError.{ReadError}
use Rattle.track_text.specs.declared.errors.ReadError.TheVariants as error
use Rattle.track_text.specs.Words.{Word}
use Rattle.track_text.specs.Values.{is_relative}
use Rattle.track_text.specs.Templates.{ReadTemplate, template_of}
use Rattle.track_text.specs.Unsupported.{is_unsupported}

-- the value exactly where the words stand for one, or want of memory
abbrev pub Gives : {A : Type 0} → Result A Stop → Option A → Type 0
Gives (Ok value) form = form ≡ Some value
Gives (Err stop.Bad) form = form ≡ None
Gives (Err stop.NoMemory) form = Unit {0}

abbrev pub behind : {A : Type 0} → List A → List A × List Word → List A × List Word
behind held read = (held ++ read.0, read.1)

-- the value or the fault that is due, or want of memory
abbrev pub Reads : {A : Type 0} → Result A ReadError → Result A Fault → Type 0
Reads (Ok value) due = due ≡ Ok value
Reads (Err (error.Fault fault)) due = due ≡ Err fault
Reads (Err error.NoMemory) due = Unit {0}

abbrev pub fault_at : ℕ → Place → Fault
fault_at number place = record { number = number; place = place }

abbrev pub or_bad : {A : Type 0} → Place → Option A → Result A Fault
or_bad at (Some value) = Ok value
or_bad at None = Err (fault_at 9 at)

-- the template that the words of a value are in a version of the language, with the units of its lengths, or its fault: 11 where the value holds a word that is
-- unsupported in it,
-- and else 9 where it has none of the forms (own rule)
abbrev pub reading_of : ℕ → Place → List Word → Result ReadTemplate Fault
reading_of version at words = if is_unsupported (is_relative version) words then Err (fault_at 11 at) else or_bad at (template_of (is_relative version) words)
