-- The words that the program is started with, and the statuses that it ends with.
use Rattle.std.specs.Prelude.{ℕ, Bool, true, false, List, String, Option, Some, None, ⊤}
use Rattle.command_words.specs.Commands.{command_of}
use Rattle.command_words.specs.Options.{texts}
use Rattle.command_words.specs.declared.Command.{Command}
use Rattle.outside.specs.declared.sink.SinkError.{SinkError}
use Rattle.outside.specs.declared.sink.SinkError.TheVariants as sink
use Rattle.session.specs.declared.status.Status.{Status}
use Rattle.session.specs.declared.status.Status.TheVariants.{Done, BadDocument, SomeRefused, ReadFault, WriteFault, NoMemory, InputLimit, TooLong, BadWords}

-- the command that the words are, where they are one
abbrev pub asked : {A : Type 0} → List (String A) → Option Command
asked words = command_of (texts words)

-- the words are a command
abbrev pub is_served : Option Command → Bool
is_served None = false
is_served (Some command) = true

-- how a run ends that does nothing: its words are no command, or memory was wanting
abbrev pub IsUnserved : Status → Type 0
IsUnserved BadWords = ⊤
IsUnserved NoMemory = ⊤
IsUnserved status = ⊥

-- the number that the program ends with (own rule)
abbrev pub code_of : Status → ℕ
code_of Done = 0
code_of BadDocument = 2
code_of SomeRefused = 3
code_of ReadFault = 4
code_of WriteFault = 5
code_of NoMemory = 6
code_of InputLimit = 7
code_of TooLong = 8
code_of BadWords = 64

-- how a run ends where the sink answers an error
abbrev pub status_of : SinkError → Status
status_of sink.Failed = WriteFault
status_of sink.NoMemory = NoMemory
