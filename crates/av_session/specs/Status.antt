-- The statuses of a run: when each comes, and what the sink holds then.
use Rattle.std.specs.Prelude.{◌≡◌, ℕ, List, Option, Result, Ok, Err}
use Rattle.std.specs.Io.KnownBytes.{Appends, Keeps}
use Rattle.av_text.specs.declared.script.Script.{Script}
use Rattle.av_text.specs.Read.{Fault, read}
use Rattle.av_print.specs.Wrote.{AppendsPart}
use Rattle.av_session.specs.declared.options.Options.{Options}
use Rattle.av_session.specs.declared.status.Status.{Status}
use Rattle.av_session.specs.declared.status.Status.TheVariants as status
use Rattle.av_session.specs.Solved.{solved_script, status_of}

-- what is held beyond what was held before, where this text is due
abbrev pub HoldsText : Status → Option (List ℕ) → Option (List ℕ) → List ℕ → Type 0
HoldsText status.Done old new text = Appends old new text
HoldsText status.Memory old new text = AppendsPart old new text
HoldsText status.Words old new text = Keeps old new
HoldsText status.ReadFault old new text = Keeps old new
HoldsText status.WriteFault old new text = AppendsPart old new text
HoldsText status.Refused old new text = Appends old new text
HoldsText status.Unsettled old new text = Appends old new text
HoldsText status.TooLarge old new text = Appends old new text

-- the status may come where the source has this script: Done, TooLarge and Unsettled exactly by what is known of its class
abbrev pub FitsScript : Status → Options → Script → Type 0
FitsScript status.Done options script = status_of (solved_script options script) ≡ status.Done
FitsScript status.TooLarge options script = status_of (solved_script options script) ≡ status.TooLarge
FitsScript status.Unsettled options script = status_of (solved_script options script) ≡ status.Unsettled
FitsScript status.Refused options script = ⊥
FitsScript _ options script = Unit {0}

-- the status may come where the source has no script
abbrev pub FitsFault : Status → Type 0
FitsFault status.Done = ⊥
FitsFault status.TooLarge = ⊥
FitsFault status.Unsettled = ⊥
FitsFault _ = Unit {0}

abbrev pub FitsRead : Status → Options → Result Script Fault → Type 0
FitsRead s options (Ok script) = FitsScript s options script
FitsRead s options (Err fault) = FitsFault s

-- the status may come where the source has these bytes: Done exactly for a script of a settled class whose system is within
-- the limit, TooLarge exactly for one whose system isn't, Unsettled exactly for a script of a class that isn't settled,
-- Refused exactly for no script; want of memory and faults may come with any
abbrev pub FitsText : Status → Options → List ℕ → Type 0
FitsText s options bytes = FitsRead s options (read bytes)

-- the status may come once the text was read
abbrev pub ComesAfterReading : Status → Type 0
ComesAfterReading status.Words = ⊥
ComesAfterReading status.ReadFault = ⊥
ComesAfterReading _ = Unit {0}
