-- Results that are what a definition says, unless memory is wanting.
use Rattle.std.specs.Prelude.{◌≡◌, Result, Ok, Err}
use Rattle.av_text.specs.declared.kind.Kind.{Kind}
use Rattle.av_text.specs.declared.says.LineFault.{LineFault}
use Rattle.av_text.specs.declared.says.LineFault.TheVariants as fault
use Rattle.av_text.specs.declared.script.ScriptError.{ScriptError}
use Rattle.av_text.specs.declared.script.ScriptError.TheVariants as error
use Rattle.av_text.specs.Read.{Fault}

-- the result of a line
abbrev pub Gives : {A : Type 0} → Result A LineFault → Result A Kind → Type 0
Gives (Ok a) said = said ≡ Ok a
Gives (Err fault.Memory) said = Unit {0}
Gives (Err (fault.Refused kind)) said = said ≡ Err kind

-- a result about a script
abbrev pub GivesScript : {A : Type 0} → Result A ScriptError → Result A Fault → Type 0
GivesScript (Ok a) said = said ≡ Ok a
GivesScript (Err error.Memory) said = Unit {0}
GivesScript (Err (error.Refused line kind)) said = said ≡ Err (record { line = line; kind = kind })
