-- The text due: a function of the options and of the bytes of the source.
use Rattle.std.specs.Prelude.{ℕ, ◌-◌, List, [], length, Option, Some, None, codes, decimal, flat_map, Result, Ok, Err}
use Rattle.av_perm.specs.Lists.{counting}
use Rattle.av_perm.specs.Gap.{simples}
use Rattle.av_simple.specs.Searched.{Searched, last_of}
use Rattle.av_text.specs.Kinds.{kind_number}
use Rattle.av_text.specs.declared.queries.Query.{Query}
use Rattle.av_text.specs.declared.script.Script.{Script}
use Rattle.av_text.specs.Read.{Fault, read}
use Rattle.av_print.specs.Text.{◌⊹◌, words_text}
use Rattle.av_print.specs.Systems.{system_text}
use Rattle.av_session.specs.declared.options.Options.{Options}
use Rattle.av_session.specs.declared.subject.Subject.{Subject}
use Rattle.av_session.specs.declared.subject.United.{United}
use Rattle.av_session.specs.Classes.{Class}
use Rattle.av_session.specs.declared.solving.Solved.{Solved}
use Rattle.av_session.specs.declared.solving.Solved.TheVariants.{Unsettled, TooLarge, Settled}
use Rattle.av_session.specs.Solved.{solved_script}
use Rattle.av_session.specs.Answers.{answer_text}

-- the number of simple words of a length, as the header gives it
abbrev pub level_text : List (List ℕ) → ℕ → List ℕ
level_text basis m = codes " " ⊹ decimal m ⊹ codes ":" ⊹ decimal (length (simples basis m))

-- the line of the two lists of a union, where the script has one
abbrev pub union_text : Option United → List ℕ
union_text None = []
union_text (Some lists) = codes "union " ⊹ words_text lists.first ⊹ codes " with " ⊹ words_text lists.second ⊹ codes "\n"

-- the line of the required words, where the script has one
abbrev pub require_text : Option (List (List ℕ)) → List ℕ
require_text None = []
require_text (Some required) = codes "require " ⊹ words_text required ⊹ codes "\n"

-- the numbers of simple words of the lengths from 4 to the last that was searched
abbrev pub levels_text : Searched → List ℕ
levels_text found = flat_map (level_text found.basis) (counting 4 (last_of found - 3))

-- the header: the version, the two lists of a union, the basis, the required words, and the numbers of simple words
unfoldable pub header_text : Subject → List ℕ
header_text subject =
    codes "permspec 1\n" ⊹ union_text subject.united ⊹ codes "basis " ⊹ words_text subject.found.basis ⊹ codes "\n" ⊹ require_text subject.require ⊹ codes "simples" ⊹ levels_text subject.found ⊹ codes "\n"

-- the header of a class with gap g
unfoldable pub settled_header : Subject → ℕ → List ℕ
settled_header subject g = header_text subject ⊹ codes "gap " ⊹ decimal g ⊹ codes "\n"

-- the text of a class that has no gap within the limit of lengths
unfoldable pub unsettled_text : Subject → List ℕ
unsettled_text subject = header_text subject ⊹ codes "unsettled " ⊹ decimal subject.found.limit ⊹ codes "\n"

-- the text of a class with gap g whose system is larger than the limit
unfoldable pub too_large_text : Subject → ℕ → ℕ → List ℕ
too_large_text subject g limit = settled_header subject g ⊹ codes "too large " ⊹ decimal limit ⊹ codes "\n"

-- the text of a settled class: the header, the system and the answers
unfoldable pub settled_text : Class → List Query → List ℕ
settled_text class queries = settled_header class.subject class.gap ⊹ system_text class.format class.system ⊹ flat_map (answer_text class) queries

-- the text of a class, by what is known of it
abbrev pub class_text : Options → List Query → Solved → List ℕ
class_text options queries (Unsettled subject) = unsettled_text subject
class_text options queries (TooLarge subject g) = too_large_text subject g options.max_size
class_text options queries (Settled class) = settled_text class queries

-- the text of a script
unfoldable pub script_text : Options → Script → List ℕ
script_text options script = class_text options script.queries (solved_script options script)

-- the text where the source is no script
unfoldable pub fault_text : Fault → List ℕ
fault_text fault = codes "fault " ⊹ decimal fault.line ⊹ codes " " ⊹ decimal (kind_number fault.kind) ⊹ codes "\n"

-- the text of what the source says
abbrev pub text_of : Options → Result Script Fault → List ℕ
text_of options (Ok script) = script_text options script
text_of options (Err fault) = fault_text fault

-- the text due of these options where the source has these bytes
unfoldable pub text_due : Options → List ℕ → List ℕ
text_due options bytes = text_of options (read bytes)
