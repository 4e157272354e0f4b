-- What demands that were gone through tell of a cell, and the first open question.
use Rattle.std.specs.Prelude.{◌≡◌, ◌≤◌, ◌<◌, ◌-◌, ℕ, Bool, true, false, List, [], ◌++◌, Option, Some, None}
use Rattle.av_perm.specs.declared.limits.TheConstants.{MAX_LENGTH}
use Rattle.av_name.specs.declared.constraints.Known.{Known}
use Rattle.av_name.specs.declared.constraints.Known.TheVariants.{Inside, Outside, Open}
use Rattle.av_split.specs.Split.{both, all_of, first_open, Demand, demand_known, demands_known}
use Rattle.av_split.specs.Boxes.{Question, Box, word_rules}
use Rattle.av_split.specs.Cells.{known_so, or_else}
use Rattle.av_split.specs.declared.advising.WordStep.{WordStep}
use Rattle.av_split.specs.declared.advising.WordStep.TheVariants as steps
use Rattle.av_split.specs.declared.advising.Advice.{Advice}
use Rattle.av_split.specs.declared.advising.Advice.TheVariants as advice
use Rattle.av_split.specs.declared.advising.Asked.{Asked}
use Rattle.av_split.specs.declared.advising.Gathered.{Gathered}
use Rattle.av_split.specs.declared.advising.Gathered.TheVariants as gathered

-- whether child number `child` contains the word
abbrev pub word_question : ℕ → List ℕ → Question
word_question child w = record { child = child; word = w }

-- the step tells what is known, and the first open question
abbrev pub IsWordStep : WordStep → Known → Option Question → Type 0
IsWordStep steps.Holds k o = k ≡ Inside
IsWordStep steps.Fails k o = k ≡ Outside
IsWordStep (steps.Asks child word) k o = (k ≡ Open) × (o ≡ Some (word_question child word))

-- the same of questions that are all to hold: where they do, none is open
abbrev pub IsWholeStep : WordStep → Known → Option Question → Type 0
IsWholeStep steps.Holds k o = (k ≡ Inside) × (o ≡ None)
IsWholeStep steps.Fails k o = k ≡ Outside
IsWholeStep (steps.Asks child word) k o = (k ≡ Open) × (o ≡ Some (word_question child word))

-- the question that was kept
abbrev pub question_asked : Option Asked → Option Question
question_asked None = None
question_asked (Some a) = Some (word_question a.child a.word)

-- the step to it, or else another
abbrev pub word_step_or : Option Asked → WordStep → WordStep
word_step_or None step = step
word_step_or (Some a) step = steps.Asks a.child a.word

-- the step, or the opposite
abbrev pub turned_word_step : Bool → WordStep → WordStep
turned_word_step true step = step
turned_word_step false steps.Holds = steps.Fails
turned_word_step false steps.Fails = steps.Holds
turned_word_step false (steps.Asks child word) = steps.Asks child word

-- the first open question of a demand
abbrev pub demand_question : Box → Demand Question → Option Question
demand_question b d = first_open (all_of (word_rules.known b)) (λ (m : List Question). first_open (word_rules.known b) (λ (q : Question). Some q) m) d.embeddings

-- of the demands `xs`, those before the rest told no more than that none is broken, and the first open question
pub record Told (b : Box) (found : Option Question) (xs rest : List (Demand Question)) : Type 0 where
  pub known : demands_known (word_rules.known b) xs ≡ both (known_so found) (demands_known (word_rules.known b) rest)
  pub first : first_open (demand_known (word_rules.known b)) (demand_question b) xs ≡ or_else found (first_open (demand_known (word_rules.known b)) (demand_question b) rest)

-- among whatever demands, those of `ds` were gone through down to those of `es`
abbrev pub Gathers : Box → Option Question → List (Demand Question) → Option Question → List (Demand Question) → Type 0
Gathers b old ds new es = (xs rest : List (Demand Question)) → Told b old xs (ds ++ rest) → Told b new xs (es ++ rest)

-- among whatever demands, one of `ds` is broken
abbrev pub IsBroken : Box → Option Question → List (Demand Question) → Type 0
IsBroken b old ds = (xs rest : List (Demand Question)) → Told b old xs (ds ++ rest) → demands_known (word_rules.known b) xs ≡ Outside

-- either of the two
abbrev pub IsGathered : Box → Gathered → Option Question → List (Demand Question) → Type 0
IsGathered b gathered.Broken old ds = IsBroken b old ds
IsGathered b (gathered.So found) old ds = Gathers b old ds (question_asked found) []

-- the advice to a cell, by what is known of all demands and the next question, whose child is counted from 1
abbrev pub IsAdvice : Advice → Known → Option Question → Type 0
IsAdvice advice.Broken k o = k ≡ Outside
IsAdvice advice.Done k o = k ≡ Inside
IsAdvice (advice.Ask child p) k o = (k ≡ Open) × (1 ≤ child) × (o ≡ Some (word_question (child - 1) p))

-- the child of a question that was kept is one of few
abbrev pub MayAsk : Option Asked → Type 0
MayAsk None = Unit {0}
MayAsk (Some a) = a.child < MAX_LENGTH
