-- The walk over the cells of a root: a cell is split until the demands of a name and the terms of its equation are settled
-- in it. For any kind of box and question.
use Rattle.std.specs.Prelude.{ℕ, zero, suc, ◌+◌, List, [], ◌∷◌, ◌++◌, Bool, false, true, Option, Some, None, length, sum_by}
use Rattle.av_name.specs.declared.constraints.Known.{Known}
use Rattle.av_name.specs.declared.constraints.Known.TheVariants.{Inside, Outside, Open}
use Rattle.av_split.specs.Split.{turned, all_of, Demand, demands_known, first_open, next_question, Rules, questions_of}

-- what a term asks of a question: that it holds, or that it doesn't
pub record Literal (Q : Type 0) : Type 0 where
  pub required : Bool
  pub question : Q

-- what is known of it
abbrev pub literal_known : {Q : Type 0} → (Q → Known) → Literal Q → Known
literal_known f l = turned l.required (f l.question)

-- of a term, the list of all that it asks: refuted (`Outside`), inside, or open
abbrev pub term_known : {Q : Type 0} → (Q → Known) → List (Literal Q) → Known
term_known f t = all_of (literal_known f) t

-- the first open question of the first open term
abbrev pub next_of_terms : {Q : Type 0} → (Q → Known) → List (List (Literal Q)) → Option Q
next_of_terms {Q} f ts = first_open (term_known f) (λ (t : List (Literal Q)). first_open (literal_known f) (λ (l : Literal Q). Some l.question) t) ts

-- one more where it is inside
abbrev pub one_more : Known → ℕ → ℕ
one_more Inside k = suc k
one_more Outside k = k
one_more Open k = k

-- how many terms are inside
abbrev pub inside_count : {Q : Type 0} → (Q → Known) → List (List (Literal Q)) → ℕ
inside_count f [] = 0
inside_count f (t ∷ ts) = one_more (term_known f t) (inside_count f ts)

-- how a cell ends: its terms are right; all demands are done and no term is left; two terms are inside; a term is inside
-- and a demand broken
pub data Ending : Type 0 where
  good : Ending
  bare : Ending
  twice : Ending
  extra : Ending

-- what becomes of a cell
pub data Treatment (Q : Type 0) : Type 0 where
  ends : (ending : Ending) → Treatment Q
  splits : (question : Q) → Treatment Q
  stuck : Treatment Q

-- where a demand is broken, by the number of terms inside and the first open question of a term
abbrev pub broken_cell : {Q : Type 0} → ℕ → Option Q → Treatment Q
broken_cell zero None = ends good
broken_cell zero (Some q) = splits q
broken_cell (suc k) o = ends extra

-- where all demands are done
abbrev pub done_cell : {Q : Type 0} → ℕ → Option Q → Treatment Q
done_cell zero None = ends bare
done_cell zero (Some q) = splits q
done_cell (suc zero) None = ends good
done_cell (suc zero) (Some q) = splits q
done_cell (suc (suc k)) o = ends twice

-- where neither is, by the next question of the demands
abbrev pub open_cell : {Q : Type 0} → Option Q → Treatment Q
open_cell None = stuck
open_cell (Some q) = splits q

-- each of the three
abbrev pub treated : {Q : Type 0} → Known → ℕ → Option Q → Option Q → Treatment Q
treated Outside k o n = broken_cell k o
treated Inside k o n = done_cell k o
treated Open k o n = open_cell n

-- what becomes of a box
abbrev pub treatment : {B Q : Type 0} → Rules B Q → List (Demand Q) → List (List (Literal Q)) → B → Treatment Q
treatment r ds ts b = treated (demands_known (r.known b) ds) (inside_count (r.known b) ts) (next_of_terms (r.known b) ts) (next_question (r.known b) ds)

-- a cell where the walk ends
pub record Leaf (B : Type 0) : Type 0 where
  pub cell : B
  pub ending : Ending

-- the leaf, or what the two parts give
abbrev pub leaves_by : {B Q : Type 0} → Treatment Q → B → (Q → List (Leaf B)) → List (Leaf B)
leaves_by (ends e) b more = record { cell = b; ending = e } ∷ []
leaves_by (splits q) b more = more q
leaves_by stuck b more = []

-- the leaves of a walk from a box, by as many questions at most: those that avoid the question first
abbrev pub walk_by : {B Q : Type 0} → Rules B Q → List (Demand Q) → List (List (Literal Q)) → ℕ → B → List (Leaf B)
walk_by r ds ts zero b = leaves_by (treatment r ds ts b) b (λ q. [])
walk_by r ds ts (suc d) b = leaves_by (treatment r ds ts b) b (λ q. walk_by r ds ts d (r.settle false b q) ++ walk_by r ds ts d (r.settle true b q))

-- as many questions as the demands and the terms have suffice
abbrev pub walk_questions : {Q : Type 0} → List (Demand Q) → List (List (Literal Q)) → ℕ
walk_questions {Q} ds ts = length (questions_of ds) + sum_by (λ (t : List (Literal Q)). length t) ts

abbrev pub walk : {B Q : Type 0} → Rules B Q → List (Demand Q) → List (List (Literal Q)) → B → List (Leaf B)
walk r ds ts b = walk_by r ds ts (walk_questions ds ts) b
