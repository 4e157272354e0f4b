-- What becomes of a box, by cells and by questions: the same where what is known is.
use Rattle.std.proofs.Common.{◌≡◌, ℕ, zero, suc, List, [], ◌∷◌, Option, Some, refl, sym, ap, ap₂, subst, arith}
use Rattle.av_name.specs.declared.constraints.Known.{Known}
use Rattle.av_name.specs.declared.constraints.Known.TheVariants.{Inside, Outside, Open}
use Rattle.av_split.specs.declared.cells.Cell.{Cell}
use Rattle.av_split.specs.Split.{turned, Demand, first_open, demands_known, next_question}
use Rattle.av_split.specs.Boxes.{Question}
use Rattle.av_split.specs.Cells.{question_at, IsQuestionOf, AreDemandsOf}
use Rattle.av_split.proofs.CellQuestions.{OptionOf, all_same, first_same, demands_same, next_same}
use Rattle.av_walk.specs.Walk.{Literal, literal_known, term_known, one_more, inside_count, next_of_terms, Treatment, Ending, ends, splits, stuck, broken_cell, done_cell, open_cell, treated}
use Rattle.av_walk.specs.Numbers.{IsLiteralOf, AreLiteralsOf, AreTermsOf}
use Rattle.av_walk.specs.Paths.{treatment_at}

-- the same end, or splits by a cell and its question
abbrev pub TreatmentOf : ℕ → List (List ℕ) → Treatment Cell → Treatment Question → Type 0
TreatmentOf k ps (ends x) (ends y) = x ≡ y
TreatmentOf k ps (splits cell) (splits q) = IsQuestionOf k ps cell q
TreatmentOf k ps stuck stuck = Unit {0}
TreatmentOf k ps (ends x) (splits q) = ⊥
TreatmentOf k ps (ends x) stuck = ⊥
TreatmentOf k ps (splits cell) (ends y) = ⊥
TreatmentOf k ps (splits cell) stuck = ⊥
TreatmentOf k ps stuck (ends y) = ⊥
TreatmentOf k ps stuck (splits q) = ⊥

module _ (k : ℕ) (ps : List (List ℕ)) where
  broken_same : (n : ℕ) (o : Option Cell) (p : Option Question) → OptionOf (IsQuestionOf k ps) o p → TreatmentOf k ps (broken_cell n o) (broken_cell n p)
  broken_same zero o p i = grind arith
  broken_same (suc n) o p i = refl

  done_same : (n : ℕ) (o : Option Cell) (p : Option Question) → OptionOf (IsQuestionOf k ps) o p → TreatmentOf k ps (done_cell n o) (done_cell n p)
  done_same zero o p i = grind arith
  done_same (suc zero) o p i = grind arith
  done_same (suc (suc n)) o p i = refl

  open_same : (o : Option Cell) (p : Option Question) → OptionOf (IsQuestionOf k ps) o p → TreatmentOf k ps (open_cell o) (open_cell p)
  open_same o p i = grind arith

  treated_same : (known : Known) (n : ℕ) (o o' : Option Cell) (p p' : Option Question) → OptionOf (IsQuestionOf k ps) o p → OptionOf (IsQuestionOf k ps) o' p' → TreatmentOf k ps (treated known n o o') (treated known n p p')
  treated_same Outside n o o' p p' i j = broken_same n o p i
  treated_same Inside n o o' p p' i j = done_same n o p i
  treated_same Open n o o' p p' i j = open_same o' p' j

  -- the same end
  pub same_end : (t : Treatment Cell) (u : Treatment Question) (x : Ending) → TreatmentOf k ps t u → t ≡ ends x → u ≡ ends x
  same_end t u x i e = by u (subst (λ s. TreatmentOf k ps s u) e i)
    where
      by : (u : Treatment Question) → TreatmentOf k ps (ends x) u → u ≡ ends x
      by (ends y) j = ap ends (sym j)
      by (splits q) j = absurd j
      by stuck j = absurd j

  -- a split by the question of the cell
  pub same_split : (t : Treatment Cell) (u : Treatment Question) (cell : Cell) → TreatmentOf k ps t u → t ≡ splits cell → IsQuestionOf k ps cell (question_at ps cell) × (u ≡ splits (question_at ps cell))
  same_split t u cell i e = by u (subst (λ s. TreatmentOf k ps s u) e i)
    where
      by : (u : Treatment Question) → TreatmentOf k ps (splits cell) u → IsQuestionOf k ps cell (question_at ps cell) × (u ≡ splits (question_at ps cell))
      by (ends y) j = absurd j
      by (splits q) j = (record { child = j.child; pattern = j.pattern; question = refl }, ap splits (sym j.question))
      by stuck j = absurd j

  module _ (F : Cell → Known) (f : Question → Known) (same : (cell : Cell) (q : Question) → IsQuestionOf k ps cell q → F cell ≡ f q) where
    literal_same : (l : Literal Cell) (m : Literal Question) → IsLiteralOf k ps l m → literal_known F l ≡ literal_known f m
    literal_same l m i = ap₂ turned i.required (same l.question m.question i.question)

    term_same : (t : List (Literal Cell)) (u : List (Literal Question)) → AreLiteralsOf k ps t u → term_known F t ≡ term_known f u
    term_same = all_same (IsLiteralOf k ps) (literal_known F) (literal_known f) literal_same

    count_same : (ts : List (List (Literal Cell))) (us : List (List (Literal Question))) → AreTermsOf k ps ts us → inside_count F ts ≡ inside_count f us
    count_same [] [] i = refl
    count_same [] (u ∷ us) i = absurd i
    count_same (t ∷ ts) [] i = absurd i
    count_same (t ∷ ts) (u ∷ us) i = ap₂ one_more (term_same t u i.0) (count_same ts us i.1)

    next_term_same : (ts : List (List (Literal Cell))) (us : List (List (Literal Question))) → AreTermsOf k ps ts us → OptionOf (IsQuestionOf k ps) (next_of_terms F ts) (next_of_terms f us)
    next_term_same =
        first_same (AreLiteralsOf k ps) (term_known F) (term_known f)
        (λ (t : List (Literal Cell)). first_open (literal_known F) (λ (l : Literal Cell). Some l.question) t)
        (λ (t : List (Literal Question)). first_open (literal_known f) (λ (l : Literal Question). Some l.question) t) (IsQuestionOf k ps) term_same
        (first_same (IsLiteralOf k ps) (literal_known F) (literal_known f) (λ (l : Literal Cell). Some l.question) (λ (l : Literal Question). Some l.question) (IsQuestionOf k ps) literal_same (λ l m j. j.question))

    -- what becomes of the box
    pub treatment_same : (ds : List (Demand Cell)) (es : List (Demand Question)) (ts : List (List (Literal Cell))) (us : List (List (Literal Question))) → AreDemandsOf k ps ds es → AreTermsOf k ps ts us
        → TreatmentOf k ps (treatment_at F ds ts) (treated (demands_known f es) (inside_count f us) (next_of_terms f us) (next_question f es))
    treatment_same ds es ts us i j =
        let o = next_term_same ts us j in
        let p = next_same k ps F f same ds es i in
        subst (λ (known : Known). TreatmentOf k ps (treatment_at F ds ts) (treated known (inside_count f us) (next_of_terms f us) (next_question f es))) (demands_same k ps F f same ds es i)
        (subst (λ (n : ℕ). TreatmentOf k ps (treatment_at F ds ts) (treated (demands_known F ds) n (next_of_terms f us) (next_question f es))) (count_same ts us j)
        (treated_same (demands_known F ds) (inside_count F ts) (next_of_terms F ts) (next_question F ds) (next_of_terms f us) (next_question f es) o p))
