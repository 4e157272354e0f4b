-- Demands by cells and by questions agree where what is known of these does.
use Rattle.std.proofs.Common.{◌≡◌, ℕ, List, [], ◌∷◌, Option, Some, None, refl, ap₂, subst}
use Rattle.av_perm.specs.Lists.{Pointwise}
use Rattle.av_name.specs.declared.constraints.Known.{Known}
use Rattle.av_name.specs.declared.constraints.Known.TheVariants.{Inside, Outside, Open}
use Rattle.av_split.specs.declared.cells.Cell.{Cell}
use Rattle.av_split.specs.Split.{turned, all_of, some_of, Demand, demand_known, demands_known, at_open, first_open, next_question}
use Rattle.av_split.specs.Boxes.{Question}
use Rattle.av_split.specs.Cells.{IsQuestionOf, AreQuestionsOf, IsDemandOf, AreDemandsOf}

-- two lists whose items agree
pub all_same : {A B : Type 0} (R : A → B → Type 0) (F : A → Known) (f : B → Known) → ((x : A) (y : B) → R x y → F x ≡ f y) → (xs : List A) (ys : List B) → Pointwise R xs ys → all_of F xs ≡ all_of f ys
all_same R F f h [] [] p = refl
all_same R F f h [] (y ∷ ys) p = absurd p
all_same R F f h (x ∷ xs) [] p = absurd p
all_same R F f h (x ∷ xs) (y ∷ ys) p = rw (h x y p.0, all_same R F f h xs ys p.1) refl

-- the same where one suffices
pub some_same : {A B : Type 0} (R : A → B → Type 0) (F : A → Known) (f : B → Known) → ((x : A) (y : B) → R x y → F x ≡ f y) → (xs : List A) (ys : List B) → Pointwise R xs ys → some_of F xs ≡ some_of f ys
some_same R F f h [] [] p = refl
some_same R F f h [] (y ∷ ys) p = absurd p
some_same R F f h (x ∷ xs) [] p = absurd p
some_same R F f h (x ∷ xs) (y ∷ ys) p = rw (h x y p.0, some_same R F f h xs ys p.1) refl

-- both are there and related, or neither is
abbrev pub OptionOf : {X Y : Type 0} → (X → Y → Type 0) → Option X → Option Y → Type 0
OptionOf S None None = Unit {0}
OptionOf S (Some x) (Some y) = S x y
OptionOf S None (Some y) = ⊥
OptionOf S (Some x) None = ⊥

-- the first of two where both lists have it
pub at_same : {X Y : Type 0} (S : X → Y → Type 0) (k l : Known) (o o' : Option X) (p p' : Option Y) → k ≡ l → OptionOf S o p → OptionOf S o' p' → OptionOf S (at_open k o o') (at_open l p p')
at_same S k l o o' p p' e a b = subst (λ m. OptionOf S (at_open k o o') (at_open m p p')) e (by k)
  where
    by : (k : Known) → OptionOf S (at_open k o o') (at_open k p p')
    by Inside = b
    by Outside = b
    by Open = a

-- what is picked at the first open item
pub first_same : {A B X Y : Type 0} (R : A → B → Type 0) (F : A → Known) (f : B → Known) (G : A → Option X) (g : B → Option Y) (S : X → Y → Type 0) → ((x : A) (y : B) → R x y → F x ≡ f y)
    → ((x : A) (y : B) → R x y → OptionOf S (G x) (g y)) → (xs : List A) (ys : List B) → Pointwise R xs ys → OptionOf S (first_open F G xs) (first_open f g ys)
first_same R F f G g S h k [] [] p = tt
first_same R F f G g S h k [] (y ∷ ys) p = absurd p
first_same R F f G g S h k (x ∷ xs) [] p = absurd p
first_same R F f G g S h k (x ∷ xs) (y ∷ ys) p =
    at_same S (F x) (f y) (G x) (first_open F G xs) (g y) (first_open f g ys) (h x y p.0) (k x y p.0) (first_same R F f G g S h k xs ys p.1)

-- demands by cells and by questions agree where what is known does
module _ (k : ℕ) (ps : List (List ℕ)) (F : Cell → Known) (f : Question → Known) (same : (cell : Cell) (q : Question) → IsQuestionOf k ps cell q → F cell ≡ f q) where
  -- an embedding
  pub embedding_same : (cells : List Cell) (qs : List Question) → AreQuestionsOf k ps cells qs → all_of F cells ≡ all_of f qs
  embedding_same = all_same (IsQuestionOf k ps) F f same

  -- a demand
  pub demand_same : (d : Demand Cell) (e : Demand Question) → IsDemandOf k ps d e → demand_known F d ≡ demand_known f e
  demand_same d e i = ap₂ turned i.required (some_same (AreQuestionsOf k ps) (all_of F) (all_of f) embedding_same d.embeddings e.embeddings i.embeddings)

  -- all demands
  pub demands_same : (ds : List (Demand Cell)) (es : List (Demand Question)) → AreDemandsOf k ps ds es → demands_known F ds ≡ demands_known f es
  demands_same = all_same (IsDemandOf k ps) (demand_known F) (demand_known f) demand_same

  -- the next question
  pub next_same : (ds : List (Demand Cell)) (es : List (Demand Question)) → AreDemandsOf k ps ds es → OptionOf (IsQuestionOf k ps) (next_question F ds) (next_question f es)
  next_same =
      first_same (IsDemandOf k ps) (demand_known F) (demand_known f)
      (λ (d : Demand Cell). first_open (all_of F) (λ (m : List Cell). first_open F (λ (q : Cell). Some q) m) d.embeddings)
      (λ (d : Demand Question). first_open (all_of f) (λ (m : List Question). first_open f (λ (q : Question). Some q) m) d.embeddings) (IsQuestionOf k ps) demand_same
      (λ d e i. first_same (AreQuestionsOf k ps) (all_of F) (all_of f) (λ (m : List Cell). first_open F (λ (q : Cell). Some q) m) (λ (m : List Question). first_open f (λ (q : Question). Some q) m) (IsQuestionOf k ps) embedding_same
      (first_same (IsQuestionOf k ps) F f (λ (q : Cell). Some q) (λ (q : Question). Some q) (IsQuestionOf k ps) same (λ x y j. j)) d.embeddings e.embeddings i.embeddings)
