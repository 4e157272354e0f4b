-- What is known of the questions of an embedding, child by child.
use Rattle.std.proofs.Common.{◌≡◌, ℕ, ◌+◌, List, [], ◌∷◌, ◌++◌, Some, refl, sym, ap, ◌∙◌, subst, add-one, arith}
use Rattle.av_perm.specs.Inflate.{joined}
use Rattle.av_perm.proofs.InflationSteps.{joined_more}
use Rattle.av_name.specs.declared.constraints.Known.{Known}
use Rattle.av_split.specs.Split.{both, all_of, at_open, first_open}
use Rattle.av_split.specs.Boxes.{Question}
use Rattle.av_split.specs.declared.advising.WordStep.{WordStep}
use Rattle.av_split.specs.Cells.{or_else}
use Rattle.av_split.specs.Gathering.{IsWholeStep}

-- two lists together
both_assoc : (a b c : Known) → both (both a b) c ≡ both a (both b c)
both_assoc a b c = grind arith

pub all_append : {A : Type 0} (f : A → Known) (xs ys : List A) → all_of f (xs ++ ys) ≡ both (all_of f xs) (all_of f ys)
all_append f [] ys = refl
all_append f (x ∷ xs) ys = ap (both (f x)) (all_append f xs ys) ∙ sym (both_assoc (f x) (all_of f xs) (all_of f ys))

pub first_append : {A X : Type 0} (f : A → Known) (h : A → X) (xs ys : List A) → first_open f (λ x. Some (h x)) (xs ++ ys) ≡ or_else (first_open f (λ x. Some (h x)) xs) (first_open f (λ x. Some (h x)) ys)
first_append f h [] ys = refl
first_append f h (x ∷ xs) ys = by (f x) (first_append f h xs ys)
  where
    by : (k : Known) → first_open f (λ x. Some (h x)) (xs ++ ys) ≡ or_else (first_open f (λ x. Some (h x)) xs) (first_open f (λ x. Some (h x)) ys)
        → at_open k (Some (h x)) (first_open f (λ x. Some (h x)) (xs ++ ys)) ≡ or_else (at_open k (Some (h x)) (first_open f (λ x. Some (h x)) xs)) (first_open f (λ x. Some (h x)) ys)
    by k e = grind arith

-- one more child
pub questions_next : (s : WordStep) (f : Question → Known) (F : ℕ → List Question) (k : ℕ)
    → IsWholeStep s (both (all_of f (joined F k)) (all_of f (F k))) (or_else (first_open f (λ (q : Question). Some q) (joined F k)) (first_open f (λ (q : Question). Some q) (F k)))
    → IsWholeStep s (all_of f (joined F (k + 1))) (first_open f (λ (q : Question). Some q) (joined F (k + 1)))
questions_next s f F k h =
    let e : joined F (k + 1) ≡ joined F k ++ F k = ap (joined F) (add-one k) ∙ sym (joined_more k F) in
    let a = ap (all_of f) e ∙ all_append f (joined F k) (F k) in
    let b = ap (first_open f (λ (q : Question). Some q)) e ∙ first_append f (λ (q : Question). q) (joined F k) (F k) in
    subst (λ x. IsWholeStep s x (first_open f (λ (q : Question). Some q) (joined F (k + 1)))) (sym a) (subst (IsWholeStep s (both (all_of f (joined F k)) (all_of f (F k)))) (sym b) h)
