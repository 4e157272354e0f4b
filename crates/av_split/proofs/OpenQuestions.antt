-- The next question is open, and each question that is settled leaves fewer.
use Rattle.std.proofs.Common.{◌≡◌, ℕ, ◌+◌, ◌<◌, ◌≤◌, inl, inr, List, [], ◌∷◌, length, Bool, Option, Some, refl, sym, ap, ◌∙◌, arith}
use Rattle.av_perm.specs.Members.{In}
use Rattle.av_name.specs.declared.constraints.Known.{Known}
use Rattle.av_name.specs.declared.constraints.Known.TheVariants.{Inside, Outside, Open}
use Rattle.av_split.specs.Split.{turned, all_of, some_of, Demand, demand_known, demands_known, at_open, first_open, next_question, questions_of}
use Rattle.av_split.proofs.KnownFacts.{both_open, either_open, question_In}

-- the next question
abbrev pub Finds : {X : Type 0} → Option X → (X → Type 0) → Type 0
Finds {X} o Good = (q : X) × (o ≡ Some q) × Good q

pub finds_in_all : {A X : Type 0} (f : A → Known) (g : A → Option X) (Good : X → Type 0) (xs : List A) → ((x : A) → In x xs → f x ≡ Open → Finds (g x) Good) → all_of f xs ≡ Open → Finds (first_open f g xs) Good
finds_in_all f g Good [] h e = absurd (cc)
finds_in_all f g Good (x ∷ xs) h e = elim (both_open (f x) (all_of f xs) e) [
  | inl q ↦ let r = h x (inl refl) q in (r.0, ap (λ k. at_open k (g x) (first_open f g xs)) q ∙ r.1, r.2)
  | inr q ↦ let r = finds_in_all f g Good xs (λ y i. h y (inr i)) q.1 in (r.0, ap (λ k. at_open k (g x) (first_open f g xs)) q.0 ∙ r.1, r.2)
]

pub finds_in_some : {A X : Type 0} (f : A → Known) (g : A → Option X) (Good : X → Type 0) (xs : List A) → ((x : A) → In x xs → f x ≡ Open → Finds (g x) Good) → some_of f xs ≡ Open → Finds (first_open f g xs) Good
finds_in_some f g Good [] h e = absurd (cc)
finds_in_some f g Good (x ∷ xs) h e = elim (either_open (f x) (some_of f xs) e) [
  | inl q ↦ let r = h x (inl refl) q in (r.0, ap (λ k. at_open k (g x) (first_open f g xs)) q ∙ r.1, r.2)
  | inr q ↦ let r = finds_in_some f g Good xs (λ y i. h y (inr i)) q.1 in (r.0, ap (λ k. at_open k (g x) (first_open f g xs)) q.0 ∙ r.1, r.2)
]

pub turned_open : (w : Bool) (k : Known) → turned w k ≡ Open → k ≡ Open
turned_open w k e = grind arith

pub next_finds : {Q : Type 0} (f : Q → Known) (ds : List (Demand Q)) → demands_known f ds ≡ Open → Finds (next_question f ds) (λ q. (f q ≡ Open) × In q (questions_of ds))
next_finds {Q = Q} f ds e =
    finds_in_all (demand_known f) (λ (d : Demand Q). first_open (all_of f) (λ (m : List Q). first_open f (λ (q : Q). Some q) m) d.embeddings) (λ q. (f q ≡ Open) × In q (questions_of ds)) ds
    (λ (d : Demand Q) i k. finds_in_some (all_of f) (λ (m : List Q). first_open f (λ (q : Q). Some q) m) (λ q. (f q ≡ Open) × In q (questions_of ds)) d.embeddings
    (λ (m : List Q) j l. finds_in_all f (λ (q : Q). Some q) (λ q. (f q ≡ Open) × In q (questions_of ds)) m
    (λ (q : Q) n o. (q, refl, (o, question_In ds d m q i j n))) l)
    (turned_open d.required (some_of (all_of f) d.embeddings) k))
    e

-- how many questions are open
abbrev pub open_one : Known → ℕ
open_one Open = 1
open_one Inside = 0
open_one Outside = 0

abbrev pub open_count : {Q : Type 0} → (Q → Known) → List Q → ℕ
open_count f [] = 0
open_count f (q ∷ qs) = open_one (f q) + open_count f qs

pub open_one_le : (k : Known) → open_one k ≤ 1
open_one_le k = grind arith

pub open_one_mono : (k l : Known) → (k ≡ Open → l ≡ Open) → open_one k ≤ open_one l
open_one_mono k l h = grind arith

pub open_one_none : (k : Known) → (k ≡ Open → ⊥) → open_one k ≡ 0
open_one_none k h = grind arith

pub open_count_length : {Q : Type 0} (f : Q → Known) (qs : List Q) → open_count f qs ≤ length qs
open_count_length f [] = omega arith
open_count_length f (q ∷ qs) = omega (arith, open_one_le (f q), open_count_length f qs)

pub open_count_mono : {Q : Type 0} (f g : Q → Known) (qs : List Q) → ((q : Q) → In q qs → f q ≡ Open → g q ≡ Open) → open_count f qs ≤ open_count g qs
open_count_mono f g [] h = omega arith
open_count_mono f g (q ∷ qs) h = omega (arith, open_one_mono (f q) (g q) (h q (inl refl)), open_count_mono f g qs (λ r i. h r (inr i)))

pub open_count_less : {Q : Type 0} (f g : Q → Known) (qs : List Q) (p : Q) → ((q : Q) → In q qs → f q ≡ Open → g q ≡ Open) → In p qs → g p ≡ Open → (f p ≡ Open → ⊥) → open_count f qs < open_count g qs
open_count_less f g [] p h i e n = absurd i
open_count_less f g (q ∷ qs) p h (inl s) e n =
    let a : open_one (g q) ≡ 1 = ap open_one (ap g (sym s) ∙ e) in
    let b : open_one (f q) ≡ 0 = open_one_none (f q) (λ k. n (ap f s ∙ k)) in
    omega (arith, open_count_mono f g qs (λ r i. h r (inr i)))
open_count_less f g (q ∷ qs) p h (inr i) e n = omega (arith, open_one_mono (f q) (g q) (h q (inl refl)), open_count_less f g qs p (λ r j. h r (inr j)) i e n)
