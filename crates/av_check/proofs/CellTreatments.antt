-- A cell that ends without a flaw of its own has its terms right. For any kind of question.
use Rattle.std.proofs.Common.{◌≡◌, ℕ, zero, suc, ◌≤◌, ◌⊎◌, inl, inr, List, [], ◌∷◌, map, Option, Some, None, refl, sym, ap, ◌∙◌, subst, arith}
use Rattle.av_perm.specs.Members.{In}
use Rattle.av_perm.proofs.Membership.{Each, SomeIn}
use Rattle.av_name.specs.declared.constraints.Known.{Known}
use Rattle.av_name.specs.declared.constraints.Known.TheVariants.{Inside, Outside, Open}
use Rattle.av_split.specs.Split.{both, all_of, Demand, demands_known, at_open, first_open, next_question}
use Rattle.av_split.proofs.GenericSplit.{Apart}
use Rattle.av_walk.specs.Walk.{Literal, literal_known, term_known, next_of_terms, one_more, inside_count, Ending, good, bare, twice, extra, Treatment, ends, splits, stuck, broken_cell, done_cell, open_cell, treated}

-- where nothing is picked no item is open
first_open_none : {A X : Type 0} (f : A → Known) (g : A → Option X) (xs : List A) → ((x : A) → f x ≡ Open → (q : X) × (g x ≡ Some q)) → first_open f g xs ≡ None → Each (λ x. f x ≡ Open → ⊥) xs
first_open_none f g [] some e y i h = i
first_open_none {X = X} f g (x ∷ xs) some e y i h = by (f x) refl e i (λ d j. first_open_none f g xs some d y j h)
  where
    here : f x ≡ Open → g x ≡ None → ⊥
    here o d = let r = some x o in let z : Some r.0 ≡ None = sym r.1 ∙ d in cc

    not_open : (k : Known) → f x ≡ k → (k ≡ Open → ⊥) → In y (x ∷ xs) → (In y xs → ⊥) → ⊥
    not_open k p n (inl q) deeper = n (sym p ∙ ap f (sym q) ∙ h)
    not_open k p n (inr j) deeper = deeper j

    by : (k : Known) → f x ≡ k → at_open k (g x) (first_open f g xs) ≡ None → In y (x ∷ xs) → (first_open f g xs ≡ None → In y xs → ⊥) → ⊥
    by Open p d j deeper = here p d
    by Inside p d j deeper = not_open Inside p (λ z. cc) j (deeper d)
    by Outside p d j deeper = not_open Outside p (λ z. cc) j (deeper d)

-- in an open list an item is picked
open_picked : {A X : Type 0} (f : A → Known) (h : A → X) (xs : List A) → all_of f xs ≡ Open → (q : X) × (first_open f (λ x. Some (h x)) xs ≡ Some q)
open_picked f h [] e = absurd (let z : Inside ≡ Open = e in cc)
open_picked {X = X} f h (x ∷ xs) e = by (f x) e (open_picked f h xs)
  where
    by : (k : Known) → both k (all_of f xs) ≡ Open → (all_of f xs ≡ Open → (q : X) × (first_open f (λ x. Some (h x)) xs ≡ Some q))
        → (q : X) × (at_open k (Some (h x)) (first_open f (λ x. Some (h x)) xs) ≡ Some q)
    by Open p deeper = (h x, refl)
    by Inside p deeper = deeper p
    by Outside p deeper = absurd (let z : Outside ≡ Open = p in cc)

-- the questions of a term
abbrev pub questions_in : {Q : Type 0} → List (Literal Q) → List Q
questions_in {Q = Q} t = map (λ (l : Literal Q). l.question) t

-- a term that isn't refuted
abbrev pub Stays : {Q : Type 0} → (Q → Known) → List (Literal Q) → Type 0
Stays f t = term_known f t ≡ Outside → ⊥

-- one more term that is inside
counted : {Q : Type 0} (f : Q → Known) (t s : List (Literal Q)) (ts : List (List (Literal Q))) → s ≡ t → term_known f s ≡ Inside → inside_count f (t ∷ ts) ≡ suc (inside_count f ts)
counted f t s ts q h = ap (λ k. one_more k (inside_count f ts)) (ap (term_known f) (sym q) ∙ h)

more_or_same : (k : Known) (n : ℕ) → n ≤ one_more k n
more_or_same k n = grind arith

-- where none is counted no term is inside
none_inside : {Q : Type 0} (f : Q → Known) (ts : List (List (Literal Q))) → inside_count f ts ≡ 0 → Each (λ t. term_known f t ≡ Inside → ⊥) ts
none_inside f [] e x i h = i
none_inside f (t ∷ ts) e x (inl q) h = let a = counted f t x ts q h in omega arith
none_inside f (t ∷ ts) e x (inr i) h = none_inside f ts (let a = more_or_same (term_known f t) (inside_count f ts) in omega arith) x i h

-- one that is inside counts
some_counts : {Q : Type 0} (f : Q → Known) (ts : List (List (Literal Q))) (t : List (Literal Q)) → In t ts → term_known f t ≡ Inside → 1 ≤ inside_count f ts
some_counts f [] t i h = absurd i
some_counts f (s ∷ ts) t (inl q) h = let a = counted f s t ts q h in omega arith
some_counts f (s ∷ ts) t (inr i) h = let a = more_or_same (term_known f s) (inside_count f ts) in omega (arith, some_counts f ts t i h)

-- where the count isn't 0 some term is
some_inside : {Q : Type 0} (f : Q → Known) (ts : List (List (Literal Q))) → 1 ≤ inside_count f ts → SomeIn (λ t. term_known f t ≡ Inside) ts
some_inside f [] h = absurd (omega arith)
some_inside {Q} f (t ∷ ts) h = by (term_known f t) refl h (λ l. let r = some_inside f ts l in (r.0, inr r.1, r.2))
  where
    by : (k : Known) → term_known f t ≡ k → 1 ≤ one_more k (inside_count f ts) → (1 ≤ inside_count f ts → SomeIn (λ t. term_known f t ≡ Inside) (t ∷ ts)) → SomeIn (λ t. term_known f t ≡ Inside) (t ∷ ts)
    by Inside e l later = (t, inl refl, e)
    by Outside e l later = later l
    by Open e l later = later l

-- one of three
is_inside : (k : Known) → (k ≡ Open → ⊥) → (k ≡ Outside → ⊥) → k ≡ Inside
is_inside Inside n m = refl
is_inside Outside n m = absurd (m refl)
is_inside Open n m = absurd (n refl)

is_outside : (k : Known) → (k ≡ Open → ⊥) → (k ≡ Inside → ⊥) → k ≡ Outside
is_outside Inside n m = absurd (m refl)
is_outside Outside n m = refl
is_outside Open n m = absurd (n refl)

-- of terms that aren't open, at most one of which is inside, no two stay
one_stays : {Q : Type 0} (f : Q → Known) (ts : List (List (Literal Q))) → Each (λ t. term_known f t ≡ Open → ⊥) ts → inside_count f ts ≤ 1 → Apart (Stays f) ts
one_stays f [] n h = tt
one_stays f (t ∷ ts) n h = (
  λ y i p q.
      let a = counted f t t ts refl (is_inside (term_known f t) (n t (inl refl)) p) in
      let b = is_inside (term_known f y) (n y (inr i)) q in
      omega (arith, some_counts f ts y i b),
  one_stays f ts (λ y i. n y (inr i)) (let a = more_or_same (term_known f t) (inside_count f ts) in omega arith),
)

-- what a good or a bare leaf says of the terms and the demands
pub record IsSettledLeaf {Q : Type 0} (f : Q → Known) (ds : List (Demand Q)) (ts : List (List (Literal Q))) (ending : Ending) : Type 0 where
  -- a demand is broken and all terms are refuted, or all demands are done
  pub demands : ((demands_known f ds ≡ Outside) × Each (λ t. term_known f t ≡ Outside) ts) ⊎ (demands_known f ds ≡ Inside)
  -- no two terms stay
  pub apart : Apart (Stays f) ts
  -- where all demands are done a term is inside, or the leaf is bare
  pub served : demands_known f ds ≡ Inside → SomeIn (λ t. term_known f t ≡ Inside) ts ⊎ (ending ≡ bare)
  -- of a bare leaf all demands are done
  pub done : ending ≡ bare → demands_known f ds ≡ Inside

-- the endings without a flaw of their own
abbrev pub IsFair : Ending → Type 0
IsFair good = Unit {0}
IsFair bare = Unit {0}
IsFair twice = ⊥
IsFair extra = ⊥

ends_same : {Q : Type 0} (x y : Ending) → (let t : Treatment Q = ends x in t) ≡ ends y → x ≡ y
ends_same x y e = cc

good_is_not_bare : good ≡ bare → ⊥
good_is_not_bare e = cc

module _ {Q : Type 0} (f : Q → Known) (ds : List (Demand Q)) (ts : List (List (Literal Q))) where
  -- no term is open where none is asked
  none_open : next_of_terms f ts ≡ None → Each (λ t. term_known f t ≡ Open → ⊥) ts
  none_open e = first_open_none (term_known f) (λ (t : List (Literal Q)). first_open (literal_known f) (λ (l : Literal Q). Some l.question) t) ts (λ t h. open_picked (literal_known f) (λ (l : Literal Q). l.question) t h) e

  all_refuted : inside_count f ts ≡ 0 → next_of_terms f ts ≡ None → Each (λ t. term_known f t ≡ Outside) ts
  all_refuted c e t i = is_outside (term_known f t) (none_open e t i) (none_inside f ts c t i)

  broken_ends : (n : ℕ) (o : Option Q) (x : Ending) → inside_count f ts ≡ n → next_of_terms f ts ≡ o → demands_known f ds ≡ Outside → IsFair x → broken_cell n o ≡ ends x → IsSettledLeaf f ds ts x
  broken_ends zero None x c e k fair q = record {
    demands = inl (k, all_refuted c e);
    apart = one_stays f ts (none_open e) (omega arith);
    served = λ h. let z : Inside ≡ Outside = sym h ∙ k in absurd (cc);
    done = λ h. absurd (good_is_not_bare (ends_same {Q = Q} good x q ∙ h));
  }
  broken_ends zero (Some p) x c e k fair q = absurd (let z : (let t : Treatment Q = splits p in t) ≡ ends x = q in cc)
  broken_ends (suc n) o x c e k fair q = absurd (subst IsFair (sym (ends_same {Q = Q} extra x q)) fair)

  done_ends : (n : ℕ) (o : Option Q) (x : Ending) → inside_count f ts ≡ n → next_of_terms f ts ≡ o → demands_known f ds ≡ Inside → IsFair x → done_cell n o ≡ ends x → IsSettledLeaf f ds ts x
  done_ends zero None x c e k fair q = record {
    demands = inr k;
    apart = one_stays f ts (none_open e) (omega arith);
    served = λ h. inr (sym (ends_same {Q = Q} bare x q));
    done = λ h. k;
  }
  done_ends zero (Some p) x c e k fair q = absurd (let z : (let t : Treatment Q = splits p in t) ≡ ends x = q in cc)
  done_ends (suc zero) None x c e k fair q = record {
    demands = inr k;
    apart = one_stays f ts (none_open e) (omega arith);
    served = λ h. inl (some_inside f ts (omega arith));
    done = λ h. k;
  }
  done_ends (suc zero) (Some p) x c e k fair q = absurd (let z : (let t : Treatment Q = splits p in t) ≡ ends x = q in cc)
  done_ends (suc (suc n)) o x c e k fair q = absurd (subst IsFair (sym (ends_same {Q = Q} twice x q)) fair)

  open_ends : (o : Option Q) (x : Ending) → open_cell o ≡ ends x → ⊥
  open_ends None x q = let z : (let t : Treatment Q = stuck in t) ≡ ends x = q in cc
  open_ends (Some p) x q = let z : (let t : Treatment Q = splits p in t) ≡ ends x = q in cc

  -- a cell that ends without a flaw of its own is settled
  pub ends_settled : (x : Ending) → IsFair x → treated (demands_known f ds) (inside_count f ts) (next_of_terms f ts) (next_question f ds) ≡ ends x → IsSettledLeaf f ds ts x
  ends_settled x fair q = by (demands_known f ds) refl q
    where
      by : (k : Known) → demands_known f ds ≡ k → treated k (inside_count f ts) (next_of_terms f ts) (next_question f ds) ≡ ends x → IsSettledLeaf f ds ts x
      by Outside e q = broken_ends (inside_count f ts) (next_of_terms f ts) x refl refl e fair q
      by Inside e q = done_ends (inside_count f ts) (next_of_terms f ts) x refl refl e fair q
      by Open e q = absurd (open_ends (next_question f ds) x q)
