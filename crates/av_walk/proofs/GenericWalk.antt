-- The walk, for any kind of box and question: a box that ends is its only leaf, and a box that is split has the leaves of its two
-- parts, however many steps more than the open questions are allowed.
use Rattle.std.proofs.Common.{◌≡◌, ℕ, zero, suc, ◌+◌, ◌-◌, ◌<◌, ◌≤◌, ◌⊎◌, inl, inr, List, [], ◌∷◌, ◌++◌, map, length, Bool, true, false, Option, Some, None, refl, sym, ap, ap₂, ◌∙◌, subst, arith, length-append, sum_by}
use Rattle.std.specs.List.{flat_map}
use Rattle.std.proofs.lemmas.List.{length-map}
use Rattle.std.proofs.lemmas.List.Sums.{sum_by-cons}
use Rattle.av_perm.specs.Members.{In}
use Rattle.av_perm.proofs.Membership.{Each, append_left, append_right, flat_map_In, map_In}
use Rattle.av_name.specs.declared.constraints.Known.{Known}
use Rattle.av_name.specs.declared.constraints.Known.TheVariants.{Inside, Outside, Open}
use Rattle.av_split.specs.Split.{Demand, demands_known, at_open, first_open, next_question, Rules, questions_of}
use Rattle.av_split.proofs.OpenQuestions.{next_finds, turned_open, open_count, open_count_length, open_count_less}
use Rattle.av_split.proofs.GenericSplit.{Lawful}
use Rattle.av_walk.specs.Walk.{Literal, literal_known, term_known, next_of_terms, inside_count, Ending, good, bare, twice, extra, Treatment, ends, splits, stuck, broken_cell, done_cell, open_cell, treated, treatment, Leaf, leaves_by, walk_by, walk_questions, walk}

-- what `g` picks in the first open item is of an open item
pub first_open_from : {A X : Type 0} (f : A → Known) (g : A → Option X) (xs : List A) (q : X) → first_open f g xs ≡ Some q → (x : A) × In x xs × (f x ≡ Open) × (g x ≡ Some q)
first_open_from f g [] q e = absurd (let z : None ≡ Some q = e in cc)
first_open_from {A} f g (x ∷ xs) q e = by (f x) refl e (λ d. let r = first_open_from f g xs q d in (r.0, inr r.1, r.2, r.3))
  where
    by : (k : Known) → f x ≡ k → at_open k (g x) (first_open f g xs) ≡ Some q → (first_open f g xs ≡ Some q → (y : A) × In y (x ∷ xs) × (f y ≡ Open) × (g y ≡ Some q))
        → (y : A) × In y (x ∷ xs) × (f y ≡ Open) × (g y ≡ Some q)
    by Open h d deeper = (x, inl refl, h, d)
    by Inside h d deeper = deeper d
    by Outside h d deeper = deeper d

-- all questions of the demands and the terms
abbrev pub questions_with : {Q : Type 0} → List (Demand Q) → List (List (Literal Q)) → List Q
questions_with {Q} ds ts = questions_of ds ++ flat_map (λ (t : List (Literal Q)). map (λ (l : Literal Q). l.question) t) ts

-- they are as many as the walk counts
terms_length : {Q : Type 0} (ts : List (List (Literal Q))) → length (flat_map (λ (t : List (Literal Q)). map (λ (l : Literal Q). l.question) t) ts) ≡ sum_by (λ (t : List (Literal Q)). length t) ts
terms_length [] = refl
terms_length {Q} (t ∷ ts) =
    omega (
      arith,
      length-append (map (λ (l : Literal Q). l.question) t) (flat_map (λ (t : List (Literal Q)). map (λ (l : Literal Q). l.question) t) ts),
      length-map t (λ (l : Literal Q). l.question),
      sum_by-cons (λ (t : List (Literal Q)). length t) t ts,
      terms_length ts,
    )

pub questions_length : {Q : Type 0} (ds : List (Demand Q)) (ts : List (List (Literal Q))) → length (questions_with ds ts) ≡ walk_questions ds ts
questions_length {Q} ds ts = omega (arith, length-append (questions_of ds) (flat_map (λ (t : List (Literal Q)). map (λ (l : Literal Q). l.question) t) ts), terms_length ts)

module _ {Q : Type 0} (f : Q → Known) (ds : List (Demand Q)) (ts : List (List (Literal Q))) where
  -- a question that is asked is open, and one of all
  abbrev pub IsAsked : Q → Type 0
  IsAsked q = (f q ≡ Open) × In q (questions_with ds ts)

  term_asked : (q : Q) → next_of_terms f ts ≡ Some q → IsAsked q
  term_asked q e =
      let a = first_open_from (term_known f) (λ (t : List (Literal Q)). first_open (literal_known f) (λ (l : Literal Q). Some l.question) t) ts q e in
      let b = first_open_from (literal_known f) (λ (l : Literal Q). Some l.question) a.0 q a.3 in
      let s : b.0.question ≡ q = some_same b.0.question q b.3 in (
        ap f (sym s) ∙ turned_open b.0.required (f b.0.question) b.2,
        append_right (questions_of ds) (flat_map (λ (t : List (Literal Q)). map (λ (l : Literal Q). l.question) t) ts) q
            (flat_map_In (λ (t : List (Literal Q)). map (λ (l : Literal Q). l.question) t) ts a.0 q a.1 (subst (λ p. In p (map (λ (l : Literal Q). l.question) a.0)) s (map_In (λ (l : Literal Q). l.question) a.0 b.0 b.1))),
      )
    where
      some_same : (x y : Q) → Some x ≡ Some y → x ≡ y
      some_same x y e = cc

  demand_asked : (q : Q) → demands_known f ds ≡ Open → next_question f ds ≡ Some q → IsAsked q
  demand_asked q k e =
      let n = next_finds f ds k in
      let s : n.0 ≡ q = some_same n.0 q (sym n.1 ∙ e) in
      subst IsAsked s (n.2.0, append_left (questions_of ds) (flat_map (λ (t : List (Literal Q)). map (λ (l : Literal Q). l.question) t) ts) n.0 n.2.1)
    where
      some_same : (x y : Q) → Some x ≡ Some y → x ≡ y
      some_same x y e = cc

  splits_same : (x y : Q) → splits x ≡ splits y → x ≡ y
  splits_same x y e = cc

  broken_splits : (n : ℕ) (o : Option Q) (q : Q) → next_of_terms f ts ≡ o → broken_cell n o ≡ splits q → IsAsked q
  broken_splits zero None q e s = absurd (let z : ends good ≡ splits q = s in cc)
  broken_splits zero (Some p) q e s = term_asked q (e ∙ ap Some (splits_same p q s))
  broken_splits (suc n) o q e s = absurd (let z : ends extra ≡ splits q = s in cc)

  done_splits : (n : ℕ) (o : Option Q) (q : Q) → next_of_terms f ts ≡ o → done_cell n o ≡ splits q → IsAsked q
  done_splits zero None q e s = absurd (let z : ends bare ≡ splits q = s in cc)
  done_splits zero (Some p) q e s = term_asked q (e ∙ ap Some (splits_same p q s))
  done_splits (suc zero) None q e s = absurd (let z : ends good ≡ splits q = s in cc)
  done_splits (suc zero) (Some p) q e s = term_asked q (e ∙ ap Some (splits_same p q s))
  done_splits (suc (suc n)) o q e s = absurd (let z : ends twice ≡ splits q = s in cc)

  open_splits : (o : Option Q) (q : Q) → demands_known f ds ≡ Open → next_question f ds ≡ o → open_cell o ≡ splits q → IsAsked q
  open_splits None q k e s = absurd (let z : (let t : Treatment Q = stuck in t) ≡ splits q = s in cc)
  open_splits (Some p) q k e s = demand_asked q k (e ∙ ap Some (splits_same p q s))

  -- a box that is split is split at such a question
  pub splits_asked : (q : Q) → treated (demands_known f ds) (inside_count f ts) (next_of_terms f ts) (next_question f ds) ≡ splits q → IsAsked q
  splits_asked q s = by (demands_known f ds) refl s
    where
      by : (k : Known) → demands_known f ds ≡ k → treated k (inside_count f ts) (next_of_terms f ts) (next_question f ds) ≡ splits q → IsAsked q
      by Outside e s = broken_splits (inside_count f ts) (next_of_terms f ts) q refl s
      by Inside e s = done_splits (inside_count f ts) (next_of_terms f ts) q refl s
      by Open e s = open_splits (next_question f ds) q e refl s

  broken_not_stuck : (n : ℕ) (o : Option Q) → broken_cell n o ≡ stuck → ⊥
  broken_not_stuck zero None s = let z : ends good ≡ stuck = s in cc
  broken_not_stuck zero (Some p) s = let z : splits p ≡ stuck = s in cc
  broken_not_stuck (suc n) o s = let z : ends extra ≡ stuck = s in cc

  done_not_stuck : (n : ℕ) (o : Option Q) → done_cell n o ≡ stuck → ⊥
  done_not_stuck zero None s = let z : ends bare ≡ stuck = s in cc
  done_not_stuck zero (Some p) s = let z : splits p ≡ stuck = s in cc
  done_not_stuck (suc zero) None s = let z : ends good ≡ stuck = s in cc
  done_not_stuck (suc zero) (Some p) s = let z : splits p ≡ stuck = s in cc
  done_not_stuck (suc (suc n)) o s = let z : ends twice ≡ stuck = s in cc

  -- no box is stuck
  pub never_stuck : treated (demands_known f ds) (inside_count f ts) (next_of_terms f ts) (next_question f ds) ≡ stuck → ⊥
  never_stuck s = by (demands_known f ds) refl s
    where
      by : (k : Known) → demands_known f ds ≡ k → treated k (inside_count f ts) (next_of_terms f ts) (next_question f ds) ≡ stuck → ⊥
      by Outside e s = broken_not_stuck (inside_count f ts) (next_of_terms f ts) s
      by Inside e s = done_not_stuck (inside_count f ts) (next_of_terms f ts) s
      by Open e s = let n = next_finds f ds e in let z : splits n.0 ≡ stuck = sym (ap open_cell n.1) ∙ s in cc

-- the leaf or the parts
pub leaves_ends : {B Q : Type 0} (t : Treatment Q) (b : B) (m : Q → List (Leaf B)) (x : Ending) → t ≡ ends x → leaves_by t b m ≡ record { cell = b; ending = x } ∷ []
leaves_ends t b m x e = ap (λ s. leaves_by s b m) e

pub leaves_splits : {B Q : Type 0} (t : Treatment Q) (b : B) (m : Q → List (Leaf B)) (q : Q) → t ≡ splits q → leaves_by t b m ≡ m q
leaves_splits t b m q e = ap (λ s. leaves_by s b m) e

-- one of three
pub treatment_cases : {Q : Type 0} (t : Treatment Q) → ((x : Ending) × (t ≡ ends x)) ⊎ (((q : Q) × (t ≡ splits q)) ⊎ (t ≡ stuck))
treatment_cases (ends x) = inl (x, refl)
treatment_cases (splits q) = inr (inl (q, refl))
treatment_cases stuck = inr (inr refl)

module _ {B Q : Type 0} (r : Rules B Q) (Fine : B → Type 0) (Apt : Q → Type 0) (law : Lawful r Fine Apt) (ds : List (Demand Q)) (ts : List (List (Literal Q))) (apt : Each Apt (questions_with ds ts)) where
  -- how many questions are open in a box
  abbrev pub open_in : B → ℕ
  open_in b = open_count (r.known b) (questions_with ds ts)

  -- a part has fewer
  pub falls : (w : Bool) (b : B) (q : Q) → Fine b → In q (questions_with ds ts) → r.known b q ≡ Open → open_in (r.settle w b q) < open_in b
  falls w b q f i e = open_count_less (r.known (r.settle w b q)) (r.known b) (questions_with ds ts) q (λ p j k. law.keeps w b q p f (apt q i) (apt p j) e k) i e (law.settles w b q f (apt q i) e)

  -- what the two parts of a box give
  abbrev parts : ℕ → B → Q → List (Leaf B)
  parts d b q = walk_by r ds ts d (r.settle false b q) ++ walk_by r ds ts d (r.settle true b q)

  walk_ends : (d : ℕ) (b : B) (x : Ending) → treatment r ds ts b ≡ ends x → walk_by r ds ts d b ≡ record { cell = b; ending = x } ∷ []
  walk_ends zero b x e = leaves_ends (treatment r ds ts b) b (λ q. []) x e
  walk_ends (suc d) b x e = leaves_ends (treatment r ds ts b) b (parts d b) x e

  walk_splits : (d : ℕ) (b : B) (q : Q) → treatment r ds ts b ≡ splits q → walk_by r ds ts (suc d) b ≡ parts d b q
  walk_splits d b q e = leaves_splits (treatment r ds ts b) b (parts d b) q e

  -- a further step changes nothing where there are as many as open questions
  walk_enough : (d : ℕ) (b : B) → Fine b → open_in b ≤ d → walk_by r ds ts (suc d) b ≡ walk_by r ds ts d b
  walk_enough zero b f h = elim (treatment_cases (treatment r ds ts b)) [
    | inl k ↦ walk_ends 1 b k.0 k.1 ∙ sym (walk_ends 0 b k.0 k.1)
    | inr (inl k) ↦ let a = splits_asked (r.known b) ds ts k.0 k.1 in absurd (omega (arith, falls false b k.0 f a.1 a.0))
    | inr (inr k) ↦ absurd (never_stuck (r.known b) ds ts k)
  ]
  walk_enough (suc d) b f h = elim (treatment_cases (treatment r ds ts b)) [
    | inl k ↦ walk_ends (suc (suc d)) b k.0 k.1 ∙ sym (walk_ends (suc d) b k.0 k.1)
    | inr (inl k) ↦
        let q : Q = k.0 in
        let a = splits_asked (r.known b) ds ts q k.1 in
        let p = apt q a.1 in
        walk_splits (suc d) b q k.1
        ∙ ap₂ (λ x y. x ++ y)
        (walk_enough d (r.settle false b q) (law.fine false b q f p a.0) (omega (arith, falls false b q f a.1 a.0)))
        (walk_enough d (r.settle true b q) (law.fine true b q f p a.0) (omega (arith, falls true b q f a.1 a.0)))
        ∙ sym (walk_splits d b q k.1)
    | inr (inr k) ↦ absurd (never_stuck (r.known b) ds ts k)
  ]

  walk_same : (j d : ℕ) (b : B) → Fine b → open_in b ≤ d → walk_by r ds ts (j + d) b ≡ walk_by r ds ts d b
  walk_same zero d b f h = let e : 0 + d ≡ d = omega arith in ap (λ n. walk_by r ds ts n b) e
  walk_same (suc j) d b f h = let e : suc j + d ≡ suc (j + d) = omega arith in ap (λ n. walk_by r ds ts n b) e ∙ walk_enough (j + d) b f (omega arith) ∙ walk_same j d b f h

  few_open : (b : B) → open_in b ≤ walk_questions ds ts
  few_open b = omega (arith, open_count_length (r.known b) (questions_with ds ts), questions_length ds ts)

  -- a box that ends
  pub walk_leaf_only : (b : B) (x : Ending) → treatment r ds ts b ≡ ends x → walk r ds ts b ≡ record { cell = b; ending = x } ∷ []
  walk_leaf_only b x e = walk_ends (walk_questions ds ts) b x e

  -- a box that is split
  pub walk_parts : (b : B) (q : Q) → Fine b → treatment r ds ts b ≡ splits q → walk r ds ts b ≡ walk r ds ts (r.settle false b q) ++ walk r ds ts (r.settle true b q)
  walk_parts b q f e =
      let n : ℕ = walk_questions ds ts in
      let i = splits_asked (r.known b) ds ts q e in
      let p = apt q i.1 in
      let a = falls false b q f i.1 i.0 in
      let c = falls true b q f i.1 i.0 in
      let l = few_open b in
      let m : suc (n - 1) ≡ n = omega arith in
      let m1 : 1 + (n - 1) ≡ n = omega arith in
      let one : (x : B) → Fine x → open_in x ≤ n - 1 → walk_by r ds ts (n - 1) x ≡ walk_by r ds ts n x =
      λ x g k. sym (walk_same 1 (n - 1) x g k) ∙ ap (λ j. walk_by r ds ts j x) m1 in
      ap (λ j. walk_by r ds ts j b) (sym m)
      ∙ walk_splits (n - 1) b q e
      ∙ ap₂ (λ x y. x ++ y) (one (r.settle false b q) (law.fine false b q f p i.0) (omega arith)) (one (r.settle true b q) (law.fine true b q f p i.0) (omega arith))
