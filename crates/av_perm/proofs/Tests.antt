-- Tests of all and of some elements of a list, the first that passes, and tests that agree.
use Rattle.std.proofs.Common.{◌≡◌, ℕ, zero, suc, ◌+◌, ◌<◌, ◌≤◌, inl, inr, ◌↔◌, List, [], ◌∷◌, Bool, true, false, not, ◌&&◌, ◌||◌, cond, nat_eq, nat_lt, find, Some, None, eq-eqb, lt-ltb, refl, sym, ap, ◌∙◌, subst, arith}
use Rattle.std.specs.List.{list_all, list_any, filter, slice_get}
use Rattle.std.specs.Cmp.Lexicographic.{pointwise}
use Rattle.std.proofs.lemmas.Bool.{cases_Bool, cases_lt, cases_eq, le-ltb, ltb-true, and_parts, and_from, or_cases, or_left, or_right}
use Rattle.av_perm.specs.Lists.{alike, counting, same}
use Rattle.av_perm.proofs.Membership.{In}

-- of the n numbers from lo on, g is the least that passes
pub record IsLeastOf (t : ℕ → Bool) (lo n g : ℕ) : Type 0 where
  pub low : lo ≤ g
  pub high : g < lo + n
  pub passes : t g ≡ true
  pub least : (k : ℕ) → lo ≤ k → k < g → t k ≡ false

-- some element passes
pub any_from : {A : Type 0} (f : A → Bool) (xs : List A) → list_any f xs ≡ true → (x : A) × In x xs × (f x ≡ true)
any_from f [] e = absurd (cc)
any_from f (x ∷ xs) e = elim (or_cases (f x) (list_any f xs) e) [
  | inl h ↦ (x, inl refl, h)
  | inr h ↦ let r = any_from f xs h in (r.0, inr r.1, r.2)
]

-- an element that passes makes the test of some pass
pub any_to : {A : Type 0} (f : A → Bool) (xs : List A) (x : A) → In x xs → f x ≡ true → list_any f xs ≡ true
any_to f [] x i e = absurd i
any_to f (y ∷ xs) x (inl q) e = or_left (f y) (list_any f xs) (ap f (sym q) ∙ e)
any_to f (y ∷ xs) x (inr i) e = or_right (f y) (list_any f xs) (any_to f xs x i e)

-- each element passes
pub all_from : {A : Type 0} (f : A → Bool) (xs : List A) → list_all f xs ≡ true → (x : A) → In x xs → f x ≡ true
all_from f [] e x i = absurd i
all_from f (y ∷ xs) e x (inl q) = ap f q ∙ (and_parts (f y) (list_all f xs) e).0
all_from f (y ∷ xs) e x (inr i) = all_from f xs (and_parts (f y) (list_all f xs) e).1 x i

-- where each element passes the test of all does
pub all_to : {A : Type 0} (f : A → Bool) (xs : List A) → ((x : A) → In x xs → f x ≡ true) → list_all f xs ≡ true
all_to f [] h = refl
all_to f (x ∷ xs) h = and_from (f x) (list_all f xs) (h x (inl refl)) (all_to f xs (λ y i. h y (inr i)))

-- some element fails
pub all_fails : {A : Type 0} (f : A → Bool) (xs : List A) → list_all f xs ≡ false → (x : A) × In x xs × (f x ≡ false)
all_fails f [] e = absurd (cc)
all_fails f (x ∷ xs) e = elim (cases_Bool (f x)) [
  | inl h ↦ let r = all_fails f xs (ap (λ b. b && list_all f xs) (sym h) ∙ e) in (r.0, inr r.1, r.2)
  | inr h ↦ (x, inl refl, h)
]

-- a test that is turned round
pub not_from : (b : Bool) → not b ≡ true → b ≡ true → ⊥
not_from true e h = cc
not_from false e h = cc

-- a test that does not pass, turned round
pub not_to : (b : Bool) → (b ≡ true → ⊥) → not b ≡ true
not_to true h = absurd (h refl)
not_to false h = refl

-- the first element that passes
pub found_In : {A : Type 0} (t : A → Bool) (xs : List A) (x : A) → find t xs ≡ Some x → In x xs × (t x ≡ true)
found_In t [] x e = absurd (cc)
found_In t (y ∷ xs) x e = by (t y) refl e (found_In t xs x)
  where
    by : (b : Bool) → t y ≡ b → cond b (Some y) (find t xs) ≡ Some x → (find t xs ≡ Some x → In x xs × (t x ≡ true)) → In x (y ∷ xs) × (t x ≡ true)
    by true h e f = let q : y ≡ x = cc in (inl (sym q), subst (λ z. t z ≡ true) q h)
    by false h e f = let r = f e in (inr r.0, r.1)

-- where some element passes one is found
pub finds : {A : Type 0} (t : A → Bool) (xs : List A) (x : A) → In x xs → t x ≡ true → (y : A) × (find t xs ≡ Some y) × In y xs × (t y ≡ true)
finds t [] x i e = absurd i
finds {A = A} t (y ∷ xs) x i e = by (t y) refl i (finds t xs x)
  where
    by : (b : Bool) → t y ≡ b → In x (y ∷ xs) → (In x xs → t x ≡ true → (z : A) × (find t xs ≡ Some z) × In z xs × (t z ≡ true))
        → (z : A) × (cond b (Some y) (find t xs) ≡ Some z) × In z (y ∷ xs) × (t z ≡ true)
    by true h j f = (y, refl, inl refl, h)
    by false h (inl q) f = absurd (let u : t y ≡ true = subst (λ z. t z ≡ true) q e in cc)
    by false h (inr j) f = let r = f j e in (r.0, r.1, inr r.2, r.3)

-- none is found exactly where none passes
pub found_any : {A : Type 0} (t : A → Bool) (xs : List A) → (find t xs ≡ None) ↔ (list_any t xs ≡ true → ⊥)
found_any t [] = (λ e h. cc, λ h. refl)
found_any t (y ∷ xs) = by (t y) (found_any t xs)
  where
    by : (b : Bool) → (find t xs ≡ None) ↔ (list_any t xs ≡ true → ⊥) → (cond b (Some y) (find t xs) ≡ None) ↔ ((b || list_any t xs) ≡ true → ⊥)
    by true h = (λ e k. cc, λ k. absurd (k refl))
    by false h = h

-- what is found is the first of those that pass
pub find_first : {A : Type 0} (t : A → Bool) (xs : List A) → find t xs ≡ slice_get (filter t xs) 0
find_first t [] = refl
find_first t (y ∷ xs) = by (t y) (find_first t xs)
  where
    by : (b : Bool) → find t xs ≡ slice_get (filter t xs) 0 → cond b (Some y) (find t xs) ≡ slice_get (cond b (y ∷ filter t xs) (filter t xs)) 0
    by true h = refl
    by false h = h

-- the least number of a run that passes
pub find_least : (t : ℕ → Bool) (n lo g : ℕ) → find t (counting lo n) ≡ Some g → IsLeastOf t lo n g
find_least t zero lo g e = absurd (cc)
find_least t (suc n) lo g e = by (t lo) refl e (find_least t n (suc lo) g)
  where
    before : t lo ≡ false → ((k : ℕ) → suc lo ≤ k → k < g → t k ≡ false) → (k : ℕ) → lo ≤ k → k < g → t k ≡ false
    before e f k l h = elim (cases_eq k lo) [ inl q ↦ ap t q ∙ e | inr ne ↦ f k (omega (arith, ne)) h ]

    by : (b : Bool) → t lo ≡ b → cond b (Some lo) (find t (counting (suc lo) n)) ≡ Some g
        → (find t (counting (suc lo) n) ≡ Some g → IsLeastOf t (suc lo) n g) → IsLeastOf t lo (suc n) g
    by true h q deeper =
        let e : lo ≡ g = cc in
        record { low = omega arith; high = omega arith; passes = subst (λ k. t k ≡ true) e h; least = λ k l m. absurd (omega arith) }
    by false h q deeper =
        let r = deeper q in
        record { low = omega (arith, r.low); high = omega (arith, r.high); passes = r.passes; least = before h r.least }

-- the least that passes is found
pub least_find : (t : ℕ → Bool) (n lo g : ℕ) → IsLeastOf t lo n g → find t (counting lo n) ≡ Some g
least_find t zero lo g r = absurd (omega (arith, r.low, r.high))
least_find t (suc n) lo g r = elim (cases_eq lo g) [
  | inl e ↦ rw (ap t e ∙ r.passes) (ap Some e)
  | inr ne ↦ rw (r.least lo (omega arith) (omega (arith, ne, r.low))) (least_find t n (suc lo) g (record {
    low = omega (arith, ne, r.low);
    high = omega (arith, r.high);
    passes = r.passes;
    least = λ k l m. r.least k (omega arith) m;
  }))
]

-- two comparisons that agree
pub agree_from : (a b c d : ℕ) → alike (nat_lt a b) (nat_lt c d) ≡ true → (a < b) ↔ (c < d)
agree_from a b c d e = elim (cases_lt a b) [
  | inl l ↦ let k = ap (λ x. alike x (nat_lt c d)) (sym (lt-ltb a b l)) ∙ e in (λ m. ltb-true c d k, λ m. l)
  | inr l ↦
      let k = ap (λ x. alike x (nat_lt c d)) (sym (le-ltb a b l)) ∙ e in
      (λ m. absurd (omega arith), λ m. absurd (not_from (nat_lt c d) k (lt-ltb c d m)))
]

-- two comparisons that say the same agree
pub agree_to : (a b c d : ℕ) → (a < b) ↔ (c < d) → alike (nat_lt a b) (nat_lt c d) ≡ true
agree_to a b c d h = elim (cases_lt a b) [
  | inl l ↦ ap (λ x. alike x (nat_lt c d)) (lt-ltb a b l) ∙ lt-ltb c d (h.0 l)
  | inr l ↦
      ap (λ x. alike x (nat_lt c d)) (le-ltb a b l)
      ∙ ap not (le-ltb c d (elim (cases_lt c d) [ inl m ↦ let k = h.1 m in absurd (omega arith) | inr m ↦ m ]))
]

-- a list of numbers is equal to itself
pub same_refl : (w : List ℕ) → same w w ≡ true
same_refl w = go w
  where
    go : (w : List ℕ) → pointwise nat_eq w w ≡ true
    go [] = refl
    go (x ∷ w) = rw (eq-eqb x x refl) (go w)
