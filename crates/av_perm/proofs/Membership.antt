-- Elements of lists: by index, and of lists that are joined, mapped, filtered or counted.
use Rattle.std.proofs.Common.{◌≡◌, ℕ, zero, suc, ◌+◌, ◌<◌, ◌≤◌, ◌⊎◌, inl, inr, List, [], ◌∷◌, ◌++◌, map, length, get_or, All, Bool, true, cond, refl, sym, ap, ◌∙◌, subst, arith}
use Rattle.std.specs.List.{filter, flat_map}
use Rattle.std.proofs.lemmas.Bool.{cases_Bool, cases_eq}
pub use Rattle.av_perm.specs.Members.{In}
use Rattle.av_perm.specs.Lists.{counting, before_each}
use Rattle.av_perm.specs.Inflate.{joined}

-- what holds of each element
abbrev pub Each : {A : Type 0} → (A → Type 0) → List A → Type 0
Each {A} P xs = (x : A) → In x xs → P x

-- what holds of some element
abbrev pub SomeIn : {A : Type 0} → (A → Type 0) → List A → Type 0
SomeIn {A} P xs = (x : A) × In x xs × P x

-- an element at its index
pub In_at : {A : Type 0} (xs : List A) (s : ℕ) (d : A) → s < length xs → In (get_or xs s d) xs
In_at [] s d h = absurd (omega arith)
In_at (x ∷ xs) zero d h = inl refl
In_at (x ∷ xs) (suc s) d h = inr (In_at xs s d (omega arith))

-- an index of an element
pub at_In : {A : Type 0} (xs : List A) (a : A) (d : A) → In a xs → (s : ℕ) × (s < length xs) × (get_or xs s d ≡ a)
at_In [] a d h = absurd h
at_In (x ∷ xs) a d (inl e) = (0, omega arith, sym e)
at_In (x ∷ xs) a d (inr h) = let r = at_In xs a d h in (suc r.0, omega arith, r.2)

-- what holds of each element holds at each index
pub each_all : {A : Type 0} (Q : A → Type 0) (xs : List A) → Each Q xs → All Q xs
each_all Q xs h k d lt = h _ (In_at xs k d lt)

-- and the other way round
pub all_each : {A : Type 0} (Q : A → Type 0) (xs : List A) → All Q xs → Each Q xs
all_each Q xs h x i = let s = at_In xs x x i in subst Q s.2 (h s.0 x s.1)

-- the only element of a list of one
pub In_one : {A : Type 0} (x b : A) → In x (b ∷ []) → x ≡ b
In_one x b (inl e) = e
In_one x b (inr i) = absurd i

-- a list without elements is empty
pub nil_from : {A : Type 0} (xs : List A) → ((x : A) → In x xs → ⊥) → xs ≡ []
nil_from [] h = refl
nil_from (x ∷ xs) h = absurd (h x (inl refl))

-- elements of two lists joined
pub In_append_cases : {A : Type 0} (xs ys : List A) (a : A) → In a (xs ++ ys) → In a xs ⊎ In a ys
In_append_cases [] ys a h = inr h
In_append_cases (x ∷ xs) ys a (inl e) = inl (inl e)
In_append_cases (x ∷ xs) ys a (inr h) = elim (In_append_cases xs ys a h) [ inl k ↦ inl (inr k) | inr k ↦ inr k ]

-- an element of the first of two lists joined
pub append_left : {A : Type 0} (xs ys : List A) (a : A) → In a xs → In a (xs ++ ys)
append_left [] ys a h = absurd h
append_left (x ∷ xs) ys a (inl e) = inl e
append_left (x ∷ xs) ys a (inr h) = inr (append_left xs ys a h)

-- an element of the second of two lists joined
pub append_right : {A : Type 0} (xs ys : List A) (a : A) → In a ys → In a (xs ++ ys)
append_right [] ys a h = h
append_right (x ∷ xs) ys a h = inr (append_right xs ys a h)

-- elements of a mapped list
pub In_map : {A B : Type 0} (f : A → B) (xs : List A) (b : B) → In b (map f xs) → (a : A) × In a xs × (b ≡ f a)
In_map f [] b h = absurd h
In_map f (x ∷ xs) b (inl e) = (x, inl refl, e)
In_map f (x ∷ xs) b (inr h) = let r = In_map f xs b h in (r.0, inr r.1, r.2)

-- the image of an element is in the mapped list
pub map_In : {A B : Type 0} (f : A → B) (xs : List A) (a : A) → In a xs → In (f a) (map f xs)
map_In f [] a h = absurd h
map_In f (x ∷ xs) a (inl e) = inl (ap f e)
map_In f (x ∷ xs) a (inr h) = inr (map_In f xs a h)

-- elements of many lists joined
pub In_joined : {A : Type 0} (F : ℕ → List A) (n : ℕ) (a : A) → In a (joined F n) → (j : ℕ) × (j < n) × In a (F j)
In_joined F zero a h = absurd h
In_joined F (suc n) a h = elim (In_append_cases (F 0) (joined (λ i. F (suc i)) n) a h) [
  | inl k ↦ (0, omega arith, k)
  | inr k ↦ let r = In_joined (λ i. F (suc i)) n a k in (suc r.0, omega arith, r.2)
]

-- elements of lists made of each element and joined
pub In_flat_map : {A B : Type 0} (f : A → List B) (xs : List A) (y : B) → In y (flat_map f xs) → (x : A) × In x xs × In y (f x)
In_flat_map f [] y i = absurd i
In_flat_map f (x ∷ xs) y i = elim (In_append_cases (f x) (flat_map f xs) y i) [
  | inl j ↦ (x, inl refl, j)
  | inr j ↦ let r = In_flat_map f xs y j in (r.0, inr r.1, r.2)
]

-- an element of a list made of an element
pub flat_map_In : {A B : Type 0} (f : A → List B) (xs : List A) (x : A) (y : B) → In x xs → In y (f x) → In y (flat_map f xs)
flat_map_In f [] x y i j = absurd i
flat_map_In f (z ∷ xs) x y (inl e) j = append_left (f z) (flat_map f xs) y (subst (λ w. In y (f w)) e j)
flat_map_In f (z ∷ xs) x y (inr i) j = append_right (f z) (flat_map f xs) y (flat_map_In f xs x y i j)

-- elements of a filtered list
pub In_filter : {A : Type 0} (f : A → Bool) (xs : List A) (x : A) → In x (filter f xs) → In x xs × (f x ≡ true)
In_filter f [] x i = absurd i
In_filter f (y ∷ xs) x i = elim (cases_Bool (f y)) [
  | inl e ↦ head e (In_filter f xs x) (subst (λ b. In x (cond b (y ∷ filter f xs) (filter f xs))) e i)
  | inr e ↦ let r = In_filter f xs x (subst (λ b. In x (cond b (y ∷ filter f xs) (filter f xs))) e i) in (inr r.0, r.1)
]
  where
    head : f y ≡ true → (In x (filter f xs) → In x xs × (f x ≡ true)) → In x (y ∷ filter f xs) → In x (y ∷ xs) × (f x ≡ true)
    head e g (inl q) = (inl q, ap f q ∙ e)
    head e g (inr j) = let r = g j in (inr r.0, r.1)

-- an element that passes is kept
pub filter_In : {A : Type 0} (f : A → Bool) (xs : List A) (x : A) → In x xs → f x ≡ true → In x (filter f xs)
filter_In f [] x i e = absurd i
filter_In f (y ∷ xs) x (inl q) e = subst (λ b. In x (cond b (y ∷ filter f xs) (filter f xs))) (sym (ap f (sym q) ∙ e)) (inl q)
filter_In f (y ∷ xs) x (inr i) e = elim (cases_Bool (f y)) [
  | inl h ↦ subst (λ b. In x (cond b (y ∷ filter f xs) (filter f xs))) (sym h) (inr (filter_In f xs x i e))
  | inr h ↦ subst (λ b. In x (cond b (y ∷ filter f xs) (filter f xs))) (sym h) (filter_In f xs x i e)
]

-- lists with one element put before each
pub In_before : {A : Type 0} (x : A) (rs : List (List A)) (y : List A) → In y (before_each x rs) → (r : List A) × In r rs × (y ≡ x ∷ r)
In_before x [] y h = absurd h
In_before x (r ∷ rs) y (inl e) = (r, inl refl, e)
In_before x (r ∷ rs) y (inr h) = let q = In_before x rs y h in (q.0, inr q.1, q.2)

-- a list with the element put before it is there
pub before_In : {A : Type 0} (x : A) (rs : List (List A)) (r : List A) → In r rs → In (x ∷ r) (before_each x rs)
before_In x [] r h = absurd h
before_In x (q ∷ rs) r (inl e) = inl (ap (λ z. x ∷ z) e)
before_In x (q ∷ rs) r (inr h) = inr (before_In x rs r h)

-- the numbers of a run
pub In_counting : (n lo x : ℕ) → In x (counting lo n) → (lo ≤ x) × (x < lo + n)
In_counting zero lo x i = absurd i
In_counting (suc n) lo x (inl e) = (omega arith, omega arith)
In_counting (suc n) lo x (inr i) = let r = In_counting n (suc lo) x i in (omega arith, omega arith)

-- a number from lo to lo + n - 1 is in the run
pub counting_In : (n lo x : ℕ) → lo ≤ x → x < lo + n → In x (counting lo n)
counting_In zero lo x h k = absurd (omega arith)
counting_In (suc n) lo x h k = elim (cases_eq x lo) [
  | inl e ↦ inl e
  | inr ne ↦ inr (counting_In n (suc lo) x (omega (arith, ne)) (omega arith))
]
