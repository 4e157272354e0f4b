-- Lists in ascending order: runs, choices, lists of a length, arrangements.
use Rattle.std.proofs.Common.{◌≡◌, ℕ, zero, suc, ◌<◌, inl, inr, List, [], ◌∷◌, ◌++◌, Bool, true, false, not, ◌==◌, cond, nat_eq, lt-ltb, le-ltb, refl, sym, ◌∙◌, ap₂, subst, arith}
use Rattle.std.specs.List.{filter, flat_map}
use Rattle.std.specs.Cmp.{IsTotalOrder}
use Rattle.std.specs.Cmp.Lexicographic.{slice_cmp}
use Rattle.std.specs.Ordering.{nat_cmp}
use Rattle.std.specs.declared.cmp.Ordering.{Ordering}
use Rattle.std.specs.declared.cmp.Ordering.TheVariants.{Less, Equal, Greater}
use Rattle.std.proofs.lemmas.Bool.{cases_lt}
use Rattle.std.proofs.lemmas.Cmp.{tied_itself, nat_cmp_total}
use Rattle.av_perm.specs.Members.{In, Once, Ascending}
use Rattle.av_perm.specs.Lists.{counting, before_each, choices, all_lists}
use Rattle.av_perm.specs.Word.{arrangements}
use Rattle.av_perm.proofs.Membership.{In_append_cases, In_filter, In_flat_map, In_before, In_counting}

-- in an order where nothing lies before itself, an ascending list has no element twice
pub once_from_ascending : {A : Type 0} (order : A → A → Ordering) → IsTotalOrder order → (xs : List A) → Ascending order xs → Once xs
once_from_ascending order o [] a = tt
once_from_ascending order o (x ∷ xs) a = (λ i. let l = a.0 x i in let e = tied_itself o x in cc, once_from_ascending order o xs a.1)

-- two ascending lists with the same elements are equal
pub ascending_same : {A : Type 0} (order : A → A → Ordering) → IsTotalOrder order → (xs ys : List A) → Ascending order xs → Ascending order ys
    → ((a : A) → In a xs → In a ys) → ((a : A) → In a ys → In a xs) → xs ≡ ys
ascending_same order o [] [] a b f g = refl
ascending_same order o [] (y ∷ ys) a b f g = absurd (g y (inl refl))
ascending_same order o (x ∷ xs) [] a b f g = absurd (f x (inl refl))
ascending_same {A = A} order o (x ∷ xs) (y ∷ ys) a b f g =
    ap₂ (λ (z : A) (zs : List A). z ∷ zs) heads (ascending_same order o xs ys a.1 b.1 (λ z i. later z i) (λ z i. sooner z i))
  where
    never : (z : A) → order z z ≡ Less → ⊥
    never z l = let e = tied_itself o z in cc

    heads : x ≡ y
    heads = elim (f x (inl refl)) [
      | inl e ↦ e
      | inr i ↦ elim (g y (inl refl)) [
        | inl e ↦ sym e
        | inr j ↦ absurd (never x (o.trans x y x (a.0 y j) (b.0 x i)))
      ]
    ]

    later : (z : A) → In z xs → In z ys
    later z i = elim (f z (inr i)) [
      | inl e ↦ absurd (never x (subst (λ v. order x v ≡ Less) (e ∙ sym heads) (a.0 z i)))
      | inr j ↦ j
    ]

    sooner : (z : A) → In z ys → In z xs
    sooner z i = elim (g z (inr i)) [
      | inl e ↦ absurd (never y (subst (λ v. order y v ≡ Less) (e ∙ heads) (b.0 z i)))
      | inr j ↦ j
    ]

-- another order in which neighbours rise alike
pub ascending_also : {A : Type 0} (order above : A → A → Ordering) (xs : List A) → ((x y : A) → In x xs → In y xs → order x y ≡ Less → above x y ≡ Less)
    → Ascending order xs → Ascending above xs
ascending_also order above [] h a = tt
ascending_also order above (x ∷ xs) h a = (
  λ y i. h x y (inl refl) (inr i) (a.0 y i),
  ascending_also order above xs (λ u v i j. h u v (inr i) (inr j)) a.1,
)

-- two ascending lists joined, where all of the first lies before all of the second
pub ascending_append : {A : Type 0} (order : A → A → Ordering) (xs ys : List A) → Ascending order xs → Ascending order ys
    → ((x y : A) → In x xs → In y ys → order x y ≡ Less) → Ascending order (xs ++ ys)
ascending_append order [] ys a b h = b
ascending_append order (x ∷ xs) ys a b h = (
  λ y i. elim (In_append_cases xs ys y i) [ inl j ↦ a.0 y j | inr j ↦ h x y (inl refl) j ],
  ascending_append order xs ys a.1 b (λ u v i j. h u v (inr i) j),
)

-- ascending lists made of ascending elements
pub ascending_flat_map : {A B : Type 0} (order : A → A → Ordering) (above : B → B → Ordering) (f : A → List B) (xs : List A) → Ascending order xs
    → ((x : A) → In x xs → Ascending above (f x))
    → ((x y : A) (u v : B) → order x y ≡ Less → In u (f x) → In v (f y) → above u v ≡ Less) → Ascending above (flat_map f xs)
ascending_flat_map order above f [] a b h = tt
ascending_flat_map order above f (x ∷ xs) a b h =
    ascending_append above (f x) (flat_map f xs) (b x (inl refl)) (ascending_flat_map order above f xs a.1 (λ y i. b y (inr i)) h)
    (λ u v i j. let r = In_flat_map f xs v j in h x r.0 u v (a.0 r.0 r.1) i r.2)

-- a filter keeps the order
pub ascending_filter : {A : Type 0} (order : A → A → Ordering) (t : A → Bool) (xs : List A) → Ascending order xs → Ascending order (filter t xs)
ascending_filter order t [] a = tt
ascending_filter order t (x ∷ xs) a = elim (t x) as (λ b. Ascending order (cond b (x ∷ filter t xs) (filter t xs))) [
  | true ↦ (λ y i. a.0 y (In_filter t xs y i).0, ascending_filter order t xs a.1)
  | false ↦ ascending_filter order t xs a.1
]

-- a lesser number comes first
pub nat_cmp_less : (a b : ℕ) → a < b → nat_cmp a b ≡ Less
nat_cmp_less a b h = rw (lt-ltb a b h) refl

-- what comes first is less
pub less_nat_cmp : (a b : ℕ) → nat_cmp a b ≡ Less → a < b
less_nat_cmp a b e = elim (cases_lt a b) [
  | inl l ↦ l
  | inr l ↦ absurd (other (nat_eq a b) (rw (le-ltb a b l) at e))
]
  where
    other : (t : Bool) → cond t Equal Greater ≡ Less → ⊥
    other true q = cc
    other false q = cc

-- a run of numbers ascends
pub ascending_counting : (n lo : ℕ) → Ascending nat_cmp (counting lo n)
ascending_counting zero lo = tt
ascending_counting (suc n) lo = (λ y i. let r = In_counting n (suc lo) y i in nat_cmp_less lo y (omega arith), ascending_counting n (suc lo))

-- lists in lexicographic order
module _ {A : Type 0} (order : A → A → Ordering) (total : IsTotalOrder order) where
  -- lists whose first elements lie in order lie so
  heads_less : (x y : A) (r s u v : List A) → order x y ≡ Less → u ≡ x ∷ r → v ≡ y ∷ s → slice_cmp order u v ≡ Less
  heads_less x y r s u v l e h = rw (e, h, l) refl

  -- lists with one first element lie as the rest does
  heads_same : (x : A) (r s u v : List A) → u ≡ x ∷ r → v ≡ x ∷ s → slice_cmp order r s ≡ Less → slice_cmp order u v ≡ Less
  heads_same x r s u v e h l = rw (e, h, tied_itself total x) l

  -- one element put before ascending lists
  pub ascending_before : (x : A) (rs : List (List A)) → Ascending (slice_cmp order) rs → Ascending (slice_cmp order) (before_each x rs)
  ascending_before x [] a = tt
  ascending_before x (r ∷ rs) a = (
    λ y i. let q = In_before x rs y i in heads_same x r q.0 (x ∷ r) y refl q.2 (a.0 q.0 q.1),
    ascending_before x rs a.1,
  )

  -- lists that begin with each of ascending elements in turn
  pub ascending_heads : (rest : A → List (List A)) (xs : List A) → Ascending order xs → ((x : A) → In x xs → Ascending (slice_cmp order) (rest x))
      → Ascending (slice_cmp order) (flat_map (λ x. before_each x (rest x)) xs)
  ascending_heads rest xs a b =
      ascending_flat_map order (slice_cmp order) (λ x. before_each x (rest x)) xs a (λ x i. ascending_before x (rest x) (b x i))
      (λ x y u v l i j. let q = In_before x (rest x) u i in let p = In_before y (rest y) v j in heads_less x y q.0 p.0 u v l q.2 p.2)

  -- a choice of one or more begins with an element
  choice_head : (k : ℕ) (xs : List A) (v : List A) → In v (choices (suc k) xs) → (y : A) × (s : List A) × In y xs × (v ≡ y ∷ s)
  unfolding choices
  choice_head k [] v i = absurd i
  choice_head k (x ∷ xs) v i = elim (In_append_cases (before_each x (choices k xs)) (choices (suc k) xs) v i) [
    | inl j ↦ let q = In_before x (choices k xs) v j in (x, q.0, inl refl, q.2)
    | inr j ↦ let q = choice_head k xs v j in (q.0, q.1, inr q.2, q.3)
  ]

  -- the choices of elements of an ascending list ascend
  pub ascending_choices : (k : ℕ) (xs : List A) → Ascending order xs → Ascending (slice_cmp order) (choices k xs)
  unfolding choices
  ascending_choices zero xs a = (λ y i. absurd i, tt)
  ascending_choices (suc k) [] a = tt
  ascending_choices (suc k) (x ∷ xs) a =
      ascending_append (slice_cmp order) (before_each x (choices k xs)) (choices (suc k) xs)
      (ascending_before x (choices k xs) (ascending_choices k xs a.1)) (ascending_choices (suc k) xs a.1)
      (λ u v i j.
      let q = In_before x (choices k xs) u i in
      let p = choice_head k xs v j in
      heads_less x p.0 q.0 p.1 u v (a.0 p.0 p.2) q.2 p.3)

  -- the lists of k elements of an ascending list ascend
  pub ascending_lists : (k : ℕ) (xs : List A) → Ascending order xs → Ascending (slice_cmp order) (all_lists k xs)
  unfolding all_lists
  ascending_lists zero xs a = (λ y i. absurd i, tt)
  ascending_lists (suc k) xs a = ascending_heads (λ x. all_lists k xs) xs a (λ x i. ascending_lists k xs a)

-- the arrangements of k numbers of an ascending list ascend
pub ascending_arrangements : (k : ℕ) (xs : List ℕ) → Ascending nat_cmp xs → Ascending (slice_cmp nat_cmp) (arrangements k xs)
unfolding arrangements
ascending_arrangements zero xs a = (λ y i. absurd i, tt)
ascending_arrangements (suc k) xs a =
    ascending_heads nat_cmp nat_cmp_total (λ x. arrangements k (filter (λ y. not (y == x)) xs)) xs a
    (λ x i. ascending_arrangements k (filter (λ y. not (y == x)) xs) (ascending_filter nat_cmp (λ y. not (y == x)) xs a))
