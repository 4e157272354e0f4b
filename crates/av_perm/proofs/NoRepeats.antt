-- Lists in which no element comes twice.
use Rattle.std.proofs.Common.{◌≡◌, ℕ, zero, suc, ◌<◌, ◌≢◌, inl, inr, List, [], ◌∷◌, ◌++◌, length, Bool, true, false, cond, refl, sym, ◌∙◌, subst, arith}
use Rattle.std.specs.List.{filter, flat_map}
use Rattle.av_perm.specs.Members.{In, Once}
use Rattle.av_perm.specs.Lists.{counting, before_each}
use Rattle.av_perm.specs.Inflate.{joined}
use Rattle.av_perm.specs.Relations.{at}
use Rattle.av_perm.proofs.Membership.{In_at, at_In, In_append_cases, In_joined, In_filter, In_flat_map, In_before, In_counting}

-- entries at different places differ
abbrev pub IsApart : List ℕ → Type 0
IsApart w = (s t : ℕ) → s < t → t < length w → at w s ≢ at w t

-- numbers that differ at different places come once
pub once_from_apart : (w : List ℕ) → IsApart w → Once w
once_from_apart [] a = tt
once_from_apart (x ∷ w) a = (
  λ i. let r = at_In w x 0 i in a 0 (suc r.0) (omega arith) (omega (arith, r.1)) (sym r.2),
  once_from_apart w (λ s t h k. a (suc s) (suc t) (omega arith) (omega arith)),
)

-- numbers that come once differ at different places
pub apart_from_once : (w : List ℕ) → Once w → IsApart w
apart_from_once [] d s t h k e = omega arith
apart_from_once (x ∷ w) d zero zero h k e = omega arith
apart_from_once (x ∷ w) d zero (suc t) h k e = d.0 (subst (λ v. In v w) (sym e) (In_at w t 0 (omega arith)))
apart_from_once (x ∷ w) d (suc s) zero h k e = omega arith
apart_from_once (x ∷ w) d (suc s) (suc t) h k e = apart_from_once w d.1 s t (omega arith) (omega arith) e

-- lists joined, where no element is in two of them
pub once_append : {A : Type 0} (xs ys : List A) → Once xs → Once ys → ((z : A) → In z xs → In z ys → ⊥) → Once (xs ++ ys)
once_append [] ys a b h = b
once_append (x ∷ xs) ys a b h = (
  λ i. elim (In_append_cases xs ys x i) [ inl j ↦ a.0 j | inr j ↦ h x (inl refl) j ],
  once_append xs ys a.1 b (λ z i j. h z (inr i) j),
)

-- many lists joined, where no element is in two of them
pub once_joined : {A : Type 0} (n : ℕ) (F : ℕ → List A) → ((i : ℕ) → i < n → Once (F i))
    → ((i j : ℕ) (x : A) → i < j → j < n → In x (F i) → In x (F j) → ⊥) → Once (joined F n)
once_joined zero F d h = tt
once_joined (suc n) F d h =
    once_append (F 0) (joined (λ i. F (suc i)) n) (d 0 (omega arith))
    (once_joined n (λ i. F (suc i)) (λ i l. d (suc i) (omega arith)) (λ i j x l m. h (suc i) (suc j) x (omega arith) (omega arith)))
    (λ x i j. let r = In_joined (λ i. F (suc i)) n x j in h 0 (suc r.0) x (omega arith) (omega (arith, r.1)) i r.2)

-- lists made of each element, where the element can be told from the lists
pub once_flat_map : {A B : Type 0} (key : B → A) (f : A → List B) (xs : List A) → Once xs → ((x : A) → In x xs → Once (f x))
    → ((x : A) (y : B) → In x xs → In y (f x) → key y ≡ x) → Once (flat_map f xs)
once_flat_map key f [] a b k = tt
once_flat_map key f (x ∷ xs) a b k =
    once_append (f x) (flat_map f xs) (b x (inl refl)) (once_flat_map key f xs a.1 (λ z i. b z (inr i)) (λ z y i j. k z y (inr i) j))
    (λ z i j. let r = In_flat_map f xs z j in a.0 (subst (λ v. In v xs) (sym (k r.0 z (inr r.1) r.2) ∙ k x z (inl refl) i) r.1))

-- one element put before lists that come once
pub once_before : {A : Type 0} (x : A) (rs : List (List A)) → Once rs → Once (before_each x rs)
once_before {A = A} x [] o = tt
once_before {A = A} x (r ∷ rs) o = (λ i. let q = In_before x rs (x ∷ r) i in o.0 (subst (λ v. In v rs) (tail x r q.0 q.2) q.1), once_before x rs o.1)
  where
    tail : (x : A) (r s : List A) → (x ∷ r) ≡ (x ∷ s) → s ≡ r
    tail x r s e = cc

-- a filter keeps elements single
pub once_filter : {A : Type 0} (t : A → Bool) (xs : List A) → Once xs → Once (filter t xs)
once_filter t [] o = tt
once_filter t (x ∷ xs) o = elim (t x) as (λ b. Once (cond b (x ∷ filter t xs) (filter t xs))) [
  | true ↦ (λ i. o.0 (In_filter t xs x i).0, once_filter t xs o.1)
  | false ↦ once_filter t xs o.1
]

-- each number of a run comes once
pub once_counting : (n lo : ℕ) → Once (counting lo n)
once_counting zero lo = tt
once_counting (suc n) lo = (λ i. let r = In_counting n (suc lo) lo i in omega (arith, r.0), once_counting n (suc lo))
