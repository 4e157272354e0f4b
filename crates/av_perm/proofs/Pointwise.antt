-- Two lists that are related place by place.
use Rattle.std.proofs.Common.{◌≡◌, ℕ, zero, suc, ◌<◌, inl, inr, List, [], ◌∷◌, ◌++◌, length, get_or, slice_get, Some, refl, sym, ap, subst}
use Rattle.std.proofs.lemmas.Option.{slice_get-get_or}
use Rattle.av_perm.specs.Members.{In}
use Rattle.av_perm.specs.Lists.{Pointwise}

module _ {A B : Type 0} (R : A → B → Type 0) where
  -- they have one length
  pub same_length : (xs : List A) (ys : List B) → Pointwise R xs ys → length xs ≡ length ys
  same_length [] [] h = refl
  same_length [] (y ∷ ys) h = absurd h
  same_length (x ∷ xs) [] h = absurd h
  same_length (x ∷ xs) (y ∷ ys) h = ap suc (same_length xs ys h.1)

  -- what stands beside an item of the first
  pub beside : (xs : List A) (ys : List B) (i : ℕ) (x : A) → Pointwise R xs ys → slice_get xs i ≡ Some x → (y : B) × (slice_get ys i ≡ Some y) × R x y
  beside [] [] i x h e = absurd (cc)
  beside [] (y ∷ ys) i x h e = absurd h
  beside (z ∷ xs) [] i x h e = absurd h
  beside (z ∷ xs) (y ∷ ys) zero x h e = (y, refl, let q : z ≡ x = cc in subst (λ k. R k y) q h.0)
  beside (z ∷ xs) (y ∷ ys) (suc i) x h e = beside xs ys i x h.1 e

  -- the same the other way round
  pub flipped : (xs : List A) (ys : List B) → Pointwise R xs ys → Pointwise (λ y x. R x y) ys xs
  flipped [] [] h = tt
  flipped [] (y ∷ ys) h = absurd h
  flipped (x ∷ xs) [] h = absurd h
  flipped (x ∷ xs) (y ∷ ys) h = (h.0, flipped xs ys h.1)

-- what stands beside an item of the second
pub before : {A B : Type 0} (R : A → B → Type 0) (xs : List A) (ys : List B) (i : ℕ) (y : B) → Pointwise R xs ys → slice_get ys i ≡ Some y → (x : A) × (slice_get xs i ≡ Some x) × R x y
before R xs ys i y h e = beside (λ y x. R x y) ys xs i y (flipped R xs ys h) e

pub before_at : {A B : Type 0} (R : A → B → Type 0) (xs : List A) (ys : List B) (i : ℕ) (d : B) → Pointwise R xs ys → i < length ys → (x : A) × R x (get_or ys i d)
before_at R xs ys i d h l = let r = before R xs ys i (get_or ys i d) h (slice_get-get_or ys i d l) in (r.0, r.2)

-- two such relations make one
pub chained : {A B C : Type 0} (R : A → B → Type 0) (S : B → C → Type 0) (T : A → C → Type 0) → ((x : A) (y : B) (z : C) → R x y → S y z → T x z)
    → (xs : List A) (ys : List B) (zs : List C) → Pointwise R xs ys → Pointwise S ys zs → Pointwise T xs zs
chained R S T f [] [] [] h k = tt
chained R S T f [] [] (z ∷ zs) h k = absurd k
chained R S T f [] (y ∷ ys) zs h k = absurd h
chained R S T f (x ∷ xs) [] zs h k = absurd h
chained R S T f (x ∷ xs) (y ∷ ys) [] h k = absurd k
chained R S T f (x ∷ xs) (y ∷ ys) (z ∷ zs) h k = (f x y z h.0 k.0, chained R S T f xs ys zs h.1 k.1)

-- a stronger relation item by item
pub pointwise_more : {A B : Type 0} (R S : A → B → Type 0) → ((x : A) (y : B) → R x y → S x y) → (xs : List A) (ys : List B) → Pointwise R xs ys → Pointwise S xs ys
pointwise_more R S h [] [] p = tt
pointwise_more R S h [] (y ∷ ys) p = absurd p
pointwise_more R S h (x ∷ xs) [] p = absurd p
pointwise_more R S h (x ∷ xs) (y ∷ ys) p = (h x y p.0, pointwise_more R S h xs ys p.1)

-- one more item on both sides
pub pointwise_snoc : {A B : Type 0} (R : A → B → Type 0) (xs : List A) (ys : List B) (x : A) (y : B) → Pointwise R xs ys → R x y → Pointwise R (xs ++ x ∷ []) (ys ++ y ∷ [])
pointwise_snoc R [] [] x y p r = (r, tt)
pointwise_snoc R [] (z ∷ ys) x y p r = absurd p
pointwise_snoc R (z ∷ xs) [] x y p r = absurd p
pointwise_snoc R (z ∷ xs) (w ∷ ys) x y p r = (p.0, pointwise_snoc R xs ys x y p.1 r)

-- an item of a list has its partner
pub pointwise_In : {A B : Type 0} (R : A → B → Type 0) (xs : List A) (ys : List B) (x : A) → Pointwise R xs ys → In x xs → (y : B) × R x y
pointwise_In R [] ys x p i = absurd i
pointwise_In R (z ∷ xs) [] x p i = absurd p
pointwise_In R (z ∷ xs) (y ∷ ys) x p (inl e) = (y, subst (λ w. R w y) (sym e) p.0)
pointwise_In R (z ∷ xs) (y ∷ ys) x p (inr i) = pointwise_In R xs ys x p.1 i
