-- Laws of lists that the crates above share: of what stands at an index, of lists that are empty, that begin with another, that
-- are made of each element of another, or that have one more number at the end.
use Rattle.std.proofs.Common.{◌≡◌, ℕ, zero, suc, ◌≤◌, ◌<◌, inl, inr, List, [], ◌∷◌, ◌++◌, map, length, flat_map, true, slice_get, Some, None, refl, sym, ap, ap₂, ◌∙◌, subst, arith, append_assoc, append-nil, ◌-◌, take}
use Rattle.std.proofs.lemmas.Bool.{cases_lt}
use Rattle.std.proofs.lemmas.List.{map-append, length-append, get_or_append_left, get_or-append-add}
use Rattle.std.proofs.lemmas.Option.{slice_get_within, get_or_from_slice_get}
use Rattle.std.proofs.Math.Seq.{take-append_seam}
use Rattle.av_perm.specs.Members.{Once}
use Rattle.av_perm.specs.Lists.{Extends, is_nil}
use Rattle.av_perm.specs.Relations.{at}
use Rattle.av_perm.proofs.Membership.{In, Each, In_at, append_left}

-- a list begins with itself
pub extends_itself : {A : Type 0} (xs : List A) → Extends xs xs
extends_itself xs = ([], sym (append-nil xs))

-- with what it was before an element was appended
pub extends_one : {A : Type 0} (xs : List A) (x : A) → Extends xs (xs ++ x ∷ [])
extends_one xs x = (x ∷ [], refl)

-- and with what that begins with
pub extends_trans : {A : Type 0} (xs ys zs : List A) → Extends xs ys → Extends ys zs → Extends xs zs
extends_trans {A} xs ys zs e f = (e.0 ++ f.0, f.1 ∙ ap (λ (l : List A). l ++ f.0) e.1 ∙ append_assoc xs e.0 f.0)

-- elements of a list stay when it grows
pub extends_In : {A : Type 0} (xs ys : List A) → Extends xs ys → (x : A) → In x xs → In x ys
extends_In xs ys e x i = subst (In x) (sym e.1) (append_left xs e.0 x i)

-- what is at an index is an element
pub get_In : {A : Type 0} (xs : List A) (i : ℕ) (x : A) → slice_get xs i ≡ Some x → In x xs
get_In xs i x e = subst (λ y. In y xs) (get_or_from_slice_get xs i x x e) (In_at xs i x (slice_get_within xs i x e))

-- an index within a list has an element
pub get_within : {A : Type 0} (xs : List A) (i : ℕ) → i < length xs → (x : A) × (slice_get xs i ≡ Some x)
get_within [] i h = absurd (omega arith)
get_within (x ∷ xs) zero h = (x, refl)
get_within (x ∷ xs) (suc i) h = get_within xs i (omega arith)

-- so an index without an element is past the end
pub past_end : {A : Type 0} (xs : List A) (i : ℕ) → slice_get xs i ≡ None → length xs ≤ i
past_end xs i e = elim (cases_lt i (length xs)) [ inl h ↦ let x = get_within xs i h in absurd (let z : None ≡ Some x.0 = sym e ∙ x.1 in cc) | inr h ↦ h ]

-- an element comes at one place of a list without repeats
pub once_place : {A : Type 0} (xs : List A) (i j : ℕ) (x : A) → Once xs → slice_get xs i ≡ Some x → slice_get xs j ≡ Some x → i ≡ j
once_place [] i j x o e f = absurd (let z : None ≡ Some x = e in cc)
once_place (y ∷ xs) zero zero x o e f = refl
once_place (y ∷ xs) zero (suc j) x o e f = absurd (o.0 (let z : Some y ≡ Some x = e in let s : y ≡ x = cc in subst (λ w. In w xs) (sym s) (get_In xs j x f)))
once_place (y ∷ xs) (suc i) zero x o e f = absurd (o.0 (let z : Some y ≡ Some x = f in let s : y ≡ x = cc in subst (λ w. In w xs) (sym s) (get_In xs i x e)))
once_place (y ∷ xs) (suc i) (suc j) x o e f = ap suc (once_place xs i j x o.1 e f)

-- a list without elements
pub nil_none : {A : Type 0} (xs : List A) → is_nil xs ≡ true → (x : A) → In x xs → ⊥
nil_none [] e x i = i
nil_none (y ∷ xs) e x i = cc

-- a list without elements passes
pub none_nil : {A : Type 0} (xs : List A) → ((x : A) → In x xs → ⊥) → is_nil xs ≡ true
none_nil [] h = refl
none_nil (x ∷ xs) h = absurd (h x (inl refl))

-- lists made of each element in equal ways
pub flat_map_each : {X Y : Type 0} (f g : X → List Y) (xs : List X) → Each (λ x. f x ≡ g x) xs → flat_map f xs ≡ flat_map g xs
flat_map_each f g [] h = refl
flat_map_each f g (x ∷ xs) h = ap₂ (λ a b. a ++ b) (h x (inl refl)) (flat_map_each f g xs (λ y i. h y (inr i)))

-- a map over the lists made of each element
pub map_flat_map : {X Y Z : Type 0} (h : Y → Z) (g : X → List Y) (xs : List X) → map h (flat_map g xs) ≡ flat_map (λ x. map h (g x)) xs
map_flat_map h g [] = refl
map_flat_map h g (x ∷ xs) = map-append h (g x) (flat_map g xs) ∙ ap (λ z. map h (g x) ++ z) (map_flat_map h g xs)

-- a list with one more number at its end
pub length_snoc : (e : List ℕ) (c : ℕ) → length (e ++ c ∷ []) ≡ suc (length e)
length_snoc e c = omega (arith, length-append e (c ∷ []))

-- its earlier entries stay
pub snoc_before : (e : List ℕ) (c s : ℕ) → s < length e → at (e ++ c ∷ []) s ≡ at e s
snoc_before e c s h = get_or_append_left e (c ∷ []) 0 s h

-- its last entry is the new one
pub snoc_last : (e : List ℕ) (c s : ℕ) → s ≡ length e → at (e ++ c ∷ []) s ≡ c
snoc_last e c s q = ap (at (e ++ c ∷ [])) (omega arith) ∙ get_or-append-add e (c ∷ []) 0 0

-- a list after a push and a pop
pub popped : (e d f : List ℕ) (c : ℕ) → d ≡ e ++ c ∷ [] → f ≡ take (length d - 1) d → f ≡ e
popped e d f c p q =
    let n : length (e ++ c ∷ []) - 1 ≡ length e = omega (arith, length_snoc e c) in
    q ∙ ap (λ (l : List ℕ). take (length l - 1) l) p ∙ rw n (take-append_seam e (c ∷ []))
