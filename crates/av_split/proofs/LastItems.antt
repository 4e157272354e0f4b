-- The list from its end on: the last item comes first, and each item is there.
use Rattle.std.proofs.Common.{inl, inr, ◌≡◌, suc, ◌-◌, List, [], ◌∷◌, ◌++◌, length, reverse, slice_get, Some, sym, ap, ◌∙◌, subst, arith}
use Rattle.std.proofs.lemmas.List.{reverse-append}
use Rattle.av_perm.specs.Members.{In}
use Rattle.av_perm.proofs.Membership.{append_left, append_right}

alone : {A : Type 0} (y x : A) → Some y ≡ Some x → y ∷ [] ≡ x ∷ []
alone y x e = cc

-- where it stands
last_item : {A : Type 0} (xs : List A) (x : A) → slice_get xs (length xs - 1) ≡ Some x → (front : List A) × (xs ≡ front ++ x ∷ [])
last_item [] x e = absurd (cc)
last_item (y ∷ []) x e = ([], alone y x e)
last_item (y ∷ z ∷ xs) x e =
    let m : suc (length (z ∷ xs)) - 1 ≡ suc (length (z ∷ xs) - 1) = omega arith in
    let d : slice_get (y ∷ z ∷ xs) (suc (length (z ∷ xs) - 1)) ≡ Some x = subst (λ i. slice_get (y ∷ z ∷ xs) i ≡ Some x) m e in
    let r = last_item (z ∷ xs) x d in
    (y ∷ r.0, ap (λ l. y ∷ l) r.1)

pub last_first : {A : Type 0} (xs front : List A) (x : A) → xs ≡ front ++ x ∷ [] → x ∷ reverse front ≡ reverse xs
last_first {A} xs front x e = sym (ap (λ (l : List A). reverse l) e ∙ reverse-append front (x ∷ []))

-- what holds of the items from the back
pub from_last : {A : Type 0} (P : List A → Type 0) (xs : List A) (x : A) → slice_get xs (length xs - 1) ≡ Some x → P (reverse xs) → (front : List A) × P (x ∷ front)
from_last P xs x e h = let l = last_item xs x e in (reverse l.0, subst P (sym (last_first xs l.0 x l.1)) h)

-- an item of a list is one of the list from its end on
pub In_reverse : {A : Type 0} (xs : List A) (x : A) → In x xs → In x (reverse xs)
In_reverse [] x i = absurd i
In_reverse (y ∷ xs) x (inl e) = subst (In x) (sym (reverse-append (y ∷ []) xs)) (append_right (reverse xs) (y ∷ []) x (inl e))
In_reverse (y ∷ xs) x (inr j) = subst (In x) (sym (reverse-append (y ∷ []) xs)) (append_left (reverse xs) (y ∷ []) x (In_reverse xs x j))
