-- Lists of words gone through by the code: one word more, and all of them.
use Rattle.std.proofs.Common.{◌≡◌, ℕ, suc, ◌+◌, ◌<◌, ◌≤◌, inl, inr, Result, Ok, Err, List, [], ◌∷◌, ◌++◌, length, get_or, take, refl, sym, ap, ◌∙◌, subst, arith, append_assoc, append-nil}
use Rattle.std.specs.Result.{OnOk}
use Rattle.std.proofs.Math.Seq.{take-suc}
use Rattle.std.proofs.lemmas.List.{take_all}
use Rattle.av_perm.proofs.Membership.{In, In_at, In_append_cases, append_right, In_one}

-- the element at an index is in the list
pub item_In : (xs : List (List ℕ)) (i : ℕ) (x : List ℕ) → i < length xs → x ≡ get_or xs i x → In x xs
item_In xs i x h e = subst (λ y. In y xs) (sym e) (In_at xs i x h)

-- what is among one element more is among the others or is that one
pub through_more : (xs : List (List ℕ)) (i : ℕ) (P : List ℕ → Type 0) (x : List ℕ) → i < length xs → x ≡ get_or xs i x
    → ((y : List ℕ) → In y (take i xs) → P y) → P x → (y : List ℕ) → In y (take (i + 1) xs) → P y
through_more xs i P x h e f p y m =
    let n : i + 1 ≡ suc i = omega arith in
    let t : take (i + 1) xs ≡ take i xs ++ x ∷ [] = ap (λ k. take k xs) n ∙ take-suc xs i x h ∙ ap (λ (z : List ℕ). take i xs ++ z ∷ []) (sym e) in
    elim (In_append_cases (take i xs) (x ∷ []) y (subst (λ (l : List (List ℕ)). In y l) t m)) [
      | inl j ↦ f y j
      | inr j ↦ subst P (sym (In_one y x j)) p
    ]

-- at the end it is any element
pub through_all : (xs : List (List ℕ)) (i : ℕ) (P : List ℕ → Type 0) → length xs ≤ i → ((y : List ℕ) → In y (take i xs) → P y) → (y : List ℕ) → In y xs → P y
through_all xs i P h f y m = f y (subst (λ (l : List (List ℕ)). In y l) (sym (take_all i xs h)) m)

-- the element that an iterator gives next is given, and the rest is left
pub given_more : {A : Type 0} (given left rest all : List A) (x : A) → given ++ left ≡ all → left ≡ x ∷ rest → (given ++ x ∷ []) ++ rest ≡ all
given_more {A} given left rest all x e f = append_assoc given (x ∷ []) rest ∙ ap (λ (l : List A). given ++ l) (sym f) ∙ e

-- it is one of all
pub given_In : {A : Type 0} (given left rest all : List A) (x : A) → given ++ left ≡ all → left ≡ x ∷ rest → In x all
given_In {A} given left rest all x e f = subst (λ (l : List A). In x l) e (append_right given left x (subst (λ (l : List A). In x l) (sym f) (inl refl)))

-- where none is left all are given
pub given_all : {A : Type 0} (given left all : List A) → given ++ left ≡ all → left ≡ [] → given ≡ all
given_all {A} given left all e f = sym (append-nil given) ∙ ap (λ (l : List A). given ++ l) (sym f) ∙ e

-- what is so on `Ok`, by what follows
pub on_ok : {T E : Type 0} (A B : Type 0) (r : Result T E) → (A → B) → OnOk r A → OnOk r B
on_ok A B (Ok x) f a = f a
on_ok A B (Err y) f a = tt
