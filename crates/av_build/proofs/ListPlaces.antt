-- What stands at a place of a list, of one that grew at its end, and of one that is made of another; and sums over a part of a
-- list.
use Rattle.std.proofs.Common.{◌≡◌, ℕ, zero, suc, ◌≤◌, ◌<◌, inl, inr, List, [], ◌∷◌, ◌++◌, map, length, slice_get, sum_by, Some, None, refl, sym, ap, ◌∙◌, subst, arith}
use Rattle.std.specs.Option.{option_map}
use Rattle.std.proofs.lemmas.List.Sums.{sum_by-append, sum_by-cons}
use Rattle.std.proofs.lemmas.Option.{slice_get-map}
use Rattle.av_perm.specs.Members.{In, Once}
use Rattle.av_perm.specs.Lists.{counting}
use Rattle.av_perm.proofs.Membership.{Each, In_append_cases, append_left, append_right, counting_In}
use Rattle.av_perm.proofs.RisingLists.{length_counting}
use Rattle.av_perm.proofs.ListLaws.{get_In, get_within}

-- an element of a list stays at its place when the list grows at its end
pub get_longer : {A : Type 0} (xs extra : List A) (i : ℕ) (x : A) → slice_get xs i ≡ Some x → slice_get (xs ++ extra) i ≡ Some x
get_longer [] extra i x e = absurd (let z : None ≡ Some x = e in cc)
get_longer (y ∷ xs) extra zero x e = e
get_longer (y ∷ xs) extra (suc i) x e = get_longer xs extra i x e

-- at a place within the list nothing else is there
pub get_shorter : {A : Type 0} (xs extra : List A) (i : ℕ) (x : A) → i < length xs → slice_get (xs ++ extra) i ≡ Some x → slice_get xs i ≡ Some x
get_shorter xs extra i x h e = let y = get_within xs i h in y.1 ∙ sym (get_longer xs extra i y.0 y.1) ∙ e

-- and past the list one of those that joined
pub get_extra : {A : Type 0} (xs extra : List A) (i : ℕ) (x : A) → length xs ≤ i → slice_get (xs ++ extra) i ≡ Some x → In x extra
get_extra [] extra i x h e = get_In extra i x e
get_extra (y ∷ xs) extra zero x h e = absurd (omega arith)
get_extra (y ∷ xs) extra (suc i) x h e = get_extra xs extra i x (omega arith) e

-- the image of an element
pub get_map : {A B : Type 0} (f : A → B) (xs : List A) (i : ℕ) (x : A) → slice_get xs i ≡ Some x → slice_get (map f xs) i ≡ Some (f x)
get_map f xs i x e = slice_get-map f xs i ∙ ap (option_map f) e

-- what is at a place among images is the image of an element
pub map_get : {A B : Type 0} (f : A → B) (xs : List A) (i : ℕ) (y : B) → slice_get (map f xs) i ≡ Some y → (x : A) × (slice_get xs i ≡ Some x) × (y ≡ f x)
map_get f [] i y e = absurd (let z : None ≡ Some y = e in cc)
map_get f (x ∷ xs) zero y e = let z : Some (f x) ≡ Some y = e in let s : f x ≡ y = cc in (x, refl, sym s)
map_get f (x ∷ xs) (suc i) y e = map_get f xs i y e

-- a list is cut at each of its elements
split_In : {A : Type 0} (ys : List A) (x : A) → In x ys → (us : List A) × (vs : List A) × (ys ≡ us ++ x ∷ vs)
split_In [] x i = absurd i
split_In (y ∷ ys) x (inl e) = ([], ys, ap (λ z. z ∷ ys) (sym e))
split_In (y ∷ ys) x (inr i) = let r = split_In ys x i in (y ∷ r.0, r.1, ap (λ l. y ∷ l) r.2)

-- a sum over different elements of a list is at most the sum over the list
pub part_sum : {A : Type 0} (w : A → ℕ) (xs ys : List A) → Once xs → Each (λ x. In x ys) xs → sum_by w xs ≤ sum_by w ys
part_sum w [] ys o h = omega arith
part_sum w (x ∷ xs) ys o h =
    let s = split_In ys x (h x (inl refl)) in
    let others : Each (λ z. In z (s.0 ++ s.1)) xs = λ z i. elim (In_append_cases s.0 (x ∷ s.1) z (subst (In z) s.2 (h z (inr i)))) [
      | inl j ↦ append_left s.0 s.1 z j
      | inr (inl e) ↦ absurd (o.0 (subst (λ y. In y xs) e i))
      | inr (inr j) ↦ append_right s.0 s.1 z j
    ] in
    let e : sum_by w ys ≡ sum_by w (s.0 ++ x ∷ s.1) = ap (sum_by w) s.2 in
    omega (arith, e, sum_by-cons w x xs, sum_by-cons w x s.1, sum_by-append w s.0 (x ∷ s.1), sum_by-append w s.0 s.1, part_sum w xs (s.0 ++ s.1) o.1 others)

-- a length is a sum of ones
ones : (xs : List ℕ) → sum_by (λ (x : ℕ). 1) xs ≡ length xs
ones [] = refl
ones (x ∷ xs) = omega (arith, sum_by-cons (λ (x : ℕ). 1) x xs, ones xs)

-- different numbers below n are among those from 0 to n - 1
pub below_In : (xs : List ℕ) (n : ℕ) → Each (λ x. x < n) xs → Each (λ x. In x (counting 0 n)) xs
below_In xs n h x i = let l = h x i in counting_In n 0 x (omega arith) (omega arith)

-- so they are at most n
pub once_few : (xs : List ℕ) (n : ℕ) → Once xs → Each (λ x. x < n) xs → length xs ≤ n
once_few xs n o h = omega (arith, part_sum (λ (x : ℕ). 1) xs (counting 0 n) o (below_In xs n h), ones xs, ones (counting 0 n), length_counting n 0)
