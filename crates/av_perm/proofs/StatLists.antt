-- Lists of the inversions, the descents and the left-to-right maxima.
use Rattle.std.proofs.Common.{◌≡◌, ◌⊎◌, ℕ, zero, suc, ◌+◌, ◌-◌, ◌<◌, ◌≤◌, List, [], ◌∷◌, ◌++◌, map, length, length-append, Bool, true, false, cond, nat_lt, count_by, refl, sym, ap, ◌∙◌, subst, arith, inl, inr}
use Rattle.std.specs.List.{filter}
use Rattle.std.proofs.lemmas.Bool.{ltb-true, lt-ltb}
use Rattle.std.proofs.lemmas.List.Sums.{sum_by-cons, length-filter}
use Rattle.av_perm.specs.Lists.{counting}
use Rattle.av_perm.specs.Members.{In, Once}
use Rattle.av_perm.specs.Relations.{at}
use Rattle.av_perm.specs.Stat.{inversions, descents, is_left_to_right_maximum, left_to_right_maxima}
use Rattle.av_perm.specs.StatLaws.{IsInversion, IsDescent, IsLeftToRightMaximum, HasStatistics}
use Rattle.av_perm.specs.Word.{entry, places}
use Rattle.av_perm.proofs.Membership.{In_append_cases, append_left, append_right, In_map, map_In, In_filter, filter_In, In_counting, counting_In}
use Rattle.av_perm.proofs.NoRepeats.{once_append, once_filter, once_counting}
use Rattle.av_perm.proofs.Occurrences.{entry_at}
use Rattle.av_perm.proofs.Tests.{all_to, all_from}

length_map : {A B : Type 0} (f : A → B) (xs : List A) → length (map f xs) ≡ length xs
length_map f [] = refl
length_map f (x ∷ xs) = ap suc (length_map f xs)

once_map : {A B : Type 0} (f : A → B) (xs : List A) → ((x y : A) → f x ≡ f y → x ≡ y) → Once xs → Once (map f xs)
once_map f [] h o = tt
once_map f (x ∷ xs) h o = (λ i. let r = In_map f xs (f x) i in o.0 (subst (λ z. In z xs) (sym (h x r.0 r.2)) r.1), once_map f xs h o.1)

-- one more in front where a test passes
abbrev with_first : {A : Type 0} → Bool → A → List A → List A
with_first b x xs = cond b (x ∷ xs) xs

-- the places that hold an entry below x
places_below : ℕ → List ℕ → List ℕ
places_below x [] = []
places_below x (y ∷ ys) = with_first (nat_lt y x) 0 (map suc (places_below x ys))

below_length : (x : ℕ) (ys : List ℕ) → length (places_below x ys) ≡ count_by (λ y. nat_lt y x) ys
unfolding places_below
below_length x [] = refl
below_length x (y ∷ ys) = by (nat_lt y x) (below_length x ys) ∙ sym (sum_by-cons (λ (z : ℕ). cond {A = ℕ} (nat_lt z x) 1 0) y ys)
  where
    by : (b : Bool) → length (places_below x ys) ≡ count_by (λ y. nat_lt y x) ys → length (with_first b 0 (map suc (places_below x ys))) ≡ cond {A = ℕ} b 1 0 + count_by (λ y. nat_lt y x) ys
    by true e = omega (arith, length_map suc (places_below x ys), e)
    by false e = omega (arith, length_map suc (places_below x ys), e)

IsBelow : ℕ → List ℕ → ℕ → Type 0
IsBelow x ys t = (t < length ys) × (at ys t < x)

below_from : (x : ℕ) (ys : List ℕ) (t : ℕ) → In t (places_below x ys) → IsBelow x ys t
unfolding places_below IsBelow
below_from x [] t i = absurd i
below_from x (y ∷ ys) t i = by (nat_lt y x) refl i (λ t j. below_from x ys t j)
  where
    later : In t (map suc (places_below x ys)) → ((t : ℕ) → In t (places_below x ys) → IsBelow x ys t) → (t < length (y ∷ ys)) × (at (y ∷ ys) t < x)
    later j ih = let r = In_map suc (places_below x ys) t j in let k = ih r.0 r.1 in subst (λ s. (s < length (y ∷ ys)) × (at (y ∷ ys) s < x)) (sym r.2) (omega (arith, k.0), k.1)

    by : (b : Bool) → nat_lt y x ≡ b → In t (with_first b 0 (map suc (places_below x ys))) → ((t : ℕ) → In t (places_below x ys) → IsBelow x ys t) → (t < length (y ∷ ys)) × (at (y ∷ ys) t < x)
    by true e (inl f) ih = subst (λ s. (s < length (y ∷ ys)) × (at (y ∷ ys) s < x)) (sym f) (omega arith, ltb-true y x e)
    by true e (inr j) ih = later j ih
    by false e j ih = later j ih

below_to : (x : ℕ) (ys : List ℕ) (t : ℕ) → IsBelow x ys t → In t (places_below x ys)
unfolding places_below IsBelow
below_to x [] t h = absurd (omega (arith, h.0))
below_to x (y ∷ ys) zero h = rw (lt-ltb y x h.1) (inl refl)
below_to x (y ∷ ys) (suc t) h = by (nat_lt y x) (map_In suc (places_below x ys) t (below_to x ys t (omega (arith, h.0), h.1)))
  where
    by : (b : Bool) → In (suc t) (map suc (places_below x ys)) → In (suc t) (with_first b 0 (map suc (places_below x ys)))
    by true i = inr i
    by false i = i

below_once : (x : ℕ) (ys : List ℕ) → Once (places_below x ys)
unfolding places_below
below_once x [] = tt
below_once x (y ∷ ys) = by (nat_lt y x) (once_map suc (places_below x ys) (λ a b e. cc) (below_once x ys))
  where
    by : (b : Bool) → Once (map suc (places_below x ys)) → Once (with_first b 0 (map suc (places_below x ys)))
    by true o = (λ i. let r = In_map suc (places_below x ys) 0 i in omega (arith, r.2), o)
    by false o = o

-- the inversions: those with the first place, and those of the rest
both_later : ℕ × ℕ → ℕ × ℕ
both_later p = (suc p.0, suc p.1)

first_with : ℕ → ℕ × ℕ
first_with t = (0, suc t)

inversion_list : List ℕ → List (ℕ × ℕ)
inversion_list [] = []
inversion_list (x ∷ xs) = map first_with (places_below x xs) ++ map both_later (inversion_list xs)

inversion_length : (w : List ℕ) → length (inversion_list w) ≡ inversions w
unfolding inversion_list
inversion_length [] = refl
inversion_length (x ∷ xs) = omega (arith, length-append (map first_with (places_below x xs)) (map both_later (inversion_list xs)), length_map first_with (places_below x xs), length_map both_later (inversion_list xs), below_length x xs, inversion_length xs)

inversion_from : (w : List ℕ) (p : ℕ × ℕ) → In p (inversion_list w) → IsInversion w p
unfolding inversion_list both_later first_with IsBelow
inversion_from [] p i = absurd i
inversion_from (x ∷ xs) p i = by (In_append_cases (map first_with (places_below x xs)) (map both_later (inversion_list xs)) p i) (λ q j. inversion_from xs q j)
  where
    by : In p (map first_with (places_below x xs)) ⊎ In p (map both_later (inversion_list xs)) → ((q : ℕ × ℕ) → In q (inversion_list xs) → IsInversion xs q) → IsInversion (x ∷ xs) p
    by (inl j) ih =
        let r = In_map first_with (places_below x xs) p j in
        let k = below_from x xs r.0 r.1 in
        subst (IsInversion (x ∷ xs)) (sym r.2) (record { rising = omega arith; placed = omega (arith, k.0); greater = k.1 })
    by (inr j) ih =
        let r = In_map both_later (inversion_list xs) p j in
        let k = ih r.0 r.1 in
        subst (IsInversion (x ∷ xs)) (sym r.2) (record { rising = omega (arith, k.rising); placed = omega (arith, k.placed); greater = k.greater })

inversion_to : (w : List ℕ) (s t : ℕ) → IsInversion w (s, t) → In (s, t) (inversion_list w)
unfolding inversion_list both_later first_with IsBelow
inversion_to [] s t h = absurd (omega (arith, h.placed))
inversion_to (x ∷ xs) s zero h = absurd (omega (arith, h.rising))
inversion_to (x ∷ xs) zero (suc t) h = append_left (map first_with (places_below x xs)) (map both_later (inversion_list xs)) (0, suc t) (map_In first_with (places_below x xs) t (below_to x xs t (omega (arith, h.placed), h.greater)))
inversion_to (x ∷ xs) (suc s) (suc t) h =
    append_right (map first_with (places_below x xs)) (map both_later (inversion_list xs)) (suc s, suc t)
    (map_In both_later (inversion_list xs) (s, t) (inversion_to xs s t (record { rising = omega (arith, h.rising); placed = omega (arith, h.placed); greater = h.greater })))

inversion_once : (w : List ℕ) → Once (inversion_list w)
unfolding inversion_list both_later first_with
inversion_once [] = tt
inversion_once (x ∷ xs) =
    once_append (map first_with (places_below x xs)) (map both_later (inversion_list xs))
    (once_map first_with (places_below x xs) (λ a b e. second a b e) (below_once x xs))
    (once_map both_later (inversion_list xs) (λ a b e. both a b e) (inversion_once xs))
    (λ p i j. let r = In_map first_with (places_below x xs) p i in let q = In_map both_later (inversion_list xs) p j in apart r.0 q.0 (sym r.2 ∙ q.2))
  where
    second : (a b : ℕ) → first_with a ≡ first_with b → a ≡ b
    second a b e = let f : suc a ≡ suc b = ap (λ (p : ℕ × ℕ). p.1) e in cc

    both : (a b : ℕ × ℕ) → both_later a ≡ both_later b → a ≡ b
    both a b e =
        let f : suc a.0 ≡ suc b.0 = ap (λ (p : ℕ × ℕ). p.0) e in
        let g : suc a.1 ≡ suc b.1 = ap (λ (p : ℕ × ℕ). p.1) e in
        let h : a.0 ≡ b.0 = cc in
        let k : a.1 ≡ b.1 = cc in
        ap (λ n. (n, a.1)) h ∙ ap (λ n. (b.0, n)) k

    apart : (t : ℕ) (q : ℕ × ℕ) → first_with t ≡ both_later q → ⊥
    apart t q e = let f : 0 ≡ suc q.0 = ap (λ (p : ℕ × ℕ). p.0) e in omega (arith, f)

-- the descents
descent_list : List ℕ → List ℕ
descent_list [] = []
descent_list (x ∷ []) = []
descent_list (x ∷ y ∷ xs) = with_first (nat_lt y x) 0 (map suc (descent_list (y ∷ xs)))

descent_length : (w : List ℕ) → length (descent_list w) ≡ descents w
unfolding descent_list
descent_length [] = refl
descent_length (x ∷ []) = refl
descent_length (x ∷ y ∷ xs) = by (nat_lt y x) (descent_length (y ∷ xs))
  where
    by : (b : Bool) → length (descent_list (y ∷ xs)) ≡ descents (y ∷ xs) → length (with_first b 0 (map suc (descent_list (y ∷ xs)))) ≡ cond {A = ℕ} b 1 0 + descents (y ∷ xs)
    by true e = omega (arith, length_map suc (descent_list (y ∷ xs)), e)
    by false e = omega (arith, length_map suc (descent_list (y ∷ xs)), e)

descent_from : (w : List ℕ) (s : ℕ) → In s (descent_list w) → IsDescent w s
unfolding descent_list
descent_from [] s i = absurd i
descent_from (x ∷ []) s i = absurd i
descent_from (x ∷ y ∷ xs) s i = by (nat_lt y x) refl i (λ t j. descent_from (y ∷ xs) t j)
  where
    later : In s (map suc (descent_list (y ∷ xs))) → ((t : ℕ) → In t (descent_list (y ∷ xs)) → IsDescent (y ∷ xs) t) → IsDescent (x ∷ y ∷ xs) s
    later j ih =
        let r = In_map suc (descent_list (y ∷ xs)) s j in
        let k = ih r.0 r.1 in
        let e : suc r.0 + 1 ≡ suc (r.0 + 1) = omega arith in
        subst (IsDescent (x ∷ y ∷ xs)) (sym r.2) (record { placed = omega (arith, k.placed); greater = rw e k.greater })

    by : (b : Bool) → nat_lt y x ≡ b → In s (with_first b 0 (map suc (descent_list (y ∷ xs)))) → ((t : ℕ) → In t (descent_list (y ∷ xs)) → IsDescent (y ∷ xs) t) → IsDescent (x ∷ y ∷ xs) s
    by true e (inl f) ih = subst (IsDescent (x ∷ y ∷ xs)) (sym f) (record { placed = omega arith; greater = ltb-true y x e })
    by true e (inr j) ih = later j ih
    by false e j ih = later j ih

descent_to : (w : List ℕ) (s : ℕ) → IsDescent w s → In s (descent_list w)
unfolding descent_list
descent_to [] s h = absurd (omega (arith, h.placed))
descent_to (x ∷ []) s h = absurd (omega (arith, h.placed))
descent_to (x ∷ y ∷ xs) zero h = rw (lt-ltb y x h.greater) (inl refl)
descent_to (x ∷ y ∷ xs) (suc s) h =
    let e : suc s + 1 ≡ suc (s + 1) = omega arith in
    by (nat_lt y x) (map_In suc (descent_list (y ∷ xs)) s (descent_to (y ∷ xs) s (record { placed = omega (arith, h.placed); greater = rw e at h.greater })))
  where
    by : (b : Bool) → In (suc s) (map suc (descent_list (y ∷ xs))) → In (suc s) (with_first b 0 (map suc (descent_list (y ∷ xs))))
    by true i = inr i
    by false i = i

descent_once : (w : List ℕ) → Once (descent_list w)
unfolding descent_list
descent_once [] = tt
descent_once (x ∷ []) = tt
descent_once (x ∷ y ∷ xs) = by (nat_lt y x) (once_map suc (descent_list (y ∷ xs)) (λ a b e. cc) (descent_once (y ∷ xs)))
  where
    by : (b : Bool) → Once (map suc (descent_list (y ∷ xs))) → Once (with_first b 0 (map suc (descent_list (y ∷ xs))))
    by true o = (λ i. let r = In_map suc (descent_list (y ∷ xs)) 0 i in omega (arith, r.2), o)
    by false o = o

-- the left-to-right maxima
maximum_list : List ℕ → List ℕ
maximum_list w = map (λ s. s - 1) (filter (is_left_to_right_maximum w) (places w))

maximum_length : (w : List ℕ) → length (maximum_list w) ≡ left_to_right_maxima w
unfolding maximum_list
maximum_length w = length_map (λ s. s - 1) (filter (is_left_to_right_maximum w) (places w)) ∙ length-filter (is_left_to_right_maximum w) (places w)

maximum_from : (w : List ℕ) (s : ℕ) → In s (maximum_list w) → IsLeftToRightMaximum w s
unfolding maximum_list
maximum_from w s i =
    let r = In_map (λ s. s - 1) (filter (is_left_to_right_maximum w) (places w)) s i in
    let f = In_filter (is_left_to_right_maximum w) (places w) r.0 r.1 in
    let p = In_counting (length w) 1 r.0 f.0 in
    subst (IsLeftToRightMaximum w) (sym r.2) (record {
      placed = omega (arith, p.0, p.1);
      greatest = λ q h.
          let l = all_from (λ q. nat_lt (entry w q) (entry w r.0)) (counting 1 (r.0 - 1)) f.1 (1 + q) (counting_In (r.0 - 1) 1 (1 + q) (omega arith) (omega (arith, h))) in
          let a = entry_at w (1 + q) (omega arith) in
          let b = entry_at w r.0 p.0 in
          let g : 1 + q - 1 ≡ q = omega arith in
          omega (arith, ltb-true (entry w (1 + q)) (entry w r.0) l, a, b, ap (at w) g);
    })

maximum_to : (w : List ℕ) (s : ℕ) → IsLeftToRightMaximum w s → In s (maximum_list w)
unfolding maximum_list
maximum_to w s h =
    let g : 1 + s - 1 ≡ s = omega arith in
    subst (λ t. In t (maximum_list w)) g (map_In (λ s. s - 1) (filter (is_left_to_right_maximum w) (places w)) (1 + s)
    (filter_In (is_left_to_right_maximum w) (places w) (1 + s) (counting_In (length w) 1 (1 + s) (omega arith) (omega (arith, h.placed)))
    (all_to (λ q. nat_lt (entry w q) (entry w (1 + s))) (counting 1 (1 + s - 1)) (λ q j.
    let p = In_counting (1 + s - 1) 1 q j in
    let a = entry_at w q p.0 in
    let b = entry_at w (1 + s) (omega arith) in
    lt-ltb (entry w q) (entry w (1 + s)) (omega (arith, h.greatest (q - 1) (omega (arith, p.0, p.1)), a, b, ap (at w) g))))))

maximum_once : (w : List ℕ) → Once (maximum_list w)
unfolding maximum_list
maximum_once w = by (filter (is_left_to_right_maximum w) (places w)) (once_filter (is_left_to_right_maximum w) (places w) (once_counting (length w) 1)) (λ x i. (In_counting (length w) 1 x (In_filter (is_left_to_right_maximum w) (places w) x i).0).0)
  where
    by : (xs : List ℕ) → Once xs → ((x : ℕ) → In x xs → 1 ≤ x) → Once (map (λ s. s - 1) xs)
    by [] o h = tt
    by (x ∷ xs) o h = (
      λ i. let r = In_map (λ s. s - 1) xs (x - 1) i in let e : r.0 ≡ x = omega (arith, r.2, h x (inl refl), h r.0 (inr r.1)) in o.0 (subst (λ z. In z xs) e r.1),
      by xs o.1 (λ z i. h z (inr i)),
    )

pub statistics_law : (w : List ℕ) → HasStatistics w
statistics_law w = record {
  inversions_count = (inversion_list w, record { members = λ p. (inversion_from w p, inversion_to w p.0 p.1); once = inversion_once w }, inversion_length w);
  descents_count = (descent_list w, record { members = λ s. (descent_from w s, descent_to w s); once = descent_once w }, descent_length w);
  maxima_count = (maximum_list w, record { members = λ s. (maximum_from w s, maximum_to w s); once = maximum_once w }, maximum_length w);
}
