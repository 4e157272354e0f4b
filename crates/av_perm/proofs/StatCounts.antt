-- Statistics, entry by entry, and how great they are.
use Rattle.std.proofs.Common.{◌≡◌, ℕ, zero, suc, ◌+◌, ◌-◌, ◌<◌, ◌≤◌, List, [], ◌∷◌, ◌++◌, length, drop, get_or, Bool, true, false, cond, nat_lt, count_by, refl, sym, ap, ◌∙◌, subst, arith}
use Rattle.std.proofs.Math.Seq.{drop-cons}
use Rattle.std.proofs.lemmas.Bool.{ltb-true, lt-ltb}
use Rattle.std.proofs.lemmas.List.Sums.{sum_by-append, count_by-le-length}
use Rattle.av_perm.specs.Lists.{counting}
use Rattle.av_perm.specs.Relations.{at}
use Rattle.av_perm.specs.Stat.{inversions, descents, is_left_to_right_maximum}
use Rattle.av_perm.specs.Word.{entry}
use Rattle.av_perm.proofs.Membership.{In_counting, counting_In}
use Rattle.av_perm.proofs.Occurrences.{entry_at}
use Rattle.av_perm.proofs.Tests.{all_to, all_from}
use Rattle.av_perm.specs.declared.limits.TheConstants.{MAX_LENGTH, MAX_STATISTIC}

-- the number of pairs of n places
unfoldable pub pairs_of : ℕ → ℕ
pairs_of zero = 0
pairs_of (suc n) = n + pairs_of n

pairs_grow : (m n : ℕ) → m ≤ n → pairs_of m ≤ pairs_of n
unfolding pairs_of
pairs_grow zero n h = omega arith
pairs_grow (suc m) zero h = absurd (omega arith)
pairs_grow (suc m) (suc n) h = let k : m ≤ n = omega arith in omega (arith, pairs_grow m n k)

pairs_of_longest : pairs_of MAX_LENGTH ≡ MAX_STATISTIC
unfolding pairs_of
pairs_of_longest = refl

-- a word has at most so many inversions
pub inversions_within : (w : List ℕ) → inversions w ≤ pairs_of (length w)
unfolding pairs_of
inversions_within [] = omega arith
inversions_within (x ∷ xs) = omega (arith, count_by-le-length (λ y. nat_lt y x) xs, inversions_within xs)

pub inversions_few : (w : List ℕ) → length w ≤ MAX_LENGTH → inversions w ≤ MAX_STATISTIC
inversions_few w h = omega (arith, inversions_within w, pairs_grow (length w) MAX_LENGTH h, pairs_of_longest)

-- inversions whose first place is the first of those that are left
pub inversions_turn : (w : List ℕ) (i : ℕ) → i < length w → inversions (drop i w) ≡ count_by (λ y. nat_lt y (get_or w i 0)) (drop (i + 1) w) + inversions (drop (i + 1) w)
inversions_turn w i h = let e : suc i ≡ i + 1 = omega arith in ap inversions (drop-cons w i 0 h ∙ ap (λ n. get_or w i 0 ∷ drop n w) e)

-- descents at the first of the places that are left
pub descents_turn : (w : List ℕ) (i : ℕ) → i + 1 < length w → descents (drop i w) ≡ cond {A = ℕ} (nat_lt (get_or w (i + 1) 0) (get_or w i 0)) 1 0 + descents (drop (i + 1) w)
descents_turn w i h =
    let e : suc i ≡ i + 1 = omega arith in
    let f : drop (i + 1) w ≡ get_or w (i + 1) 0 ∷ drop (suc (i + 1)) w = drop-cons w (i + 1) 0 h in
    let g : drop i w ≡ get_or w i 0 ∷ get_or w (i + 1) 0 ∷ drop (suc (i + 1)) w = drop-cons w i 0 (omega arith) ∙ ap (λ n. get_or w i 0 ∷ drop n w) e ∙ ap (λ l. get_or w i 0 ∷ l) f in
    ap descents g ∙ ap (λ l. cond {A = ℕ} (nat_lt (get_or w (i + 1) 0) (get_or w i 0)) 1 0 + descents l) (sym f)

-- fewer than two entries have none
pub descents_end : (w : List ℕ) → length w ≤ 1 → descents w ≡ 0
descents_end [] h = refl
descents_end (x ∷ []) h = refl
descents_end (x ∷ y ∷ xs) h = absurd (omega arith)

pub descents_few : (w : List ℕ) → descents w ≤ length w
descents_few [] = omega arith
descents_few (x ∷ []) = omega arith
descents_few (x ∷ y ∷ xs) = by (nat_lt y x) (descents_few (y ∷ xs))
  where
    by : (b : Bool) → descents (y ∷ xs) ≤ length (y ∷ xs) → cond {A = ℕ} b 1 0 + descents (y ∷ xs) ≤ length (x ∷ y ∷ xs)
    by true h = omega arith
    by false h = omega arith

-- the greatest of the first entries, and 0 where there are none
pub record IsGreatest (w : List ℕ) (i g : ℕ) : Type 0 where
  pub above : (r : ℕ) → r < i → at w r ≤ g
  pub reached : 1 ≤ g → (r : ℕ) × (r < i) × (at w r ≡ g)

-- how many of the first places hold an entry greater than all before it
abbrev pub maxima_up_to : List ℕ → ℕ → ℕ
maxima_up_to w i = count_by (is_left_to_right_maximum w) (counting 1 i)

counting_more : (n lo : ℕ) → counting lo (n + 1) ≡ counting lo n ++ (lo + n) ∷ []
counting_more zero lo = let e : lo + 0 ≡ lo = omega arith in rw e refl
counting_more (suc n) lo =
    let e : suc n + 1 ≡ suc (n + 1) = omega arith in
    let f : lo + suc n ≡ suc lo + n = omega arith in
    rw (e, f) (ap (λ l. lo ∷ l) (counting_more n (suc lo)))

maxima_more : (w : List ℕ) (i : ℕ) → maxima_up_to w (i + 1) ≡ maxima_up_to w i + cond {A = ℕ} (is_left_to_right_maximum w (1 + i)) 1 0
maxima_more w i =
    ap (count_by (is_left_to_right_maximum w)) (counting_more i 1) ∙ sum_by-append (λ s. cond {A = ℕ} (is_left_to_right_maximum w s) 1 0) (counting 1 i) ((1 + i) ∷ [])
    ∙ ap (λ n. maxima_up_to w i + n) (none_before (cond {A = ℕ} (is_left_to_right_maximum w (1 + i)) 1 0))
  where
    none_before : (n : ℕ) → 0 + n ≡ n
    none_before n = omega arith

-- the entry at a place is greater than all before it exactly where it is greater than the greatest of them
maximum_yes : (w : List ℕ) (i g : ℕ) → IsGreatest w i g → g < at w i → is_left_to_right_maximum w (1 + i) ≡ true
maximum_yes w i g k h = all_to (λ r. nat_lt (entry w r) (entry w (1 + i))) (counting 1 (1 + i - 1)) (λ r j.
    let p = In_counting (1 + i - 1) 1 r j in
    let a = entry_at w r p.0 in
    let b = entry_at w (1 + i) (omega arith) in
    let e : 1 + i - 1 ≡ i = omega arith in
    lt-ltb (entry w r) (entry w (1 + i)) (omega (arith, k.above (r - 1) (omega (arith, p.0, p.1)), a, b, ap (at w) e, h)))

maximum_no : (w : List ℕ) (i g : ℕ) → IsGreatest w i g → 1 ≤ at w i → at w i ≤ g → is_left_to_right_maximum w (1 + i) ≡ false
maximum_no w i g k some h = by (is_left_to_right_maximum w (1 + i)) refl
  where
    by : (b : Bool) → is_left_to_right_maximum w (1 + i) ≡ b → b ≡ false
    by false e = refl
    by true e =
        let r = k.reached (omega arith) in
        let j = counting_In (1 + i - 1) 1 (1 + r.0) (omega arith) (omega (arith, r.1)) in
        let l = ltb-true (entry w (1 + r.0)) (entry w (1 + i)) (all_from (λ r. nat_lt (entry w r) (entry w (1 + i))) (counting 1 (1 + i - 1)) e (1 + r.0) j) in
        let a = entry_at w (1 + r.0) (omega arith) in
        let b = entry_at w (1 + i) (omega arith) in
        let f : 1 + i - 1 ≡ i = omega arith in
        let g : 1 + r.0 - 1 ≡ r.0 = omega arith in
        absurd (omega (arith, l, a, b, ap (at w) f, ap (at w) g, r.2, h))

pub no_entries : (w : List ℕ) → IsGreatest w 0 0
no_entries w = record { above = λ r h. absurd (omega arith); reached = λ h. absurd (omega arith) }

pub greater_entry : (w : List ℕ) (i g : ℕ) → IsGreatest w i g → g < at w i → IsGreatest w (i + 1) (at w i) × (maxima_up_to w (i + 1) ≡ maxima_up_to w i + 1)
greater_entry w i g k h = (
  record { above = λ r l. at_most r l; reached = λ s. (i, omega arith, refl) },
  maxima_more w i ∙ ap (λ b. maxima_up_to w i + cond {A = ℕ} b 1 0) (maximum_yes w i g k h),
)
  where
    at_most : (r : ℕ) → r < i + 1 → at w r ≤ at w i
    at_most r l = by (nat_lt r i) refl
      where
        by : (b : Bool) → nat_lt r i ≡ b → at w r ≤ at w i
        by true e = omega (arith, k.above r (ltb-true r i e), h)
        by false e = let f : r ≡ i = grind arith in omega (arith, ap (at w) f)

pub smaller_entry : (w : List ℕ) (i g : ℕ) → IsGreatest w i g → 1 ≤ at w i → at w i ≤ g → IsGreatest w (i + 1) g × (maxima_up_to w (i + 1) ≡ maxima_up_to w i)
smaller_entry w i g k some h = (
  record { above = λ r l. at_most r l; reached = λ s. let r = k.reached s in (r.0, omega (arith, r.1), r.2) },
  maxima_more w i ∙ ap (λ b. maxima_up_to w i + cond {A = ℕ} b 1 0) (maximum_no w i g k some h) ∙ omega arith,
)
  where
    at_most : (r : ℕ) → r < i + 1 → at w r ≤ g
    at_most r l = by (nat_lt r i) refl
      where
        by : (b : Bool) → nat_lt r i ≡ b → at w r ≤ g
        by true e = k.above r (ltb-true r i e)
        by false e = let f : r ≡ i = grind arith in omega (arith, ap (at w) f, h)

-- there are at most as many as places
pub maxima_few : (w : List ℕ) (i : ℕ) → maxima_up_to w i ≤ i
maxima_few w zero = omega arith
maxima_few w (suc i) =
    let e : i + 1 ≡ suc i = omega arith in
    subst (λ n. maxima_up_to w n ≤ n) e (subst (λ m. m ≤ i + 1) (sym (maxima_more w i)) (by (is_left_to_right_maximum w (1 + i)) (maxima_few w i)))
  where
    by : (b : Bool) → maxima_up_to w i ≤ i → maxima_up_to w i + cond {A = ℕ} b 1 0 ≤ i + 1
    by true h = omega arith
    by false h = omega arith
