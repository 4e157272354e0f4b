-- Lists with one element more or less, by places: where each of the others stands.
use Rattle.std.proofs.Common.{◌≡◌, ℕ, suc, ◌-◌, ◌<◌, ◌≤◌, ◌≢◌, ◌⊎◌, inl, inr, ◌↔◌, List, ◌∷◌, ◌++◌, map, take, drop, length, cond, ltb, lt-ltb, refl, sym, ap, ◌∙◌, subst, arith, add-one}
use Rattle.std.specs.List.{insert, remove}
use Rattle.std.proofs.lemmas.Bool.{cases_lt, cases_eq, le-ltb}
use Rattle.std.proofs.lemmas.List.{map-append, take-map, drop-map, take-append-drop}
use Rattle.std.proofs.lemmas.List.Edits.{length-insert, get_or-insert_below, get_or-insert_at, get_or-insert_above, length-remove, get_or-remove_below, get_or-remove_above}
use Rattle.av_perm.specs.Relations.{at, SameOrder}
use Rattle.av_perm.proofs.Membership.{In, In_append_cases, append_left, append_right}

-- the numbers but s, in turn
abbrev pub skip : ℕ → ℕ → ℕ
skip s i = cond (ltb i s) i (suc i)

-- below s each number is itself
pub skip_low : (s i : ℕ) → i < s → skip s i ≡ i
skip_low s i h = ap (λ b. cond b i (suc i)) (lt-ltb i s h)

-- and from s on the next one
pub skip_high : (s i : ℕ) → s ≤ i → skip s i ≡ suc i
skip_high s i h = ap (λ b. cond b i (suc i)) (le-ltb i s h)

-- they increase
pub skip_up : (s i j : ℕ) → i < j → skip s i < skip s j
skip_up s i j h = elim (cases_lt i s) [
  | inl l ↦ elim (cases_lt j s) [
    | inl m ↦ omega (arith, skip_low s i l, skip_low s j m)
    | inr m ↦ omega (arith, skip_low s i l, skip_high s j m)
  ]
  | inr l ↦ omega (arith, skip_high s i l, skip_high s j (omega arith))
]

-- s is not among them
pub skip_not : (s i : ℕ) → skip s i ≢ s
skip_not s i e = elim (cases_lt i s) [ inl l ↦ omega (arith, skip_low s i l) | inr l ↦ omega (arith, skip_high s i l) ]

-- those below n are the first ones below n + 1
pub skip_few : (s n i : ℕ) → i < n → skip s i < suc n
skip_few s n i h = elim (cases_lt i s) [ inl l ↦ omega (arith, skip_low s i l) | inr l ↦ omega (arith, skip_high s i l) ]

-- which of them a number is
abbrev pub unskip : ℕ → ℕ → ℕ
unskip s i = cond (ltb i s) i (i - 1)

-- a number other than s is the one that it is
pub skip_unskip : (s i : ℕ) → i ≢ s → skip s (unskip s i) ≡ i
skip_unskip s i ne = elim (cases_lt i s) [
  | inl l ↦ let e : unskip s i ≡ i = ap (λ b. cond b i (i - 1)) (lt-ltb i s l) in ap (skip s) e ∙ skip_low s i l
  | inr l ↦ let e : unskip s i ≡ i - 1 = ap (λ b. cond b i (i - 1)) (le-ltb i s l) in ap (skip s) e ∙ omega (arith, ne, skip_high s (i - 1) (omega (arith, ne)))
]

-- later numbers are later ones
pub unskip_up : (s i j : ℕ) → i ≢ s → j ≢ s → i < j → unskip s i < unskip s j
unskip_up s i j ni nj h = elim (cases_lt (unskip s i) (unskip s j)) [
  | inl l ↦ l
  | inr l ↦ elim (cases_eq (unskip s i) (unskip s j)) [
    | inl e ↦ absurd (omega (arith, skip_unskip s i ni, skip_unskip s j nj, ap (skip s) e))
    | inr ne ↦ absurd (omega (arith, skip_unskip s i ni, skip_unskip s j nj, skip_up s (unskip s j) (unskip s i) (omega (arith, ne))))
  ]
]

-- of n + 1 numbers with s among them the others are n
pub unskip_few : (s i n : ℕ) → i ≢ s → i < suc n → s < suc n → unskip s i < n
unskip_few s i n ne h k = elim (cases_lt i s) [
  | inl l ↦ let e : unskip s i ≡ i = ap (λ b. cond b i (i - 1)) (lt-ltb i s l) in omega arith
  | inr l ↦ let e : unskip s i ≡ i - 1 = ap (λ b. cond b i (i - 1)) (le-ltb i s l) in omega (arith, ne)
]

-- a place of a longer list is the new one or an old one
pub old_or_new : (s n t : ℕ) → s ≤ n → t < suc n → (t ≡ s) ⊎ ((i : ℕ) × (i < n) × (skip s i ≡ t))
old_or_new s n t h k = elim (cases_eq t s) [
  | inl e ↦ inl e
  | inr ne ↦ inr (unskip s t, unskip_few s t n ne k (omega arith), skip_unskip s t ne)
]

-- ---- one element less

-- the list without the element at a place is shorter by one
pub length_remove : (xs : List ℕ) (s : ℕ) → s < length xs → suc (length (remove xs s)) ≡ length xs
length_remove xs s h = omega (arith, length-remove xs s h)

-- and has the other elements in turn
pub at_remove : (xs : List ℕ) (s i : ℕ) → s < length xs → at (remove xs s) i ≡ at xs (skip s i)
at_remove xs s i h = elim (cases_lt i s) [
  | inl l ↦ get_or-remove_below xs s 0 i l h ∙ ap (at xs) (sym (skip_low s i l))
  | inr l ↦ get_or-remove_above xs s 0 i l h ∙ ap (at xs) (add-one i ∙ sym (skip_high s i l))
]

-- ---- one element more

-- the list with an element put in is longer by one
pub length_insert : (xs : List ℕ) (s y : ℕ) → s ≤ length xs → length (insert xs s y) ≡ suc (length xs)
length_insert xs s y h = omega (arith, length-insert xs s y h)

-- the element stands at its place
pub at_insert_new : (xs : List ℕ) (s y : ℕ) → s ≤ length xs → at (insert xs s y) s ≡ y
at_insert_new xs s y h = get_or-insert_at xs s y 0 h

-- and the others at the other places
pub at_insert_old : (xs : List ℕ) (s y i : ℕ) → s ≤ length xs → at (insert xs s y) (skip s i) ≡ at xs i
at_insert_old xs s y i h = elim (cases_lt i s) [
  | inl l ↦ ap (at (insert xs s y)) (skip_low s i l) ∙ get_or-insert_below xs s y 0 i l h
  | inr l ↦ ap (at (insert xs s y)) (skip_high s i l ∙ sym (add-one i)) ∙ get_or-insert_above xs s y 0 i l h
]

-- what maps the elements maps the one put in
pub map-insert : (f : ℕ → ℕ) (xs : List ℕ) (s y : ℕ) → map f (insert xs s y) ≡ insert (map f xs) s (f y)
map-insert f xs s y =
    map-append f (take s xs) (y ∷ drop s xs)
    ∙ ap (λ (l : List ℕ). l ++ f y ∷ map f (drop s xs)) (sym (take-map f s xs))
    ∙ ap (λ (l : List ℕ). take s (map f xs) ++ f y ∷ l) (sym (drop-map f s xs))

-- the element put in is there
pub In_insert_new : (xs : List ℕ) (s y : ℕ) → In y (insert xs s y)
In_insert_new xs s y = append_right (take s xs) (y ∷ drop s xs) y (inl refl)

-- and the others still are
pub In_insert_old : (xs : List ℕ) (s y z : ℕ) → In z xs → In z (insert xs s y)
In_insert_old xs s y z i = elim (In_append_cases (take s xs) (drop s xs) z (subst (λ (l : List ℕ). In z l) (sym (take-append-drop s xs)) i)) [
  | inl j ↦ append_left (take s xs) (y ∷ drop s xs) z j
  | inr j ↦ append_right (take s xs) (y ∷ drop s xs) z (inr j)
]

-- what is put into two lists in the same order, where it lies to the others alike, leaves them in the same order
pub insert_order : (s x y : ℕ) (xs ys : List ℕ) → s ≤ length xs → SameOrder xs ys
    → ((i : ℕ) → i < length xs → ((x < at xs i) ↔ (y < at ys i)) × ((at xs i < x) ↔ (at ys i < y)))
    → SameOrder (insert xs s x) (insert ys s y)
insert_order s x y xs ys h o f = record {
  count = length_insert xs s x h ∙ ap suc o.count ∙ sym (length_insert ys s y k);
  alike = λ a b ha hb. by a b (old_or_new s (length xs) a h (omega (arith, length_insert xs s x h))) (old_or_new s (length xs) b h (omega (arith, length_insert xs s x h)));
}
  where
    k : s ≤ length ys
    k = omega (arith, o.count)

    here : (a : ℕ) → a ≡ s → (at (insert xs s x) a ≡ x) × (at (insert ys s y) a ≡ y)
    here a e = (ap (at (insert xs s x)) e ∙ at_insert_new xs s x h, ap (at (insert ys s y)) e ∙ at_insert_new ys s y k)

    there : (a i : ℕ) → skip s i ≡ a → (at (insert xs s x) a ≡ at xs i) × (at (insert ys s y) a ≡ at ys i)
    there a i e = (ap (at (insert xs s x)) (sym e) ∙ at_insert_old xs s x i h, ap (at (insert ys s y)) (sym e) ∙ at_insert_old ys s y i k)

    by : (a b : ℕ) → (a ≡ s) ⊎ ((i : ℕ) × (i < length xs) × (skip s i ≡ a)) → (b ≡ s) ⊎ ((i : ℕ) × (i < length xs) × (skip s i ≡ b))
        → (at (insert xs s x) a < at (insert xs s x) b) ↔ (at (insert ys s y) a < at (insert ys s y) b)
    by a b (inl e) (inl g) =
        let p = here a e in
        let q = here b g in
        (λ l. absurd (omega (arith, p.0, q.0)), λ l. absurd (omega (arith, p.1, q.1)))
    by a b (inl e) (inr r) = let p = here a e in let q = there b r.0 r.2 in rw (p.0, p.1, q.0, q.1) (f r.0 r.1).0
    by a b (inr r) (inl e) = let p = there a r.0 r.2 in let q = here b e in rw (p.0, p.1, q.0, q.1) (f r.0 r.1).1
    by a b (inr r) (inr t) = let p = there a r.0 r.2 in let q = there b t.0 t.2 in rw (p.0, p.1, q.0, q.1) (o.alike r.0 t.0 r.1 t.1)
