-- Lists of marks of which one has each mark of the other, and how many marks they have.
use Rattle.std.proofs.Common.{◌≡◌, ℕ, zero, suc, ◌<◌, ◌⊎◌, inl, inr, List, [], ◌∷◌, map, length, get_or, set, cond, Bool, true, false, Some, refl, sym, ap, ap₂, ◌∙◌, subst, arith, true≢false}
use Rattle.std.specs.List.{count_by}
use Rattle.std.proofs.lemmas.List.Sums.{sum_by-cons}
use Rattle.av_perm.proofs.Tests.{any_from, any_to, all_from, all_to}
use Rattle.av_sys.specs.declared.terms.Term.{Term}
use Rattle.av_sys.specs.declared.terms.Equation.{Equation}
use Rattle.av_sys.specs.Terms.{children_of}
use Rattle.av_build.specs.Alive.{has_marked, mark_next}
use Rattle.av_build.specs.Rounds.{Below}

-- how many marks there are
abbrev count : List Bool → ℕ
count marks = count_by (λ mark. mark) marks

-- the number of marks with one more in front
count_true : (xs : List Bool) → count (true ∷ xs) ≡ suc (count xs)
count_true xs = omega (arith, sum_by-cons (λ (mark : Bool). cond mark 1 0) true xs)

count_false : (xs : List Bool) → count (false ∷ xs) ≡ count xs
count_false xs = omega (arith, sum_by-cons (λ (mark : Bool). cond mark 1 0) false xs)

-- each list has its own marks
pub below_refl : (xs : List Bool) → Below xs xs
below_refl [] = tt
below_refl (x ∷ xs) = (λ e. e, below_refl xs)

-- what has the marks of a list that has those of a third has those
pub below_trans : (xs ys zs : List Bool) → Below xs ys → Below ys zs → Below xs zs
below_trans [] [] [] h k = tt
below_trans [] [] (z ∷ zs) h k = absurd k
below_trans [] (y ∷ ys) zs h k = absurd h
below_trans (x ∷ xs) [] zs h k = absurd h
below_trans (x ∷ xs) (y ∷ ys) [] h k = absurd k
below_trans (x ∷ xs) (y ∷ ys) (z ∷ zs) h k = (λ e. k.0 (h.0 e), below_trans xs ys zs h.1 k.1)

-- both are as long
pub below_length : (xs ys : List Bool) → Below xs ys → length xs ≡ length ys
below_length [] [] h = refl
below_length [] (y ∷ ys) h = absurd h
below_length (x ∷ xs) [] h = absurd h
below_length (x ∷ xs) (y ∷ ys) h = ap suc (below_length xs ys h.1)

-- a mark is equal to the other, or is made
mark_cases : (x y : Bool) → (x ≡ true → y ≡ true) → (x ≡ y) ⊎ ((x ≡ false) × (y ≡ true))
mark_cases true true h = inl refl
mark_cases true false h = inl (sym (h refl))
mark_cases false true h = inr (refl, refl)
mark_cases false false h = inl refl

-- the lists are equal, or the second has more marks
pub below_cases : (xs ys : List Bool) → Below xs ys → (xs ≡ ys) ⊎ (count xs < count ys)
below_cases [] [] h = inl refl
below_cases [] (y ∷ ys) h = absurd h
below_cases (x ∷ xs) [] h = absurd h
below_cases (x ∷ xs) (y ∷ ys) h = by (mark_cases x y h.0) (below_cases xs ys h.1)
  where
    more : (z : Bool) → count xs < count ys → count (z ∷ xs) < count (z ∷ ys)
    more true l = omega (arith, count_true xs, count_true ys)
    more false l = omega (arith, count_false xs, count_false ys)

    made : (xs ≡ ys) ⊎ (count xs < count ys) → count (false ∷ xs) < count (true ∷ ys)
    made (inl e) = let q = ap count e in omega (arith, count_false xs, count_true ys)
    made (inr l) = omega (arith, count_false xs, count_true ys)

    by : (x ≡ y) ⊎ ((x ≡ false) × (y ≡ true)) → (xs ≡ ys) ⊎ (count xs < count ys) → ((x ∷ xs) ≡ (y ∷ ys)) ⊎ (count (x ∷ xs) < count (y ∷ ys))
    by (inl e) (inl f) = inl (ap₂ (λ (z : Bool) (zs : List Bool). z ∷ zs) e f)
    by (inl e) (inr l) = inr (subst (λ z. count (x ∷ xs) < count (z ∷ ys)) e (more x l))
    by (inr p) o = inr (subst (λ z. count (z ∷ xs) < count (y ∷ ys)) (sym p.0) (subst (λ z. count (false ∷ xs) < count (z ∷ ys)) (sym p.1) (made o)))

-- lists that have each other's marks are equal
pub below_equal : (xs ys : List Bool) → Below xs ys → Below ys xs → xs ≡ ys
below_equal xs ys h k = elim (below_cases xs ys h) [
  | inl e ↦ e
  | inr l ↦ elim (below_cases ys xs k) [ inl e ↦ sym e | inr m ↦ absurd (omega arith) ]
]

-- a mark of the first is one of the second
pub below_get : (xs ys : List Bool) (i : ℕ) → Below xs ys → get_or xs i false ≡ true → get_or ys i false ≡ true
below_get [] ys i h e = absurd (true≢false (sym e))
below_get (x ∷ xs) [] i h e = absurd h
below_get (x ∷ xs) (y ∷ ys) zero h e = h.0 e
below_get (x ∷ xs) (y ∷ ys) (suc i) h e = below_get xs ys i h.1 e

-- lists of one length are so where each mark of the first is one of the second
pub below_from : (xs ys : List Bool) → length xs ≡ length ys → ((i : ℕ) → get_or xs i false ≡ true → get_or ys i false ≡ true) → Below xs ys
below_from [] [] l h = tt
below_from [] (y ∷ ys) l h = absurd (omega arith)
below_from (x ∷ xs) [] l h = absurd (omega arith)
below_from (x ∷ xs) (y ∷ ys) l h = (h 0, below_from xs ys (omega arith) (λ i. h (suc i)))

-- a mark that is made where the second list has one
pub set_below : (xs ys : List Bool) (i : ℕ) → Below xs ys → get_or ys i false ≡ true → Below (set xs i true) ys
set_below [] [] i h e = tt
set_below [] (y ∷ ys) i h e = absurd h
set_below (x ∷ xs) [] i h e = absurd h
set_below (x ∷ xs) (y ∷ ys) zero h e = (λ t. e, h.1)
set_below (x ∷ xs) (y ∷ ys) (suc i) h e = (h.0, set_below xs ys i h.1 e)

-- where there was none it is one more
pub set_count : (xs : List Bool) (i : ℕ) → i < length xs → get_or xs i false ≡ false → count (set xs i true) ≡ suc (count xs)
set_count [] i h e = absurd (omega arith)
set_count (x ∷ xs) zero h e = count_true xs ∙ ap suc (sym (count_false xs) ∙ ap (λ z. count (z ∷ xs)) (sym e))
set_count (true ∷ xs) (suc i) h e = count_true (set xs i true) ∙ ap suc (set_count xs i (omega arith) e ∙ sym (count_true xs))
set_count (false ∷ xs) (suc i) h e = count_false (set xs i true) ∙ set_count xs i (omega arith) e ∙ ap suc (sym (count_false xs))

-- no marks
pub none_below : (es : List Equation) (marks : List Bool) → length marks ≡ length es → Below (map (λ (e : Equation). false) es) marks
none_below [] [] l = tt
none_below [] (x ∷ marks) l = absurd (omega arith)
none_below (e ∷ es) [] l = absurd (omega arith)
none_below (e ∷ es) (x ∷ marks) l = (λ k. absurd (true≢false (sym k)), none_below es marks (omega arith))

-- more marks mark more terms
pub term_below : (xs ys : List Bool) (t : Term) → Below xs ys → has_marked xs t ≡ true → has_marked ys t ≡ true
term_below xs ys t h e = all_to (λ c. get_or ys c false) (children_of (Some t)) (λ c i. below_get xs ys c h (all_from (λ c. get_or xs c false) (children_of (Some t)) e c i))

-- and more equations
pub next_below : (es : List Equation) (xs ys : List Bool) → Below xs ys → Below (mark_next es xs) (mark_next es ys)
next_below [] xs ys h = tt
next_below (e ∷ es) xs ys h = (
  λ k. let r = any_from (has_marked xs) e.terms k in any_to (has_marked ys) e.terms r.0 r.1 (term_below xs ys r.0 h r.2),
  next_below es xs ys h,
)
