-- Bars by a function that tells how many have each value.
use Rattle.std.proofs.Common.{◌≡◌, ℕ, zero, suc, ◌+◌, ◌<◌, ◌≤◌, Bool, true, false, cond, nat_lt, List, [], ◌∷◌, ◌++◌, map, filter, refl, sym, ap, ap₂, ◌∙◌, arith, le-ltb, append-nil}
use Rattle.std.proofs.lemmas.List.{map-append}
use Rattle.std.proofs.lemmas.List.Elements.{filter-append}
use Rattle.av_perm.specs.Lists.{counting}
use Rattle.av_perm.proofs.RisingLists.{counting_more}
use Rattle.av_bars.specs.declared.bars.Bar.{Bar}
use Rattle.av_bars.specs.Histograms.{bar, bar_at, bars_of}

one_bar : (f : ℕ → ℕ) (v : ℕ) → map (λ u. bar u (f u)) (filter (λ u. nat_lt 0 (f u)) (v ∷ [])) ≡ bar_at v (f v)
one_bar f v = by (nat_lt 0 (f v))
  where
    by : (b : Bool) → map (λ u. bar u (f u)) (cond b (v ∷ []) []) ≡ cond b (bar v (f v) ∷ []) []
    by true = refl
    by false = refl

-- one value more
pub bars_more : (f : ℕ → ℕ) (n : ℕ) → bars_of f (suc n) ≡ bars_of f n ++ bar_at n (f n)
unfolding bars_of
bars_more f n =
    let e : 0 + n ≡ n = omega arith in
    ap (λ (vs : List ℕ). map (λ u. bar u (f u)) (filter (λ u. nat_lt 0 (f u)) vs)) (sym (counting_more 0 n))
    ∙ ap (map (λ u. bar u (f u))) (filter-append (λ u. nat_lt 0 (f u)) (counting 0 n) ((0 + n) ∷ []))
    ∙ map-append (λ u. bar u (f u)) (filter (λ u. nat_lt 0 (f u)) (counting 0 n)) (filter (λ u. nat_lt 0 (f u)) ((0 + n) ∷ []))
    ∙ ap (λ (bs : List Bar). bars_of f n ++ bs) (one_bar f (0 + n) ∙ ap (λ m. bar_at m (f m)) e)

pub bars_after : (f : ℕ → ℕ) (n m : ℕ) → m ≡ suc n → bars_of f m ≡ bars_of f n ++ bar_at n (f n)
bars_after f n m e = ap (bars_of f) e ∙ bars_more f n

-- none has the value
bars_none : (f : ℕ → ℕ) (n m : ℕ) → m ≡ suc n → f n ≤ 0 → bars_of f m ≡ bars_of f n
bars_none f n m e h = bars_after f n m e ∙ ap (λ b. bars_of f n ++ cond b (bar n (f n) ∷ []) []) (le-ltb 0 (f n) h) ∙ append-nil (bars_of f n)

-- no value
pub bars_zero : (f : ℕ → ℕ) → bars_of f 0 ≡ []
unfolding bars_of
bars_zero f = refl

-- functions that agree have the same bars
pub bars_same : (f g : ℕ → ℕ) (n : ℕ) → ((v : ℕ) → v < n → f v ≡ g v) → bars_of f n ≡ bars_of g n
bars_same f g zero h = bars_zero f ∙ sym (bars_zero g)
bars_same f g (suc n) h =
    bars_more f n
    ∙ ap₂ (λ (xs ys : List Bar). xs ++ ys) (bars_same f g n (λ v l. h v (omega arith))) (ap (bar_at n) (h n (omega arith)))
    ∙ sym (bars_more g n)

-- there is no bar past the last value that some have
pub bars_end : (f : ℕ → ℕ) (m d : ℕ) → ((v : ℕ) → m ≤ v → f v ≤ 0) → bars_of f (m + d) ≡ bars_of f m
bars_end f m zero h = let e : m + 0 ≡ m = omega arith in ap (bars_of f) e
bars_end f m (suc d) h = bars_none f (m + d) (m + suc d) (omega arith) (h (m + d) (omega arith)) ∙ bars_end f m d h
