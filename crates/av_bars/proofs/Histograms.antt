-- The law of histograms: values, counts and what they reach.
use Rattle.std.proofs.Common.{◌≡◌, ℕ, suc, ◌<◌, nat_lt, List, [], ◌∷◌, map, filter, refl, sym, ap, ◌∙◌, subst, arith, lt-ltb, ltb-true}
use Rattle.std.specs.Ordering.{nat_cmp}
use Rattle.av_perm.specs.Lists.{counting}
use Rattle.av_perm.specs.Members.{In, Ascending}
use Rattle.av_perm.specs.Stat.{statistic_of}
use Rattle.av_perm.specs.declared.StatKind.{StatKind}
use Rattle.av_perm.proofs.Ascending.{ascending_filter, ascending_counting}
use Rattle.av_perm.proofs.Membership.{In_map, In_filter, filter_In, counting_In}
use Rattle.av_bars.specs.declared.bars.Bar.{Bar}
use Rattle.av_bars.specs.Histograms.{how_many, greatest, bar, bars, bars_of}
use Rattle.av_bars.specs.Laws.{IsHistogram}
use Rattle.av_bars.proofs.Counted.{present, at_most_greatest}

-- the values below n that some have
abbrev values : (ℕ → ℕ) → ℕ → List ℕ
values f n = filter (λ v. nat_lt 0 (f v)) (counting 0 n)

-- the values of bars that are made of values
values_of_bars : (f : ℕ → ℕ) (vs : List ℕ) → map (λ (b : Bar). b.value) (map (λ v. bar v (f v)) vs) ≡ vs
values_of_bars f [] = refl
values_of_bars f (v ∷ vs) = ap (λ (us : List ℕ). v ∷ us) (values_of_bars f vs)

values_are : (f : ℕ → ℕ) (n : ℕ) → map (λ (b : Bar). b.value) (bars_of f n) ≡ values f n
unfolding bars_of
values_are f n = values_of_bars f (values f n)

bars_increase : (f : ℕ → ℕ) (n : ℕ) → Ascending nat_cmp (map (λ (b : Bar). b.value) (bars_of f n))
bars_increase f n = subst (Ascending nat_cmp) (sym (values_are f n)) (ascending_filter nat_cmp (λ v. nat_lt 0 (f v)) (counting 0 n) (ascending_counting n 0))

bars_count : (f : ℕ → ℕ) (n : ℕ) (b : Bar) → In b (bars_of f n) → (b.count ≡ f b.value) × (0 < b.count)
unfolding bars_of
bars_count f n b i =
    let r = In_map (λ v. bar v (f v)) (values f n) b i in
    let p = In_filter (λ v. nat_lt 0 (f v)) (counting 0 n) r.0 r.1 in
    let k : b.count ≡ f r.0 = ap (λ (a : Bar). a.count) r.2 in
    let v : b.value ≡ r.0 = ap (λ (a : Bar). a.value) r.2 in
    let some : 0 < f r.0 = ltb-true 0 (f r.0) p.1 in
    (k ∙ ap f (sym v), omega (arith, k, some))

bars_reach : (f : ℕ → ℕ) (n v : ℕ) → v < n → 0 < f v → In v (map (λ (b : Bar). b.value) (bars_of f n))
bars_reach f n v within some =
    subst (In v) (sym (values_are f n)) (filter_In (λ u. nat_lt 0 (f u)) (counting 0 n) v (counting_In n 0 v (omega arith) (omega arith)) (lt-ltb 0 (f v) some))

pub histogram_law : (kind : StatKind) (ws : List (List ℕ)) → IsHistogram kind ws (bars kind ws)
unfolding bars
histogram_law kind ws = record {
  increasing = bars_increase (how_many kind ws) (suc (greatest kind ws));
  counted = bars_count (how_many kind ws) (suc (greatest kind ws));
  whole = λ w i. let m = at_most_greatest kind ws w i in bars_reach (how_many kind ws) (suc (greatest kind ws)) (statistic_of kind w) (omega arith) (present kind ws w i);
}
