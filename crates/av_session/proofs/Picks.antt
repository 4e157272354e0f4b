-- The members that are picked, each with its rank, and the bars that say how many members have each value of a statistic.
use Rattle.std.proofs.Common.{◌≡◌, ℕ, zero, suc, ◌+◌, ◌-◌, ◌^◌, ◌<◌, ◌≤◌, inl, inr, List, [], ◌∷◌, length, map, take, filter, slice_get, nat_eq, Some, None, refl, sym, ap, ◌∙◌, subst, arith, eq-eqb, eqb-true}
use Rattle.std.proofs.lemmas.List.{length-map, take_all}
use Rattle.std.specs.Ordering.{nat_cmp}
use Rattle.av_perm.specs.Members.{In, Ascending, IsListOf}
use Rattle.av_perm.specs.Relations.{InClassWithAt}
use Rattle.av_perm.specs.Stat.{statistic_of}
use Rattle.av_perm.specs.declared.StatKind.{StatKind}
use Rattle.av_perm.proofs.Ascending.{ascending_filter, nat_cmp_less}
use Rattle.av_perm.proofs.Membership.{In_filter, filter_In, In_map}
use Rattle.av_perm.proofs.NoRepeats.{once_filter}
use Rattle.av_list.specs.Items.{ranked, items_from}
use Rattle.av_count.proofs.Members.{map_map}
use Rattle.av_bars.specs.declared.bars.Bar.{Bar}
use Rattle.av_bars.specs.Histograms.{bars, how_many}
use Rattle.av_bars.specs.Distributions.{distribution_of}
use Rattle.av_bars.specs.Laws.{pair_of, histogram_pair}
use Rattle.av_bars.proofs.Histograms.{histogram_law}
use Rattle.av_bars.proofs.DistributionLaws.{same_histogram_law}
use Rattle.av_stat.specs.Listed.{words_of}
use Rattle.av_text.specs.declared.queries.DistKind.{DistKind}
use Rattle.av_text.specs.Queries.{stat_kind}
use Rattle.av_session.specs.Answers.{picked}
use Rattle.av_session.specs.Runs.{by_rank, ArePicked, IsMemberCount, HasBars}

-- the first k of some words with their ranks, from rank r on: ranks are from r on, and below r + k
taken_to : (k : ℕ) (ws : List (List ℕ)) (r : ℕ) (row : ℕ × List ℕ) → In row (take k (ranked r ws)) → (r ≤ row.0) × (row.0 < r + k) × (slice_get ws (row.0 - r) ≡ Some row.1)
taken_to zero ws r row i = absurd i
taken_to (suc k) [] r row i = absurd i
taken_to (suc k) (w ∷ ws) r row (inl e) =
    let rank : row.0 ≡ r = ap (λ (z : ℕ × List ℕ). z.0) e in
    let none : row.0 - r ≡ 0 = omega arith in
    (omega arith, omega arith, ap (slice_get (w ∷ ws)) none ∙ sym (ap (λ (z : ℕ × List ℕ). Some z.1) e))
taken_to (suc k) (w ∷ ws) r row (inr i) =
    let t = taken_to k ws (r + 1) row i in
    let one : row.0 - r ≡ suc (row.0 - (r + 1)) = omega (arith, t.0) in
    (omega (arith, t.0), omega (arith, t.1), ap (slice_get (w ∷ ws)) one ∙ t.2)

taken_from : (k : ℕ) (ws : List (List ℕ)) (r : ℕ) (row : ℕ × List ℕ) → r ≤ row.0 → row.0 < r + k → slice_get ws (row.0 - r) ≡ Some row.1 → In row (take k (ranked r ws))
taken_from zero ws r row low high there = absurd (omega arith)
taken_from (suc k) [] r row low high there = absurd (let f : None ≡ Some row.1 = there in cc)
taken_from (suc k) (w ∷ ws) r (q, v) low high there = by (q - r) refl there (taken_from k ws (r + 1) (q, v))
  where
    by : (d : ℕ) → q - r ≡ d → slice_get (w ∷ ws) d ≡ Some v → (r + 1 ≤ q → q < r + 1 + k → slice_get ws (q - (r + 1)) ≡ Some v → In (q, v) (take k (ranked (r + 1) ws))) → In (q, v) (take (suc k) (ranked r (w ∷ ws)))
    by zero e f more = let rank : q ≡ r = omega arith in let word : v ≡ w = cc in inl (rw (rank, word) refl)
    by (suc d) e f more = let one : q - (r + 1) ≡ d = omega arith in inr (more (omega arith) (omega arith) (ap (slice_get ws) one ∙ f))

taken_rise : (k : ℕ) (ws : List (List ℕ)) (r : ℕ) → Ascending by_rank (take k (ranked r ws))
taken_rise zero ws r = tt
taken_rise (suc k) [] r = tt
taken_rise (suc k) (w ∷ ws) r = (λ y i. nat_cmp_less r y.0 (let t = taken_to k ws (r + 1) y i in omega (arith, t.0)), taken_rise k ws (r + 1))

-- the rows that are picked are those of the members with the value, in order of rank
pub are_picked : (t : StatKind) (v : ℕ) (ws : List (List ℕ)) → ArePicked t v ws (picked t v (items_from 0 ws))
unfolding picked
are_picked t v ws = record {
  ordered = ascending_filter by_rank (λ row. nat_eq (statistic_of t row.1) v) (items_from 0 ws) (taken_rise (2 ^ 128 - 0) ws 0);
  members = λ row. (
    λ i.
        let f = In_filter (λ row. nat_eq (statistic_of t row.1) v) (items_from 0 ws) row i in
        let p = taken_to (2 ^ 128 - 0) ws 0 row f.0 in
        let same : row.0 - 0 ≡ row.0 = omega arith in
        (omega (arith, p.1), sym (ap (slice_get ws) same) ∙ p.2, eqb-true (statistic_of t row.1) v f.1),
    λ p.
        let same : row.0 - 0 ≡ row.0 = omega arith in
        filter_In (λ row. nat_eq (statistic_of t row.1) v) (items_from 0 ws) row (taken_from (2 ^ 128 - 0) ws 0 row (omega arith) (omega (arith, p.0)) (ap (slice_get ws) same ∙ p.1)) (eq-eqb (statistic_of t row.1) v p.2),
  );
}

-- how many of the members have a value
is_count : (basis required ws : List (List ℕ)) (t : StatKind) (n v : ℕ) → IsListOf (InClassWithAt basis required n) ws → IsMemberCount basis required t n v (how_many t ws v)
unfolding how_many
is_count basis required ws t n v l = record {
  words = filter (λ w. nat_eq (statistic_of t w) v) ws;
  listed = record {
    members = λ σ. (
      λ i. let f = In_filter (λ w. nat_eq (statistic_of t w) v) ws σ i in ((l.members σ).0 f.0, eqb-true (statistic_of t σ) v f.1),
      λ p. filter_In (λ w. nat_eq (statistic_of t w) v) ws σ ((l.members σ).1 p.0) (eq-eqb (statistic_of t σ) v p.1),
    );
    once = once_filter (λ w. nat_eq (statistic_of t w) v) ws l.once;
  };
  many = refl;
}

-- the values of bars
values_of : (bs : List Bar) → map (λ (b : ℕ × ℕ). b.0) (map histogram_pair bs) ≡ map (λ (b : Bar). b.value) bs
values_of bs = map_map (λ (b : ℕ × ℕ). b.0) histogram_pair bs

-- the bars of a histogram are those of the class
pub has_bars : (basis required ws : List (List ℕ)) (t : StatKind) (n : ℕ) → IsListOf (InClassWithAt basis required n) ws
    → HasBars basis required t n (map histogram_pair (bars t ws))
has_bars basis required ws t n l =
    let h = histogram_law t ws in
    record {
      increasing = subst (Ascending nat_cmp) (sym (values_of (bars t ws))) h.increasing;
      counted = λ b i.
          let own = In_map histogram_pair (bars t ws) b i in
          let c = h.counted own.0 own.1 in
          let many : how_many t ws own.0.value ≡ own.0.count = sym c.0 in
          subst (λ (z : ℕ × ℕ). (1 ≤ z.1) × IsMemberCount basis required t n z.0 z.1) (sym own.2)
          (omega (arith, c.1), subst (IsMemberCount basis required t n own.0.value) many (is_count basis required ws t n own.0.value l));
      whole = λ σ c. subst (In (statistic_of t σ)) (sym (values_of (bars t ws))) (h.whole σ ((l.members σ).1 c));
    }

-- and so are those of a distribution, which has the values and the counts of the histogram
pub has_distribution : (basis required ws : List (List ℕ)) (k : DistKind) (n : ℕ) → IsListOf (InClassWithAt basis required n) ws
    → HasBars basis required (stat_kind k) n (map pair_of (distribution_of (stat_kind k) ws))
has_distribution basis required ws k n l =
    subst (HasBars basis required (stat_kind k) n) (sym (same_histogram_law (stat_kind k) ws)) (has_bars basis required ws (stat_kind k) n l)

-- the words of the first k of some words with their ranks
taken_words : (k : ℕ) (ws : List (List ℕ)) (r : ℕ) → words_of (take k (ranked r ws)) ≡ take k ws
taken_words zero ws r = refl
taken_words (suc k) [] r = refl
taken_words (suc k) (w ∷ ws) r = ap (λ (vs : List (List ℕ)). w ∷ vs) (taken_words k ws (r + 1))

-- where they are few, the words of the items from rank 0 on are all, and as many
pub words_of_items : (ws : List (List ℕ)) → length ws < 2 ^ 64 → words_of (items_from 0 ws) ≡ ws
words_of_items ws few = taken_words (2 ^ 128 - 0) ws 0 ∙ take_all (2 ^ 128 - 0) ws (omega arith)

pub few_items : (ws : List (List ℕ)) → length ws < 2 ^ 64 → length (items_from 0 ws) < 2 ^ 64
few_items ws few = omega (arith, length-map (items_from 0 ws) (λ (i : ℕ × List ℕ). i.1), ap length (words_of_items ws few))
