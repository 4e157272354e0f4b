-- The laws of distributions: what their bars say, that no other bars say it, and that the histogram has the same values and counts.
use Rattle.std.proofs.Common.{◌≡◌, ℕ, ◌<◌, inl, inr, List, [], ◌∷◌, map, filter, get_or, refl, sym, ap, ap₂, ◌∙◌, subst, arith, nat_eq, eqb-true}
use Rattle.std.proofs.lemmas.Cmp.{nat_cmp_total}
use Rattle.std.specs.Ordering.{nat_cmp}
use Rattle.av_perm.specs.Members.{In, Ascending}
use Rattle.av_perm.specs.Stat.{statistic_of}
use Rattle.av_perm.specs.declared.StatKind.{StatKind}
use Rattle.av_perm.proofs.Ascending.{ascending_same}
use Rattle.av_perm.proofs.Membership.{In_map, map_In, In_at, In_filter}
use mathlib.Core.List.{map-map}
use Rattle.av_bars.specs.declared.bars.Bar.{Bar}
use Rattle.av_bars.specs.Histograms.{how_many, bars}
use Rattle.av_bars.proofs.Histograms.{histogram_law}
use Rattle.av_bars.specs.declared.dist_bars.DistBar.{DistBar}
use Rattle.av_bars.specs.Distributions.{dist_bar, distribution_of}
use Rattle.av_bars.specs.Laws.{HasDistribution, DistributionLaw, SameHistogramLaw, pair_of}
use Rattle.av_bars.proofs.Distributions.{widened, distribution_widened}

-- a word with a value that some have
word_with : (kind : StatKind) (ws : List (List ℕ)) (v : ℕ) → 0 < how_many kind ws v → (w : List ℕ) × In w ws × (statistic_of kind w ≡ v)
unfolding how_many
word_with kind ws v h =
    let found = filter (λ w. nat_eq (statistic_of kind w) v) ws in
    let r = In_filter (λ w. nat_eq (statistic_of kind w) v) ws (get_or found 0 []) (In_at found 0 [] h) in
    (get_or found 0 [], r.0, eqb-true (statistic_of kind (get_or found 0 [])) v r.1)

-- a value that some have has its bar, and each bar is one of these
bar_of_value : (kind : StatKind) (ws : List (List ℕ)) (d : DistBar) → d.count ≡ how_many kind ws d.value → 0 < d.count
    → In d (map widened (bars kind ws))
bar_of_value kind ws d e h =
    let laws = histogram_law kind ws in
    let w = word_with kind ws d.value (omega arith) in
    let b = In_map (λ (b : Bar). b.value) (bars kind ws) (statistic_of kind w.0) (laws.whole w.0 w.1) in
    let v : d.value ≡ b.0.value = sym w.2 ∙ b.2 in
    let m : d.count ≡ b.0.count = e ∙ ap (how_many kind ws) v ∙ sym (laws.counted b.0 b.1).0 in
    let same : widened b.0 ≡ d = ap₂ dist_bar (sym v) (sym m) in
    subst (λ z. In z (map widened (bars kind ws))) same (map_In widened (bars kind ws) b.0 b.1)

value_of_bar : (kind : StatKind) (ws : List (List ℕ)) (d : DistBar) → In d (map widened (bars kind ws))
    → (d.count ≡ how_many kind ws d.value) × (0 < d.count)
value_of_bar kind ws d i =
    let b = In_map widened (bars kind ws) d i in
    subst (λ (z : DistBar). (z.count ≡ how_many kind ws z.value) × (0 < z.count)) (sym b.2) ((histogram_law kind ws).counted b.0 b.1)

-- so the distribution says what it should
distribution_says : (kind : StatKind) (ws : List (List ℕ)) → HasDistribution kind ws (distribution_of kind ws)
distribution_says kind ws = subst (HasDistribution kind ws) (sym (distribution_widened kind ws)) (record {
  increasing =
      subst (Ascending nat_cmp) (sym (map-map (λ (d : DistBar). d.value) widened (bars kind ws))) (histogram_law kind ws).increasing;
  bars_are = λ d. (value_of_bar kind ws d, λ p. bar_of_value kind ws d p.0 p.1);
})

-- bars with these counts are told by their values
values : List DistBar → List ℕ
values ds = map (λ (d : DistBar). d.value) ds

told_by_values : (count : ℕ → ℕ) (ds : List DistBar) → ((d : DistBar) → In d ds → d.count ≡ count d.value) → ds ≡ map (λ v. dist_bar v (count v)) (values ds)
unfolding values
told_by_values count [] h = refl
told_by_values count (d ∷ ds) h =
    ap₂ (λ (e : DistBar) (es : List DistBar). e ∷ es) (ap (dist_bar d.value) (h d (inl refl))) (told_by_values count ds (λ e i. h e (inr i)))

-- two lists of bars that say it have the same values
values_shared : (kind : StatKind) (ws : List (List ℕ)) (ds es : List DistBar) → HasDistribution kind ws ds → HasDistribution kind ws es
    → (v : ℕ) → In v (values ds) → In v (values es)
unfolding values
values_shared kind ws ds es a b v i =
    let d = In_map (λ (d : DistBar). d.value) ds v i in
    subst (λ z. In z (values es)) (sym d.2) (map_In (λ (d : DistBar). d.value) es d.0 ((b.bars_are d.0).1 ((a.bars_are d.0).0 d.1)))

-- so they are equal
one_distribution : (kind : StatKind) (ws : List (List ℕ)) (ds es : List DistBar) → HasDistribution kind ws ds → HasDistribution kind ws es → ds ≡ es
unfolding values
one_distribution kind ws ds es a b =
    told_by_values (how_many kind ws) ds (λ d i. ((a.bars_are d).0 i).0)
    ∙ ap (map (λ v. dist_bar v (how_many kind ws v)))
    (ascending_same nat_cmp nat_cmp_total (values ds) (values es) a.increasing b.increasing (values_shared kind ws ds es a b) (values_shared kind ws es ds b a))
    ∙ sym (told_by_values (how_many kind ws) es (λ d i. ((b.bars_are d).0 i).0))

pub distribution_law : DistributionLaw
distribution_law kind ws ds = (
  λ h. one_distribution kind ws ds (distribution_of kind ws) h (distribution_says kind ws),
  λ e. subst (HasDistribution kind ws) (sym e) (distribution_says kind ws),
)

pub same_histogram_law : SameHistogramLaw
same_histogram_law kind ws = ap (map pair_of) (distribution_widened kind ws) ∙ map-map pair_of widened (bars kind ws)
