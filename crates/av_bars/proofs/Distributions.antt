-- The bars of a distribution are those of the histogram of the same statistic.
use Rattle.std.proofs.Common.{◌≡◌, ℕ, suc, List, [], ◌∷◌, ◌++◌, map, filter, cond, sym, ap, ap₂, ◌∙◌, nat_lt, Bool, true, false, refl}
use Rattle.std.proofs.lemmas.List.{map-append}
use mathlib.Core.List.{map-map}
use Rattle.av_perm.specs.Lists.{counting}
use Rattle.av_perm.specs.declared.StatKind.{StatKind}
use Rattle.av_bars.specs.declared.bars.Bar.{Bar}
use Rattle.av_bars.specs.declared.dist_bars.DistBar.{DistBar}
use Rattle.av_bars.specs.Histograms.{how_many, greatest, bar, bar_at, bars_of, bars}
use Rattle.av_bars.specs.Distributions.{dist_bar, dist_bar_at, dist_bars, distribution_of}
use Rattle.av_bars.proofs.BarLists.{bars_after}

-- a bar of a histogram as one of a distribution
abbrev pub widened : Bar → DistBar
widened b = dist_bar b.value b.count

pub bars_widened : (f : ℕ → ℕ) (n : ℕ) → dist_bars f n ≡ map widened (bars_of f n)
unfolding dist_bars bars_of
bars_widened f n = sym (map-map widened (λ v. bar v (f v)) (filter (λ v. nat_lt 0 (f v)) (counting 0 n)))

pub distribution_widened : (kind : StatKind) (ws : List (List ℕ)) → distribution_of kind ws ≡ map widened (bars kind ws)
unfolding distribution_of bars
distribution_widened kind ws = bars_widened (how_many kind ws) (suc (greatest kind ws))

-- no value yet
pub no_bars : (f : ℕ → ℕ) (found : List DistBar) → found ≡ [] → found ≡ dist_bars f 0
unfolding dist_bars
no_bars f found e = e

-- one value more
pub bars_next : (f : ℕ → ℕ) (v n : ℕ) → n ≡ suc v → dist_bars f n ≡ dist_bars f v ++ dist_bar_at v (f v)
bars_next f v n e =
    bars_widened f n ∙ ap (map widened) (bars_after f v n e) ∙ map-append widened (bars_of f v) (bar_at v (f v))
    ∙ ap₂ (λ (ds es : List DistBar). ds ++ es) (sym (bars_widened f v)) (one (nat_lt 0 (f v)))
  where
    one : (b : Bool) → map widened (cond b (bar v (f v) ∷ []) []) ≡ cond b (dist_bar v (f v) ∷ []) []
    one true = refl
    one false = refl
