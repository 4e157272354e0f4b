-- What a scan finds: the first cut of a word, into a sum or into a skew sum, or that there is none.
use Rattle.std.proofs.Common.{◌≡◌, ℕ, suc, ◌-◌, ◌<◌, ◌≤◌, ◌↔◌, List, length, Bool, true, find, Option, Some, None, IfSome, min, max, refl, sym, ◌∙◌, subst, arith}
use Rattle.std.proofs.lemmas.Bool.{false_from_ne_true}
use Rattle.av_perm.specs.Lists.{counting}
use Rattle.av_perm.specs.Simple.{is_sum_indecomposable, is_skew_indecomposable}
use Rattle.av_perm.specs.Relations.{at, IsOneToLength, sum_root, skew_root, IsNoInflationOf}
use Rattle.av_perm.proofs.Membership.{In_counting}
use Rattle.av_perm.proofs.Tests.{any_from, found_any, least_find}
use Rattle.av_perm.proofs.Sums.{sum_law, skew_law}
use Rattle.av_interval.specs.Cuts.{begins_low, begins_high, sum_cut, skew_cut, IsLeast, IsSumCut, IsSkewCut}
use Rattle.av_interval.proofs.Overlaps.{Low, High}
use Rattle.av_interval.proofs.SumCuts.{low_sum, high_skew, none_low, none_high}
use Rattle.av_interval.proofs.Scans.{IsLeastOf, IsGreatestOf, least_one, greatest_one, least_more, greatest_more}
use Rattle.av_interval.proofs.FirstCuts.{low_from, low_to, high_from, high_to, IsNever, never_more, low_cut, cut_low, high_cut, cut_high, greatest_low, low_greatest, least_high, high_least}

-- a way to cut a word: the words for it, and how they hang together
pub record Cuts : Type 1 where
  -- the first k entries are of the kind, a test of it, and the first k that passes
  pub Begins : List ℕ → ℕ → Type 0
  pub begins : List ℕ → ℕ → Bool
  pub first : List ℕ → Option ℕ
  pub searched : (w : List ℕ) → find (begins w) (counting 1 (length w - 1)) ≡ first w
  pub tested : (w : List ℕ) (k : ℕ) → k ≤ length w → (begins w k ≡ true) ↔ Begins w k
  -- k is a cut, as the textbook has it
  pub IsCut : List ℕ → ℕ → Type 0
  pub cut : (w : List ℕ) (k : ℕ) → IsOneToLength w → 1 ≤ k → k < length w → Begins w k → IsCut w k
  pub begun : (w : List ℕ) (k : ℕ) → IsCut w k → (1 ≤ k) × Begins w k
  -- the word is no inflation of the root of two entries, and a test of it
  pub root : List ℕ
  pub is_whole : List ℕ → Bool
  pub law : (w : List ℕ) → IsOneToLength w → (is_whole w ≡ true) ↔ IsNoInflationOf root w
  pub parts : (w : List ℕ) (k : ℕ) → IsOneToLength w → 1 ≤ k → k < length w → Begins w k → IsNoInflationOf root w → ⊥
  pub whole : (w : List ℕ) → IsNever (Begins w) (length w) → IsNoInflationOf root w
  -- the extreme of the first k entries, and when it shows a cut
  pub IsExtreme : List ℕ → ℕ → ℕ → Type 0
  pub extreme : ℕ → ℕ → ℕ
  pub one : (w : List ℕ) → IsExtreme w 1 (at w 0)
  pub more : (w : List ℕ) (k n x y : ℕ) → IsExtreme w k x → n ≡ suc k → y ≡ extreme (at w k) x → IsExtreme w n y
  pub Shows : List ℕ → ℕ → ℕ → Type 0
  pub shown : (w : List ℕ) (k x : ℕ) → IsExtreme w k x → Shows w k x ↔ Begins w k

-- the first cuts are what is searched for
pub sum_searched : (w : List ℕ) → find (begins_low w) (counting 1 (length w - 1)) ≡ sum_cut w
unfolding sum_cut
sum_searched w = refl

pub skew_searched : (w : List ℕ) → find (begins_high w) (counting 1 (length w - 1)) ≡ skew_cut w
unfolding skew_cut
skew_searched w = refl

-- into a sum
abbrev pub sums : Cuts
sums = record {
  Begins = Low;
  begins = begins_low;
  first = sum_cut;
  searched = sum_searched;
  tested = λ w k h. (low_from w k h, low_to w k h);
  IsCut = IsSumCut;
  cut = low_cut;
  begun = λ w k c. (c.some, cut_low w k c);
  root = sum_root;
  is_whole = is_sum_indecomposable;
  law = sum_law;
  parts = low_sum;
  whole = none_low;
  IsExtreme = λ w k x. IsGreatestOf w 0 k x;
  extreme = max;
  one = λ w. greatest_one w 0 1 refl;
  more = λ w k n x y g. greatest_more w 0 k k n x y g (omega arith);
  Shows = λ w k x. x ≤ k;
  shown = λ w k x g. (greatest_low w k x g, low_greatest w k x g);
}

-- into a skew sum
abbrev pub skew_sums : Cuts
skew_sums = record {
  Begins = High;
  begins = begins_high;
  first = skew_cut;
  searched = skew_searched;
  tested = λ w k h. (high_from w k h, high_to w k h);
  IsCut = IsSkewCut;
  cut = high_cut;
  begun = λ w k c. (c.some, cut_high w k c);
  root = skew_root;
  is_whole = is_skew_indecomposable;
  law = skew_law;
  parts = high_skew;
  whole = none_high;
  IsExtreme = λ w k x. IsLeastOf w 0 k x;
  extreme = min;
  one = λ w. least_one w 0 1 refl;
  more = λ w k n x y g. least_more w 0 k k n x y g (omega arith);
  Shows = λ w k x. length w - k < x;
  shown = λ w k x g. (least_high w k x g, high_least w k x g);
}

-- so far: the extreme of the first k entries, and no fewer entries are a cut
pub record IsScanned (C : Cuts) (w : List ℕ) (k x : ℕ) : Type 0 where
  pub extreme : C.IsExtreme w k x
  pub none : IsNever (C.Begins w) k

-- the answer: the first cut, or none where the word is no inflation of the root
pub record IsAnswer (C : Cuts) (w : List ℕ) (found : Option ℕ) : Type 0 where
  pub value : found ≡ C.first w
  pub cut : IfSome found (IsLeast (C.IsCut w))
  pub none : (found ≡ None) ↔ (C.is_whole w ≡ true)
  pub no_sum : (found ≡ None) ↔ IsNoInflationOf C.root w

-- the scan starts with one entry
pub scan_start : (C : Cuts) (w : List ℕ) → IsScanned C w 1 (at w 0)
scan_start C w = record { extreme = C.one w; none = λ j h l. absurd (omega arith) }

-- and takes one more where that shows no cut
pub scan_more : (C : Cuts) (w : List ℕ) (k n x y : ℕ) → IsScanned C w k x → n ≡ suc k
    → (C.Shows w k x → ⊥) → y ≡ C.extreme (at w k) x → IsScanned C w n y
scan_more C w k n x y s e hidden m = record {
  extreme = C.more w k n x y s.extreme e m;
  none = never_more (C.Begins w) k n s.none e (λ p. hidden ((C.shown w k x s.extreme).1 p));
}

-- a cut that shows is the first
pub scan_found : (C : Cuts) (v w : List ℕ) (k x : ℕ) → v ≡ w → IsOneToLength w → IsScanned C v k x
    → 1 ≤ k → k < length v → C.Shows v k x → IsAnswer C w (Some k)
scan_found C v w k x q g s h l show = subst (λ (u : List ℕ). IsOneToLength u → IsAnswer C u (Some k)) q (λ i. answer i) g
  where
    here : C.Begins v k
    here = (C.shown v k x s.extreme).0 show

    answer : IsOneToLength v → IsAnswer C v (Some k)
    answer i = record {
      value =
          sym (least_find (C.begins v) (length v - 1) 1 k (record {
            low = h;
            high = omega arith;
            passes = (C.tested v k (omega arith)).1 here;
            least = λ j a b. false_from_ne_true (C.begins v j) (λ e. s.none j a b ((C.tested v j (omega arith)).0 e));
          })) ∙ C.searched v;
      cut = record { member = C.cut v k i h l here; least = λ j a d. let b = C.begun v j d in s.none j b.0 a b.1 };
      none = (λ e. absurd (cc), λ t. absurd (C.parts v k i h l here ((C.law v i).0 t)));
      no_sum = (λ e. absurd (cc), λ n. absurd (C.parts v k i h l here n));
    }

-- a scan to the end finds that there is none
pub scan_nothing : (C : Cuts) (v w : List ℕ) (k x : ℕ) → v ≡ w → IsOneToLength w → IsScanned C v k x → length v ≤ k → IsAnswer C w None
scan_nothing C v w k x q g s o = subst (λ (u : List ℕ). IsOneToLength u → IsAnswer C u None) q (λ i. answer i) g
  where
    whole : IsNoInflationOf C.root v
    whole = C.whole v (λ j h l. s.none j h (omega arith))

    answer : IsOneToLength v → IsAnswer C v None
    answer i = record {
      value =
          sym ((found_any (C.begins v) (counting 1 (length v - 1))).1 (λ e.
          let r = any_from (C.begins v) (counting 1 (length v - 1)) e in
          let b = In_counting (length v - 1) 1 r.0 r.1 in
          s.none r.0 b.0 (omega arith) ((C.tested v r.0 (omega arith)).0 r.2))) ∙ C.searched v;
      cut = tt;
      none = (λ e. (C.law v i).1 whole, λ t. refl);
      no_sum = (λ e. whole, λ n. refl);
    }
