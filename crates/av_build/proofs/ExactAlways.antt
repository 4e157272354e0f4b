-- The canonical system of a class with required words is exact at every size where the basis has a gap: from the gap on its class
-- has no simple words.
use Rattle.std.proofs.Common.{ℕ, ◌+◌, inl, inr, List, length, refl, sym, subst, arith}
use Rattle.std.proofs.lemmas.Bool.{cases_lt}
use Rattle.av_perm.specs.Relations.{AreWords, InClassWith}
use Rattle.av_perm.specs.Gap.{simples_below}
use Rattle.av_perm.specs.Laws.{IsGap}
use Rattle.av_perm.proofs.Gaps.{below_list}
use Rattle.av_perm.proofs.Classes.{avoids_minimal}
use Rattle.av_perm.proofs.TopWords.{contains_top}
use Rattle.av_interval.proofs.TwoGaps.{final_gap}
use Rattle.av_sys.specs.declared.terms.System.{System}
use Rattle.av_sys.specs.Names.{Means}
use Rattle.av_sys.specs.Trees.{size, value}
use Rattle.av_sys.specs.Exact.{MeansOf, MeansAt, Exact, Named}
use Rattle.av_build.specs.Canonical.{first_name}
use Rattle.av_build.specs.Laws.{HoldsSimples, ExactLaw}
use Rattle.av_build.proofs.NamesOver.{first_name_ok}
use Rattle.av_build.proofs.Growing.{NameAt}
use Rattle.av_build.proofs.BareSystems.{class_first}
use Rattle.av_build.proofs.NameSystems.{named_law}

-- the simple words below a gap are all that the class has
pub gap_holds : (basis : List (List ℕ)) (g m : ℕ) → IsGap basis g → HoldsSimples basis (simples_below basis g) m
gap_holds basis g m gap = record {
  simple = λ w i. (((below_list basis g).members w).0 i).simple;
  once = (below_list basis g).once;
  all = λ w p c l. elim (cases_lt (length w) g) [
    | inl h ↦ ((below_list basis g).members w).1 (record { simple = p; member = c; short = h })
    | inr h ↦ absurd ((final_gap basis g gap).none (length w) h w (record { simple = p; member = record { member = c; long = refl } }))
  ];
}

module _ (basis required : List (List ℕ)) (S : System) (words : AreWords basis) (wanted : AreWords required) (first : NameAt S 0 (first_name basis required)) where
  -- what means the name of equation 0 is of the class
  class_from : (w : List ℕ) → MeansAt S 0 w → InClassWith basis required w
  class_from w m =
      let n : Means (first_name basis required) w = subst (λ n. Means n w) first.2 (subst (λ o. MeansOf o w) first.1 m) in
      record {
        member = record { word = n.word; avoids = (avoids_minimal basis w words).0 n.meets.avoids };
        contains = (contains_top required w wanted n.word).0 n.meets.contains;
      }

  -- and the words of the class mean it
  class_to : (w : List ℕ) → InClassWith basis required w → MeansAt S 0 w
  class_to w c =
      let n : Means (first_name basis required) w = record {
        word = c.member.word;
        meets = record {
          avoids = (avoids_minimal basis w words).1 c.member.avoids;
          contains = (contains_top required w wanted c.member.word).1 c.contains;
        };
        signed = tt;
      } in
      subst (λ o. MeansOf o w) (sym first.1) (subst (λ n. Means n w) (sym first.2) n)

  -- a system of the class whose equations generate the words of their names is exact
  pub exact_from : Named S → Exact S basis required
  exact_from n = record {
    sound = λ T v. let r = (n (size T)).sound 0 T v (omega arith) in record { member = class_from (value S 0 T) r.0; long = r.1 };
    complete = λ w c. (n (length w)).complete 0 w (class_to w c) (omega arith);
    once = λ T U v w same. (n (size T + size U)).once 0 T U v w (omega arith) (omega arith) same;
  }

-- the law of exactness
pub exact_law : ExactLaw
exact_law basis required g limit S words wanted gap c =
    let roots : List (List ℕ) = simples_below basis g in
    let n : Named S = λ m. named_law basis required roots limit m S words wanted c (gap_holds basis g m gap) in
    let first = class_first roots (first_name basis required) basis limit S (first_name_ok basis required words wanted) c in
    (exact_from basis required S words wanted first n, n)
