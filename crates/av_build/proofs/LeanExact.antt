-- Where a system describes a class, so does its lean system: the trees of equation 0 of both correspond, with the same values.
use Rattle.std.proofs.Common.{List, ℕ}
use Rattle.av_perm.specs.Relations.{InClassWithAt}
use Rattle.av_sys.specs.declared.terms.System.{System}
use Rattle.av_sys.specs.Exact.{Exact}
use Rattle.av_build.specs.Lean.{lean}
use Rattle.av_build.specs.LeanLaws.{HasSameTrees, LeanExactLaw}
use Rattle.av_build.proofs.TreeTwins.{same_sound, same_complete, same_once}
use Rattle.av_build.proofs.LeanKeeps.{kept_law, lean_trees_law}

-- systems whose trees of equation 0 correspond describe the same class
exact_twins : (S R : System) (basis required : List (List ℕ)) → HasSameTrees S 0 R 0 → Exact S basis required → Exact R basis required
exact_twins S R basis required same exact = record {
  sound = same_sound S R 0 0 same (InClassWithAt basis required) exact.sound;
  complete = λ σ c. same_complete S R 0 0 same σ (exact.complete σ c);
  once = λ T V t v e. same_once S R 0 0 same (λ n. Unit {0}) (λ T V t v a b. exact.once T V t v) T V t v tt tt e;
}

-- the law of exactness of the lean system
pub lean_exact_law : LeanExactLaw
lean_exact_law S basis required form exact = exact_twins S (lean S) basis required (lean_trees_law S 0 0 form (kept_law S form).first) exact
