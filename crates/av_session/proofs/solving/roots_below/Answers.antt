-- The roots are the simple words below the gap.
use Rattle.std.proofs.Common.{◌≡◌, List, ℕ, Ok, Err, Result, IfOk, ap, ◌∙◌, subst, sym, arith}
use Rattle.av_build.specs.Laws.{AreRoots}
use Rattle.av_simple.specs.Searched.{gap_of, last_by, roots_by}
use Rattle.av_session.proofs.Systems.{below_roots}
use Rattle.av_session.proofs.solving.roots_below.Goals as goal

-- what holds of a value holds of an answer that has it
of_value : {E : Type 0} (r : Result (List (List ℕ)) E) (roots : List (List ℕ)) → IfOk r (λ rs. rs ≡ roots) → AreRoots roots → IfOk r AreRoots
of_value (Ok rs) roots e a = subst AreRoots (sym e) a
of_value (Err f) roots e a = tt

pub returns-clause-roots : goal.returns-clause-roots
returns-clause-roots c =
    let last = c.last-last.ensures.value ∙ ap (last_by c.args.found.now.limit) c.requires in
    of_value c.roots.result (roots_by c.args.found.now.basis (gap_of c.args.found.now)) c.roots.ensures
    (subst AreRoots (sym (ap (roots_by c.args.found.now.basis) c.requires)) (below_roots c.args.found.now.basis c.args.gap (omega (arith, last, c.last-last.ensures.high))))
