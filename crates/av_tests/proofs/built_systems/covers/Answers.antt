-- Where the test of each word passes the basis is covered.
use Rattle.std.proofs.Common.{◌≡◌, ℕ, true, List, sym, ◌∙◌}
use Rattle.std.specs.List.{list_all, list_any}
use Rattle.av_perm.specs.Contain.{contains}
use Rattle.av_perm.proofs.Occurrences.{contains_from}
use Rattle.av_perm.proofs.Tests.{any_from, all_from}
use Rattle.av_build.specs.Laws.{Covers}
use Rattle.av_tests.proofs.built_systems.covers.Goals as goal

covered : (basis avoid : List (List ℕ)) → list_all (λ b. list_any (contains b) avoid) basis ≡ true → Covers basis avoid
covered basis avoid h b i =
    let a = any_from (contains b) avoid (all_from (λ c. list_any (contains c) avoid) basis h b i) in
    (a.0, a.1, contains_from b a.0 a.2)

pub returns : goal.returns
returns c h = covered c.args.basis.now c.args.avoid.now (sym c.are_covered.ensures ∙ h)
