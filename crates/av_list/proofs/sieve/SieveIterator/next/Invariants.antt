-- The items that are gone were passed over, and the closure is the same.
use Rattle.std.proofs.Common.{◌≡◌, ◌++◌, ℕ, List, length}
use Rattle.std.specs.Fn.{FnReturnsAt}
use Rattle.av_perm.specs.Word.{is_perm}
use Rattle.std.specs.Prelude.{IsTrue}
use Rattle.av_list.specs.Sieving.{Passed}
use Rattle.av_list.proofs.sieve.SieveIterator.next.Given as goal

abbrev pub invariant-walk : goal.invariant-walk
invariant-walk g l = record {
  keep : l.self.keep ≡ l.fn.self.keep;
  callable : (shown : _) → IsTrue (is_perm shown.now) → goal.F-pre g l.self.keep shown;
  gone : List (ℕ × List ℕ);
  whole : l.fn.self.lister ≡ gone ++ l.self.lister;
  passed : Passed (λ x b. FnReturnsAt g.F.Fn l.fn.self.keep x b) gone;
}

abbrev pub decreases-walk : goal.decreases-walk
decreases-walk g l = length l.self.lister
