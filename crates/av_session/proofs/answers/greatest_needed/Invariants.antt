-- It is the greatest length that the queries before the loop's need.
use Rattle.std.proofs.Common.{◌≡◌, ℕ, ◌<◌, ◌≤◌, get_or, take}
use Rattle.av_perm.specs.declared.limits.TheConstants.{MAX_LENGTH}
use Rattle.av_text.specs.declared.queries.Query.{Query}
use Rattle.av_session.specs.Answers.{length_needed}
use Rattle.av_session.specs.Serving.{greatest_needed}
use Rattle.av_session.proofs.answers.greatest_needed.Given as goal

abbrev pub invariant-loop-query : goal.invariant-loop-query
invariant-loop-query l = record {
  value : l.greatest ≡ greatest_needed (take l.query-index l.query-items);
  all : (k : ℕ) (d : Query) → k < l.query-index → length_needed (get_or l.query-items k d) ≤ l.greatest;
  few : l.greatest ≤ MAX_LENGTH;
}
