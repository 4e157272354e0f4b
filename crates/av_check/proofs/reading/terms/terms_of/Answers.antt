-- The terms of an equation stand between bars.
use Rattle.std.proofs.Common.{sym, true≢false}
use Rattle.av_check.proofs.Loops.{bytes}
use Rattle.av_check.proofs.ReadAs.{reads_ok_as}
use Rattle.av_check.proofs.Terms.{terms_same}
use Rattle.av_check.proofs.reading.terms.terms_of.Goals as goal

pub returns-else-is_none : goal.returns-else-is_none
returns-else-is_none c =
    reads_ok_as (terms_same c.args.count (bytes c.args.tokens.now) (λ e. true≢false (sym (c.if-is_none.ensures.1 e)))) c.barred_terms.result c.barred_terms.ensures
