-- A term is the point, or else a root with its children in brackets.
use Rattle.std.proofs.Common.{refl, sym, ap, ◌∙◌, true≢false}
use Rattle.av_print.specs.Systems.{term_text}
use Rattle.av_check.proofs.Loops.{bytes}
use Rattle.av_check.proofs.ReadAs.{reads_ok_as}
use Rattle.av_check.proofs.Terms.{term_same}
use Rattle.av_check.proofs.reading.terms.term_of.Goals as goal

pub returns-then-is : goal.returns-then-is
unfolding term_text
returns-then-is c = (tt, c.if-is.ensures.0 refl)

pub returns : goal.returns
returns c =
    reads_ok_as (term_same c.args.count c.args.token.now (bytes c.deref.result.now) (ap bytes c.deref.ensures.value ∙ c.in_ok-pieces.ensures) (λ e. true≢false (sym (c.if-is.ensures.1 e))))
    c.opened.result c.opened.ensures
