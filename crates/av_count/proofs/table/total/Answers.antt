-- One more term adds its trees.
use Rattle.std.proofs.Common.{◌≡◌, ℕ, length, refl, sym, ◌∙◌, ap, arith}
use Rattle.av_sys.specs.Terms.{term_at, terms_at}
use Rattle.av_count.specs.Counts.{capped}
use Rattle.av_count.specs.Choices.{sum_from}
use Rattle.av_count.specs.Members.{term_ways}
use Rattle.av_count.proofs.Members.{count_by_terms}
use Rattle.av_count.proofs.Filled.{total_more}
use Rattle.av_count.proofs.table.total.Goals as goal

pub loop-t-init : goal.loop-t-init
unfolding capped
loop-t-init c = refl

pub loop-t-preserved : goal.loop-t-preserved
loop-t-preserved c =
    let S = c.args.layout.now.of.value in
    let f = λ (t : ℕ). term_ways S c.args.size (term_at S c.args.eq t) in
    c.plus-sum.ensures (sum_from f 0 c.loop-t.t) (f c.loop-t.t) c.loop-t.invariant c.term_value.ensures ∙ ap capped (total_more f c.loop-t.t)

pub returns : goal.returns
returns c =
    let S = c.args.layout.now.of.value in
    let f = λ (t : ℕ). term_ways S c.args.size (term_at S c.args.eq t) in
    let e : c.loop-t.t ≡ length (terms_at S c.args.eq) = omega (arith, c.loop-t.auto.t-end, c.loop-t-test.false, c.terms-t-end.ensures) in
    c.loop-t.invariant ∙ ap (λ k. capped (sum_from f 0 k)) e ∙ ap capped (sym (count_by_terms S c.requires.layout.formed c.args.eq c.args.size))
