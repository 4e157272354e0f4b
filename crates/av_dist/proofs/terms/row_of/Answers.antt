-- The numbers of one term more are added, and in the end all are.
use Rattle.std.proofs.Common.{◌≡◌, length, arith, subst}
use Rattle.av_sys.specs.Terms.{terms_at, term_at}
use Rattle.av_dist.specs.Rows.{how_often, Adds, width}
use Rattle.av_dist.specs.Totals.{term_statistics}
use Rattle.av_dist.proofs.AddedRows.{next_room, next_added}
use Rattle.av_dist.proofs.MemberStatistics.{of_terms}
use Rattle.av_dist.proofs.TermRows.{zeros_room, zeros_row}
use Rattle.av_dist.proofs.terms.row_of.Goals as goal

pub add_term-requires-clause-room : goal.add_term-requires-clause-room
add_term-requires-clause-room c =
    let s = c.args.levels.now in
    let S = c.args.system.now in
    let n = c.args.size in
    next_room (λ t. term_statistics s n (term_at S c.args.eq t)) c.loop-t.t (length (terms_at S c.args.eq)) c.in_ok-out.out c.loop-t.out
    (omega (arith, c.loop-t-test.true, c.terms-t-end.ensures))
    (zeros_room s S c.requires.stands c.requires.formed c.args.eq n (width n) c.in_ok-out.out c.requires.most c.requires.bounded c.in_ok-out.ensures) c.loop-t.invariant

pub loop-t-preserved : goal.loop-t-preserved
loop-t-preserved c =
    next_added (λ t. term_statistics c.args.levels.now c.args.size (term_at c.args.system.now c.args.eq t)) c.loop-t.t c.in_ok-out.out c.loop-t.out c.add_term.new.out
    c.loop-t.invariant c.in_ok-add_term.ensures

pub returns-clause-row : goal.returns-clause-row
returns-clause-row c =
    let s = c.args.levels.now in
    let S = c.args.system.now in
    let u = c.args.eq in
    let n = c.args.size in
    let e : c.loop-t.t ≡ length (terms_at S u) = omega (arith, c.loop-t-test.false, c.loop-t.auto.t-end, c.terms-t-end.ensures) in
    zeros_row s S c.requires.stands c.requires.formed u n c.in_ok-out.out c.loop-t.out c.in_ok-out.ensures
    (subst (λ k. Adds (how_often (of_terms s S u n k)) c.in_ok-out.out c.loop-t.out) e c.loop-t.invariant)
