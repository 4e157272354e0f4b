-- The next term.
use Rattle.std.proofs.Common.{◌+◌, ◌<◌, [], drop, get_or, length, refl, sym, subst, arith}
use Rattle.std.proofs.lemmas.List.Elements.{All-get_or}
use Rattle.av_perm.proofs.Membership.{In_at}
use Rattle.av_split.specs.Split.{first_open}
use Rattle.av_split.specs.Cells.{known_at, IsStep}
use Rattle.av_split.proofs.Walks.{rest_at}
use Rattle.av_walk.specs.Walk.{literal_known, term_known}
use Rattle.av_walk.specs.Sifts.{literal_cell, AreCellsOfTerm}
use Rattle.av_walk.proofs.SiftedTerms.{Sifts, sift_start, sift_more}
use Rattle.av_walk.proofs.sifting.sift.Goals as goal

pub loop-i-init : goal.loop-i-init
loop-i-init c = sift_start (known_at c.args.rows.now) c.args.terms.now c.args.numbers.now _ refl refl c.new.ensures.items

pub term_step-requires : goal.term_step-requires
term_step-requires c =
    subst (AreCellsOfTerm c.args.rows.now) (sym c.get.ensures)
    (c.requires.cells _ (In_at c.args.terms.now (get_or c.args.numbers.now c.loop-i.i-index 0) [] (All-get_or (λ i. i < length c.args.terms.now) c.args.numbers.now c.loop-i.i-index 0 (omega (arith, c.loop-i-test.true)) c.requires.numbers)))

pub loop-i-preserved : goal.loop-i-preserved
loop-i-preserved c =
    let i = get_or c.args.numbers.now c.loop-i.i-index 0 in
    let h : c.loop-i.i-index < length c.args.numbers.now = omega (arith, c.loop-i-test.true) in
    sift_more (known_at c.args.rows.now) c.args.terms.now c.args.numbers.now c.loop-i.sifted c.add.new.sifted i (drop (c.loop-i.i-index + 1) c.args.numbers.now) c.term_step.result
    (All-get_or (λ i. i < length c.args.terms.now) c.args.numbers.now c.loop-i.i-index 0 h c.requires.numbers)
    (subst (λ t. IsStep c.term_step.result (term_known (known_at c.args.rows.now) t) (first_open (literal_known (known_at c.args.rows.now)) literal_cell t)) c.get.ensures c.term_step.ensures)
    c.in_ok-add.ensures
    (subst (λ l. Sifts (known_at c.args.rows.now) c.args.terms.now c.args.numbers.now c.loop-i.sifted l) (rest_at c.args.numbers.now c.loop-i.i-index (c.loop-i.i-index + 1) i 0 h refl refl) c.loop-i.invariant)
