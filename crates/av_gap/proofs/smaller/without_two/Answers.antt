-- The first pair that leaves a simple pattern.
use Rattle.std.proofs.Common.{inl, inr, arith, sym, subst, ◌∙◌}
use Rattle.std.proofs.lemmas.Bool.{cases_eq}
use Rattle.av_interval.specs.Laws.{PairLeavesSimple}
use Rattle.av_gap.proofs.Tried.{tested, pair_leaves, pair_not, pair_is_near, some_leaves}
use Rattle.av_gap.proofs.smaller.without_two.Goals as goal

pub returns-then-is_simple-clause-near : goal.returns-then-is_simple-clause-near
returns-then-is_simple-clause-near c =
    pair_is_near c.args.word.now (tested c.args.word.now c.len-len.ensures.word c.requires.simple) c.left_without-left.result c.loop-first.first c.loop-second.second
    (omega (arith, c.loop-second.auto.second)) (omega (arith, c.loop-second-test.true, c.len-len.ensures.value))
    c.left_without-left.ensures (sym c.is_simple.ensures ∙ c.if-is_simple.true)

pub returns-then-is_simple-clause-first : goal.returns-then-is_simple-clause-first
returns-then-is_simple-clause-first c =
    let s = tested c.args.word.now c.len-len.ensures.word c.requires.simple in (
      c.loop-first.first,
      c.loop-second.second,
      record {
        no_place = c.requires.no_place;
        simple = pair_leaves c.args.word.now s c.left_without-left.result c.loop-first.first c.loop-second.second
            (omega (arith, c.loop-second.auto.second)) (omega (arith, c.loop-second-test.true, c.len-len.ensures.value))
            c.left_without-left.ensures (sym c.is_simple.ensures ∙ c.if-is_simple.true);
        least = λ k t b q. elim b [
          | inl l ↦ c.loop-first.invariant k t l q
          | inr d ↦ c.loop-second.invariant t d.1 (subst (λ n. PairLeavesSimple c.args.word.now n t) d.0 q)
        ];
        left = c.left_without-left.ensures;
      },
    )

pub loop-second-preserved : goal.loop-second-preserved
loop-second-preserved c = λ t h q. elim (cases_eq t c.loop-second.second) [
  | inl e ↦ pair_not c.args.word.now (tested c.args.word.now c.len-len.ensures.word c.requires.simple) c.left_without-left.result c.loop-first.first c.loop-second.second
      c.left_without-left.ensures (sym c.is_simple.ensures ∙ c.if-is_simple.false) (subst (PairLeavesSimple c.args.word.now c.loop-first.first) e q)
  | inr ne ↦ c.loop-second.invariant t (omega (arith, h, ne)) q
]

-- some place or pair leaves one
pub unreachable-requires : goal.unreachable-requires
unreachable-requires c = some_leaves c.args.word.now (tested c.args.word.now c.len-len.ensures.word c.requires.simple) c.requires.long
    (λ v l q. c.requires.no_place v q)
    (λ v u l q. c.loop-first.invariant v u (omega (arith, l, c.loop-first-test.false, c.len-len.ensures.value)) q)
