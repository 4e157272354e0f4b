-- The test for simple words tests them.
use Rattle.std.proofs.Common.{ℕ, arith, length, inl, inr, ap, subst}
use Rattle.std.proofs.lemmas.Bool.{cases_eq, false≢true}
use Rattle.av_perm.specs.Relations.{IsInterval}
use Rattle.av_perm.proofs.SimpleTests.{simple_passes, short_fails, interval_fails}
use Rattle.av_perm.proofs.simple.is_simple.Goals as goal

pub returns-then-len-lt4 : goal.returns-then-len-lt4
returns-then-len-lt4 c = short_fails c.args.word.now c.len.ensures.word (omega (arith, c.len.ensures.value))

pub returns-then-begins_interval : goal.returns-then-begins_interval
returns-then-begins_interval c =
    let found = c.begins_interval.ensures.0 c.if-begins_interval.true in
    let same = c.as_slice-entries.ensures in
    interval_fails c.args.word.now c.loop-i.i found.0 c.len.ensures.word found.1 (rw same at found.2) (rw same at found.3)

pub loop-i-preserved : goal.loop-i-preserved
loop-i-preserved c = λ i m h two less v. elim (cases_eq i c.loop-i.i) [
  | inl e ↦ false≢true (c.if-begins_interval.ensures.1 (m, two, less, subst (λ (t : ℕ). IsInterval c.as_slice-entries.result.now t m) e v))
  | inr ne ↦ c.loop-i.invariant i m (omega arith) two less v
]

pub returns : goal.returns
returns c = simple_passes c.args.word.now c.len.ensures.word (omega (arith, c.len.ensures.value)) (λ i m two less v.
    let n = ap length c.as_slice-entries.ensures in
    c.loop-i.invariant i m (omega (arith, c.loop-i-test.false, v.0, less, two, n)) two (omega (arith, less, n)) (rw c.as_slice-entries.ensures v))
