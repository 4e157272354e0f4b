-- What one more call took is what comes next of the bytes.
use Rattle.std.proofs.Common.{◌-◌, ◌++◌, length, take, drop, sym, ap, subst, ◌∙◌, arith, length-take}
use lib.Seq.{take-add, take-take}
use Rattle.std.specs.Io.KnownBytes.{Appends}
use Rattle.std.proofs.KnownBytes.{Appends-trans}
use Rattle.av_io.proofs.passing.write_from.Goals as goal

pub writes-preserved : goal.writes-preserved
writes-preserved g c =
    let done = c.writes.passed in
    let n = c.in_ok-passed.field-0 in
    let xs = c.args.bytes.now in
    let before = c.writes.invariant in
    let fits = c.in_ok-passed.ensures.bound in
    let lt = c.writes-test.true in
    let most = length-take (length xs - done) (drop done xs) in
    let joined = ap (λ l. take done xs ++ l) (take-take n (length xs - done) (drop done xs) (omega arith)) ∙ sym (take-add done n xs) in
    record {
      within = omega arith;
      grows = subst (Appends _ _) joined (Appends-trans _ _ _ _ _ before.grows c.in_ok-passed.ensures.bytes);
      faults = omega (arith, before.faults, c.in_ok-passed.ensures.cause.later);
      wants = omega (arith, before.wants, c.in_ok-passed.ensures.cause.wants_later);
      no_write = λ e. absurd (omega (arith, lt, ap length e));
    }
