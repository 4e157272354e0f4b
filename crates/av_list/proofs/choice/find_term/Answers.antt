-- A place past the trees of one term lies among those of the later ones.
use Rattle.std.proofs.Common.{◌≡◌, ◌≤◌, ◌+◌, ◌*◌, ◌-◌, ℕ, suc, ap, arith, ◌∙◌}
use Rattle.av_sys.specs.Terms.{term_at}
use Rattle.av_count.specs.Choices.{sum_from}
use Rattle.av_count.specs.Members.{term_ways}
use Rattle.av_count.proofs.Members.{sum_more}
use Rattle.av_list.proofs.choice.find_term.Goals as goal

-- one more term is passed
find_next : (f : ℕ → ℕ) (F least at left less r : ℕ) → least ≤ at → left + F * sum_from f least (at - least) ≡ r → less + F * f at ≡ left → less + F * sum_from f least (at + 1 - least) ≡ r
find_next f F least at left less r low e h =
    let k : at + 1 - least ≡ suc (at - least) = omega arith in
    let m : least + (at - least) ≡ at = omega arith in
    ap (λ z. less + F * sum_from f least z) k ∙ ap (λ z. less + F * z) (sum_more f least (at - least) ∙ ap (λ j. sum_from f least (at - least) + f j) m)
    ∙ all F (sum_from f least (at - least)) (f at) left less r e h
  where
    all : (F a x left less r : ℕ) → left + F * a ≡ r → less + F * x ≡ left → less + F * (a + x) ≡ r
    all F a x left less r p q = omega arith

pub loop-at-preserved : goal.loop-at-preserved
loop-at-preserved c F h =
    let f = λ (t : ℕ). term_ways c.args.system.now c.args.size (term_at c.args.system.now c.args.equation t) in
    find_next f F c.args.least c.loop-at.at c.loop-at.left c.in-Some.less c.args.r c.loop-at.auto.at (c.loop-at.invariant F h)
    (c.in-Some.ensures (F * f c.loop-at.at) (c.times.ensures F (f c.loop-at.at) h c.term_count.ensures))
