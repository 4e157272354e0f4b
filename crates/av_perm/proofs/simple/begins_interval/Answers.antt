-- The places are an interval exactly where the greatest entry is less than their number above the least.
use Rattle.std.proofs.Common.{◌+◌, ◌-◌, arith, inl, inr, refl, sym}
use Rattle.std.proofs.lemmas.Bool.{cases_eq, false≢true}
use Rattle.av_perm.proofs.Spreads.{spread_one, spread_more, spread_interval, interval_spread}
use Rattle.av_perm.proofs.simple.begins_interval.Goals as goal

pub loop-j-init : goal.loop-j-init
loop-j-init c = record { spread = spread_one c.args.entries.now c.args.i _ refl; none = λ m h l s v. absurd (omega arith) }

pub returns-then-places-entries : goal.returns-then-places-entries
returns-then-places-entries c =
    let spread = spread_more c.args.entries.now c.args.i c.loop-j.j _ _ c.min-least.result c.max-greatest.result (omega arith) c.loop-j.invariant.spread c.min-least.ensures c.max-greatest.ensures in
    (λ t. (c.loop-j.j + 1 - c.args.i, omega arith, c.if-places-entries.true, spread_interval c.args.entries.now c.args.i (c.loop-j.j + 1) _ _ _ (omega arith) (omega arith) spread (omega arith)), λ s. refl)

pub loop-j-preserved : goal.loop-j-preserved
loop-j-preserved c =
    let spread = spread_more c.args.entries.now c.args.i c.loop-j.j _ _ c.min-least.result c.max-greatest.result (omega arith) c.loop-j.invariant.spread c.min-least.ensures c.max-greatest.ensures in
    record {
      spread = spread;
      none = λ m h fits less v. elim (cases_eq (c.args.i + m) (c.loop-j.j + 1)) [
        | inl e ↦
            let near = interval_spread c.args.entries.now c.args.i (c.loop-j.j + 1) m _ _ (sym e) v spread in
            elim c.else-from-places.either [
              | inl wide ↦ absurd (omega (arith, wide.1))
              | inr far ↦ absurd (omega (arith, far, near, c.from.ensures))
            ]
        | inr ne ↦ c.loop-j.invariant.none m h (omega arith) less v
      ];
    }

pub returns : goal.returns
returns c = (λ t. absurd (false≢true t), λ s. absurd (c.loop-j.invariant.none s.0 s.1 (omega (arith, s.3.0)) s.2 s.3))
