-- The loop's place is its index and one, and those before it are left.
use Rattle.std.proofs.Common.{◌+◌, arith, ◌∙◌}
use Rattle.std.proofs.lemmas.Bool.{cases_eq}
use Rattle.std.proofs.lemmas.List.{length-set, get_or-set_other}
use Rattle.std.proofs.lemmas.Grind.{get_or-set_at}
use Rattle.std.proofs.Common.{inl, inr}
use Rattle.av_match.proofs.narrow.in_order.Goals as goal

pub loop-i-preserved : goal.loop-i-preserved
loop-i-preserved c = record {
  long = length-set c.loop-i.places c.loop-i.i (c.loop-i.i + 1) ∙ c.loop-i.invariant.long;
  seen = λ s h. elim (cases_eq s c.loop-i.i) [
    | inl e ↦ omega (arith, get_or-set_at c.loop-i.places c.loop-i.i s (c.loop-i.i + 1) 0 e (omega arith))
    | inr ne ↦ get_or-set_other c.loop-i.places c.loop-i.i s (c.loop-i.i + 1) 0 ne ∙ c.loop-i.invariant.seen s (omega arith)
  ];
}
