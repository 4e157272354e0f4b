-- The first that is possible is not above an entry's number.
use Rattle.std.proofs.Common.{◌<◌, ◌-◌, length, arith, ◌∙◌}
use Rattle.std.proofs.lemmas.List.{length-set}
use Rattle.av_perm.specs.Relations.{at}
use Rattle.av_match.proofs.Narrowing.{fit_set}
use Rattle.av_match.proofs.narrow.raise.Goals as goal

pub loop-t-preserved : goal.loop-t-preserved
loop-t-preserved c =
    let t = c.loop-t.t in
    let order = c.args.order.now in
    let j = at order t - 1 in
    let main = c.loop-t.main in
    let bound = c.requires.order t (omega arith) in
    let here : j < length c.args.main.now = omega (arith, bound) in
    record {
      positive = omega arith;
      long = length-set main j _ ∙ c.loop-t.invariant.long;
      kept = λ x y route fit other.
          let old = c.loop-t.invariant.kept x y route fit other in
          let lies = old.0 j (omega (arith, c.loop-t.invariant.long)) in
          let low = old.1 t (omega arith) (omega arith) in
          let there = route.placed j here in
          let goal_at = other j (omega (arith, c.requires.alike)) in
          let first = c.first_within-x.ensures.first (x j) (omega (arith, low, lies.0)) lies.1 there.1 (rw (route.other j here) goal_at) in (
            fit_set main j _ x old.0 (first, lies.1),
            λ s le lt. omega (arith, route.rising t s (omega arith) lt, first),
          );
    }
