-- The blocks before the loop's place stand one after another, raised, and are words.
use Rattle.std.proofs.Common.{◌≡◌, ◌<◌, ℕ, true, get_or}
use Rattle.av_perm.specs.Word.{is_perm}
use Rattle.av_perm.specs.Inflate.{joined, raised, points_below, block}
use Rattle.av_perm.proofs.inflation.inflate.Given as goal

abbrev pub invariant-loop-i : goal.invariant-loop-i
invariant-loop-i l = record {
  items : l.entries.items ≡ joined (λ i. raised (points_below (get_or l.root i 0) l.root l.blocks) (block l.blocks i)) l.i;
  words : (k : ℕ) → k < l.i → is_perm (block l.blocks k) ≡ true;
}
