-- A child with a smaller root entry adds its size.
use Rattle.std.proofs.Common.{◌≡◌, ◌<◌, ◌≤◌, ◌+◌, ℕ, length, get_or, nat_lt, cond, Bool, true, false, ◌∙◌, ap, arith, refl}
use Rattle.av_tree.proofs.Entries.{smaller_counts, other_uncounted}
use Rattle.av_list.proofs.Writing.{lower_next}
use Rattle.av_list.proofs.word.raise_of.Goals as goal
use Rattle.av_list.proofs.word.raise_of.Goals.{then-entries-j, else-entries-j}

pub loop-j-preserved : goal.loop-j-preserved
loop-j-preserved c =
    let xs = c.as_slice-entries.result.now in
    let ns = c.args.sizes.now in
    let p = get_or xs c.args.i 0 in
    let s : c.if-entries-j.sum ≡ c.loop-j.sum + cond {A = ℕ} (nat_lt (get_or xs c.loop-j.j 0) p) (get_or c.args.sizes.now c.loop-j.j 0) 0 =
    elim c.if-entries-j.branch [
      | then-entries-j w ↦ w.sum-is ∙ ap (λ z. c.loop-j.sum + z) (w.get-sum.ensures ∙ smaller_counts (get_or xs c.loop-j.j 0) p (get_or ns c.loop-j.j 0) w.if-entries-j.true)
      | else-entries-j w ↦ w.sum-is ∙ (let k = other_uncounted (get_or xs c.loop-j.j 0) p (get_or ns c.loop-j.j 0) w.if-entries-j.false in omega arith)
    ] in
    lower_next p c.loop-j.sum c.if-entries-j.sum c.loop-j.j _ xs ns c.loop-j-test.true (omega (arith, c.requires.many, ap length c.as_slice-entries.ensures)) c.loop-j.invariant s
