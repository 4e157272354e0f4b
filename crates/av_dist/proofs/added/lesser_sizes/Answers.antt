-- One place more, with an entry below that of place i or not.
use Rattle.std.proofs.Common.{◌≡◌, ℕ, ◌+◌, ◌<◌, ◌≤◌, List, length, drop, cond, true, false, get_or, nat_lt, arith, ap}
use Rattle.av_dist.specs.Crossing.{lesser}
use Rattle.av_dist.proofs.CrossingSteps.{lesser_step}
use Rattle.av_dist.proofs.added.lesser_sizes.Goals as goal
use Rattle.av_dist.proofs.added.lesser_sizes.Goals.{then-root-j, else-root-j}

lt_yes : (a b : ℕ) → a < b → nat_lt a b ≡ true
lt_yes a b h = grind arith

lt_no : (a b : ℕ) → b ≤ a → nat_lt a b ≡ false
lt_no a b h = grind arith

take_in : (x : ℕ) (w ns : List ℕ) (j sum all : ℕ) → j < length w → j < length ns → get_or w j 0 < x → sum + lesser x (drop j w) (drop j ns) ≡ all
    → sum + get_or ns j 0 + lesser x (drop (j + 1) w) (drop (j + 1) ns) ≡ all
take_in x w ns j sum all h k l e =
    let s = lesser_step x w ns j h k in
    let b = ap (λ b. cond b (get_or ns j 0) 0) (lt_yes (get_or w j 0) x l) in
    omega arith

pass_by : (x : ℕ) (w ns : List ℕ) (j sum all : ℕ) → j < length w → j < length ns → x ≤ get_or w j 0 → sum + lesser x (drop j w) (drop j ns) ≡ all
    → sum + lesser x (drop (j + 1) w) (drop (j + 1) ns) ≡ all
pass_by x w ns j sum all h k l e =
    let s = lesser_step x w ns j h k in
    let b = ap (λ b. cond b (get_or ns j 0) 0) (lt_no (get_or w j 0) x l) in
    omega arith

pub loop-j-preserved : goal.loop-j-preserved
loop-j-preserved c =
    let w = c.args.root.now in
    let ns = c.args.sizes.now in
    let j = c.loop-j.j in
    let x = get_or w c.args.i 0 in
    let all = lesser x (drop (c.args.i + 1) w) (drop (c.args.i + 1) ns) in
    elim c.if-root-j.branch [
      | then-root-j u ↦ rw u.sum-is (record {
        sum = take_in x w ns j c.loop-j.sum all (omega arith) (omega arith) u.if-root-j.true c.loop-j.invariant.sum;
        most = let b = c.type_inv.sizes j in let m = c.loop-j.invariant.most in omega arith;
      })
      | else-root-j u ↦ rw u.sum-is (record {
        sum = pass_by x w ns j c.loop-j.sum all (omega arith) (omega arith) u.if-root-j.false c.loop-j.invariant.sum;
        most = let m = c.loop-j.invariant.most in omega arith;
      })
    ]
