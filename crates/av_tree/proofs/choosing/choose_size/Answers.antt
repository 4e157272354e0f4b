-- A place past one size lies among the later ones.
use Rattle.std.proofs.Common.{◌≡◌, ◌<◌, ◌≤◌, ◌+◌, ◌*◌, ◌-◌, ℕ, drop, get_or, sym, subst, arith, refl}
use Rattle.av_count.specs.Counts.{capped}
use Rattle.av_count.specs.Choices.{ways, ahead}
use Rattle.av_sys.specs.TreeLists.{count_at}
use Rattle.av_count.proofs.Filled.{child_is, tail_next}
use Rattle.av_tree.proofs.Picks.{size_next, size_left, size_some}
use Rattle.av_tree.proofs.choosing.choose_size.Goals as goal

pub loop-less-init : goal.loop-less-init
loop-less-init c =
    let w = c.requires.within in
    record {
      least = omega arith;
      most = size_some (count_at c.args.table.now.system) c.args.children.now c.args.i c.args.size w.0 c.args.r c.requires.i w.2;
      place = λ F e. let z : 1 - 1 ≡ 0 = omega arith in rw z (omega arith);
    }

next_place : (c : goal.In-Some) (F : ℕ) → c.args.factor ≡ capped F
    → c.in-Some.less + F * ahead (count_at c.args.table.now.system (get_or c.args.children.now c.args.i 0)) (ways (count_at c.args.table.now.system) (drop (c.args.i + 1) c.args.children.now)) c.args.size 1 (c.loop-less.at + 1 - 1) ≡ c.args.r
next_place c F h =
    let S = c.args.table.now.system in
    let cs = c.args.children.now in
    let g = ways (count_at S) (drop (c.args.i + 1) cs) in
    let n = c.args.size in
    let at = c.loop-less.at in
    let e = child_is cs c.args.i c.equation-child.result c.equation-child.ensures in
    let step : c.in-Some.less + F * count_at S (get_or cs c.args.i 0) at * g (n - at) ≡ c.loop-less.left =
    subst (λ z. c.in-Some.less + F * count_at c.args.table.now.system z c.loop-less.at * ways (count_at c.args.table.now.system) (drop (c.args.i + 1) c.args.children.now) (c.args.size - c.loop-less.at) ≡ c.loop-less.left) (sym e)
    (c.in-Some.ensures (F * count_at S c.equation-child.result at * g (n - at)) (c.sized_count.ensures F h)) in
    size_next (count_at S (get_or cs c.args.i 0)) g n F at c.loop-less.left c.in-Some.less c.args.r c.loop-less.invariant.least (c.loop-less.invariant.place F h) step

next_most : (c : goal.In-Some) → c.loop-less.at + 1 ≤ c.args.size
next_most c =
    let S = c.args.table.now.system in
    let cs = c.args.children.now in
    let g = ways (count_at S) (drop (c.args.i + 1) cs) in
    let n = c.args.size in
    let w = c.requires.within in
    let all : ways (count_at S) (drop c.args.i cs) n ≡ ahead (count_at S (get_or cs c.args.i 0)) g n 1 n = tail_next (count_at S) cs c.args.i n (get_or cs c.args.i 0) c.requires.i refl in
    size_left (count_at S (get_or cs c.args.i 0)) g n w.0 c.loop-less.at c.in-Some.less c.args.r c.loop-less.invariant.most (next_place c w.0 w.1) (subst (λ z. c.args.r < w.0 * z) all w.2)

pub loop-less-preserved : goal.loop-less-preserved
loop-less-preserved c = record { least = omega arith; most = next_most c; place = next_place c }

pub overflow_add-at : goal.overflow_add-at
overflow_add-at c = let m = next_most c in omega arith

pub loop-less-smaller : goal.loop-less-smaller
loop-less-smaller c = let m = next_most c in omega arith

pub returns : goal.returns
returns c F h lt =
    let S = c.args.table.now.system in
    let cs = c.args.children.now in
    let e = child_is cs c.args.i c.equation-child.result c.equation-child.ensures in
    record {
      least = c.loop-less.invariant.least;
      most = c.loop-less.invariant.most;
      place = c.loop-less.invariant.place F h;
      within = subst (λ z. c.loop-less.left < F * count_at c.args.table.now.system z c.loop-less.at * ways (count_at c.args.table.now.system) (drop (c.args.i + 1) c.args.children.now) (c.args.size - c.loop-less.at)) (sym e)
          (c.in_default.ensures (F * count_at S c.equation-child.result c.loop-less.at * ways (count_at S) (drop (c.args.i + 1) cs) (c.args.size - c.loop-less.at)) (c.sized_count.ensures F h));
    }
