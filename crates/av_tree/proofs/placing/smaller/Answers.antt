-- One more size adds its lists.
use Rattle.std.proofs.Common.{◌≡◌, ◌<◌, ◌+◌, ◌*◌, ◌-◌, ℕ, suc, length, drop, get_or, sym, ◌∙◌, ap, subst, arith, refl}
use Rattle.av_count.specs.Counts.{capped}
use Rattle.av_count.specs.Choices.{ways, ahead}
use Rattle.av_sys.specs.TreeLists.{count_at}
use Rattle.av_count.specs.declared.count.Count.TheVariants.{Known}
use Rattle.av_count.proofs.Members.{ahead_more}
use Rattle.av_count.proofs.Filled.{child_is}
use Rattle.av_tree.proofs.placing.smaller.Goals as goal

zero_known : Known 0 ≡ capped 0
unfolding capped
zero_known = refl

pub loop-m-init : goal.loop-m-init
loop-m-init c F h = let e : 0 ≡ F * 0 = omega arith in c.of-sum.ensures ∙ ap capped e

pub sized_count-requires-clause-child : goal.sized_count-requires-clause-child
sized_count-requires-clause-child c =
    subst (λ z. z < length c.args.table.now.system.equations) (child_is c.args.children.now c.args.i c.equation-child.result c.equation-child.ensures) (c.requires.known c.args.i c.requires.i)

more : (f g : ℕ → ℕ) (n F m : ℕ) → F * ahead f g n 1 m + F * f (m + 1) * g (n - (m + 1)) ≡ F * ahead f g n 1 (m + 1)
more f g n F m =
    let e : 1 + m ≡ m + 1 = omega arith in
    let h : suc m ≡ m + 1 = omega arith in
    let k : ahead f g n 1 (m + 1) ≡ ahead f g n 1 m + f (m + 1) * g (n - (m + 1)) = ap (ahead f g n 1) (sym h) ∙ ahead_more f g n 1 m ∙ ap (λ j. ahead f g n 1 m + f j * g (n - j)) e in
    rw k (out F (ahead f g n 1 m) (f (m + 1)) (g (n - (m + 1))))
  where
    out : (F a x y : ℕ) → F * a + F * x * y ≡ F * (a + x * y)
    out F a x y = omega arith

pub loop-m-preserved : goal.loop-m-preserved
loop-m-preserved c F h =
    let S = c.args.table.now.system in
    let cs = c.args.children.now in
    let g = ways (count_at S) (drop (c.args.i + 1) cs) in
    let n = c.args.size in
    let m = c.loop-m.m in
    let e = child_is cs c.args.i c.equation-child.result c.equation-child.ensures in
    c.plus-sum.ensures (F * ahead (count_at S (get_or cs c.args.i 0)) g n 1 m) (F * count_at S c.equation-child.result (m + 1) * g (n - (m + 1))) (c.loop-m.invariant F h) (c.sized_count.ensures F h)
    ∙ ap (λ z. capped (F * ahead (count_at S (get_or cs c.args.i 0)) g n 1 m + F * count_at S z (m + 1) * g (n - (m + 1)))) (sym e)
    ∙ ap capped (more (count_at S (get_or cs c.args.i 0)) g n F m)
