-- Past the last child there is one empty list.
use Rattle.std.proofs.Common.{◌≡◌, ◌+◌, sym, ◌∙◌, ap, arith, refl}
use Rattle.av_count.specs.Counts.{capped}
use Rattle.av_count.specs.Choices.{ways}
use Rattle.av_sys.specs.TreeLists.{count_at}
use Rattle.av_count.specs.Members.{tail_at}
use Rattle.av_count.specs.declared.count.Count.TheVariants.{Known}
use Rattle.av_tree.proofs.Picks.{tail_child, ways_end, ways_past}
use Rattle.av_tree.proofs.choosing.rest_count.Goals as goal

pub returns-then-i-len : goal.returns-then-i-len
returns-then-i-len c =
    let e : c.args.i + 2 ≡ c.args.i + 1 + 1 = omega arith in
    c.tail.ensures ∙ ap (λ k. capped (tail_at c.args.table.now.system c.args.eq c.args.t k c.args.size)) e
    ∙ ap capped (tail_child c.args.table.now.system c.args.eq c.args.t (c.args.i + 1) c.args.size c.args.children.now c.requires.node)

one : Known 1 ≡ capped 1
unfolding capped
one = refl

none : Known 0 ≡ capped 0
unfolding capped
none = refl

pub returns-then-size-eq0 : goal.returns-then-size-eq0
returns-then-size-eq0 c =
    one ∙ ap capped (sym (ap (ways (count_at c.args.table.now.system) _) c.if-size-eq0.true ∙ ways_end (count_at c.args.table.now.system) c.args.children.now (c.args.i + 1) (omega (arith, c.if-i-len.false, c.len-len.ensures))))

pub returns-else-size-eq0 : goal.returns-else-size-eq0
returns-else-size-eq0 c =
    none ∙ ap capped (sym (ways_past (count_at c.args.table.now.system) c.args.children.now (c.args.i + 1) c.args.size (omega (arith, c.if-i-len.false, c.len-len.ensures)) (omega (arith, c.if-size-eq0.false))))
