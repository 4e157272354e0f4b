-- The entries are 1, 2, .., n, from which on there are all words.
use Rattle.std.proofs.Common.{◌≡◌, ap, sym, ◌∙◌, arith, add-one, one-add, length, lit<}
use Rattle.av_perm.specs.Lists.{counting}
use Rattle.av_perm.proofs.LexOrder.{from_counting}
use Rattle.av_perm.proofs.PermWords.{counting_perm}
use Rattle.av_perm.proofs.RisingLists.{length_counting, counting_more}
use Rattle.av_perm.proofs.lex.Lex.new.Goals as goal

pub push-requires : goal.push-requires
push-requires c = (lit< tt, omega (arith, ap length c.loop-i.invariant, length_counting c.loop-i.i 1))

pub loop-i-preserved : goal.loop-i-preserved
loop-i-preserved c =
    c.push.ensures.items
    ∙ rw (add-one, c.loop-i.invariant, ← one-add c.loop-i.i) (counting_more 1 c.loop-i.i)
    ∙ ap (counting 1) (sym (add-one c.loop-i.i))

pub invariant_of-result : goal.invariant_of-result
invariant_of-result c =
    let e : c.loop-i.i ≡ c.args.n = omega arith in
    rw (c.loop-i.invariant, e) (counting_perm c.args.n c.requires.some (omega arith))

pub returns : goal.returns
returns c =
    let e : c.loop-i.i ≡ c.args.n = omega arith in
    rw (c.loop-i.invariant, e) (from_counting c.args.n)
