-- At the start there is one node, which has all covered words left.
use Rattle.std.proofs.Common.{arith}
use Rattle.av_perm.specs.Relations.{IsWord}
use Rattle.av_perm.proofs.PermWords.{perm_word}
use Rattle.av_union.proofs.Nodes.{IsFirst, first_of, first_covered, first_node}
use Rattle.av_union.proofs.overlays.Overlays.new.Goals as goal

word : (c : goal.After-push) → IsWord c.args.a.now
word c = perm_word c.args.a.now c.len-first.ensures.word

first : (c : goal.After-push) → IsFirst c.args.a.now c.of-2.result c.push.new.self.items
first c =
    first_of c.args.a.now c.of.result c.of-2.result c.new-nodes.result.items c.push.new.self.items c.of.ensures.word c.of.ensures.places
    c.of-2.ensures.partial c.of-2.ensures.choices c.new-nodes.ensures c.push.ensures.items

pub invariant_of-result : goal.invariant_of-result
invariant_of-result c = (
  first_node c.args.a.now c.args.b.now c.of-2.result c.push.new.self.items (omega (arith, c.requires)) (first c),
  omega (arith, c.requires, (word c).filled),
)

pub returns : goal.returns
returns c = λ w. first_covered c.args.a.now c.args.b.now w c.of-2.result c.push.new.self.items (word c) (first c)
