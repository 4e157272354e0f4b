-- The children of one term more.
use Rattle.std.proofs.Common.{◌≡◌, [], ◌∷◌, ◌++◌, arith}
use Rattle.std.proofs.lemmas.Grind.{common_steps}
use Rattle.av_count.proofs.Linked.{heads_more}
use Rattle.av_count.proofs.layout.Heads.of.Goals as goal

pub loop-t-preserved : goal.loop-t-preserved
loop-t-preserved c =
    let e : c.push.new.self.items ≡ c.loop-t.items.items ++ c.in_ok-children.children ∷ [] = grind (arith, common_steps) in
    let a = c.in_ok-children.ensures in
    record {
      kept = λ i l h. a.kept i l (c.loop-t.invariant.kept i l h);
      heads = rw e (heads_more c.args.system.now c.loop-t.links c.add_head.new.links c.args.eq c.loop-t.t c.loop-t.items.items c.in_ok-children.children c.loop-t.invariant.heads a);
      stand = a.links;
    }
