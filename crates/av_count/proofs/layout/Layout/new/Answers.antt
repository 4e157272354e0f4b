-- The children of the terms of one equation more.
use Rattle.std.proofs.Common.{◌≡◌, [], ◌∷◌, ◌++◌, arith}
use Rattle.std.proofs.lemmas.Grind.{common_steps}
use Rattle.av_count.proofs.Linked.{nodes_more}
use Rattle.av_count.proofs.layout.Layout.new.Goals as goal

pub loop-eq-preserved : goal.loop-eq-preserved
loop-eq-preserved c =
    let e : c.push.new.self.items ≡ c.loop-eq.nodes.items ++ c.in_ok-heads.heads ∷ [] = grind (arith, common_steps) in
    rw e (nodes_more c.args.system.now c.loop-eq.links c.of.new.links c.loop-eq.eq c.loop-eq.nodes.items c.in_ok-heads.heads c.loop-eq.invariant c.in_ok-heads.ensures)
