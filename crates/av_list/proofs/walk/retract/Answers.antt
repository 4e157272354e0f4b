-- The last vertex gives way to its next one, or is taken back.
use Rattle.std.proofs.Common.{◌≤◌, ◌++◌, ◌∷◌, arith, ap₂, subst, sym, ◌∙◌}
use Rattle.av_list.specs.Vertices.{dues_below}
use Rattle.av_list.specs.Remaining.{later, left}
use Rattle.av_list.specs.Derivations.{Derives}
use Rattle.av_list.proofs.Rooms.{back_room}
use Rattle.av_list.proofs.Placing.{retract_move, retract_back, vertex_upto}
use Rattle.av_list.proofs.walk.retract.Goals as goal

-- the last vertex is no larger than the whole tree
vertex_most : (c : goal.In-Some) → c.in-Some.vertex.size ≤ c.args.derivation.now.size
vertex_most c =
    vertex_upto c.args.system.now c.requires.formed c.args.derivation.now.size c.requires.least c.requires.some c.in-Some.vertex
    c.pop_vertex.new.self.placed c.loop-vertex.derivation.placed c.loop-vertex.derivation.due c.loop-vertex.invariant.derives c.in-Some.ensures.vertex.0

pub next_vertex-requires-clause-most : goal.next_vertex-requires-clause-most
next_vertex-requires-clause-most c = omega (arith, vertex_most c, c.requires.most)

pub next_vertex-requires-clause-size : goal.next_vertex-requires-clause-size
next_vertex-requires-clause-size c = omega (arith, vertex_most c, c.requires.limit)

pub put-requires-clause-derives : goal.put-requires-clause-derives
put-requires-clause-derives c =
    subst (λ n. Derives c.args.system.now n (c.in-Some-next_vertex.next ∷ c.pop_vertex.new.self.placed) (dues_below c.args.system.now c.in-Some-next_vertex.next ++ c.pop_vertex.new.self.due)) (sym (c.in-Some.ensures.size ∙ c.loop-vertex.invariant.size))
    (retract_move c.args.system.now c.args.derivation.now.size c.in-Some.vertex c.in-Some-next_vertex.next
    c.pop_vertex.new.self.placed c.loop-vertex.derivation.placed c.loop-vertex.derivation.due c.pop_vertex.new.self.due
    c.loop-vertex.invariant.derives c.in-Some.ensures.vertex.0 c.in-Some.ensures.vertex.1 c.in-Some-next_vertex.ensures).0

pub returns-in-Some-next_vertex-clause-moved : goal.returns-in-Some-next_vertex-clause-moved
returns-in-Some-next_vertex-clause-moved c e =
    c.loop-vertex.invariant.same
    ∙ (retract_move c.args.system.now c.args.derivation.now.size c.in-Some.vertex c.in-Some-next_vertex.next
    c.pop_vertex.new.self.placed c.loop-vertex.derivation.placed c.loop-vertex.derivation.due c.pop_vertex.new.self.due
    c.loop-vertex.invariant.derives c.in-Some.ensures.vertex.0 c.in-Some.ensures.vertex.1 c.in-Some-next_vertex.ensures).1
    ∙ ap₂ (left c.args.system.now) (sym c.put.ensures.placed) (sym c.put.ensures.due)

pub returns-in-Some-next_vertex-clause-derives : goal.returns-in-Some-next_vertex-clause-derives
returns-in-Some-next_vertex-clause-derives c =
    subst (λ z. Derives c.args.system.now c.args.derivation.now.size z c.put.new.derivation.due) (sym c.put.ensures.placed)
    (subst (λ z. Derives c.args.system.now c.args.derivation.now.size (c.in-Some-next_vertex.next ∷ c.pop_vertex.new.self.placed) z) (sym c.put.ensures.due)
    (retract_move c.args.system.now c.args.derivation.now.size c.in-Some.vertex c.in-Some-next_vertex.next
    c.pop_vertex.new.self.placed c.loop-vertex.derivation.placed c.loop-vertex.derivation.due c.pop_vertex.new.self.due
    c.loop-vertex.invariant.derives c.in-Some.ensures.vertex.0 c.in-Some.ensures.vertex.1 c.in-Some-next_vertex.ensures).0)

pub push_due-requires : goal.push_due-requires
push_due-requires c =
    let b =
    retract_back c.args.system.now c.args.derivation.now.size c.in-Some.vertex
    c.pop_vertex.new.self.placed c.loop-vertex.derivation.placed c.loop-vertex.derivation.due c.pop_vertex.new.self.due
    c.loop-vertex.invariant.derives c.in-Some.ensures.vertex.0 c.in-Some.ensures.vertex.1 c.in-None.ensures in
    let r = back_room c.args.system.now c.requires.formed c.args.derivation.now.size c.requires.least c.requires.some _ c.pop_vertex.new.self.placed c.pop_vertex.new.self.due b.0 in
    omega (arith, r, c.in-Some.ensures.size, c.loop-vertex.invariant.size)

pub loop-vertex-preserved : goal.loop-vertex-preserved
loop-vertex-preserved c =
    let b =
    retract_back c.args.system.now c.args.derivation.now.size c.in-Some.vertex
    c.pop_vertex.new.self.placed c.loop-vertex.derivation.placed c.loop-vertex.derivation.due c.pop_vertex.new.self.due
    c.loop-vertex.invariant.derives c.in-Some.ensures.vertex.0 c.in-Some.ensures.vertex.1 c.in-None.ensures in
    record {
      same = c.loop-vertex.invariant.same ∙ b.1 ∙ ap₂ (later c.args.system.now) (sym c.push_due.ensures.placed) (sym c.push_due.ensures.due);
      derives = subst (λ z. Derives c.args.system.now c.args.derivation.now.size z c.push_due.new.self.due) (sym c.push_due.ensures.placed)
          (subst (λ z. Derives c.args.system.now c.args.derivation.now.size c.pop_vertex.new.self.placed z) (sym c.push_due.ensures.due) b.0);
      size = c.push_due.ensures.size ∙ c.in-Some.ensures.size ∙ c.loop-vertex.invariant.size;
    }
