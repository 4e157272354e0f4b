-- The children are added from the last on, so the first is due next.
use Rattle.std.proofs.Common.{◌≡◌, ◌<◌, ◌+◌, ◌-◌, ◌++◌, ◌∷◌, List, length, drop, get_or, sym, ap, ap₂, arith, refl, ◌∙◌, Some, length-append}
use Rattle.std.proofs.lemmas.List.{length-drop, drop_all}
use Rattle.av_sys.specs.Terms.{children_of}
use Rattle.av_count.proofs.Filled.{child_is}
use Rattle.av_list.specs.declared.vertex.Due.{Due}
use Rattle.av_list.specs.Vertices.{dues}
use Rattle.av_list.proofs.Steps.{length_dues}
use Rattle.av_list.proofs.Rooms.{dues_here}
use Rattle.av_list.proofs.walk.add_dues_below.Goals as goal

pub loop-k-init : goal.loop-k-init
loop-k-init c =
    let e = c.term.ensures ∙ ap Some c.in-Node.is in
    let m : length c.args.vertex.now.sizes ≡ length c.in-Node.children = c.requires.many ∙ ap (λ o. length (children_of o)) e in
    let l = length_dues c.in-Node.children c.args.vertex.now.sizes m in
    record {
      due = ap (λ z. z ++ c.args.derivation.now.due) (sym (drop_all (length c.in-Node.children - 0) (dues c.in-Node.children c.args.vertex.now.sizes) (omega arith)));
      placed = refl;
      size = refl;
    }

pub push_due-requires : goal.push_due-requires
push_due-requires c =
    let e = c.term.ensures ∙ ap Some c.in-Node.is in
    let m : length c.args.vertex.now.sizes ≡ length c.in-Node.children = c.requires.many ∙ ap (λ o. length (children_of o)) e in
    let ds = dues c.in-Node.children c.args.vertex.now.sizes in
    let l = length_dues c.in-Node.children c.args.vertex.now.sizes m in
    let a = ap length c.loop-k.invariant.due in
    let b = length-append (drop (length c.in-Node.children - c.loop-k.k) ds) c.args.derivation.now.due in
    let d = length-drop (length c.in-Node.children - c.loop-k.k) ds in
    omega (arith, c.requires.room, c.loop-k.invariant.size, c.loop-k-test.true, c.len-len.ensures)

pub loop-k-preserved : goal.loop-k-preserved
loop-k-preserved c =
    let e = c.term.ensures ∙ ap Some c.in-Node.is in
    let m : length c.args.vertex.now.sizes ≡ length c.in-Node.children = c.requires.many ∙ ap (λ o. length (children_of o)) e in
    let cs = c.in-Node.children in
    let ns = c.args.vertex.now.sizes in
    let i = c.len-len.result - 1 - c.loop-k.k in
    let j : length cs - (c.loop-k.k + 1) ≡ i = omega (arith, c.len-len.ensures) in
    let k : length cs - c.loop-k.k ≡ i + 1 = omega (arith, c.len-len.ensures, c.loop-k-test.true) in
    let lt : i < length cs = omega (arith, c.len-len.ensures, c.loop-k-test.true) in
    let d = ap₂ (λ a b. record { equation = a; size = b }) (sym (child_is cs i c.equation.result c.equation.ensures)) c.get.ensures in
    record {
      due = c.push_due.ensures.due ∙ ap₂ (λ (a : Due) (b : List Due). a ∷ b) d c.loop-k.invariant.due
          ∙ ap (λ z. z ++ c.args.derivation.now.due) (ap (λ z. record { equation = get_or cs i 0; size = get_or ns i 0 } ∷ drop z (dues cs ns)) k ∙ sym (dues_here cs ns i lt m) ∙ ap (λ z. drop z (dues cs ns)) (sym j));
      placed = c.push_due.ensures.placed ∙ c.loop-k.invariant.placed;
      size = c.push_due.ensures.size ∙ c.loop-k.invariant.size;
    }

pub returns-after-loop-k : goal.returns-after-loop-k
returns-after-loop-k c =
    let e = c.term.ensures ∙ ap Some c.in-Node.is in
    let z : length c.in-Node.children - c.loop-k.k ≡ 0 = omega (arith, c.len-len.ensures, c.loop-k-test.false) in
    record {
      due = c.loop-k.invariant.due ∙ ap (λ k. drop k (dues c.in-Node.children c.args.vertex.now.sizes) ++ c.args.derivation.now.due) z ∙ ap (λ o. dues (children_of o) c.args.vertex.now.sizes ++ c.args.derivation.now.due) (sym e);
      placed = c.loop-k.invariant.placed;
      size = c.loop-k.invariant.size;
    }
