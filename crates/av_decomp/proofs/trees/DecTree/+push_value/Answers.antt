-- Each block finds room, and all together are the word.
use Rattle.std.proofs.Common.{◌≡◌, ℕ, ◌+◌, ◌<◌, ◌≤◌, List, ◌++◌, map, length, get_or, ap, ◌∙◌, arith, sym, subst, sum_by, length-append}
use Rattle.std.proofs.lemmas.List.{length-map}
use Rattle.av_perm.specs.Relations.{at, points_below, joined}
use Rattle.av_perm.proofs.InflationSteps.{raise_few}
use Rattle.av_decomp.specs.RootTrees.{RootTree}
use Rattle.av_decomp.specs.Trees.{value}
use Rattle.av_decomp.proofs.FormedTrees.{IsRootedTree, node_of, nodes_less, value_at, lifted, lifted_room, lifted_more, lifted_end}
use Rattle.av_decomp.proofs.trees.DecTree.+push_value.Goals as goal

pub raise_of-lower-requires-clause-count : goal.raise_of-lower-requires-clause-count
raise_of-lower-requires-clause-count t c =
    let n = node_of c.self.inside.root c.in-Some.root c.self.inside.blocks.items c.args.self.now c.self.invariant.formed c.in-Some.is c.self.view_is in
    ap (λ (ts : List RootTree). length ts) c.deref.ensures.value ∙ n.count

pub raise_of-lower-requires-clause-few : goal.raise_of-lower-requires-clause-few
raise_of-lower-requires-clause-few t c =
    let n = node_of c.self.inside.root c.in-Some.root c.self.inside.blocks.items c.args.self.now c.self.invariant.formed c.in-Some.is c.self.view_is in
    subst (λ (ts : List RootTree). sum_by (λ (a : List ℕ). length a) (map value ts) ≤ 160) (sym c.deref.ensures.value) n.few

pub index-requires : goal.index-requires
index-requires t c =
    let n = node_of c.self.inside.root c.in-Some.root c.self.inside.blocks.items c.args.self.now c.self.invariant.formed c.in-Some.is c.self.view_is in
    omega (arith, n.count, ap (λ (ts : List RootTree). length ts) c.deref.ensures.value, c.deref.ensures.len, c.len-i-end.ensures.value, c.loop-i-test.true)

-- the block is raised by what lies below it, and finds room
raise_room : (π : List ℕ) (ts : List RootTree) (now : RootTree) (i lower : ℕ) (s : RootTree) → IsRootedTree π ts now → i < length π → lower ≡ points_below (at π i) π (map value ts) → s ≡ get_or ts i s
    → lower + length (value s) ≤ length (value now)
raise_room π ts now i lower s n h e q =
    let m = length-map ts value in
    let v = ap (λ (l : List ℕ). length l) (value_at ts i s (omega (arith, n.count)) q) in
    omega (arith, raise_few π (map value ts) i h (omega (arith, n.count, m)), n.long, e, v)

place_room : (π : List ℕ) (ts : List RootTree) (now : RootTree) (o i : ℕ) (start old : List ℕ) (s : RootTree) → IsRootedTree π ts now → i < length π → old ≡ start ++ joined (lifted o π (map value ts)) i → s ≡ get_or ts i s
    → length old + length (value s) ≤ length start + length (value now)
place_room π ts now o i start old s n h e q =
    let m = length-map ts value in
    let v = ap (λ (l : List ℕ). length l) (value_at ts i s (omega (arith, n.count)) q) in
    let k = ap (λ (l : List ℕ). length l) e ∙ length-append start (joined (lifted o π (map value ts)) i) in
    omega (arith, lifted_room o π (map value ts) i (omega (arith, n.count, m)), n.long, k, v)

pub overflow_add-raise-in-loop-i : goal.overflow_add-raise-in-loop-i
overflow_add-raise-in-loop-i t c =
    let n = node_of c.self.inside.root c.in-Some.root c.self.inside.blocks.items c.args.self.now c.self.invariant.formed c.in-Some.is c.self.view_is in
    let h : c.loop-i.i < length c.in-Some.root = omega (arith, c.len-i-end.ensures.value, c.loop-i-test.true) in
    let e = c.raise_of-lower.ensures ∙ ap (λ (ts : List RootTree). points_below (at c.in-Some.root c.loop-i.i) c.in-Some.root (map value ts)) c.deref.ensures.value in
    omega (arith, raise_room c.in-Some.root c.self.inside.blocks.items c.args.self.now c.loop-i.i c.raise_of-lower.result c.index.result.now n h e c.index.ensures, c.requires.low)

pub push_value-requires : goal.push_value-requires
push_value-requires t c =
    let n = node_of c.self.inside.root c.in-Some.root c.self.inside.blocks.items c.args.self.now c.self.invariant.formed c.in-Some.is c.self.view_is in
    let h : c.loop-i.i < length c.in-Some.root = omega (arith, c.len-i-end.ensures.value, c.loop-i-test.true) in
    let e = c.raise_of-lower.ensures ∙ ap (λ (ts : List RootTree). points_below (at c.in-Some.root c.loop-i.i) c.in-Some.root (map value ts)) c.deref.ensures.value in
    let l = nodes_less c.self.inside.root c.self.inside.blocks.items c.loop-i.i c.args.self.now c.index.result.now (omega (arith, n.count, h)) c.index.ensures c.self.view_is in (
      omega (arith, l),
      (
        omega (arith, place_room c.in-Some.root c.self.inside.blocks.items c.args.self.now c.args.raise c.loop-i.i c.args.entries.now.items c.loop-i.entries.items c.index.result.now n h c.loop-i.invariant c.index.ensures, c.requires.room),
        omega (arith, raise_room c.in-Some.root c.self.inside.blocks.items c.args.self.now c.loop-i.i c.raise_of-lower.result c.index.result.now n h e c.index.ensures, c.requires.low),
      ),
    )

pub loop-i-preserved : goal.loop-i-preserved
loop-i-preserved t c =
    let n = node_of c.self.inside.root c.in-Some.root c.self.inside.blocks.items c.args.self.now c.self.invariant.formed c.in-Some.is c.self.view_is in
    let h : c.loop-i.i < length c.in-Some.root = omega (arith, c.len-i-end.ensures.value, c.loop-i-test.true) in
    let e = c.raise_of-lower.ensures ∙ ap (λ (ts : List RootTree). points_below (at c.in-Some.root c.loop-i.i) c.in-Some.root (map value ts)) c.deref.ensures.value in
    lifted_more c.args.raise c.raise_of-lower.result c.in-Some.root (map value c.self.inside.blocks.items) c.loop-i.i c.args.entries.now.items c.loop-i.entries.items c.push_value.new.entries.items (value c.index.result.now)
    c.loop-i.invariant c.push_value.ensures e (value_at c.self.inside.blocks.items c.loop-i.i c.index.result.now (omega (arith, n.count, h)) c.index.ensures)

pub returns : goal.returns
returns t c =
    let n = node_of c.self.inside.root c.in-Some.root c.self.inside.blocks.items c.args.self.now c.self.invariant.formed c.in-Some.is c.self.view_is in
    let e : c.loop-i.i ≡ length c.in-Some.root = omega (arith, c.len-i-end.ensures.value, c.loop-i-test.false, c.loop-i.auto.i-end) in
    lifted_end c.args.raise c.loop-i.i c.in-Some.root c.self.inside.blocks.items c.args.self.now c.args.entries.now.items c.loop-i.entries.items n c.loop-i.invariant e
