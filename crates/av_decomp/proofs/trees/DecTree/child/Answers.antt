-- The trees of the joined list are the blocks.
use Rattle.std.proofs.Common.{◌≡◌, ◌-◌, ◌<◌, length, ap, rules, arith, vec_len, refl}
use Rattle.std.proofs.lemmas.Option.{slice_get_read}
use Rattle.av_decomp.specs.RootTrees.{RootTree, trees_of, trees_of_as_trees}
use Rattle.av_decomp.specs.Trees.{root_length}
use Rattle.av_decomp.proofs.FormedTrees.{formed_length}
use Rattle.av_decomp.proofs.trees.DecTree.child.Goals as goal

pub index-requires : goal.index-requires
index-requires c =
    let n : vec_len c.self.inside.blocks ≡ length c.self.inside.blocks.items = search rules in
    let l = formed_length c.self.inside.root c.self.inside.blocks.items c.self.invariant.formed.top in
    let r = ap (λ (t : RootTree). root_length t.root) c.self.view_is in
    omega (arith, n, l, r, c.requires.low, c.requires.high)

pub returns : goal.returns
returns c =
    let whole : length (trees_of c.args.self.now.blocks) ≡ length c.self.inside.blocks.items = rw (← c.self.view_is, trees_of_as_trees c.self.inside.blocks.items) refl in
    let l = formed_length c.self.inside.root c.self.inside.blocks.items c.self.invariant.formed.top in
    let r = ap (λ (t : RootTree). root_length t.root) c.self.view_is in
    let h : c.args.i - 1 < length (trees_of c.args.self.now.blocks) = omega (arith, l, r, whole, c.requires.low, c.requires.high) in
    rw (← c.self.view_is, trees_of_as_trees c.self.inside.blocks.items)
    (slice_get_read c.self.inside.blocks.items _ (c.args.i - 1) _ whole h c.index.ensures)
