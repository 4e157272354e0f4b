-- No top was found of 12 and 21.
use Rattle.std.proofs.Common.{◌≡◌, ℕ, List}
use Rattle.av_perm.specs.Relations.{AreBlocks, IsSimple, inflate}
use Rattle.av_tree.specs.declared.tops.Top.{Top}
use Rattle.av_tree.specs.Tops.{FitsNone, IsTop, HasNoTop}
use Rattle.av_tree.proofs.Options.{match_none}
use Rattle.av_tree.proofs.SomeTops.{no_top}
use Rattle.av_tree.proofs.tops.find_top.Goals as goal

pub returns : goal.returns
returns c =
    match_none c.find_simple.result
    ((root : List ℕ) (αs : List (List ℕ)) → IsSimple root → AreBlocks root αs → inflate root αs ≡ c.args.word.now → FitsNone c.args.system.now c.args.eq root αs)
    (HasNoTop c.args.system.now c.args.eq c.args.word.now)
    (λ (top : Top). IsTop c.args.system.now c.args.eq c.args.word.now top.term top.blocks.items)
    (λ s. no_top c.args.system.now c.args.eq c.args.word.now c.sum_root.result c.skew_root.result c.sum_root.ensures c.skew_root.ensures c.in_default.ensures c.in_default-find_cut.ensures s)
    c.find_simple.ensures
