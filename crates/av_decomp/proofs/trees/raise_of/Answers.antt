-- A block with a smaller root entry adds its points.
use Rattle.std.proofs.Common.{◌≡◌, ℕ, ◌+◌, ◌<◌, List, map, length, take_all, add-one, ap, ap₂, ◌∙◌, arith}
use Rattle.std.proofs.lemmas.List.{length-map}
use Rattle.av_perm.specs.Word.{entry}
use Rattle.av_perm.specs.Relations.{at, points_below}
use Rattle.av_perm.proofs.InflationSteps.{below_first_few}
use Rattle.av_decomp.specs.Trees.{value}
use Rattle.av_decomp.proofs.FormedTrees.{value_at, lower_more, lower_still}
use Rattle.av_decomp.proofs.trees.raise_of.Goals as goal
use Rattle.av_decomp.proofs.trees.raise_of.Goals.{then-entry, else-entry}

pub overflow_add-lower : goal.overflow_add-lower
overflow_add-lower c =
    let n = length-map c.args.blocks.now value in
    let h : c.loop-k.k < length c.args.root.now = omega arith in
    let e = value_at c.args.blocks.now c.loop-k.k c.index-blocks-k.result (omega arith) c.index-blocks-k.is in
    let more = lower_more c.entry-entry.result c.entry.result c.loop-k.lower c.points-lower.result c.loop-k.k c.args.root.now (map value c.args.blocks.now) h (omega arith) c.loop-k.invariant c.entry.ensures c.if-entry.true
    (c.points-lower.ensures.points ∙ ap (λ (l : List ℕ). length l) e) in
    omega (arith, more, below_first_few c.entry-entry.result c.args.root.now (map value c.args.blocks.now) (c.loop-k.k + 1), c.requires.few)

pub loop-k-preserved : goal.loop-k-preserved
loop-k-preserved c =
    let n = length-map c.args.blocks.now value in
    let h : c.loop-k.k < length c.args.root.now = omega arith in
    elim c.if-entry.branch [
      | then-entry w ↦
          w.lower-is
          ∙ lower_more c.entry-entry.result c.entry.result c.loop-k.lower w.points-lower.result c.loop-k.k c.args.root.now (map value c.args.blocks.now) h (omega arith) c.loop-k.invariant c.entry.ensures w.if-entry.true
          (w.points-lower.ensures.points ∙ ap (λ (l : List ℕ). length l) (value_at c.args.blocks.now c.loop-k.k w.index-blocks-k.result (omega arith) w.index-blocks-k.is))
      | else-entry w ↦
          w.lower-is
          ∙ lower_still c.entry-entry.result c.entry.result c.loop-k.lower c.loop-k.k c.args.root.now (map value c.args.blocks.now) h (omega arith) c.loop-k.invariant c.entry.ensures w.if-entry.false
    ]

pub returns : goal.returns
returns c =
    let n = length-map c.args.blocks.now value in
    let e : c.entry-entry.result ≡ at c.args.root.now c.args.i = c.entry-entry.ensures ∙ ap (entry c.args.root.now) (add-one c.args.i) in
    c.loop-k.invariant
    ∙ ap₂ (λ (π : List ℕ) (αs : List (List ℕ)). points_below c.entry-entry.result π αs) (take_all c.loop-k.k c.args.root.now (omega arith)) (take_all c.loop-k.k (map value c.args.blocks.now) (omega arith))
    ∙ ap (λ v. points_below v c.args.root.now (map value c.args.blocks.now)) e
