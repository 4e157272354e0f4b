-- The product of the rows, raised by what the sizes add, is what the last child adds.
use Rattle.std.proofs.Common.{◌≡◌, [], ◌∷◌, ◌++◌, ◌∙◌, ap₂}
use Rattle.av_dist.specs.Crossing.{added}
use Rattle.av_dist.specs.Rows.{IsRowOf}
use Rattle.av_dist.proofs.TotalSteps.{child_statistics}
use Rattle.av_dist.proofs.NextChild.{child_row, last_room, last_added}
use Rattle.av_dist.proofs.nodes.add_last.Goals as goal
use Rattle.av_dist.proofs.nodes.add_last.Goals.{After-row}

-- the row of the last child
row : (c : After-row) → IsRowOf (child_statistics c.args.node.now.levels.now c.args.node.now.children.now c.args.sizes.now c.args.left) c.row.result.now
row c =
    child_row c.args.node.now.levels.now c.args.node.now.children.now c.args.sizes.now c.row.result.now c.equation-child.result c.args.left
    c.equation-child.ensures c.row.ensures.row

-- what all the sizes add
from : (c : After-row) → c.added_by-from.result ≡ added c.args.node.now.levels.now.kind c.args.node.now.root.now (c.args.sizes.now ++ c.args.left ∷ [])
from c = c.added_by-from.ensures ∙ ap₂ (λ k ns. added k c.args.node.now.root.now ns) c.kind.ensures (c.as_slice.ensures.value ∙ c.with_size-all.ensures)

pub add_product-requires : goal.add_product-requires
add_product-requires c =
    last_room c.args.node.now.levels.now c.args.node.now.root.now c.args.node.now.children.now c.args.sizes.now c.args.sums.now c.row.result.now
    c.args.out.now c.args.left c.added_by-from.result c.requires.last c.requires.least c.requires.sums (row c) (from c) c.requires.room

pub returns : goal.returns
returns c =
    let r = (goal.at.returns c).After-row in
    last_added c.args.node.now.levels.now c.args.node.now.root.now c.args.node.now.children.now c.args.sizes.now c.args.sums.now c.row.result.now
    c.args.out.now c.add_product.new.self c.args.left c.added_by-from.result c.requires.last c.requires.least c.requires.sums (row r) (from r)
    c.add_product.ensures
