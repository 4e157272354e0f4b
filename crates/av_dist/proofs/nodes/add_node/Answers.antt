-- No size is chosen at first, and the one sum is 0.
use Rattle.std.proofs.Common.{ℕ, List, ◌∙◌, sym, ap, subst, arith}
use Rattle.std.specs.Prelude.{OnOk}
use Rattle.av_perm.specs.Relations.{at}
use Rattle.av_dist.specs.Rows.{how_often, HasRoomFor, Adds}
use Rattle.av_dist.specs.Tables.{AreFew}
use Rattle.av_dist.proofs.FewWords.{one_few}
use Rattle.av_dist.proofs.TotalSteps.{no_first_sums, all_left}
use Rattle.av_dist.proofs.TermRows.{one_row}
use Rattle.av_dist.proofs.nodes.add_node.Goals as goal

pub add_blocks-requires-clause-sums : goal.add_blocks-requires-clause-sums
add_blocks-requires-clause-sums c v =
    let e = no_first_sums c.args.node.now.levels.now c.args.node.now.children.now in
    ap (λ (r : List ℕ). at r v) c.in_ok-one.ensures ∙ one_row v ∙ ap (λ (zs : List ℕ). how_often zs v) (sym e)

pub add_blocks-requires-clause-few : goal.add_blocks-requires-clause-few
add_blocks-requires-clause-few c =
    let e = no_first_sums c.args.node.now.levels.now c.args.node.now.children.now in
    subst (λ (xs : List ℕ). AreFew xs c.args.size) (sym e) (one_few 0 c.args.size (omega (arith, c.requires.size, c.args.node.now.most)))

pub add_blocks-requires-clause-room : goal.add_blocks-requires-clause-room
add_blocks-requires-clause-room c =
    let e = all_left c.args.node.now.levels.now c.args.node.now.root.now c.args.node.now.children.now c.args.size in
    subst (λ (xs : List ℕ). HasRoomFor (how_often xs) c.args.out.now) (sym e) c.requires.room

pub returns : goal.returns
returns c =
    let e = all_left c.args.node.now.levels.now c.args.node.now.root.now c.args.node.now.children.now c.args.size in
    subst (λ (xs : List ℕ). OnOk c.add_blocks.result (Adds (how_often xs) c.args.out.now c.add_blocks.new.out)) e c.add_blocks.ensures
