-- Each size of a child adds its totals.
use Rattle.std.proofs.Common.{◌≡◌, ◌+◌, ◌-◌, ◌*◌, ◌<◌, ◌≤◌, [], ◌∷◌, ◌++◌, ◌∙◌, ap, length, arith, rules}
use Rattle.std.proofs.lemmas.List.{length_push}
use Rattle.av_dist.specs.Rows.{how_often, IsRowOf, HasRoomFor, width}
use Rattle.av_dist.specs.Tables.{AreFew}
use Rattle.av_dist.specs.Totals.{first_sums, totals_left}
use Rattle.av_dist.proofs.RowProducts.{width_grows}
use Rattle.av_dist.proofs.TotalSteps.{child_statistics}
use Rattle.av_dist.proofs.NextChild.{child_row, next_product, next_sums, next_few, next_left_room, next_left_added, all_sizes_added, size_skipped}
use Rattle.av_dist.proofs.nodes.+add_blocks.Goals as goal

pub loop-size-preserved-then-is_zero : goal.loop-size-preserved-then-is_zero
loop-size-preserved-then-is_zero t c =
    let s = c.args.node.now.levels.now in
    let cs = c.args.node.now.children.now in
    let sizes = c.args.sizes.now in
    let m = c.loop-size.size in
    let row : IsRowOf (child_statistics s cs sizes m) c.row-row.result.now =
    child_row s cs sizes c.row-row.result.now c.equation-child.result m c.equation-child.ensures c.row-row.ensures.row in
    size_skipped s c.args.node.now.root.now cs sizes c.row-row.result.now c.args.out.now c.loop-size.out m c.args.left
    c.requires.child c.loop-size.auto.size row (c.is_zero.ensures.0 c.if-is_zero.true) c.loop-size.invariant

pub times-requires-clause-room : goal.times-requires-clause-room
times-requires-clause-room t c =
    let s = c.args.node.now.levels.now in
    let cs = c.args.node.now.children.now in
    let sizes = c.args.sizes.now in
    let m = c.loop-size.size in
    let row : IsRowOf (child_statistics s cs sizes m) c.row-row.result.now =
    child_row s cs sizes c.row-row.result.now c.equation-child.result m c.equation-child.ensures c.row-row.ensures.row in
    let less : m < c.args.left = c.loop-size-test.true in
    let within : m ≤ s.largest = omega (arith, c.requires.most) in
    next_product s cs sizes c.args.sums.now c.row-row.result.now m c.args.left c.requires.sums row c.args.node.now.bounded within (omega (arith, less)) c.requires.few

pub add_blocks-requires : goal.add_blocks-requires
add_blocks-requires t c =
    let s = c.args.node.now.levels.now in
    let root = c.args.node.now.root.now in
    let cs = c.args.node.now.children.now in
    let sizes = c.args.sizes.now in
    let longer = c.as_slice.result.now in
    let m = c.loop-size.size in
    let left = c.args.left in
    let less : m < left = c.loop-size-test.true in
    let within : m ≤ s.largest = omega (arith, c.requires.most) in
    let s_most : s.largest < 24 = c.args.node.now.most in
    let is : longer ≡ sizes ++ m ∷ [] = c.as_slice.ensures.value ∙ c.with_size-longer.ensures in
    let long : length longer ≡ length sizes + 1 = ap length is ∙ length_push sizes m in
    let more : length sizes + 1 < length cs = omega (arith, c.if-sizes-len.false, c.len.ensures, c.requires.child) in
    let row : IsRowOf (child_statistics s cs sizes m) c.row-row.result.now =
    child_row s cs sizes c.row-row.result.now c.equation-child.result m c.equation-child.ensures c.row-row.ensures.row in
    let sums : IsRowOf (first_sums s cs longer) c.in_ok-next.next =
    next_sums s cs sizes longer c.args.sums.now c.row-row.result.now c.in_ok-next.next m is c.requires.child c.requires.sums row c.in_ok-next.ensures.numbers in
    let few : AreFew (first_sums s cs longer) (left - m) =
    next_few s cs sizes longer m left is c.requires.child c.args.node.now.bounded within (omega (arith, less)) c.requires.few in
    let room : HasRoomFor (how_often (totals_left s root cs longer (left - m))) c.loop-size.out =
    next_left_room s root cs sizes longer c.args.out.now c.loop-size.out m left is more c.loop-size.auto.size less c.requires.room c.loop-size.invariant in
    let short : length c.in_ok-next.next ≤ width 24 * (length longer + 1) =
    omega (arith, long, c.in_ok-next.ensures.long, c.row-row.ensures.wide, c.requires.short, width_grows m 24 (omega (arith, s_most))) in
    let falls : length cs - length longer < length cs - length sizes = omega arith in
    let i : length longer < length cs = omega arith in
    let most : left - m ≤ s.largest + 1 = omega (arith, c.requires.most) in
    let later : 1 ≤ length longer → left - m ≤ s.largest = λ h. omega (arith, c.requires.most, c.loop-size.auto.size) in
    let least : 1 ≤ left - m = omega arith in
    search (rules, falls, i, least, most, later, sums, short, few, room)

pub loop-size-preserved : goal.loop-size-preserved
loop-size-preserved t c =
    let s = c.args.node.now.levels.now in
    let is : c.as_slice.result.now ≡ c.args.sizes.now ++ c.loop-size.size ∷ [] = c.as_slice.ensures.value ∙ c.with_size-longer.ensures in
    next_left_added s c.args.node.now.root.now c.args.node.now.children.now c.args.sizes.now c.as_slice.result.now
    c.args.out.now c.loop-size.out c.add_blocks.new.out c.loop-size.size c.args.left
    is c.loop-size.auto.size c.loop-size.invariant c.in_ok-add_blocks.ensures

pub returns : goal.returns
returns t c =
    let more : length c.args.sizes.now + 1 < length c.args.node.now.children.now = omega (arith, c.if-sizes-len.false, c.len.ensures, c.requires.child) in
    let e : c.loop-size.size ≡ c.args.left = omega (arith, c.loop-size-test.false, c.loop-size.auto.size-end c.requires.least) in
    all_sizes_added c.args.node.now.levels.now c.args.node.now.root.now c.args.node.now.children.now c.args.sizes.now
    c.args.out.now c.loop-size.out c.loop-size.size c.args.left more c.requires.least e c.loop-size.invariant
