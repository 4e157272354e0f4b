-- A word that means a name has a top, and the places of its blocks make its place.
use Rattle.std.proofs.Common.{◌<◌, ◌≤◌, ℕ, List, length, sym, ap, ◌∙◌, subst, arith, rules, Some}
use Rattle.std.proofs.Math.ListN.{length-set}
use Rattle.av_perm.proofs.PermWords.{perm_word}
use Rattle.av_decomp.proofs.Decompositions.{word_of_one}
use Rattle.av_count.proofs.Filled.{child_is}
use Rattle.av_count.proofs.NodeForms.{node_form}
use Rattle.av_tree.specs.declared.placing.Found.{Found}
use Rattle.av_tree.specs.declared.tops.Top.{Top}
use Rattle.av_tree.specs.Picks.{RankedAt}
use Rattle.av_tree.specs.Tops.{IsTop, HasNoTop}
use Rattle.av_tree.proofs.Options.{match_some}
use Rattle.av_tree.proofs.Meanings.{block_read, mean_here}
use Rattle.av_tree.proofs.AvoidingBlocks.{means_avoids}
use Rattle.av_tree.proofs.SomeTops.{named_less, some_top, some_point}
use Rattle.av_tree.proofs.BlockPlaces.{found_more, found_top, found_here, top_count, top_shorter, top_picks, top_ranked}
use Rattle.av_tree.proofs.ranking.+place.Goals as goal

pub point_place-requires-clause-point : goal.point_place-requires-clause-point
point_place-requires-clause-point t c =
    some_point c.args.system.now c.args.word.now c.requires.formed c.requires.named c.args.eq c.requires.means (sym c.len.ensures.value ∙ c.if-len-eq1.true)

pub returns-then-len-eq1 : goal.returns-then-len-eq1
returns-then-len-eq1 t c =
    let q = word_of_one c.args.word.now (perm_word c.args.word.now c.len.ensures.word) (sym c.len.ensures.value ∙ c.if-len-eq1.true) in
    subst (λ (v : List ℕ). RankedAt c.args.system.now c.args.eq (length v) v c.point_place.result) (sym q) c.point_place.ensures

pub find_top-requires-clause-avoided : goal.find_top-requires-clause-avoided
find_top-requires-clause-avoided t c =
    means_avoids c.args.system.now c.args.eq c.args.word.now c.get.result.now c.get.ensures (perm_word c.args.word.now c.len.ensures.word) c.requires.means

pub unwrap-top-requires : goal.unwrap-top-requires
unwrap-top-requires t c =
    let g = perm_word c.args.word.now c.len.ensures.word in
    let some = g.filled in
    let two : 2 ≤ length c.args.word.now = omega (arith, c.len.ensures.value, c.if-len-eq1.false) in
    match_some c.find_top.result (HasNoTop c.args.system.now c.args.eq c.args.word.now) (λ (top : Top). IsTop c.args.system.now c.args.eq c.args.word.now top.term top.blocks.items)
    (some_top c.args.system.now c.args.word.now c.requires.formed c.requires.named c.args.eq c.requires.means two) c.find_top.ensures

-- the node that the top names
pub loop-i-init : goal.loop-i-init
loop-i-init t c =
    let S = c.args.system.now in
    let w = c.args.word.now in
    let root = c.in-Node.root in
    let cs = c.in-Node.children in
    let αs = c.as_slice-parts.result.now in
    let e = c.term.ensures ∙ ap Some c.in-Node.is in
    let g = node_form S c.args.eq c.unwrap-top.result.term root cs c.requires.formed e in
    let n = found_top S c.args.eq w c.find_top.result c.unwrap-top.result αs root cs c.find_top.ensures c.unwrap-top.ensures c.as_slice-parts.ensures.value e in
    record { form = g; top = n; count = top_count n g.long; long = search rules; found = λ j h. absurd (omega arith) }

pub place-rank-requires : goal.place-rank-requires
place-rank-requires t c =
    let S = c.args.system.now in
    let w = c.args.word.now in
    let cs = c.in-Node.children in
    let αs = c.as_slice-parts.result.now in
    let h = c.loop-i.invariant in
    let i = c.loop-i.i in
    let less : i < length cs = omega arith in
    let x = child_is cs i c.equation.result c.equation.ensures in
    let b = block_read αs i c.index-parts-i.result (omega arith) c.index-parts-i.is ∙ sym c.word-part.ensures in
    let l = top_shorter h.top h.form.long i h.form.two less in
    let m = ap (λ (v : List ℕ). length v) b in (
      omega (arith, l, m, c.decreases),
      (
        c.requires.formed,
        (
          c.requires.stands,
          (
            subst (λ z. z < length S.equations) x (h.form.known i less),
            (
              omega (arith, l, m, c.requires.short),
              (
                named_less S (length w) (length c.word-part.result.now) (omega (arith, l, m)) c.requires.named,
                mean_here S cs αs i c.equation.result c.word-part.result.now x b (h.top.means i less),
              ),
            ),
          ),
        ),
      ),
    )

pub loop-i-preserved : goal.loop-i-preserved
loop-i-preserved t c =
    let S = c.args.system.now in
    let cs = c.in-Node.children in
    let αs = c.as_slice-parts.result.now in
    let h = c.loop-i.invariant in
    let i = c.loop-i.i in
    let x = child_is cs i c.equation.result c.equation.ensures in
    let b = block_read αs i c.index-parts-i.result (omega arith) c.index-parts-i.is ∙ sym c.word-part.ensures in
    let f : Found = record { size = c.len-in-loop-i.result; rank = c.place-rank.result } in
    let here = found_here S cs αs i c.equation.result c.word-part.result.now f x b c.len-in-loop-i.ensures.value c.place-rank.ensures in
    record {
      form = h.form;
      top = h.top;
      count = h.count;
      long = length-set c.loop-i.founds i f ∙ h.long;
      found = found_more S cs αs c.loop-i.founds i f (omega arith) h.found here;
    }

pub node_place-requires-clause-fits : goal.node_place-requires-clause-fits
node_place-requires-clause-fits t c =
    let h = c.loop-i.invariant in
    let l = c.len-in-Node.ensures.value in
    let p = top_picks h.top h.form.long c.loop-i.founds c.loop-i.i c.len-in-Node.result (omega arith) (omega arith) h.found l in
    (p.picks, p.fits, p.alike)

pub returns-after-loop-i : goal.returns-after-loop-i
returns-after-loop-i t c =
    let h = c.loop-i.invariant in
    let l = c.len-in-Node.ensures.value in
    let p = top_picks h.top h.form.long c.loop-i.founds c.loop-i.i c.len-in-Node.result (omega arith) (omega arith) h.found l in
    top_ranked h.top h.form.long c.args.eq c.len-in-Node.result p c.node_place.result l (c.node_place.ensures p.picks p.fits p.alike)
