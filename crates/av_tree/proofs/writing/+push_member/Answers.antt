-- The blocks are words at places of smaller sizes, and all together the inflation.
use Rattle.std.proofs.Common.{◌≡◌, ◌<◌, ◌+◌, ◌++◌, [], ◌∷◌, length, map, get_or, sym, ◌∙◌, ap, subst, arith, refl, Some, append-nil}
use Rattle.av_perm.specs.Inflate.{inflate}
use Rattle.av_decomp.proofs.FormedTrees.{lifted_more}
use Rattle.av_sys.specs.declared.terms.System.{System}
use Rattle.av_sys.specs.Terms.{term_at}
use Rattle.av_tree.specs.declared.choosing.Pick.{Pick}
use Rattle.av_sys.specs.TreeLists.{count_at, members_at}
use Rattle.av_tree.specs.Picks.{picked}
use Rattle.av_count.proofs.Filled.{child_is}
use Rattle.av_count.proofs.NodeForms.{node_form}
use Rattle.av_tree.proofs.Entries.{room_left, all_stand, chosen_here, within_here, one_known, point_entry, node_member, term_entry, fitting_at, fitting_less, lower_upto, lower_fits, lower_below, length_picked, picked_at}
use Rattle.av_tree.proofs.TreeWords.{member_word}
use Rattle.av_tree.proofs.writing.+push_member.Goals as goal

abbrev none : Pick
none = record { size = 0; rank = 0 }

pub choose-in_front-requires-clause-known : goal.choose-in_front-requires-clause-known
choose-in_front-requires-clause-known t c k lt =
    let e = c.term.ensures ∙ ap Some c.in-Node.is in
    subst (λ (S : System). get_or c.in-Node.children k 0 < length S.equations) (sym c.requires.stands)
    ((node_form c.args.system.now c.args.eq c.choose_term-cut.result.at c.in-Node.root c.in-Node.children c.requires.formed e).known k lt)

pub choose-in_front-requires-clause-few : goal.choose-in_front-requires-clause-few
choose-in_front-requires-clause-few t c =
    (node_form c.args.system.now c.args.eq c.choose_term-cut.result.at c.in-Node.root c.in-Node.children c.requires.formed (c.term.ensures ∙ ap Some c.in-Node.is)).few

pub choose-in_front-requires-clause-within : goal.choose-in_front-requires-clause-within
choose-in_front-requires-clause-within t c =
    (1, one_known, within_here c.args.system.now c.args.table.now.system c.args.eq c.choose_term-cut.result.at c.args.size c.choose_term-cut.result.left c.in-Node.root c.in-Node.children c.requires.stands (c.term.ensures ∙ ap Some c.in-Node.is) c.choose_term-cut.ensures.left)

pub loop-i-init : goal.loop-i-init
loop-i-init t c =
    let S = c.args.system.now in
    let cs = c.in-Node.children in
    let root = c.in-Node.root in
    let ps = c.choose-in_front.new.picks in
    let n = c.args.size in
    let e = c.term.ensures ∙ ap Some c.in-Node.is in
    let ch = chosen_here S c.args.table.now.system c.args.eq c.choose_term-cut.result.at n c.choose_term-cut.result.left c.choose-in_front.result root cs ps c.requires.stands e c.choose_term-cut.ensures.left c.choose-in_front.ensures in
    record {
      form = node_form S c.args.eq c.choose_term-cut.result.at root cs c.requires.formed e;
      fits = ch.fits;
      entry = term_entry S c.requires.formed c.args.eq n c.choose_term-cut.result.at c.choose_term-cut.result.left c.args.r c.choose_term-cut.ensures.term c.choose_term-cut.ensures.left c.choose_term-cut.ensures.place
          ∙ node_member S n c.choose_term-cut.result.left c.choose-in_front.result c.args.eq c.choose_term-cut.result.at root cs ps e c.choose_term-cut.ensures.left ch;
      written = sym (append-nil c.args.out.now.items);
    }

pub raise_of-requires-clause-most : goal.raise_of-requires-clause-most
raise_of-requires-clause-most t c =
    let h = c.loop-i.invariant in
    let l = lower_upto c.args.system.now (get_or c.in-Node.root c.loop-i.i 0) c.in-Node.root c.in-Node.children c.args.size c.choose-in_front.new.picks h.form.long h.fits in
    omega (arith, l, c.requires.raise)

pub overflow_add-up : goal.overflow_add-up
overflow_add-up t c =
    let h = c.loop-i.invariant in
    let l = lower_upto c.args.system.now (get_or c.in-Node.root c.loop-i.i 0) c.in-Node.root c.in-Node.children c.args.size c.choose-in_front.new.picks h.form.long h.fits in
    omega (arith, l, c.requires.raise, c.raise_of.ensures)

pub push_member-requires : goal.push_member-requires
push_member-requires t c =
    let S = c.args.system.now in
    let cs = c.in-Node.children in
    let root = c.in-Node.root in
    let ps = c.choose-in_front.new.picks in
    let i = c.loop-i.i in
    let n = c.args.size in
    let h = c.loop-i.invariant in
    let less : i < length cs = omega (arith, c.loop-i-test.true, c.len-i-end.ensures) in
    let x = child_is cs i c.equation-child.result c.equation-child.ensures in
    let f = fitting_at S cs n i ps none less h.fits in
    let rank = subst (λ z. (get_or c.choose-in_front.new.picks c.loop-i.i none).rank < count_at c.args.system.now z (get_or c.choose-in_front.new.picks c.loop-i.i none).size) x f.rank in
    let small = fitting_less S cs n i ps none less h.form.two h.fits in
    let fits = lower_fits S (get_or root i 0) root cs n i ps none h.form.long less refl h.fits in
    let blocks = picked (members_at S) cs ps in
    let lp = length_picked S cs n ps h.fits in
    let whole : length (inflate root blocks) ≡ n = ap length (sym h.entry) ∙ (member_word S c.requires.formed c.args.eq n c.args.r c.requires.within).long in
    let own : length (get_or blocks i []) ≡ (get_or ps i none).size = ap length (picked_at (members_at S) (count_at S) cs n i ps none less h.fits) ∙ (member_word S c.requires.formed (get_or cs i 0) (get_or ps i none).size (get_or ps i none).rank f.rank).long in
    let room = room_left c.args.raise i n root blocks c.loop-i.out.items c.args.out.now.items (omega (arith, less, lp)) (omega (arith, h.form.long, lp)) whole h.written in (
      omega (arith, small, c.decreases),
      (
        c.requires.formed,
        (
          c.requires.stands,
          (
            subst (λ z. z < length c.args.system.now.equations) x (h.form.known i less),
            (
              f.least,
              (
                omega (arith, f.most, c.requires.most),
                (
                  rank,
                  (omega (arith, fits, c.raise_of.ensures, c.requires.raise), omega (arith, room, own, c.requires.room)),
                ),
              ),
            ),
          ),
        ),
      ),
    )

pub loop-i-preserved : goal.loop-i-preserved
loop-i-preserved t c =
    let S = c.args.system.now in
    let cs = c.in-Node.children in
    let root = c.in-Node.root in
    let ps = c.choose-in_front.new.picks in
    let i = c.loop-i.i in
    let n = c.args.size in
    let h = c.loop-i.invariant in
    let less : i < length cs = omega (arith, c.loop-i-test.true, c.len-i-end.ensures) in
    let x = child_is cs i c.equation-child.result c.equation-child.ensures in
    record {
      form = h.form;
      fits = h.fits;
      entry = h.entry;
      written = lifted_more c.args.raise c.raise_of.result root (picked (members_at S) cs ps) i c.args.out.now.items c.loop-i.out.items c.push_member.new.out.items
          (get_or (members_at S c.equation-child.result (get_or ps i none).size) (get_or ps i none).rank [])
          h.written c.push_member.ensures
          (c.raise_of.ensures ∙ sym (lower_below S c.requires.formed (get_or root i 0) root cs n ps h.form.long h.fits))
          (sym (picked_at (members_at S) (count_at S) cs n i ps none less h.fits ∙ ap (λ z. get_or (members_at S z (get_or ps i none).size) (get_or ps i none).rank []) x));
    }

pub returns-in-Point : goal.returns-in-Point
returns-in-Point t c =
    let S = c.args.system.now in
    let e = c.term.ensures ∙ ap Some c.in-Point.is in
    let cut = c.choose_term-cut in
    let w : get_or (members_at S c.args.eq c.args.size) c.args.r [] ≡ 1 ∷ [] =
    term_entry S c.requires.formed c.args.eq c.args.size c.choose_term-cut.result.at c.choose_term-cut.result.left c.args.r c.choose_term-cut.ensures.term c.choose_term-cut.ensures.left c.choose_term-cut.ensures.place
    ∙ point_entry S c.args.size c.choose_term-cut.result.left (term_at S c.args.eq c.choose_term-cut.result.at) e c.choose_term-cut.ensures.left in
    let a : 1 + c.args.raise ≡ c.args.raise + 1 = omega arith in
    c.push.ensures.items ∙ ap (λ z. c.args.out.now.items ++ z) (sym (ap (map (λ x. x + c.args.raise)) w ∙ ap (λ z. z ∷ []) a))

pub returns-after-loop-i : goal.returns-after-loop-i
returns-after-loop-i t c =
    let S = c.args.system.now in
    let h = c.loop-i.invariant in
    all_stand c.args.raise c.loop-i.i c.in-Node.root (picked (members_at S) c.in-Node.children c.choose-in_front.new.picks) c.loop-i.out.items c.args.out.now.items
    (omega (arith, h.form.long, c.loop-i-test.false, c.len-i-end.ensures, c.loop-i.auto.i-end)) h.written
    ∙ ap (λ z. c.args.out.now.items ++ map (λ x. x + c.args.raise) z) (sym h.entry)
