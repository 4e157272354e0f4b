-- Each box has a constraint for each entry of the root, and its term joins the others.
use Rattle.std.proofs.Common.{inl, inr, [], ◌∷◌, map, refl, sym, ap, subst, arith}
use Rattle.av_perm.specs.Members.{In}
use Rattle.av_perm.proofs.PermWords.{perms_words}
use Rattle.av_split.proofs.WordSplit.{box_fine}
use Rattle.av_build.specs.Adding.{box_draft}
use Rattle.av_build.proofs.Adding.{adding_first, adding_next, adding_stop, adding_end}
use Rattle.av_build.proofs.terms.push_root.Goals as goal

pub loop-found-init : goal.loop-found-init
loop-found-init c = record {
  adding = adding_first (ap (map (box_draft c.args.first c.args.root.now)) c.in_ok-boxes.ensures) c.requires.room;
  sized = λ b i.
      let fine =
      box_fine c.args.root.now c.args.name.now.avoid c.args.name.now.require b (perms_words c.args.name.now.avoid c.len-avoid.ensures.words) (perms_words c.args.name.now.require c.len-require.ensures.words)
      (subst (In b) c.in_ok-boxes.ensures i) in
      omega (arith, fine.count, c.requires.small);
}

pub push_term-requires : goal.push_term-requires
push_term-requires c =
    let first = rw c.in_ok-found.was at c.in-Some.ensures in
    let few = c.loop-found.invariant.sized c.in_ok-found.field-0 (subst (In c.in_ok-found.field-0) (sym first) (inl refl)) in
    record { few = omega (arith, few, c.requires.few, c.loop-found.invariant.adding.room) }

pub returns-then-not-branch-clause-adds : goal.returns-then-not-branch-clause-adds
returns-then-not-branch-clause-adds c =
    let f = box_draft c.args.first c.args.root.now in
    let first = rw c.in_ok-found.was at c.in-Some.ensures in
    adding_stop (f c.in_ok-found.field-0 ∷ []) (map f c.next.new.self) (rw first at c.loop-found.invariant.adding)
    c.in_ok-push_term.ensures.adds c.if-not-branch.true

pub loop-found-preserved : goal.loop-found-preserved
loop-found-preserved c =
    let f = box_draft c.args.first c.args.root.now in
    let first = rw c.in_ok-found.was at c.in-Some.ensures in
    record {
      adding =
          adding_next (f c.in_ok-found.field-0 ∷ []) (rw first at c.loop-found.invariant.adding)
          c.in_ok-push_term.ensures.adds c.if-not-branch.false (c.in_ok-push_term.ensures.within c.if-not-branch.false);
      sized = λ b i. c.loop-found.invariant.sized b (subst (In b) (sym first) (inr i));
    }

pub returns-clause-adds : goal.returns-clause-adds
returns-clause-adds c = adding_end (ap (map (box_draft c.args.first c.args.root.now)) (c.in_default.ensures).0) c.loop-found.invariant.adding
