-- Each word of the first list is gone through; the words kept are then the union.
use Rattle.std.proofs.Common.{ℕ, List, [], length, get_or, take, sym, ap, subst, arith}
use Rattle.av_perm.specs.Relations.{Contains}
use Rattle.av_perm.proofs.Membership.{In_at}
use Rattle.av_perm.proofs.Containment.{contains_same}
use Rattle.av_perm.proofs.ListLaws.{get_In}
use Rattle.av_perm.proofs.PermWords.{perms_are_words}
use Rattle.av_union.proofs.Kept.{union_none, reaches_more, reaches_all}
use Rattle.av_union.proofs.uniting.gathered.Goals as goal

pub returns-then-len-eq0 : goal.returns-then-len-eq0
returns-then-len-eq0 c =
    union_none c.args.first.now c.args.second.now c.new-kept.result.keys (perms_are_words c.args.first.now c.len-words.ensures.words) c.new-kept.ensures.empty
    (omega (arith, c.len.ensures.value, c.if-len-eq0.true))

pub gather-requires-clause-holds : goal.gather-requires-clause-holds
gather-requires-clause-holds c =
    let f = c.get.result.now in
    (f, get_In c.args.first.now c.loop-i.i f c.get.ensures, subst (λ (v : List ℕ). Contains v f) (sym c.of.ensures.word) (contains_same f))

pub gather-requires-clause-few : goal.gather-requires-clause-few
gather-requires-clause-few c =
    let f = c.get.result.now in
    let i = get_In c.args.first.now c.loop-i.i f c.get.ensures in
    let g = get_or c.args.second.now 0 [] in
    let short = c.requires f g i (In_at c.args.second.now 0 [] (omega (arith, c.len.ensures.value, c.if-len-eq0.false))) in
    omega (arith, ap length c.of.ensures.word)

pub loop-i-preserved : goal.loop-i-preserved
loop-i-preserved c =
    reaches_more _ c.args.first.now c.args.second.now c.get.result.now c.of.result.word c.of.result.places.items c.loop-i.i c.loop-i.kept.keys c.gather.new.kept.keys
    (perms_are_words c.args.first.now c.len-i-end.ensures.words) c.get.ensures c.of.ensures.word c.of.ensures.places (ap (take c.loop-i.i) c.as_slice.ensures)
    c.loop-i.invariant c.in_ok-gather.ensures

pub returns : goal.returns
returns c =
    reaches_all c.args.first.now c.args.second.now c.loop-i.kept.keys c.loop-i.i (perms_are_words c.args.first.now c.len-i-end.ensures.words)
    (omega (arith, c.loop-i-test.false, c.len-i-end.ensures.value)) c.loop-i.invariant
