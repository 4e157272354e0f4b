-- What a partial overlay adds, and what it adds by a choice.
use Rattle.std.proofs.Common.{ℕ, suc, ◌+◌, ◌-◌, ◌*◌, ◌<◌, ◌≤◌, List, length, ap, sym, ◌∙◌, subst, arith, rules}
use Rattle.std.specs.List.{list_any}
use Rattle.av_perm.specs.Contain.{contains}
use Rattle.av_perm.specs.Members.{In}
use Rattle.av_perm.proofs.PermWords.{perm_word}
use Rattle.av_union.specs.declared.limits.TheConstants.{MAX_OVERLAY_LENGTH}
use Rattle.av_union.specs.Union.{ContainsSome, InBoth}
use Rattle.av_union.specs.Choices.{IsChoice, choices}
use Rattle.av_union.proofs.Unions.{some_from}
use Rattle.av_union.proofs.ListSteps.{on_ok, given_more, given_In, given_all}
use Rattle.av_union.proofs.ChoiceLists.{In_choices}
use Rattle.av_union.proofs.GrownWords.{begins_from}
use Rattle.av_union.proofs.Kept.{adds_join, gathers_nothing, gathers_word, gathers_choices, each_more, by_nothing, by_no_pattern, by_grown, still_holds, still_few}
use Rattle.av_union.proofs.gathering.+gather.Goals as goal

pub gather-returns-then-grows_nothing : goal.gather-returns-then-grows_nothing
gather-returns-then-grows_nothing t c =
    let x = c.args.partial.now in
    gathers_nothing c.args.early.now c.args.first.now c.args.second.now x.word x.places.items c.args.kept.now.keys (c.grows_nothing.ensures c.if-grows_nothing.true c.args.second.now)

pub gather-keep-requires : goal.gather-keep-requires
gather-keep-requires t c =
    let w = c.args.partial.now.word in
    let passes = ap (list_any (λ v. contains w v)) (sym c.as_slice.ensures) ∙ sym c.contains_some.ensures ∙ c.if-contains_some.true in
    record { word = perm_word w c.len-len.ensures.word; has_first = c.requires.holds; has_second = some_from w c.args.second.now passes }

pub gather-returns-then-contains_some : goal.gather-returns-then-contains_some
gather-returns-then-contains_some t c =
    let x = c.args.partial.now in
    let w = x.word in
    let passes = ap (list_any (λ v. contains w v)) (sym c.as_slice.ensures) ∙ sym c.contains_some.ensures ∙ c.if-contains_some.true in
    let both : InBoth c.args.first.now c.args.second.now w = record {
      word = perm_word w c.len-len.ensures.word;
      has_first = c.requires.holds;
      has_second = some_from w c.args.second.now passes;
    } in
    on_ok _ _ c.keep.result (gathers_word c.args.early.now c.args.first.now c.args.second.now w x.places.items c.args.kept.now.keys c.keep.new.kept.keys both) c.keep.ensures

pub gather-gather_by-requires : goal.gather-gather_by-requires
gather-gather_by-requires t c =
    let n = length c.args.partial.now.word in
    let there = given_In c.loop-choice.yielded c.loop-choice.choice-iterator c.next.new.self (choices n) c.in-Some.choice c.loop-choice.invariant.left c.in-Some.ensures.steps in
    let choice : IsChoice n c.in-Some.choice = In_choices n c.in-Some.choice there in
    search (rules, choice)

pub gather-loop-choice-preserved : goal.gather-loop-choice-preserved
gather-loop-choice-preserved t c =
    let x = c.args.partial.now in
    let adds = c.in_ok-gather_by.ensures in
    record {
      adds = adds_join c.args.first.now c.args.second.now c.args.kept.now.keys c.loop-choice.kept.keys c.gather_by.new.kept.keys c.loop-choice.invariant.adds adds.adds;
      left = given_more c.loop-choice.yielded c.loop-choice.choice-iterator c.next.new.self (choices (length x.word)) c.in-Some.choice c.loop-choice.invariant.left c.in-Some.ensures.steps;
      whole = each_more c.args.early.now c.args.first.now c.args.second.now x.word x.places.items c.loop-choice.yielded c.in-Some.choice c.loop-choice.kept.keys c.gather_by.new.kept.keys
          c.loop-choice.invariant.whole adds;
    }

pub gather-returns : goal.gather-returns
gather-returns t c =
    let x = c.args.partial.now in
    let w = x.word in
    let fails = ap (list_any (λ v. contains w v)) (sym c.as_slice.ensures) ∙ sym c.contains_some.ensures ∙ c.if-contains_some.false in
    let all = given_all c.loop-choice.yielded c.loop-choice.choice-iterator (choices (length w)) c.loop-choice.invariant.left c.in-None.ensures.steps.0 in
    gathers_choices c.args.early.now c.args.first.now c.args.second.now w x.places.items c.loop-choice.yielded c.args.kept.now.keys c.loop-choice.kept.keys
    (perm_word w c.len-len.ensures.word) x.placed fails c.loop-choice.invariant.adds all c.loop-choice.invariant.whole

pub gather_by-returns-in_default : goal.gather_by-returns-in_default
gather_by-returns-in_default t c =
    let x = c.args.partial.now in
    by_nothing c.args.early.now c.args.first.now c.args.second.now x.word x.places.items c.args.choice c.args.kept.now.keys c.in_default.ensures

pub gather_by-returns-then-not-begins_some : goal.gather_by-returns-then-not-begins_some
gather_by-returns-then-not-begins_some t c =
    let x = c.args.partial.now in
    let y = c.in-Some.grown in
    let takes = c.in-Some.ensures.1 in
    by_no_pattern c.args.early.now c.args.first.now c.args.second.now x.word x.places.items y.word y.places.items c.args.choice c.args.kept.now.keys y.placed takes.word takes.places
    (λ g i. c.begins_some.ensures.none c.if-not-begins_some.true g (subst (λ (l : List (List ℕ)). In g l) (sym c.as_slice.ensures) i))

pub gather_by-gather-requires : goal.gather_by-gather-requires
gather_by-gather-requires t c =
    let x = c.args.partial.now in
    let y = c.in-Some.grown in
    let takes = c.in-Some.ensures.1 in
    let begun = c.begins_some.ensures.some c.if-not-begins_some.false in
    let longer = still_few MAX_OVERLAY_LENGTH x.word x.places.items y.word y.places.items c.args.choice c.requires.choice takes.word takes.places c.requires.few in
    let holds : ContainsSome y.word c.args.first.now = still_holds c.args.first.now x.word y.word c.args.choice c.requires.choice takes.word c.requires.holds in
    let few : length y.word ≤ MAX_OVERLAY_LENGTH + length y.places.items = longer.0 in
    let pattern = subst (λ (l : List (List ℕ)). In begun.0 l) c.as_slice.ensures begun.1 in
    let room : length y.places.items < MAX_OVERLAY_LENGTH = omega (arith, (begins_from y.word y.places.items begun.0 begun.2).0, c.requires.second begun.0 pattern) in
    let less : suc (2 * (MAX_OVERLAY_LENGTH - length y.places.items)) < 2 * (MAX_OVERLAY_LENGTH - length x.places.items) = omega (arith, longer.1, c.requires.room) in
    search (rules, holds, few, room, less)

pub gather_by-returns : goal.gather_by-returns
gather_by-returns t c =
    let x = c.args.partial.now in
    let y = c.in-Some.grown in
    let takes = c.in-Some.ensures.1 in
    on_ok _ _ c.gather.result
    (by_grown c.args.early.now c.args.first.now c.args.second.now x.word x.places.items y.word y.places.items c.args.choice c.args.kept.now.keys c.gather.new.kept.keys takes.word takes.places)
    c.gather.ensures
