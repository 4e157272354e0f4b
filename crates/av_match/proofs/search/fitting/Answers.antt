-- The window holds entries that lie to each of those chosen as the pattern's next entry does, and each with which an occurrence
-- goes on.
use Rattle.std.proofs.Common.{◌-◌, ◌≤◌, length, arith, below_more}
use Rattle.av_perm.specs.Word.{entry}
use Rattle.av_perm.specs.Relations.{at}
use Rattle.av_perm.proofs.Occurrences.{entry_at}
use Rattle.av_perm.proofs.PermWords.{perm_word}
use Rattle.av_match.proofs.Begun.{LiesAt, goes_on}
use Rattle.av_match.proofs.Spreads.{next_room, room_after, room_before}
use Rattle.av_match.proofs.search.fitting.Goals as goal
use Rattle.av_match.proofs.search.fitting.Goals.{then-own-next, else-own-next}

pub overflow_sub-x : goal.overflow_sub-x
overflow_sub-x c = (c.requires.begun.placed c.loop-i.i c.loop-i-test.true).0

pub loop-i-init : goal.loop-i-init
loop-i-init c = record {
  begun = λ x one low high k h. absurd (omega arith);
  whole = λ place rest h. next_room c.args.word.now c.args.pattern.now c.args.chosen.now rest place (perm_word c.args.word.now c.requires.word).numbers (perm_word c.args.pattern.now c.requires.pattern).numbers c.requires.fits c.requires.room h;
}

pub loop-i-preserved : goal.loop-i-preserved
loop-i-preserved c =
    let v = c.args.word.now in
    let p = c.args.pattern.now in
    let cs = c.args.chosen.now in
    let i = c.loop-i.i in
    let next = at p (length cs) in
    let g = (perm_word p c.requires.pattern).numbers in
    let one = (c.requires.begun.placed i c.loop-i-test.true).0 in
    let apart = g.apart i (length cs) c.loop-i-test.true c.requires.room in
    elim c.if-own-next.branch [
      | then-own-next w ↦
          record {
            begun = λ x some low high. below_more (LiesAt v p cs x next) i
                (c.loop-i.invariant.begun x some (omega arith) (omega arith))
                (λ h. omega arith, λ h. absurd (omega arith));
            whole = λ place rest h.
                let old = c.loop-i.invariant.whole place rest h in
                let new = room_after v p cs rest place i g c.requires.room c.loop-i-test.true one h (omega arith) in
                (omega arith, omega arith);
          }
      | else-own-next w ↦
          record {
            begun = λ x some low high. below_more (LiesAt v p cs x next) i
                (c.loop-i.invariant.begun x some (omega arith) (omega arith))
                (λ h. absurd (omega arith), λ h. omega arith);
            whole = λ place rest h.
                let old = c.loop-i.invariant.whole place rest h in
                let new = room_before v p cs rest place i g c.requires.room c.loop-i-test.true one h (omega arith) in
                (omega arith, omega arith);
          }
    ]

pub returns : goal.returns
returns c =
    let v = c.args.word.now in
    let p = c.args.pattern.now in
    let cs = c.args.chosen.now in
    record {
      begun = λ place one last low high.
          let within = (perm_word v c.requires.word).numbers.within (place - 1) (omega arith) in
          let some : 1 ≤ entry v place = rw (entry_at v place one) within.0 in
          (goes_on v p cs place c.requires.pattern c.requires.begun c.requires.room one last).1
          (λ k h. c.loop-i.invariant.begun (entry v place) some low high k (omega arith));
      whole = c.loop-i.invariant.whole;
    }
