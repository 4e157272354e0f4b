-- A turn of the loop over the lengths.
use Rattle.std.proofs.Common.{◌≡◌, arith, ap, ◌∙◌, length}
use Rattle.av_perm.specs.Gap.{simples}
use Rattle.av_simple.specs.Searched.{last_of}
use Rattle.av_session.specs.Due.{level_text}
use Rattle.av_session.proofs.Levels.{text_turn, text_fault}
use Rattle.av_session.proofs.header.LevelsText.put_on.Goals as goal

pub returns-in_err-put_on-clause-part : goal.returns-in_err-put_on-clause-part
returns-in_err-put_on-clause-part g c =
    let count : c.len-count.result ≡ length (simples c.args.self.now.found.now.basis c.loop-m.m) = c.len-count.ensures.value ∙ ap length c.level.ensures in
    text_fault (level_text c.args.self.now.found.now.basis) c.loop-m.m (last_of c.args.self.now.found.now) _ _ _ _ (omega (arith, c.last-m-end.ensures.value)) c.loop-m.invariant.written
    (rw count at c.put_on.ensures.part)

pub loop-m-preserved : goal.loop-m-preserved
loop-m-preserved g c =
    let count : c.len-count.result ≡ length (simples c.args.self.now.found.now.basis c.loop-m.m) = c.len-count.ensures.value ∙ ap length c.level.ensures in
    record {
      written = text_turn (level_text c.args.self.now.found.now.basis) c.loop-m.m (last_of c.args.self.now.found.now) _ _ _ _ (omega (arith, c.last-m-end.ensures.value)) c.loop-m.invariant.written
          (rw count at c.in_ok-put_on.ensures.whole);
      faults = omega arith;
      wants = omega arith;
    }
