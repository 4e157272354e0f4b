-- The lines of a system end where its last equation does.
use Rattle.std.proofs.Common.{inr, refl, sym, true≢false}
use Rattle.av_check.proofs.SystemLines.{system_taken, takes_system}
use Rattle.av_check.proofs.reading.claims.told_system.Goals as goal

pub returns-then-is_at_end : goal.returns-then-is_at_end
returns-then-is_at_end c =
    let e = c.in_ok-equations.ensures in
    let f = c.if-is_at_end.ensures.0 refl in
    takes_system _ c.in_ok-counts.counts.terms c.args.lines.now c.told_equations.new.lines
    (system_taken c.in_ok-counts.counts.equations c.in_ok-counts.counts.terms c.in_ok-equations.equations c.args.lines.now c.told_counts.new.lines c.told_equations.new.lines c.in_ok-counts.ensures e.0 e.1)
    f.0 f.1

pub returns-else-is_at_end : goal.returns-else-is_at_end
returns-else-is_at_end c =
    let e = c.in_ok-equations.ensures in
    let t = system_taken c.in_ok-counts.counts.equations c.in_ok-counts.counts.terms c.in_ok-equations.equations c.args.lines.now c.told_counts.new.lines c.told_equations.new.lines c.in_ok-counts.ensures e.0 e.1 in
    inr (inr (record {
      system = record { equations = c.in_ok-equations.equations };
      terms = c.in_ok-counts.counts.terms;
      taken = t.taken;
      cut = t.cut;
      lines = t.lines;
      none = λ e f. true≢false (sym (c.if-is_at_end.ensures.1 (e, f)));
    }))
