-- Each line turns what was heard into that and what it says, and the script is that of the lines that are left.
use Rattle.std.proofs.Common.{◌+◌, ap, arith, length, subst, Result, Ok, Err, IfOk}
use Rattle.std.proofs.lemmas.Result.{err_from_is_err_and}
use Rattle.av_text.specs.declared.script.Script.{Script}
use Rattle.av_text.specs.declared.script.ScriptError.{ScriptError}
use Rattle.av_text.specs.Read.{read}
use Rattle.av_text.specs.Ranges.{KeepsLimits}
use Rattle.av_text.specs.Results.{GivesScript}
use Rattle.av_text.proofs.Reading.{read_long, read_short, turn, exit_line, exit_end}
use Rattle.av_text.proofs.Cuts.{lines_few}
use Rattle.av_text.proofs.Kept.{read_kept}
use Rattle.av_text.proofs.script.read_script.Goals as goal

pub returns-then-bytes-gt-MAX_SCRIPT_BYTES-clause-script : goal.returns-then-bytes-gt-MAX_SCRIPT_BYTES-clause-script
returns-then-bytes-gt-MAX_SCRIPT_BYTES-clause-script c = read_long c.args.bytes.now c.if-bytes-gt-MAX_SCRIPT_BYTES.true

pub loop-line-init : goal.loop-line-init
loop-line-init c =
    let few = lines_few c.args.bytes.now in
    let same = c.new-lines.ensures in
    record {
      read = rw (same, c.nothing-heard.ensures) (read_short c.args.bytes.now c.if-bytes-gt-MAX_SCRIPT_BYTES.false);
      few = rw same (omega (arith, few));
    }

pub loop-line-preserved : goal.loop-line-preserved
loop-line-preserved c =
    let n = ap length c.in-Some.ensures in
    record {
      read = turn (c.loop-line.number + 1) c.loop-line.heard c.note.new.self _ _ _ _ _ _ c.in-Some.ensures c.seen.ensures c.in_ok-said.ensures.value c.in_ok-note.ensures c.loop-line.invariant.read;
      few = omega (arith, n);
    }

pub returns-in_err-said-clause-script : goal.returns-in_err-said-clause-script
returns-in_err-said-clause-script c =
    let p = err_from_is_err_and c.from_residual.result c.from_residual.ensures.1 in
    rw (p.1, p.2) (exit_line (c.loop-line.number + 1) c.loop-line.heard _ _ _ _ c.in_err-said.field-0.0 _ c.in-Some.ensures c.seen.ensures c.in_err-said.ensures.value c.loop-line.invariant.read)

pub returns-clause-script : goal.returns-clause-script
returns-clause-script c =
    subst (GivesScript c.script.result) (exit_end (c.loop-line.number + 1) c.loop-line.heard _ _ c.in_default.ensures c.loop-line.invariant.read) c.script.ensures

pub returns-clause-limits : goal.returns-clause-limits
returns-clause-limits c =
    by c.script.result (subst (GivesScript c.script.result) (exit_end (c.loop-line.number + 1) c.loop-line.heard _ _ c.in_default.ensures c.loop-line.invariant.read) c.script.ensures)
  where
    by : (r : Result Script ScriptError) → GivesScript r (read c.args.bytes.now) → IfOk r KeepsLimits
    by (Ok script) e = read_kept c.args.bytes.now script e
    by (Err e) g = tt
