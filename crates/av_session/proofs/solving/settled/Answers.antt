-- What was built with the simple words below the gap for roots makes a settled class, in every format.
use Rattle.std.proofs.Common.{sym, subst}
use Rattle.av_sys.specs.declared.terms.System.{System}
use Rattle.av_session.specs.Classes.{IsSettledClass}
use Rattle.av_session.proofs.Systems.{settled_in_format}
use Rattle.av_session.proofs.solving.settled.Goals as goal

pub new-requires : goal.new-requires
new-requires c =
    let made = settled_in_format c.args.subject c.args.gap c.args.format c.args.limit c.args.roots.now c.args.system c.requires.gap c.requires.roots c.requires.system in
    subst (λ (S : System). IsSettledClass (record { subject = c.args.subject; gap = c.args.gap; format = c.args.format; system = S })) (sym c.in_ok-system.ensures) made
