-- The names of a bare cell.
use Rattle.std.proofs.Common.{subst}
use Rattle.av_perm.specs.Members.{In}
use Rattle.av_build.specs.Drafts.{child_names}
use Rattle.av_check.specs.Ends.{IsGrowableEnd}
use Rattle.av_check.proofs.cells.end_flaw.Goals as goal

pub bare_flaw-requires-clause-names : goal.bare_flaw-requires-clause-names
bare_flaw-requires-clause-names c n i =
    (subst (IsGrowableEnd c.args.basis.now c.args.root.now) c.in-Bare.is c.requires.names) n (subst (λ s. In n (child_names s c.in-Bare.cell)) c.first_sign.ensures i)
