-- Each of the roots is one of a system.
use Rattle.std.proofs.Common.{sym, subst}
use Rattle.av_perm.specs.Members.{In}
use Rattle.av_perm.proofs.Membership.{In_at}
use Rattle.av_check.proofs.cells.first_fault.Goals as goal

pub root_fault-requires-clause-root : goal.root_fault-requires-clause-root
root_fault-requires-clause-root c =
    let items : In c.root-item.result c.as_slice-root-items.result.now = subst (λ w. In w c.as_slice-root-items.result.now) (sym c.root-item.is) (In_at c.as_slice-root-items.result.now c.loop-root.root-index _ c.loop-root-test.true) in
    c.requires.roots c.root-item.result (subst (In c.root-item.result) c.as_slice-root-items.ensures items)
