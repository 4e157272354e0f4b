-- The next leaf.
use Rattle.std.proofs.Common.{Some, inl, refl, sym, ◌∙◌, subst, ap}
use Rattle.av_perm.specs.Members.{In}
use Rattle.av_check.specs.declared.fault.Fault.TheVariants.{Cell}
use Rattle.av_check.specs.Checks.{IsShortName}
use Rattle.av_check.proofs.LeafLoops.{end_same, left_start, left_passed, left_flaw, short_name, growable_end}
use Rattle.av_check.proofs.cells.root_fault.Goals as goal

-- the words of the equation's name are short
short : (c : goal.After-len-equations) → IsShortName c.args.tested.now.equation.now.name
short c =
    short_name c.args.tested.now.system.now c.args.tested.now.equation.now c.requires.tested.taken c.len-equations.ensures.names
    c.requires.tested.listed c.args.tested.now.equation.now c.requires.tested.listed

pub new-requires-clause-avoid : goal.new-requires-clause-avoid
new-requires-clause-avoid c = (short c).avoid

pub new-requires-clause-require : goal.new-requires-clause-require
new-requires-clause-require c = (short c).require

pub new-requires-clause-terms : goal.new-requires-clause-terms
new-requires-clause-terms c t i = c.requires.tested.taken.form.terms c.args.tested.now.equation.now t c.requires.tested.listed i

pub end_flaw-requires-clause-names : goal.end_flaw-requires-clause-names
end_flaw-requires-clause-names c =
    let l = rw c.in_ok-end.was at c.in-Some.ensures in
    growable_end c.args.tested.now.system.now c.args.tested.now.equation.now c.requires.tested.taken c.len-equations.ensures.names
    c.requires.tested.listed c.args.tested.now.first.now.avoid c.args.root.now c.in_ok-end.field-0 l.0 c.requires.tested.covers c.requires.root
    (c.loop-end.invariant.left.among l.0 (subst (In l.0) (sym l.2) (inl refl))) l.1

pub loop-end-init : goal.loop-end-init
loop-end-init c = record { left = left_start _ _ _ _ _ c.in_ok-leaves.ensures refl; known = c.requires.known }

pub returns-in-Some-flaw-clause-fault : goal.returns-in-Some-flaw-clause-fault
returns-in-Some-flaw-clause-fault c =
    let l = rw c.in_ok-end.was at c.in-Some.ensures in
    ap (λ r. Some (Cell r c.loop-end.cell c.in-Some-flaw.flaw)) c.copy-root.ensures
    ∙ left_flaw _ _ _ _ _ l.0 _ c.in-Some-flaw.flaw l.2
    (sym (end_same c.args.tested.now.simples.now c.args.root.now c.in_ok-end.field-0 l.0 l.1) ∙ sym c.in_ok-flaw.ensures.flaw ∙ c.in-Some-flaw.is)
    c.loop-end.invariant.left

pub loop-end-preserved : goal.loop-end-preserved
loop-end-preserved c =
    let l = rw c.in_ok-end.was at c.in-Some.ensures in
    record {
      left = left_passed _ _ _ _ _ l.0 _ _ l.2
          (sym (end_same c.args.tested.now.simples.now c.args.root.now c.in_ok-end.field-0 l.0 l.1) ∙ sym c.in_ok-flaw.ensures.flaw
          ∙ c.in_default-flaw.is) c.saturating_add-cell.ensures c.loop-end.invariant.left;
      known = c.in_ok-flaw.ensures.known;
    }
