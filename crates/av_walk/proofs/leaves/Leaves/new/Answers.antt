-- The path leads to the box in which nothing is avoided or required.
use Rattle.std.proofs.Common.{◌∙◌, map, replicate, ap}
use Rattle.av_perm.proofs.PermWords.{perms_words}
use Rattle.av_split.specs.Marks.{free_mark}
use Rattle.av_walk.proofs.Starting.{starts}
use Rattle.av_walk.proofs.leaves.Leaves.new.Goals as goal

pub invariant_of-result : goal.invariant_of-result
invariant_of-result c = record {
  walk =
      (starts c.args.system.now c.args.root.now c.args.equation.now c.in_ok-plan.plan.table c.in_ok-plan.plan.demands c.in_ok-plan.plan.terms (record { rows = c.in_ok-free.field-0; turns = c.new.result })
      (perms_words c.args.equation.now.name.avoid c.len-avoid.ensures.words) (perms_words c.args.equation.now.name.require c.len-require.ensures.words) c.len-equations.ensures.names c.in_ok-plan.ensures.demands c.in_ok-plan.ensures.terms
      (c.in_ok-free.ensures ∙ ap (λ n. replicate n (map free_mark c.in_ok-plan.plan.table)) c.len.ensures.value) c.new.ensures.items).0;
  all = c.in_ok-plan.ensures.all;
}

pub returns : goal.returns
returns c =
    (starts c.args.system.now c.args.root.now c.args.equation.now c.in_ok-plan.plan.table c.in_ok-plan.plan.demands c.in_ok-plan.plan.terms (record { rows = c.in_ok-free.field-0; turns = c.new.result })
    (perms_words c.args.equation.now.name.avoid c.len-avoid.ensures.words) (perms_words c.args.equation.now.name.require c.len-require.ensures.words) c.len-equations.ensures.names c.in_ok-plan.ensures.demands c.in_ok-plan.ensures.terms
    (c.in_ok-free.ensures ∙ ap (λ n. replicate n (map free_mark c.in_ok-plan.plan.table)) c.len.ensures.value) c.new.ensures.items).1
