-- A node of a well-formed system has two children or more, as many as its root has entries, and each is an equation.
use Rattle.std.proofs.Common.{ℕ, ◌<◌, length, get_or, ap, ◌∙◌, sym, subst, arith, Some}
use Rattle.av_sys.specs.declared.terms.System.{System}
use Rattle.av_count.proofs.NodeForms.{node_form}
use Rattle.av_dist.specs.Tables.{HasFewTrees}
use Rattle.av_dist.proofs.terms.add_term.Goals as goal

pub invariant_of-node : goal.invariant_of-node
invariant_of-node c =
    let cs = c.in-Node.children in
    let f = node_form c.args.system.now c.args.eq c.args.t c.in-Node.root cs c.requires.formed (c.term.ensures ∙ ap (λ z. Some z) c.in-Node.is) in
    record {
      two = f.two;
      few = f.few;
      long = f.long;
      known = subst (λ (S : System). (k : ℕ) → k < length cs → get_or cs k 0 < length S.equations) (sym c.requires.stands) f.known;
      most = omega (arith, c.requires.size, c.requires.most);
      bounded = subst (λ (S : System). HasFewTrees S c.args.levels.now.largest) (sym c.requires.stands) c.requires.bounded;
    }
