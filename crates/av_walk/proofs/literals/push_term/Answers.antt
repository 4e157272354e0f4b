-- A term with the root joins the others.
use Rattle.std.proofs.Common.{◌∙◌, ◌++◌, ◌∷◌, [], map, length, sym, ap, subst}
use Rattle.av_perm.specs.WordOrder.{word_same}
use Rattle.av_sys.specs.Terms.{IsTermOf}
use Rattle.av_walk.specs.Leaves.{literals, names_at, names_of_root}
use Rattle.av_walk.specs.Numbers.{AreLiteralsOf, AreTermsOf}
use Rattle.av_walk.proofs.Numbering.{term_with}
use Rattle.av_walk.proofs.literals.push_term.Goals as goal

pub term_of-requires : goal.term_of-requires
term_of-requires c = (subst (IsTermOf (length c.args.system.now.equations)) c.in-Node.is c.requires).numbers

pub returns-in_ok-push-in-Node-clause-terms : goal.returns-in_ok-push-in-Node-clause-terms
returns-in_ok-push-in-Node-clause-terms c = λ before a.
    let equal = sym c.eq.ensures ∙ c.if-eq.true in
    let long = (subst (IsTermOf (length c.args.system.now.equations)) c.in-Node.is c.requires).count ∙ ap length (word_same c.in-Node.other c.args.root.now equal) in
    subst (λ t. AreTermsOf (length c.args.root.now) c.term_of.new.patterns c.push.new.self (before ++ map (literals 0) (names_of_root c.args.system.now c.args.root.now (t ∷ [])))) (sym c.in-Node.is)
    (term_with c.args.system.now c.args.root.now c.in-Node.other c.in-Node.children (length c.args.root.now) c.args.patterns.now c.term_of.new.patterns c.args.terms.now c.push.new.self c.in_ok-term_of-in-Node.field-0 before
    c.in_ok-term_of-in-Node.ensures.grows equal c.in_ok-push-in-Node.ensures.ok
    (subst (λ k. AreLiteralsOf k c.term_of.new.patterns c.in_ok-term_of-in-Node.field-0 (literals 0 (names_at c.args.system.now c.in-Node.children))) long c.in_ok-term_of-in-Node.ensures.term) a)
