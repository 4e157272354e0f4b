-- The number of the next child.
use Rattle.std.proofs.Common.{◌≡◌, ℕ, List, [], ◌∷◌, length, refl, sym, ap, ◌∙◌, subst, arith}
use Rattle.std.proofs.lemmas.List.{nil_from_length}
use Rattle.av_sys.specs.declared.names.Sign.{Sign}
use Rattle.av_sys.specs.declared.names.Constraint.{Constraint}
use Rattle.av_sys.specs.declared.names.Name.{Name}
use Rattle.av_build.specs.Drafts.{name_of, child_names}
use Rattle.av_build.proofs.RootedTerms.{later_names}
use Rattle.av_build.proofs.ChildNumbers.{AreNumbered, numbered_next, all_numbered}
use Rattle.av_build.proofs.Numbers.{one_more}
use Rattle.av_build.proofs.children.children_of.Goals as goal

pub loop-constraint-init : goal.loop-constraint-init
loop-constraint-init c =
    let items = c.into_iter-constraint-iterator.ensures.into_iter_gives.0 ∙ c.into_items-constraint-items.ensures in
    record {
      numbered = record { done = []; whole = ap (child_names c.args.first) items; found = refl; numbers = c.empty-children.ensures };
      few = let l = ap length items in omega arith;
    }

pub overflow_cast-branch : goal.overflow_cast-branch
overflow_cast-branch c =
    let more = one_more c.loop-constraint.names (name_of c.loop-constraint.sign c.in-Some.constraint) in
    let rest = ap length (c.in-Some.ensures.steps).0 in
    omega (arith, c.loop-constraint.invariant.few, more, rest, ap length c.in_ok-number.ensures.grows, c.in_ok-number.ensures.within, c.requires.few)

-- the name of the next child is the first that is left
first_left : (sign : Sign) (b : Constraint) (before after : List Constraint) (all old names : List Name) (children : List ℕ) → before ≡ b ∷ after → AreNumbered all (child_names sign before) old names children
    → AreNumbered all (name_of sign b ∷ child_names Sign.C after) old names children
first_left sign b before after all old names children e a =
    subst (λ ns. AreNumbered all (name_of sign b ∷ ns) old names children) (later_names after) (subst (λ bs. AreNumbered all (child_names sign bs) old names children) e a)

pub loop-constraint-preserved : goal.loop-constraint-preserved
loop-constraint-preserved c =
    let more = one_more c.loop-constraint.names (name_of c.loop-constraint.sign c.in-Some.constraint) in
    let rest = ap length (c.in-Some.ensures.steps).0 in
    record {
      numbered =
          numbered_next (child_names c.args.first c.args.constraints) _ c.args.names.now c.loop-constraint.names c.number.new.self (name_of c.loop-constraint.sign c.in-Some.constraint) c.loop-constraint.children c.push.new.self c.in_ok-number.field-0
          (first_left c.loop-constraint.sign c.in-Some.constraint c.loop-constraint.constraint-iterator.rest.items c.next.new.self.rest.items
          (child_names c.args.first c.args.constraints) c.args.names.now c.loop-constraint.names c.loop-constraint.children
          (c.in-Some.ensures.steps).0 c.loop-constraint.invariant.numbered)
          c.in_ok-number.ensures.grows c.in_ok-number.ensures.number c.in_ok-push.ensures.ok;
      few = omega (arith, c.loop-constraint.invariant.few, more, rest, ap length c.in_ok-number.ensures.grows);
    }

pub returns : goal.returns
returns c =
    let i = c.loop-constraint.constraint-iterator.rest in
    let rest = nil_from_length i.items (sym (i.ok).0 ∙ (c.in-None.ensures.steps).0) in
    let numbered =
    all_numbered (child_names c.args.first c.args.constraints) (child_names c.loop-constraint.sign c.loop-constraint.constraint-iterator.rest.items)
    c.args.names.now c.loop-constraint.names c.loop-constraint.children (ap (child_names c.loop-constraint.sign) rest) c.loop-constraint.invariant.numbered in
    record { found = numbered.0; numbers = numbered.1 }
