-- The next name.
use Rattle.std.proofs.Common.{refl, sym, ◌∙◌}
use Rattle.std.proofs.lemmas.List.{nil_from_length}
use Rattle.av_check.proofs.NameLoops.{going_first, going_growable, going_dead, going_large, going_alive, going_last}
use Rattle.av_check.proofs.outcomes.Outcomes.bare_flaw.Goals as goal

pub loop-constraint-init : goal.loop-constraint-init
loop-constraint-init c = record {
  going = going_first _ _ _ _ _ c.args.cell
      (c.into_iter-constraint-iterator.ensures.into_iter_gives.0 ∙ c.into_items-constraint-items.ensures) refl c.requires.names;
  known = c.requires.known;
}

pub find-requires-clause-name : goal.find-requires-clause-name
find-requires-clause-name c =
    going_growable _ _ _ _ _ c.in-Some.constraint _ c.next.new.self.rest.items (c.in-Some.ensures.steps).0 c.loop-constraint.invariant.going

pub returns-in-Dead-clause-flaw : goal.returns-in-Dead-clause-flaw
returns-in-Dead-clause-flaw c =
    going_dead _ _ _ _ _ c.in-Some.constraint _ c.next.new.self.rest.items
    (c.in-Some.ensures.steps).0 c.loop-constraint.invariant.going c.in_ok-find.field-0 c.in_ok-find.ensures.found c.in-Dead.is

pub loop-constraint-preserved-in-TooLarge : goal.loop-constraint-preserved-in-TooLarge
loop-constraint-preserved-in-TooLarge c = record {
  going = going_large _ _ _ _ _ c.in-Some.constraint _ c.next.new.self.rest.items
      (c.in-Some.ensures.steps).0 c.loop-constraint.invariant.going c.in_ok-find.field-0 c.in_ok-find.ensures.found c.in-TooLarge.is;
  known = c.in_ok-find.ensures.known;
}

pub loop-constraint-preserved : goal.loop-constraint-preserved
loop-constraint-preserved c = record {
  going = going_alive _ _ _ _ _ c.in-Some.constraint _ c.next.new.self.rest.items
      (c.in-Some.ensures.steps).0 c.loop-constraint.invariant.going c.in_ok-find.field-0 c.in_ok-find.ensures.found c.in-Alive.is;
  known = c.in_ok-find.ensures.known;
}

pub returns-clause-flaw : goal.returns-clause-flaw
returns-clause-flaw c =
    going_last _ _ _ _ _ _ (nil_from_length _ (sym (c.loop-constraint.constraint-iterator.rest.ok).0 ∙ (c.in-None.ensures.steps).0))
    c.loop-constraint.invariant.going
