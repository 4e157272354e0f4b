-- A step can be taken from the path, and a turn of the loop keeps what is left.
use Rattle.std.proofs.Common.{◌≡◌, ◌∙◌, ◌++◌, [], List, true, false, Option, Some, None, refl, sym, ap}
use Rattle.std.specs.Option.{is_some}
use Rattle.av_split.specs.Boxes.{Box, demands}
use Rattle.av_split.specs.Walk.{left_of, Takes}
use Rattle.av_split.proofs.Cutting.{given, walk_cells, walk_step, walk_turn}
use Rattle.av_split.proofs.splitting.find.Goals as goal

-- by whether a box was given
takes_given : (found : Option Box) (x y : List Box) → is_some found ≡ true → x ≡ given found ++ y → Takes found x y
takes_given None x y s e = absurd (cc)
takes_given (Some b) x y s e = e

none_given : (found : Option Box) → is_some found ≡ false → given found ≡ []
none_given None s = refl
none_given (Some b) s = absurd (cc)

pub next_step-from-requires-clause-cells : goal.next_step-from-requires-clause-cells
next_step-from-requires-clause-cells c = walk_cells _ _ _ _ _ _ _ c.loop-rest.invariant.walk c.in-Some.is

pub advance-requires : goal.advance-requires
advance-requires c = walk_step _ _ _ _ _ _ _ c.loop-rest.invariant.walk c.in-Some.is c.next_step-from.result.1 c.next_step-from.ensures.step

pub returns-then-is_some-clause-walk : goal.returns-then-is_some-clause-walk
returns-then-is_some-clause-walk c =
    (walk_turn _ _ _ _ _ _ _ c.loop-rest.invariant.walk c.in-Some.is c.next_step-from.result.0 c.next_step-from.result.1 c.in_ok-found.next c.in_ok-found.found
    c.next_step-from.ensures.within c.next_step-from.ensures.done c.next_step-from.ensures.step c.in_ok-found.ensures).walk

pub returns-then-is_some-clause-takes : goal.returns-then-is_some-clause-takes
returns-then-is_some-clause-takes c =
    takes_given c.in_ok-found.found _ _ (sym c.is_some.ensures ∙ c.if-is_some.true)
    (c.loop-rest.invariant.left
    ∙ (walk_turn _ _ _ _ _ _ _ c.loop-rest.invariant.walk c.in-Some.is c.next_step-from.result.0 c.next_step-from.result.1 c.in_ok-found.next c.in_ok-found.found c.next_step-from.ensures.within c.next_step-from.ensures.done c.next_step-from.ensures.step
    c.in_ok-found.ensures).left)

pub loop-rest-smaller : goal.loop-rest-smaller
loop-rest-smaller c =
    (walk_turn _ _ _ _ _ _ _ c.loop-rest.invariant.walk c.in-Some.is c.next_step-from.result.0 c.next_step-from.result.1 c.in_ok-found.next c.in_ok-found.found
    c.next_step-from.ensures.within c.next_step-from.ensures.done c.next_step-from.ensures.step c.in_ok-found.ensures).less

pub loop-rest-preserved : goal.loop-rest-preserved
loop-rest-preserved c =
    let t =
    walk_turn _ _ _ _ _ _ _ c.loop-rest.invariant.walk c.in-Some.is c.next_step-from.result.0 c.next_step-from.result.1 c.in_ok-found.next c.in_ok-found.found
    c.next_step-from.ensures.within c.next_step-from.ensures.done c.next_step-from.ensures.step c.in_ok-found.ensures
    in
    record {
      walk = t.walk;
      left =
          c.loop-rest.invariant.left ∙ t.left
          ∙ ap (λ (l : List Box). l ++ left_of (demands c.args.root.now c.args.name.now.avoid c.args.name.now.require) c.args.table.now c.in_ok-found.next) (none_given c.in_ok-found.found (sym c.is_some.ensures ∙ c.if-is_some.false));
    }
