-- A turn of the walk keeps what is left, or gives the first of it.
use Rattle.std.proofs.Common.{◌≡◌, ◌∙◌, List, true, false, Option, Some, None, sym}
use Rattle.std.specs.Option.{is_some}
use Rattle.av_split.specs.Boxes.{Box}
use Rattle.av_walk.specs.declared.leaves.CellEnd.{CellEnd}
use Rattle.av_walk.specs.Walk.{Leaf}
use Rattle.av_walk.specs.Ends.{Takes}
use Rattle.av_walk.proofs.Turning.{Finds}
use Rattle.av_walk.proofs.Planned.{planned_cells, planned_terms, planned_advance, planned_turn}
use Rattle.av_walk.proofs.leaves.find.Goals as goal

-- by whether a leaf was found
takes_found : (found : Option CellEnd) (x y z : List (Leaf Box)) → is_some found ≡ true → x ≡ y → Finds found y z → Takes found x z
takes_found None x y z s e f = absurd (cc)
takes_found (Some end) x y z s e f = (f.0, f.1, e ∙ f.2)

none_found : (found : Option CellEnd) (x y z : List (Leaf Box)) → is_some found ≡ false → x ≡ y → Finds found y z → x ≡ z
none_found None x y z s e f = e ∙ f
none_found (Some end) x y z s e f = absurd (cc)

pub look_at-requires-clause-cells : goal.look_at-requires-clause-cells
look_at-requires-clause-cells c = planned_cells _ _ _ _ _ _ c.loop-rest.invariant.walk c.in-Some.is

pub look_at-requires-clause-terms : goal.look_at-requires-clause-terms
look_at-requires-clause-terms c = planned_terms _ _ _ _ _ _ c.loop-rest.invariant.walk c.in-Some.is

pub advance-requires : goal.advance-requires
advance-requires c = planned_advance _ _ _ _ _ _ c.loop-rest.invariant.walk c.in-Some.is c.in_ok-seen.seen c.in_ok-seen.ensures

pub returns-then-is_some-clause-walk : goal.returns-then-is_some-clause-walk
returns-then-is_some-clause-walk c = (planned_turn _ _ _ _ _ _ c.loop-rest.invariant.walk c.in-Some.is c.in_ok-seen.seen c.in_ok-found.next c.in_ok-found.found c.in_ok-seen.ensures c.in_ok-found.ensures).walk

pub returns-then-is_some-clause-takes : goal.returns-then-is_some-clause-takes
returns-then-is_some-clause-takes c =
    takes_found c.in_ok-found.found _ _ _ (sym c.is_some.ensures ∙ c.if-is_some.true) c.loop-rest.invariant.left
    (planned_turn _ _ _ _ _ _ c.loop-rest.invariant.walk c.in-Some.is c.in_ok-seen.seen c.in_ok-found.next c.in_ok-found.found c.in_ok-seen.ensures c.in_ok-found.ensures).left

pub loop-rest-smaller : goal.loop-rest-smaller
loop-rest-smaller c = (planned_turn _ _ _ _ _ _ c.loop-rest.invariant.walk c.in-Some.is c.in_ok-seen.seen c.in_ok-found.next c.in_ok-found.found c.in_ok-seen.ensures c.in_ok-found.ensures).less

pub loop-rest-preserved : goal.loop-rest-preserved
loop-rest-preserved c =
    let t = planned_turn _ _ _ _ _ _ c.loop-rest.invariant.walk c.in-Some.is c.in_ok-seen.seen c.in_ok-found.next c.in_ok-found.found c.in_ok-seen.ensures c.in_ok-found.ensures in
    record {
      walk = t.walk;
      left = none_found c.in_ok-found.found _ _ _ (sym c.is_some.ensures ∙ c.if-is_some.false) c.loop-rest.invariant.left t.left;
    }
