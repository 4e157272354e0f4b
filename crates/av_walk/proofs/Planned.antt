-- The walk goes on by its plan: each turn gives the first leaf that is left, or cuts a box.
use Rattle.std.proofs.Common.{◌≡◌, ℕ, ◌<◌, List, length, Option, Some, sym, subst}
use Rattle.av_perm.proofs.Membership.{Each}
use Rattle.av_sys.specs.declared.terms.Equation.{Equation}
use Rattle.av_sys.specs.declared.terms.System.{System}
use Rattle.av_split.specs.Boxes.{demands}
use Rattle.av_split.specs.Cells.{known_at, HaveCellsOf}
use Rattle.av_split.proofs.WordRules.{Apt}
use Rattle.av_split.specs.declared.path.Path.{Path}
use Rattle.av_walk.specs.declared.looking.State.{State}
use Rattle.av_walk.specs.declared.looking.Look.{Look}
use Rattle.av_walk.specs.declared.leaves.CellEnd.{CellEnd}
use Rattle.av_walk.specs.declared.leaves.Plan.{Plan}
use Rattle.av_walk.specs.Sifts.{AreCellsOfTerms}
use Rattle.av_walk.specs.Looks.{IsLook}
use Rattle.av_split.specs.Paths.{parts_of}
use Rattle.av_walk.specs.Paths.{asked_of, IsPath, left_of}
use Rattle.av_walk.specs.Ends.{IsPlanned, Advances, CanAdvance}
use Rattle.av_walk.proofs.GenericWalk.{questions_with}
use Rattle.av_walk.proofs.Starting.{apt_questions}
use Rattle.av_walk.proofs.Turning.{Finds, weights, cells_there, terms_there, can_advance, turn}

-- a turn of the walk
pub record Walked (S : System) (root : List ℕ) (e : Equation) (plan : Plan) (rest next : Option (Path State)) (found : Option CellEnd) : Type 0 where
  pub walk : IsPlanned S root e plan next
  pub left : Finds found (left_of (demands root e.name.avoid e.name.require) (asked_of S root e) plan.table rest) (left_of (demands root e.name.avoid e.name.require) (asked_of S root e) plan.table next)
  pub less : weights (demands root e.name.avoid e.name.require) (asked_of S root e) (parts_of plan.table next) < weights (demands root e.name.avoid e.name.require) (asked_of S root e) (parts_of plan.table rest)

-- a path that goes by a plan
module _ (S : System) (root : List ℕ) (e : Equation) (plan : Plan) (rest : Option (Path State)) (p : Path State) (w : IsPlanned S root e plan rest) (is : rest ≡ Some p) where
  apt : Each (Apt (length root)) (questions_with (demands root e.name.avoid e.name.require) (asked_of S root e))
  apt = apt_questions root e.name.avoid e.name.require (asked_of S root e) w.walk.avoid w.walk.require w.walk.literals

  path : IsPath (length root) plan.table plan.demands plan.terms p
  path = w.walk.path p is

  pub planned_cells : HaveCellsOf p.rows.items plan.demands
  planned_cells = cells_there (length root) plan.table plan.demands (demands root e.name.avoid e.name.require) w.walk.cells plan.terms (asked_of S root e) w.walk.terms apt p.rows.items path.marks

  pub planned_terms : AreCellsOfTerms p.rows.items plan.terms
  planned_terms = terms_there (length root) plan.table plan.demands (demands root e.name.avoid e.name.require) w.walk.cells plan.terms (asked_of S root e) w.walk.terms apt p.rows.items path.marks

  pub planned_advance : (look : Look) → IsLook (known_at p.rows.items) plan.demands plan.terms look → CanAdvance plan.table p look
  planned_advance look l = can_advance (length root) plan.table plan.demands (demands root e.name.avoid e.name.require) w.walk.cells plan.terms (asked_of S root e) w.walk.terms apt p look path l

  -- a turn of the walk
  pub planned_turn : (look : Look) (next : Option (Path State)) (found : Option CellEnd) → IsLook (known_at p.rows.items) plan.demands plan.terms look → Advances plan.table look p found next → Walked S root e plan rest next found
  planned_turn look next found l v =
      let t = turn (length root) plan.table plan.demands (demands root e.name.avoid e.name.require) w.walk.cells plan.terms (asked_of S root e) w.walk.terms apt p look next found path l v in
      record {
        walk = record { walk = record { avoid = w.walk.avoid; require = w.walk.require; literals = w.walk.literals; cells = w.walk.cells; terms = w.walk.terms; path = t.path }; all = w.all };
        left = subst (λ o. Finds found (left_of (demands root e.name.avoid e.name.require) (asked_of S root e) plan.table o) (left_of (demands root e.name.avoid e.name.require) (asked_of S root e) plan.table next)) (sym is) t.leaves;
        less = subst (λ o. weights (demands root e.name.avoid e.name.require) (asked_of S root e) (parts_of plan.table next) < weights (demands root e.name.avoid e.name.require) (asked_of S root e) (parts_of plan.table o)) (sym is) t.less;
      }
