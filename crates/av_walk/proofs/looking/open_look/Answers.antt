-- Where the demands turn out to be settled, all terms may still have blocks in the box.
use Rattle.std.proofs.Common.{◌≡◌, ℕ, List, Bool, true, false, sym, subst}
use Rattle.std.proofs.lemmas.Result.{IfOk-weaker}
use Rattle.av_split.specs.declared.cells.Cell.{Cell}
use Rattle.av_split.specs.declared.rows.Mark.{Mark}
use Rattle.av_split.specs.Split.{Demand, demands_known, next_question}
use Rattle.av_split.specs.Cells.{known_at, IsStep}
use Rattle.av_walk.specs.Walk.{Literal, term_known}
use Rattle.av_walk.specs.Sifts.{picked, AreAlive}
use Rattle.av_walk.specs.Paths.{settled}
use Rattle.av_walk.specs.declared.looking.Look.{Look}
use Rattle.av_walk.specs.Looks.{IsLook}
use Rattle.av_walk.proofs.Living.{alive_all}
use Rattle.av_walk.proofs.looking.open_look.Goals as goal

-- what a settled box tells
abbrev Tells : List (List Mark) → List (List (Literal Cell)) → List ℕ → Bool → Look → Type 0
Tells rows ts numbers done look = (ds : List (Demand Cell)) → demands_known (known_at rows) ds ≡ settled done → AreAlive (term_known (known_at rows)) ts (picked ts numbers) → IsLook (known_at rows) ds ts look

pub returns-in-Holds : goal.returns-in-Holds
returns-in-Holds c =
    IfOk-weaker _ (Tells c.args.rows.now c.args.terms.now c.args.all.now true) _
    (λ look h. h c.args.demands.now (subst (λ s. IsStep s (demands_known (known_at c.args.rows.now) c.args.demands.now) (next_question (known_at c.args.rows.now) c.args.demands.now)) c.in-Holds.is c.rows_step-first.ensures.step)
    (subst (AreAlive (term_known (known_at c.args.rows.now)) c.args.terms.now) (sym c.requires.all.all) (alive_all (term_known (known_at c.args.rows.now)) c.args.terms.now)))
    c.settled_look.ensures

pub returns-in-Fails : goal.returns-in-Fails
returns-in-Fails c =
    IfOk-weaker _ (Tells c.args.rows.now c.args.terms.now c.args.all.now false) _
    (λ look h. h c.args.demands.now (subst (λ s. IsStep s (demands_known (known_at c.args.rows.now) c.args.demands.now) (next_question (known_at c.args.rows.now) c.args.demands.now)) c.in-Fails.is c.rows_step-first.ensures.step)
    (subst (AreAlive (term_known (known_at c.args.rows.now)) c.args.terms.now) (sym c.requires.all.all) (alive_all (term_known (known_at c.args.rows.now)) c.args.terms.now)))
    c.settled_look-in-Fails.ensures
