-- What becomes of a box where the demands are settled, and where they are open.
use Rattle.std.proofs.Common.{◌≡◌, ℕ, Bool, true, false, List, Option, Some, refl, sym, ap, ap₂, ◌∙◌, subst}
use Rattle.av_name.specs.declared.constraints.Known.{Known}
use Rattle.av_name.specs.declared.constraints.Known.TheVariants.{Open}
use Rattle.av_split.specs.declared.cells.Cell.{Cell}
use Rattle.av_split.specs.Split.{Demand, demands_known, next_question}
use Rattle.av_walk.specs.declared.sifting.Sifted.{Sifted}
use Rattle.av_walk.specs.declared.looking.Look.{Look}
use Rattle.av_walk.specs.declared.looking.Look.TheVariants as looks
use Rattle.av_walk.specs.Walk.{Literal, term_known, inside_count, next_of_terms, splits, treated}
use Rattle.av_walk.specs.Sifts.{picked, AreAlive, IsSifted}
use Rattle.av_walk.specs.Paths.{treatment_at, settled, IsKnownBy, IsOpenBy}
use Rattle.av_walk.specs.Looks.{settled_cell, Looks, IsLook}
use Rattle.av_walk.proofs.Living.{alive_alive, alive_count, alive_next}

-- of a settled box, what was found of the terms
pub looks_at : (done : Bool) (f : Cell → Known) (ds : List (Demand Cell)) (ts : List (List (Literal Cell))) (numbers : List ℕ) (s : Sifted) (look : Look) → demands_known f ds ≡ settled done → AreAlive (term_known f) ts (picked ts numbers)
    → IsSifted f ts numbers s → Looks done (inside_count f (picked ts numbers)) s look → IsLook f ds ts look
looks_at done f ds ts numbers s look k a i l = by look l
  where
    count : inside_count f ts ≡ inside_count f (picked ts numbers)
    count = alive_count f ts (picked ts numbers) a

    next : next_of_terms f ts ≡ s.next
    next = alive_next f ts (picked ts numbers) a ∙ sym i.next

    cell_of : (done : Bool) (n : ℕ) (o p : Option Cell) → treated (settled done) n o p ≡ settled_cell done n o
    cell_of true n o p = refl
    cell_of false n o p = refl

    treatment : treatment_at f ds ts ≡ settled_cell done (inside_count f (picked ts numbers)) s.next
    treatment =
        ap (λ known. treated known (inside_count f ts) (next_of_terms f ts) (next_question f ds)) k
        ∙ cell_of done (inside_count f ts) (next_of_terms f ts) (next_question f ds)
        ∙ ap₂ (λ (n : ℕ) (o : Option Cell). settled_cell done n o) count next

    by : (look : Look) → Looks done (inside_count f (picked ts numbers)) s look → IsLook f ds ts look
    by (looks.Ends kind) l = treatment ∙ l
    by (looks.Cut cell state) l = (
      treatment ∙ l.0,
      subst (IsKnownBy f ds ts) (sym l.1) (k, i.within, alive_alive (term_known f) ts (picked ts numbers) (picked ts s.live.items) a i.live),
      subst (λ x. IsOpenBy f ds x) (sym l.1) tt,
    )

-- of an open one
pub opens : (f : Cell → Known) (ds : List (Demand Cell)) (ts : List (List (Literal Cell))) (cell : Cell) → demands_known f ds ≡ Open → next_question f ds ≡ Some cell → treatment_at f ds ts ≡ splits cell
opens f ds ts cell k n = ap₂ (λ (known : Known) (o : Option Cell). treated known (inside_count f ts) (next_of_terms f ts) o) k n
