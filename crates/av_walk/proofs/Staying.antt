-- What is known in a box stays known in its parts.
use Rattle.std.proofs.Common.{◌≡◌, ℕ, ◌<◌, List, take, length, Bool, true, false, Some, sym, ap, ◌∙◌, subst}
use Rattle.av_perm.specs.Members.{In}
use Rattle.av_perm.proofs.Pointwise.{pointwise_In}
use Rattle.av_name.specs.declared.constraints.Known.{Known}
use Rattle.av_name.specs.declared.constraints.Known.TheVariants.{Inside, Outside, Open}
use Rattle.av_split.specs.declared.cells.Cell.{Cell}
use Rattle.av_split.specs.Split.{turned, all_of, Demand, demand_known, demands_known}
use Rattle.av_split.specs.Boxes.{Question}
use Rattle.av_split.specs.Marks.{once}
use Rattle.av_split.specs.Cells.{AreDemandsOf}
use Rattle.av_split.proofs.OpenQuestions.{turned_open}
use Rattle.av_split.proofs.RowBoxes.{take_In, cell_question}
use Rattle.av_split.proofs.PassedDemands.{all_pass, demand_pass, turned_twice, inside_open, outside_open, open_none, once_keeps, once_other}
use Rattle.av_walk.specs.declared.looking.State.{State}
use Rattle.av_walk.specs.declared.looking.State.TheVariants as states
use Rattle.av_walk.specs.Walk.{Literal, literal_known, term_known}
use Rattle.av_walk.specs.Numbers.{IsLiteralOf, AreLiteralsOf, AreTermsOf}
use Rattle.av_walk.specs.Sifts.{picked}
use Rattle.av_walk.specs.Paths.{settled, IsKnownBy, IsOpenBy, IsSafeBy}
use Rattle.av_walk.proofs.Living.{alive_still}

settled_open : (done : Bool) → settled done ≡ Open → ⊥
settled_open true e = inside_open e
settled_open false e = outside_open e

-- of cells of numbered patterns, in a box where `f` is known and its part in which a pattern is required, or avoided, with `g`
module _ (r : Bool) (k : ℕ) (ps : List (List ℕ)) (f g : Cell → Known) (next : (cell : Cell) → cell.pattern < length ps → (t : Bool) × (g cell ≡ once r t (f cell))) where
  cell_stays : (cell : Cell) → cell.pattern < length ps → (known : Known) → (known ≡ Open → ⊥) → f cell ≡ known → g cell ≡ known
  cell_stays cell h known n e = let t = next cell h in t.1 ∙ once_keeps r t.0 (f cell) known n e

  -- a demand
  module _ (ds : List (Demand Cell)) (es : List (Demand Question)) (asked : AreDemandsOf k ps ds es) where
    numbered : (d : Demand Cell) → In d ds → (m : List Cell) → In m d.embeddings → (cell : Cell) → In cell m → cell.pattern < length ps
    numbered d i m j cell l = (cell_question k ps ds es asked d i m j cell l).1.pattern

    demand_stays : (known : Known) → (known ≡ Open → ⊥) → (d : Demand Cell) → In d ds → demand_known f d ≡ known → demand_known g d ≡ known
    demand_stays known n d i e =
        demand_pass known f g d n (λ m j cell l c. cell_stays cell (numbered d i m j cell l) (turned d.required known) (λ o. n (turned_open d.required known o)) c) e

    -- all demands
    demands_stay : (done : Bool) → demands_known f ds ≡ settled done → demands_known g ds ≡ settled done
    demands_stay done e = all_pass (settled done) (demand_known f) (demand_known g) ds (settled_open done) (λ d i c. demand_stays (settled done) (settled_open done) d i c) e

    first_stay : (n : ℕ) → all_of (demand_known f) (take n ds) ≡ Inside → all_of (demand_known g) (take n ds) ≡ Inside
    first_stay n e = all_pass Inside (demand_known f) (demand_known g) (take n ds) inside_open (λ d i c. demand_stays Inside inside_open d (take_In n ds d i) c) e

    -- a pattern that is required breaks no demand to contain a word, and one that is avoided none to avoid one
    pub safe_then : (state : State) → IsOpenBy f ds state → IsSafeBy g ds r state
    safe_then (states.Settled done live) o = tt
    safe_then (states.Open n) o = λ d i s b.
        open_none (demand_known f) ds d o i
        (demand_pass Outside g f d outside_open (λ m j cell l c. let t = next cell (numbered d i m j cell l) in came d s cell t.0 t.1 c) b)
      where
        kind : (d : Demand Cell) → Some r ≡ Some d.required → r ≡ d.required
        kind d e = cc

        came : (d : Demand Cell) → Some r ≡ Some d.required → (cell : Cell) (t : Bool) → g cell ≡ once r t (f cell) → g cell ≡ turned d.required Outside → f cell ≡ turned d.required Outside
        came d s cell t e c =
            subst (λ w. f cell ≡ turned w Outside) (kind d s) (once_other r t (f cell) (sym e ∙ subst (λ w. g cell ≡ turned w Outside) (sym (kind d s)) c))

    -- a term that is refuted
    module _ (ts : List (List (Literal Cell))) (us : List (List (Literal Question))) (terms : AreTermsOf k ps ts us) where
      term_stays : (t : List (Literal Cell)) → In t ts → term_known f t ≡ Outside → term_known g t ≡ Outside
      term_stays t i e =
          let u = pointwise_In (AreLiteralsOf k ps) ts us t terms i in
          all_pass Outside (literal_known f) (literal_known g) t outside_open (λ l j c. literal_stays l (pointwise_In (IsLiteralOf k ps) t u.0 l u.1 j).1.question.pattern c) e
        where
          literal_stays : (l : Literal Cell) → l.question.pattern < length ps → turned l.required (f l.question) ≡ Outside → turned l.required (g l.question) ≡ Outside
          literal_stays l h c =
              ap (turned l.required)
              (cell_stays l.question h (turned l.required Outside) (λ o. outside_open (turned_open l.required Outside o)) (sym (turned_twice l.required (f l.question)) ∙ ap (turned l.required) c))
              ∙ turned_twice l.required Outside

      -- what was known before a cut
      pub known_then : (state : State) → IsKnownBy f ds ts state → IsKnownBy g ds ts state
      known_then (states.Open n) i = (i.0, first_stay n i.1)
      known_then (states.Settled done live) i = (demands_stay done i.0, i.1, alive_still (term_known f) (term_known g) ts (picked ts live.items) term_stays i.2)
