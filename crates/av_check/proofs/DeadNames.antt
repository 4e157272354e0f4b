-- No word of the class means a dead name: its canonical system would generate the word.
use Rattle.std.proofs.Common.{◌≡◌, ℕ, List, [], length, slice_get, Option, Some, None, true, not, nat_le, leb-true, refl, sym, ◌∙◌, subst, arith}
use Rattle.std.proofs.lemmas.Bool.{and_parts}
use Rattle.av_perm.specs.Relations.{InClass}
use Rattle.av_perm.proofs.Classes.{class_down}
use Rattle.av_perm.proofs.Tests.{not_from}
use Rattle.av_sys.specs.declared.names.Name.{Name}
use Rattle.av_sys.specs.declared.terms.Term.{Term}
use Rattle.av_sys.specs.declared.terms.Equation.{Equation}
use Rattle.av_sys.specs.declared.terms.System.{System}
use Rattle.av_sys.specs.Names.{Means}
use Rattle.av_sys.specs.Exact.{MeansOf}
use Rattle.av_sys.proofs.Subtrees.{equation_term}
use Rattle.av_build.specs.Drafts.{drafts}
use Rattle.av_build.specs.Canonical.{grow_from, grown_size, as_system}
use Rattle.av_build.specs.Alive.{alive}
use Rattle.av_build.specs.Laws.{IsNameOver}
use Rattle.av_perm.proofs.Pointwise.{before}
use Rattle.av_build.proofs.TermsStand.{Stands}
use Rattle.av_build.proofs.Growing.{Canonical, canonical, NameAt}
use Rattle.av_build.proofs.DraftMeanings.{some_shape}
use Rattle.av_build.proofs.AliveMarks.{tree_alive}
use Rattle.av_build.proofs.TermShapes.{HasTermShape, IsTermAt, IsServed, means_at}
use Rattle.av_build.proofs.TermLaws.{reached}
use Rattle.av_build.proofs.NameSystems.{fits_term}
use Rattle.av_check.specs.Verdicts.{is_dead}
use Rattle.av_check.specs.Laws.{HoldsAllSimples}
use Rattle.av_check.proofs.BlocksContained.{block_in_class}

-- each word of the class that means the name of an equation of a canonical system has a term of its shape
class_served : (basis simples : List (List ℕ)) (n : Name) (S : System) → Canonical [] simples n S → HoldsAllSimples basis simples → IsServed S (InClass basis)
class_served basis simples n S c h = record {
  down = λ w root αs p d i l. block_in_class basis w root αs p d i l;
  served = λ u w m p. by u w p (slice_get S.equations u) refl m;
}
  where
    by : (u : ℕ) (w : List ℕ) → InClass basis w → (o : Option Equation) → slice_get S.equations u ≡ o → MeansOf o w → (t : ℕ) × (x : Term) × IsTermAt S u t x × HasTermShape S w x
    by u w p None q m = absurd m
    by u w p (Some e) q m =
        let r = some_shape [] simples e.name w (c.over u e q) m (λ π s k. h.all π s (class_down basis w π p (record { numbers = s.numbers; filled = omega (arith, s.long) }) k)) in
        let t = before (Stands (NameAt S)) e.terms (drafts simples e.name) r.number r.draft (c.stands u e q) r.at_number in
        (r.number, t.0, equation_term S u r.number e q ∙ t.1, fits_term S w t.0 r.draft t.2 r.fits)

-- so none means a dead name
pub dead_none : (limit : ℕ) (basis simples : List (List ℕ)) (n : Name) (w : List ℕ) → IsNameOver [] n → HoldsAllSimples basis simples → is_dead limit simples n ≡ true → InClass basis w → Means n w → ⊥
dead_none limit basis simples n w ok h e p m =
    let S : System = as_system (grow_from simples n limit) in
    let a = and_parts (nat_le (grown_size (grow_from simples n limit)) limit) (not (alive S 0)) e in
    let c = canonical [] simples n limit S ok (record { fits = leb-true (grown_size (grow_from simples n limit)) limit a.0; system = refl }) in
    let first = c.first in
    let r = reached S (InClass basis) (class_served basis simples n S c h) (length w) 0 w (omega arith) (means_at S 0 first.0 w first.1 (subst (λ k. Means k w) (sym first.2) m)) p in
    not_from (alive S 0) a.1 (tree_alive S 0 r.0 r.1)
