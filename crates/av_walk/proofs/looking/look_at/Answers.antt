-- The rows of the path, and what it inherits from its last cut.
use Rattle.std.proofs.Common.{List, sym, subst}
use Rattle.av_split.specs.declared.rows.Mark.{Mark}
use Rattle.av_split.specs.Cells.{HaveCellsOf}
use Rattle.av_walk.specs.Sifts.{AreCellsOfTerms}
use Rattle.av_walk.proofs.looking.look_at.Goals as goal

pub open_look-requires-clause-cells : goal.open_look-requires-clause-cells
open_look-requires-clause-cells c = subst (λ (l : List (List Mark)). HaveCellsOf l c.args.demands.now) (sym c.deref-rows.ensures.value) c.requires.cells

pub open_look-requires-clause-terms : goal.open_look-requires-clause-terms
open_look-requires-clause-terms c = subst (λ (l : List (List Mark)). AreCellsOfTerms l c.args.terms.now) (sym c.deref-rows.ensures.value) c.requires.terms

pub part_look-requires-clause-cells : goal.part_look-requires-clause-cells
part_look-requires-clause-cells c = subst (λ (l : List (List Mark)). HaveCellsOf l c.args.demands.now) (sym c.deref-rows.ensures.value) c.requires.cells

pub part_look-requires-clause-terms : goal.part_look-requires-clause-terms
part_look-requires-clause-terms c = subst (λ (l : List (List Mark)). AreCellsOfTerms l c.args.terms.now) (sym c.deref-rows.ensures.value) c.requires.terms
