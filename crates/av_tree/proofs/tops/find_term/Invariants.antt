-- None of the terms before the loop's fits.
use Rattle.std.proofs.Common.{ℕ, ◌<◌}
use Rattle.av_sys.specs.Terms.{term_at}
use Rattle.av_tree.specs.Tops.{FitsTerm}
use Rattle.av_tree.proofs.tops.find_term.Given as goal

abbrev pub invariant-loop-t : goal.invariant-loop-t
invariant-loop-t l = (s : ℕ) → s < l.t → FitsTerm l.system l.root l.blocks (term_at l.system l.eq s) → ⊥
