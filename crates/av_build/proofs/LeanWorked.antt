-- A lean system that is known: that of the words that avoid 21 and contain 123.
use Rattle.std.specs.Prelude.{◌≡◌, refl, ℕ, List, [], ◌∷◌}
use Rattle.av_sys.specs.declared.names.Sign.{Sign}
use Rattle.av_sys.specs.declared.names.Sign.TheVariants.{C, P}
use Rattle.av_sys.specs.declared.terms.Term.{Term}
use Rattle.av_sys.specs.declared.terms.Term.TheVariants.{Point, Node}
use Rattle.av_sys.specs.declared.terms.Equation.{Equation}
use Rattle.av_sys.specs.declared.terms.System.{System}
use Rattle.av_build.specs.Canonical.{system_size}
use Rattle.av_build.specs.Alive.{marks_within}
use Rattle.av_build.specs.Lean.{found_after, lean}

-- an equation with this name and these terms
abbrev pub equation : Sign → List (List ℕ) → List (List ℕ) → List Term → Equation
equation sign avoid require terms = record { name = record { sign = sign; avoid = avoid; require = require }; terms = terms }

-- a sum of words of two equations
abbrev pub plus : ℕ → ℕ → Term
plus first second = Node (1 ∷ 2 ∷ []) (first ∷ second ∷ [])

-- the canonical system: equations 3 and 5 generate nothing
abbrev pub increasing : System
increasing = record {
  equations =
      equation C ((2 ∷ 1 ∷ []) ∷ []) ((1 ∷ 2 ∷ 3 ∷ []) ∷ []) (plus 1 2 ∷ plus 3 4 ∷ plus 5 4 ∷ [])
      ∷ equation P ((1 ∷ 2 ∷ []) ∷ (2 ∷ 1 ∷ []) ∷ []) [] (Point ∷ [])
      ∷ equation C ((2 ∷ 1 ∷ []) ∷ []) ((1 ∷ 2 ∷ []) ∷ []) (plus 6 4 ∷ [])
      ∷ equation P ((2 ∷ 1 ∷ []) ∷ (1 ∷ 2 ∷ 3 ∷ []) ∷ []) ((1 ∷ 2 ∷ []) ∷ []) []
      ∷ equation C ((2 ∷ 1 ∷ []) ∷ []) [] (Point ∷ plus 6 4 ∷ [])
      ∷ equation P ((2 ∷ 1 ∷ []) ∷ []) ((1 ∷ 2 ∷ 3 ∷ []) ∷ []) []
      ∷ equation P ((2 ∷ 1 ∷ []) ∷ []) [] (Point ∷ [])
      ∷ [];
}

-- the lean one
abbrev pub lean_increasing : System
lean_increasing = record {
  equations =
      equation C ((2 ∷ 1 ∷ []) ∷ []) ((1 ∷ 2 ∷ 3 ∷ []) ∷ []) (plus 1 2 ∷ [])
      ∷ equation P ((1 ∷ 2 ∷ []) ∷ (2 ∷ 1 ∷ []) ∷ []) [] (Point ∷ [])
      ∷ equation C ((2 ∷ 1 ∷ []) ∷ []) ((1 ∷ 2 ∷ []) ∷ []) (plus 3 4 ∷ [])
      ∷ equation P ((2 ∷ 1 ∷ []) ∷ []) [] (Point ∷ [])
      ∷ equation C ((2 ∷ 1 ∷ []) ∷ []) [] (Point ∷ plus 3 4 ∷ [])
      ∷ [];
}

pub lean_of_increasing : lean increasing ≡ lean_increasing
unfolding marks_within found_after
lean_of_increasing = refl

-- their sizes
pub size_of_increasing : system_size increasing ≡ 15
size_of_increasing = refl

pub size_of_lean_increasing : system_size lean_increasing ≡ 11
size_of_lean_increasing = refl
