-- The walk over the leaves: the path to the present box, and which leaves are left.
use Rattle.std.specs.List.{flat_map}
use Rattle.std.specs.Prelude.{◌≡◌, ℕ, ◌<◌, ◌≤◌, Bool, true, false, List, [], ◌∷◌, map, length, take, reverse, All, Option, Some}
use Rattle.av_perm.specs.Members.{In}
use Rattle.av_perm.specs.Relations.{IsWord}
use Rattle.av_sys.specs.declared.terms.Equation.{Equation}
use Rattle.av_sys.specs.declared.terms.System.{System}
use Rattle.av_name.specs.declared.constraints.Known.{Known}
use Rattle.av_name.specs.declared.constraints.Known.TheVariants.{Inside, Outside, Open}
use Rattle.av_split.specs.declared.cells.Cell.{Cell}
use Rattle.av_split.specs.declared.rows.Mark.{Mark}
use Rattle.av_split.specs.Split.{Demand, demand_known, demands_known, next_question, all_of}
use Rattle.av_split.specs.Boxes.{Question, Box, word_rules, demands}
use Rattle.av_split.specs.Cells.{AreDemandsOf, known_at, AreSafe}
use Rattle.av_split.specs.Paths.{AreCutsBy, parts_of}
use Rattle.av_split.specs.Walk.{AreRows}
use Rattle.av_split.specs.declared.path.Path.{Path}
use Rattle.av_walk.specs.declared.looking.State.{State}
use Rattle.av_walk.specs.declared.looking.State.TheVariants as states
use Rattle.av_split.specs.declared.path.Turn.{Turn}
use Rattle.av_walk.specs.Walk.{Literal, term_known, inside_count, next_of_terms, Treatment, splits, treated, Leaf, walk}
use Rattle.av_walk.specs.Leaves.{literals, names_of_root}
use Rattle.av_walk.specs.Numbers.{AreTermsOf}
use Rattle.av_walk.specs.Sifts.{picked, AreAlive}

-- what becomes of a box, by what is known of cells
abbrev pub treatment_at : (Cell → Known) → List (Demand Cell) → List (List (Literal Cell)) → Treatment Cell
treatment_at f ds ts = treated (demands_known f ds) (inside_count f ts) (next_of_terms f ts) (next_question f ds)

-- all demands are done, or one is broken
abbrev pub settled : Bool → Known
settled true = Inside
settled false = Outside

-- so many demands are done; or all are settled, and the terms with these numbers are all that aren't refuted, and maybe more
abbrev pub IsKnownBy : (Cell → Known) → List (Demand Cell) → List (List (Literal Cell)) → State → Type 0
IsKnownBy f ds ts (states.Open n) = (n ≤ length ds) × (all_of (demand_known f) (take n ds) ≡ Inside)
IsKnownBy f ds ts (states.Settled done live) = (demands_known f ds ≡ settled done) × All (λ i. i < length ts) live.items × AreAlive (term_known f) ts (picked ts live.items)

-- where the demands aren't called settled, they aren't
abbrev pub IsOpenBy : (Cell → Known) → List (Demand Cell) → State → Type 0
IsOpenBy f ds (states.Open n) = demands_known f ds ≡ Open
IsOpenBy f ds (states.Settled done live) = Unit {0}

-- a box of `k` children that was cut by a cell
pub record IsCut (k : ℕ) (ps : List (List ℕ)) (ds : List (Demand Cell)) (ts : List (List (Literal Cell))) (rows : List (List Mark)) (state : State) (cell : Cell) : Type 0 where
  pub marks : AreRows k ps rows
  pub known : IsKnownBy (known_at rows) ds ts state
  pub unsettled : IsOpenBy (known_at rows) ds state
  pub splits : treatment_at (known_at rows) ds ts ≡ splits cell

-- the cuts of a path, from the last one on
abbrev pub AreCuts : ℕ → List (List ℕ) → List (Demand Cell) → List (List (Literal Cell)) → List (Turn State) → List (List Mark) → Type 0
AreCuts k ps ds ts = AreCutsBy (IsCut k ps ds ts)

-- no demand that the last cut could not break is broken, where the demands weren't settled before it
abbrev pub IsSafeBy : (Cell → Known) → List (Demand Cell) → Bool → State → Type 0
IsSafeBy f ds required (states.Open n) = AreSafe (Some required) (demand_known f) ds
IsSafeBy f ds required (states.Settled done live) = Unit {0}

-- what was known before the last cut still is
abbrev pub Inherits : (Cell → Known) → List (Demand Cell) → List (List (Literal Cell)) → List (Turn State) → Type 0
Inherits f ds ts [] = Unit {0}
Inherits f ds ts (t ∷ turns) = IsKnownBy f ds ts t.state × IsSafeBy f ds t.required t.state

-- a path to a box of `k` children
pub record IsPath (k : ℕ) (ps : List (List ℕ)) (ds : List (Demand Cell)) (ts : List (List (Literal Cell))) (p : Path State) : Type 0 where
  pub marks : AreRows k ps p.rows.items
  pub known : Inherits (known_at p.rows.items) ds ts (reverse p.turns.items)
  pub cuts : AreCuts k ps ds ts (reverse p.turns.items) p.rows.items

-- the leaves that they give
abbrev pub left_of : List (Demand Question) → List (List (Literal Question)) → List (List ℕ) → Option (Path State) → List (Leaf Box)
left_of ds ts ps p = flat_map (walk word_rules ds ts) (parts_of ps p)

-- what the terms of an equation ask that have a root
abbrev pub asked_of : System → List ℕ → Equation → List (List (Literal Question))
asked_of S root e = map (literals 0) (names_of_root S root e.terms)

-- the literal asks about a word at one of `k` children
abbrev pub IsAptLiteral : ℕ → Literal Question → Type 0
IsAptLiteral k l = (l.question.child < k) × IsWord l.question.word

-- the path, unless none is left, is of a root, a name and terms, whose demands and literals have these cells
pub record IsWalk (π : List ℕ) (A R : List (List ℕ)) (asked : List (List (Literal Question))) (ps : List (List ℕ)) (ds : List (Demand Cell)) (ts : List (List (Literal Cell))) (p : Option (Path State)) : Type 0 where
  pub avoid : (w : List ℕ) → In w A → IsWord w
  pub require : (w : List ℕ) → In w R → IsWord w
  pub literals : (t : List (Literal Question)) → In t asked → (l : Literal Question) → In l t → IsAptLiteral (length π) l
  pub cells : AreDemandsOf (length π) ps ds (demands π A R)
  pub terms : AreTermsOf (length π) ps ts asked
  pub path : (q : Path State) → p ≡ Some q → IsPath (length π) ps ds ts q
