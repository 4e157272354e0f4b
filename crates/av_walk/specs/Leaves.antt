-- The leaves of a root and an equation: what the names of the children of its terms ask of the blocks.
use Rattle.std.specs.Prelude.{ℕ, suc, Bool, true, false, cond, List, [], ◌∷◌, ◌++◌, map, length, slice_get, replicate, Option, Some, None}
use Rattle.av_perm.specs.Lists.{same}
use Rattle.av_perm.specs.Class.{in_shortlex}
use Rattle.av_sys.specs.declared.names.Sign.TheVariants.{C}
use Rattle.av_sys.specs.declared.names.Name.{Name}
use Rattle.av_sys.specs.declared.terms.Term.{Term}
use Rattle.av_sys.specs.declared.terms.Term.TheVariants.{Point, Node}
use Rattle.av_sys.specs.declared.terms.Equation.{Equation}
use Rattle.av_sys.specs.declared.terms.System.{System}
use Rattle.av_name.specs.Constraints.{free}
use Rattle.av_split.specs.Boxes.{Question, Box, word_rules, demands}
use Rattle.av_walk.specs.Walk.{Literal, Leaf, walk}

-- the name of an equation, and where there is none that of all words
abbrev pub name_of_equation : Option Equation → Name
name_of_equation None = record { sign = C; avoid = []; require = [] }
name_of_equation (Some e) = e.name

-- the names of the children of a term
abbrev pub names_at : System → List ℕ → List Name
names_at S cs = map (λ c. name_of_equation (slice_get S.equations c)) cs

-- the names of the children of each term with a root
abbrev pub names_of_root : System → List ℕ → List Term → List (List Name)
names_of_root S root [] = []
names_of_root S root (Point ∷ ts) = names_of_root S root ts
names_of_root S root (Node π cs ∷ ts) = cond (same π root) (names_at S cs ∷ names_of_root S root ts) (names_of_root S root ts)

-- what a name asks of child number i, in shortlex order: to avoid its avoided words, then to contain its required ones
abbrev pub asks : Bool → ℕ → List ℕ → Literal Question
asks required i w = record { required = required; question = record { child = i; word = w } }

abbrev pub child_literals : ℕ → Name → List (Literal Question)
child_literals i n = map (asks false i) (in_shortlex n.avoid) ++ map (asks true i) (in_shortlex n.require)

-- what names ask of the children from number i on
abbrev pub literals : ℕ → List Name → List (Literal Question)
literals i [] = []
literals i (n ∷ ns) = child_literals i n ++ literals (suc i) ns

-- the leaves of a root and a name, where its terms have children of these names
abbrev pub leaves : List ℕ → Name → List (List Name) → List (Leaf Box)
leaves root n nss = walk word_rules (demands root n.avoid n.require) (map (literals 0) nss) (replicate (length root) free)

-- the leaves of a root and an equation of a system
abbrev pub leaves_of : System → List ℕ → Equation → List (Leaf Box)
leaves_of S root e = leaves root e.name (names_of_root S root e.terms)
