-- Texts of systems, as lists of bytes.
use Rattle.std.specs.Prelude.{ℕ, suc, List, [], ◌∷◌, length, sum_by, codes, decimal}
use Rattle.std.specs.List.{join_by}
use Rattle.av_sys.specs.declared.names.Sign.{Sign}
use Rattle.av_sys.specs.declared.names.Sign.TheVariants.{C, P, M}
use Rattle.av_sys.specs.declared.names.Name.{Name}
use Rattle.av_sys.specs.declared.terms.Term.{Term}
use Rattle.av_sys.specs.declared.terms.Term.TheVariants.{Point, Node}
use Rattle.av_sys.specs.declared.terms.Equation.{Equation}
use Rattle.av_sys.specs.declared.terms.System.{System}
use Rattle.av_print.specs.Text.{◌⊹◌, words_text, root_text}

-- the number of an equation, as in `E3`
unfoldable pub number_text : ℕ → List ℕ
number_text u = codes "E" ⊹ decimal u

-- the equations of a root's children, joined by commas
unfoldable pub children_text : List ℕ → List ℕ
children_text children = join_by number_text (codes ",") children

-- a term: `1` for the point, else the root, and its children in square brackets
unfoldable pub term_text : Term → List ℕ
term_text Point = codes "1"
term_text (Node root children) = root_text root ⊹ codes "[" ⊹ children_text children ⊹ codes "]"

-- terms, or `none`
unfoldable pub terms_text : List Term → List ℕ
terms_text [] = codes "none"
terms_text (t ∷ ts) = join_by term_text (codes " | ") (t ∷ ts)

-- a sign
abbrev pub sign_text : Sign → List ℕ
sign_text C = codes "C"
sign_text P = codes "P"
sign_text M = codes "M"

-- a name: its sign, the words that it avoids and those that it requires
unfoldable pub name_text : Name → List ℕ
name_text n = sign_text n.sign ⊹ codes " avoid " ⊹ words_text n.avoid ⊹ codes " require " ⊹ words_text n.require

-- the line of equation number u
unfoldable pub equation_text : ℕ → Equation → List ℕ
equation_text u e = number_text u ⊹ codes " " ⊹ name_text e.name ⊹ codes " = " ⊹ terms_text e.terms ⊹ codes "\n"

-- the lines of equations that are numbered from u on
unfoldable pub equations_text : ℕ → List Equation → List ℕ
equations_text u [] = []
equations_text u (e ∷ es) = equation_text u e ⊹ equations_text (suc u) es

-- the number of all terms of some equations
abbrev pub terms_count : List Equation → ℕ
terms_count es = sum_by (λ e. length e.terms) es

-- the first line: the version, how many equations there are, and how many terms
unfoldable pub counts_text : ℕ → ℕ → ℕ → List ℕ
counts_text version equations terms = codes "system " ⊹ decimal version ⊹ codes " equations " ⊹ decimal equations ⊹ codes " terms " ⊹ decimal terms ⊹ codes "\n"

-- a system in a version: its first line, its equations numbered from 0 on, and a last line
unfoldable pub system_text : ℕ → System → List ℕ
system_text version S =
    counts_text version (length S.equations) (terms_count S.equations) ⊹ equations_text 0 S.equations ⊹ codes "end\n"
