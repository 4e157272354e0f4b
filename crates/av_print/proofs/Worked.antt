-- Worked values of the definitions, by computation.
use Rattle.std.proofs.Common.{◌≡◌, ℕ, List, [], ◌∷◌, ◌++◌, Some, codes, refl}
use Rattle.std.specs.Fmt.{digits}
use Rattle.av_decomp.specs.RootTrees.{RootTree, point, as_trees}
use Rattle.av_sys.specs.declared.names.Sign.{Sign}
use Rattle.av_sys.specs.declared.names.Sign.TheVariants.{C, P, M}
use Rattle.av_sys.specs.declared.terms.Term.{Term}
use Rattle.av_sys.specs.declared.terms.Term.TheVariants.{Point, Node}
use Rattle.av_sys.specs.declared.terms.Equation.{Equation}
use Rattle.av_sys.specs.declared.terms.System.{System}
use Rattle.av_print.specs.Text.{joined_or_none, word_text, words_text, root_text, node_text, tree_texts, tree_text}
use Rattle.av_print.specs.Systems.{number_text, children_text, term_text, terms_text, name_text, equation_text, equations_text, counts_text, system_text}

-- a root with the trees of its blocks
abbrev node : List ℕ → List RootTree → RootTree
node π ts = record { root = Some π; blocks = as_trees ts }

-- a single point
point_text : tree_text point ≡ codes "1"
unfolding node_text tree_text
point_text = refl

-- the tree of 213
text_213 : tree_text (node (1 ∷ 2 ∷ []) (node (2 ∷ 1 ∷ []) (point ∷ point ∷ []) ∷ point ∷ [])) ≡ codes "12[21[1,1],1]"
unfolding digits word_text root_text node_text tree_texts tree_text
text_213 = refl

-- the tree of 261453
text_261453 : tree_text (node (2 ∷ 4 ∷ 1 ∷ 3 ∷ []) (point ∷ point ∷ point ∷ node (2 ∷ 1 ∷ []) (node (1 ∷ 2 ∷ []) (point ∷ point ∷ []) ∷ point ∷ []) ∷ [])) ≡ codes "2413[1,1,1,21[12[1,1],1]]"
unfolding digits word_text root_text node_text tree_texts tree_text
text_261453 = refl

-- a root of ten entries
text_of_ten : root_text (2 ∷ 4 ∷ 6 ∷ 8 ∷ 10 ∷ 1 ∷ 3 ∷ 5 ∷ 7 ∷ 9 ∷ []) ≡ codes "(2,4,6,8,10,1,3,5,7,9)"
unfolding digits word_text root_text
text_of_ten = refl

-- the equation of the words that avoid this one and meet the sign
abbrev avoiding : Sign → List ℕ → List Term → Equation
avoiding sign w terms = record { name = record { sign = sign; avoid = w ∷ []; require = [] }; terms = terms }

-- a sum and a skew sum of words of two equations
abbrev sum : ℕ → ℕ → Term
sum a b = Node (1 ∷ 2 ∷ []) (a ∷ b ∷ [])

abbrev skew : ℕ → ℕ → Term
skew a b = Node (2 ∷ 1 ∷ []) (a ∷ b ∷ [])

-- the system of the class that avoids 132
abbrev system_132 : System
system_132 = record {
  equations = avoiding C (1 ∷ 3 ∷ 2 ∷ []) (Point ∷ sum 1 2 ∷ skew 3 0 ∷ [])
      ∷ avoiding P (1 ∷ 3 ∷ 2 ∷ []) (Point ∷ skew 3 0 ∷ [])
      ∷ avoiding C (2 ∷ 1 ∷ []) (Point ∷ sum 4 2 ∷ [])
      ∷ avoiding M (1 ∷ 3 ∷ 2 ∷ []) (Point ∷ sum 1 2 ∷ [])
      ∷ avoiding P (2 ∷ 1 ∷ []) (Point ∷ [])
      ∷ [];
}

text_of_system_132 : system_text 2 system_132
    ≡ codes "system 2 equations 5 terms 10\n"
    ++ (codes "E0 C avoid 132 require none = 1 | 12[E1,E2] | 21[E3,E0]\n"
    ++ (codes "E1 P avoid 132 require none = 1 | 21[E3,E0]\n"
    ++ (codes "E2 C avoid 21 require none = 1 | 12[E4,E2]\n"
    ++ (codes "E3 M avoid 132 require none = 1 | 12[E1,E2]\n"
    ++ (codes "E4 P avoid 21 require none = 1\n"
    ++ codes "end\n")))))
unfolding digits joined_or_none word_text words_text root_text number_text children_text term_text terms_text name_text equation_text equations_text counts_text system_text
text_of_system_132 = refl
