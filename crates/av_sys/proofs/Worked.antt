-- The system of the class that avoids 132: it is well formed, and its first members are known.
use Rattle.std.specs.Prelude.{◌≡◌, refl, ℕ, true, List, [], ◌∷◌}
use Rattle.av_perm.specs.Lists.{size_lists}
use Rattle.av_sys.specs.declared.names.Sign.{Sign}
use Rattle.av_sys.specs.declared.names.Sign.TheVariants.{C, P, M}
use Rattle.av_sys.specs.declared.terms.Term.{Term}
use Rattle.av_sys.specs.declared.terms.Term.TheVariants.{Point, Node}
use Rattle.av_sys.specs.declared.terms.Equation.{Equation}
use Rattle.av_sys.specs.declared.terms.System.{System}
use Rattle.av_sys.specs.Terms.{well_formed}
use Rattle.av_sys.specs.Trees.{values}
use Rattle.av_sys.specs.TreeLists.{tree_lists, trees_up_to, trees, members, members_at, count_of, count_at}

-- the word 12
abbrev ascent : List ℕ
ascent = 1 ∷ 2 ∷ []

-- the word 21
abbrev descent : List ℕ
descent = 2 ∷ 1 ∷ []

-- the equation of the words that avoid one word and meet a sign
abbrev equation : Sign → List ℕ → List Term → Equation
equation sign word terms = record { name = record { sign = sign; avoid = word ∷ []; require = [] }; terms = terms }

-- the system of the class that avoids 132
abbrev pub avoiders_of_132 : System
avoiders_of_132 = record {
  equations =
      equation C (1 ∷ 3 ∷ 2 ∷ []) (Point ∷ Node ascent (1 ∷ 2 ∷ []) ∷ Node descent (3 ∷ 0 ∷ []) ∷ [])
      ∷ equation P (1 ∷ 3 ∷ 2 ∷ []) (Point ∷ Node descent (3 ∷ 0 ∷ []) ∷ [])
      ∷ equation C descent (Point ∷ Node ascent (4 ∷ 2 ∷ []) ∷ [])
      ∷ equation M (1 ∷ 3 ∷ 2 ∷ []) (Point ∷ Node ascent (1 ∷ 2 ∷ []) ∷ [])
      ∷ equation P descent (Point ∷ [])
      ∷ [];
}

-- it is well formed
pub its_form : well_formed avoiders_of_132 ≡ true
unfolding well_formed
its_form = refl

-- its words of three entries, in the order of ranks
pub of_three : members avoiders_of_132 3 ≡ (1 ∷ 2 ∷ 3 ∷ []) ∷ (2 ∷ 1 ∷ 3 ∷ []) ∷ (3 ∷ 1 ∷ 2 ∷ []) ∷ (3 ∷ 2 ∷ 1 ∷ []) ∷ (2 ∷ 3 ∷ 1 ∷ []) ∷ []
unfolding members members_at trees trees_up_to tree_lists size_lists values
of_three = refl

-- there are five of three entries
pub count_of_three : count_of avoiders_of_132 3 ≡ 5
unfolding count_of count_at trees trees_up_to tree_lists size_lists
count_of_three = refl

-- and fourteen of four
pub count_of_four : count_of avoiders_of_132 4 ≡ 14
unfolding count_of count_at trees trees_up_to tree_lists size_lists
count_of_four = refl
