-- Derivation trees of a system, their sizes and their values.
use Rattle.std.specs.Prelude.{ℕ, ◌+◌, Bool, true, false, ◌&&◌, List, [], ◌∷◌, is_some, IsTrue, Option, Some, None}
use Rattle.av_perm.specs.Inflate.{inflate}
use Rattle.av_sys.specs.declared.terms.Term.{Term}
use Rattle.av_sys.specs.declared.terms.Term.TheVariants.{Point, Node}
use Rattle.av_sys.specs.declared.terms.System.{System}
use Rattle.av_sys.specs.Terms.{term_at, children_of}

-- a list of trees: none, or a tree, which is a term number and the list of its subtrees, and then other trees
pub data Trees : Type 0 where
  none : Trees
  more : (term : ℕ) → (subtrees : Trees) → (others : Trees) → Trees

-- one tree
pub record Tree : Type 0 where
  pub term : ℕ
  pub subtrees : Trees

-- as many trees as equations, and each is one of the equation at its place: its term number is one of a term, and its
-- subtrees are trees of that term's children
unfoldable pub are_valid : System → List ℕ → Trees → Bool
are_valid S [] none = true
are_valid S (u ∷ us) (more t subtrees others) =
    is_some (term_at S u t) && (are_valid S (children_of (term_at S u t)) subtrees && are_valid S us others)
are_valid _ _ _ = false

-- the same for one tree
abbrev pub is_valid : System → ℕ → Tree → Bool
is_valid S u T = is_some (term_at S u T.term) && are_valid S (children_of (term_at S u T.term)) T.subtrees

-- a derivation tree of equation u
abbrev pub IsTree : System → ℕ → Tree → Type 0
IsTree S u T = IsTrue (is_valid S u T)

-- the size of a tree with these subtrees, of so many points together: a point has no subtrees, and size 1
abbrev pub size_over : Trees → ℕ → ℕ
size_over none sizes = 1
size_over (more _ _ _) sizes = sizes

-- the sizes of the trees of a list together
unfoldable pub sizes : Trees → ℕ
sizes none = 0
sizes (more t subtrees others) = size_over subtrees (sizes subtrees) + sizes others

-- the size of a tree: the number of its points
abbrev pub size : Tree → ℕ
size T = size_over T.subtrees (sizes T.subtrees)

-- a point's value is the word 1, and a node's is its root inflated by the values of its subtrees
abbrev pub value_over : Option Term → List (List ℕ) → List ℕ
value_over None blocks = []
value_over (Some Point) blocks = 1 ∷ []
value_over (Some (Node root children)) blocks = inflate root blocks

-- the values of the trees of a list, each of the equation at its place
unfoldable pub values : System → List ℕ → Trees → List (List ℕ)
values S (u ∷ us) (more t subtrees others) =
    value_over (term_at S u t) (values S (children_of (term_at S u t)) subtrees) ∷ values S us others
values _ _ _ = []

-- the value of a tree of equation u
abbrev pub value : System → ℕ → Tree → List ℕ
value S u T = value_over (term_at S u T.term) (values S (children_of (term_at S u T.term)) T.subtrees)
