-- The law of counts.
use Rattle.std.specs.Prelude.{◌≡◌, ℕ, ◌≤◌, List, length}
use Rattle.av_perm.specs.Members.{IsListOf}
use Rattle.av_perm.specs.Relations.{InClassWithAt}
use Rattle.av_perm.specs.Class.{class_with_at}
use Rattle.av_sys.specs.declared.terms.System.{System}
use Rattle.av_sys.specs.Terms.{IsWellFormed}
use Rattle.av_sys.specs.Exact.{Exact}
use Rattle.av_sys.specs.TreeLists.{members, count_of}

-- the words of the trees of equation 0 of a size are the words of this length that avoid the basis and contain the required words,
-- each once, and as many
pub record HasMembers (S : System) (basis required : List (List ℕ)) (n : ℕ) : Type 0 where
  pub listed : IsListOf (InClassWithAt basis required n) (members S n)
  pub counted : count_of S n ≡ length (class_with_at basis required n)

-- so of every system that describes this class
abbrev pub MembersLaw : Type 0
MembersLaw = (S : System) (basis required : List (List ℕ)) (n : ℕ) → IsWellFormed S → Exact S basis required → 1 ≤ n → HasMembers S basis required n
