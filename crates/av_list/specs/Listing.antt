-- What a lister holds.
use Rattle.std.specs.Prelude.{◌≡◌, ℕ, ◌≤◌, Bool, [], IsTrue, drop}
use Rattle.av_perm.specs.declared.limits.TheConstants.{MAX_LENGTH}
use Rattle.av_sys.specs.declared.terms.System.{System}
use Rattle.av_sys.specs.Terms.{IsWellFormed}
use Rattle.av_count.specs.Tables.{Stands}
use Rattle.av_list.specs.Progress.{Progress}
use Rattle.av_list.specs.Remaining.{listed, left}
use Rattle.av_list.specs.Derivations.{Derives}

-- the tree that is placed is entry number r, from 0 on, of the list of the trees of equation 0: it and the entries after it are
-- left
pub record IsEntry (S : System) (p : Progress) (r : ℕ) : Type 0 where
  pub due : p.due ≡ []
  pub derives : Derives S p.size p.placed []
  pub entry : left S p.placed [] ≡ drop r (listed S 0 p.size)

-- the table stands for the system and reaches the size, and where more items come, the tree that is placed is the entry of
-- this rank
pub record IsListing (S : System) (table : Stands) (p : Progress) (rank : ℕ) (more : Bool) : Type 0 where
  pub formed : IsWellFormed S
  pub stands : table.system ≡ S
  pub least : 1 ≤ p.size
  pub most : p.size ≤ table.largest
  pub limit : p.size ≤ MAX_LENGTH
  pub placed : IsTrue more → IsEntry S p rank
