-- Words with one more point or two, and what is gathered of them. Places are counted from 0.
use Rattle.std.specs.Prelude.{◌≡◌, ℕ, suc, ◌<◌, ◌≤◌, ◌⊎◌, false, true, cond, ltb, List, [], length, get_or, map}
use Rattle.std.specs.List.{insert}
use Rattle.av_perm.specs.Members.{In, Ascending}
use Rattle.av_perm.specs.Word.{shortlex}
use Rattle.av_perm.specs.Class.{avoids_all}
use Rattle.av_perm.specs.Simple.{is_simple}
use Rattle.av_perm.specs.Laws.{IsSimpleOf}

-- an entry where a new entry y comes in: it goes up by one if it is at least y
abbrev pub raised_from : ℕ → ℕ → ℕ
raised_from y x = cond (ltb x y) x (suc x)

-- the word with one more point, at place v and with entry y
abbrev pub insert_point : List ℕ → ℕ → ℕ → List ℕ
insert_point τ v y = insert (map (raised_from y) τ) v y

-- so it is of w for one of the numbers below k
abbrev pub Before : ℕ → (ℕ → List ℕ → Type 0) → List ℕ → Type 0
Before k P w = (v : ℕ) × (v < k) × P v w

-- w is τ with one more point, at place v and with entry y
abbrev pub HasPointAt : List ℕ → ℕ → ℕ → List ℕ → Type 0
HasPointAt τ v y w = (1 ≤ y) × (w ≡ insert_point τ v y)

-- w is τ with one more point, at place v
abbrev pub HasPointIn : List ℕ → ℕ → List ℕ → Type 0
HasPointIn τ v w = Before (suc (suc (length τ))) (HasPointAt τ v) w

-- w is τ with one more point
abbrev pub HasPoint : List ℕ → List ℕ → Type 0
HasPoint τ w = Before (suc (length τ)) (HasPointIn τ) w

-- a word that isn't simple and avoids the basis
pub record IsUnsimpleOf (basis : List (List ℕ)) (w : List ℕ) : Type 0 where
  pub unsimple : is_simple w ≡ false
  pub member : avoids_all basis w ≡ true

-- w is τ with two more points, of which the first, at place v and with entry y, leaves such a word
abbrev pub HasTwoPointsAt : List (List ℕ) → List ℕ → ℕ → ℕ → List ℕ → Type 0
HasTwoPointsAt basis τ v y w = (1 ≤ y) × IsUnsimpleOf basis (insert_point τ v y) × HasPoint (insert_point τ v y) w

-- so with the first at place v
abbrev pub HasTwoPointsIn : List (List ℕ) → List ℕ → ℕ → List ℕ → Type 0
HasTwoPointsIn basis τ v w = Before (suc (suc (length τ))) (HasTwoPointsAt basis τ v) w

-- so with the first at any place
abbrev pub HasTwoPoints : List (List ℕ) → List ℕ → List ℕ → Type 0
HasTwoPoints basis τ w = Before (suc (length τ)) (HasTwoPointsIn basis τ) w

-- w is the word at an index of a list with one more point
abbrev pub HasPointOf : List (List ℕ) → ℕ → List ℕ → Type 0
HasPointOf ws i w = HasPoint (get_or ws i []) w

-- w is the word at an index of a list with two more points
abbrev pub HasTwoPointsOf : List (List ℕ) → List (List ℕ) → ℕ → List ℕ → Type 0
HasTwoPointsOf basis ws i w = HasTwoPoints basis (get_or ws i []) w

-- words were put into a list in shortlex order: what was there is kept, only simple words of length n of the class are added,
-- and each of these that is of the kind Q is there
pub record Gathers (basis : List (List ℕ)) (n : ℕ) (Q : List ℕ → Type 0) (old new : List (List ℕ)) : Type 0 where
  pub kept : (w : List ℕ) → In w old → In w new
  pub added : (w : List ℕ) → In w new → In w old ⊎ IsSimpleOf basis n w
  pub all : (w : List ℕ) → Q w → IsSimpleOf basis n w → In w new
  pub ascending : Ascending shortlex old → Ascending shortlex new
