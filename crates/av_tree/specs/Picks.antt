-- The choices of sizes and ranks for children.
use Rattle.std.specs.Prelude.{◌≡◌, ℕ, ◌+◌, ◌*◌, ◌-◌, ◌<◌, ◌≤◌, List, [], ◌∷◌, ◌++◌, length, slice_index_or, nat_lt, cond}
use Rattle.av_sys.specs.declared.terms.System.{System}
use Rattle.av_tree.specs.declared.choosing.Pick.{Pick}
use Rattle.av_count.specs.declared.count.Count.{Count}
use Rattle.av_count.specs.Counts.{capped}
use Rattle.av_count.specs.Choices.{grown, ahead, ways}
use Rattle.av_sys.specs.TreeLists.{members_at, count_at}

-- the member of each child that a choice names
abbrev pub picked : (ℕ → ℕ → List (List ℕ)) → List ℕ → List Pick → List (List ℕ)
picked V [] ps = []
picked V (c ∷ cs) [] = []
picked V (c ∷ cs) (p ∷ ps) = slice_index_or (V c p.size) p.rank [] ∷ picked V cs ps

-- each size is at least 1, the sizes sum to n, each rank is below the number of its child and size
abbrev pub Fitting : (ℕ → ℕ → ℕ) → List ℕ → ℕ → List Pick → Type 0
Fitting f [] n ps = n ≡ 0
Fitting f (c ∷ cs) n [] = ⊥
Fitting f (c ∷ cs) n (p ∷ ps) = (1 ≤ p.size) × (p.size ≤ n) × (p.rank < f c p.size) × Fitting f cs (n - p.size) ps

-- however F lists are chosen in front, the list at place r has the one at place q in front, and then these choices
pub record Chosen (S : System) (cs : List ℕ) (n F r q : ℕ) (ps : List Pick) : Type 0 where
  pub within : q < F
  pub fits : Fitting (count_at S) cs n ps
  pub entry : (xs : List (List (List ℕ))) → length xs ≡ F
      → slice_index_or (grown (members_at S) xs cs n) r [] ≡ slice_index_or xs q [] ++ picked (members_at S) cs ps

-- the size of the first child is m: r is left past the lists with smaller sizes, and lies among those with this size
pub record Sized (S : System) (c : ℕ) (cs : List ℕ) (n F r m left : ℕ) : Type 0 where
  pub least : 1 ≤ m
  pub most : m ≤ n
  pub place : left + F * ahead (count_at S c) (ways (count_at S) cs) n 1 (m - 1) ≡ r
  pub within : left < F * count_at S c m * ways (count_at S) cs (n - m)

-- the sum of the sizes of the children whose entry in the root is below p
abbrev pub picks_below : ℕ → List ℕ → List Pick → ℕ
picks_below p [] ps = 0
picks_below p (q ∷ root) [] = 0
picks_below p (q ∷ root) (k ∷ ps) = cond {A = ℕ} (nat_lt q p) k.size 0 + picks_below p root ps

-- the count is that of the place r at which these choices stand, after place q of the F lists in front
pub record Placed (S : System) (cs : List ℕ) (n F q : ℕ) (ps : List Pick) (count : Count) : Type 0 where
  pub place : ℕ
  pub is : count ≡ capped place
  pub within : place < F * ways (count_at S) cs n
  pub chosen : Chosen S cs n F place q ps

-- the count is that of a place of the list, and the word stands there
pub record RankedAt (S : System) (u n : ℕ) (word : List ℕ) (count : Count) : Type 0 where
  pub place : ℕ
  pub is : count ≡ capped place
  pub within : place < count_at S u n
  pub entry : slice_index_or (members_at S u n) place [] ≡ word
