-- The lists of sizes after one, what they weigh, and steps along a list past what weighs nothing.
use Rattle.std.specs.Prelude.{◌≡◌, ℕ, suc, ◌+◌, ◌*◌, ◌-◌, ◌<◌, ◌≤◌, List, [], ◌∷◌, ◌++◌, length, flat_map}
use Rattle.av_perm.specs.Lists.{counting, before_each, size_lists}
use Rattle.av_count.specs.Choices.{ways, ahead}

-- the sum, by recursion
abbrev pub sum_of : List ℕ → ℕ
sum_of [] = 0
sum_of (n ∷ ns) = n + sum_of ns

-- how many lists of trees have these sizes, where f tells how many trees each child has of each size
abbrev pub weight : (ℕ → ℕ → ℕ) → List ℕ → List ℕ → ℕ
weight f [] ns = 1
weight f (c ∷ cs) [] = 1
weight f (c ∷ cs) (n ∷ ns) = f c n * weight f cs ns

-- the lists of sizes after one, among those with sum n
abbrev pub sizes_after : List ℕ → ℕ → List (List ℕ)
sizes_after [] n = []
sizes_after (m ∷ ms) n =
    before_each m (sizes_after ms (n - m))
    ++ flat_map (λ j. before_each j (size_lists (length ms) (n - j))) (counting (suc m) (n - m))

-- the sum of the weights
abbrev pub weighed : {X : Type 0} → (X → ℕ) → List X → ℕ
weighed w [] = 0
weighed w (x ∷ xs) = w x + weighed w xs

-- xs goes on to ys past elements whose weights, each F times, are taken off r
pub record Skips {X : Type 0} (w : X → ℕ) (F : ℕ) (xs ys : List X) (r left : ℕ) : Type 0 where
  pub front : List X
  pub is : xs ≡ front ++ ys
  pub place : left + F * weighed w front ≡ r

-- ns are the first sizes along the list xs of lists of sizes with sum n, once r is used up, and what is left of r
pub record Firsts (f : ℕ → ℕ → ℕ) (cs : List ℕ) (n F : ℕ) (xs : List (List ℕ)) (r : ℕ) (ns : List ℕ) (left : ℕ) : Type 0 where
  pub many : length ns ≡ length cs
  pub sum : sum_of ns ≡ n
  pub skips : Skips (weight f cs) F xs (ns ∷ sizes_after ns n) r left
  pub within : left < F * weight f cs ns

-- the first size from `least` on that leaves a list of trees, where f and g tell how many trees and lists there are
pub record Raised (f g : ℕ → ℕ) (n least at : ℕ) : Type 0 where
  pub low : least ≤ at
  pub high : at ≤ n
  pub none : ahead f g n least (at - least) ≡ 0
  pub some : 0 < f at * g (n - at)

-- the sizes of child c and of the children cs after it were added: the first ones with a size of child c from `least` on
pub record Begun (f : ℕ → ℕ → ℕ) (c : ℕ) (cs : List ℕ) (n least : ℕ) (old new : List ℕ) : Type 0 where
  pub at : ℕ
  pub ns : List ℕ
  pub left : ℕ
  pub added : new ≡ old ++ at ∷ ns
  pub raised : Raised (f c) (ways f cs) n least at
  pub firsts : Firsts f cs (n - at) 1 (size_lists (length cs) (n - at)) 0 ns left
