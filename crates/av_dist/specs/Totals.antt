-- The statistics of the words of a node, by the sizes of the blocks, child by child.
use Rattle.std.specs.Prelude.{ℕ, zero, suc, ◌+◌, ◌-◌, ◌==◌, cond, List, [], ◌∷◌, ◌++◌, map, flat_map, drop, length, Option, Some, None}
use Rattle.av_perm.specs.Lists.{counting}
use Rattle.av_sys.specs.declared.terms.Term.{Term}
use Rattle.av_sys.specs.declared.terms.Term.TheVariants.{Point, Node}
use Rattle.av_count.specs.Choices.{pairs}
use Rattle.av_dist.specs.Kinds.{statistics_at}
use Rattle.av_dist.specs.Crossing.{added}
use Rattle.av_dist.specs.Tables.{Stands}

-- each of the sums of a number of the one list and a number of the other
abbrev pub sums : List ℕ → List ℕ → List ℕ
sums xs ys = pairs (λ x y. x + y) xs ys

-- the sums of one of the numbers `xs` and a number for each of the first children, as many as there are sizes, where `V` has the
-- numbers of a child and its size
unfoldable pub sums_with : (ℕ → ℕ → List ℕ) → List ℕ → List ℕ → List ℕ → List ℕ
sums_with V xs cs [] = xs
sums_with V xs [] (m ∷ ms) = xs
sums_with V xs (c ∷ cs) (m ∷ ms) = sums_with V (sums xs (V c m)) cs ms

-- the sums of one of the numbers `xs` and a number of each of the children `cs`, whose sizes sum to n, and of what `add` says of
-- the sizes of all children, of which `ms` are the first
unfoldable pub totals : (List ℕ → ℕ) → (ℕ → ℕ → List ℕ) → List ℕ → List ℕ → List ℕ → ℕ → List ℕ
totals add V [] ms xs zero = map (λ x. add ms + x) xs
totals add V [] ms xs (suc n) = []
totals add V (c ∷ cs) ms xs n = flat_map (λ m. totals add V cs (ms ++ m ∷ []) (sums xs (V c m)) (n - m)) (counting 1 n)

-- the sums of the statistics of members of the first children, of these sizes
abbrev pub first_sums : Stands → List ℕ → List ℕ → List ℕ
first_sums s children sizes = sums_with (statistics_at s.kind s.system) (0 ∷ []) children sizes

-- the statistics of the words of a node whose first blocks have these sizes, and the others sizes that sum to `left`
abbrev pub totals_left : Stands → List ℕ → List ℕ → List ℕ → ℕ → List ℕ
totals_left s root children sizes left =
    totals (added s.kind root) (statistics_at s.kind s.system) (drop (length sizes) children) sizes (first_sums s children sizes) left

-- the statistics of all words of a node, of size n
abbrev pub node_statistics : Stands → List ℕ → List ℕ → ℕ → List ℕ
node_statistics s root children n = totals (added s.kind root) (statistics_at s.kind s.system) children [] (0 ∷ []) n

-- the statistics of the words of a term, of size n
abbrev pub term_statistics : Stands → ℕ → Option Term → List ℕ
term_statistics s n None = []
term_statistics s n (Some Point) = cond (n == 1) (0 ∷ []) []
term_statistics s n (Some (Node root children)) = node_statistics s root children n
