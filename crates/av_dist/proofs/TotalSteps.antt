-- The totals of a node, one child more and at the last child.
use Rattle.std.proofs.Common.{◌≡◌, ℕ, zero, suc, ◌+◌, ◌-◌, ◌<◌, ◌≤◌, List, [], ◌∷◌, ◌++◌, map, length, drop, refl, sym, ap, ap₂, ◌∙◌, arith, append-nil, flat_map, get_or}
use Rattle.std.proofs.lemmas.List.{length-drop, drop_all, length_push}
use Rattle.av_perm.specs.Lists.{counting}
use Rattle.av_count.proofs.Choices.{flat_map_same}
use Rattle.av_dist.specs.Kinds.{statistics_at}
use Rattle.av_dist.specs.Crossing.{added}
use Rattle.av_dist.specs.Tables.{Stands}
use Rattle.av_dist.specs.Totals.{sums, sums_with, totals, first_sums, totals_left, node_statistics}
use Rattle.av_dist.proofs.HowOften.{pieces_more, pieces_none}
use Rattle.av_dist.proofs.CrossingSteps.{from_place}

-- with no child left there is a total for each sum exactly where no size is left
end_totals : (add : List ℕ → ℕ) (V : ℕ → ℕ → List ℕ) (ms xs : List ℕ) → totals add V [] ms xs 0 ≡ map (λ x. add ms + x) xs
unfolding totals
end_totals add V ms xs = refl

no_child : (add : List ℕ → ℕ) (V : ℕ → ℕ → List ℕ) (ms xs : List ℕ) (n : ℕ) → 1 ≤ n → totals add V [] ms xs n ≡ []
unfolding totals
no_child add V ms xs zero h = absurd (omega arith)
no_child add V ms xs (suc n) h = refl

no_size : (add : List ℕ → ℕ) (V : ℕ → ℕ → List ℕ) (cs ms xs : List ℕ) → 1 ≤ length cs → totals add V cs ms xs 0 ≡ []
unfolding totals
no_size add V [] ms xs h = absurd (omega arith)
no_size add V (c ∷ cs) ms xs h = refl

-- no sums have no totals
pub no_sums : (add : List ℕ → ℕ) (V : ℕ → ℕ → List ℕ) (cs ms : List ℕ) (n : ℕ) → totals add V cs ms [] n ≡ []
unfolding totals
no_sums add V [] ms zero = refl
no_sums add V [] ms (suc n) = refl
no_sums add V (c ∷ cs) ms n = pieces_none (λ m. totals add V cs (ms ++ m ∷ []) [] (n - m)) 1 n (λ m a b. no_sums add V cs (ms ++ m ∷ []) (n - m))

-- the totals by the size of the next child
next_child : (add : List ℕ → ℕ) (V : ℕ → ℕ → List ℕ) (c : ℕ) (cs ms xs : List ℕ) (n : ℕ)
    → totals add V (c ∷ cs) ms xs n ≡ flat_map (λ m. totals add V cs (ms ++ m ∷ []) (sums xs (V c m)) (n - m)) (counting 1 n)
unfolding totals
next_child add V c cs ms xs n = refl

-- the last child has the size that is left
last_child : (add : List ℕ → ℕ) (V : ℕ → ℕ → List ℕ) (c : ℕ) (ms xs : List ℕ) (n : ℕ) → 1 ≤ n
    → totals add V (c ∷ []) ms xs n ≡ map (λ z. add (ms ++ n ∷ []) + z) (sums xs (V c n))
last_child add V c ms xs zero h = absurd (omega arith)
last_child add V c ms xs (suc n) h =
    let piece = λ (m : ℕ). totals add V [] (ms ++ m ∷ []) (sums xs (V c m)) (suc n - m) in
    let e : suc n - suc n ≡ 0 = omega arith in
    let f : 1 + n ≡ suc n = omega arith in
    next_child add V c [] ms xs (suc n)
    ∙ pieces_more piece 1 n
    ∙ ap (λ (zs : List ℕ). zs ++ piece (1 + n)) (pieces_none piece 1 n (λ m a b. no_child add V (ms ++ m ∷ []) (sums xs (V c m)) (suc n - m) (omega arith)))
    ∙ ap piece f
    ∙ ap (λ k. totals add V [] (ms ++ suc n ∷ []) (sums xs (V c (suc n))) k) e
    ∙ end_totals add V (ms ++ suc n ∷ []) (sums xs (V c (suc n)))

-- a child with others after it leaves them a size
earlier_child : (add : List ℕ → ℕ) (V : ℕ → ℕ → List ℕ) (c : ℕ) (cs ms xs : List ℕ) (n : ℕ) → 1 ≤ n → 1 ≤ length cs
    → totals add V (c ∷ cs) ms xs n ≡ flat_map (λ m. totals add V cs (ms ++ m ∷ []) (sums xs (V c m)) (n - m)) (counting 1 (n - 1))
earlier_child add V c cs ms xs zero h k = absurd (omega arith)
earlier_child add V c cs ms xs (suc n) h k =
    let piece = λ (m : ℕ). totals add V cs (ms ++ m ∷ []) (sums xs (V c m)) (suc n - m) in
    let e : suc n - (1 + n) ≡ 0 = omega arith in
    let f : suc n - 1 ≡ n = omega arith in
    let last : piece (1 + n) ≡ [] =
    ap (λ j. totals add V cs (ms ++ (1 + n) ∷ []) (sums xs (V c (1 + n))) j) e ∙ no_size add V cs (ms ++ (1 + n) ∷ []) (sums xs (V c (1 + n))) k in
    next_child add V c cs ms xs (suc n)
    ∙ pieces_more piece 1 n
    ∙ ap (λ (zs : List ℕ). flat_map piece (counting 1 n) ++ zs) last
    ∙ append-nil (flat_map piece (counting 1 n))
    ∙ ap (λ j. flat_map piece (counting 1 j)) (sym f)

-- the sums with one child more
sums_with_more : (V : ℕ → ℕ → List ℕ) (xs cs ms : List ℕ) (m : ℕ) → length ms < length cs
    → sums_with V xs cs (ms ++ m ∷ []) ≡ sums (sums_with V xs cs ms) (V (get_or cs (length ms) 0) m)
unfolding sums_with
sums_with_more V xs [] ms m h = absurd (omega arith)
sums_with_more V xs (d ∷ cs) [] m h = refl
sums_with_more V xs (d ∷ cs) (k ∷ ms) m h = sums_with_more V (sums xs (V d k)) cs ms m (omega arith)

-- the child after those that have sizes, and what it has of a size
abbrev pub child_of : List ℕ → List ℕ → ℕ
child_of children sizes = get_or children (length sizes) 0

abbrev pub child_statistics : Stands → List ℕ → List ℕ → ℕ → List ℕ
child_statistics s children sizes m = statistics_at s.kind s.system (child_of children sizes) m

pub first_sums_more : (s : Stands) (children sizes : List ℕ) (m : ℕ) → length sizes < length children
    → first_sums s children (sizes ++ m ∷ []) ≡ sums (first_sums s children sizes) (child_statistics s children sizes m)
first_sums_more s children sizes m h = sums_with_more (statistics_at s.kind s.system) (0 ∷ []) children sizes m h

-- at the last child the totals are the sums with its numbers, and what the sizes add
pub left_last : (s : Stands) (root children sizes : List ℕ) (left : ℕ) → length sizes + 1 ≡ length children → 1 ≤ left
    → totals_left s root children sizes left
    ≡ map (λ z. added s.kind root (sizes ++ left ∷ []) + z) (sums (first_sums s children sizes) (child_statistics s children sizes left))
left_last s root children sizes left e h =
    ap (λ cs. totals (added s.kind root) (statistics_at s.kind s.system) cs sizes (first_sums s children sizes) left)
    (from_place children (length sizes) (omega arith) ∙ ap (λ cs. child_of children sizes ∷ cs) (drop_all (length sizes + 1) children (omega arith)))
    ∙ last_child (added s.kind root) (statistics_at s.kind s.system) (child_of children sizes) sizes (first_sums s children sizes) left h

-- the totals where the next child has size m
abbrev pub left_with : Stands → List ℕ → List ℕ → List ℕ → ℕ → ℕ → List ℕ
left_with s root children sizes left m = totals_left s root children (sizes ++ m ∷ []) (left - m)

left_with_is : (s : Stands) (root children sizes : List ℕ) (left m : ℕ) → length sizes < length children
    → totals (added s.kind root) (statistics_at s.kind s.system) (drop (length sizes + 1) children) (sizes ++ m ∷ [])
    (sums (first_sums s children sizes) (child_statistics s children sizes m)) (left - m)
    ≡ left_with s root children sizes left m
left_with_is s root children sizes left m h =
    ap₂ (λ i xs. totals (added s.kind root) (statistics_at s.kind s.system) (drop i children) (sizes ++ m ∷ []) xs (left - m))
    (sym (length_push sizes m)) (sym (first_sums_more s children sizes m h))

-- those where it has a size below m
abbrev pub left_below : Stands → List ℕ → List ℕ → List ℕ → ℕ → ℕ → List ℕ
left_below s root children sizes left m = flat_map (left_with s root children sizes left) (counting 1 (m - 1))

-- before the last child they are those of each of its sizes in turn
pub left_earlier : (s : Stands) (root children sizes : List ℕ) (left : ℕ) → length sizes + 1 < length children → 1 ≤ left
    → totals_left s root children sizes left ≡ left_below s root children sizes left left
left_earlier s root children sizes left h l =
    let d = length-drop (length sizes + 1) children in
    let add = added s.kind root in
    let V = statistics_at s.kind s.system in
    let xs = first_sums s children sizes in
    ap (λ cs. totals add V cs sizes xs left) (from_place children (length sizes) (omega arith))
    ∙ earlier_child add V (child_of children sizes) (drop (length sizes + 1) children) sizes xs left l (omega arith)
    ∙ flat_map_same _ _ (counting 1 (left - 1)) (λ m. left_with_is s root children sizes left m (omega arith))

-- no size is chosen at first
pub no_first_sums : (s : Stands) (children : List ℕ) → first_sums s children [] ≡ 0 ∷ []
unfolding sums_with
no_first_sums s children = refl

pub all_left : (s : Stands) (root children : List ℕ) (n : ℕ) → totals_left s root children [] n ≡ node_statistics s root children n
all_left s root children n = ap (λ xs. totals (added s.kind root) (statistics_at s.kind s.system) children [] xs n) (no_first_sums s children)
