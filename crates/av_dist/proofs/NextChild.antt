-- One child of a node: what the last one adds, what the call for the next one needs, and that a size without words adds nothing.
use Rattle.std.proofs.Common.{◌≡◌, inl, refl, ℕ, ◌+◌, ◌-◌, ◌<◌, ◌≤◌, ◌^◌, List, [], ◌∷◌, ◌++◌, length, drop, sym, ap, ◌∙◌, subst, arith, Some, slice_get}
use Rattle.std.specs.Prelude.{EachIndex}
use Rattle.av_perm.specs.Relations.{at}
use Rattle.av_count.proofs.Filled.{child_is}
use Rattle.av_dist.specs.Kinds.{statistics_at}
use Rattle.av_dist.specs.Crossing.{added}
use Rattle.av_dist.specs.Rows.{how_often, product, IsRowOf, HasRoomFor, Adds}
use Rattle.av_dist.specs.Tables.{Stands, HasFewTrees, AreFew, most_words}
use Rattle.av_dist.specs.Totals.{sums, totals, first_sums, totals_left}
use Rattle.av_dist.proofs.HowOften.{how_often_In}
use Rattle.av_dist.proofs.SumProducts.{row_reaches, product_counts, product_sums}
use Rattle.av_dist.proofs.FewWords.{sums_few, few_fit}
use Rattle.av_dist.proofs.MemberStatistics.{length_statistics}
use Rattle.av_dist.proofs.TotalSteps.{child_of, child_statistics, first_sums_more, left_last, left_with, left_below, left_earlier, no_sums}
use Rattle.av_dist.proofs.AddedRows.{adds_none, adds_same, room_same, next_room_from_1, next_added_from_1}

-- the row of a child by its number in the list of children
pub child_row : (s : Stands) (children sizes row : List ℕ) (x m : ℕ) → slice_get children (length sizes) ≡ Some x
    → IsRowOf (statistics_at s.kind s.system x m) row → IsRowOf (child_statistics s children sizes m) row
child_row s children sizes row x m e r = subst (λ u. IsRowOf (statistics_at s.kind s.system u m) row) (sym (child_is children (length sizes) x e)) r

-- the last child adds the product of its row and that of the sums, raised by what the sizes add
last_counts : (s : Stands) (root children sizes partial row : List ℕ) (left from : ℕ) → length sizes + 1 ≡ length children → 1 ≤ left
    → IsRowOf (first_sums s children sizes) partial → IsRowOf (child_statistics s children sizes left) row → from ≡ added s.kind root (sizes ++ left ∷ [])
    → (v : ℕ) → product (length partial) from partial row v ≡ how_often (totals_left s root children sizes left) v
last_counts s root children sizes partial row left from e h r q f v =
    ap (λ i. product (length partial) i partial row v) f
    ∙ product_counts (added s.kind root (sizes ++ left ∷ [])) (first_sums s children sizes) (child_statistics s children sizes left) partial row r q v
    ∙ ap (λ (zs : List ℕ). how_often zs v) (sym (left_last s root children sizes left e h))

pub last_room : (s : Stands) (root children sizes partial row old : List ℕ) (left from : ℕ) → length sizes + 1 ≡ length children → 1 ≤ left
    → IsRowOf (first_sums s children sizes) partial → IsRowOf (child_statistics s children sizes left) row → from ≡ added s.kind root (sizes ++ left ∷ [])
    → HasRoomFor (how_often (totals_left s root children sizes left)) old → HasRoomFor (product (length partial) from partial row) old
last_room s root children sizes partial row old left from e h r q f =
    room_same (how_often (totals_left s root children sizes left)) (product (length partial) from partial row) old
    (λ v. sym (last_counts s root children sizes partial row left from e h r q f v))

pub last_added : (s : Stands) (root children sizes partial row old new : List ℕ) (left from : ℕ) → length sizes + 1 ≡ length children → 1 ≤ left
    → IsRowOf (first_sums s children sizes) partial → IsRowOf (child_statistics s children sizes left) row → from ≡ added s.kind root (sizes ++ left ∷ [])
    → Adds (product (length partial) from partial row) old new → Adds (how_often (totals_left s root children sizes left)) old new
last_added s root children sizes partial row old new left from e h r q f =
    adds_same (product (length partial) from partial row) (how_often (totals_left s root children sizes left)) old new
    (λ v l. last_counts s root children sizes partial row left from e h r q f v)

-- the numbers of a child of size m are few enough
child_few : (s : Stands) (children sizes : List ℕ) (m : ℕ) → HasFewTrees s.system s.largest → m ≤ s.largest
    → length (child_statistics s children sizes m) ≤ most_words m
child_few s children sizes m few h =
    subst (λ n. n ≤ most_words m) (sym (length_statistics s.kind s.system (child_of children sizes) m)) (few (child_of children sizes) m h)

-- so the product of its row and that of the sums has no great numbers
pub next_product : (s : Stands) (children sizes partial row : List ℕ) (m left : ℕ) → IsRowOf (first_sums s children sizes) partial
    → IsRowOf (child_statistics s children sizes m) row → HasFewTrees s.system s.largest → m ≤ s.largest → m ≤ left
    → AreFew (first_sums s children sizes) left → (v : ℕ) → product (length partial) 0 partial row v < 2 ^ 128
next_product s children sizes partial row m left r q few h l b v =
    let xs = first_sums s children sizes in
    let ys = child_statistics s children sizes m in
    subst (λ n. n < 2 ^ 128) (sym (product_sums xs ys partial row r q v))
    (few_fit v (sums xs ys) (left - m) (sums_few xs ys m left b (child_few s children sizes m few h) l))

-- it is the row of the sums with one child more
pub next_sums : (s : Stands) (children sizes longer partial row next : List ℕ) (m : ℕ) → longer ≡ sizes ++ m ∷ [] → length sizes < length children
    → IsRowOf (first_sums s children sizes) partial → IsRowOf (child_statistics s children sizes m) row
    → ((v : ℕ) → at next v ≡ product (length partial) 0 partial row v)
    → IsRowOf (first_sums s children longer) next
next_sums s children sizes longer partial row next m e h r q f v =
    f v ∙ product_sums (first_sums s children sizes) (child_statistics s children sizes m) partial row r q v
    ∙ ap (λ (zs : List ℕ). how_often zs v) (sym (ap (first_sums s children) e ∙ first_sums_more s children sizes m h))

pub next_few : (s : Stands) (children sizes longer : List ℕ) (m left : ℕ) → longer ≡ sizes ++ m ∷ [] → length sizes < length children
    → HasFewTrees s.system s.largest → m ≤ s.largest → m ≤ left → AreFew (first_sums s children sizes) left
    → AreFew (first_sums s children longer) (left - m)
next_few s children sizes longer m left e h few n l b =
    subst (λ (xs : List ℕ). AreFew xs (left - m)) (sym (ap (first_sums s children) e ∙ first_sums_more s children sizes m h))
    (sums_few (first_sums s children sizes) (child_statistics s children sizes m) m left b (child_few s children sizes m few n) l)

-- there is room for the totals with size m
pub next_left_room : (s : Stands) (root children sizes longer old now : List ℕ) (m left : ℕ) → longer ≡ sizes ++ m ∷ []
    → length sizes + 1 < length children → 1 ≤ m → m < left
    → HasRoomFor (how_often (totals_left s root children sizes left)) old → Adds (how_often (left_below s root children sizes left m)) old now
    → HasRoomFor (how_often (totals_left s root children longer (left - m))) now
next_left_room s root children sizes longer old now m left e h least less room a =
    subst (λ (ns : List ℕ). HasRoomFor (how_often (totals_left s root children ns (left - m))) now) (sym e)
    (next_room_from_1 (left_with s root children sizes left) m (left - 1) old now least (omega arith)
    (subst (λ (xs : List ℕ). HasRoomFor (how_often xs) old) (left_earlier s root children sizes left h (omega arith)) room) a)

-- they are added
pub next_left_added : (s : Stands) (root children sizes longer old now new : List ℕ) (m left : ℕ) → longer ≡ sizes ++ m ∷ [] → 1 ≤ m
    → Adds (how_often (left_below s root children sizes left m)) old now → Adds (how_often (totals_left s root children longer (left - m))) now new
    → Adds (how_often (left_below s root children sizes left (m + 1))) old new
next_left_added s root children sizes longer old now new m left e least a b =
    next_added_from_1 (left_with s root children sizes left) m old now new least a
    (subst (λ (ns : List ℕ). Adds (how_often (totals_left s root children ns (left - m))) now new) e b)

-- all sizes are added
pub all_sizes_added : (s : Stands) (root children sizes old new : List ℕ) (m left : ℕ) → length sizes + 1 < length children → 1 ≤ left → m ≡ left
    → Adds (how_often (left_below s root children sizes left m)) old new → Adds (how_often (totals_left s root children sizes left)) old new
all_sizes_added s root children sizes old new m left h l e a =
    subst (λ (xs : List ℕ). Adds (how_often xs) old new)
    (ap (left_below s root children sizes left) e ∙ sym (left_earlier s root children sizes left h l)) a

-- a row of nothing but 0 is that of no numbers, so a size whose row it is adds nothing
no_numbers : (xs row : List ℕ) → IsRowOf xs row → EachIndex row (λ v. at row v ≡ 0) → xs ≡ []
no_numbers [] row r h = refl
no_numbers (x ∷ xs) row r h =
    absurd (let a = how_often_In x (x ∷ xs) (inl refl) in let b = r x in let c = h x (row_reaches (x ∷ xs) row r x (inl refl)) in omega (a, b, c, arith))

sums_none : (xs : List ℕ) → sums xs [] ≡ []
sums_none [] = refl
sums_none (x ∷ xs) = sums_none xs

pub size_skipped : (s : Stands) (root children sizes row old now : List ℕ) (m left : ℕ) → length sizes < length children → 1 ≤ m
    → IsRowOf (child_statistics s children sizes m) row → EachIndex row (λ v. at row v ≡ 0)
    → Adds (how_often (left_below s root children sizes left m)) old now → Adds (how_often (left_below s root children sizes left (m + 1))) old now
size_skipped s root children sizes row old now m left h least r z a =
    next_added_from_1 (left_with s root children sizes left) m old now now least a
    (subst (λ (xs : List ℕ). Adds (how_often xs) now now) (sym none) (adds_none (how_often []) now (λ v l. refl)))
  where
    no_first : first_sums s children (sizes ++ m ∷ []) ≡ []
    no_first =
        first_sums_more s children sizes m h
        ∙ ap (sums (first_sums s children sizes)) (no_numbers (child_statistics s children sizes m) row r z) ∙ sums_none (first_sums s children sizes)

    none : left_with s root children sizes left m ≡ []
    none =
        let longer = sizes ++ m ∷ [] in
        ap (λ xs. totals (added s.kind root) (statistics_at s.kind s.system) (drop (length longer) children) longer xs (left - m)) no_first
        ∙ no_sums (added s.kind root) (statistics_at s.kind s.system) (drop (length longer) children) longer (left - m)
