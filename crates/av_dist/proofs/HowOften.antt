-- How often a number stands in lists that are joined, and in lists made of pieces.
use Rattle.std.proofs.Common.{◌≡◌, ℕ, zero, suc, ◌+◌, ◌<◌, ◌≤◌, inl, inr, Bool, true, false, cond, List, [], ◌∷◌, ◌++◌, flat_map, refl, sym, ap, ap₂, ◌∙◌, arith, append-nil, nat_eq, count_by}
use Rattle.std.proofs.lemmas.Grind.{flat_map-append}
use Rattle.std.proofs.lemmas.List.Sums.{sum_by-cons, sum_by-append}
use Rattle.av_perm.specs.Lists.{counting}
use Rattle.av_perm.specs.Members.{In}
use Rattle.av_perm.proofs.RisingLists.{counting_more}
use Rattle.av_dist.specs.Rows.{how_often}

-- a count over lists joined, and over one more element
pub count_append : {X : Type 0} (p : X → Bool) (xs ys : List X) → count_by p (xs ++ ys) ≡ count_by p xs + count_by p ys
count_append p xs ys = sum_by-append (λ x. cond (p x) 1 0) xs ys

pub count_cons : {X : Type 0} (p : X → Bool) (x : X) (xs : List X) → count_by p (x ∷ xs) ≡ cond (p x) 1 0 + count_by p xs
count_cons p x xs = sum_by-cons (λ y. cond (p y) 1 0) x xs

pub how_often_append : (v : ℕ) (xs ys : List ℕ) → how_often (xs ++ ys) v ≡ how_often xs v + how_often ys v
how_often_append v = count_append (λ x. nat_eq x v)

pub how_often_cons : (v x : ℕ) (xs : List ℕ) → how_often (x ∷ xs) v ≡ cond (nat_eq x v) 1 0 + how_often xs v
how_often_cons v = count_cons (λ x. nat_eq x v)

-- an element stands in the list
pub how_often_In : (x : ℕ) (xs : List ℕ) → In x xs → 1 ≤ how_often xs x
how_often_In x [] i = absurd i
how_often_In x (y ∷ ys) (inl e) = rw (how_often_cons x y ys, yes y x (sym e)) (omega arith)
  where
    yes : (a b : ℕ) → a ≡ b → nat_eq a b ≡ true
    yes a b h = grind arith
how_often_In x (y ∷ ys) (inr i) = let h = how_often_In x ys i in rw (how_often_cons x y ys) (omega arith)

-- a number above all elements does not
pub how_often_above : (v : ℕ) (xs : List ℕ) → ((x : ℕ) → In x xs → x < v) → how_often xs v ≡ 0
how_often_above v [] h = refl
how_often_above v (x ∷ xs) h =
    how_often_cons v x xs ∙ ap₂ (λ b n. cond {A = ℕ} b 1 0 + n) (other x v (h x (inl refl))) (how_often_above v xs (λ y i. h y (inr i)))
  where
    other : (x v : ℕ) → x < v → nat_eq x v ≡ false
    other x v h = grind arith

-- one piece more, and pieces of which each is empty
pub pieces_more : (piece : ℕ → List ℕ) (lo k : ℕ) → flat_map piece (counting lo (suc k)) ≡ flat_map piece (counting lo k) ++ piece (lo + k)
pieces_more piece lo k =
    ap (flat_map piece) (sym (counting_more lo k)) ∙ flat_map-append piece (counting lo k) ((lo + k) ∷ [])
    ∙ ap (λ zs. flat_map piece (counting lo k) ++ zs) (append-nil (piece (lo + k)))

pub pieces_none : (piece : ℕ → List ℕ) (lo k : ℕ) → ((m : ℕ) → lo ≤ m → m < lo + k → piece m ≡ []) → flat_map piece (counting lo k) ≡ []
pieces_none piece lo zero h = refl
pieces_none piece lo (suc k) h =
    ap₂ (λ (a b : List ℕ). a ++ b) (h lo (omega arith) (omega arith)) (pieces_none piece (suc lo) k (λ m a b. h m (omega arith) (omega arith)))

-- how often a number stands in the pieces with one more
pub how_often_more : (piece : ℕ → List ℕ) (lo k v : ℕ)
    → how_often (flat_map piece (counting lo (suc k))) v ≡ how_often (flat_map piece (counting lo k)) v + how_often (piece (lo + k)) v
how_often_more piece lo k v = ap (λ (zs : List ℕ). how_often zs v) (pieces_more piece lo k) ∙ how_often_append v (flat_map piece (counting lo k)) (piece (lo + k))

-- in the first pieces it stands at most as often as in all
pub how_often_first : (piece : ℕ → List ℕ) (lo k n v : ℕ) → k ≤ n
    → how_often (flat_map piece (counting lo k)) v ≤ how_often (flat_map piece (counting lo n)) v
how_often_first piece lo zero n v h = omega arith
how_often_first piece lo (suc k) zero v h = absurd (omega arith)
how_often_first piece lo (suc k) (suc n) v h =
    let a = how_often_append v (piece lo) (flat_map piece (counting (suc lo) k)) in
    let b = how_often_append v (piece lo) (flat_map piece (counting (suc lo) n)) in
    let r = how_often_first piece (suc lo) k n v (omega arith) in
    omega arith
