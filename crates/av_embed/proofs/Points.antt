-- Lists of numbers against points in lexicographic order, and ascending lists cut at a point.
use Rattle.std.proofs.Common.{◌≡◌, ℕ, suc, ◌<◌, ◌≤◌, inl, inr, List, [], ◌∷◌, ◌++◌, length, take, Bool, true, false, cond, refl, sym, ap, ap₂, ◌∙◌, arith}
use Rattle.std.specs.List.{filter}
use Rattle.std.specs.Ordering.{nat_cmp, is_ge, is_gt, ordering_then, ordering_reverse}
use Rattle.std.specs.declared.cmp.Ordering.{Ordering}
use Rattle.std.specs.declared.cmp.Ordering.TheVariants.{Less, Equal, Greater}
use Rattle.std.specs.Cmp.{IsTotalOrder, nat_cmp_is}
use Rattle.std.specs.Cmp.Lexicographic.{slice_cmp}
use Rattle.std.proofs.lemmas.Bool.{cases_lt, cases_eq}
use Rattle.std.proofs.lemmas.Cmp.{tied_itself}
use Rattle.av_perm.specs.Members.{In, Ascending}
use Rattle.av_perm.specs.Relations.{at}

-- by the first numbers of two lists
first_less : (x y : ℕ) (xs ys : List ℕ) → x < y → slice_cmp nat_cmp (x ∷ xs) (y ∷ ys) ≡ Less
first_less x y xs ys h = ap (λ o. ordering_then o (slice_cmp nat_cmp xs ys)) (sym (nat_cmp_is x y Less h))

-- equal first numbers leave it to the rest
first_same : (x y : ℕ) (xs ys : List ℕ) → x ≡ y → slice_cmp nat_cmp (x ∷ xs) (y ∷ ys) ≡ slice_cmp nat_cmp xs ys
first_same x y xs ys h = ap (λ o. ordering_then o (slice_cmp nat_cmp xs ys)) (sym (nat_cmp_is x y Equal h))

-- a greater first number
first_more : (x y : ℕ) (xs ys : List ℕ) → y < x → slice_cmp nat_cmp (x ∷ xs) (y ∷ ys) ≡ Greater
first_more x y xs ys h = ap (λ o. ordering_then o (slice_cmp nat_cmp xs ys)) (sym (nat_cmp_is x y Greater h))

-- a list isn't before the point
abbrev pub from_point : List ℕ → List ℕ → Bool
from_point p e = is_ge (slice_cmp nat_cmp e p)

-- a first number below the point's
from_less : (x y : ℕ) (xs ys : List ℕ) → x < y → from_point (y ∷ ys) (x ∷ xs) ≡ false
from_less x y xs ys h = ap is_ge (first_less x y xs ys h)

-- the same first number
from_same : (x y : ℕ) (xs ys : List ℕ) → x ≡ y → from_point (y ∷ ys) (x ∷ xs) ≡ from_point ys xs
from_same x y xs ys h = ap is_ge (first_same x y xs ys h)

-- a first number above the point's
from_more : (x y : ℕ) (xs ys : List ℕ) → y < x → from_point (y ∷ ys) (x ∷ xs) ≡ true
from_more x y xs ys h = ap is_ge (first_more x y xs ys h)

-- nothing comes before the empty point
from_none : (xs : List ℕ) → from_point [] xs ≡ true
from_none [] = refl
from_none (x ∷ xs) = refl

-- a first number that is at least the point's only one
from_least : (x y : ℕ) (xs : List ℕ) → y ≤ x → from_point (y ∷ []) (x ∷ xs) ≡ true
from_least x y xs h = elim (cases_lt y x) [
  | inl l ↦ from_more x y xs [] l
  | inr l ↦ from_same x y xs [] (omega arith) ∙ from_none xs
]

-- two points that begin alike
module _ (y : ℕ) (ys zs : List ℕ) where
  -- a list stands alike to both where its rest stands alike to their rests
  from_alike : (x : ℕ) (xs : List ℕ) → from_point ys xs ≡ from_point zs xs → from_point (y ∷ ys) (x ∷ xs) ≡ from_point (y ∷ zs) (x ∷ xs)
  from_alike x xs h = elim (cases_lt x y) [
    | inl l ↦ from_less x y xs ys l ∙ sym (from_less x y xs zs l)
    | inr l ↦ elim (cases_lt y x) [
      | inl m ↦ from_more x y xs ys m ∙ sym (from_more x y xs zs m)
      | inr m ↦ from_same x y xs ys (omega arith) ∙ h ∙ sym (from_same x y xs zs (omega arith))
    ]
  ]

-- a list that doesn't begin with the point isn't before it where it isn't before the next one
pub point_skipped : (e es : List ℕ) (c : ℕ) → length es < length e → (take (suc (length es)) e ≡ es ++ c ∷ [] → ⊥)
    → from_point (es ++ c ∷ []) e ≡ from_point (es ++ suc c ∷ []) e
point_skipped [] es c h n = absurd (omega arith)
point_skipped (d ∷ e) [] c h n = elim (cases_lt d c) [
  | inl l ↦ from_less d c e [] l ∙ sym (from_less d (suc c) e [] (omega arith))
  | inr l ↦ elim (cases_eq d c) [
    | inl q ↦ absurd (n (ap (λ (x : ℕ). x ∷ []) q))
    | inr q ↦ from_least d c e l ∙ sym (from_least d (suc c) e (omega (arith, q)))
  ]
]
point_skipped (d ∷ e) (b ∷ es) c h n = elim (cases_eq d b) [
  | inl q ↦ from_alike b (es ++ c ∷ []) (es ++ suc c ∷ []) d e (point_skipped e es c (omega arith) (λ p. n (ap₂ (λ (x : ℕ) (xs : List ℕ). x ∷ xs) q p)))
  | inr q ↦ elim (cases_lt d b) [
    | inl l ↦ from_less d b e (es ++ c ∷ []) l ∙ sym (from_less d b e (es ++ suc c ∷ []) l)
    | inr l ↦ let m : b < d = omega (arith, q) in from_more d b e (es ++ c ∷ []) m ∙ sym (from_more d b e (es ++ suc c ∷ []) m)
  ]
]

-- a rising list that isn't before the point isn't before it with its last number once more
pub point_deeper : (e es : List ℕ) (c : ℕ) → suc (length es) < length e → ((s t : ℕ) → s < t → t < length e → at e s ≤ at e t)
    → from_point (es ++ c ∷ []) e ≡ from_point ((es ++ c ∷ []) ++ c ∷ []) e
point_deeper [] es c h r = absurd (omega arith)
point_deeper (d ∷ []) es c h r = absurd (omega arith)
point_deeper (d ∷ (d' ∷ e)) [] c h r =
    let up = r 0 1 (omega arith) (omega arith) in
    elim (cases_lt d c) [
      | inl l ↦ from_less d c (d' ∷ e) [] l ∙ sym (from_less d c (d' ∷ e) (c ∷ []) l)
      | inr l ↦ elim (cases_lt c d) [
        | inl m ↦ from_more d c (d' ∷ e) [] m ∙ sym (from_more d c (d' ∷ e) (c ∷ []) m)
        | inr m ↦ from_least d c (d' ∷ e) l ∙ sym (from_same d c (d' ∷ e) (c ∷ []) (omega arith) ∙ from_least d' c e (omega arith))
      ]
    ]
point_deeper (d ∷ (d' ∷ e)) (b ∷ es) c h r =
    from_alike b (es ++ c ∷ []) ((es ++ c ∷ []) ++ c ∷ []) d (d' ∷ e)
    (point_deeper (d' ∷ e) es c (omega arith) (λ s t k l. r (suc s) (suc t) (omega arith) (omega arith)))

-- of lists of numbers of at most k: past the last child that may follow the point comes its next one
pub point_back : (e es : List ℕ) (c k : ℕ) → suc (length es) < length e → ((s : ℕ) → s < length e → at e s ≤ k)
    → from_point ((es ++ c ∷ []) ++ suc k ∷ []) e ≡ from_point (es ++ suc c ∷ []) e
point_back [] es c k h w = absurd (omega arith)
point_back (d ∷ []) es c k h w = absurd (omega arith)
point_back (d ∷ (d' ∷ e)) [] c k h w =
    let top = w 1 (omega arith) in
    elim (cases_lt d c) [
      | inl l ↦ from_less d c (d' ∷ e) (suc k ∷ []) l ∙ sym (from_less d (suc c) (d' ∷ e) [] (omega arith))
      | inr l ↦ elim (cases_lt c d) [
        | inl m ↦ from_more d c (d' ∷ e) (suc k ∷ []) m ∙ sym (from_least d (suc c) (d' ∷ e) (omega arith))
        | inr m ↦ from_same d c (d' ∷ e) (suc k ∷ []) (omega arith) ∙ from_less d' (suc k) e [] (omega arith) ∙ sym (from_less d (suc c) (d' ∷ e) [] (omega arith))
      ]
    ]
point_back (d ∷ (d' ∷ e)) (b ∷ es) c k h w =
    from_alike b ((es ++ c ∷ []) ++ suc k ∷ []) (es ++ suc c ∷ []) d (d' ∷ e)
    (point_back (d' ∷ e) es c k (omega arith) (λ s l. w (suc s) (omega arith)))

-- a list of the same length that comes after a list isn't before its next one
pub point_next : (e es : List ℕ) (c : ℕ) → length e ≡ suc (length es)
    → is_gt (slice_cmp nat_cmp e (es ++ c ∷ [])) ≡ from_point (es ++ suc c ∷ []) e
point_next [] es c h = absurd (omega arith)
point_next (d ∷ (d' ∷ e)) [] c h = absurd (omega arith)
point_next (d ∷ []) [] c h = elim (cases_lt d c) [
  | inl l ↦ ap is_gt (first_less d c [] [] l) ∙ sym (from_less d (suc c) [] [] (omega arith))
  | inr l ↦ elim (cases_lt c d) [
    | inl m ↦ ap is_gt (first_more d c [] [] m) ∙ sym (from_least d (suc c) [] (omega arith))
    | inr m ↦ ap is_gt (first_same d c [] [] (omega arith)) ∙ sym (from_less d (suc c) [] [] (omega arith))
  ]
]
point_next (d ∷ e) (b ∷ es) c h = elim (cases_lt d b) [
  | inl l ↦ ap is_gt (first_less d b e (es ++ c ∷ []) l) ∙ sym (from_less d b e (es ++ suc c ∷ []) l)
  | inr l ↦ elim (cases_lt b d) [
    | inl m ↦ ap is_gt (first_more d b e (es ++ c ∷ []) m) ∙ sym (from_more d b e (es ++ suc c ∷ []) m)
    | inr m ↦
        ap is_gt (first_same d b e (es ++ c ∷ []) (omega arith))
        ∙ point_next e es c (omega arith)
        ∙ sym (from_same d b e (es ++ suc c ∷ []) (omega arith))
  ]
]

-- nothing comes before child 1
pub point_first : (e : List ℕ) → 1 ≤ length e → 1 ≤ at e 0 → from_point (1 ∷ []) e ≡ true
point_first [] h l = absurd (omega arith)
point_first (d ∷ e) h l = from_least d 1 e l

-- all come before a child past the greatest first one
pub point_past : (e : List ℕ) (k : ℕ) → 1 ≤ length e → at e 0 ≤ k → from_point (suc k ∷ []) e ≡ false
point_past [] k h l = absurd (omega arith)
point_past (d ∷ e) k h l = from_less d (suc k) e [] (omega arith)

-- tests that agree on the elements keep the same ones
pub filter_same : {A : Type 0} (f g : A → Bool) (xs : List A) → ((x : A) → In x xs → f x ≡ g x) → filter f xs ≡ filter g xs
filter_same f g [] h = refl
filter_same f g (x ∷ xs) h = ap₂ (λ (b : Bool) (ys : List _). cond b (x ∷ ys) ys) (h x (inl refl)) (filter_same f g xs (λ y i. h y (inr i)))

-- a test that each element passes keeps all
pub filter_all : {A : Type 0} (f : A → Bool) (xs : List A) → ((x : A) → In x xs → f x ≡ true) → filter f xs ≡ xs
filter_all f [] h = refl
filter_all f (x ∷ xs) h = ap₂ (λ (b : Bool) (ys : List _). cond b (x ∷ ys) ys) (h x (inl refl)) (filter_all f xs (λ y i. h y (inr i)))

-- a test that none passes keeps none
pub filter_none : {A : Type 0} (f : A → Bool) (xs : List A) → ((x : A) → In x xs → f x ≡ false) → filter f xs ≡ []
filter_none f [] h = refl
filter_none f (x ∷ xs) h = ap₂ (λ (b : Bool) (ys : List _). cond b (x ∷ ys) ys) (h x (inl refl)) (filter_none f xs (λ y i. h y (inr i)))

-- of an ascending list, what isn't before an element is the element and what comes after it
pub ascending_cut : {A : Type 0} (order : A → A → Ordering) → IsTotalOrder order → (w : A) (xs : List A) → Ascending order xs → In w xs
    → filter (λ e. is_ge (order e w)) xs ≡ w ∷ filter (λ e. is_gt (order e w)) xs
ascending_cut order o w [] a i = absurd i
ascending_cut {A = A} order o w (x ∷ xs) a (inl e) =
    ap₂ (λ (b : Bool) (ys : List A). cond b (x ∷ ys) ys) (ap is_ge same) (filter_same (λ e. is_ge (order e w)) (λ e. is_gt (order e w)) xs (λ y i. ap is_ge (later y i) ∙ sym (ap is_gt (later y i))))
    ∙ ap₂ (λ (z : A) (ys : List A). z ∷ ys) (sym e) (sym (ap (λ (b : Bool). cond b (x ∷ filter (λ e. is_gt (order e w)) xs) (filter (λ e. is_gt (order e w)) xs)) (ap is_gt same)))
  where
    same : order x w ≡ Equal
    same = ap (order x) e ∙ tied_itself o x

    later : (y : A) → In y xs → order y w ≡ Greater
    later y i = o.antisymm y w ∙ ap ordering_reverse (ap (λ z. order z y) e ∙ a.0 y i)
ascending_cut {A = A} order o w (x ∷ xs) a (inr i) =
    ap (λ (b : Bool). cond b (x ∷ filter (λ e. is_ge (order e w)) xs) (filter (λ e. is_ge (order e w)) xs)) (ap is_ge (a.0 w i))
    ∙ ascending_cut order o w xs a.1 i
    ∙ ap (λ ys. w ∷ ys) (sym (ap (λ (b : Bool). cond b (x ∷ filter (λ e. is_gt (order e w)) xs) (filter (λ e. is_gt (order e w)) xs)) (ap is_gt (a.0 w i))))
