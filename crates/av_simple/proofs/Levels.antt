-- The simple words of a class by length, as the search gathers them.
use Rattle.std.proofs.Common.{◌≡◌, ℕ, zero, suc, ◌+◌, ◌-◌, ◌<◌, ◌≤◌, Bool, true, false, ◌&&◌, cond, List, [], ◌∷◌, ◌++◌, length, get_or, map, flat_map, refl, sym, ap, ◌∙◌, arith, append_assoc, append-nil}
use Rattle.std.specs.List.{filter}
use Rattle.av_perm.specs.Lists.{counting}
use Rattle.av_perm.specs.Word.{words}
use Rattle.av_perm.specs.Class.{avoids_all}
use Rattle.av_perm.specs.Simple.{is_simple}
use Rattle.av_perm.specs.Gap.{simples, simples_below}
use Rattle.av_simple.specs.Searched.{levels_to}

-- the word is simple and one of the class
abbrev pub is_simple_of : List (List ℕ) → List ℕ → Bool
is_simple_of basis w = is_simple w && avoids_all basis w

filter_filter : {A : Type 0} (p q : A → Bool) (xs : List A) → filter p (filter q xs) ≡ filter (λ x. p x && q x) xs
filter_filter {A = A} p q [] = refl
filter_filter {A = A} p q (x ∷ xs) = by (p x) (q x) refl (filter_filter p q xs)
  where
    by : (s t : Bool) → p x ≡ s → filter p (filter q xs) ≡ filter (λ y. p y && q y) xs
        → filter p (cond t (x ∷ filter q xs) (filter q xs)) ≡ cond (s && t) (x ∷ filter (λ y. p y && q y) xs) (filter (λ y. p y && q y) xs)
    by true true e r = ap (λ b. cond b (x ∷ filter p (filter q xs)) (filter p (filter q xs))) e ∙ ap (λ l. x ∷ l) r
    by false true e r = ap (λ b. cond b (x ∷ filter p (filter q xs)) (filter p (filter q xs))) e ∙ r
    by true false e r = r
    by false false e r = r

pub simples_filter : (basis : List (List ℕ)) (m : ℕ) → simples basis m ≡ filter (is_simple_of basis) (words m)
unfolding simples
simples_filter basis m = filter_filter is_simple (avoids_all basis) (words m)

-- a word that is kept, and one that isn't
keeps_first : (basis kept rest : List (List ℕ)) (w : List ℕ) → is_simple_of basis w ≡ true
    → kept ++ filter (is_simple_of basis) (w ∷ rest) ≡ (kept ++ w ∷ []) ++ filter (is_simple_of basis) rest
keeps_first basis kept rest w e =
    ap (λ b. kept ++ cond b (w ∷ filter (is_simple_of basis) rest) (filter (is_simple_of basis) rest)) e
    ∙ sym (append_assoc kept (w ∷ []) (filter (is_simple_of basis) rest))

leaves_first : (basis kept rest : List (List ℕ)) (w : List ℕ) → is_simple_of basis w ≡ false
    → kept ++ filter (is_simple_of basis) (w ∷ rest) ≡ kept ++ filter (is_simple_of basis) rest
leaves_first basis kept rest w e =
    ap (λ b. kept ++ cond b (w ∷ filter (is_simple_of basis) rest) (filter (is_simple_of basis) rest)) e

-- a turn of the loop over the words that are left, and its end
pub kept_turn : (basis kept left rest : List (List ℕ)) (w : List ℕ) (all : List (List ℕ)) → left ≡ w ∷ rest → is_simple_of basis w ≡ true
    → kept ++ filter (is_simple_of basis) left ≡ all → (kept ++ w ∷ []) ++ filter (is_simple_of basis) rest ≡ all
kept_turn basis kept left rest w all e t h = sym (keeps_first basis kept rest w t) ∙ ap (λ l. kept ++ filter (is_simple_of basis) l) (sym e) ∙ h

pub left_turn : (basis kept left rest : List (List ℕ)) (w : List ℕ) (all : List (List ℕ)) → left ≡ w ∷ rest → is_simple_of basis w ≡ false
    → kept ++ filter (is_simple_of basis) left ≡ all → kept ++ filter (is_simple_of basis) rest ≡ all
left_turn basis kept left rest w all e t h = sym (leaves_first basis kept rest w t) ∙ ap (λ l. kept ++ filter (is_simple_of basis) l) (sym e) ∙ h

pub kept_all : (basis kept left : List (List ℕ)) (m : ℕ) → left ≡ [] → kept ++ filter (is_simple_of basis) left ≡ filter (is_simple_of basis) (words m) → kept ≡ simples basis m
kept_all basis kept left m e h = sym (append-nil kept) ∙ ap (λ l. kept ++ filter (is_simple_of basis) l) (sym e) ∙ h ∙ sym (simples_filter basis m)

-- the levels, one after another
map_counting : {A : Type 0} (f : ℕ → A) (lo n i : ℕ) (d : A) → i < n → get_or (map f (counting lo n)) i d ≡ f (lo + i)
map_counting {A = A} f lo zero i d h = absurd (omega arith)
map_counting {A = A} f lo (suc n) zero d h = let e : lo + 0 ≡ lo = omega arith in ap f (sym e)
map_counting {A = A} f lo (suc n) (suc i) d h = let e : suc lo + i ≡ lo + suc i = omega arith in map_counting f (suc lo) n i d (omega arith) ∙ ap f e

length_counting : {A : Type 0} (f : ℕ → A) (lo n : ℕ) → length (map f (counting lo n)) ≡ n
length_counting {A = A} f lo zero = refl
length_counting {A = A} f lo (suc n) = ap suc (length_counting f (suc lo) n)

pub length_levels : (basis : List (List ℕ)) (last : ℕ) → length (levels_to basis last) ≡ last - 3
length_levels basis last = length_counting (simples basis) 4 (last - 3)

pub level_at : (basis : List (List ℕ)) (last m : ℕ) (d : List (List ℕ)) → 4 ≤ m → m ≤ last → get_or (levels_to basis last) (m - 4) d ≡ simples basis m
level_at basis last m d low high =
    let e : 4 + (m - 4) ≡ m = omega arith in
    map_counting (simples basis) 4 (last - 3) (m - 4) d (omega arith) ∙ ap (simples basis) e

counting_snoc : {A : Type 0} (f : ℕ → A) (lo n : ℕ) → map f (counting lo (suc n)) ≡ map f (counting lo n) ++ f (lo + n) ∷ []
counting_snoc {A = A} f lo zero = let e : lo + 0 ≡ lo = omega arith in ap (λ k. f k ∷ []) (sym e)
counting_snoc {A = A} f lo (suc n) =
    let e : suc lo + n ≡ lo + suc n = omega arith in
    ap (λ l. f lo ∷ l) (counting_snoc f (suc lo) n ∙ ap (λ k. map f (counting (suc lo) n) ++ f k ∷ []) e)

pub levels_more : (basis : List (List ℕ)) (m : ℕ) → 4 ≤ m → levels_to basis m ≡ levels_to basis (m - 1) ++ simples basis m ∷ []
levels_more basis m low =
    let a : m - 3 ≡ suc (m - 1 - 3) = omega arith in
    let b : 4 + (m - 1 - 3) ≡ m = omega arith in
    ap (λ n. map (simples basis) (counting 4 n)) a ∙ counting_snoc (simples basis) 4 (m - 1 - 3) ∙ ap (λ k. map (simples basis) (counting 4 (m - 1 - 3)) ++ simples basis k ∷ []) b

-- the words of all levels
abbrev pub all_of : List (List (List ℕ)) → List (List ℕ)
all_of levels = flat_map (λ l. l) levels

all_map : (f : ℕ → List (List ℕ)) (xs : List ℕ) → all_of (map f xs) ≡ flat_map f xs
all_map f [] = refl
all_map f (x ∷ xs) = ap (λ l. f x ++ l) (all_map f xs)

all_snoc : (ls : List (List (List ℕ))) (l : List (List ℕ)) → all_of (ls ++ l ∷ []) ≡ all_of ls ++ l
all_snoc [] l = append-nil l
all_snoc (k ∷ ls) l = ap (λ x. k ++ x) (all_snoc ls l) ∙ sym (append_assoc k (all_of ls) l)

-- where the last two levels are empty, the words of all are the simple words below the gap
pub roots_are : (basis : List (List ℕ)) (g : ℕ) → 4 ≤ g → simples basis g ≡ [] → simples basis (suc g) ≡ [] → all_of (levels_to basis (suc g)) ≡ simples_below basis g
unfolding simples_below
roots_are basis g low a b =
    let one : suc g - 1 ≡ g = omega arith in
    let count : g - 1 - 3 ≡ g - 4 = omega arith in
    ap all_of (levels_more basis (suc g) (omega arith)) ∙ all_snoc (levels_to basis (suc g - 1)) (simples basis (suc g))
    ∙ ap (λ l. all_of (levels_to basis (suc g - 1)) ++ l) b ∙ append-nil (all_of (levels_to basis (suc g - 1)))
    ∙ ap (λ k. all_of (levels_to basis k)) one
    ∙ ap all_of (levels_more basis g low) ∙ all_snoc (levels_to basis (g - 1)) (simples basis g)
    ∙ ap (λ l. all_of (levels_to basis (g - 1)) ++ l) a ∙ append-nil (all_of (levels_to basis (g - 1)))
    ∙ ap (λ n. all_of (map (simples basis) (counting 4 n))) count
    ∙ all_map (simples basis) (counting 4 (g - 4))
