-- Lists of numbers that rise or fall, turned round and joined.
use Rattle.std.proofs.Common.{◌≡◌, ℕ, ◌<◌, List, [], ◌∷◌, ◌++◌, reverse, arith}
use Rattle.std.proofs.lemmas.List.{reverse-append}

-- each is above x
abbrev pub Above : ℕ → List ℕ → Type 0
Above x [] = Unit {0}
Above x (y ∷ ys) = (x < y) × Above x ys

-- each is below x
abbrev pub Below : ℕ → List ℕ → Type 0
Below x [] = Unit {0}
Below x (y ∷ ys) = (y < x) × Below x ys

-- each number is above those before it
abbrev pub Rises : List ℕ → Type 0
Rises [] = Unit {0}
Rises (x ∷ xs) = Above x xs × Rises xs

-- each number is below those before it
abbrev pub Falls : List ℕ → Type 0
Falls [] = Unit {0}
Falls (x ∷ xs) = Below x xs × Falls xs

-- what is above a number is above a lesser one
pub above_less : (x y : ℕ) (ys : List ℕ) → x < y → Above y ys → Above x ys
above_less x y [] lt a = tt
above_less x y (z ∷ zs) lt a = (omega (arith, a.0), above_less x y zs lt a.1)

-- what is below a number is below a greater one
pub below_more : (x y : ℕ) (ys : List ℕ) → x < y → Below x ys → Below y ys
below_more x y [] lt b = tt
below_more x y (z ∷ zs) lt b = (omega (arith, b.0), below_more x y zs lt b.1)

-- two lists below a number, joined
pub below_join : (x : ℕ) (xs ys : List ℕ) → Below x xs → Below x ys → Below x (xs ++ ys)
below_join x [] ys a b = b
below_join x (z ∷ zs) ys a b = (a.0, below_join x zs ys a.1 b)

-- two lists above a number, joined
above_join : (x : ℕ) (xs ys : List ℕ) → Above x xs → Above x ys → Above x (xs ++ ys)
above_join x [] ys a b = b
above_join x (z ∷ zs) ys a b = (a.0, above_join x zs ys a.1 b)

-- a list with a first number, turned round
pub reverse_cons : (x : ℕ) (xs : List ℕ) → reverse (x ∷ xs) ≡ reverse xs ++ x ∷ []
reverse_cons x xs = reverse-append (x ∷ []) xs

-- below a number, turned round
pub below_reverse : (x : ℕ) (xs : List ℕ) → Below x xs → Below x (reverse xs)
below_reverse x [] b = tt
below_reverse x (y ∷ ys) b = rw (reverse_cons y ys) (below_join x (reverse ys) (y ∷ []) (below_reverse x ys b.1) (b.0, tt))

-- above a number, turned round
pub above_reverse : (x : ℕ) (xs : List ℕ) → Above x xs → Above x (reverse xs)
above_reverse x [] a = tt
above_reverse x (y ∷ ys) a = rw (reverse_cons y ys) (above_join x (reverse ys) (y ∷ []) (above_reverse x ys a.1) (a.0, tt))

-- numbers below x that rise, and then x and numbers above it that rise
pub rises_middle : (low : List ℕ) (x : ℕ) (high : List ℕ) → Rises low → Below x low → Above x high → Rises high → Rises (low ++ x ∷ high)
rises_middle [] x high r b a s = (a, s)
rises_middle (z ∷ low) x high r b a s =
    (above_join z low (x ∷ high) r.0 (b.0, above_less z x high b.0 a), rises_middle low x high r.1 b.1 a s)

-- what falls rises when it is turned round
pub rises_reverse : (xs : List ℕ) → Falls xs → Rises (reverse xs)
rises_reverse [] f = tt
rises_reverse (x ∷ xs) f =
    rw (reverse_cons x xs) (rises_middle (reverse xs) x [] (rises_reverse xs f.1) (below_reverse x xs f.0) tt tt)

-- a falling list, cut at a number: the part before is above it
pub falls_before : (hs : List ℕ) (y : ℕ) (ls : List ℕ) → Falls (hs ++ y ∷ ls) → Above y hs
falls_before [] y ls f = tt
falls_before (h ∷ hs) y ls f = (above_of h hs y ls f.0, falls_before hs y ls f.1)
  where
    above_of : (h : ℕ) (hs : List ℕ) (y : ℕ) (ls : List ℕ) → Below h (hs ++ y ∷ ls) → y < h
    above_of h [] y ls b = b.0
    above_of h (z ∷ zs) y ls b = above_of h zs y ls b.1

-- the part before falls
pub falls_first : (hs : List ℕ) (y : ℕ) (ls : List ℕ) → Falls (hs ++ y ∷ ls) → Falls hs
falls_first [] y ls f = tt
falls_first (h ∷ hs) y ls f = (below_of h hs (y ∷ ls) f.0, falls_first hs y ls f.1)
  where
    below_of : (h : ℕ) (hs ls : List ℕ) → Below h (hs ++ ls) → Below h hs
    below_of h [] ls b = tt
    below_of h (z ∷ zs) ls b = (b.0, below_of h zs ls b.1)

-- and so does the part from it on
pub falls_rest : (hs ls : List ℕ) → Falls (hs ++ ls) → Falls ls
falls_rest [] ls f = f
falls_rest (h ∷ hs) ls f = falls_rest hs ls f.1
