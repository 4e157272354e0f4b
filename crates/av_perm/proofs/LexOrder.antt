-- The arrangements from one on: where they begin, where they stop, and what comes next.
use Rattle.std.proofs.Common.{◌≡◌, ℕ, zero, suc, ◌<◌, not, List, [], ◌∷◌, ◌++◌, length, reverse, filter, nat_lt, ◌==◌, refl, sym, ap, ◌∙◌, arith, lt-ltb, le-ltb, ne_eqb, eq-eqb, append_assoc, append-nil}
use Rattle.std.proofs.lemmas.List.{reverse-append, length-reverse, length-append}
use Rattle.av_perm.specs.Lists.{counting}
use Rattle.av_perm.specs.Word.{arrangements, words}
use Rattle.av_perm.specs.LexOrder.{put_in_order, ascending, from_on}
use Rattle.av_perm.proofs.RisingLists.{length_counting}
use Rattle.av_perm.proofs.Monotone.{Above, Below, Rises, Falls, above_less, below_more, below_join, reverse_cons, below_reverse, above_reverse, rises_middle, rises_reverse, falls_before, falls_first, falls_rest}

-- x is put between what is below it and what is above it
put_middle : (x : ℕ) (low high : List ℕ) → Below x low → Above x high → put_in_order x (low ++ high) ≡ low ++ x ∷ high
put_middle x [] [] b a = refl
put_middle x [] (y ∷ ys) b a = rw (lt-ltb x y a.0) refl
put_middle x (z ∷ low) high b a = rw (le-ltb x z (omega (arith, b.0)), put_middle x low high b.1 a) refl

-- what rises is in order
ascending_rises : (xs : List ℕ) → Rises xs → ascending xs ≡ xs
ascending_rises [] r = refl
ascending_rises (x ∷ xs) r = rw (ascending_rises xs r.1) (put_middle x [] xs tt r.0)

-- what falls is in order when it is turned round
ascending_falls : (xs : List ℕ) → Falls xs → ascending xs ≡ reverse xs
ascending_falls [] f = refl
ascending_falls (x ∷ xs) f =
    rw (ascending_falls xs f.1, reverse_cons x xs, ← append-nil (reverse xs)) (put_middle x (reverse xs) [] (below_reverse x xs f.0) tt ∙ rw append-nil refl)

-- numbers above x don't hold it
without_above : (x : ℕ) (ys : List ℕ) → Above x ys → filter (λ z. not (z == x)) ys ≡ ys
without_above x [] a = refl
without_above x (y ∷ ys) a = rw (ne_eqb y x (λ e. absurd (omega (arith, a.0))), without_above x ys a.1) refl

-- without x, which stands between what is below it and what is above it
without_middle : (x : ℕ) (low high : List ℕ) → Below x low → Above x high → filter (λ z. not (z == x)) (low ++ x ∷ high) ≡ low ++ high
without_middle x [] high b a = rw (eq-eqb x x refl) (without_above x high a)
without_middle x (z ∷ low) high b a = rw (ne_eqb z x (λ e. absurd (omega (arith, b.0))), without_middle x low high b.1 a) refl

-- those above x
greater_middle : (x : ℕ) (low high : List ℕ) → Below x low → Above x high → filter (nat_lt x) (low ++ high) ≡ high
greater_middle x [] [] b a = refl
greater_middle x [] (y ∷ ys) b a = rw (lt-ltb x y a.0, greater_middle x [] ys tt a.1) refl
greater_middle x (z ∷ low) high b a = rw (le-ltb x z (omega (arith, b.0))) (greater_middle x low high b.1 a)

-- from the rising one on there are all arrangements
pub from_first : (xs : List ℕ) → Rises xs → from_on xs ≡ arrangements (length xs) xs
unfolding from_on arrangements
from_first [] r = refl
from_first (x ∷ xs) r =
    rw (ascending_rises xs r.1, put_middle x [] xs tt r.0, greater_middle x [] xs tt r.0, from_first xs r.1, without_middle x [] xs tt r.0) refl

-- a falling one is the last
pub from_last : (xs : List ℕ) → Falls xs → from_on xs ≡ xs ∷ []
unfolding from_on
from_last [] f = refl
from_last (x ∷ xs) f =
    rw (from_last xs f.1, ascending_falls xs f.1, ← append-nil (reverse xs), greater_middle x (reverse xs) [] (below_reverse x xs f.0) tt) refl

-- numbers in turn are above those before them
counting_above : (x lo n : ℕ) → x < lo → Above x (counting lo n)
counting_above x lo zero lt = tt
counting_above x lo (suc n) lt = (lt, counting_above x (suc lo) n (omega arith))

counting_rises : (lo n : ℕ) → Rises (counting lo n)
counting_rises lo zero = tt
counting_rises lo (suc n) = (counting_above lo (suc lo) n (omega arith), counting_rises (suc lo) n)

-- from 1, 2, .., n on there are all words
pub from_counting : (n : ℕ) → from_on (counting 1 n) ≡ words n
from_counting n = from_first (counting 1 n) (counting_rises 1 n) ∙ rw (length_counting n 1) refl

-- where the rest falls, the least number of it above the first comes to the front, and the others rise
turn : (x y : ℕ) (d low high : List ℕ) → from_on d ≡ d ∷ [] → put_in_order x (ascending d) ≡ low ++ y ∷ high
    → filter (nat_lt x) (ascending d) ≡ y ∷ high → length d ≡ length (low ++ high) → Rises (low ++ high) → Below y low → Above y high
    → from_on (x ∷ d) ≡ (x ∷ d) ∷ from_on (y ∷ (low ++ high))
unfolding from_on
turn x y d low high last order greater long rises below above =
    rw (
      long,
      last,
      order,
      greater,
      without_middle y low high below above,
      from_first (low ++ high) rises,
      ascending_rises (low ++ high) rises,
      put_middle y low high below above,
      greater_middle y low high below above,
    ) refl

-- the same after a first number
after_first : (x : ℕ) (v next : List ℕ) → from_on v ≡ v ∷ from_on next → ascending v ≡ ascending next → length v ≡ length next
    → from_on (x ∷ v) ≡ (x ∷ v) ∷ from_on (x ∷ next)
unfolding from_on
after_first x v next from order long = rw (from, order, long) refl

-- and after any first numbers
after_all : (xs v next : List ℕ) → from_on v ≡ v ∷ from_on next → ascending v ≡ ascending next → length v ≡ length next
    → from_on (xs ++ v) ≡ (xs ++ v) ∷ from_on (xs ++ next)
after_all [] v next from order long = from
after_all (x ∷ xs) v next from order long =
    after_first x (xs ++ v) (xs ++ next) (after_all xs v next from order long) (orders xs v next order) (longs xs v next long)
  where
    orders : (xs v next : List ℕ) → ascending v ≡ ascending next → ascending (xs ++ v) ≡ ascending (xs ++ next)
    orders [] v next e = e
    orders (x ∷ xs) v next e = ap (put_in_order x) (orders xs v next e)

    longs : (xs v next : List ℕ) → length v ≡ length next → length (xs ++ v) ≡ length (xs ++ next)
    longs [] v next e = e
    longs (x ∷ xs) v next e = ap suc (longs xs v next e)

-- the parts of a falling list, turned round
reverse_middle : (hs : List ℕ) (x : ℕ) (ls : List ℕ) → reverse (hs ++ x ∷ ls) ≡ reverse ls ++ x ∷ reverse hs
reverse_middle hs x ls = rw (reverse-append hs (x ∷ ls), reverse_cons x ls) (append_assoc (reverse ls) (x ∷ []) (reverse hs))

-- the next arrangement: the last number above x of the falling rest changes places with x, and the rest is turned round
pub next_one : (xs hs ls : List ℕ) (x y : ℕ) → Falls (hs ++ y ∷ ls) → x < y → Below x ls
    → from_on (xs ++ x ∷ (hs ++ y ∷ ls)) ≡ (xs ++ x ∷ (hs ++ y ∷ ls)) ∷ from_on (xs ++ y ∷ reverse (hs ++ x ∷ ls))
next_one xs hs ls x y falls lt below =
    let d : List ℕ = hs ++ y ∷ ls in
    let low : List ℕ = reverse ls ++ x ∷ [] in
    let high : List ℕ = reverse hs in
    let above_y : Above y high = above_reverse y hs (falls_before hs y ls falls) in
    let above_x : Above x (y ∷ high) = (lt, above_less x y high lt above_y) in
    let below_x : Below x (reverse ls) = below_reverse x ls below in
    let below_y : Below y low = below_join y (reverse ls) (x ∷ []) (below_more x y (reverse ls) lt below_x) (lt, tt) in
    let joined : reverse (hs ++ x ∷ ls) ≡ low ++ high = reverse_middle hs x ls ∙ sym (append_assoc (reverse ls) (x ∷ []) high) in
    let order_d : ascending d ≡ reverse ls ++ y ∷ high = ascending_falls d falls ∙ reverse_middle hs y ls in
    let order : put_in_order x (ascending d) ≡ low ++ y ∷ high =
    rw order_d (put_middle x (reverse ls) (y ∷ high) below_x above_x ∙ sym (append_assoc (reverse ls) (x ∷ []) (y ∷ high))) in
    let greater : filter (nat_lt x) (ascending d) ≡ y ∷ high = rw order_d (greater_middle x (reverse ls) (y ∷ high) below_x above_x) in
    let rises : Rises (low ++ high) =
    rw (append_assoc (reverse ls) (x ∷ []) high) (rises_middle (reverse ls) x high (rises_reverse ls (falls_rest hs (y ∷ ls) falls).1) below_x above_x.1 (rises_reverse hs (falls_first hs y ls falls))) in
    let long : length d ≡ length (low ++ high) =
    omega (arith, length-append hs (y ∷ ls), length-append low high, length-append (reverse ls) (x ∷ []), length-reverse hs, length-reverse ls) in
    let order_next : ascending (y ∷ (low ++ high)) ≡ low ++ y ∷ high = rw (ascending_rises (low ++ high) rises) (put_middle y low high below_y above_y) in
    rw joined
    (after_all xs (x ∷ d) (y ∷ (low ++ high)) (turn x y d low high (from_last d falls) order greater long rises below_y above_y) (order ∙ sym order_next) (ap suc long))
