-- The steps of a choice.
use Rattle.std.proofs.Common.{◌≡◌, ◌≢◌, ℕ, zero, suc, ◌+◌, ◌*◌, ◌-◌, ◌/◌, ◌%◌, ◌<◌, ◌≤◌, List, [], ◌∷◌, ◌++◌, length, flat_map, drop, refl, sym, ◌∙◌, ap, ap₂, subst, arith, get_or, set, append_assoc, Some, ◌⊎◌, inl, inr}
use Rattle.std.proofs.lemmas.Nat.{div-add-mod'}
use Rattle.av_perm.specs.Lists.{counting}
use Rattle.av_sys.specs.declared.terms.Term.TheVariants.{Node}
use Rattle.av_sys.specs.declared.terms.System.{System}
use Rattle.av_sys.specs.Terms.{term_at, children_of}
use Rattle.av_tree.specs.declared.choosing.Pick.{Pick}
use Rattle.av_count.specs.Choices.{ways, ahead, sum_from, grown, pairs, snoc}
use Rattle.av_sys.specs.TreeLists.{members_at, count_at}
use Rattle.av_count.specs.Members.{tail_at, term_ways}
use Rattle.av_tree.specs.Picks.{picked, Chosen, Sized}
use Rattle.av_count.proofs.Choices.{grown_step, grown_end, length_grown, length_pairs, length_ahead, entry_counting, entry_pairs, append_nil, lengths}
use Rattle.av_count.proofs.Members.{count_members, ways_same, length_subtrees, sum_more, ahead_more, ways_none, no_rest}
use Rattle.av_count.proofs.Filled.{same_or_not}

-- the tail from the first child on is the number for the term
pub tail_first : (S : System) (u t n : ℕ) (root cs : List ℕ) → term_at S u t ≡ Some (Node root cs) → tail_at S u t 1 n ≡ term_ways S n (term_at S u t)
unfolding tail_at
tail_first S u t n root cs e = rw e (length_subtrees S cs n)

-- so from any child on
pub tail_child : (S : System) (u t i n : ℕ) (cs : List ℕ) → children_of (term_at S u t) ≡ cs → tail_at S u t (i + 1) n ≡ ways (count_at S) (drop i cs) n
unfolding tail_at
tail_child S u t i n cs e = let g : i + 1 - 1 ≡ i = omega arith in rw (e, g) (length_subtrees S (drop i cs) n)

-- a place below the whole sum is never past all terms
pub sum_left : (f : ℕ → ℕ) (len at left r : ℕ) → left + sum_from f 0 at ≡ r → r < sum_from f 0 len → at ≤ len → at < len
sum_left f len at left r e lt le = by (same_or_not at len)
  where
    by : ((at ≡ len) ⊎ (at ≢ len)) → at < len
    by (inl q) = absurd (let g = ap (sum_from f 0) q in omega arith)
    by (inr q) = omega arith

-- one term is passed
pub sum_next : (f : ℕ → ℕ) (at left less x r : ℕ) → left + sum_from f 0 at ≡ r → less + f at ≡ left → less + sum_from f 0 (at + 1) ≡ r
sum_next f at left less x r e g = let h : suc at ≡ at + 1 = omega arith in rw (← h) (let k = sum_more f 0 at in let z : 0 + at ≡ at = omega arith in let m = ap f z in omega arith)

-- no child is left
pub chosen_end : (S : System) (n F r : ℕ) (ps : List Pick) → r < F * ways (count_at S) [] n → Chosen S [] n F r r ps
unfolding ways
chosen_end S zero F r ps lt = record {
  within = omega arith;
  fits = refl;
  entry = λ xs e. ap (λ z. get_or z r []) (grown_end (members_at S) xs) ∙ sym (append_nil (get_or xs r []));
}
chosen_end S (suc n) F r ps lt = absurd (omega arith)

-- quotient and remainder of a place
mixed : (q t f : ℕ) → q < f * t → (0 < t) × (q / t < f) × (q % t < t) × (q / t * t + q % t ≡ q)
mixed q t f lt =
    let e = div-add-mod' q t in
    let p : 0 < t = some t lt in
    let m : q % t < t = omega arith in
    (p, small (q / t) f t (q % t) q e lt, m, e)
  where
    some : (t : ℕ) → q < f * t → 0 < t
    some zero h = absurd (omega arith)
    some (suc t) h = omega arith

    small : (a f t r q : ℕ) → a * t + r ≡ q → q < f * t → a < f
    small a f t r q e h = grind arith

-- the lengths of what grows
pub length_grown_counts : (S : System) (cs : List ℕ) (xs : List (List (List ℕ))) (n : ℕ) → length (grown (members_at S) xs cs n) ≡ length xs * ways (count_at S) cs n
length_grown_counts S cs xs n = length_grown (members_at S) cs xs n ∙ ap (λ z. length xs * z) (ways_same (lengths (members_at S)) (count_at S) (count_members S) cs n)

-- the lists with one size for the first child
piece : System → ℕ → List ℕ → ℕ → List (List (List ℕ)) → ℕ → List (List (List ℕ))
piece S c cs n xs m = grown (members_at S) (pairs snoc xs (members_at S c m)) cs (n - m)

-- how many these are
length_piece : (S : System) (c : ℕ) (cs : List ℕ) (n : ℕ) (xs : List (List (List ℕ))) (m : ℕ)
    → length (piece S c cs n xs m) ≡ length xs * (count_at S c m * ways (count_at S) cs (n - m))
unfolding piece
length_piece S c cs n xs m =
    length_grown_counts S cs (pairs snoc xs (members_at S c m)) (n - m)
    ∙ ap (λ z. z * ways (count_at S) cs (n - m)) (length_pairs snoc xs (members_at S c m) ∙ ap (λ z. length xs * z) (count_members S c m))
    ∙ triple (length xs) (count_at S c m) (ways (count_at S) cs (n - m))
  where
    triple : (a b c : ℕ) → a * b * c ≡ a * (b * c)
    triple a b c = omega arith

-- the list at a place has the first child of this size at the remainder, and lies behind the quotient
entry_step : (S : System) (c : ℕ) (cs : List ℕ) (n F r left m q : ℕ) (ps : List Pick) → 1 ≤ m → m ≤ n
    → left + F * ahead (count_at S c) (ways (count_at S) cs) n 1 (m - 1) ≡ r
    → left < F * count_at S c m * ways (count_at S) cs (n - m)
    → Chosen S cs (n - m) (F * count_at S c m) left q ps
    → (0 < count_at S c m) × (q / count_at S c m < F) × (q % count_at S c m < count_at S c m) × (q / count_at S c m * count_at S c m + q % count_at S c m ≡ q)
    → (xs : List (List (List ℕ))) → length xs ≡ F
    → get_or (grown (members_at S) xs (c ∷ cs) n) r [] ≡ get_or xs (q / count_at S c m) [] ++ (get_or (members_at S c m) (q % count_at S c m) [] ∷ picked (members_at S) cs ps)
unfolding piece
entry_step S c cs n F r left m q ps one le place inside h x xs e =
    ap (λ z. get_or z r []) (grown_step (members_at S) xs c cs n)
    ∙ ap (λ z. get_or (flat_map (piece S c cs n xs) (counting 1 n)) z []) (sym at)
    ∙ entry_counting (piece S c cs n xs) 1 (m - 1) n left [] (omega arith) (subst (λ z. left < length (piece S c cs n xs z)) (sym there) fits)
    ∙ ap (λ z. get_or (piece S c cs n xs z) left []) there
    ∙ h.entry (pairs snoc xs (members_at S c m)) (length_pairs snoc xs (members_at S c m) ∙ ap₂ (λ a b. a * b) e counted)
    ∙ ap (λ z. z ++ picked (members_at S) cs ps) split
    ∙ append_assoc (get_or xs (q / count_at S c m) []) (get_or (members_at S c m) (q % count_at S c m) [] ∷ []) (picked (members_at S) cs ps)
  where
    there : 1 + (m - 1) ≡ m
    there = omega arith

    counted : length (members_at S c m) ≡ count_at S c m
    counted = count_members S c m

    before : length (flat_map (piece S c cs n xs) (counting 1 (m - 1))) ≡ F * ahead (count_at S c) (ways (count_at S) cs) n 1 (m - 1)
    before = length_ahead (piece S c cs n xs) (count_at S c) (ways (count_at S) cs) (length xs) n (length_piece S c cs n xs) 1 (m - 1) ∙ ap (λ z. z * ahead (count_at S c) (ways (count_at S) cs) n 1 (m - 1)) e

    at : length (flat_map (piece S c cs n xs) (counting 1 (m - 1))) + left ≡ r
    at = omega (arith, before, place)

    triple : (a b c : ℕ) → a * (b * c) ≡ a * b * c
    triple a b c = omega arith

    fits : left < length (piece S c cs n xs m)
    fits = subst (λ z. left < z) (sym (length_piece S c cs n xs m ∙ ap (λ z. z * (count_at S c m * ways (count_at S) cs (n - m))) e ∙ triple F (count_at S c m) (ways (count_at S) cs (n - m)))) inside

    split : get_or (pairs snoc xs (members_at S c m)) q [] ≡ snoc (get_or xs (q / count_at S c m) []) (get_or (members_at S c m) (q % count_at S c m) [])
    split = let w = entry_pairs snoc xs (members_at S c m) (q / count_at S c m) (q % count_at S c m) [] [] [] (omega (arith, x.1, e)) (omega (arith, x.2, counted)) in
        ap (λ z. get_or (pairs snoc xs (members_at S c m)) z []) (sym (ap (λ z. q / count_at S c m * z + q % count_at S c m) counted ∙ x.3)) ∙ w

-- the choice of the first child's size and rank
pub chosen_step : (S : System) (c : ℕ) (cs : List ℕ) (n F r left m q : ℕ) (ps : List Pick) → 1 ≤ m → m ≤ n
    → left + F * ahead (count_at S c) (ways (count_at S) cs) n 1 (m - 1) ≡ r
    → left < F * count_at S c m * ways (count_at S) cs (n - m)
    → Chosen S cs (n - m) (F * count_at S c m) left q ps
    → Chosen S (c ∷ cs) n F r (q / count_at S c m) (record { size = m; rank = q % count_at S c m } ∷ ps)
chosen_step S c cs n F r left m q ps one le place inside h = made (mixed q (count_at S c m) F h.within)
  where
    made : (0 < count_at S c m) × (q / count_at S c m < F) × (q % count_at S c m < count_at S c m) × (q / count_at S c m * count_at S c m + q % count_at S c m ≡ q)
        → Chosen S (c ∷ cs) n F r (q / count_at S c m) (record { size = m; rank = q % count_at S c m } ∷ ps)
    made x = record {
      within = x.1;
      fits = (one, le, x.2, h.fits);
      entry = λ xs e. entry_step S c cs n F r left m q ps one le place inside h x xs e;
    }

-- one size is passed
pub size_next : (f g : ℕ → ℕ) (n F at left less r : ℕ) → 1 ≤ at → left + F * ahead f g n 1 (at - 1) ≡ r → less + F * f at * g (n - at) ≡ left
    → less + F * ahead f g n 1 (at + 1 - 1) ≡ r
size_next f g n F zero left less r one e h = absurd (omega arith)
size_next f g n F (suc k) left less r one e h =
    let a : suc k - 1 ≡ k = omega arith in
    let b : suc k + 1 - 1 ≡ suc k = omega arith in
    let z : 1 + k ≡ suc k = omega arith in
    let m : ahead f g n 1 (suc k) ≡ ahead f g n 1 k + f (suc k) * g (n - suc k) = ahead_more f g n 1 k ∙ ap (λ j. ahead f g n 1 k + f j * g (n - j)) z in
    let p : left + F * ahead f g n 1 k ≡ r = subst (λ j. left + F * ahead f g n 1 j ≡ r) a e in
    subst (λ j. less + F * ahead f g n 1 j ≡ r) (sym b) (subst (λ j. less + F * j ≡ r) (sym m) (all F (ahead f g n 1 k) (f (suc k)) (g (n - suc k)) left less r p h))
  where
    all : (F a x y left less r : ℕ) → left + F * a ≡ r → less + F * x * y ≡ left → less + F * (a + x * y) ≡ r
    all F a x y left less r p h = omega arith

-- a place below the whole number is never past all sizes
pub size_left : (f g : ℕ → ℕ) (n F at left r : ℕ) → at ≤ n → left + F * ahead f g n 1 (at + 1 - 1) ≡ r → r < F * ahead f g n 1 n → at + 1 ≤ n
size_left f g n F at left r le e lt = by (same_or_not at n)
  where
    by : ((at ≡ n) ⊎ (at ≢ n)) → at + 1 ≤ n
    by (inl q) =
        let b : at + 1 - 1 ≡ n = omega arith in
        absurd (let p : left + F * ahead f g n 1 n ≡ r = subst (λ j. left + F * ahead f g n 1 j ≡ r) b e in omega arith)
    by (inr q) = omega arith

-- where there are lists for a child or more, the size is at least 1
pub size_some : (f : ℕ → ℕ → ℕ) (cs : List ℕ) (i n F r : ℕ) → i < length cs → r < F * ways f (drop i cs) n → 1 ≤ n
size_some f cs i zero F r lt h = absurd (let z = ways_none f (drop i cs) (left cs i lt) in let k = ap (λ x. F * x) z in omega arith)
  where
    left : (cs : List ℕ) (i : ℕ) → i < length cs → 1 ≤ length (drop i cs)
    left [] i lt = absurd (omega arith)
    left (c ∷ cs) zero lt = omega arith
    left (c ∷ cs) (suc i) lt = left cs i (omega arith)
size_some f cs i (suc n) F r lt h = omega arith

-- no element past the last
pub drop_past : (cs : List ℕ) (i : ℕ) → length cs ≤ i → drop i cs ≡ []
drop_past [] zero h = refl
drop_past [] (suc i) h = refl
drop_past (c ∷ cs) zero h = absurd (omega arith)
drop_past (c ∷ cs) (suc i) h = drop_past cs i (omega arith)

-- the first element from a place on
pub drop_here : {X : Type 0} (cs : List X) (i : ℕ) (d : X) → i < length cs → drop i cs ≡ get_or cs i d ∷ drop (i + 1) cs
drop_here [] i d lt = absurd (omega arith)
drop_here (c ∷ cs) zero d lt = refl
drop_here (c ∷ cs) (suc i) d lt = let e : suc i + 1 ≡ suc (i + 1) = omega arith in rw e (drop_here cs i d (omega arith))

-- a written element is the first from its place on
pub drop_set : {X : Type 0} (xs : List X) (i : ℕ) (y : X) → i < length xs → drop i (set xs i y) ≡ y ∷ drop (i + 1) xs
drop_set [] i y lt = absurd (omega arith)
drop_set (x ∷ xs) zero y lt = refl
drop_set (x ∷ xs) (suc i) y lt = let e : suc i + 1 ≡ suc (i + 1) = omega arith in rw e (drop_set xs i y (omega arith))

-- no child after the last
pub ways_end : (f : ℕ → ℕ → ℕ) (cs : List ℕ) (i : ℕ) → length cs ≤ i → ways f (drop i cs) 0 ≡ 1
unfolding ways
ways_end f cs i h = rw (drop_past cs i h) refl

-- and none of a size of at least 1
pub ways_past : (f : ℕ → ℕ → ℕ) (cs : List ℕ) (i n : ℕ) → length cs ≤ i → 1 ≤ n → ways f (drop i cs) n ≡ 0
ways_past f cs i n h one = ap (λ z. ways f z n) (drop_past cs i h) ∙ no_rest f n one

-- a choice for child i in front of those for the children after it
pub chosen_at : (S : System) (cs : List ℕ) (i c n F r left m q : ℕ) (picks : List Pick) (a b : ℕ) → i < length cs → i < length picks → get_or cs i 0 ≡ c
    → Sized S (get_or cs i 0) (drop (i + 1) cs) n F r m left
    → Chosen S (drop (i + 1) cs) (n - m) (F * count_at S c m) left q (drop (i + 1) picks)
    → a ≡ q / count_at S c m → b ≡ q % count_at S c m
    → Chosen S (drop i cs) n F r a (drop i (set picks i (record { size = m; rank = b })))
chosen_at S cs i c n F r left m q picks a b lt lt2 e sized ch ea eb =
    let s : Sized S c (drop (i + 1) cs) n F r m left = subst (λ z. Sized S z (drop (i + 1) cs) n F r m left) e sized in
    let made : Chosen S (c ∷ drop (i + 1) cs) n F r (q / count_at S c m) (record { size = m; rank = q % count_at S c m } ∷ drop (i + 1) picks) =
    chosen_step S c (drop (i + 1) cs) n F r left m q (drop (i + 1) picks) s.least s.most s.place s.within ch in
    let front : drop i cs ≡ c ∷ drop (i + 1) cs = drop_here cs i 0 lt ∙ ap (λ z. z ∷ drop (i + 1) cs) e in
    let back : drop i (set picks i (record { size = m; rank = b })) ≡ record { size = m; rank = q % count_at S c m } ∷ drop (i + 1) picks =
    drop_set picks i (record { size = m; rank = b }) lt2 ∙ ap (λ z. record { size = m; rank = z } ∷ drop (i + 1) picks) eb in
    subst (λ z. Chosen S z n F r a (drop i (set picks i (record { size = m; rank = b })))) (sym front)
    (subst (λ z. Chosen S (c ∷ drop (i + 1) cs) n F r a z) (sym back)
    (subst (λ z. Chosen S (c ∷ drop (i + 1) cs) n F r z (record { size = m; rank = q % count_at S c m } ∷ drop (i + 1) picks)) (sym ea) made))
