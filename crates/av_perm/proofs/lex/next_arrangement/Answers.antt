-- The pivot changes places with the last entry above it, and what follows is turned round: the next arrangement.
use Rattle.std.proofs.Common.{◌≡◌, ℕ, zero, suc, ◌+◌, ◌-◌, ◌<◌, ◌≤◌, List, [], ◌∷◌, ◌++◌, length, get_or, take, drop, swap, reverse, true, IsPermutation, refl, sym, ap, ◌∙◌, subst, arith, add-one, append_assoc, take-append-drop, drop-cons, take_all, length-take, length-append, append-nil}
use Rattle.std.proofs.Math.Seq.{get_or-append_seam, set-append_seam}
use Rattle.std.proofs.lemmas.List.{drop_all}
use Rattle.std.proofs.lemmas.List.Edits.{swap_is}
use Rattle.std.proofs.lemmas.List.Sorted.{IsPermutation-trans, IsPermutation-append_right, IsPermutation-cons, IsPermutation-reverse}
use borrow.Rule.Slice.PartMut.{put_mid}
use Rattle.av_perm.specs.Word.{is_distinct}
use Rattle.av_perm.specs.LexOrder.{from_on, descends, are_below}
use Rattle.av_perm.proofs.Monotone.{Falls, Below}
use Rattle.av_perm.proofs.LexOrder.{from_last, next_one}
use Rattle.av_perm.proofs.DescentTests.{falls_of, below_of}
use Rattle.av_perm.proofs.PermWords.{distinct_apart}
use Rattle.av_perm.proofs.lex.next_arrangement.Goals as goal

-- a list cut at one place
cut_at : (w : List ℕ) (i : ℕ) → i < length w → w ≡ take i w ++ get_or w i 0 ∷ drop (suc i) w
cut_at w i lt = sym (take-append-drop i w) ∙ ap (λ (v : List ℕ). take i w ++ v) (drop-cons w i 0 lt)

-- a list cut at two places
record Cut (w : List ℕ) (p g : ℕ) : Type 0 where
  before : List ℕ
  between : List ℕ
  after : List ℕ
  whole : w ≡ before ++ get_or w p 0 ∷ (between ++ get_or w g 0 ∷ after)
  long_before : length before ≡ p
  long_between : suc (p + length between) ≡ g
  rest : drop (suc p) w ≡ between ++ get_or w g 0 ∷ after
  last : drop (suc g) w ≡ after

cut_of : (w : List ℕ) (p g : ℕ) → p < g → g < length w → Cut w p g
cut_of [] p g lt within = absurd (omega arith)
cut_of (x ∷ w) p zero lt within = absurd (omega arith)
cut_of (x ∷ w) zero (suc g) lt within = record {
  before = [];
  between = take g w;
  after = drop (suc g) w;
  whole = ap (λ (v : List ℕ). x ∷ v) (cut_at w g (omega arith));
  long_before = refl;
  long_between = omega (arith, length-take g w);
  rest = cut_at w g (omega arith);
  last = refl;
}
cut_of (x ∷ w) (suc p) (suc g) lt within =
    let c : Cut w p g = cut_of w p g (omega arith) (omega arith) in
    record {
      before = x ∷ c.before;
      between = c.between;
      after = c.after;
      whole = ap (λ (v : List ℕ). x ∷ v) c.whole;
      long_before = ap suc c.long_before;
      long_between = omega (arith, c.long_between);
      rest = c.rest;
      last = c.last;
    }

-- two entries in each other's place
swapped : (xs hs ls : List ℕ) (x y : ℕ) → swap (xs ++ x ∷ (hs ++ y ∷ ls)) (length xs) (length (xs ++ x ∷ hs)) ≡ xs ++ y ∷ (hs ++ x ∷ ls)
swapped xs hs ls x y =
    let w : List ℕ = xs ++ x ∷ (hs ++ y ∷ ls) in
    let joined : w ≡ (xs ++ x ∷ hs) ++ y ∷ ls = sym (append_assoc xs (x ∷ hs) (y ∷ ls)) in
    let first : get_or w (length xs) 0 ≡ x = get_or-append_seam xs x (hs ++ y ∷ ls) 0 in
    let second : get_or w (length (xs ++ x ∷ hs)) 0 ≡ y = rw joined (get_or-append_seam (xs ++ x ∷ hs) y ls 0) in
    let long : length (xs ++ x ∷ hs) ≡ length (xs ++ y ∷ hs) = omega (arith, length-append xs (x ∷ hs), length-append xs (y ∷ hs)) in
    let near : length xs < length w = omega (arith, length-append xs (x ∷ (hs ++ y ∷ ls))) in
    let far : length (xs ++ x ∷ hs) < length w = omega (arith, ap length joined, length-append (xs ++ x ∷ hs) (y ∷ ls)) in
    sym (swap_is w (length xs) (length (xs ++ x ∷ hs)) 0 near far)
    ∙ rw (first, second, set-append_seam xs x (hs ++ y ∷ ls) y, ← append_assoc xs (y ∷ hs) (y ∷ ls), long, set-append_seam (xs ++ y ∷ hs) y ls x)
    (append_assoc xs (y ∷ hs) (x ∷ ls))

-- the parts round one entry
drop_past : (xs e : List ℕ) (y : ℕ) → drop (suc (length xs)) (xs ++ y ∷ e) ≡ e
drop_past [] e y = refl
drop_past (x ∷ xs) e y = drop_past xs e y

take_with : (xs e : List ℕ) (y : ℕ) → take (suc (length xs)) (xs ++ y ∷ e) ≡ xs ++ y ∷ []
take_with [] e y = refl
take_with (x ∷ xs) e y = ap (λ (v : List ℕ). x ∷ v) (take_with xs e y)

-- the entries after the first ones, turned round
turned : (xs e v r : List ℕ) (y s k : ℕ) → v ≡ xs ++ y ∷ e → s ≡ suc (length xs) → k ≡ length v - s → r ≡ reverse (take k (drop s v))
    → put_mid s k v r ≡ xs ++ y ∷ reverse e
turned xs e v r y s k ev es ek er =
    let long : k ≡ length e = omega (arith, ap length ev, length-append xs (y ∷ e)) in
    rw (er, long, es, ev, drop_past xs e y, take_with xs e y, take_all (length e) e (omega arith), drop_all (length e) e (omega arith), append-nil (reverse e))
    (append_assoc xs (y ∷ []) (reverse e))

-- what the code knows where there is a pivot: its place p, and the place g of the last entry above it
record Turn (w : List ℕ) (p g : ℕ) : Type 0 where
  cut : Cut w p g
  falls : Falls (cut.between ++ get_or w g 0 ∷ cut.after)
  less : get_or w p 0 < get_or w g 0
  below : Below (get_or w p 0) cut.after

turn_of : (w : List ℕ) (p g s : ℕ) → s ≡ suc p → p < g → g < length w → is_distinct w ≡ true → descends (drop s w) ≡ true
    → get_or w p 0 ≤ get_or w g 0 → are_below (get_or w p 0) (drop (g + 1) w) ≡ true → Turn w p g
turn_of w p g s es lt within distinct falls above below =
    let cut : Cut w p g = cut_of w p g lt within in
    record {
      cut = cut;
      falls = falls_of (cut.between ++ get_or w g 0 ∷ cut.after) (rw (← cut.rest, ← es) falls);
      less = omega (arith, above, distinct_apart w distinct p g lt within);
      below = below_of (get_or w p 0) cut.after (rw (← cut.last, ← add-one g) below);
    }

-- the list after the first step
swapped_is : (w v xs hs ls : List ℕ) (x y p g : ℕ) → w ≡ xs ++ x ∷ (hs ++ y ∷ ls) → length xs ≡ p → suc (p + length hs) ≡ g
    → v ≡ swap w p g → v ≡ xs ++ y ∷ (hs ++ x ∷ ls)
swapped_is w v xs hs ls x y p g whole before between ev =
    let far : g ≡ length (xs ++ x ∷ hs) = omega (arith, length-append xs (x ∷ hs)) in
    ev ∙ rw (whole, ← before, far) (swapped xs hs ls x y)

-- what the two steps make
both_steps : (w v r : List ℕ) (p g s k : ℕ) → Turn w p g → s ≡ suc p → v ≡ swap w p g → k ≡ length v - s → r ≡ reverse (take k (drop s v))
    → IsPermutation w v → (from_on w ≡ w ∷ from_on (put_mid s k v r)) × IsPermutation w (put_mid s k v r)
both_steps w v r p g s k t es ev ek er moved =
    let x : ℕ = get_or w p 0 in
    let y : ℕ = get_or w g 0 in
    let e : List ℕ = t.cut.between ++ x ∷ t.cut.after in
    let is : v ≡ t.cut.before ++ y ∷ e = swapped_is w v t.cut.before t.cut.between t.cut.after x y p g t.cut.whole t.cut.long_before t.cut.long_between ev in
    rw (turned t.cut.before e v r y s k is (omega (arith, t.cut.long_before)) ek er) (
      subst (λ (u : List ℕ). from_on u ≡ u ∷ from_on (t.cut.before ++ y ∷ reverse e)) (sym t.cut.whole) (next_one t.cut.before t.cut.between t.cut.after x y t.falls t.less t.below),
      IsPermutation-trans w (t.cut.before ++ y ∷ e) (t.cut.before ++ y ∷ reverse e)
          (subst (λ (u : List ℕ). IsPermutation w u) is moved)
          (IsPermutation-append_right t.cut.before (y ∷ e) (y ∷ reverse e) (IsPermutation-cons y e (reverse e) (IsPermutation-reverse e))),
    )

pub returns-then-start-eq0-clause-order : goal.returns-then-start-eq0-clause-order
returns-then-start-eq0-clause-order c =
    from_last c.args.entries.now (falls_of c.args.entries.now (subst (λ (n : ℕ). descends (drop n c.args.entries.now) ≡ true) c.if-start-eq0.true c.last_descent-start.ensures.falls))

pub last_above-greater-requires-clause-rises : goal.last_above-greater-requires-clause-rises
last_above-greater-requires-clause-rises c =
    let w : List ℕ = c.args.entries.now in
    let p : ℕ = c.last_descent-start.result - 1 in
    let e : p + 1 ≡ c.last_descent-start.result = omega arith in
    let apart : get_or w p 0 ≡ get_or w c.last_descent-start.result 0 → ⊥ =
    distinct_apart w c.requires.distinct p c.last_descent-start.result (omega arith) c.last_descent-start.ensures.within in
    rw e (omega (arith, c.last_descent-start.ensures.longest (omega arith), apart))

-- the two steps make the next arrangement, of the same entries
next_made : (c : goal.After-slice_known-3-1) →
    let made = put_mid c.last_descent-start.result (length c.swap.new.self - c.last_descent-start.result) c.swap.new.self c.reverse.new.self in
    (from_on c.args.entries.now ≡ c.args.entries.now ∷ from_on made) × IsPermutation c.args.entries.now made
next_made c =
    let w = c.args.entries.now in
    let start = c.last_descent-start.result in
    let above = c.last_above-greater.ensures in
    both_steps w c.swap.new.self c.reverse.new.self (start - 1) c.last_above-greater.result start (length c.swap.new.self - start)
    (turn_of w (start - 1) c.last_above-greater.result start (omega arith) above.after above.within c.requires.distinct
    c.last_descent-start.ensures.falls above.above above.last)
    (omega arith) c.swap.ensures.after refl c.reverse.ensures.after c.swap.ensures.permutation

pub returns-clause-order : goal.returns-clause-order
returns-clause-order c = (next_made c).0

pub returns-clause-same : goal.returns-clause-same
returns-clause-same c = (next_made c).1
