-- The two loops of a product: a multiple of a row is added number by number, and the product multiple by multiple.
use Rattle.std.proofs.Common.{◌≡◌, ◌⊎◌, inl, inr, ℕ, suc, ◌+◌, ◌-◌, ◌*◌, ◌<◌, ◌≤◌, ◌^◌, List, length, refl, sym, ap, ap₂, ◌∙◌, subst, arith, set, min}
use Rattle.std.proofs.lemmas.Bool.{cases_eq, cases_lt}
use Rattle.std.proofs.lemmas.List.{length-set, get_or-set_same, get_or-set_other}
use Rattle.av_perm.specs.Relations.{at}
use Rattle.av_dist.specs.Rows.{moved, product, HasRoomFor, Adds}
use Rattle.av_dist.proofs.RowProducts.{moved_before, moved_at, moved_past, product_part}
use Rattle.av_dist.proofs.AddedRows.{adds_same, adds_both, room_left}

-- the first i numbers of a row, moved, are added `factor` times
pub record AddsFirst (old row : List ℕ) (from factor i : ℕ) (new : List ℕ) : Type 0 where
  pub long : length new ≡ length old
  pub done : (v : ℕ) → v < from + i → v < length old → at new v ≡ at old v + factor * moved from row v
  pub left : (v : ℕ) → from + i ≤ v → at new v ≡ at old v

pub adds_first_none : (old row : List ℕ) (from factor : ℕ) → AddsFirst old row from factor 0 old
adds_first_none old row from factor = record {
  long = refl;
  done = λ v h k. sym (ap (λ n. at old v + factor * n) (moved_before from row v (omega arith)) ∙ omega arith);
  left = λ v h. refl;
}

-- the number that is written next
next_number : (old row : List ℕ) (from factor i : ℕ) (new : List ℕ) → AddsFirst old row from factor i new
    → at new (from + i) + factor * at row i ≡ at old (from + i) + factor * moved from row (from + i)
next_number old row from factor i new a =
    let e : from + i - from ≡ i = omega arith in
    ap₂ (λ x y. x + factor * y) (a.left (from + i) (omega arith)) (sym (moved_at from row (from + i) (omega arith) ∙ ap (at row) e))

-- it fits
pub next_number_fits : (old row : List ℕ) (from factor i : ℕ) (new : List ℕ) → HasRoomFor (λ v. factor * moved from row v) old
    → AddsFirst old row from factor i new → from + i < length old → at new (from + i) + factor * at row i < 2 ^ 128
next_number_fits old row from factor i new r a h = subst (λ n. n < 2 ^ 128) (sym (next_number old row from factor i new a)) (r (from + i) h)

pub adds_first_more : (old row : List ℕ) (from factor i : ℕ) (new : List ℕ) → AddsFirst old row from factor i new → from + i < length old
    → AddsFirst old row from factor (i + 1) (set new (from + i) (at new (from + i) + factor * at row i))
adds_first_more old row from factor i new a h =
    let x = at new (from + i) + factor * at row i in
    let l = a.long in
    record {
      long = length-set new (from + i) x ∙ a.long;
      done = λ v k m. elim (cases_eq v (from + i)) [
        | inl e ↦
            subst (λ z. at (set new (from + i) x) z ≡ at old z + factor * moved from row z) (sym e)
            (get_or-set_same new (from + i) x 0 (omega arith) ∙ next_number old row from factor i new a)
        | inr n ↦ get_or-set_other new (from + i) v x 0 n ∙ a.done v (omega (arith, n)) m
      ];
      left = λ v k. get_or-set_other new (from + i) v x 0 (λ e. omega arith) ∙ a.left v (omega arith);
    }

-- all are, where the row or the numbers end
pub adds_first_all : (old row : List ℕ) (from factor i : ℕ) (new : List ℕ) → AddsFirst old row from factor i new
    → (length row ≤ i) ⊎ (length old ≤ from + i) → Adds (λ v. factor * moved from row v) old new
adds_first_all old row from factor i new a h = record {
  long = a.long;
  numbers = λ v k. elim (cases_lt v (from + i)) [
    | inl l ↦ a.done v l k
    | inr g ↦ elim h [
      | inl e ↦ a.left v (omega arith) ∙ sym (ap (λ n. at old v + factor * n) (moved_past from row v (omega arith)) ∙ omega arith)
      | inr e ↦ absurd (omega arith)
    ]
  ];
}

-- the loop ends there
pub ends : (rows len from count i : ℕ) → count ≡ min rows (len - from) → count ≤ i → from < len → (rows ≤ i) ⊎ (len ≤ from + i)
ends rows len from count i e h k = elim (cases rows (len - from) count e) [
  | inl l ↦ inl (omega arith)
  | inr l ↦ inr (omega arith)
]
  where
    cases : (a b m : ℕ) → m ≡ min a b → (a ≤ m) ⊎ (b ≤ m)
    cases a b m e = grind arith

-- the products with the first k numbers leave room for the next multiple
pub multiple_room : (old first second : List ℕ) (from k : ℕ) (now : List ℕ) → k < length first → HasRoomFor (product (length first) from first second) old
    → Adds (product k from first second) old now → HasRoomFor (λ v. at first k * moved (from + k) second v) now
multiple_room old first second from k now h =
    room_left (product k from first second) (λ v. at first k * moved (from + k) second v) (product (length first) from first second) old now
    (λ v. product_part (suc k) (length first) from first second v (omega arith))

-- it joins them
pub multiple_added : (old first second : List ℕ) (from k : ℕ) (now new : List ℕ) → Adds (product k from first second) old now
    → Adds (λ v. at first k * moved (from + k) second v) now new → Adds (product (k + 1) from first second) old new
multiple_added old first second from k now new a b =
    let s : suc k ≡ k + 1 = omega arith in
    subst (λ j. Adds (product j from first second) old new) s
    (adds_both (product k from first second) (λ v. at first k * moved (from + k) second v) old now new a b)

-- a multiple past the end is nothing
pub multiple_past : (old first second : List ℕ) (from k : ℕ) (now : List ℕ) → Adds (product k from first second) old now → length old ≤ from + k
    → Adds (product (k + 1) from first second) old now
multiple_past old first second from k now a h =
    let s : suc k ≡ k + 1 = omega arith in
    subst (λ j. Adds (product j from first second) old now) s
    (adds_same (product k from first second) (product (suc k) from first second) old now
    (λ v l. sym (ap (λ n. product k from first second v + at first k * n) (moved_before (from + k) second v (omega arith)) ∙ omega arith)) a)
