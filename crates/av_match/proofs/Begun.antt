-- Which places go on with those chosen.
use Rattle.std.proofs.Common.{◌≡◌, ℕ, suc, ◌-◌, ◌<◌, ◌≤◌, ◌≢◌, ◌↔◌, ◌⊎◌, inl, inr, List, [], ◌∷◌, ◌++◌, length, take, true, refl, ◌∙◌, ap, arith}
use Rattle.std.proofs.Math.Seq.{take-suc}
use Rattle.std.proofs.lemmas.Bool.{cases_lt, cases_eq}
use Rattle.std.proofs.lemmas.List.{map-append, length-append, length-map, get_or-map, get_or-take}
use Rattle.av_perm.specs.Word.{entry, is_perm}
use Rattle.av_perm.specs.Contain.{at_places}
use Rattle.av_perm.specs.Relations.{at, SameOrder}
use Rattle.av_perm.proofs.Occurrences.{entry_at}
use Rattle.av_perm.proofs.PermWords.{perm_word}
use Rattle.av_perm.proofs.ListLaws.{snoc_before, snoc_last}
use Rattle.av_match.specs.Search.{IsBegun}

-- ---- one entry more at the end of two lists in the same order

-- `x` lies to `a` as `y` to `b`
abbrev LieAlike : ℕ → ℕ → ℕ → ℕ → Type 0
LieAlike a b x y = ((a < x) ↔ (b < y)) × ((x < a) ↔ (y < b))

-- the longer lists are in the same order where the new entries lie alike to each of the old ones
order_more : (xs ys : List ℕ) (x y : ℕ) → SameOrder xs ys → ((s : ℕ) → s < length xs → LieAlike (at xs s) (at ys s) x y)
    → SameOrder (xs ++ x ∷ []) (ys ++ y ∷ [])
order_more xs ys x y o f = record {
  count = omega (arith, length-append xs (x ∷ []), length-append ys (y ∷ []), o.count);
  alike = λ s t hs ht. by s t (cases_eq s (length xs)) (cases_eq t (length xs)) (omega (arith, length-append xs (x ∷ []))) (omega (arith, length-append xs (x ∷ [])));
}
  where
    by : (s t : ℕ) → (s ≡ length xs) ⊎ (s ≢ length xs) → (t ≡ length xs) ⊎ (t ≢ length xs) → s ≤ length xs → t ≤ length xs
        → (at (xs ++ x ∷ []) s < at (xs ++ x ∷ []) t) ↔ (at (ys ++ y ∷ []) s < at (ys ++ y ∷ []) t)
    by s t (inl e) (inl f) hs ht = rw (e, f) (λ l. absurd (omega arith), λ l. absurd (omega arith))
    by s t (inl e) (inr ne) hs ht =
        rw (snoc_last xs x s e, snoc_last ys y s (e ∙ o.count), snoc_before xs x t (omega arith), snoc_before ys y t (omega (arith, o.count))) (f t (omega arith)).1
    by s t (inr ne) (inl e) hs ht =
        rw (snoc_last xs x t e, snoc_last ys y t (e ∙ o.count), snoc_before xs x s (omega arith), snoc_before ys y s (omega (arith, o.count))) (f s (omega arith)).0
    by s t (inr ne) (inr nf) hs ht =
        rw (snoc_before xs x s (omega arith), snoc_before ys y s (omega (arith, o.count)), snoc_before xs x t (omega arith), snoc_before ys y t (omega (arith, o.count)))
        (o.alike s t (omega arith) (omega arith))

-- and only there
more_order : (xs ys : List ℕ) (x y : ℕ) → length xs ≡ length ys → SameOrder (xs ++ x ∷ []) (ys ++ y ∷ []) → (s : ℕ) → s < length xs → LieAlike (at xs s) (at ys s) x y
more_order xs ys x y n o s h =
    let long = length-append xs (x ∷ []) in
    let a = o.alike s (length xs) (omega arith) (omega arith) in
    let b = o.alike (length xs) s (omega arith) (omega arith) in (
      rw (snoc_before xs x s h, snoc_before ys y s (omega arith), snoc_last xs x (length xs) refl, snoc_last ys y (length xs) n) at a,
      rw (snoc_before xs x s h, snoc_before ys y s (omega arith), snoc_last xs x (length xs) refl, snoc_last ys y (length xs) n) at b,
    )

-- ---- the window

-- `x` lies to `a` as `y` to another number `b`
abbrev pub Lies : ℕ → ℕ → ℕ → ℕ → Type 0
Lies a b x y = (b < y → a < x) × (y ≤ b → x < a)

-- the same of the pattern's entry `k` and the entry at the place chosen for it
abbrev pub LiesAt : List ℕ → List ℕ → List ℕ → ℕ → ℕ → ℕ → Type 0
LiesAt w p cs x y k = Lies (at w (at cs k - 1)) (at p k) x y

-- where `b` and `y` differ, it says no less
alike_lies : (a b x y : ℕ) → b ≢ y → LieAlike a b x y → Lies a b x y
alike_lies a b x y ne h = (h.0.1, λ le. h.1.1 (omega arith))

lies_alike : (a b x y : ℕ) → b ≢ y → Lies a b x y → LieAlike a b x y
lies_alike a b x y ne h = elim (cases_lt b y) [
  | inl lt ↦ let up = h.0 lt in ((λ l. lt, λ l. up), (λ l. absurd (omega arith), λ l. absurd (omega arith)))
  | inr le ↦ let down = h.1 le in ((λ l. absurd (omega arith), λ l. absurd (omega arith)), (λ l. omega arith, λ l. down))
]

-- the entries at the places chosen, and the pattern's entries for them, by places
chosen_at : (w p cs : List ℕ) (k : ℕ) → IsBegun w p cs → k < length cs
    → (at (at_places w cs) k ≡ at w (at cs k - 1)) × (at (take (length cs) p) k ≡ at p k)
chosen_at w p cs k begun lt = (
  get_or-map (entry w) cs k 0 0 lt ∙ entry_at w (at cs k) (begun.placed k lt).0,
  get_or-take (length cs) p k 0 lt,
)

-- the same lists with one more place, and where its places lie
places_more : (w cs : List ℕ) (place : ℕ) → at_places w (cs ++ place ∷ []) ≡ at_places w cs ++ entry w place ∷ []
places_more w cs place = map-append (entry w) cs (place ∷ [])

pattern_more : (p cs : List ℕ) (place : ℕ) → length cs < length p → take (length (cs ++ place ∷ [])) p ≡ take (length cs) p ++ at p (length cs) ∷ []
pattern_more p cs place lt =
    let n : length (cs ++ place ∷ []) ≡ suc (length cs) = omega (arith, length-append cs (place ∷ [])) in
    ap (λ k. take k p) n ∙ take-suc p (length cs) 0 lt

pub placed_more : (w p cs : List ℕ) (place : ℕ) → IsBegun w p cs → 1 ≤ place → place ≤ length w
    → (s : ℕ) → s < length (cs ++ place ∷ []) → (1 ≤ at (cs ++ place ∷ []) s) × (at (cs ++ place ∷ []) s ≤ length w)
placed_more w p cs place begun one last s h = elim (cases_eq s (length cs)) [
  | inl e ↦ rw (snoc_last cs place s e) (one, last)
  | inr ne ↦
      let lt : s < length cs = omega (arith, length-append cs (place ∷ [])) in
      rw (snoc_before cs place s lt) (begun.placed s lt)
]

-- a place goes on with those chosen exactly where its entry lies to each of theirs as the pattern's entries lie
pub goes_on : (w p cs : List ℕ) (place : ℕ) → is_perm p ≡ true → IsBegun w p cs → length cs < length p → 1 ≤ place → place ≤ length w
    → IsBegun w p (cs ++ place ∷ []) ↔ ((k : ℕ) → k < length cs → LiesAt w p cs (entry w place) (at p (length cs)) k)
goes_on w p cs place perm begun lt one last =
    let long = length-map cs (entry w) in
    let ne : (k : ℕ) → k < length cs → at p k ≢ at p (length cs) = λ k h. (perm_word p perm).numbers.apart k (length cs) h lt in (
      λ more. λ k h.
          let e = chosen_at w p cs k begun h in
          let o = rw (places_more w cs place, pattern_more p cs place lt) at more.order in
          let lie = more_order (at_places w cs) (take (length cs) p) (entry w place) (at p (length cs)) begun.order.count o k (omega arith) in
          alike_lies (at w (at cs k - 1)) (at p k) (entry w place) (at p (length cs)) (ne k h) (rw (e.0, e.1) at lie),
      λ lie. record {
        placed = placed_more w p cs place begun one last;
        order = rw (places_more w cs place, pattern_more p cs place lt)
            (order_more (at_places w cs) (take (length cs) p) (entry w place) (at p (length cs)) begun.order (λ k h.
            let lk : k < length cs = omega arith in
            let e = chosen_at w p cs k begun lk in
            rw (e.0, e.1) (lies_alike (at w (at cs k - 1)) (at p k) (entry w place) (at p (length cs)) (ne k lk) (lie k lk))));
      },
    )

-- the entry at a place, as the code reads it, lies in the window
pub in_window : (w : List ℕ) (least most place : ℕ) → 1 ≤ place → (least ≤ entry w place) × (entry w place ≤ most) ↔ (least ≤ at w (place - 1)) × (at w (place - 1) ≤ most)
in_window w least most place one = rw (entry_at w place one) (λ h. h, λ h. h)
