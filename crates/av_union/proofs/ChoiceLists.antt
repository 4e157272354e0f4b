-- The choices in a word, one at a time: the list holds exactly those that there are.
use Rattle.std.proofs.Common.{◌≡◌, ℕ, zero, suc, ◌+◌, ◌-◌, ◌<◌, ◌≤◌, inl, inr, List, ◌∷◌, ◌++◌, map, sym, ap, ◌∙◌, subst, arith}
use Rattle.std.specs.List.{flat_map}
use Rattle.av_perm.specs.Lists.{counting}
use Rattle.av_perm.proofs.Membership.{In, In_append_cases, append_left, append_right, In_map, map_In, In_flat_map, flat_map_In, In_counting, counting_In}
use Rattle.av_union.specs.declared.choices.Choice.{Choice}
use Rattle.av_union.specs.declared.choices.Choice.TheVariants.{Shared, New}
use Rattle.av_union.specs.Choices.{IsChoice, shared_from, new_at, new_after, choices_from, choices}

-- an entry that is there comes first
pub shared_next : (n k s v : ℕ) → k < n → choices_from n k s v ≡ Shared k ∷ choices_from n (k + 1) s v
shared_next n k s v h =
    let e : n - k ≡ suc (n - (k + 1)) = omega arith in
    let f : suc k ≡ k + 1 = omega arith in
    let new : List Choice = new_at n s v ++ new_after n s in
    ap (λ m. map (λ p. Shared p) (counting k m) ++ new) e ∙ ap (λ j. Shared k ∷ (map (λ p. Shared p) (counting j (n - (k + 1))) ++ new)) f

-- where none is left, only new ones are
no_shared : (n k s v : ℕ) → n ≤ k → choices_from n k s v ≡ new_at n s v ++ new_after n s
no_shared n k s v h =
    let e : n - k ≡ 0 = omega arith in
    ap (λ m. map (λ p. Shared p) (counting k m) ++ (new_at n s v ++ new_after n s)) e

-- a new one before the same place comes next
pub new_next : (n k s v : ℕ) → n ≤ k → v ≤ n → choices_from n k s v ≡ New s v ∷ choices_from n k s (v + 1)
new_next n k s v h le =
    let e : suc n - v ≡ suc (suc n - (v + 1)) = omega arith in
    let f : suc v ≡ v + 1 = omega arith in
    no_shared n k s v h
    ∙ ap (λ m. map (λ b. New s b) (counting v m) ++ new_after n s) e
    ∙ ap (λ j. New s v ∷ (map (λ b. New s b) (counting j (suc n - (v + 1))) ++ new_after n s)) f
    ∙ ap (λ (l : List Choice). New s v ∷ l) (sym (no_shared n k s (v + 1) h))

-- where the new ones before a place are at an end, those after it are left
no_new : (n s v : ℕ) → n < v → new_at n s v ++ new_after n s ≡ new_after n s
no_new n s v h =
    let e : suc n - v ≡ 0 = omega arith in
    ap (λ m. map (λ b. New s b) (counting v m) ++ new_after n s) e

-- and the first one before the next place comes next
pub place_next : (n k s v : ℕ) → n ≤ k → n < v → s < n → choices_from n k s v ≡ New (s + 1) 0 ∷ choices_from n k (s + 1) 1
place_next n k s v h past lt =
    let e : n - s ≡ suc (n - (s + 1)) = omega arith in
    let f : suc s ≡ s + 1 = omega arith in
    no_shared n k s v h ∙ no_new n s v past
    ∙ ap (λ m. flat_map (λ p. new_at n p 0) (counting (suc s) m)) e
    ∙ ap (λ j. flat_map (λ p. new_at n p 0) (j ∷ counting (suc j) (n - (s + 1)))) f
    ∙ sym (no_shared n k (s + 1) 0 h)
    ∙ new_next n k (s + 1) 0 h (omega arith)

-- what is listed is a choice
pub In_choices : (n : ℕ) (c : Choice) → In c (choices n) → IsChoice n c
unfolding choices
In_choices n c i = elim (In_append_cases (shared_from n 0) (new_at n 0 0 ++ new_after n 0) c i) [
  | inl j ↦
      let a = In_map (λ p. Shared p) (counting 0 (n - 0)) c j in
      let b = In_counting (n - 0) 0 a.0 a.1 in
      let h : a.0 < n = omega (arith, b.1) in
      subst (IsChoice n) (sym a.2) h
  | inr j ↦ elim (In_append_cases (new_at n 0 0) (new_after n 0) c j) [
    | inl k ↦ there 0 (omega arith) k
    | inr k ↦
        let a = In_flat_map (λ p. new_at n p 0) (counting 1 (n - 0)) c k in
        let b = In_counting (n - 0) 1 a.0 a.1 in
        there a.0 (omega (arith, b.1)) a.2
  ]
]
  where
    there : (s : ℕ) → s ≤ n → In c (new_at n s 0) → IsChoice n c
    there s h j =
        let a = In_map (λ b. New s b) (counting 0 (suc n - 0)) c j in
        let b = In_counting (suc n - 0) 0 a.0 a.1 in
        let g : a.0 ≤ n = omega (arith, b.1) in
        subst (IsChoice n) (sym a.2) (h, g)

-- and each choice is listed
pub choices_In : (n : ℕ) (c : Choice) → IsChoice n c → In c (choices n)
unfolding choices
choices_In n (Shared s) h =
    append_left (shared_from n 0) (new_at n 0 0 ++ new_after n 0) (Shared s) (map_In (λ p. Shared p) (counting 0 (n - 0)) s (counting_In (n - 0) 0 s (omega arith) (omega (arith, h))))
choices_In n (New s v) h =
    append_right (shared_from n 0) (new_at n 0 0 ++ new_after n 0) (New s v) (at_place s h.0)
  where
    here : (p : ℕ) → In (New p v) (new_at n p 0)
    here p = map_In (λ b. New p b) (counting 0 (suc n - 0)) v (counting_In (suc n - 0) 0 v (omega arith) (omega (arith, h.1)))

    at_place : (p : ℕ) → p ≤ n → In (New p v) (new_at n 0 0 ++ new_after n 0)
    at_place zero le = append_left (new_at n 0 0) (new_after n 0) (New 0 v) (here 0)
    at_place (suc p) le =
        append_right (new_at n 0 0) (new_after n 0) (New (suc p) v)
        (flat_map_In (λ r. new_at n r 0) (counting 1 (n - 0)) (suc p) (New (suc p) v) (counting_In (n - 0) 1 (suc p) (omega arith) (omega arith)) (here (suc p)))
