-- A fibre, place by place.
use Rattle.std.proofs.Common.{◌≡◌, ℕ, zero, suc, ◌+◌, ◌<◌, List, [], ◌∷◌, ◌++◌, length, get_or, take, cond, Bool, eqb, eq-eqb, ne_eqb, true, false, append-nil, refl, sym, ap, ◌∙◌, arith}
use Rattle.av_perm.specs.Word.{entry}
use Rattle.av_perm.specs.Fibre.{fibre}

-- one more place
pub fibre_more : (γ e : List ℕ) (i n : ℕ) → n < length γ → n < length e
    → fibre (take (suc n) γ) (take (suc n) e) i ≡ fibre (take n γ) (take n e) i ++ cond (eqb (get_or e n 0) i) (get_or γ n 0 ∷ []) []
fibre_more [] e i n h k = absurd (omega arith)
fibre_more (x ∷ γ) [] i n h k = absurd (omega arith)
fibre_more (x ∷ γ) (c ∷ e) i zero h k = refl
fibre_more (x ∷ γ) (c ∷ e) i (suc n) h k =
    let r = fibre_more γ e i n (omega arith) (omega arith) in
    let next : List ℕ = cond (eqb (get_or e n 0) i) (get_or γ n 0 ∷ []) [] in
    elim (eqb c i) as (λ b. cond b (x ∷ fibre (take (suc n) γ) (take (suc n) e) i) (fibre (take (suc n) γ) (take (suc n) e) i) ≡ cond b (x ∷ fibre (take n γ) (take n e) i) (fibre (take n γ) (take n e) i) ++ next) [
      | true ↦ ap (λ (l : List ℕ). x ∷ l) r
      | false ↦ r
    ]

-- the next place goes to the child
pub fibre_with : (γ e : List ℕ) (i n : ℕ) → n < length γ → n < length e → entry e (n + 1) ≡ i
    → fibre (take (n + 1) γ) (take (n + 1) e) i ≡ fibre (take n γ) (take n e) i ++ entry γ (n + 1) ∷ []
fibre_with γ e i n h k q =
    let a : n + 1 ≡ suc n = omega arith in
    rw a (fibre_more γ e i n h k ∙ ap (λ (b : Bool). fibre (take n γ) (take n e) i ++ cond b (get_or γ n 0 ∷ []) []) (eq-eqb (get_or e n 0) i (ap (entry e) (sym a) ∙ q)))

-- the next place goes elsewhere
pub fibre_without : (γ e : List ℕ) (i n : ℕ) → n < length γ → n < length e → (entry e (n + 1) ≡ i → ⊥)
    → fibre (take (n + 1) γ) (take (n + 1) e) i ≡ fibre (take n γ) (take n e) i
fibre_without γ e i n h k q =
    let a : n + 1 ≡ suc n = omega arith in
    rw a (fibre_more γ e i n h k ∙ ap (λ (b : Bool). fibre (take n γ) (take n e) i ++ cond b (get_or γ n 0 ∷ []) []) (ne_eqb (get_or e n 0) i (λ r. q (ap (entry e) a ∙ r))) ∙ append-nil (fibre (take n γ) (take n e) i))
