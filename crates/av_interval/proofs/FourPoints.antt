-- Four points with a 2413 or a 3142 are a simple set. None of the six facts holds by which a module with two of the four
-- would not have all: each pair leads to another, and so to all.
use Rattle.std.proofs.Common.{ℕ, ◌≡◌, ◌⊎◌, inl, inr, Bool, true, sym, subst, ◌∙◌, List, length, arith}
use Rattle.std.proofs.lemmas.Bool.{both_ways}
use Rattle.av_interval.proofs.Modules.{add_old, add_new, add_cases, IsModule, Simple}
use Rattle.av_interval.specs.Points.{add}
use Rattle.av_interval.proofs.PointCounts.{none, none_false}
use Rattle.av_interval.proofs.OrderCuts.{Back, FourPlaces}
use Rattle.av_interval.proofs.CutWords.{Less}
use Rattle.av_interval.proofs.Sides.{side, side_place, side_value}

-- a set of four
abbrev pub four : ℕ → ℕ → ℕ → ℕ → ℕ → Bool
four p q r s = add (add (add (add none p) q) r) s

-- one of the four
abbrev Among : ℕ → ℕ → ℕ → ℕ → ℕ → Type 0
Among p q r s x = (x ≡ s) ⊎ ((x ≡ r) ⊎ ((x ≡ q) ⊎ (x ≡ p)))

-- its members are the four
pub four_cases : (p q r s x : ℕ) → four p q r s x ≡ true → (x ≡ s) ⊎ ((x ≡ r) ⊎ ((x ≡ q) ⊎ (x ≡ p)))
four_cases p q r s x h = elim (add_cases (add (add (add none p) q) r) s x h) [
  | inl e ↦ inl e
  | inr h ↦ elim (add_cases (add (add none p) q) r x h) [
    | inl e ↦ inr (inl e)
    | inr h ↦ elim (add_cases (add none p) q x h) [
      | inl e ↦ inr (inr (inl e))
      | inr h ↦ elim (add_cases none p x h) [ inl e ↦ inr (inr (inr e)) | inr h ↦ absurd (both_ways (none x) (none_false x) h) ]
    ]
  ]
]

-- the first is a member
pub four_p : (p q r s : ℕ) → four p q r s p ≡ true
four_p p q r s = add_old (add (add (add none p) q) r) s p (add_old (add (add none p) q) r p (add_old (add none p) q p (add_new none p)))

-- the second
pub four_q : (p q r s : ℕ) → four p q r s q ≡ true
four_q p q r s = add_old (add (add (add none p) q) r) s q (add_old (add (add none p) q) r q (add_new (add none p) q))

-- the third
pub four_r : (p q r s : ℕ) → four p q r s r ≡ true
four_r p q r s = add_old (add (add (add none p) q) r) s r (add_new (add (add none p) q) r)

-- the fourth
pub four_s : (p q r s : ℕ) → four p q r s s ≡ true
four_s p q r s = add_new (add (add (add none p) q) r) s

module _ (c : ℕ → ℕ → ℕ) (p q r s : ℕ)
    (r₁ : c s p ≡ c s q → ⊥) (r₂ : c q p ≡ c q r → ⊥) (r₃ : c q p ≡ c q s → ⊥)
    (r₄ : c p q ≡ c p r → ⊥) (r₅ : c p r ≡ c p s → ⊥) (r₆ : c r q ≡ c r s → ⊥) where
  module _ (J : ℕ → Type 0) (m : IsModule c (four p q r s) J) where
    -- a module with the first two has all
    pq : J p → J q → (J p → J q → J r → J s → ⊥) → ⊥
    pq jp jq k = r₁ (m.alike s p q (four_s p q r s) (λ js. r₆ (m.alike r q s (four_r p q r s) (λ jr. k jp jq jr js) jq js)) jp jq)

    -- with the first and the third
    pr : J p → J r → (J p → J q → J r → J s → ⊥) → ⊥
    pr jp jr k = r₂ (m.alike q p r (four_q p q r s) (λ jq. pq jp jq k) jp jr)

    -- with the first and the fourth
    ps : J p → J s → (J p → J q → J r → J s → ⊥) → ⊥
    ps jp js k = r₃ (m.alike q p s (four_q p q r s) (λ jq. pq jp jq k) jp js)

    -- with the second and the third
    qr : J q → J r → (J p → J q → J r → J s → ⊥) → ⊥
    qr jq jr k = r₄ (m.alike p q r (four_p p q r s) (λ jp. pq jp jq k) jq jr)

    -- with the second and the fourth
    qs : J q → J s → (J p → J q → J r → J s → ⊥) → ⊥
    qs jq js k = r₆ (m.alike r q s (four_r p q r s) (λ jr. qr jq jr k) jq js)

    -- with the last two
    rs : J r → J s → (J p → J q → J r → J s → ⊥) → ⊥
    rs jr js k = r₅ (m.alike p r s (four_p p q r s) (λ jp. pr jp jr k) jr js)

    -- with any two
    pair : (a b : ℕ) → J a → J b → (a ≡ b → ⊥) → (J p → J q → J r → J s → ⊥) → Among p q r s a → Among p q r s b → ⊥
    pair a b ja jb ne k (inl e) (inl f) = ne (e ∙ sym f)
    pair a b ja jb ne k (inl e) (inr (inl f)) = rs (subst J f jb) (subst J e ja) k
    pair a b ja jb ne k (inl e) (inr (inr (inl f))) = qs (subst J f jb) (subst J e ja) k
    pair a b ja jb ne k (inl e) (inr (inr (inr f))) = ps (subst J f jb) (subst J e ja) k
    pair a b ja jb ne k (inr (inl e)) (inl f) = rs (subst J e ja) (subst J f jb) k
    pair a b ja jb ne k (inr (inl e)) (inr (inl f)) = ne (e ∙ sym f)
    pair a b ja jb ne k (inr (inl e)) (inr (inr (inl f))) = qr (subst J f jb) (subst J e ja) k
    pair a b ja jb ne k (inr (inl e)) (inr (inr (inr f))) = pr (subst J f jb) (subst J e ja) k
    pair a b ja jb ne k (inr (inr (inl e))) (inl f) = qs (subst J e ja) (subst J f jb) k
    pair a b ja jb ne k (inr (inr (inl e))) (inr (inl f)) = qr (subst J e ja) (subst J f jb) k
    pair a b ja jb ne k (inr (inr (inl e))) (inr (inr (inl f))) = ne (e ∙ sym f)
    pair a b ja jb ne k (inr (inr (inl e))) (inr (inr (inr f))) = pq (subst J f jb) (subst J e ja) k
    pair a b ja jb ne k (inr (inr (inr e))) (inl f) = ps (subst J e ja) (subst J f jb) k
    pair a b ja jb ne k (inr (inr (inr e))) (inr (inl f)) = pr (subst J e ja) (subst J f jb) k
    pair a b ja jb ne k (inr (inr (inr e))) (inr (inr (inl f))) = pq (subst J e ja) (subst J f jb) k
    pair a b ja jb ne k (inr (inr (inr e))) (inr (inr (inr f))) = ne (e ∙ sym f)

    -- and all four are the whole set
    here : (z : ℕ) → Among p q r s z → J p → J q → J r → J s → J z
    here z (inl e) jp jq jr js = subst J (sym e) js
    here z (inr (inl e)) jp jq jr js = subst J (sym e) jr
    here z (inr (inr (inl e))) jp jq jr js = subst J (sym e) jq
    here z (inr (inr (inr e))) jp jq jr js = subst J (sym e) jp

  -- so the four are a simple set
  pub four_simple : Simple c (four p q r s)
  four_simple J m a b ja jb ne z hz nz = pair J m a b ja jb ne (λ jp jq jr js. nz (here J m z (four_cases p q r s z hz) jp jq jr js))
      (four_cases p q r s a (m.inside a ja)) (four_cases p q r s b (m.inside b jb))

-- four places with a 3142 are a simple set
pub simple_3142 : (σ : List ℕ) (k : FourPlaces (Less σ) (length σ)) → Simple (side σ) (four k.x k.y k.w k.v)
simple_3142 σ k = four_simple (side σ) k.x k.y k.w k.v
    (λ e. absurd (omega (arith, side_value σ k.v k.y k.x (sym e) k.ryv, k.rvx)))
    (λ e. absurd (omega (arith, side_place σ k.y k.x k.w e k.xy, k.yw)))
    (λ e. absurd (omega (arith, side_place σ k.y k.x k.v e k.xy, k.yw, k.wv)))
    (λ e. absurd (omega (arith, side_value σ k.x k.y k.w e (omega (arith, k.ryv, k.rvx)), k.rxw)))
    (λ e. absurd (omega (arith, side_value σ k.x k.v k.w (sym e) k.rvx, k.rxw)))
    (λ e. absurd (omega (arith, side_place σ k.w k.y k.v e k.yw, k.wv)))

-- and four with a 2413
pub simple_2413 : (σ : List ℕ) (k : FourPlaces (Back (Less σ)) (length σ)) → Simple (side σ) (four k.x k.y k.w k.v)
simple_2413 σ k = four_simple (side σ) k.x k.y k.w k.v
    (λ e. absurd (omega (arith, side_value σ k.v k.x k.y e k.rvx, k.ryv)))
    (λ e. absurd (omega (arith, side_place σ k.y k.x k.w e k.xy, k.yw)))
    (λ e. absurd (omega (arith, side_place σ k.y k.x k.v e k.xy, k.yw, k.wv)))
    (λ e. absurd (omega (arith, side_value σ k.x k.w k.y (sym e) k.rxw, k.ryv, k.rvx)))
    (λ e. absurd (omega (arith, side_value σ k.x k.w k.v e k.rxw, k.rvx)))
    (λ e. absurd (omega (arith, side_place σ k.w k.y k.v e k.yw, k.wv)))
