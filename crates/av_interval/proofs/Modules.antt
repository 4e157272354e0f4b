-- Modules of a set of points under a colouring: the law of two more points, with no order in it.
use Rattle.std.proofs.Common.{ℕ, ◌≡◌, ◌⊎◌, inl, inr, Bool, true, false, refl, sym, ◌∙◌, ap, subst, eqb, cond}
use Rattle.av_interval.specs.Points.{add}
use Rattle.std.proofs.lemmas.Bool.{cases_eq, eq-eqb, ne_eqb}

-- Every goal here is ⊥ or an equation of numbers, so cases may be split on any fact.
pub excluded_middle : {P : Type 0} → ((P ⊎ (P → ⊥)) → ⊥) → ⊥
excluded_middle k = k (inr (λ p. k (inl p)))

-- an equation of numbers that cannot fail holds
pub stable : (a b : ℕ) → ((a ≡ b → ⊥) → ⊥) → a ≡ b
stable a b h = elim (cases_eq a b) [ inl e ↦ e | inr ne ↦ absurd (h ne) ]

-- the members of a set stay
pub add_old : (X : ℕ → Bool) (v x : ℕ) → X x ≡ true → add X v x ≡ true
add_old X v x h = go (eqb x v)
  where
    go : (b : Bool) → cond b true (X x) ≡ true
    go true = refl
    go false = h

-- the new one is a member
pub add_new : (X : ℕ → Bool) (v : ℕ) → add X v v ≡ true
add_new X v = ap (λ (b : Bool). cond b true (X v)) (eq-eqb v v refl)

-- and there are no others
pub add_cases : (X : ℕ → Bool) (v x : ℕ) → add X v x ≡ true → (x ≡ v) ⊎ (X x ≡ true)
add_cases X v x h = elim (cases_eq x v) [ inl e ↦ inl e | inr ne ↦ inr (sym (ap (λ (b : Bool). cond b true (X x)) (ne_eqb x v ne)) ∙ h) ]

-- a module of a set Y under a colouring c of pairs: from each other point of Y, all points of J have the same colour
pub record IsModule (c : ℕ → ℕ → ℕ) (Y : ℕ → Bool) (J : ℕ → Type 0) : Type 0 where
  pub inside : (x : ℕ) → J x → Y x ≡ true
  pub alike : (z x y : ℕ) → Y z ≡ true → (J z → ⊥) → J x → J y → c z x ≡ c z y

-- a set is simple where a module of it with two members or more is the whole set
abbrev pub Simple : (ℕ → ℕ → ℕ) → (ℕ → Bool) → Type 1
Simple c Y = (J : ℕ → Type 0) → IsModule c Y J → (a b : ℕ) → J a → J b → (a ≡ b → ⊥) → (z : ℕ) → Y z ≡ true → (J z → ⊥) → ⊥

-- all points of X lie alike from v
abbrev pub SeesAlike : (ℕ → ℕ → ℕ) → (ℕ → Bool) → ℕ → Type 0
SeesAlike c X v = (x y : ℕ) → X x ≡ true → X y ≡ true → c v x ≡ c v y

-- u and v lie alike from all others of X: v is a twin of u
abbrev pub Twin : (ℕ → ℕ → ℕ) → (ℕ → Bool) → ℕ → ℕ → Type 0
Twin c X u v = (X u ≡ true) × ((x : ℕ) → X x ≡ true → (x ≡ u → ⊥) → c x u ≡ c x v)

-- why X with v and w isn't simple: all of X looks alike from both; or from one, and the other lies there too; or one is a
-- twin that the other doesn't tell from its point; or both are twins of one point; or all of X sees v and w alike
pub data Obstacle (c : ℕ → ℕ → ℕ) (X : ℕ → Bool) (v w : ℕ) : Type 0 where
  both_alike : SeesAlike c X v → SeesAlike c X w → Obstacle c X v w
  left_alike : SeesAlike c X v → ((x : ℕ) → X x ≡ true → c v w ≡ c v x) → Obstacle c X v w
  right_alike : SeesAlike c X w → ((x : ℕ) → X x ≡ true → c w v ≡ c w x) → Obstacle c X v w
  left_twin : (u : ℕ) → Twin c X u v → c w u ≡ c w v → Obstacle c X v w
  right_twin : (u : ℕ) → Twin c X u w → c v u ≡ c v w → Obstacle c X v w
  both_twins : (u : ℕ) → Twin c X u v → Twin c X u w → Obstacle c X v w
  same : ((z : ℕ) → X z ≡ true → c z v ≡ c z w) → Obstacle c X v w

-- X has two different members other than any given one
abbrev pub Others : (ℕ → Bool) → Type 0
Others X = (u : ℕ) → (a : ℕ) × (b : ℕ) × (X a ≡ true) × (X b ≡ true) × (a ≡ b → ⊥) × (a ≡ u → ⊥) × (b ≡ u → ⊥)

module _ (c : ℕ → ℕ → ℕ) (X : ℕ → Bool) (sX : Simple c X) where
  -- a module of X with v and w meets X in a module of X
  meet : (Y : ℕ → Bool) (J : ℕ → Type 0) → ((x : ℕ) → X x ≡ true → Y x ≡ true) → IsModule c Y J
      → IsModule c X (λ x. (X x ≡ true) × J x)
  meet Y J sub m = record {
    inside = λ x h. h.0;
    alike = λ z x y hz nz hx hy. m.alike z x y (sub z hz) (λ jz. nz (hz, jz)) hx.1 hy.1;
  }

  -- where a module has two points of X, it has all of X
  all_in : (Y : ℕ → Bool) (J : ℕ → Type 0) → ((x : ℕ) → X x ≡ true → Y x ≡ true) → IsModule c Y J
      → (a b : ℕ) → X a ≡ true → J a → X b ≡ true → J b → (a ≡ b → ⊥) → (z : ℕ) → X z ≡ true → (J z → ⊥) → ⊥
  all_in Y J sub m a b xa ja xb jb ne z xz nz = sX (λ x. (X x ≡ true) × J x) (meet Y J sub m) a b (xa, ja) (xb, jb) ne z xz (λ h. nz h.1)

  module _ (v w : ℕ) (xv : X v ≡ false) (xw : X w ≡ false) (vw : v ≡ w → ⊥) where
    -- X with v and w
    Y : ℕ → Bool
    Y = add (add X v) w

    -- X is a part of it
    sub : (x : ℕ) → X x ≡ true → Y x ≡ true
    unfolding Y
    sub x h = add_old (add X v) w x (add_old X v x h)

    -- v is a member
    Yv : Y v ≡ true
    unfolding Y
    Yv = add_old (add X v) w v (add_new X v)

    -- w is a member
    Yw : Y w ≡ true
    unfolding Y
    Yw = add_new (add X v) w

    -- and there are no others
    Ycases : (x : ℕ) → Y x ≡ true → (x ≡ w) ⊎ ((x ≡ v) ⊎ (X x ≡ true))
    unfolding Y
    Ycases x h = elim (add_cases (add X v) w x h) [ inl e ↦ inl e | inr k ↦ inr (add_cases X v x k) ]

    module _ (J : ℕ → Type 0) (m : IsModule c Y J) (k : Obstacle c X v w → ⊥) where
      -- where J has just the point u of X, v or w is a twin of u
      few : (a b z : ℕ) → J a → J b → (a ≡ b → ⊥) → Y z ≡ true → (J z → ⊥)
          → (u : ℕ) → X u ≡ true → J u → ((x : ℕ) → X x ≡ true → (x ≡ u → ⊥) → J x → ⊥) → ⊥
      few a b z ja jb ab yz nz u xu ju only =
          excluded_middle (λ dv. excluded_middle (λ dw. elim dv [
            | inl jv ↦ elim dw [
              | inl jw ↦ k (both_twins u (xu, λ x xx xne. m.alike x u v (sub x xx) (only x xx xne) ju jv) (xu, λ x xx xne. m.alike x u w (sub x xx) (only x xx xne) ju jw))
              | inr nw ↦ k (left_twin u (xu, λ x xx xne. m.alike x u v (sub x xx) (only x xx xne) ju jv) (m.alike w u v Yw nw ju jv))
            ]
            | inr nv ↦ elim dw [
              | inl jw ↦ k (right_twin u (xu, λ x xx xne. m.alike x u w (sub x xx) (only x xx xne) ju jw) (m.alike v u w Yv nv ju jw))
              | inr nw ↦ ab (is_u nv nw a ja ∙ sym (is_u nv nw b jb))
            ]
          ]))
        where
          is_u : (J v → ⊥) → (J w → ⊥) → (x : ℕ) → J x → x ≡ u
          is_u nv nw x jx = stable x u (λ ne. elim (Ycases x (m.inside x jx)) [
            | inl e ↦ nw (subst J e jx)
            | inr t ↦ elim t [ inl e ↦ nv (subst J e jx) | inr xx ↦ only x xx ne jx ]
          ])

      -- where J has no point of X, it is v and w
      none_in : (a b : ℕ) → J a → J b → (a ≡ b → ⊥) → ((x : ℕ) → X x ≡ true → J x → ⊥) → ⊥
      none_in a b ja jb ab non =
          k (same (λ z xz. stable _ _ (λ ne. both (λ jv jw. ne (m.alike z v w (sub z xz) (non z xz) jv jw)))))
        where
          which : (x : ℕ) → J x → (x ≡ w) ⊎ (x ≡ v)
          which x jx = elim (Ycases x (m.inside x jx)) [ inl e ↦ inl e | inr t ↦ elim t [ inl e ↦ inr e | inr xx ↦ absurd (non x xx jx) ] ]

          both : (J v → J w → ⊥) → ⊥
          both f = elim (which a ja) [
            | inl aw ↦ elim (which b jb) [ inl bw ↦ ab (aw ∙ sym bw) | inr bv ↦ f (subst J bv jb) (subst J aw ja) ]
            | inr av ↦ elim (which b jb) [ inl bw ↦ f (subst J av ja) (subst J bw jb) | inr bv ↦ ab (av ∙ sym bv) ]
          ]

      -- where J has all of X, one of v and w is outside
      many : (z : ℕ) → Y z ≡ true → (J z → ⊥) → ((x : ℕ) → X x ≡ true → (J x → ⊥) → ⊥) → ⊥
      many z yz nz every =
          excluded_middle (λ dv. excluded_middle (λ dw. elim dv [
            | inl jv ↦ elim dw [
              | inl jw ↦ elim (Ycases z yz) [ inl e ↦ nz (subst J (sym e) jw) | inr t ↦ elim t [ inl e ↦ nz (subst J (sym e) jv) | inr xz ↦ every z xz nz ] ]
              | inr nw ↦ k (right_alike (second w Yw nw) (λ x xx. stable _ _ (λ ne. every x xx (λ jx. ne (m.alike w v x Yw nw jv jx)))))
            ]
            | inr nv ↦ elim dw [
              | inl jw ↦ k (left_alike (second v Yv nv) (λ x xx. stable _ _ (λ ne. every x xx (λ jx. ne (m.alike v w x Yv nv jw jx)))))
              | inr nw ↦ k (both_alike (second v Yv nv) (second w Yw nw))
            ]
          ]))
        where
          second : (t : ℕ) → Y t ≡ true → (J t → ⊥) → SeesAlike c X t
          second t yt nt x y xx xy = stable _ _ (λ ne. every x xx (λ jx. every y xy (λ jy. ne (m.alike t x y yt nt jx jy))))

      -- J has none, one or all of X, so one of the reasons holds
      obstacle_of : (a b : ℕ) → J a → J b → (a ≡ b → ⊥) → (z : ℕ) → Y z ≡ true → (J z → ⊥) → ⊥
      obstacle_of a b ja jb ab z yz nz =
          excluded_middle {P = (u : ℕ) × (X u ≡ true) × J u} (λ d. elim d [
            | inr non ↦ none_in a b ja jb ab (λ x xx jx. non (x, xx, jx))
            | inl s ↦ excluded_middle {P = (x : ℕ) × (X x ≡ true) × (x ≡ s.0 → ⊥) × J x} (λ e. elim e [
              | inr non ↦ few a b z ja jb ab yz nz s.0 s.1 s.2 (λ x xx ne jx. non (x, xx, ne, jx))
              | inl t ↦ many z yz nz (all_in Y J sub m s.0 t.0 s.1 s.2 t.1 t.3 (λ e. t.2 (sym e)))
            ])
          ])

    -- where X with v and w is not simple, one of the reasons holds
    pub obstacle : (Simple c (add (add X v) w) → ⊥) → (Obstacle c X v w → ⊥) → ⊥
    unfolding Y
    obstacle ns k = ns (λ J m a b ja jb ab z yz nz. obstacle_of J m k a b ja jb ab z yz nz)
