-- Two more points: where a set X of points and a larger one V are simple, and V has at least two points outside X, then X
-- with some two of these is simple. A point outside X may see all of X alike (the second kind), or be a twin of one of its
-- points, or make X simple. If no two points made X simple, the points of V that are not of the second kind, or a point with
-- its twins, or all points outside X would be a module of V.
use Rattle.std.proofs.Common.{ℕ, ◌≡◌, ◌⊎◌, inl, inr, Bool, true, false, refl, sym, ◌∙◌, ap, subst}
use Rattle.std.proofs.lemmas.Bool.{cases_eq, cases_Bool, both_ways}
use Rattle.av_interval.proofs.Modules.{excluded_middle, stable, IsModule, Simple, SeesAlike, Twin, Others, Obstacle, obstacle}
use Rattle.av_interval.specs.Points.{add}
use Rattle.av_interval.proofs.Modules.Obstacle.{both_alike, left_alike, right_alike, left_twin, right_twin, both_twins, same}

module _ (c : ℕ → ℕ → ℕ) (turns : (x v w : ℕ) → (x ≡ v → ⊥) → (x ≡ w → ⊥) → c x v ≡ c x w → c v x ≡ c w x)
    (X : ℕ → Bool) (sX : Simple c X) (others : Others X) where
  -- a point of X is none outside it
  apart : (x v : ℕ) → X x ≡ true → X v ≡ false → x ≡ v → ⊥
  apart x v hx hv e = both_ways (X v) hv (subst (λ t. X t ≡ true) e hx)

  -- no point is of the second kind and a twin
  alike_twin : (z u : ℕ) → X z ≡ false → SeesAlike c X z → Twin c X u z → ⊥
  alike_twin z u xz s t =
      let o = others u in
      sX (λ x. (X x ≡ true) × (x ≡ u → ⊥)) m o.0 o.1 (o.2, o.5) (o.3, o.6) o.4 u t.0 (λ h. h.1 refl)
    where
      at_u : (x : ℕ) → X x ≡ true → (x ≡ u → ⊥) → c u x ≡ c z x
      at_u x hx ne = turns x u z ne (apart x z hx xz) (t.1 x hx ne)

      m : IsModule c X (λ x. (X x ≡ true) × (x ≡ u → ⊥))
      m = record {
        inside = λ x h. h.0;
        alike = λ z' x y hz nz hx hy. subst (λ a. c a x ≡ c a y) (sym (stable z' u (λ ne. nz (hz, ne)))) (at_u x hx.0 hx.1 ∙ s x y hx.0 hy.0 ∙ sym (at_u y hy.0 hy.1));
      }

  -- a twin is the twin of one point
  twin_one : (u u' v : ℕ) → Twin c X u v → Twin c X u' v → u ≡ u'
  twin_one u u' v t t' = stable u u' (λ ne.
      let o = others u in
      elim (cases_eq o.0 u') [
        | inl e ↦ sX J m u u' (inl refl) (inr refl) ne o.1 o.3 (λ j. elim j [ inl k ↦ o.6 k | inr k ↦ o.4 (e ∙ sym k) ])
        | inr d ↦ sX J m u u' (inl refl) (inr refl) ne o.0 o.2 (λ j. elim j [ inl k ↦ o.5 k | inr k ↦ d k ])
      ])
    where
      J : ℕ → Type 0
      J x = (x ≡ u) ⊎ (x ≡ u')

      at_v : (z x : ℕ) → X z ≡ true → (J z → ⊥) → J x → c z x ≡ c z v
      at_v z x hz nz (inl e) = ap (c z) e ∙ t.1 z hz (λ k. nz (inl k))
      at_v z x hz nz (inr e) = ap (c z) e ∙ t'.1 z hz (λ k. nz (inr k))

      m : IsModule c X J
      m = record {
        inside = λ x j. elim j [ inl e ↦ subst (λ a. X a ≡ true) (sym e) t.0 | inr e ↦ subst (λ a. X a ≡ true) (sym e) t'.0 ];
        alike = λ z x y hz nz hx hy. at_v z x hz nz hx ∙ sym (at_v z y hz nz hy);
      }

  -- X lies alike from z, but not from m: z with all of X but not m is no reason
  alike_pair : (z m p : ℕ) → X z ≡ false → X m ≡ false → SeesAlike c X z → (SeesAlike c X m → ⊥) → X p ≡ true → (c z m ≡ c z p → ⊥) → Obstacle c X z m → ⊥
  alike_pair z m p xz xm sz nsm xp ne (both_alike s s') = nsm s'
  alike_pair z m p xz xm sz nsm xp ne (left_alike s h) = ne (h p xp)
  alike_pair z m p xz xm sz nsm xp ne (right_alike s h) = nsm s
  alike_pair z m p xz xm sz nsm xp ne (left_twin u t e) = alike_twin z u xz sz t
  alike_pair z m p xz xm sz nsm xp ne (right_twin u t e) = ne (sym e ∙ sz u p t.0 xp)
  alike_pair z m p xz xm sz nsm xp ne (both_twins u t t') = alike_twin z u xz sz t
  alike_pair z m p xz xm sz nsm xp ne (same h) =
      nsm (λ x y xx xy. sym (turns x z m (apart x z xx xz) (apart x m xx xm) (h x xx)) ∙ sz x y xx xy ∙ turns y z m (apart y z xy xz) (apart y m xy xm) (h y xy))

  -- m is a twin of a point, and z is neither a twin of it nor sees X alike: no reason
  twin_pair : (m z u₀ : ℕ) → X m ≡ false → X z ≡ false → (m ≡ z → ⊥) → (SeesAlike c X z → ⊥) → Twin c X u₀ m → (Twin c X u₀ z → ⊥) → (c z m ≡ c z u₀ → ⊥) → Obstacle c X m z → ⊥
  twin_pair m z u₀ xm xz mz nsz tm ntz ne (both_alike s s') = nsz s'
  twin_pair m z u₀ xm xz mz nsz tm ntz ne (left_alike s h) = alike_twin m u₀ xm s tm
  twin_pair m z u₀ xm xz mz nsz tm ntz ne (right_alike s h) = nsz s
  twin_pair m z u₀ xm xz mz nsz tm ntz ne (left_twin u t e) = ne (sym e ∙ ap (c z) (twin_one u u₀ m t tm))
  twin_pair m z u₀ xm xz mz nsz tm ntz ne (right_twin u t e) = elim (cases_eq u u₀) [
    | inl k ↦ ntz (subst (λ a. Twin c X a z) k t)
    | inr d ↦ ne (sym (turns m u z (λ k. apart u m t.0 xm (sym k)) mz e) ∙ sym (tm.1 u t.0 d) ∙ turns u₀ u z (λ k. d (sym k)) (apart u₀ z tm.0 xz) (t.1 u₀ tm.0 (λ k. d (sym k))))
  ]
  twin_pair m z u₀ xm xz mz nsz tm ntz ne (both_twins u t t') = ntz (subst (λ a. Twin c X a z) (twin_one u u₀ m t tm) t')
  twin_pair m z u₀ xm xz mz nsz tm ntz ne (same h) = ntz (tm.0, λ x xx xne. tm.1 x xx xne ∙ h x xx)

  -- neither v nor w is a twin or sees X alike, and some point of X tells them apart: no reason
  rest_pair : (v w z : ℕ) → (SeesAlike c X v → ⊥) → (SeesAlike c X w → ⊥) → ((u : ℕ) → Twin c X u v → ⊥) → ((u : ℕ) → Twin c X u w → ⊥) → X z ≡ true → (c z v ≡ c z w → ⊥) → Obstacle c X v w → ⊥
  rest_pair v w z nv nw tv tw xz ne (both_alike s s') = nv s
  rest_pair v w z nv nw tv tw xz ne (left_alike s h) = nv s
  rest_pair v w z nv nw tv tw xz ne (right_alike s h) = nw s
  rest_pair v w z nv nw tv tw xz ne (left_twin u t e) = tv u t
  rest_pair v w z nv nw tv tw xz ne (right_twin u t e) = tw u t
  rest_pair v w z nv nw tv tw xz ne (both_twins u t t') = tv u t
  rest_pair v w z nv nw tv tw xz ne (same h) = ne (h z xz)

  module _ (V : ℕ → Bool) (sub : (x : ℕ) → X x ≡ true → V x ≡ true) (sV : Simple c V)
      (pairs : (v w : ℕ) → V v ≡ true → V w ≡ true → X v ≡ false → X w ≡ false → (v ≡ w → ⊥) → (Obstacle c X v w → ⊥) → ⊥) where
    -- where X lies alike from some point, the points from which it does not are a module of V
    alike_ends : (z₀ : ℕ) → V z₀ ≡ true → X z₀ ≡ false → SeesAlike c X z₀ → ⊥
    alike_ends z₀ vz₀ xz₀ sz₀ =
        sV M m o.0 o.1 (in_M o.0 o.2) (in_M o.1 o.3) o.4 z₀ vz₀ (λ h. h.1 xz₀ sz₀)
      where
        o : (a : ℕ) × (b : ℕ) × (X a ≡ true) × (X b ≡ true) × (a ≡ b → ⊥) × (a ≡ z₀ → ⊥) × (b ≡ z₀ → ⊥)
        o = others z₀

        M : ℕ → Type 0
        M x = (V x ≡ true) × (X x ≡ false → SeesAlike c X x → ⊥)

        in_M : (x : ℕ) → X x ≡ true → M x
        in_M x h = (sub x h, λ e s. both_ways (X x) e h)

        at_o : (z x : ℕ) → V z ≡ true → (M z → ⊥) → M x → c z x ≡ c z o.0
        at_o z x hz nz hx = stable _ _ (λ ne. nz (
          hz,
          λ xz sz. elim (cases_Bool (X x)) [
            | inl xx ↦ ne (sz x o.0 xx o.2)
            | inr xx ↦ pairs z x hz hx.0 xz xx (λ e. hx.1 xx (subst (λ a. SeesAlike c X a) e sz)) (alike_pair z x o.0 xz xx sz (hx.1 xx) o.2 ne)
          ],
        ))

        m : IsModule c V M
        m = record { inside = λ x h. h.0; alike = λ z x y hz nz hx hy. at_o z x hz nz hx ∙ sym (at_o z y hz nz hy) }

    module _ (seconds : (z : ℕ) → V z ≡ true → X z ≡ false → SeesAlike c X z → ⊥) where
      -- else, where some point has a twin, it is a module with its twins
      twin_ends : (u₀ v₀ : ℕ) → V v₀ ≡ true → X v₀ ≡ false → Twin c X u₀ v₀ → ⊥
      twin_ends u₀ v₀ vv₀ xv₀ t₀ =
          let o = others u₀ in
          sV M m u₀ v₀ (sub u₀ t₀.0, inl refl) (vv₀, inr (xv₀, t₀)) (apart u₀ v₀ t₀.0 xv₀) o.0 (sub o.0 o.2)
          (λ h. elim h.1 [ inl e ↦ o.5 e | inr k ↦ both_ways (X o.0) k.0 o.2 ])
        where
          M : ℕ → Type 0
          M x = (V x ≡ true) × ((x ≡ u₀) ⊎ ((X x ≡ false) × Twin c X u₀ x))

          at_u : (z x : ℕ) → V z ≡ true → (M z → ⊥) → M x → c z x ≡ c z u₀
          at_u z x hz nz hx = elim hx.1 [
            | inl e ↦ ap (c z) e
            | inr k ↦ stable _ _ (λ ne. elim (cases_Bool (X z)) [
              | inl xz ↦ ne (sym (k.1.1 z xz (λ e. nz (hz, inl e))))
              | inr xz ↦ pairs x z hx.0 hz k.0 xz (λ e. nz (subst M e hx)) (twin_pair x z u₀ k.0 xz (λ e. nz (subst M e hx)) (seconds z hz xz) k.1 (λ t. nz (hz, inr (xz, t))) ne)
            ])
          ]

          m : IsModule c V M
          m = record { inside = λ x h. h.0; alike = λ z x y hz nz hx hy. at_u z x hz nz hx ∙ sym (at_u z y hz nz hy) }

      module _ (twins : (u z : ℕ) → V z ≡ true → X z ≡ false → Twin c X u z → ⊥) where
        -- else all points outside X are a module
        rest_ends : (v w : ℕ) → V v ≡ true → V w ≡ true → X v ≡ false → X w ≡ false → (v ≡ w → ⊥) → ⊥
        rest_ends v w vv vw xv xw ne =
            let o = others v in
            sV M m v w (vv, xv) (vw, xw) ne o.0 (sub o.0 o.2) (λ h. both_ways (X o.0) h.1 o.2)
          where
            M : ℕ → Type 0
            M x = (V x ≡ true) × (X x ≡ false)

            m : IsModule c V M
            m = record {
              inside = λ x h. h.0;
              alike = λ z x y hz nz hx hy. stable _ _ (λ k. elim (cases_Bool (X z)) [
                | inl xz ↦ pairs x y hx.0 hy.0 hx.1 hy.1 (λ e. k (ap (c z) e)) (rest_pair x y z (seconds x hx.0 hx.1) (seconds y hy.0 hy.1) (λ u. twins u x hx.0 hx.1) (λ u. twins u y hy.0 hy.1) xz k)
                | inr xz ↦ nz (hz, xz)
              ]);
            }

  -- the law
  pub two_more : (V : ℕ → Bool) → ((x : ℕ) → X x ≡ true → V x ≡ true) → Simple c V
      → (v₁ v₂ : ℕ) → V v₁ ≡ true → V v₂ ≡ true → X v₁ ≡ false → X v₂ ≡ false → (v₁ ≡ v₂ → ⊥)
      → ((v w : ℕ) → V v ≡ true → V w ≡ true → X v ≡ false → X w ≡ false → (v ≡ w → ⊥) → Simple c (add (add X v) w) → ⊥) → ⊥
  two_more V sub sV v₁ v₂ vv₁ vv₂ xv₁ xv₂ ne bad =
      excluded_middle {P = (z : ℕ) × (V z ≡ true) × (X z ≡ false) × SeesAlike c X z} (λ d. elim d [
        | inl s ↦ alike_ends V sub sV pairs s.0 s.1 s.2 s.3
        | inr ns ↦ excluded_middle {P = (u : ℕ) × (z : ℕ) × (V z ≡ true) × (X z ≡ false) × Twin c X u z} (λ e. elim e [
          | inl t ↦ twin_ends V sub sV pairs (seconds ns) t.0 t.1 t.2 t.3 t.4
          | inr nt ↦ rest_ends V sub sV pairs (seconds ns) (λ u z hz xz t. nt (u, z, hz, xz, t)) v₁ v₂ vv₁ vv₂ xv₁ xv₂ ne
        ])
      ])
    where
      pairs : (v w : ℕ) → V v ≡ true → V w ≡ true → X v ≡ false → X w ≡ false → (v ≡ w → ⊥) → (Obstacle c X v w → ⊥) → ⊥
      pairs v w vv vw xv xw d = obstacle c X sX v w xv xw d (bad v w vv vw xv xw d)

      seconds : ((z : ℕ) × (V z ≡ true) × (X z ≡ false) × SeesAlike c X z → ⊥) → (z : ℕ) → V z ≡ true → X z ≡ false → SeesAlike c X z → ⊥
      seconds ns z hz xz s = ns (z, hz, xz, s)
