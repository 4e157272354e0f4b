-- The points of a simple word are a simple set under the colouring.
use Rattle.std.proofs.Common.{ℕ, zero, suc, ◌≡◌, ◌<◌, ◌≤◌, ◌-◌, List, length, Bool, true, ltb, inl, inr, sym, subst, arith}
use Rattle.std.proofs.lemmas.Bool.{cases_lt, ltb-true, lt-ltb}
use Rattle.av_perm.specs.Relations.{at, IsSimple}
use Rattle.av_interval.proofs.Modules.{excluded_middle, IsModule, Simple}
use Rattle.av_interval.proofs.CutWords.{value, value_in, value_once}
use Rattle.av_interval.proofs.Frames.{whole_frame}
use Rattle.av_interval.proofs.Sides.{side, side_place, side_value}

-- of points of a kind, some point has the least number g
extreme : (J : ℕ → Type 0) (g : ℕ → ℕ) (bound a : ℕ) → J a → g a < bound → ((m : ℕ) → J m → ((i : ℕ) → J i → g m ≤ g i) → ⊥) → ⊥
extreme J g zero a ja h k = absurd (omega arith)
extreme J g (suc bound) a ja h k = excluded_middle {P = (i : ℕ) × (g i < g a) × J i} (λ d. elim d [
  | inl s ↦ extreme J g bound s.0 s.2 (omega (arith, s.1, h)) k
  | inr non ↦ k a ja (λ i ji. elim (cases_lt (g i) (g a)) [ inl l ↦ absurd (non (i, l, ji)) | inr ge ↦ ge ])
])

-- an order that cannot fail holds
pub le_stable : (a b : ℕ) → ((a ≤ b → ⊥) → ⊥) → a ≤ b
le_stable a b h = elim (cases_lt b a) [ inl l ↦ absurd (h (λ g. omega (arith, g, l))) | inr g ↦ g ]

-- the points of a word
abbrev pub Places : List ℕ → ℕ → Bool
Places σ k = ltb k (length σ)

module _ (σ : List ℕ) (s : IsSimple σ) (J : ℕ → Type 0) (m : IsModule (side σ) (Places σ) J) where
  -- a module lies within the word
  inside : (x : ℕ) → J x → x < length σ
  inside x h = ltb-true x (length σ) (m.inside x h)

  -- a module is framed by its first and last place and its least and greatest value
  framed : (a b z : ℕ) → J a → J b → (a ≡ b → ⊥) → z < length σ → (J z → ⊥)
      → (i j lo hi : ℕ) → J i → J j → J lo → J hi
      → ((x : ℕ) → J x → i ≤ x) → ((x : ℕ) → J x → x ≤ j)
      → ((x : ℕ) → J x → value σ lo ≤ value σ x) → ((x : ℕ) → J x → value σ x ≤ value σ hi) → ⊥
  framed a b z ja jb ab zn nz i j lo hi ji jj jlo jhi least most low high =
      let q = whole_frame σ s i j (omega (arith, least a ja, least b jb, most a ja, most b jb, ab)) (inside j jj) (at σ lo, at σ hi, λ k kn. (to k kn, from k kn)) in
      in_place z zn (omega (arith, q.0)) (omega (arith, q.1, zn)) nz
    where
      differ : (x y : ℕ) → (J x → ⊥) → J y → x ≡ y → ⊥
      differ x y nx jy e = nx (subst J (sym e) jy)

      in_place : (k : ℕ) → k < length σ → i ≤ k → k ≤ j → (J k → ⊥) → ⊥
      in_place k kn ik kj nk =
          let ki : k ≡ i → ⊥ = differ k i nk ji in
          let kj' : k ≡ j → ⊥ = differ k j nk jj in
          let f : i < k → j < k = side_place σ k i j (m.alike k i j (lt-ltb k (length σ) kn) nk ji jj) in
          absurd (omega (arith, f (omega arith), kj))

      in_value : (k : ℕ) → k < length σ → value σ lo ≤ value σ k → value σ k ≤ value σ hi → (J k → ⊥) → ⊥
      in_value k kn l h nk =
          let f : value σ lo < value σ k → value σ hi < value σ k = side_value σ k lo hi (m.alike k lo hi (lt-ltb k (length σ) kn) nk jlo jhi) in
          let d : value σ k ≡ value σ lo → ⊥ = λ e. differ k lo nk jlo (value_once σ s.numbers k lo e) in
          absurd (omega (arith, f (omega arith), h))

      to : (k : ℕ) → k < length σ → (i ≤ k) × (k ≤ j) → (at σ lo ≤ at σ k) × (at σ k ≤ at σ hi)
      to k kn h = (
        le_stable _ _ (λ non. in_place k kn h.0 h.1 (λ jk. non (omega (arith, low k jk, value_in σ k kn, value_in σ lo (inside lo jlo))))),
        le_stable _ _ (λ non. in_place k kn h.0 h.1 (λ jk. non (omega (arith, high k jk, value_in σ k kn, value_in σ hi (inside hi jhi))))),
      )

      from : (k : ℕ) → k < length σ → (at σ lo ≤ at σ k) × (at σ k ≤ at σ hi) → (i ≤ k) × (k ≤ j)
      from k kn h =
          let l : value σ lo ≤ value σ k = omega (arith, h.0, value_in σ k kn, value_in σ lo (inside lo jlo)) in
          let u : value σ k ≤ value σ hi = omega (arith, h.1, value_in σ k kn, value_in σ hi (inside hi jhi)) in
          (le_stable _ _ (λ non. in_value k kn l u (λ jk. non (least k jk))), le_stable _ _ (λ non. in_value k kn l u (λ jk. non (most k jk))))

  -- so it is the whole word
  simple_at : (a b : ℕ) → J a → J b → (a ≡ b → ⊥) → (z : ℕ) → Places σ z ≡ true → (J z → ⊥) → ⊥
  simple_at a b ja jb ab z vz nz =
      extreme J (λ x. x) (suc a) a ja (omega arith) (λ i ji least.
      extreme J (λ x. length σ - x) (suc (length σ - a)) a ja (omega arith) (λ j jj most.
      extreme J (value σ) (suc (value σ a)) a ja (omega arith) (λ lo jlo low.
      extreme J (λ x. length σ - value σ x) (suc (length σ - value σ a)) a ja (omega arith) (λ hi jhi high.
      framed a b z ja jb ab (ltb-true z (length σ) vz) nz i j lo hi ji jj jlo jhi least
      (λ x jx. omega (arith, most x jx, inside x jx, inside j jj)) low
      (λ x jx. omega (arith, high x jx, value_in σ x (inside x jx), (s.numbers.within x (inside x jx)).1, value_in σ hi (inside hi jhi), (s.numbers.within hi (inside hi jhi)).1))))))

-- the points of a simple word are a simple set
pub word_simple : (σ : List ℕ) → IsSimple σ → Simple (side σ) (Places σ)
word_simple σ s J m a b ja jb ab z vz nz = simple_at σ s J m a b ja jb ab z vz nz
