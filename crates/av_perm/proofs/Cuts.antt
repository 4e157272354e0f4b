-- A word is an inflation of a root of two places just where it has a cut: entries before and after it lie as the two of the root.
use Rattle.std.proofs.Common.{◌≡◌, ℕ, zero, suc, ◌<◌, ◌≤◌, ◌⊎◌, inl, inr, ◌↔◌, List, length, cond, ltb, lt-ltb, sym, ap, ◌∙◌, subst, arith}
use Rattle.std.proofs.lemmas.Bool.{cases_lt, cases_eq, le-ltb}
use Rattle.av_perm.specs.Relations.{at, IsOneToLength, AreBlocks, inflate}
use Rattle.av_perm.proofs.Searches.{Decided, lt_decided, le_decided, both_decided, not_decided, iff_decided, some_decided, least}
use Rattle.av_perm.proofs.InflatedPatterns.{Sends}
use Rattle.av_perm.proofs.BlockMaps.{Onto, blocks_of, blocks_are, embedding_value, value_embedding}
use Rattle.av_perm.proofs.Listings.{listed, listed_length, listed_at}
use Rattle.av_perm.proofs.RisingMaps.{RisesOnto, rises_onto, later_child, first_child}

-- of n places each before `c` is to each other one as `R` says
pub record IsCut (R : ℕ → ℕ → Type 0) (n c : ℕ) : Type 0 where
  pub some : 0 < c
  pub fits : c < n
  pub lie : (s t : ℕ) → s < c → c ≤ t → t < n → R s t

-- being a cut is decided where `R` is
cut_decided : (R : ℕ → ℕ → Type 0) → ((s t : ℕ) → Decided (R s t)) → (n c : ℕ) → Decided (IsCut R n c)
cut_decided R d n c = elim (both_decided (lt_decided 0 c) (lt_decided c n)) [
  | inr x ↦ inr (λ k. x (k.some, k.fits))
  | inl x ↦
      let fails = some_decided c (λ s. (t : ℕ) × (t < n) × ((c ≤ t) × (R s t → ⊥)))
      (λ s. some_decided n (λ t. (c ≤ t) × (R s t → ⊥)) (λ t. both_decided (le_decided c t) (not_decided (d s t)))) in
      elim fails [
        | inl r ↦ inr (λ k. r.2.2.1 (k.lie r.0 r.2.0 r.1 r.2.2.0 r.2.1))
        | inr f ↦ inl (record { some = x.0; fits = x.1; lie = λ s t h k l. elim (d s t) [ inl r ↦ r | inr q ↦ absurd (f (s, h, (t, l, (k, q)))) ] })
      ]
]

-- two entries of `σ` lie as the two of the root
abbrev pub LieAs : List ℕ → List ℕ → ℕ → ℕ → Type 0
LieAs π σ s t = ((at σ s < at σ t) ↔ (at π 0 < at π 1)) × ((at σ t < at σ s) ↔ (at π 1 < at π 0))

-- `c` is a cut of the word for the root of two places
abbrev pub Cuts : List ℕ → List ℕ → ℕ → Type 0
Cuts π σ c = IsCut (LieAs π σ) (length σ) c

-- being a cut for a root is decided
pub root_cut_decided : (π σ : List ℕ) (c : ℕ) → Decided (Cuts π σ c)
root_cut_decided π σ c =
    cut_decided (LieAs π σ) (λ s t. both_decided
    (iff_decided (lt_decided (at σ s) (at σ t)) (lt_decided (at π 0) (at π 1)))
    (iff_decided (lt_decided (at σ t) (at σ s)) (lt_decided (at π 1) (at π 0)))) (length σ) c

-- entries that lie as those of another word lie as the root where those do
pub lie_alike : (π σ τ : List ℕ) (s t : ℕ) → (at σ s < at σ t) ↔ (at τ s < at τ t) → (at σ t < at σ s) ↔ (at τ t < at τ s)
    → LieAs π σ s t → LieAs π τ s t
lie_alike π σ τ s t a b x = (
  (λ l. x.0.0 (a.1 l), λ l. a.0 (x.0.1 l)),
  (λ l. x.1.0 (b.1 l), λ l. b.0 (x.1.1 l)),
)

-- a map onto two children turns at `c`: the places before go to the first, the others to the second
pub record TurnsAt (e : List ℕ) (c : ℕ) : Type 0 where
  pub some : 0 < c
  pub fits : c < length e
  pub before : (s : ℕ) → s < c → at e s ≡ 0
  pub after : (s : ℕ) → c ≤ s → s < length e → at e s ≡ 1

-- each map onto two children turns at some place
turn_of : {e : List ℕ} → RisesOnto 2 e → (c : ℕ) × TurnsAt e c
turn_of {e = e} m =
    let one = m.onto 1 (omega arith) in
    let turn = least (length e) (λ i. at e i ≡ 1) (λ i h. cases_eq (at e i) 1) one.0 one.1 one.2 in
    let first = first_child m (omega arith) in (
      turn.0,
      record {
        some = elim (cases_eq turn.0 0) [ inl q ↦ let x = ap (at e) q in absurd (omega (arith, turn.2)) | inr q ↦ omega (arith, q) ];
        fits = turn.1;
        before = λ s h. let x = m.children s (omega (arith, turn.1)) in let y = turn.3 s h in omega (arith, y);
        after = λ s h k. let x = m.children s k in let y = later_child m turn.0 s h k in omega (arith, turn.2);
      },
    )

-- a place is before the turn and goes to the first child, or it is not and goes to the second
pub side_of : {e : List ℕ} {c : ℕ} → TurnsAt e c → (s : ℕ) → s < length e → ((s < c) × (at e s ≡ 0)) ⊎ ((c ≤ s) × (at e s ≡ 1))
side_of {c = c} t s h = elim (cases_lt s c) [ inl l ↦ inl (l, t.before s l) | inr l ↦ inr (l, t.after s l h) ]

-- a map that turns goes onto two children
turn_rises : {e : List ℕ} {c : ℕ} → TurnsAt e c → RisesOnto 2 e
turn_rises {e = e} {c = c} t = record {
  children = λ s h. let x = side_of t s h in omega arith;
  rising = λ s u h k. let x = side_of t s (omega arith) in let y = side_of t u k in omega arith;
  onto = λ i. hit i;
}
  where
    hit : (i : ℕ) → i < 2 → (s : ℕ) × (s < length e) × (at e s ≡ i)
    hit zero h = (0, omega (arith, t.fits), t.before 0 t.some)
    hit (suc zero) h = (c, t.fits, t.after c (omega arith) t.fits)
    hit (suc (suc i)) h = absurd (omega arith)

-- a map of the word onto a root of two turns at a cut
pub map_cut : {π σ e : List ℕ} → Sends π σ e → Onto (length π) e → length π ≡ 2 → (c : ℕ) × TurnsAt e c × Cuts π σ c
map_cut {π = π} {e = e} g o two =
    let r = turn_of (subst (λ k. RisesOnto k e) two (rises_onto g o)) in
    let c : ℕ = r.0 in
    let t : TurnsAt e c = r.1 in
    let n = g.count in
    let fits = t.fits in (
      c,
      t,
      record {
        some = t.some;
        fits = omega arith;
        lie = λ i j hi hj hl.
            let x = t.before i hi in
            let y = t.after j hj (omega arith) in
            let a = g.across i j (omega arith) (omega arith) (λ q. omega arith) in
            let b = g.across j i (omega arith) (omega arith) (λ q. omega arith) in
            let p = ap (at π) x in
            let q = ap (at π) y in (
              (λ l. let k = a.0 l in omega arith, λ l. a.1 (omega arith)),
              (λ l. let k = b.0 l in omega arith, λ l. b.1 (omega arith)),
            );
      },
    )

-- a map that turns at a cut of the word sends it to the root
cut_map : (π σ e : List ℕ) (c : ℕ) → length π ≡ 2 → Cuts π σ c → length e ≡ length σ → TurnsAt e c → Sends π σ e
cut_map π σ e c two k n t = record {
  count = n;
  children = λ s h. let x = (turn_rises t).children s h in omega arith;
  rising = (turn_rises t).rising;
  across = λ s u hs hu ne. elim (side_of t s hs) [
    | inl x ↦ elim (side_of t u hu) [
      | inl y ↦ absurd (ne (x.1 ∙ sym y.1))
      | inr y ↦ images s u x.1 y.1 (k.lie s u x.0 y.0 (omega arith)).0
    ]
    | inr x ↦ elim (side_of t u hu) [
      | inl y ↦ images s u x.1 y.1 (k.lie u s y.0 x.0 (omega arith)).1
      | inr y ↦ absurd (ne (x.1 ∙ sym y.1))
    ]
  ];
}
  where
    images : (s u : ℕ) {i j : ℕ} → at e s ≡ i → at e u ≡ j → (at σ s < at σ u) ↔ (at π i < at π j) → (at σ s < at σ u) ↔ (at π (at e s) < at π (at e u))
    images s u p q z =
        let x = ap (at π) p in
        let y = ap (at π) q in
        (λ l. let r = z.0 l in omega arith, λ l. z.1 (omega arith))

-- the child of place `s`: the first before `c`, the second from there on
abbrev side : ℕ → ℕ → ℕ
side c s = cond (ltb s c) 0 1

-- the map of n places that turns at `c`
abbrev pub turning : ℕ → ℕ → List ℕ
turning c n = listed (side c) n

-- the map made to turn at `c` has n places
pub turning_length : (c n : ℕ) → length (turning c n) ≡ n
turning_length c n = listed_length (side c) n

-- the map made to turn at `c` turns there
pub turning_turns : (c n : ℕ) → 0 < c → c < n → TurnsAt (turning c n) c
turning_turns c n some fits =
    let long = turning_length c n in
    record {
      some = some;
      fits = omega arith;
      before = λ s h. listed_at (side c) n s 0 (omega arith) ∙ ap (λ b. cond {A = ℕ} b 0 1) (lt-ltb s c h);
      after = λ s h k. listed_at (side c) n s 0 (omega arith) ∙ ap (λ b. cond {A = ℕ} b 0 1) (le-ltb s c h);
    }

-- the blocks of a word with a cut
abbrev pub cut_blocks : List ℕ → List ℕ → ℕ → List (List ℕ)
cut_blocks π σ c = blocks_of σ (turning c (length σ)) (length π)

-- a word with a cut is the inflation of the root by its blocks
pub cut_inflates : (π σ : List ℕ) (c : ℕ) → length π ≡ 2 → IsOneToLength σ → Cuts π σ c
    → AreBlocks π (cut_blocks π σ c) × (inflate π (cut_blocks π σ c) ≡ σ)
cut_inflates π σ c two w k =
    let t = turning_turns c (length σ) k.some k.fits in
    let g = cut_map π σ (turning c (length σ)) c two k (turning_length c (length σ)) t in
    (blocks_are σ π (turning c (length σ)) w g (λ i h. (turn_rises t).onto i (omega arith)), embedding_value σ π (turning c (length σ)) w g)

-- an inflation of a root of two has a cut
pub inflation_cut : (π σ : List ℕ) (αs : List (List ℕ)) → length π ≡ 2 → IsOneToLength π → AreBlocks π αs → inflate π αs ≡ σ → (c : ℕ) × Cuts π σ c
inflation_cut π σ αs two w b q =
    let v = value_embedding σ π αs w b q in
    let r = map_cut v.1 v.2 two in
    (r.0, r.2)
