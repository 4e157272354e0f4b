-- A partial overlay that can grow to a word takes a next step to it: the pattern's next entry stands in the word at an entry
-- that the partial overlay has, or is a new one.
use Rattle.std.proofs.Common.{◌≡◌, ℕ, ◌<◌, ◌≤◌, ◌⊎◌, inl, inr, List, [], ◌∷◌, ◌++◌, length, take, sym, ap, ◌∙◌, subst, arith, length-take-le}
use Rattle.std.specs.List.{insert}
use Rattle.std.proofs.lemmas.Bool.{cases_lt, cases_eq}
use Rattle.std.proofs.lemmas.List.{length-map, take_all, get_or-take}
use Rattle.av_perm.specs.Relations.{at, IsWord, IsOccurrence, Contains}
use Rattle.av_perm.proofs.Membership.{In, In_at, at_In}
use Rattle.av_perm.proofs.Patterns.{smaller_le}
use Rattle.av_perm.proofs.ListLaws.{snoc_before, snoc_last, length_snoc}
use Rattle.av_union.specs.declared.choices.Choice.{Choice}
use Rattle.av_union.specs.declared.choices.Choice.TheVariants.{Shared, New}
use Rattle.av_union.specs.Union.{IsCovered}
use Rattle.av_union.specs.Choices.{IsChoice, word_after}
use Rattle.av_union.specs.Growth.{ArePlacesOf, Grows, GrowsTo, AreBefore, places_after}
use Rattle.av_union.proofs.Places.{skip_low, at_insert_new, at_insert_old, In_insert_new, In_insert_old}
use Rattle.av_union.proofs.WithoutPlaces.{In_decided}
use Rattle.av_union.proofs.RisingPlaces.{rises_back, IsSeat, has_seat}
use Rattle.av_union.proofs.GrownEntries.{entries, lower, new_inner}

-- ---- what a partial overlay holds

-- at its places it holds the first entries of the pattern
pub begun_occurs : (τ w q W r Q : List ℕ) → Grows τ w q W r Q → ArePlacesOf w q → IsOccurrence w (take (length q) τ) q
begun_occurs τ w q W r Q grows placed =
    let n = length-take-le (length q) τ grows.short in
    let o = grows.inner in
    let u = grows.second in
    let same = grows.same in
    record {
      count = sym n;
      placed = placed;
      rising = λ s t h k. rises_back r (at q s) (at q t) o.rising (omega (arith, placed s (omega arith), o.count)) (omega (arith, placed t k, o.count))
          (omega (arith, same s (omega arith), same t k, u.rising s t h (omega (arith, u.count, grows.short))));
      alike = λ s t hs ht.
          let ls : s < length q = omega arith in
          let lt : t < length q = omega arith in
          let a = get_or-take (length q) τ s 0 ls in
          let b = get_or-take (length q) τ t 0 lt in
          let x = ap (at W) (same s ls) in
          let y = ap (at W) (same t lt) in
          let g = u.alike s t (omega (arith, grows.short)) (omega (arith, grows.short)) in
          let m = o.alike (at q s) (at q t) (placed s ls) (placed t lt) in
          (λ l. let k = g.0 (omega arith) in m.1 (omega arith), λ l. let k = m.0 l in let z = g.1 (omega arith) in omega arith);
    }

-- so it contains the pattern where no place lacks
pub grown_whole : (τ w q W r Q : List ℕ) → Grows τ w q W r Q → ArePlacesOf w q → length τ ≤ length q → Contains w τ
grown_whole τ w q W r Q g placed h = (q, subst (λ (v : List ℕ). IsOccurrence w v q) (take_all (length q) τ h) (begun_occurs τ w q W r Q g placed))

-- a covered word grows from the first word
pub start_grows : (σ τ W : List ℕ) → IsCovered σ τ W → GrowsTo τ σ [] W
start_grows σ τ W c =
    let p = c.cover.0 in
    let q = c.cover.1.0 in
    let k = c.cover.1.1 in (
      p,
      (
        q,
        record {
          word = c.word;
          short = omega arith;
          inner = k.first;
          second = k.second;
          same = λ j h. absurd (omega arith);
          all = λ s h. elim (k.all s h) [
            | inl i ↦ inl i
            | inr i ↦ let a = at_In q s 0 i in inr (a.0, omega arith, omega (arith, a.1, k.second.count), a.2)
          ];
        },
      ),
    )

-- ---- the next step

-- a choice by which a partial overlay goes on towards a word
pub record IsStep (τ w q W : List ℕ) (c : Choice) : Type 0 where
  pub choice : IsChoice (length w) c
  pub before : AreBefore q c
  pub grows : GrowsTo τ (word_after w c) (places_after q c) W

-- of the places of the pattern beyond the first ones, one less is left
fewer : (τ q Q r : List ℕ) (s x : ℕ) → In (at Q (length q)) r
    → In x r ⊎ ((j : ℕ) × (length q ≤ j) × (j < length τ) × (at Q j ≡ x)) → In x r ⊎ ((j : ℕ) × (length (q ++ s ∷ []) ≤ j) × (j < length τ) × (at Q j ≡ x))
fewer τ q Q r s x i (inl m) = inl m
fewer τ q Q r s x i (inr m) = elim (cases_eq m.0 (length q)) [
  | inl f ↦ inl (subst (λ z. In z r) (ap (at Q) (sym f) ∙ m.3) i)
  | inr ne ↦ inr (m.0, omega (arith, m.1, length_snoc q s, ne), m.2, m.3)
]

-- the pattern's next entry stands at an entry that is there
shared_step : (τ w q W r Q : List ℕ) (s : ℕ) → Grows τ w q W r Q → ArePlacesOf w q → length q < length τ → s < length r → at r s ≡ at Q (length q)
    → IsStep τ w q W (Shared s)
shared_step τ w q W r Q s g placed h l e =
    let k = length q in
    let o = g.inner in
    let n = length_snoc q s in
    record {
      choice = omega (arith, o.count);
      before = λ j m. rises_back r (at q j) s o.rising (omega (arith, placed j m, o.count)) l
          (omega (arith, g.same j m, g.second.rising j k m (omega (arith, g.second.count))));
      grows = (
        r,
        (
          Q,
          record {
            word = g.word;
            short = omega arith;
            inner = o;
            second = g.second;
            same = λ j m. elim (cases_eq j k) [
              | inl f ↦ ap (at r) (snoc_last q s j f) ∙ e ∙ ap (at Q) (sym f)
              | inr ne ↦ let lt : j < k = omega (arith, ne) in ap (at r) (snoc_before q s j lt) ∙ g.same j lt
            ];
            all = λ x m. fewer τ q Q r s x (subst (λ z. In z r) e (In_at r s 0 l)) (g.all x m);
          },
        ),
      );
    }

-- or it is a new one
new_step : (τ w q W r Q : List ℕ) (s : ℕ) → Grows τ w q W r Q → IsWord w → ArePlacesOf w q → length q < length τ → (In (at Q (length q)) r → ⊥)
    → IsSeat r (at Q (length q)) (length r) s → IsStep τ w q W (New s (lower W r (at Q (length q))))
new_step τ w q W r Q s g word placed h out seat =
    let k = length q in
    let y = at Q k in
    let o = g.inner in
    let n = length_snoc q s in
    let inside : y < length W = g.second.placed k (omega (arith, g.second.count)) in
    let before : (j : ℕ) → j < k → at q j < s = λ j m. elim (cases_lt (at q j) s) [
      | inl l ↦ l
      | inr l ↦
          let up = g.second.rising j k m (omega (arith, g.second.count)) in
          absurd (omega (arith, g.same j m, seat.greater (at q j) l (omega (arith, placed j m, o.count))))
    ] in
    record {
      choice = (omega (arith, seat.within, o.count), omega (arith, smaller_le (at W y) (entries W r), length-map r (at W), o.count));
      before = before;
      grows = (
        insert r s y,
        (
          Q,
          record {
            word = g.word;
            short = omega arith;
            inner = new_inner W w r y s g.word word o inside out seat;
            second = g.second;
            same = λ j m. elim (cases_eq j k) [
              | inl f ↦ ap (at (insert r s y)) (snoc_last q s j f) ∙ at_insert_new r s y seat.within ∙ ap (at Q) (sym f)
              | inr ne ↦
                  let lt : j < k = omega (arith, ne) in
                  ap (at (insert r s y)) (snoc_before q s j lt ∙ sym (skip_low s (at q j) (before j lt))) ∙ at_insert_old r s y (at q j) seat.within ∙ g.same j lt
            ];
            all = λ x m. fewer τ q Q (insert r s y) s x (In_insert_new r s y) (elim (g.all x m) [ inl i ↦ inl (In_insert_old r s y x i) | inr i ↦ inr i ]);
          },
        ),
      );
    }

-- so a partial overlay that lacks places of the pattern takes a step
pub next_step : (τ w q W : List ℕ) → GrowsTo τ w q W → IsWord w → ArePlacesOf w q → length q < length τ → (c : Choice) × IsStep τ w q W c
next_step τ w q W c word placed h =
    let r = c.0 in
    let Q = c.1.0 in
    let g = c.1.1 in
    let y = at Q (length q) in
    elim (In_decided y r) [
      | inl i ↦ let a = at_In r y 0 i in (Shared a.0, shared_step τ w q W r Q a.0 g placed h a.1 a.2)
      | inr out ↦ let p = has_seat r y (length r) g.inner.rising out (omega arith) in (New p.0 (lower W r y), new_step τ w q W r Q p.0 g word placed h out p.1)
    ]
