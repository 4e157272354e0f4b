-- The search, length by length.
use Rattle.std.proofs.Common.{◌≡◌, ℕ, suc, ◌+◌, ◌-◌, ◌<◌, ◌≤◌, inl, inr, true, false, List, [], ◌∷◌, ◌++◌, length, get_or, take, Option, Some, None, refl, sym, ap, ◌∙◌, arith, subst, take_all}
use Rattle.std.proofs.lemmas.Bool.{cases_eq, and_from, and_parts, false_from_ne_true}
use Rattle.av_perm.specs.Gap.{simples, gap}
use Rattle.av_perm.specs.Lists.{is_nil}
use Rattle.av_simple.specs.declared.outcome.Outcome.{Outcome}
use Rattle.av_simple.specs.declared.outcome.Outcome.TheVariants as outcome
use Rattle.av_simple.specs.Searched.{Searched, EndsEmpty, IsFound, gap_of, outcome_by, last_by, levels_to, roots_of, roots_by}
use Rattle.av_simple.proofs.Levels.{levels_more, length_levels, level_at, all_of, roots_are}
use Rattle.av_simple.proofs.Gaps.{is_gap, nil_is, gap_found, gap_none, gap_is}

-- the lengths below m were searched: none of them was a gap with the next
pub record IsSearched (basis kept : List (List ℕ)) (levels : List (List (List ℕ))) (m : ℕ) : Type 0 where
  pub kept_is : kept ≡ basis
  pub low : 4 ≤ m
  pub levels_are : levels ≡ levels_to basis (m - 1)
  pub none : (k : ℕ) → 4 ≤ k → k + 1 < m → is_gap basis k ≡ false

pub searched_start : (basis kept : List (List ℕ)) (levels : List (List (List ℕ))) → kept ≡ basis → levels ≡ [] → IsSearched basis kept levels 4
searched_start basis kept levels e n = record {
  kept_is = e;
  low = omega arith;
  levels_are = n;
  none = λ k h l. absurd (omega arith);
}

-- the last two levels, where there are two
levels_end : (basis : List (List ℕ)) (m : ℕ) → 5 ≤ m → (get_or (levels_to basis m) (m - 3 - 2) [] ≡ simples basis (m - 1)) × (get_or (levels_to basis m) (m - 3 - 1) [] ≡ simples basis m)
levels_end basis m h =
    let a : m - 3 - 2 ≡ m - 1 - 4 = omega arith in
    let b : m - 3 - 1 ≡ m - 4 = omega arith in (
      ap (λ i. get_or (levels_to basis m) i []) a ∙ level_at basis m (m - 1) [] (omega arith) (omega arith),
      ap (λ i. get_or (levels_to basis m) i []) b ∙ level_at basis m m [] (omega arith) (omega arith),
    )

-- they are empty exactly where the length before is a gap
ends_gap : (basis : List (List ℕ)) (m : ℕ) → 4 ≤ m → EndsEmpty (levels_to basis m) → (5 ≤ m) × (is_gap basis (m - 1) ≡ true)
ends_gap basis m low e =
    let n = length_levels basis m in
    let five : 5 ≤ m = omega (arith, e.two, n) in
    let q = levels_end basis m five in
    let next : suc (m - 1) ≡ m = omega arith in
    let here : simples basis (m - 1) ≡ [] = sym q.0 ∙ ap (λ k. get_or (levels_to basis m) (k - 2) []) (sym n) ∙ e.before in
    let last : simples basis m ≡ [] = sym q.1 ∙ ap (λ k. get_or (levels_to basis m) (k - 1) []) (sym n) ∙ e.last in
    (five, and_from (is_nil (simples basis (m - 1))) (is_nil (simples basis (suc (m - 1)))) (ap is_nil here) (ap (λ k. is_nil (simples basis k)) next ∙ ap is_nil last))

gap_ends : (basis : List (List ℕ)) (m : ℕ) → 5 ≤ m → is_gap basis (m - 1) ≡ true → EndsEmpty (levels_to basis m)
gap_ends basis m five g =
    let n = length_levels basis m in
    let q = levels_end basis m five in
    let next : suc (m - 1) ≡ m = omega arith in
    let t = and_parts (is_nil (simples basis (m - 1))) (is_nil (simples basis (suc (m - 1)))) g in
    record {
      two = omega (arith, n);
      before = ap (λ k. get_or (levels_to basis m) (k - 2) []) n ∙ q.0 ∙ nil_is (simples basis (m - 1)) t.0;
      last = ap (λ k. get_or (levels_to basis m) (k - 1) []) n ∙ q.1 ∙ ap (simples basis) (sym next) ∙ nil_is (simples basis (suc (m - 1))) t.1;
    }

module _ (basis kept words : List (List ℕ)) (levels levels' : List (List (List ℕ))) (limit m : ℕ)
    (s : IsSearched basis kept levels m) (w : words ≡ simples basis m) (e : levels' ≡ levels ++ words ∷ []) where
  levels_now : levels' ≡ levels_to basis m
  levels_now = e ∙ ap (λ l. l ++ words ∷ []) s.levels_are ∙ ap (λ v. levels_to basis (m - 1) ++ v ∷ []) w ∙ sym (levels_more basis m s.low)

  -- no gap here: one more length was searched
  pub searched_more : (EndsEmpty levels' → ⊥) → IsSearched basis kept levels' (m + 1)
  unfolding levels_now
  searched_more no_gap =
      let n : m + 1 - 1 ≡ m = omega arith in
      record {
        kept_is = s.kept_is;
        low = omega (arith, s.low);
        levels_are = levels_now ∙ ap (levels_to basis) (sym n);
        none = λ k h l. elim (cases_eq (k + 1) m) [
          | inl q ↦
              let r : m - 1 ≡ k = omega arith in
              ap (is_gap basis) (sym r) ∙ false_from_ne_true (is_gap basis (m - 1)) (λ g. no_gap (subst EndsEmpty (sym levels_now) (gap_ends basis m (omega arith) g)))
          | inr ne ↦ s.none k h (omega arith)
        ];
      }

  -- a gap
  pub settled_found : 5 ≤ limit → limit ≤ 10 → m ≤ limit → EndsEmpty levels' → IsFound (record { basis = kept; limit = limit }) levels' (outcome.Gap (m - 1))
  unfolding levels_now
  settled_found low high within empty =
      let r = ends_gap basis m s.low (subst EndsEmpty levels_now empty) in
      let next : suc (m - 1) ≡ m = omega (arith, r.0) in
      let g : gap basis limit ≡ Some (m - 1) = gap_found basis limit (m - 1) (omega (arith, r.0)) (omega arith) r.1 (λ k h l. s.none k h (omega arith)) in
      subst (λ b. IsFound (record { basis = b; limit = limit }) levels' (outcome.Gap (m - 1))) (sym s.kept_is)
      (record {
        low = low;
        high = high;
        found_is = ap outcome_by (sym g);
        levels_are = levels_now ∙ ap (levels_to basis) (sym next) ∙ ap (λ f. levels_to basis (last_by limit f)) (sym g);
      })

-- at the limit
pub unsettled_found : (basis kept : List (List ℕ)) (levels : List (List (List ℕ))) (limit m : ℕ) → IsSearched basis kept levels m
    → 5 ≤ limit → limit ≤ 10 → m ≡ limit + 1 → IsFound (record { basis = kept; limit = limit }) levels outcome.Unsettled
unsettled_found basis kept levels limit m s low high e =
    let n : m - 1 ≡ limit = omega arith in
    let g : gap basis limit ≡ None = gap_none basis limit (λ k h l. s.none k h (omega arith)) in
    subst (λ b. IsFound (record { basis = b; limit = limit }) levels outcome.Unsettled) (sym s.kept_is)
    (record {
      low = low;
      high = high;
      found_is = ap outcome_by (sym g);
      levels_are = s.levels_are ∙ ap (levels_to basis) n ∙ ap (λ f. levels_to basis (last_by limit f)) (sym g);
    })

-- all words found are the roots, where there is a gap
pub roots_found : (s : Searched) (levels : List (List (List ℕ))) (found : Outcome) (i : ℕ) (roots : List (List ℕ)) → IsFound s levels found → (gap_of s ≡ None → ⊥)
    → length levels ≤ i → roots ≡ all_of (take i levels) → roots ≡ roots_of s
roots_found s levels found i roots f settled end e = by (gap_of s) refl
  where
    by : (g : Option ℕ) → gap_of s ≡ g → roots ≡ roots_of s
    by None q = absurd (settled q)
    by (Some g) q =
        let r = gap_is s.basis s.limit g (omega (arith, f.low)) q in
        e ∙ ap all_of (take_all i levels end) ∙ ap all_of f.levels_are ∙ ap (λ h. all_of (levels_to s.basis (last_by s.limit h))) q
        ∙ roots_are s.basis g r.low r.here r.next ∙ ap (roots_by s.basis) (sym q)
