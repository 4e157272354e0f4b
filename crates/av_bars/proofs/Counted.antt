-- How many words have a value, the greatest value, and counts of words that come one after another.
use Rattle.std.proofs.Common.{◌≡◌, ℕ, suc, ◌+◌, ◌-◌, ◌<◌, ◌≤◌, inl, inr, Bool, true, false, cond, nat_eq, List, [], ◌∷◌, ◌++◌, filter, length, get_or, set, replicate, refl, sym, ap, ◌∙◌, subst, arith, eq-eqb, ne_eqb}
use Rattle.std.proofs.lemmas.Bool.{cases_eq}
use Rattle.std.proofs.lemmas.List.{length-append, length-set, get_or-set_same, get_or-set_other, get_or-replicate}
use Rattle.std.proofs.lemmas.List.Elements.{filter-append}
use Rattle.std.proofs.lemmas.List.Sums.{length-filter, count_by-le-length}
use Rattle.av_perm.specs.Members.{In}
use Rattle.av_perm.specs.Stat.{statistic_of}
use Rattle.av_perm.specs.declared.StatKind.{StatKind}
use Rattle.av_perm.proofs.Membership.{In_append_cases, filter_In}
use Rattle.av_bars.specs.Histograms.{how_many, greatest, bars, bars_of, Tallied}
use Rattle.av_bars.proofs.BarLists.{bars_same, bars_end}

-- one word more
pub how_many_more : (kind : StatKind) (ws : List (List ℕ)) (w : List ℕ) (v : ℕ)
    → how_many kind (ws ++ w ∷ []) v ≡ how_many kind ws v + cond {A = ℕ} (nat_eq (statistic_of kind w) v) 1 0
unfolding how_many
how_many_more kind ws w v =
    ap length (filter-append (λ u. nat_eq (statistic_of kind u) v) ws (w ∷ []))
    ∙ length-append (filter (λ u. nat_eq (statistic_of kind u) v) ws) (filter (λ u. nat_eq (statistic_of kind u) v) (w ∷ []))
    ∙ ap (λ n. length (filter (λ u. nat_eq (statistic_of kind u) v) ws) + n) (by (nat_eq (statistic_of kind w) v))
  where
    by : (b : Bool) → length (cond b (w ∷ []) []) ≡ cond {A = ℕ} b 1 0
    by true = refl
    by false = refl

-- no more than all
pub how_many_few : (kind : StatKind) (ws : List (List ℕ)) (v : ℕ) → how_many kind ws v ≤ length ws
unfolding how_many
how_many_few kind ws v =
    omega (arith, length-filter (λ w. nat_eq (statistic_of kind w) v) ws, count_by-le-length (λ w. nat_eq (statistic_of kind w) v) ws)

pub how_many_no_word : (kind : StatKind) (v : ℕ) → how_many kind [] v ≡ 0
unfolding how_many
how_many_no_word kind v = refl

-- no word has it
pub absent : (kind : StatKind) (ws : List (List ℕ)) (v : ℕ) → ((w : List ℕ) → In w ws → statistic_of kind w ≡ v → ⊥) → how_many kind ws v ≡ 0
unfolding how_many
absent kind [] v h = refl
absent kind (w ∷ ws) v h =
    ap (λ b. length (cond b (w ∷ filter (λ u. nat_eq (statistic_of kind u) v) ws) (filter (λ u. nat_eq (statistic_of kind u) v) ws))) (ne_eqb (statistic_of kind w) v (h w (inl refl)))
    ∙ absent kind ws v (λ u i. h u (inr i))

-- a word has it
pub present : (kind : StatKind) (ws : List (List ℕ)) (w : List ℕ) → In w ws → 0 < how_many kind ws (statistic_of kind w)
unfolding how_many
present kind ws w i =
    some (filter (λ u. nat_eq (statistic_of kind u) (statistic_of kind w)) ws)
    (filter_In (λ u. nat_eq (statistic_of kind u) (statistic_of kind w)) ws w i (eq-eqb (statistic_of kind w) (statistic_of kind w) refl))
  where
    some : (xs : List (List ℕ)) → In w xs → 0 < length xs
    some [] j = absurd j
    some (x ∷ xs) j = omega arith

-- no word's value is greater than the greatest
pub at_most_greatest : (kind : StatKind) (ws : List (List ℕ)) (w : List ℕ) → In w ws → statistic_of kind w ≤ greatest kind ws
unfolding greatest
at_most_greatest kind [] w i = absurd i
at_most_greatest kind (x ∷ ws) w (inl e) = omega (arith, ap (statistic_of kind) e)
at_most_greatest kind (x ∷ ws) w (inr i) = omega (arith, at_most_greatest kind ws w i)

pub greatest_below : (kind : StatKind) (ws : List (List ℕ)) (n : ℕ) → 0 < n → ((w : List ℕ) → In w ws → statistic_of kind w < n) → greatest kind ws < n
unfolding greatest
greatest_below kind [] n some h = some
greatest_below kind (w ∷ ws) n some h = omega (arith, h w (inl refl), greatest_below kind ws n some (λ u i. h u (inr i)))

-- nothing is counted
pub none_tallied : (kind : StatKind) (counts : List ℕ) (n : ℕ) → counts ≡ replicate n 0 → length counts ≡ n → Tallied kind counts []
none_tallied kind counts n e l = record {
  counted = λ v h. ap (λ (xs : List ℕ). get_or xs v 0) e ∙ get_or-replicate n v 0 0 (omega arith) ∙ sym (how_many_no_word kind v);
  placed = λ w i. absurd i;
}

-- one word more is counted
pub word_tallied : (kind : StatKind) (counts new : List ℕ) (ws : List (List ℕ)) (w : List ℕ) (s : ℕ) → s ≡ statistic_of kind w → s < length counts
    → new ≡ set counts s (get_or counts s 0 + 1) → Tallied kind counts ws → Tallied kind new (ws ++ w ∷ [])
word_tallied kind counts new ws w s is within e t = record {
  counted = λ v h. elim (cases_eq v s) [
    | inl same ↦
        ap (λ (xs : List ℕ). get_or xs v 0) e ∙ ap (λ j. get_or (set counts s (get_or counts s 0 + 1)) j 0) same
        ∙ get_or-set_same counts s (get_or counts s 0 + 1) 0 within
        ∙ ap (λ n. n + 1) (t.counted s within)
        ∙ sym (how_many_more kind ws w v ∙ ap (λ b. how_many kind ws v + cond {A = ℕ} b 1 0) (eq-eqb (statistic_of kind w) v (sym is ∙ sym same)) ∙ ap (λ j. how_many kind ws j + 1) same)
    | inr other ↦
        let none : how_many kind ws v + 0 ≡ how_many kind ws v = omega arith in
        ap (λ (xs : List ℕ). get_or xs v 0) e ∙ get_or-set_other counts s v (get_or counts s 0 + 1) 0 other
        ∙ t.counted v (subst (λ n. v < n) long h)
        ∙ sym (how_many_more kind ws w v ∙ ap (λ b. how_many kind ws v + cond {A = ℕ} b 1 0) (ne_eqb (statistic_of kind w) v (λ q. other (sym q ∙ sym is))) ∙ none)
  ];
  placed = λ u i. elim (In_append_cases ws (w ∷ []) u i) [
    | inl j ↦ subst (λ n. statistic_of kind u < n) (sym long) (t.placed u j)
    | inr j ↦ last u j
  ];
}
  where
    long : length new ≡ length counts
    long = ap length e ∙ length-set counts s (get_or counts s 0 + 1)

    last : (u : List ℕ) → In u (w ∷ []) → statistic_of kind u < length new
    last u (inl q) = omega (arith, ap (statistic_of kind) q, is, within, long)
    last u (inr j) = absurd j

-- the counts of words, where there is one for each value, are their histogram
pub tallied_bars : (kind : StatKind) (counts : List ℕ) (ws : List (List ℕ)) → 0 < length counts → Tallied kind counts ws
    → bars_of (λ v. get_or counts v 0) (length counts) ≡ bars kind ws
unfolding bars
tallied_bars kind counts ws some t =
    let l : greatest kind ws < length counts = greatest_below kind ws (length counts) some t.placed in
    let e : length counts ≡ suc (greatest kind ws) + (length counts - suc (greatest kind ws)) = omega arith in
    bars_same (λ v. get_or counts v 0) (how_many kind ws) (length counts) t.counted
    ∙ ap (bars_of (how_many kind ws)) e
    ∙ bars_end (how_many kind ws) (suc (greatest kind ws)) (length counts - suc (greatest kind ws))
    (λ v h. let n : how_many kind ws v ≡ 0 = absent kind ws v (λ w i q. let m = at_most_greatest kind ws w i in omega (arith, m, q, h)) in omega (arith, n))
