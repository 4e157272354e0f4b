-- The list of embeddings holds each of them once, in lexicographic order.
use Rattle.std.proofs.Common.{◌≡◌, ℕ, zero, suc, ◌<◌, ◌≤◌, ◌⊎◌, inl, inr, ◌↔◌, List, [], ◌∷◌, ◌++◌, length, true, ◌&&◌, ◌||◌, ◌==◌, nat_lt, nat_le, eq-eqb, refl, sym, ap, subst, arith}
use Rattle.std.specs.List.{list_all}
use Rattle.std.specs.Ordering.{nat_cmp}
use Rattle.std.specs.Cmp.Lexicographic.{slice_cmp}
use Rattle.std.proofs.lemmas.Bool.{cases_lt, cases_eq, eqb-true, leb-true, le-leb, and_parts, and_from, or_cases, or_left, or_right}
use Rattle.std.proofs.lemmas.Cmp.{nat_cmp_total, nat_list_cmp_total}
use Rattle.av_perm.specs.Members.{Ascending}
use Rattle.av_perm.specs.Lists.{alike, all_lists, counting}
use Rattle.av_perm.specs.Word.{entry}
use Rattle.av_perm.specs.Relations.{at}
use Rattle.av_perm.proofs.Membership.{In, append_right, In_at, at_In, In_filter, filter_In, In_counting, counting_In}
use Rattle.av_perm.proofs.GeneratedLists.{lists_from, lists_to}
use Rattle.av_perm.proofs.Tests.{all_from, all_to, agree_from, agree_to}
use Rattle.av_perm.proofs.Ascending.{once_from_ascending, ascending_filter, ascending_counting, ascending_lists}
use Rattle.av_embed.specs.Embed.{IsEmbedding, rises, lies_to_later, lies, embeddings}
use Rattle.av_embed.specs.Laws.{HasEmbeddings}

-- the test for rising lists tests them
rises_from : (e : List ℕ) → rises e ≡ true → (s t : ℕ) → s < t → t < length e → at e s ≤ at e t
rises_from [] r s t h k = absurd (omega arith)
rises_from (x ∷ e) r zero zero h k = absurd (omega arith)
rises_from (x ∷ e) r (suc s) zero h k = absurd (omega arith)
rises_from (x ∷ e) r zero (suc t) h k = leb-true x (at e t) (all_from (nat_le x) e (and_parts (list_all (nat_le x) e) (rises e) r).0 (at e t) (In_at e t 0 (omega arith)))
rises_from (x ∷ e) r (suc s) (suc t) h k = rises_from e (and_parts (list_all (nat_le x) e) (rises e) r).1 s t (omega arith) (omega arith)

-- a rising list passes it
rises_to : (e : List ℕ) → ((s t : ℕ) → s < t → t < length e → at e s ≤ at e t) → rises e ≡ true
rises_to [] h = refl
rises_to (x ∷ e) h =
    and_from (list_all (nat_le x) e) (rises e)
    (all_to (nat_le x) e (λ y i. let s = at_In e y 0 i in le-leb x y (subst (λ z. x ≤ z) s.2 (h 0 (suc s.0) (omega arith) (omega (arith, s.1))))))
    (rises_to e (λ s t k l. h (suc s) (suc t) (omega arith) (omega arith)))

-- one entry and its child against a later one
abbrev Lies : List ℕ → ℕ → ℕ → ℕ → ℕ → Type 0
Lies π g c h d = (c ≡ d) ⊎ (((g < h) ↔ (entry π c < entry π d)) × ((h < g) ↔ (entry π d < entry π c)))

-- the test of that
abbrev lies_alike : List ℕ → ℕ → ℕ → ℕ → ℕ → Type 0
lies_alike π g c h d = (c == d || (alike (nat_lt g h) (nat_lt (entry π c) (entry π d)) && alike (nat_lt h g) (nat_lt (entry π d) (entry π c)))) ≡ true

-- the test passes where they lie so
alike_from : (π : List ℕ) (g c h d : ℕ) → lies_alike π g c h d → Lies π g c h d
alike_from π g c h d e =
    elim (or_cases (c == d) (alike (nat_lt g h) (nat_lt (entry π c) (entry π d)) && alike (nat_lt h g) (nat_lt (entry π d) (entry π c))) e) [
      | inl q ↦ inl (eqb-true c d q)
      | inr q ↦ let b = and_parts (alike (nat_lt g h) (nat_lt (entry π c) (entry π d))) (alike (nat_lt h g) (nat_lt (entry π d) (entry π c))) q in inr (agree_from g h (entry π c) (entry π d) b.0, agree_from h g (entry π d) (entry π c) b.1)
    ]

-- where they lie so the test passes
alike_to : (π : List ℕ) (g c h d : ℕ) → Lies π g c h d → lies_alike π g c h d
alike_to π g c h d (inl q) = or_left (c == d) (alike (nat_lt g h) (nat_lt (entry π c) (entry π d)) && alike (nat_lt h g) (nat_lt (entry π d) (entry π c))) (eq-eqb c d q)
alike_to π g c h d (inr q) =
    or_right (c == d) (alike (nat_lt g h) (nat_lt (entry π c) (entry π d)) && alike (nat_lt h g) (nat_lt (entry π d) (entry π c)))
    (and_from (alike (nat_lt g h) (nat_lt (entry π c) (entry π d))) (alike (nat_lt h g) (nat_lt (entry π d) (entry π c))) (agree_to g h (entry π c) (entry π d) q.0) (agree_to h g (entry π d) (entry π c) q.1))

-- against each later entry
later_from : (π : List ℕ) (g c : ℕ) (γ e : List ℕ) → lies_to_later π g c γ e ≡ true → (s : ℕ) → s < length γ → s < length e → Lies π g c (at γ s) (at e s)
later_from π g c [] e r s h k = absurd (omega arith)
later_from π g c (x ∷ γ) [] r s h k = absurd (omega arith)
later_from π g c (x ∷ γ) (d ∷ e) r zero h k = alike_from π g c x d (and_parts (c == d || (alike (nat_lt g x) (nat_lt (entry π c) (entry π d)) && alike (nat_lt x g) (nat_lt (entry π d) (entry π c)))) (lies_to_later π g c γ e) r).0
later_from π g c (x ∷ γ) (d ∷ e) r (suc s) h k =
    later_from π g c γ e (and_parts (c == d || (alike (nat_lt g x) (nat_lt (entry π c) (entry π d)) && alike (nat_lt x g) (nat_lt (entry π d) (entry π c)))) (lies_to_later π g c γ e) r).1 s (omega arith) (omega arith)

-- where all lie so the test of all passes
later_to : (π : List ℕ) (g c : ℕ) (γ e : List ℕ) → ((s : ℕ) → s < length γ → s < length e → Lies π g c (at γ s) (at e s)) → lies_to_later π g c γ e ≡ true
later_to π g c [] e h = refl
later_to π g c (x ∷ γ) [] h = refl
later_to π g c (x ∷ γ) (d ∷ e) h =
    and_from (c == d || (alike (nat_lt g x) (nat_lt (entry π c) (entry π d)) && alike (nat_lt x g) (nat_lt (entry π d) (entry π c)))) (lies_to_later π g c γ e)
    (alike_to π g c x d (h 0 (omega arith) (omega arith)))
    (later_to π g c γ e (λ s k l. h (suc s) (omega arith) (omega arith)))

-- the test for lying as the root does tests it
lies_from : (π γ e : List ℕ) → lies π γ e ≡ true → (s t : ℕ) → s < t → t < length γ → t < length e → Lies π (at γ s) (at e s) (at γ t) (at e t)
lies_from π [] e r s t h k l = absurd (omega arith)
lies_from π (g ∷ γ) [] r s t h k l = absurd (omega arith)
lies_from π (g ∷ γ) (c ∷ e) r zero zero h k l = absurd (omega arith)
lies_from π (g ∷ γ) (c ∷ e) r (suc s) zero h k l = absurd (omega arith)
lies_from π (g ∷ γ) (c ∷ e) r zero (suc t) h k l = later_from π g c γ e (and_parts (lies_to_later π g c γ e) (lies π γ e) r).0 t (omega arith) (omega arith)
lies_from π (g ∷ γ) (c ∷ e) r (suc s) (suc t) h k l = lies_from π γ e (and_parts (lies_to_later π g c γ e) (lies π γ e) r).1 s t (omega arith) (omega arith) (omega arith)

-- entries that lie as the root does pass it
lies_to : (π γ e : List ℕ) → ((s t : ℕ) → s < t → t < length γ → t < length e → Lies π (at γ s) (at e s) (at γ t) (at e t)) → lies π γ e ≡ true
lies_to π [] e h = refl
lies_to π (g ∷ γ) [] h = refl
lies_to π (g ∷ γ) (c ∷ e) h =
    and_from (lies_to_later π g c γ e) (lies π γ e)
    (later_to π g c γ e (λ s k l. h 0 (suc s) (omega arith) (omega arith) (omega arith)))
    (lies_to π γ e (λ s t k l m. h (suc s) (suc t) (omega arith) (omega arith) (omega arith)))

-- what is listed is an embedding
pub embedding_from : (π γ e : List ℕ) → In e (embeddings π γ) → IsEmbedding π γ e
unfolding embeddings
embedding_from π γ e i =
    let f = In_filter (λ e. rises e && lies π γ e) (all_lists (length γ) (counting 1 (length π))) e i in
    let t = and_parts (rises e) (lies π γ e) f.1 in
    let a = lists_from (length γ) (counting 1 (length π)) e f.0 in
    record {
      count = a.long;
      children = λ s h. let r = In_counting (length π) 1 (at e s) (a.from (at e s) (In_at e s 0 h)) in (r.0, omega (arith, r.1));
      rising = rises_from e t.0;
      across = λ s t' h k ne. elim (cases_lt s t') [
        | inl l ↦ elim (lies_from π γ e t.1 s t' l (omega (arith, a.long)) k) [ inl q ↦ absurd (ne q) | inr q ↦ q.0 ]
        | inr l ↦ elim (cases_eq t' s) [
          | inl q ↦ absurd (ne (ap (at e) (sym q)))
          | inr q ↦ elim (lies_from π γ e t.1 t' s (omega (arith, q)) (omega (arith, a.long)) h) [ inl z ↦ absurd (ne (sym z)) | inr z ↦ z.1 ]
        ]
      ];
    }

-- and each embedding is listed
pub embedding_to : (π γ e : List ℕ) → IsEmbedding π γ e → In e (embeddings π γ)
unfolding embeddings
embedding_to π γ e m =
    filter_In (λ e. rises e && lies π γ e) (all_lists (length γ) (counting 1 (length π))) e
    (subst (λ k. In e (all_lists k (counting 1 (length π)))) m.count (lists_to e (counting 1 (length π)) (λ x i.
    let s = at_In e x 0 i in
    let r = m.children s.0 s.1 in
    subst (λ y. In y (counting 1 (length π))) s.2 (counting_In (length π) 1 (at e s.0) r.0 (omega (arith, r.1))))))
    (and_from (rises e) (lies π γ e) (rises_to e m.rising) (lies_to π γ e (λ s t h k l. elim (cases_eq (at e s) (at e t)) [
      | inl q ↦ inl q
      | inr q ↦ inr (m.across s t (omega arith) l q, m.across t s l (omega arith) (λ z. q (sym z)))
    ])))

-- in a loop over the embeddings each one that comes is an embedding
pub yielded_embedding : (π γ : List ℕ) (before left after : List (List ℕ)) (e : List ℕ) → before ++ left ≡ embeddings π γ → left ≡ e ∷ after → IsEmbedding π γ e
yielded_embedding π γ before left after e h q = embedding_from π γ e (subst (In e) h (append_right before left e (subst (In e) (sym q) (inl refl))))

-- they come in lexicographic order
pub embeddings_ascending : (π γ : List ℕ) → Ascending (slice_cmp nat_cmp) (embeddings π γ)
unfolding embeddings
embeddings_ascending π γ =
    ascending_filter (slice_cmp nat_cmp) (λ e. rises e && lies π γ e) (all_lists (length γ) (counting 1 (length π)))
    (ascending_lists nat_cmp nat_cmp_total (length γ) (counting 1 (length π)) (ascending_counting (length π) 1))

-- the list holds the embeddings, each once
pub embeddings_hold : (π γ : List ℕ) → HasEmbeddings π γ
embeddings_hold π γ = record {
  listed = record {
    members = λ e. (embedding_from π γ e, embedding_to π γ e);
    once = once_from_ascending (slice_cmp nat_cmp) nat_list_cmp_total (embeddings π γ) (embeddings_ascending π γ);
  };
  ascending = embeddings_ascending π γ;
}
