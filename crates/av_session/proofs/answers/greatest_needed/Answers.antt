-- A turn of the loop, and its end.
use Rattle.std.proofs.Common.{◌≡◌, ℕ, ◌+◌, ◌<◌, ◌≤◌, max, inl, inr, List, [], ◌∷◌, ◌++◌, map, fold, length, take, get_or, ap, ◌∙◌, sym, subst, arith}
use Rattle.std.proofs.lemmas.Bool.{cases_lt}
use Rattle.std.proofs.lemmas.List.{get_or_default, map-append, take_all, take_more}
use Rattle.std.proofs.lemmas.List.Sums.{fold-append}
use Rattle.av_text.specs.declared.queries.Query.{Query}
use Rattle.av_session.specs.Answers.{length_needed}
use Rattle.av_session.specs.Serving.{greatest_needed}
use Rattle.av_session.proofs.answers.greatest_needed.Goals as goal

-- the entry at the last index of some
last_entry : (qs : List Query) (i k : ℕ) (d q : Query) → i < length qs → q ≡ get_or qs i q → i ≤ k → k < i + 1 → length_needed (get_or qs k d) ≡ length_needed q
last_entry qs i k d q h e low high =
    let same : k ≡ i = omega arith in
    ap (λ j. length_needed (get_or qs j d)) same ∙ ap length_needed (get_or_default qs i d q h ∙ sym e)

-- the greatest of one query more
one_more : (qs : List Query) (i : ℕ) (q : Query) → i < length qs → q ≡ get_or qs i q → greatest_needed (take (i + 1) qs) ≡ max (greatest_needed (take i qs)) (length_needed q)
one_more qs i q h e =
    ap greatest_needed (take_more qs i q h ∙ ap (λ r. take i qs ++ r ∷ []) (sym e))
    ∙ ap (fold max 0) (map-append length_needed (take i qs) (q ∷ []))
    ∙ fold-append max 0 (map length_needed (take i qs)) (length_needed q ∷ [])

pub loop-query-preserved : goal.loop-query-preserved
loop-query-preserved c = record {
  value = omega (
    arith,
    one_more c.as_slice-query-items.result.now c.loop-query.query-index c.query-item.result c.loop-query-test.true c.query-item.is,
    c.loop-query.invariant.value,
    c.length_needed.ensures.value,
  );
  all = λ k d h. elim (cases_lt k c.loop-query.query-index) [
    | inl low ↦ omega (arith, c.loop-query.invariant.all k d low)
    | inr high ↦
        omega (
          arith,
          last_entry c.as_slice-query-items.result.now c.loop-query.query-index k d c.query-item.result c.loop-query-test.true c.query-item.is high h,
          c.length_needed.ensures.value,
        )
  ];
  few = omega (arith, c.length_needed.ensures.few);
}

pub returns-clause-all : goal.returns-clause-all
returns-clause-all c k d h =
    subst (λ (qs : List Query). length_needed (get_or qs k d) ≤ c.loop-query.greatest) c.as_slice-query-items.ensures.value
    (c.loop-query.invariant.all k d (omega (arith, h, c.loop-query-test.false, ap (λ (qs : List Query). length qs) c.as_slice-query-items.ensures.value)))

pub returns-clause-value : goal.returns-clause-value
returns-clause-value c =
    c.loop-query.invariant.value
    ∙ ap greatest_needed (take_all c.loop-query.query-index c.as_slice-query-items.result.now (omega (arith, c.loop-query-test.false)) ∙ c.as_slice-query-items.ensures.value)
