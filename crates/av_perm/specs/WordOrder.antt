-- The laws of the shortlex order.
use Rattle.std.specs.Prelude.{◌≡◌, ℕ, true, false, List, [], ◌∷◌, length, nat_eq, ◌≢◌}
use Rattle.std.proofs.Common.{refl, sym, ◌∙◌, ap, ap₂, eq-eqb, eqb-true, true≢false}
use Rattle.std.specs.declared.cmp.Ordering.{Ordering}
use Rattle.std.specs.declared.cmp.Ordering.TheVariants.{Less, Equal, Greater}
use Rattle.std.specs.Ordering.{ordering_then, nat_cmp, is_eq, eq_by_cmp, as_partial_cmp}
use Rattle.std.specs.Cmp.{IsTotalOrder, IsPartialOrder, then_total, on_total, nat_cmp_total, unsigned_ties, partial_order_from_total, partial_order_from_own_ties, first_so, second_so}
use Rattle.std.specs.Cmp.Lexicographic.{pointwise, slice_cmp, nat_list_cmp_total, texts_ties, unequal}
use Rattle.av_perm.specs.Word.{shortlex}

-- it is a total order
pub shortlex_total : IsTotalOrder shortlex
shortlex_total = then_total (on_total length nat_cmp_total) nat_list_cmp_total

-- numbers that don't compare equal differ
not_equal : (o : Ordering) (a b : ℕ) → nat_cmp a b ≡ o → is_eq o ≡ false → a ≢ b
not_equal o a b e unlike same =
    true≢false (sym (eq-eqb a b same) ∙ unsigned_ties a b ∙ ap is_eq e ∙ unlike)

-- words tie in it exactly where they are equal
pub shortlex_ties : (xs ys : List ℕ) → pointwise nat_eq xs ys ≡ eq_by_cmp shortlex xs ys
shortlex_ties xs ys = by (nat_cmp (length xs) (length ys)) refl
  where
    by : (o : Ordering) → nat_cmp (length xs) (length ys) ≡ o → pointwise nat_eq xs ys ≡ is_eq (ordering_then o (slice_cmp nat_cmp xs ys))
    by Less e = unequal nat_eq xs ys (not_equal Less (length xs) (length ys) e refl)
    by Equal e = texts_ties xs ys
    by Greater e = unequal nat_eq xs ys (not_equal Greater (length xs) (length ys) e refl)

-- and a partial order that goes with equality
pub shortlex_partial : IsPartialOrder (pointwise nat_eq) (as_partial_cmp shortlex)
shortlex_partial = partial_order_from_own_ties (partial_order_from_total shortlex_total) shortlex_ties

-- lists whose test of equality passes are equal
pub word_same : (xs ys : List ℕ) → pointwise nat_eq xs ys ≡ true → xs ≡ ys
word_same [] [] e = refl
word_same [] (y ∷ ys) e = absurd (true≢false (sym e))
word_same (x ∷ xs) [] e = absurd (true≢false (sym e))
word_same (x ∷ xs) (y ∷ ys) e =
    ap₂ (λ (z : ℕ) (zs : List ℕ). z ∷ zs) (eqb-true x y (first_so (nat_eq x y) (pointwise nat_eq xs ys) e))
    (word_same xs ys (second_so (nat_eq x y) (pointwise nat_eq xs ys) e))

-- the same for lists of words
pub words_same : (xs ys : List (List ℕ)) → pointwise (pointwise nat_eq) xs ys ≡ true → xs ≡ ys
words_same [] [] e = refl
words_same [] (y ∷ ys) e = absurd (true≢false (sym e))
words_same (x ∷ xs) [] e = absurd (true≢false (sym e))
words_same (x ∷ xs) (y ∷ ys) e =
    ap₂ (λ (z : List ℕ) (zs : List (List ℕ)). z ∷ zs) (word_same x y (first_so (pointwise nat_eq x y) (pointwise (pointwise nat_eq) xs ys) e))
    (words_same xs ys (second_so (pointwise nat_eq x y) (pointwise (pointwise nat_eq) xs ys) e))
