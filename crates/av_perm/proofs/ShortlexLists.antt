-- Words put into shortlex order, each once.
use Rattle.std.proofs.Common.{◌≡◌, ℕ, ◌⊎◌, inl, inr, List, [], ◌∷◌, refl, sym, ap, ◌∙◌, subst}
use Rattle.std.specs.Ordering.{is_eq, ordering_reverse}
use Rattle.std.specs.declared.cmp.Ordering.{Ordering}
use Rattle.std.specs.declared.cmp.Ordering.TheVariants.{Less, Equal, Greater}
use Rattle.av_perm.specs.Members.{In, Once, Ascending}
use Rattle.av_perm.specs.Word.{shortlex}
use Rattle.av_perm.specs.WordOrder.{shortlex_total, shortlex_ties, word_same}
use Rattle.av_perm.specs.Class.{insert_by, insert_word, in_shortlex}
use Rattle.av_perm.proofs.Ascending.{once_from_ascending}

-- words that tie are equal
pub equal_words : (w v : List ℕ) → shortlex w v ≡ Equal → w ≡ v
equal_words w v e = word_same w v (shortlex_ties w v ∙ ap is_eq e)

-- what stands in a list into which a word was put
pub insert_In : (w : List ℕ) (ws : List (List ℕ)) (x : List ℕ) → In x (insert_word w ws) → (x ≡ w) ⊎ In x ws
insert_In w [] x (inl e) = inl e
insert_In w [] x (inr i) = absurd i
insert_In w (v ∷ ws) x i = by (shortlex w v) i (insert_In w ws x)
  where
    by : (o : Ordering) → In x (insert_by o w v ws (insert_word w ws)) → (In x (insert_word w ws) → (x ≡ w) ⊎ In x ws) → (x ≡ w) ⊎ In x (v ∷ ws)
    by Less (inl e) f = inl e
    by Less (inr j) f = inr j
    by Equal j f = inr j
    by Greater (inl e) f = inr (inl e)
    by Greater (inr j) f = elim (f j) [ inl e ↦ inl e | inr k ↦ inr (inr k) ]

-- the word that was put in is there
pub insert_new : (w : List ℕ) (ws : List (List ℕ)) → In w (insert_word w ws)
insert_new w [] = inl refl
insert_new w (v ∷ ws) = by (shortlex w v) refl (insert_new w ws)
  where
    by : (o : Ordering) → shortlex w v ≡ o → In w (insert_word w ws) → In w (insert_by o w v ws (insert_word w ws))
    by Less e i = inl refl
    by Equal e i = inl (equal_words w v e)
    by Greater e i = inr i

-- the other words are still there
pub insert_old : (w : List ℕ) (ws : List (List ℕ)) (x : List ℕ) → In x ws → In x (insert_word w ws)
insert_old w [] x i = absurd i
insert_old w (v ∷ ws) x i = by (shortlex w v) i (insert_old w ws x)
  where
    by : (o : Ordering) → In x (v ∷ ws) → (In x ws → In x (insert_word w ws)) → In x (insert_by o w v ws (insert_word w ws))
    by Less j f = inr j
    by Equal j f = j
    by Greater (inl e) f = inl e
    by Greater (inr j) f = inr (f j)

-- and it stays ascending
pub insert_ascending : (w : List ℕ) (ws : List (List ℕ)) → Ascending shortlex ws → Ascending shortlex (insert_word w ws)
insert_ascending w [] a = (λ y i. absurd i, tt)
insert_ascending w (v ∷ ws) a = by (shortlex w v) refl (insert_ascending w ws a.1)
  where
    above : shortlex w v ≡ Less → (y : List ℕ) → In y (v ∷ ws) → shortlex w y ≡ Less
    above e y (inl q) = subst (λ z. shortlex w z ≡ Less) (sym q) e
    above e y (inr i) = shortlex_total.trans w v y e (a.0 y i)

    below : shortlex w v ≡ Greater → (y : List ℕ) → (y ≡ w) ⊎ In y ws → shortlex v y ≡ Less
    below e y (inl q) = subst (λ z. shortlex v z ≡ Less) (sym q) (shortlex_total.antisymm v w ∙ ap ordering_reverse e)
    below e y (inr i) = a.0 y i

    by : (o : Ordering) → shortlex w v ≡ o → Ascending shortlex (insert_word w ws) → Ascending shortlex (insert_by o w v ws (insert_word w ws))
    by Less e b = (above e, a)
    by Equal e b = a
    by Greater e b = (λ y i. below e y (insert_In w ws y i), b)

-- the words of a list in shortlex order
pub shortlex_In : (ws : List (List ℕ)) (x : List ℕ) → In x (in_shortlex ws) → In x ws
shortlex_In [] x i = absurd i
shortlex_In (w ∷ ws) x i = elim (insert_In w (in_shortlex ws) x i) [ inl e ↦ inl e | inr j ↦ inr (shortlex_In ws x j) ]

-- each word of the list is there
pub In_shortlex : (ws : List (List ℕ)) (x : List ℕ) → In x ws → In x (in_shortlex ws)
In_shortlex [] x i = absurd i
In_shortlex (w ∷ ws) x (inl e) = subst (λ y. In y (insert_word w (in_shortlex ws))) (sym e) (insert_new w (in_shortlex ws))
In_shortlex (w ∷ ws) x (inr j) = insert_old w (in_shortlex ws) x (In_shortlex ws x j)

-- they are in shortlex order
pub shortlex_ascending : (ws : List (List ℕ)) → Ascending shortlex (in_shortlex ws)
shortlex_ascending [] = tt
shortlex_ascending (w ∷ ws) = insert_ascending w (in_shortlex ws) (shortlex_ascending ws)

-- and each comes once
pub shortlex_once : (ws : List (List ℕ)) → Once (in_shortlex ws)
shortlex_once ws = once_from_ascending shortlex shortlex_total (in_shortlex ws) (shortlex_ascending ws)
