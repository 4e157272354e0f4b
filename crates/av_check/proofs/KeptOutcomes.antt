-- What is kept of names stays right, and what is found there is.
use Rattle.std.proofs.Common.{◌≡◌, inl, inr, ℕ, List, [], ◌∷◌, Bool, true, false, if◌then◌else◌, Some, None, refl, sym, ap, ◌∙◌, subst}
use Rattle.std.specs.Map.{lookup}
use Rattle.indexmap.specs.IndexMap.{insert_entry}
use Rattle.av_sys.specs.declared.names.Name.{Name}
use Rattle.av_sys.specs.contracts.names.NamePartialEq.TheImpl as names
use Rattle.av_build.proofs.NameNumbers.{name_equal}
use Rattle.av_build.proofs.NameTests.{name_test}
use Rattle.av_check.specs.declared.outcomes.Outcome.{Outcome}
use Rattle.av_check.specs.Outcomes.{outcome, AreOutcomes}

-- names that pass the derived test are equal
same_key : (n m : Name) → (names.eq-value).it n m ≡ true → n ≡ m
same_key n m e = name_equal n m (sym (ap (λ (t : Name → Bool). t m) (name_test n)) ∙ e)

-- what is found at a name is its outcome
pub found_right : (simples : List (List ℕ)) (n : Name) (o : Outcome) (es : List (Name × Outcome)) → AreOutcomes simples es → lookup ((names.eq-value).it n) es ≡ Some o → o ≡ outcome simples n
found_right simples n o [] h e = absurd (let z : None ≡ Some o = e in cc)
found_right simples n o (p ∷ es) h e = by ((names.eq-value).it n p.0) refl e (λ q. found_right simples n o es (λ r i. h r (inr i)) q)
  where
    by : (b : Bool) → (names.eq-value).it n p.0 ≡ b → (if b then Some p.1 else lookup ((names.eq-value).it n) es) ≡ Some o → (lookup ((names.eq-value).it n) es ≡ Some o → o ≡ outcome simples n) → o ≡ outcome simples n
    by true t q later = let z : p.1 ≡ o = cc in sym z ∙ h p (inl refl) ∙ ap (outcome simples) (sym (same_key n p.0 t))
    by false t q later = later q

-- and one more that is right leaves all right
pub kept_right : (simples : List (List ℕ)) (n : Name) (o : Outcome) (es : List (Name × Outcome)) → AreOutcomes simples es → o ≡ outcome simples n → AreOutcomes simples (insert_entry (names.eq-value).it es n o)
kept_right simples n o [] h e p (inl q) = subst (λ (r : Name × Outcome). r.1 ≡ outcome simples r.0) (sym q) e
kept_right simples n o [] h e p (inr i) = absurd i
kept_right simples n o (r ∷ es) h e p i = by ((names.eq-value).it n r.0) refl (kept_right simples n o es (λ x j. h x (inr j)) e) p i
  where
    by : (b : Bool) → (names.eq-value).it n r.0 ≡ b → AreOutcomes simples (insert_entry (names.eq-value).it es n o) → AreOutcomes simples (if b then ((r.0, o) ∷ es) else (r ∷ insert_entry (names.eq-value).it es n o))
    by true t later p (inl q) = subst (λ (x : Name × Outcome). x.1 ≡ outcome simples x.0) (sym q) (e ∙ ap (outcome simples) (same_key n r.0 t))
    by true t later p (inr i) = h p (inr i)
    by false t later p (inl q) = h p (inl q)
    by false t later p (inr i) = later p i
