-- The roots that an equation may have, by its sign: they are those of the terms of its name, with the sign of their first child.
use Rattle.std.proofs.Common.{◌≡◌, ℕ, inl, inr, List, [], ◌∷◌, true, false, cond, refl, sym, ap, ◌∙◌, subst}
use Rattle.std.specs.List.{list_any}
use Rattle.std.proofs.lemmas.Bool.{cases_Bool}
use Rattle.av_perm.specs.Members.{In}
use Rattle.av_perm.specs.Lists.{same}
use Rattle.av_perm.specs.WordOrder.{word_same}
use Rattle.av_perm.specs.Relations.{IsSimple, sum_root, skew_root}
use Rattle.av_perm.specs.Decompose.{IsRoot}
use Rattle.av_perm.proofs.Membership.{Each}
use Rattle.av_perm.proofs.Tests.{any_from}
use Rattle.av_sys.specs.declared.names.Sign.{Sign}
use Rattle.av_sys.specs.declared.names.Sign.TheVariants.{C, P, M}
use Rattle.av_sys.specs.Names.{IsSigned}
use Rattle.av_build.proofs.NameEquations.{Serves}
use Rattle.av_build.proofs.RootedTerms.{Rooted, sums, skews, simple_ones, rooted}
use Rattle.av_build.proofs.DraftMeanings.{simple_other, simple_is, IsRooted, is_rooted, one_of}
use Rattle.av_check.specs.Verdicts.{first_sign, roots_for}

-- different words fail the test
pub same_false : (v w : List ℕ) → (v ≡ w → ⊥) → same v w ≡ false
same_false v w h = elim (cases_Bool (same v w)) [ inl e ↦ absurd (h (word_same v w e)) | inr e ↦ e ]

-- the first child of a simple root has the sign C
pub simple_sign : (root : List ℕ) → IsSimple root → first_sign root ≡ C
simple_sign root p =
    ap (λ b. cond b P (cond (same root skew_root) M C)) (same_false root sum_root (simple_other root sum_root p refl))
    ∙ ap (λ b. cond b M C) (same_false root skew_root (simple_other root skew_root p refl))

-- a root with the sign of its first child
abbrev pub rooted_at : List ℕ → Rooted
rooted_at root = record { first = first_sign root; root = root }

-- a simple root among the simple ones
simple_at : (simples : List (List ℕ)) (root : List ℕ) → Each IsSimple simples → In root simples → In (rooted_at root) (simple_ones simples)
simple_at simples root g i = subst (λ s. In (let r : Rooted = record { first = s; root = root } in r) (simple_ones simples)) (sym (simple_sign root (g root i))) (there simples i)
  where
    there : (πs : List (List ℕ)) → In root πs → In (let r : Rooted = record { first = C; root = root } in r) (simple_ones πs)
    there [] j = absurd j
    there (π ∷ πs) (inl e) = inl (ap (λ (l : List ℕ). let r : Rooted = record { first = C; root = l } in r) e)
    there (π ∷ πs) (inr j) = inr (there πs j)

-- a root that is listed is one of the name's roots
pub listed_rooted : (simples : List (List ℕ)) (s : Sign) (root : List ℕ) → Each IsSimple simples → In root (roots_for s simples) → In (rooted_at root) (rooted simples s)
listed_rooted simples C root g (inl e) = inl (ap rooted_at e)
listed_rooted simples C root g (inr (inl e)) = inr (inl (ap rooted_at e))
listed_rooted simples C root g (inr (inr i)) = inr (inr (simple_at simples root g i))
listed_rooted simples P root g (inl e) = inl (ap rooted_at e)
listed_rooted simples P root g (inr i) = inr (simple_at simples root g i)
listed_rooted simples M root g (inl e) = inl (ap rooted_at e)
listed_rooted simples M root g (inr i) = inr (simple_at simples root g i)

-- and the name's roots are listed
pub rooted_listed : (simples : List (List ℕ)) (s : Sign) (r : Rooted) → In r (rooted simples s) → In r.root (roots_for s simples)
rooted_listed simples C r (inl e) = inl (ap (λ (x : Rooted). x.root) e)
rooted_listed simples C r (inr (inl e)) = inr (inl (ap (λ (x : Rooted). x.root) e))
rooted_listed simples C r (inr (inr i)) = inr (inr (simple_is simples r i))
rooted_listed simples P r (inl e) = inl (ap (λ (x : Rooted). x.root) e)
rooted_listed simples P r (inr i) = inr (simple_is simples r i)
rooted_listed simples M r (inl e) = inl (ap (λ (x : Rooted). x.root) e)
rooted_listed simples M r (inr i) = inr (simple_is simples r i)

-- so a listed root is one that the sign lets be
pub listed_is : (simples : List (List ℕ)) (s : Sign) (root : List ℕ) → Each IsSimple simples → In root (roots_for s simples) → IsRooted simples s (rooted_at root)
listed_is simples s root g i = is_rooted simples g s (rooted_at root) (listed_rooted simples s root g i)

-- and a root that the sign lets be is listed, where all simple ones are
pub serves_listed : (simples : List (List ℕ)) (s : Sign) (root α : List ℕ) → IsRoot root α → Serves s root → (IsSimple root → In root simples) → In root (roots_for s simples)
serves_listed simples s root α r h all = let o = one_of simples s root α r h all in subst (λ π. In π (roots_for s simples)) o.same (rooted_listed simples s o.one o.listed)

-- what passes the test is listed
pub listed_by_test : (s : Sign) (simples : List (List ℕ)) (root : List ℕ) → list_any (same root) (roots_for s simples) ≡ true → In root (roots_for s simples)
listed_by_test s simples root e = let r = any_from (same root) (roots_for s simples) e in subst (λ x. In x (roots_for s simples)) (sym (word_same root r.0 r.2)) r.1

-- under a root the first block has the sign of the root's first child
pub first_signed : (root α : List ℕ) → IsRoot root α → IsSigned (first_sign root) α
first_signed root α (inl r) = subst (λ x. IsSigned (first_sign x) α) (sym r.0) r.1
first_signed root α (inr (inl r)) = subst (λ x. IsSigned (first_sign x) α) (sym r.0) r.1
first_signed root α (inr (inr p)) = subst (λ s. IsSigned s α) (sym (simple_sign root p)) tt

-- the roots of a name have the sign of their first child
pub rooted_sign : (simples : List (List ℕ)) (s : Sign) (r : Rooted) → Each IsSimple simples → In r (rooted simples s) → r.first ≡ first_sign r.root
rooted_sign simples s r g i = by s i
  where
    simple_first : (πs : List (List ℕ)) → In r (simple_ones πs) → r.first ≡ C
    simple_first [] j = absurd j
    simple_first (π ∷ πs) (inl e) = ap (λ (x : Rooted). x.first) e
    simple_first (π ∷ πs) (inr j) = simple_first πs j

    is : (t : Rooted) → r ≡ t → t.first ≡ first_sign t.root → r.first ≡ first_sign r.root
    is t e h = subst (λ (x : Rooted). x.first ≡ first_sign x.root) (sym e) h

    simple : In r (simple_ones simples) → r.first ≡ first_sign r.root
    simple j = simple_first simples j ∙ sym (simple_sign r.root (g r.root (simple_is simples r j)))

    by : (s : Sign) → In r (rooted simples s) → r.first ≡ first_sign r.root
    by C (inl e) = is sums e refl
    by C (inr (inl e)) = is skews e refl
    by C (inr (inr j)) = simple j
    by P (inl e) = is skews e refl
    by P (inr j) = simple j
    by M (inl e) = is sums e refl
    by M (inr j) = simple j
