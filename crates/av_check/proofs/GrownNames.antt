-- The names of a growing system are found once each, and its size once all were gone through is a sum over them.
use Rattle.std.proofs.Common.{◌≡◌, ℕ, suc, ◌+◌, ◌≤◌, List, [], ◌∷◌, ◌++◌, length, slice_get, flat_map, sum_by, Bool, true, false, if◌then◌else◌, Some, None, refl, sym, ap, ◌∙◌, subst, arith, true≢false}
use Rattle.std.specs.List.{list_any}
use Rattle.std.proofs.lemmas.List.Sums.{sum_by-cons}
use Rattle.av_perm.specs.Members.{Once}
use Rattle.av_perm.proofs.Membership.{In_one}
use Rattle.av_perm.proofs.NoRepeats.{once_append}
use Rattle.av_perm.proofs.Tests.{any_to}
use Rattle.av_sys.specs.declared.names.Name.{Name}
use Rattle.av_sys.specs.declared.terms.Term.{Term}
use Rattle.av_build.specs.Drafts.{draft_names, drafts}
use Rattle.av_build.specs.Canonical.{same_name, with_name, with_names, grow_from, grown_size}
use Rattle.av_build.proofs.NameNumbers.{name_refl}
use Rattle.av_perm.proofs.Pointwise.{same_length}
use Rattle.av_build.proofs.TermsStand.{Stands, FoundAt}
use Rattle.av_build.proofs.Growing.{StandForName, grow_stays, grow_inv}
use Rattle.av_build.proofs.GrownSizes.{IsThrough}

with_once : (found : List Name) (n : Name) → Once found → Once (with_name found n)
with_once found n o = by (list_any (same_name n) found) refl
  where
    by : (b : Bool) → list_any (same_name n) found ≡ b → Once (if b then found else found ++ n ∷ [])
    by true e = o
    by false e = once_append found (n ∷ []) o (λ i. i, tt) (λ m i j. true≢false (sym (any_to (same_name n) found m i (subst (λ x. same_name n x ≡ true) (sym (In_one m n j)) (name_refl n))) ∙ e))

all_once : (found ns : List Name) → Once found → Once (with_names found ns)
all_once found [] o = o
all_once found (n ∷ ns) o = all_once (with_name found n) ns (with_once found n o)

-- each name is found once
pub grow_once : (simples : List (List ℕ)) (first : Name) (j : ℕ) → Once (grow_from simples first j).found
grow_once simples first = grow_stays simples first (λ g. Once g.found) (λ i. i, tt) (λ g n e o. all_once g.found (flat_map draft_names (drafts simples n)) o)

-- how many terms the equation of a name has
abbrev due : List (List ℕ) → Name → ℕ
due simples n = length (drafts simples n)

-- the equation and its terms
abbrev pub weight : List (List ℕ) → Name → ℕ
weight simples n = suc (due simples n)

-- each list of terms is as long as that of the name at its place
abbrev AreDue : List (List ℕ) → List Name → List (List Term) → Type 0
AreDue simples names written = (u : ℕ) (ts : List Term) → slice_get written u ≡ Some ts → (n : Name) × (slice_get names u ≡ Some n) × (length ts ≡ due simples n)

module _ (simples : List (List ℕ)) where
  first_due : (n : Name) (names : List Name) (ts : List Term) (written : List (List Term)) → AreDue simples (n ∷ names) (ts ∷ written) → length ts ≡ due simples n
  first_due n names ts written h = let r = h 0 ts refl in let s : n ≡ r.0 = some_name n r.0 r.1 in r.2 ∙ ap (due simples) (sym s)
    where
      some_name : (a b : Name) → Some a ≡ Some b → a ≡ b
      some_name a b e = cc

  -- the terms written are those of the first names found
  sum_first : (names : List Name) (written : List (List Term)) → AreDue simples names written → sum_by (λ (ts : List Term). length ts) written ≤ sum_by (due simples) names
  sum_first names [] h = omega arith
  sum_first [] (ts ∷ written) h = let r = h 0 ts refl in absurd (let z : None ≡ Some r.0 = r.1 in cc)
  sum_first (n ∷ names) (ts ∷ written) h =
      omega (arith, first_due n names ts written h, sum_by-cons (λ (x : List Term). length x) ts written, sum_by-cons (due simples) n names, sum_first names written (λ u x e. h (suc u) x e))

  -- and of all where there are as many
  sum_whole : (names : List Name) (written : List (List Term)) → AreDue simples names written → length names ≤ length written → sum_by (due simples) names ≤ sum_by (λ (ts : List Term). length ts) written
  sum_whole [] written h l = omega arith
  sum_whole (n ∷ names) [] h l = absurd (omega arith)
  sum_whole (n ∷ names) (ts ∷ written) h l =
      omega (arith, first_due n names ts written h, sum_by-cons (λ (x : List Term). length x) ts written, sum_by-cons (due simples) n names, sum_whole names written (λ u x e. h (suc u) x e) (omega arith))

  sum_weights : (ns : List Name) → sum_by (weight simples) ns ≡ length ns + sum_by (due simples) ns
  sum_weights [] = refl
  sum_weights (n ∷ ns) = omega (arith, sum_by-cons (weight simples) n ns, sum_by-cons (due simples) n ns, sum_weights ns)

  module _ (first : Name) (j : ℕ) where
    grown_due : AreDue simples (grow_from simples first j).found (grow_from simples first j).written
    grown_due u ts e =
        let s : StandForName simples (grow_from simples first j).found u ts = (grow_inv simples first j).stands u ts e in
        (s.0, s.1, same_length (Stands (FoundAt (grow_from simples first j).found)) ts (drafts simples s.0) s.2)

    -- so the size is at most the sum over the names, and that sum where all names were gone through
    pub size_most : grown_size (grow_from simples first j) ≤ sum_by (weight simples) (grow_from simples first j).found
    size_most =
        let g = grow_from simples first j in
        omega (arith, sum_first g.found g.written grown_due, sum_weights g.found)

    pub size_whole : IsThrough (grow_from simples first j) → sum_by (weight simples) (grow_from simples first j).found ≤ grown_size (grow_from simples first j)
    size_whole h =
        let g = grow_from simples first j in
        omega (arith, sum_whole g.found g.written grown_due h, sum_weights g.found)
