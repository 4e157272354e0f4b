-- The loop over the leaves of a root: the first flaw, and the numbers of the cells.
use Rattle.std.proofs.Common.{◌≡◌, ℕ, suc, ◌+◌, ◌-◌, ◌^◌, ◌≤◌, inl, inr, List, [], ◌∷◌, length, slice_get, All, min, cond, le-leb, Option, Some, None, refl, sym, ap, ◌∙◌, subst, arith}
use Rattle.std.proofs.lemmas.Bool.{cases_lt, cases_eq, lt-leb}
use Rattle.std.proofs.lemmas.List.{length-map}
use Rattle.av_perm.specs.Members.{In}
use Rattle.av_perm.specs.Relations.{IsWord}
use Rattle.av_perm.proofs.Membership.{Each, In_map, all_each}
use Rattle.av_perm.proofs.WordTests.{word_from}
use Rattle.av_perm.proofs.ListLaws.{get_In}
use Rattle.av_perm.proofs.PermWords.{perms_words}
use Rattle.av_sys.specs.declared.names.Name.{Name}
use Rattle.av_sys.specs.declared.terms.Term.TheVariants.{Node}
use Rattle.av_sys.specs.declared.terms.Equation.{Equation}
use Rattle.av_sys.specs.declared.terms.System.{System}
use Rattle.av_sys.specs.Names.{IsMadeOfWords}
use Rattle.av_sys.specs.Terms.{IsSystemRoot}
use Rattle.av_split.specs.Boxes.{Box}
use Rattle.av_build.specs.declared.limits.TheConstants.{MAX_SIZE}
use Rattle.av_build.specs.Drafts.{child_names}
use Rattle.av_build.specs.Laws.{Covers}
use Rattle.av_walk.specs.declared.leaves.CellEnd.{CellEnd}
use Rattle.av_walk.specs.declared.leaves.CellEnd.TheVariants as cells
use Rattle.av_walk.specs.Walk.{bare, Leaf}
use Rattle.av_walk.specs.Leaves.{name_of_equation, names_at, names_of_root, leaves_of}
use Rattle.av_walk.specs.Ends.{IsEndOf}
use Rattle.av_check.specs.declared.fault.Fault.TheVariants as faults
use Rattle.av_check.specs.declared.verdict.Flaw.{Flaw}
use Rattle.av_check.specs.Verdicts.{first_sign, ending_flaw, leaf_flaw, at_most, first_of, cell_fault, first_leaf}
use Rattle.av_check.specs.Laws.{IsWordName}
use Rattle.av_check.specs.Checks.{IsShortName, IsTaken}
use Rattle.av_check.specs.Outcomes.{IsGrowable}
use Rattle.av_check.specs.Ends.{end_flaw, IsGrowableEnd, IsLeft}
use Rattle.av_check.proofs.BareCells.{bare_growable}
use Rattle.av_check.proofs.ListedTerms.{In_names}

-- the flaw of a leaf by its end
pub end_same : (simples : List (List ℕ)) (root : List ℕ) (end : CellEnd) (l : Leaf Box) → IsEndOf end l → end_flaw simples root end ≡ leaf_flaw MAX_SIZE simples root l
end_same simples root cells.Good l e = sym (ap (λ x. ending_flaw MAX_SIZE simples root x l.cell) e)
end_same simples root (cells.Bare b) l e = sym (ap (λ x. ending_flaw MAX_SIZE simples root x l.cell) e.0 ∙ ap (λ c. ending_flaw MAX_SIZE simples root bare c) e.1)
end_same simples root cells.Twice l e = sym (ap (λ x. ending_flaw MAX_SIZE simples root x l.cell) e)
end_same simples root cells.Extra l e = sym (ap (λ x. ending_flaw MAX_SIZE simples root x l.cell) e)

-- a number up to a bound
within : (most k : ℕ) → k ≤ most → at_most most k ≡ k
within most k h = ap (λ b. cond b k most) (le-leb k most h)

above : (most k : ℕ) → most ≤ k → at_most most k ≡ most
above most k h = elim (cases_eq k most) [
  | inl e ↦ within most k (omega (arith, e)) ∙ e
  | inr ne ↦ ap (λ b. cond b k most) (lt-leb k most (omega (arith, ne)))
]

-- one more, as long as the bound isn't reached
next_number : (most k : ℕ) → at_most most (suc k) ≡ min (at_most most k + 1) most
next_number most k = elim (cases_lt k most) [
  | inl h ↦ let a = within most (suc k) (omega arith) in let b = within most k (omega arith) in omega arith
  | inr h ↦ let a = above most (suc k) (omega arith) in let b = above most k h in omega arith
]

module _ (f : Leaf Box → Option Flaw) (root : List ℕ) where
  -- at first all are left
  pub left_start : (all left : List (Leaf Box)) (number : ℕ) → left ≡ all → number ≡ 0 → IsLeft f root all left number
  left_start all left number e z = record {
    gone = 0;
    number_is = z ∙ sym (within (2 ^ 64 - 1) 0 (omega arith));
    first = ap (first_leaf f root 0) e;
    among = λ l i. subst (In l) e i;
  }

  -- a leaf without a flaw is passed over
  pub left_passed : (all left rest : List (Leaf Box)) (l : Leaf Box) (number next : ℕ) → left ≡ l ∷ rest → f l ≡ None → next ≡ min (number + 1) (2 ^ 64 - 1) → IsLeft f root all left number → IsLeft f root all rest next
  left_passed all left rest l number next e none n h = record {
    gone = suc h.gone;
    number_is = n ∙ ap (λ k. min (k + 1) (2 ^ 64 - 1)) h.number_is ∙ sym (next_number (2 ^ 64 - 1) h.gone);
    first = sym (ap (λ o. first_of (cell_fault root h.gone o) (first_leaf f root (suc h.gone) rest)) none) ∙ sym (ap (first_leaf f root h.gone) e) ∙ h.first;
    among = λ m i. h.among m (subst (In m) (sym e) (inr i));
  }

  -- the first one with a flaw is the fault
  pub left_flaw : (all left rest : List (Leaf Box)) (l : Leaf Box) (number : ℕ) (flaw : Flaw) → left ≡ l ∷ rest → f l ≡ Some flaw → IsLeft f root all left number → Some (faults.Cell root number flaw) ≡ first_leaf f root 0 all
  left_flaw all left rest l number flaw e some h =
      ap (λ k. Some (faults.Cell root k flaw)) h.number_is
      ∙ sym (ap (λ o. first_of (cell_fault root h.gone o) (first_leaf f root (suc h.gone) rest)) some) ∙ sym (ap (first_leaf f root h.gone) e) ∙ h.first

-- a root of a system is a word, and no longer than ten entries
pub root_word : (root : List ℕ) → IsSystemRoot root → IsWord root × (2 ≤ length root) × (length root ≤ 10)
root_word root (inl e) = (subst IsWord (sym e) (word_from (1 ∷ 2 ∷ []) refl), let n = ap length e in omega arith, let n = ap length e in omega arith)
root_word root (inr (inl e)) = (subst IsWord (sym e) (word_from (2 ∷ 1 ∷ []) refl), let n = ap length e in omega arith, let n = ap length e in omega arith)
root_word root (inr (inr p)) = (record { numbers = p.0.numbers; filled = omega (arith, p.0.long) }, omega (arith, p.0.long), p.1)

module _ (S : System) (e : Equation) (taken : IsTaken S) (named : All (λ (e : Equation). IsMadeOfWords e.name) S.equations) (listed : In e S.equations) where
  -- the names are short and of words
  word_name : (d : Equation) → In d S.equations → IsWordName d.name
  word_name d i = let m = all_each (λ (e : Equation). IsMadeOfWords e.name) S.equations named d i in record { avoids = perms_words d.name.avoid m.avoided; requires = perms_words d.name.require m.required }

  pub short_name : (d : Equation) → In d S.equations → IsShortName d.name
  short_name d i = all_each (λ (e : Equation). IsShortName e.name) S.equations taken.names d i

  -- so are those of children
  child_words : (cs : List ℕ) → Each IsWordName (names_at S cs)
  child_words cs m i = let r = In_map (λ c. name_of_equation (slice_get S.equations c)) cs m i in subst IsWordName (sym r.2) (by (slice_get S.equations r.0) refl)
    where
      by : (o : Option Equation) → slice_get S.equations (In_map (λ c. name_of_equation (slice_get S.equations c)) cs m i).0 ≡ o → IsWordName (name_of_equation o)
      by None q = record { avoids = λ w j. absurd j; requires = λ w j. absurd j }
      by (Some d) q = word_name d (get_In S.equations (In_map (λ c. name_of_equation (slice_get S.equations c)) cs m i).0 d q)

  child_short : (cs : List ℕ) → Each IsShortName (names_at S cs)
  child_short cs m i = let r = In_map (λ c. name_of_equation (slice_get S.equations c)) cs m i in subst IsShortName (sym r.2) (by (slice_get S.equations r.0) refl)
    where
      by : (o : Option Equation) → slice_get S.equations (In_map (λ c. name_of_equation (slice_get S.equations c)) cs m i).0 ≡ o → IsShortName (name_of_equation o)
      by None q = record { avoid = λ k d l. absurd (omega arith); require = λ k d l. absurd (omega arith) }
      by (Some d) q = short_name d (get_In S.equations (In_map (λ c. name_of_equation (slice_get S.equations c)) cs m i).0 d q)

  -- the canonical systems that an end asks for can be grown
  pub growable_end : (basis : List (List ℕ)) (root : List ℕ) (end : CellEnd) (l : Leaf Box) → Covers basis e.name.avoid → IsSystemRoot root → In l (leaves_of S root e) → IsEndOf end l → IsGrowableEnd basis root end
  growable_end basis root cells.Good l covers r i k = tt
  growable_end basis root (cells.Bare b) l covers r i k =
      subst (λ c. (n : Name) → In n (child_names (first_sign root) c) → IsGrowable basis n) k.1
      (bare_growable root e.name (names_of_root S root e.terms) (root_word root r).0 (word_name e listed) sized words (short_name e listed) shorts basis (first_sign root) l covers i k.0)
    where
      sized : Each (λ ns. length ns ≡ length root) (names_of_root S root e.terms)
      sized ns j =
          let t = In_names S root e.terms ns j in
          ap length t.2 ∙ length-map t.0 (λ c. name_of_equation (slice_get S.equations c)) ∙ (taken.form.terms e (Node root t.0) listed t.1).count

      words : Each (λ ns. Each IsWordName ns) (names_of_root S root e.terms)
      words ns j = let t = In_names S root e.terms ns j in subst (Each IsWordName) (sym t.2) (child_words t.0)

      shorts : Each (λ ns. Each IsShortName ns) (names_of_root S root e.terms)
      shorts ns j = let t = In_names S root e.terms ns j in subst (Each IsShortName) (sym t.2) (child_short t.0)
  growable_end basis root cells.Twice l covers r i k = tt
  growable_end basis root cells.Extra l covers r i k = tt
