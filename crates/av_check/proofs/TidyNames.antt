-- The names of a canonical system pass the tests of names.
use Rattle.std.proofs.Common.{◌≡◌, ℕ, ◌≤◌, inl, inr, List, [], ◌∷◌, length, Bool, true, false, not, ◌||◌, cond, refl, sym, ap, ◌∙◌, subst, arith, true≢false}
use Rattle.std.specs.List.{list_any, filter}
use Rattle.std.specs.Cmp.Lexicographic.{pointwise}
use Rattle.av_perm.specs.Members.{In}
use Rattle.av_perm.specs.Lists.{same}
use Rattle.av_perm.specs.WordOrder.{word_same}
use Rattle.av_perm.specs.Contain.{contains}
use Rattle.av_perm.specs.Class.{minimal, maximal, top}
use Rattle.av_perm.specs.Relations.{AreWords}
use Rattle.av_perm.proofs.Membership.{Each}
use Rattle.av_perm.proofs.Tests.{any_from, any_to, not_from, not_to}
use Rattle.av_perm.proofs.Occurrences.{contains_from, contains_to}
use Rattle.av_perm.proofs.Containment.{contains_same}
use Rattle.av_perm.proofs.MinimalWords.{minimal_again}
use Rattle.av_perm.proofs.TopWords.{one, is_other, maximal_top}
use Rattle.av_sys.specs.declared.names.Constraint.{Constraint}
use Rattle.av_sys.specs.declared.names.Name.{Name}
use Rattle.av_split.specs.Laws.{IsTidy}
use Rattle.av_split.proofs.WordSplit.{box_fine}
use Rattle.av_build.specs.Drafts.{Draft, draft_names, drafts}
use Rattle.av_build.specs.Canonical.{first_name, is_void}
use Rattle.av_build.specs.Laws.{IsNameOver}
use Rattle.av_build.proofs.NameNumbers.{lists_refl}
use Rattle.av_build.proofs.NamesOver.{first_name_ok, child_name_In, child_of_draft, draft_ok}
use Rattle.av_check.specs.Verdicts.{leaves_class, is_misnamed}

-- the words of a name
abbrev pub constraint_of : Name → Constraint
constraint_of n = record { avoid = n.avoid; require = n.require }

-- a name over the basis whose words are tidy
pub record IsTidyName (basis : List (List ℕ)) (n : Name) : Type 0 where
  pub over : IsNameOver basis n
  pub tidy : IsTidy (constraint_of n)

-- the name of a class is one over its own avoided words, unless it is void
pub first_tidy : (basis required : List (List ℕ)) → AreWords basis → AreWords required → is_void (first_name basis required) ≡ false → IsTidyName (minimal basis) (first_name basis required)
first_tidy basis required gb gq e = record {
  over = let ok = first_name_ok basis required gb gq in record { avoids = ok.avoids; requires = ok.requires; long = ok.long; covers = λ b i. (b, i, contains_same b) };
  tidy = record {
    minimal = minimal_again basis;
    maximal = maximal_top required;
    clean = λ r a i j c. true≢false (sym (any_to (λ r. list_any (contains r) (minimal basis)) (top required) r i (any_to (contains r) (minimal basis) a j (contains_to r a c))) ∙ e);
  };
}

-- and so is the name of a child of a term of one
pub draft_tidy : (basis simples : List (List ℕ)) (n : Name) (d : Draft) (m : Name) → IsTidyName basis n → In d (drafts simples n) → In m (draft_names d) → IsTidyName basis m
draft_tidy basis simples n d m t i im =
    let c = child_of_draft simples n d m i im in
    let f = box_fine c.root n.avoid n.require c.box t.over.avoids t.over.requires c.listed in
    let r = child_name_In c.first c.box m c.named in
    let y = f.tidy r.0 (omega (arith, r.1, f.count)) in
    record {
      over = draft_ok basis simples n d m t.over i im;
      tidy = record {
        minimal = subst (λ l. minimal l ≡ l) (sym r.2) y.minimal;
        maximal = subst (λ l. maximal l ≡ l) (sym r.3) y.maximal;
        clean = λ v a j k. y.clean v a (subst (In v) r.3 j) (subst (In a) r.2 k);
      };
    }

-- a list each of whose elements passes is kept
filter_whole : {A : Type 0} (f : A → Bool) (xs : List A) → Each (λ x. f x ≡ true) xs → filter f xs ≡ xs
filter_whole f [] h = refl
filter_whole f (x ∷ xs) h = ap (λ b. cond b (x ∷ filter f xs) (filter f xs)) (h x (inl refl)) ∙ ap (λ l. x ∷ l) (filter_whole f xs (λ y i. h y (inr i)))

-- maximal words of two entries or more are their own, but for the word 1
pub top_same : (ws : List (List ℕ)) → Each (λ (w : List ℕ). 2 ≤ length w) ws → maximal ws ≡ ws → top ws ≡ ws
top_same ws long e =
    ap (filter is_other) e
    ∙ filter_whole is_other ws (λ w i. not_to (same one w) (λ t. let f = ap length (word_same one w t) in omega (arith, long w i)))

pub or_false : (a b : Bool) → a ≡ false → b ≡ false → (a || b) ≡ false
or_false true b e f = absurd (true≢false e)
or_false false b e f = f

pub false_of : (b : Bool) → (b ≡ true → ⊥) → b ≡ false
false_of true h = absurd (h refl)
false_of false h = refl

-- equal lists pass the test
same_lists : (xs ys : List (List ℕ)) → xs ≡ ys → not (pointwise same xs ys) ≡ false
same_lists xs ys e = ap not (subst (λ l. pointwise same l ys ≡ true) (sym e) (lists_refl ys))

-- a tidy name over the words that the first one avoids passes the test
pub tidy_named : (first n : Name) → IsTidyName first.avoid n → is_misnamed first n ≡ false
tidy_named first n t =
    or_false (not (pointwise same (minimal n.avoid) n.avoid)) (not (pointwise same (top n.require) n.require) || (is_void n || leaves_class first n))
    (same_lists (minimal n.avoid) n.avoid t.tidy.minimal)
    (or_false (not (pointwise same (top n.require) n.require)) (is_void n || leaves_class first n)
    (same_lists (top n.require) n.require (top_same n.require t.over.long t.tidy.maximal))
    (or_false (is_void n) (leaves_class first n) (false_of (is_void n) clean) (false_of (leaves_class first n) kept)))
  where
    clean : is_void n ≡ true → ⊥
    clean e =
        let r = any_from (λ r. list_any (contains r) n.avoid) n.require e in
        let a = any_from (contains r.0) n.avoid r.2 in
        t.tidy.clean r.0 a.0 r.1 a.1 (contains_from r.0 a.0 a.2)

    kept : leaves_class first n ≡ true → ⊥
    kept e =
        let b = any_from (λ b. not (list_any (contains b) n.avoid)) first.avoid e in
        let a = t.over.covers b.0 b.1 in
        not_from (list_any (contains b.0) n.avoid) b.2 (any_to (contains b.0) n.avoid a.0 a.1 (contains_to b.0 a.0 a.2))
