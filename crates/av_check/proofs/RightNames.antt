-- What the tests of a name say.
use Rattle.std.proofs.Common.{◌≡◌, ℕ, inl, inr, List, length, true, false, not, ◌&&◌, ◌||◌, nat_eq, ap, ◌∙◌, sym, subst, arith, true≢false}
use Rattle.std.specs.List.{list_any}
use Rattle.std.specs.Cmp.Lexicographic.{pointwise}
use Rattle.std.proofs.lemmas.Bool.{cases_Bool, or_parts, not-false}
use Rattle.av_perm.specs.Members.{In}
use Rattle.av_perm.specs.Lists.{same}
use Rattle.av_perm.specs.WordOrder.{words_same}
use Rattle.av_perm.specs.Contain.{contains}
use Rattle.av_perm.specs.Class.{minimal, top}
use Rattle.av_perm.specs.Relations.{AreWords, Contains}
use Rattle.av_perm.proofs.Tests.{any_from, any_to}
use Rattle.av_perm.proofs.Occurrences.{contains_from}
use Rattle.av_perm.proofs.Containment.{contains_trans}
use Rattle.av_perm.proofs.MinimalWords.{words_each, each_words, has_minimal}
use Rattle.av_perm.proofs.TopWords.{top_long}
use Rattle.av_sys.specs.declared.names.Name.{Name}
use Rattle.av_build.specs.Canonical.{same_name, first_name, is_void}
use Rattle.av_build.specs.Laws.{IsNameOver}
use Rattle.av_build.proofs.NameNumbers.{name_equal}
use Rattle.av_check.specs.Verdicts.{leaves_class, is_misnamed, is_wrong_name}
use Rattle.av_check.specs.Laws.{IsWordName}

-- where no word of the basis leaves the class, each contains an avoided word
class_kept : (basis required : List (List ℕ)) (n : Name) → AreWords basis → leaves_class (first_name basis required) n ≡ false → (b : List ℕ) → In b basis → (a : List ℕ) × In a n.avoid × Contains b a
class_kept basis required n gb e b i =
    let m = has_minimal (length b) basis b (words_each basis gb) i (omega arith) in
    let t : list_any (contains m.0) n.avoid ≡ true = elim (cases_Bool (list_any (contains m.0) n.avoid)) [
      | inl h ↦ h
      | inr h ↦ absurd (true≢false (sym (any_to (λ b. not (list_any (contains b) n.avoid)) (minimal basis) m.0 m.1 (ap not h)) ∙ e))
    ] in
    let a = any_from (contains m.0) n.avoid t in
    (a.0, a.1, contains_trans b m.0 a.0 m.2 (contains_from m.0 a.0 a.2))

-- a name that passes the test is one over the basis
pub named_over : (basis required : List (List ℕ)) (n : Name) → AreWords basis → IsWordName n → is_misnamed (first_name basis required) n ≡ false → IsNameOver basis n
named_over basis required n gb own e =
    let p = or_parts (not (pointwise same (minimal n.avoid) n.avoid)) (not (pointwise same (top n.require) n.require) || (is_void n || leaves_class (first_name basis required) n)) e in
    let q = or_parts (not (pointwise same (top n.require) n.require)) (is_void n || leaves_class (first_name basis required) n) p.1 in
    let r = or_parts (is_void n) (leaves_class (first_name basis required) n) q.1 in
    let tops : top n.require ≡ n.require = words_same (top n.require) n.require (not-false (pointwise same (top n.require) n.require) q.0) in
    record {
      avoids = own.avoids;
      requires = own.requires;
      long = λ w i. top_long n.require (each_words n.require own.requires) w (subst (In w) (sym tops) i);
      covers = class_kept basis required n gb r.1;
    }

-- equation 0 has the name of the claim
pub first_is : (first n : Name) → is_wrong_name first 0 n ≡ false → n ≡ first
first_is first n e =
    let p = or_parts (nat_eq 0 0 && not (same_name n first)) (is_misnamed first n) e in
    name_equal n first (not-false (same_name n first) p.0)

-- and each equation one that passes
pub not_misnamed : (first n : Name) (u : ℕ) → is_wrong_name first u n ≡ false → is_misnamed first n ≡ false
not_misnamed first n u e = (or_parts (nat_eq u 0 && not (same_name n first)) (is_misnamed first n) e).1
