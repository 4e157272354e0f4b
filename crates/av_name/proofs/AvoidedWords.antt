-- Words that are avoided, by what is known to be avoided.
use Rattle.std.proofs.Common.{◌≡◌, true, false, ℕ, List, not, slice_get, Some, inl, inr, true≢false, sym, ◌∙◌, subst}
use Rattle.std.specs.List.{list_any}
use Rattle.std.proofs.lemmas.Bool.{cases_Bool}
use Rattle.std.proofs.lemmas.Option.{slice_get_within, get_or_from_slice_get}
use Rattle.av_perm.specs.Lists.{same}
use Rattle.av_perm.specs.WordOrder.{word_same}
use Rattle.av_perm.specs.Class.{avoids_all}
use Rattle.av_perm.specs.Contain.{contains}
use Rattle.av_perm.proofs.Membership.{In, In_at}
use Rattle.av_perm.proofs.Tests.{any_from, all_from, not_from}

-- each word of a list that is avoided is not contained
not_contained : (w : List ℕ) (known : List (List ℕ)) (p : List ℕ) → avoids_all known w ≡ true → In p known → contains w p ≡ false
not_contained w known p avoided i = elim (cases_Bool (contains w p)) [
  | inl e ↦ absurd (not_from (contains w p) (all_from (λ b. not (contains w b)) known avoided p i) e)
  | inr e ↦ e
]

-- so a word that is among those known
pub among_known : (w : List ℕ) (known : List (List ℕ)) (p : List ℕ) → avoids_all known w ≡ true → list_any (λ v. same v p) known ≡ true → contains w p ≡ false
among_known w known p avoided e =
    let r = any_from (λ v. same v p) known e in
    not_contained w known p avoided (subst (λ v. In v known) (word_same r.0 p r.2) r.1)

-- where one of a list is contained, the list isn't avoided
pub one_contained : (w : List ℕ) (patterns : List (List ℕ)) (i : ℕ) (p : List ℕ) → slice_get patterns i ≡ Some p → contains w p ≡ true → avoids_all patterns w ≡ false
one_contained w patterns i p e c = elim (cases_Bool (avoids_all patterns w)) [
  | inl a ↦ absurd (true≢false (sym c ∙ not_contained w patterns p a (subst (λ y. In y patterns) (get_or_from_slice_get patterns i p p e) (In_at patterns i p (slice_get_within patterns i p e)))))
  | inr a ↦ a
]
