-- What the code finds of a word without one of its places: the entries that are left, and whether they contain a word of each list.
use Rattle.std.proofs.Common.{◌≡◌, ℕ, ◌<◌, ◌≤◌, ◌↔◌, Bool, true, false, IsTrue, List, length, take, sym, ap, ◌∙◌, subst, arith, true≢false}
use Rattle.std.specs.List.{list_any, remove}
use Rattle.std.proofs.lemmas.List.{take_all}
use Rattle.av_perm.specs.Word.{is_perm, is_distinct}
use Rattle.av_perm.specs.Contain.{contains}
use Rattle.av_perm.specs.Relations.{IsWord}
use Rattle.av_perm.proofs.NoRepeats.{once_from_apart}
use Rattle.av_perm.proofs.WordTests.{once_distinct}
use Rattle.av_perm.proofs.PermWords.{perm_word}
use Rattle.av_union.specs.Union.{InBoth, ContainsSome}
use Rattle.av_union.specs.Gather.{without}
use Rattle.av_union.proofs.WithoutPlaces.{removed_apart, without_word, length_without}
use Rattle.av_union.proofs.Unions.{some_from, some_to}

-- the entries that the code copies, but for the one that it removes
pub copied_removed : (w es vs us bs : List ℕ) (i s : ℕ) → es ≡ w → length es ≤ i → vs ≡ take i es → us ≡ remove vs s → bs ≡ us → bs ≡ remove w s
copied_removed w es vs us bs i s same all e f g = g ∙ f ∙ ap (λ (l : List ℕ). remove l s) (e ∙ take_all i es all ∙ same)

-- of a word they differ
pub removed_distinct : (w us : List ℕ) (s : ℕ) → is_perm w ≡ true → s < length w → us ≡ remove w s → is_distinct us ≡ true
removed_distinct w us s perm h e = rw e (once_distinct (remove w s) (once_from_apart (remove w s) (removed_apart w s h (perm_word w perm))))

-- a word of one entry leaves none
pub one_leaves_none : (F G : List (List ℕ)) (w : List ℕ) (s : ℕ) → s < length w → length w ≡ 1 → InBoth F G (without w s) → ⊥
one_leaves_none F G w s h e b = omega (arith, b.word.filled, length_without w s h)

-- what is left contains a word of each list exactly where the tests of both lists pass
pub leaves_both : (F G : List (List ℕ)) (w r : List ℕ) (s : ℕ) → is_perm w ≡ true → s < length w → 2 ≤ length w → r ≡ without w s
    → list_any (λ v. contains r v) F ≡ true → (b : Bool) → b ≡ list_any (λ v. contains r v) G → IsTrue b ↔ InBoth F G (without w s)
leaves_both F G w r s perm h two e f b q = (
  λ t. subst (λ (x : List ℕ). InBoth F G x) e (record {
    word = subst IsWord (sym e) (without_word w s h two (perm_word w perm));
    has_first = some_from r F f;
    has_second = some_from r G (sym q ∙ t);
  }),
  λ c. q ∙ some_to r G (subst (λ (x : List ℕ). ContainsSome x G) (sym e) c.has_second),
)

-- it contains none of the first list where the test of that list fails
pub leaves_none : (F G : List (List ℕ)) (w r : List ℕ) (s : ℕ) → r ≡ without w s → list_any (λ v. contains r v) F ≡ false → InBoth F G (without w s) → ⊥
leaves_none F G w r s e f b = true≢false (sym (some_to r F (subst (λ (x : List ℕ). ContainsSome x F) (sym e) b.has_first)) ∙ f)
