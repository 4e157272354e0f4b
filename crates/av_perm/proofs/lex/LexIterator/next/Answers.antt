-- The word that is given comes first, and the next arrangement begins what is left.
use Rattle.std.proofs.Common.{◌≡◌, ℕ, Bool, true, false, not, cond, List, [], ◌∷◌, length, IsPermutation, refl, sym, ap, ◌∙◌, subst, arith, append-nil, take_all}
use Rattle.std.specs.List.{refill}
use Rattle.std.proofs.lemmas.List.{drop_all}
use Rattle.std.proofs.lemmas.List.Sorted.{length_permutation}
use Rattle.av_perm.specs.Word.{is_perm}
use Rattle.av_perm.specs.LexOrder.{from_on}
use Rattle.av_perm.proofs.PermWords.{perm_kept}
use Rattle.av_perm.proofs.lex.LexIterator.next.Goals as goal

-- a vector that holds as many elements as before holds just those
refilled : (xs ys : List ℕ) → IsPermutation xs ys → refill (length xs) xs ys ≡ ys
refilled xs ys p =
    let long : length ys ≡ length xs = length_permutation xs ys p in
    rw (drop_all (length ys) xs (omega arith), append-nil ys) (take_all (length xs) ys (omega arith))

still_perm : (xs v ys : List ℕ) → v ≡ xs → IsPermutation v ys → is_perm xs ≡ true → is_perm (refill (length xs) xs ys) ≡ true
still_perm xs v ys e p word =
    let q : IsPermutation xs ys = subst (λ (u : List ℕ). IsPermutation u ys) e p in
    rw (refilled xs ys q) (perm_kept xs ys q word)

left_over : (xs v ys : List ℕ) (more : Bool) → v ≡ xs → IsPermutation v ys → from_on v ≡ v ∷ cond more (from_on ys) []
    → from_on xs ≡ xs ∷ cond (not more) [] (from_on (refill (length xs) xs ys))
left_over xs v ys more e p order =
    let q : IsPermutation xs ys = subst (λ (u : List ℕ). IsPermutation u ys) e p in
    rw (refilled xs ys q) (subst (λ (u : List ℕ). from_on u ≡ u ∷ cond more (from_on ys) []) e order ∙ ap (λ (us : List (List ℕ)). xs ∷ us) (turned more (from_on ys)))
  where
    turned : (b : Bool) (us : List (List ℕ)) → cond b us [] ≡ cond (not b) [] us
    turned true us = refl
    turned false us = refl

pub invariant_of-self : goal.invariant_of-self
invariant_of-self c =
    still_perm c.self.inside.entries.items c.as_mut_slice.result.now c.next_arrangement.new.entries c.as_mut_slice.ensures.value c.next_arrangement.ensures.same c.self.invariant

pub returns-clause-steps : goal.returns-clause-steps
returns-clause-steps c =
    sym c.self.view_is
    ∙ rw (c.if-self.false, c.word_of-word.ensures)
    (left_over c.self.inside.entries.items c.as_mut_slice.result.now c.next_arrangement.new.entries c.next_arrangement.result c.as_mut_slice.ensures.value c.next_arrangement.ensures.same c.next_arrangement.ensures.order)
