-- The words of length 4, taken one after another.
use Rattle.std.proofs.Common.{◌≡◌, ℕ, suc, ◌+◌, ◌<◌, List, [], ◌∷◌, ◌++◌, length, drop, get_or, Option, Some, None, MatchOption, slice_get, refl, sym, ap, ◌∙◌, subst, arith, append_assoc}
use Rattle.std.proofs.Math.Seq.{drop-cons}
use Rattle.std.proofs.lemmas.Option.{slice_get-get_or}
use Rattle.av_perm.specs.Members.{In}
use Rattle.av_perm.specs.Word.{words, arrangements}
use Rattle.av_perm.proofs.Membership.{In_at}
use Rattle.av_perm.proofs.WordLists.{words_arrange}

pub words_24 : length (words 4) ≡ 24
unfolding arrangements
words_24 = refl

-- what is left after k words begins with word k
left_at : (k : ℕ) → k < 24 → drop k (words 4) ≡ get_or (words 4) k [] ∷ drop (k + 1) (words 4)
left_at k h =
    let e : suc k ≡ k + 1 = omega arith in
    let w : length (words 4) ≡ 24 = words_24 in
    by (words 4) w e
  where
    by : (ws : List (List ℕ)) → length ws ≡ 24 → suc k ≡ k + 1 → drop k ws ≡ get_or ws k [] ∷ drop (k + 1) ws
    by ws w e = drop-cons ws k [] (omega (arith, w)) ∙ ap (λ n. get_or ws k [] ∷ drop n ws) e

-- something is left
some_left : (k : ℕ) → k < 24 → drop k (words 4) ≡ [] → ⊥
some_left k h e = let f : get_or (words 4) k [] ∷ drop (k + 1) (words 4) ≡ [] = sym (left_at k h) ∙ e in cc

pub next_left : (k : ℕ) (r : Option (List ℕ)) (old new : List (List ℕ)) → k < 24 → MatchOption r ((old ≡ []) × (new ≡ [])) (λ x. old ≡ x ∷ new) → old ≡ drop k (words 4) → new ≡ drop (k + 1) (words 4)
next_left k None old new h s e = absurd (some_left k h (sym e ∙ s.0))
next_left k (Some x) old new h s e = let f : x ∷ new ≡ get_or (words 4) k [] ∷ drop (k + 1) (words 4) = sym s ∙ e ∙ left_at k h in cc

first_left : (k : ℕ) (x : List ℕ) (old new : List (List ℕ)) → k < 24 → old ≡ x ∷ new → old ≡ drop k (words 4) → x ≡ get_or (words 4) k []
first_left k x old new h s e = let f : x ∷ new ≡ get_or (words 4) k [] ∷ drop (k + 1) (words 4) = sym s ∙ e ∙ left_at k h in cc

pub none_left : (k : ℕ) (old : List (List ℕ)) → k < 24 → old ≡ [] → old ≡ drop k (words 4) → ⊥
none_left k old h s e = some_left k h (sym e ∙ s)

pub found_word : (k : ℕ) (x : List ℕ) (old new : List (List ℕ)) → k < 24 → old ≡ x ∷ new → old ≡ drop k (words 4) → slice_get (words 4) k ≡ Some x
found_word k x old new h s e = slice_get-get_or (words 4) k [] (omega (arith, words_24, h)) ∙ ap (λ y. Some y) (sym (first_left k x old new h s e))

pub found_short : (k : ℕ) (x : List ℕ) (old new : List (List ℕ)) → k < 24 → old ≡ x ∷ new → old ≡ drop k (words 4) → length x ≡ 4
found_short k x old new h s e = (words_arrange 4 x (subst (λ y. In y (words 4)) (sym (first_left k x old new h s e)) (In_at (words 4) k [] (omega (arith, words_24, h))))).1

-- texts joined one after another
pub joined_five : (a b c d e : List ℕ) → (((a ++ b) ++ c) ++ d) ++ e ≡ a ++ (b ++ (c ++ (d ++ e)))
joined_five a b c d e = append_assoc ((a ++ b) ++ c) d e ∙ append_assoc (a ++ b) c (d ++ e) ∙ append_assoc a b (c ++ (d ++ e))
