-- The maximal words of a list but for the word 1, which every word contains.
use Rattle.std.proofs.Common.{◌≡◌, ℕ, ◌≤◌, ◌≢◌, inl, inr, ◌⊎◌, ◌∙◌, ◌↔◌, List, [], ◌∷◌, length, Bool, true, false, not, refl, sym, ap, subst, arith}
use Rattle.std.proofs.lemmas.Bool.{cases_Bool}
use Rattle.av_perm.specs.Members.{In, IsListOf, Ascending}
use Rattle.av_perm.specs.Word.{shortlex}
use Rattle.av_perm.specs.Lists.{same}
use Rattle.av_perm.specs.WordOrder.{word_same, shortlex_total}
use Rattle.av_perm.specs.Contain.{contains}
use Rattle.av_perm.specs.Class.{maximal, top}
use Rattle.av_perm.specs.Relations.{IsWord, AreWords, Contains}
use Rattle.av_perm.specs.Laws.{IsTopIn, HasTop}
use Rattle.av_perm.proofs.Membership.{Each, In_filter, filter_In}
use Rattle.av_perm.proofs.Tests.{not_from, not_to, same_refl}
use Rattle.av_perm.proofs.Ascending.{ascending_same, ascending_filter, once_from_ascending}
use Rattle.av_perm.proofs.Containment.{contains_one, contains_trans, contains_length}
use Rattle.av_perm.proofs.MinimalWords.{words_each, each_words, alone_again, maximal_is, maximal_ascending, has_maximal}

-- the word 1
abbrev pub one : List ℕ
one = 1 ∷ []

-- the test for another word
abbrev pub is_other : List ℕ → Bool
is_other w = not (same one w)

-- another word passes it
other_to : (w : List ℕ) → w ≢ one → is_other w ≡ true
other_to w n = not_to (same one w) (λ e. n (sym (word_same one w e)))

-- and the word 1 doesn't
other_from : (w : List ℕ) → is_other w ≡ true → w ≢ one
other_from w e q = not_from (same one w) e (subst (λ (v : List ℕ). same one v ≡ true) (sym q) (same_refl one))

-- a word of one entry is the word 1
pub only_one : (w : List ℕ) → IsWord w → length w ≡ 1 → w ≡ one
only_one [] g e = absurd (omega arith)
only_one (x ∷ []) g e = let h = g.numbers.within 0 (omega arith) in let n : x ≡ 1 = omega (arith, h) in rw n refl
only_one (x ∷ y ∷ w) g e = absurd (omega arith)

-- any other has two entries or more
pub other_long : (w : List ℕ) → IsWord w → w ≢ one → 2 ≤ length w
other_long w g n = let no_one : length w ≡ 1 → ⊥ = λ e. n (only_one w g e) in omega (arith, g.filled, no_one)

-- the words of the list
pub top_is : (ws : List (List ℕ)) (w : List ℕ) → In w (top ws) ↔ IsTopIn ws w
top_is ws w = (
  λ i.
      let f = In_filter is_other (maximal ws) w i in
      let m = (maximal_is ws w).0 f.0 in
      record { member = m.member; other = other_from w f.1; greatest = m.greatest },
  λ t. filter_In is_other (maximal ws) w ((maximal_is ws w).1 (record { member = t.member; greatest = t.greatest })) (other_to w t.other),
)

-- they are in shortlex order
pub top_ascending : (ws : List (List ℕ)) → Ascending shortlex (top ws)
top_ascending ws = ascending_filter shortlex is_other (maximal ws) (maximal_ascending ws)

-- each of them once
pub top_list : (ws : List (List ℕ)) → IsListOf (IsTopIn ws) (top ws)
top_list ws = record { members = top_is ws; once = once_from_ascending shortlex shortlex_total (top ws) (top_ascending ws) }

-- of words they are words
pub top_words : (ws : List (List ℕ)) → AreWords ws → AreWords (top ws)
top_words ws g = each_words (top ws) (λ w i. words_each ws g w ((top_is ws w).0 i).member)

-- of two entries or more
pub top_long : (ws : List (List ℕ)) → AreWords ws → Each (λ w. 2 ≤ length w) (top ws)
top_long ws g w i = let t = (top_is ws w).0 i in other_long w (words_each ws g w t.member) t.other

-- the maximal words of these are they
pub maximal_top : (ws : List (List ℕ)) → maximal (top ws) ≡ top ws
maximal_top ws = alone_again contains ws (top ws) (top_ascending ws) (λ w i. (In_filter is_other (maximal ws) w i).0)

-- they are their own
pub top_again : (ws : List (List ℕ)) → top (top ws) ≡ top ws
top_again ws = ascending_same shortlex shortlex_total (top (top ws)) (top ws) (top_ascending (top ws)) (top_ascending ws)
    (λ w i. ((top_is (top ws) w).0 i).member)
    (λ w i. filter_In is_other (maximal (top ws)) w (subst (In w) (sym (maximal_top ws)) i) (In_filter is_other (maximal ws) w i).1)

-- each word of a list is the word 1, or contained in one of them
has_top : (ws : List (List ℕ)) (x : List ℕ) → Each IsWord ws → In x ws → (x ≡ one) ⊎ ((m : List ℕ) × In m (top ws) × Contains m x)
has_top ws x g i =
    let m = has_maximal ws x g i in
    let t = (maximal_is ws m.0).0 m.1 in
    elim (cases_Bool (is_other m.0)) [
      | inl e ↦ inr (m.0, filter_In is_other (maximal ws) m.0 m.1 e, m.2)
      | inr e ↦
          let q : one ≡ m.0 = word_same one m.0 (is_one (same one m.0) e) in
          let n : length x ≤ 1 = subst (λ (w : List ℕ). length x ≤ length w) (sym q) (contains_length m.0 x m.2) in
          inl (only_one x (g x i) (let f = (g x i).filled in omega arith))
    ]
  where
    is_one : (b : Bool) → not b ≡ false → b ≡ true
    is_one true e = refl
    is_one false e = absurd (cc)

-- a word that contains them contains all
pub contains_top : (ws : List (List ℕ)) (σ : List ℕ) → AreWords ws → IsWord σ → Each (Contains σ) (top ws) ↔ Each (Contains σ) ws
contains_top ws σ g s = (
  λ h x i. elim (has_top ws x (words_each ws g) i) [
    | inl e ↦ contains_one σ x s.filled (ap length e)
    | inr m ↦ contains_trans σ m.0 x (h m.0 m.1) m.2
  ],
  λ h x i. h x ((top_is ws x).0 i).member,
)

-- where the list holds a word of two entries or more, its maximal words are these: the word 1 is none of them
pub top_maximal : (ws : List (List ℕ)) (p : List ℕ) → In p ws → 2 ≤ length p → top ws ≡ maximal ws
top_maximal ws p i n = ascending_same shortlex shortlex_total (top ws) (maximal ws) (top_ascending ws) (maximal_ascending ws)
    (λ w j. (In_filter is_other (maximal ws) w j).0)
    (λ w j. filter_In is_other (maximal ws) w j (other_to w (λ e.
    let q : p ≡ w = ((maximal_is ws w).0 j).greatest p i (contains_one p w (omega arith) (ap length e)) in
    let l = ap length (q ∙ e) in
    omega arith)))

-- the facts on them together
pub top_holds : (ws : List (List ℕ)) → HasTop ws
top_holds ws = record {
  listed = top_list ws;
  ascending = top_ascending ws;
  again = top_again ws;
  same_class = λ g basis σ. (
    λ c. record { member = c.member; contains = (contains_top ws σ g c.member.word).0 c.contains },
    λ c. record { member = c.member; contains = (contains_top ws σ g c.member.word).1 c.contains },
  );
}
