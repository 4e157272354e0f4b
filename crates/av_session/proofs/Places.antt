-- The rank of a word is its place among the members of its length; a word that is none contains a word of the basis, or lacks a
-- required one.
use Rattle.std.proofs.Common.{◌≡◌, ℕ, zero, suc, ◌+◌, ◌^◌, ◌<◌, ◌≤◌, List, [], ◌∷◌, length, find, slice_get, Bool, true, false, not, nat_eq, is_some, Option, Some, None, codes, decimal, refl, sym, ap, ap₂, ◌∙◌, subst, arith}
use Rattle.std.proofs.lemmas.Bool.{and_parts, not-true, eqb-true, lt-ltb, le-ltb}
use Rattle.std.proofs.lemmas.Option.{slice_get_within}
use Rattle.std.specs.List.{position_or_len}
use Rattle.std.specs.Cmp.Lexicographic.{pointwise}
use Rattle.av_perm.specs.Lists.{same}
use Rattle.av_perm.specs.Contain.{contains, first_occurrence}
use Rattle.av_perm.specs.Class.{avoids_all}
use Rattle.av_perm.proofs.Tests.{same_refl}
use Rattle.av_match.specs.declared.contained.Bad.{Bad}
use Rattle.av_match.specs.FirstBad.{IsFirstBad}
use Rattle.av_match.proofs.Completed.{contains_first}
use Rattle.av_sys.specs.declared.terms.System.{System}
use Rattle.av_sys.specs.TreeLists.{members}
use Rattle.av_tree.specs.declared.ranking.Ranked.{Ranked}
use Rattle.av_tree.specs.declared.ranking.Ranked.TheVariants.{At, Big, Stranger}
use Rattle.av_tree.specs.Ranks.{IsRanked}
use Rattle.av_tree.specs.Laws.{IsRankIn}
use Rattle.av_tree.proofs.ClassRanks.{unrank_law, rank_law}
use Rattle.av_print.specs.Text.{◌⊹◌, word_text, places_text}
use Rattle.av_session.specs.Classes.{Class, required_of, IsSettledClass}
use Rattle.av_session.specs.Answers.{occurrence_text, strange_text, first_lacking, place_text, place_among}

-- lists of numbers that pass the test are equal
same_is : (v w : List ℕ) → same v w ≡ true → v ≡ w
same_is v w = go v w
  where
    go : (v w : List ℕ) → pointwise nat_eq v w ≡ true → v ≡ w
    go [] [] e = refl
    go [] (y ∷ w) e = absurd (cc)
    go (x ∷ v) [] e = absurd (cc)
    go (x ∷ v) (y ∷ w) e = let p = and_parts (nat_eq x y) (pointwise nat_eq v w) e in cc (eqb-true x y p.0, go v w p.1)

-- the first place of a word in a list that has it at this place alone
first_at : (w : List ℕ) (xs : List (List ℕ)) (r : ℕ) → slice_get xs r ≡ Some w → ((s : ℕ) → slice_get xs s ≡ Some w → s ≡ r) → position_or_len (same w) xs ≡ r
first_at w [] r e only = absurd (let f : None ≡ Some w = e in cc)
first_at w (x ∷ xs) zero e only = let f : x ≡ w = cc in rw f (rw (same_refl w) refl)
first_at w (x ∷ xs) (suc r) e only =
    by (same w x) refl (first_at w xs r e (λ s q. let f = only (suc s) q in omega (arith, f)))
  where
    by : (b : Bool) → same w x ≡ b → position_or_len (same w) xs ≡ r → position_or_len (same w) (x ∷ xs) ≡ suc r
    by true h k = absurd (let f = only 0 (ap Some (sym (same_is w x h))) in omega (arith, f))
    by false h k = let e : 1 + r ≡ suc r = omega arith in rw h (ap (λ n. 1 + n) k ∙ e)

-- a word that isn't in the list has no place
never_at : (w : List ℕ) (xs : List (List ℕ)) → ((s : ℕ) → slice_get xs s ≡ Some w → ⊥) → position_or_len (same w) xs ≡ length xs
never_at w [] none = refl
never_at w (x ∷ xs) none = by (same w x) refl (never_at w xs (λ s q. none (suc s) q))
  where
    by : (b : Bool) → same w x ≡ b → position_or_len (same w) xs ≡ length xs → position_or_len (same w) (x ∷ xs) ≡ suc (length xs)
    by true h k = absurd (none 0 (ap Some (sym (same_is w x h))))
    by false h k = let e : 1 + length xs ≡ suc (length xs) = omega arith in rw h (ap (λ n. 1 + n) k ∙ e)

pub placed : (S : System) (w : List ℕ) (r : ℕ) → slice_get (members S (length w)) r ≡ Some w → ((s : ℕ) → slice_get (members S (length w)) s ≡ Some w → s ≡ r) → place_among S w ≡ Some r
placed S w r listed only =
    let e = first_at w (members S (length w)) r listed only in
    rw (e, lt-ltb r (length (members S (length w))) (slice_get_within (members S (length w)) r w listed)) refl

pub no_place : (S : System) (w : List ℕ) → ((s : ℕ) → slice_get (members S (length w)) s ≡ Some w → ⊥) → place_among S w ≡ None
no_place S w none =
    let n = length (members S (length w)) in
    rw (never_at w (members S (length w)) none, le-ltb n n (omega arith)) refl

-- the text of an answer of `rank`
abbrev pub ranked_answer : Class → List ℕ → Ranked → List ℕ
ranked_answer class w (At r) = decimal r
ranked_answer class w Big = codes "big"
ranked_answer class w Stranger = strange_text w (find (contains w) class.subject.found.basis) (first_lacking w (required_of class.subject))

-- is that of the word's place
pub ranked_place : (class : Class) (w : List ℕ) (answer : Ranked) → IsSettledClass class → 1 ≤ length w → IsRanked class.system w answer
    → ranked_answer class w answer ≡ place_text class w (place_among class.system w)
ranked_place class w answer settled long ranked = by answer (rank_law class.system class.subject.found.basis (required_of class.subject) w answer settled.form settled.exact ranked)
  where
    by : (answer : Ranked) → IsRankIn class.system class.subject.found.basis (required_of class.subject) w answer → ranked_answer class w answer ≡ place_text class w (place_among class.system w)
    by (At r) i = rw (placed class.system w r i.1.listed i.1.only, lt-ltb r (2 ^ 128) i.0) refl
    by Big i = rw (placed class.system w i.0 i.2.listed i.2.only, le-ltb i.0 (2 ^ 128) i.1) refl
    by Stranger i =
        rw (no_place class.system w (λ s q. i ((unrank_law class.system class.subject.found.basis (required_of class.subject) (length w) s settled.form settled.exact long).member w q).member)) refl

-- the first word of a list that passes a test
find_first : (p : List ℕ → Bool) (xs : List (List ℕ)) (i : ℕ) (x : List ℕ) → slice_get xs i ≡ Some x → p x ≡ true
    → ((k : ℕ) (y : List ℕ) → k < i → slice_get xs k ≡ Some y → p y ≡ false) → find p xs ≡ Some x
find_first p [] i x e h before = absurd (let f : None ≡ Some x = e in cc)
find_first p (y ∷ ys) zero x e h before = let f : y ≡ x = cc in rw f (rw h refl)
find_first p (y ∷ ys) (suc i) x e h before =
    rw (before 0 y (omega arith) refl) (find_first p ys i x e h (λ k z l q. before (suc k) z (omega arith) q))

pub first_bad_text : (w : List ℕ) (basis : List (List ℕ)) (lacking : Option (List ℕ)) (bad : Bad) (b : List ℕ) → IsFirstBad w basis bad
    → slice_get basis bad.index ≡ Some b
    → strange_text w (find (contains w) basis) lacking ≡ codes "no " ⊹ word_text b ⊹ codes " at " ⊹ places_text bad.places
first_bad_text w basis lacking bad b f e =
    let same : f.pattern ≡ b = (let g : Some f.pattern ≡ Some b = sym f.listed ∙ e in cc) in
    let held : contains w b ≡ true = subst (λ p. contains w p ≡ true) same (contains_first w f.pattern ∙ ap is_some f.occurs) in
    let at : first_occurrence w b ≡ Some bad.places = subst (λ p. first_occurrence w p ≡ Some bad.places) same f.occurs in
    ap (λ o. strange_text w o lacking) (find_first (contains w) basis bad.index b e held f.before) ∙ ap (λ o. codes "no " ⊹ word_text b ⊹ codes " at " ⊹ occurrence_text o) at

-- where a word contains none of the basis, none is found
pub none_bad : (w : List ℕ) (basis : List (List ℕ)) → avoids_all basis w ≡ true → find (contains w) basis ≡ None
none_bad w [] e = refl
none_bad w (b ∷ basis) e =
    let p = and_parts (not (contains w b)) (avoids_all basis w) e in
    rw (not-true (contains w b) p.0, none_bad w basis p.1) refl

-- so the text of a word that lacks a required one
pub lacks_shown : (w : List ℕ) (basis required : List (List ℕ)) (q : List ℕ) → avoids_all basis w ≡ true → Some q ≡ first_lacking w required
    → codes "lacks " ⊹ word_text q ≡ strange_text w (find (contains w) basis) (first_lacking w required)
lacks_shown w basis required q a e = sym (ap₂ (λ bad lacking. strange_text w bad lacking) (none_bad w basis a) (sym e))
