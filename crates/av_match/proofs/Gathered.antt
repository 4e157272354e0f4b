-- The minimal and the maximal words of a list, gathered from its end.
use Rattle.std.proofs.Common.{◌≡◌, ℕ, suc, ◌-◌, ◌<◌, ◌≤◌, inl, inr, Bool, true, false, not, ◌||◌, nat_le, List, [], ◌∷◌, length, drop, filter, Some, Result, Ok, Err, refl, sym, ◌∙◌, ap, subst, arith, true≢false, drop-cons, le-leb}
use Rattle.std.specs.List.{list_all, slice_get}
use Rattle.std.specs.Result.{OnOk, is_ok}
use Rattle.std.specs.Ordering.{match_ordering}
use Rattle.std.specs.declared.cmp.Ordering.{Ordering}
use Rattle.std.specs.declared.cmp.Ordering.TheVariants.{Less, Equal, Greater}
use Rattle.std.specs.BTreeSet.{insert_key}
use Rattle.std.proofs.Math.Bool.{or-true}
use Rattle.std.proofs.lemmas.Bool.{cases_lt, cases_Bool, lt-leb}
use Rattle.std.proofs.lemmas.List.Elements.{All-get_or}
use Rattle.std.proofs.lemmas.Option.{slice_get_within, get_or_from_slice_get}
use Rattle.av_perm.specs.Members.{In}
use Rattle.av_perm.specs.Lists.{same}
use Rattle.av_perm.specs.Word.{shortlex, is_perm, ArePerms}
use Rattle.av_perm.specs.WordOrder.{word_same}
use Rattle.av_perm.specs.Contain.{contains}
use Rattle.av_perm.specs.Relations.{IsWord}
use Rattle.av_perm.specs.Class.{insert_by, insert_word, in_shortlex}
use Rattle.av_perm.proofs.Containment.{contains_equal}
use Rattle.av_perm.proofs.Membership.{at_In}
use Rattle.av_perm.proofs.Occurrences.{contains_from}
use Rattle.av_perm.proofs.PermWords.{perm_word}
use Rattle.av_perm.proofs.Tests.{same_refl}
use Rattle.av_perm.proofs.ListLaws.{get_In}

-- the word contains no other different word of the list
abbrev pub is_minimal_of : List (List ℕ) → List ℕ → Bool
is_minimal_of ws w = list_all (λ v. same v w || not (contains w v)) ws

-- the word contains no shorter word of the list
abbrev pub has_no_shorter : List (List ℕ) → List ℕ → Bool
has_no_shorter ws w = list_all (λ v. nat_le (length w) (length v) || not (contains w v)) ws

-- a word that is at least as long and contained is the word itself, so lengths tell what a test for the same word does
length_test : (w v : List ℕ) (same_word : Bool) → IsWord w → IsWord v → (same_word ≡ true → w ≡ v) → (w ≡ v → same_word ≡ true)
    → (nat_le (length w) (length v) || not (contains w v)) ≡ (same_word || not (contains w v))
length_test w v same_word g h from to = elim (cases_lt (length v) (length w)) [
  | inl lt ↦
      let other : same_word ≡ false = elim (cases_Bool same_word) [ inl e ↦ absurd (let n = ap length (from e) in omega arith) | inr e ↦ e ] in
      rw (lt-leb (length w) (length v) lt, other) refl
  | inr le ↦ rw (le-leb (length w) (length v) le) (sym (by (contains w v) refl le))
]
  where
    by : (t : Bool) → contains w v ≡ t → length w ≤ length v → (same_word || not t) ≡ true
    by false e le = or-true same_word
    by true e le = rw (to (contains_equal w v g.numbers h.numbers le (contains_from w v e))) refl

-- equal words pass the test for the same word
equal_same : (v w : List ℕ) → v ≡ w → same v w ≡ true
equal_same v w e = subst (λ u. same v u ≡ true) e (same_refl v)

-- each of the words that a list holds is a word
perm_in : (ws : List (List ℕ)) (w : List ℕ) → ArePerms ws → In w ws → IsWord w
perm_in ws w g i =
    let s = at_In ws w [] i in
    subst IsWord s.2 (perm_word _ (All-get_or (λ v. is_perm v ≡ true) ws s.0 [] s.1 g))

-- tests that agree at each element agree on the list
all_same : (f g : List ℕ → Bool) (ws : List (List ℕ)) → ((v : List ℕ) → In v ws → f v ≡ g v) → list_all f ws ≡ list_all g ws
all_same f g [] h = refl
all_same f g (w ∷ ws) h = rw (h w (inl refl), all_same f g ws (λ v i. h v (inr i))) refl

-- the two tests agree on a list of words
pub minimal_shorter : (ws : List (List ℕ)) (w : List ℕ) → ArePerms ws → In w ws → has_no_shorter ws w ≡ is_minimal_of ws w
minimal_shorter ws w g i = all_same _ _ ws (λ v j.
    length_test w v (same v w) (perm_in ws w g i) (perm_in ws v g j) (λ e. sym (word_same v w e)) (λ e. equal_same v w (sym e)))

-- a set in shortlex order takes a word as the list does
pub insert_same : (w : List ℕ) (ws : List (List ℕ)) → insert_key shortlex ws w ≡ insert_word w ws
insert_same w [] = refl
insert_same w (v ∷ ws) = by (shortlex w v) (insert_same w ws)
  where
    by : (o : Ordering) → insert_key shortlex ws w ≡ insert_word w ws
        → match_ordering o (w ∷ v ∷ ws) (v ∷ ws) (v ∷ insert_key shortlex ws w) ≡ insert_by o w v ws (insert_word w ws)
    by Less e = refl
    by Equal e = refl
    by Greater e = ap (λ (zs : List (List ℕ)). v ∷ zs) e

-- the words from one place earlier on
earlier : (ws : List (List ℕ)) (i : ℕ) (w : List ℕ) → 0 < i → slice_get ws (i - 1) ≡ Some w → drop (i - 1) ws ≡ w ∷ drop i ws
earlier ws i w h e =
    let lt : i - 1 < length ws = slice_get_within ws (i - 1) w e in
    let n : suc (i - 1) ≡ i = omega arith in
    drop-cons ws (i - 1) [] lt ∙ rw (get_or_from_slice_get ws (i - 1) w [] e, n) refl

-- one more word that passes a test is kept, as another test tells that agrees with it on the list
pub kept_more : (quick test : List (List ℕ) → List ℕ → Bool) → ((ws : List (List ℕ)) (w : List ℕ) → ArePerms ws → In w ws → quick ws w ≡ test ws w)
    → (ws old new : List (List ℕ)) (i : ℕ) (w : List ℕ) → ArePerms ws → 0 < i → slice_get ws (i - 1) ≡ Some w → quick ws w ≡ true
    → old ≡ in_shortlex (filter (test ws) (drop i ws)) → new ≡ insert_key shortlex old w → new ≡ in_shortlex (filter (test ws) (drop (i - 1) ws))
kept_more quick test agree ws old new i w g h e alone k n =
    let passes : test ws w ≡ true = sym (agree ws w g (get_In ws (i - 1) w e)) ∙ alone in
    n ∙ insert_same w old ∙ ap (insert_word w) k ∙ rw (earlier ws i w h e, passes) refl

-- a word that fails it is not
pub kept_same : (quick test : List (List ℕ) → List ℕ → Bool) → ((ws : List (List ℕ)) (w : List ℕ) → ArePerms ws → In w ws → quick ws w ≡ test ws w)
    → (ws old : List (List ℕ)) (i : ℕ) (w : List ℕ) → ArePerms ws → 0 < i → slice_get ws (i - 1) ≡ Some w → quick ws w ≡ false
    → old ≡ in_shortlex (filter (test ws) (drop i ws)) → old ≡ in_shortlex (filter (test ws) (drop (i - 1) ws))
kept_same quick test agree ws old i w g h e not_alone k =
    let fails : test ws w ≡ false = sym (agree ws w g (get_In ws (i - 1) w e)) ∙ not_alone in
    k ∙ rw (earlier ws i w h e, fails) refl

-- no other different word of the list contains the word
abbrev pub is_maximal_of : List (List ℕ) → List ℕ → Bool
is_maximal_of ws w = list_all (λ v. same v w || not (contains v w)) ws

-- no longer word of the list contains the word
abbrev pub has_no_longer : List (List ℕ) → List ℕ → Bool
has_no_longer ws w = list_all (λ v. nat_le (length v) (length w) || not (contains v w)) ws

-- the two tests agree on a list of words
pub maximal_longer : (ws : List (List ℕ)) (w : List ℕ) → ArePerms ws → In w ws → has_no_longer ws w ≡ is_maximal_of ws w
maximal_longer ws w g i = all_same _ _ ws (λ v j.
    length_test v w (same v w) (perm_in ws v g j) (perm_in ws w g i) (word_same v w) (equal_same v w))

-- what holds at `Ok`
pub at_ok : {T E : Type 0} (P : Type 0) (r : Result T E) → is_ok r ≡ true → OnOk r P → P
at_ok P (Ok x) e h = h
at_ok P (Err y) e h = absurd (true≢false (sym e))
