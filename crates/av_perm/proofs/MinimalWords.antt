-- The minimal and the maximal words of a list.
use Rattle.std.proofs.Common.{◌≡◌, ℕ, zero, suc, ◌+◌, ◌-◌, ◌<◌, ◌≤◌, inl, inr, ◌↔◌, List, [], ◌∷◌, length, get_or, Bool, true, false, not, ◌||◌, sym, ap, subst, arith}
use Rattle.std.specs.List.{filter, list_all}
use Rattle.std.proofs.lemmas.Bool.{cases_lt, cases_Bool, or_cases, or_parts, or_left, or_right, not_from_false, not-false}
use Rattle.av_perm.specs.Members.{In, IsListOf, Ascending}
use Rattle.av_perm.specs.Word.{shortlex}
use Rattle.av_perm.specs.Lists.{same}
use Rattle.av_perm.specs.WordOrder.{word_same, shortlex_total}
use Rattle.av_perm.specs.Contain.{contains}
use Rattle.av_perm.specs.Class.{in_shortlex, minimal, maximal}
use Rattle.av_perm.specs.Relations.{IsWord, AreWords, Contains}
use Rattle.av_perm.specs.Laws.{IsMinimalIn, IsMaximalIn}
use Rattle.av_perm.proofs.Membership.{Each, In_at, at_In, In_filter, filter_In}
use Rattle.av_perm.proofs.Tests.{all_from, all_to, all_fails, not_from, same_refl}
use Rattle.av_perm.proofs.Ascending.{ascending_same}
use Rattle.av_perm.proofs.Occurrences.{contains_from, contains_to}
use Rattle.av_perm.proofs.Containment.{contains_same, contains_trans, contains_equal}
use Rattle.av_perm.proofs.ShortlexLists.{In_shortlex, shortlex_In, shortlex_ascending, shortlex_once}

-- the words of a list, by index and so as elements
pub words_each : (ws : List (List ℕ)) → AreWords ws → Each IsWord ws
words_each ws g x i = let s = at_In ws x [] i in subst IsWord s.2 (g s.0 s.1)

-- the words of a list, as elements and by index
pub each_words : (ws : List (List ℕ)) → Each IsWord ws → AreWords ws
each_words ws g i h = g (get_or ws i []) (In_at ws i [] h)

-- no other different word of the list passes the test beside w
abbrev pub is_alone : (List ℕ → List ℕ → Bool) → List (List ℕ) → List ℕ → Bool
is_alone test ws w = list_all (λ v. same v w || not (test v w)) ws

-- who is alone passes the test with none but himself
alone_from : (test : List ℕ → List ℕ → Bool) (ws : List (List ℕ)) (w : List ℕ) → is_alone test ws w ≡ true → (v : List ℕ) → In v ws → test v w ≡ true → v ≡ w
alone_from test ws w e v i t = elim (or_cases (same v w) (not (test v w)) (all_from (λ v. same v w || not (test v w)) ws e v i)) [
  | inl s ↦ word_same v w s
  | inr n ↦ absurd (not_from (test v w) n t)
]

-- who passes the test with none but himself is alone
alone_to : (test : List ℕ → List ℕ → Bool) (ws : List (List ℕ)) (w : List ℕ) → ((v : List ℕ) → In v ws → test v w ≡ true → v ≡ w) → is_alone test ws w ≡ true
alone_to test ws w h = all_to (λ v. same v w || not (test v w)) ws (λ v i. elim (cases_Bool (test v w)) [
  | inl t ↦ or_left (same v w) (not (test v w)) (subst (λ y. same y w ≡ true) (sym (h v i t)) (same_refl w))
  | inr f ↦ or_right (same v w) (not (test v w)) (not_from_false (test v w) f)
])

-- and where one does
not_alone : (test : List ℕ → List ℕ → Bool) (ws : List (List ℕ)) (w : List ℕ) → is_alone test ws w ≡ false
    → (v : List ℕ) × In v ws × (test v w ≡ true) × (v ≡ w → ⊥)
not_alone test ws w e =
    let r = all_fails (λ v. same v w || not (test v w)) ws e in
    let f = or_parts (same r.0 w) (not (test r.0 w)) r.2 in
    (r.0, r.1, not-false (test r.0 w) f.1, λ q. let a : same r.0 w ≡ true = subst (λ y. same y w ≡ true) (sym q) (same_refl w) in cc)

-- the words of a list that are alone in it, in shortlex order
abbrev pub alone : (List ℕ → List ℕ → Bool) → List (List ℕ) → List (List ℕ)
alone test ws = in_shortlex (filter (is_alone test ws) ws)

-- they are of the list, and pass the test with none but themselves
alone_In : (test : List ℕ → List ℕ → Bool) (ws : List (List ℕ)) (w : List ℕ) → In w (alone test ws)
    → In w ws × ((v : List ℕ) → In v ws → test v w ≡ true → v ≡ w)
alone_In test ws w i =
    let r = In_filter (is_alone test ws) ws w (shortlex_In (filter (is_alone test ws) ws) w i) in
    (r.0, alone_from test ws w r.1)

-- and those that do are there
In_alone : (test : List ℕ → List ℕ → Bool) (ws : List (List ℕ)) (w : List ℕ) → In w ws
    → ((v : List ℕ) → In v ws → test v w ≡ true → v ≡ w) → In w (alone test ws)
In_alone test ws w i h = In_shortlex (filter (is_alone test ws) ws) w (filter_In (is_alone test ws) ws w i (alone_to test ws w h))

-- what is alone in a list is alone among such words of it
pub alone_again : (test : List ℕ → List ℕ → Bool) (ws ks : List (List ℕ)) → Ascending shortlex ks → Each (λ w. In w (alone test ws)) ks
    → alone test ks ≡ ks
alone_again test ws ks a h = ascending_same shortlex shortlex_total (alone test ks) ks (shortlex_ascending (filter (is_alone test ks) ks)) a
    (λ w i. (alone_In test ks w i).0)
    (λ w i. In_alone test ks w i (λ v j t. (alone_In test ws w (h w i)).1 v (alone_In test ws v (h v j)).0 t))

-- where another word that passes is related and of less size, each word of a list has a related one that is alone
has_alone : (test : List ℕ → List ℕ → Bool) (R : List ℕ → List ℕ → Type 0) (size : List ℕ → ℕ) (ws : List (List ℕ))
    → ((w : List ℕ) → R w w) → ((u v w : List ℕ) → R u v → R v w → R u w)
    → ((v w : List ℕ) → In v ws → In w ws → test v w ≡ true → (v ≡ w → ⊥) → R v w × (size v < size w))
    → (d : ℕ) (x : List ℕ) → In x ws → size x < d → (m : List ℕ) × In m (alone test ws) × R m x
has_alone test R size ws itself trans less zero x i h = absurd (omega arith)
has_alone test R size ws itself trans less (suc d) x i h = elim (cases_Bool (is_alone test ws x)) [
  | inl e ↦ (x, In_shortlex (filter (is_alone test ws) ws) x (filter_In (is_alone test ws) ws x i e), itself x)
  | inr e ↦
      let r = not_alone test ws x e in
      let l = less r.0 x r.1 i r.2 r.3 in
      let q = has_alone test R size ws itself trans less d r.0 r.1 (omega (arith, l.1)) in
      (q.0, q.1, trans q.0 r.0 x q.2 l.0)
]

-- `v` is contained in `w`
abbrev within : List ℕ → List ℕ → Bool
within v w = contains w v

-- the minimal words
pub minimal_is : (ws : List (List ℕ)) (w : List ℕ) → In w (minimal ws) ↔ IsMinimalIn ws w
minimal_is ws w = (
  λ i. let r = alone_In within ws w i in record { member = r.0; least = λ v j c. r.1 v j (contains_to w v c) },
  λ m. In_alone within ws w m.member (λ v j t. m.least v j (contains_from w v t)),
)

-- each of them once
pub minimal_list : (ws : List (List ℕ)) → IsListOf (IsMinimalIn ws) (minimal ws)
minimal_list ws = record { members = minimal_is ws; once = shortlex_once (filter (is_alone within ws) ws) }

-- the minimal words are in shortlex order
pub minimal_ascending : (ws : List (List ℕ)) → Ascending shortlex (minimal ws)
minimal_ascending ws = shortlex_ascending (filter (is_alone within ws) ws)

-- they are words where all are
pub minimal_words : (ws : List (List ℕ)) → AreWords ws → AreWords (minimal ws)
minimal_words ws g = each_words (minimal ws) (λ w i. words_each ws g w (alone_In within ws w i).0)

-- the minimal words of the minimal words are they
pub minimal_again : (ws : List (List ℕ)) → minimal (minimal ws) ≡ minimal ws
minimal_again ws = alone_again within ws (minimal ws) (minimal_ascending ws) (λ w i. i)

-- the maximal words
pub maximal_is : (ws : List (List ℕ)) (w : List ℕ) → In w (maximal ws) ↔ IsMaximalIn ws w
maximal_is ws w = (
  λ i. let r = alone_In contains ws w i in record { member = r.0; greatest = λ v j c. r.1 v j (contains_to v w c) },
  λ m. In_alone contains ws w m.member (λ v j t. m.greatest v j (contains_from v w t)),
)

-- each of them once
pub maximal_list : (ws : List (List ℕ)) → IsListOf (IsMaximalIn ws) (maximal ws)
maximal_list ws = record { members = maximal_is ws; once = shortlex_once (filter (is_alone contains ws) ws) }

-- the maximal words are in shortlex order
pub maximal_ascending : (ws : List (List ℕ)) → Ascending shortlex (maximal ws)
maximal_ascending ws = shortlex_ascending (filter (is_alone contains ws) ws)

-- the maximal words of the maximal words are they
pub maximal_again : (ws : List (List ℕ)) → maximal (maximal ws) ≡ maximal ws
maximal_again ws = alone_again contains ws (maximal ws) (maximal_ascending ws) (λ w i. i)

-- a word that contains another is longer
longer : (σ τ : List ℕ) → IsWord σ → IsWord τ → Contains σ τ → (σ ≡ τ → ⊥) → length τ < length σ
longer σ τ s t c n = elim (cases_lt (length τ) (length σ)) [
  | inl l ↦ l
  | inr l ↦ absurd (n (contains_equal σ τ s.numbers t.numbers l c))
]

-- each word of a list contains a minimal one
pub has_minimal : (d : ℕ) (ws : List (List ℕ)) (x : List ℕ) → Each IsWord ws → In x ws → length x ≤ d → (m : List ℕ) × In m (minimal ws) × Contains x m
has_minimal d ws x g i h = has_alone within (λ v w. Contains w v) length ws contains_same (λ u v w a b. contains_trans w v u b a)
    (λ v w j k t n. let c = contains_from w v t in (c, longer w v (g w k) (g v j) c (λ q. n (sym q))))
    (suc d) x i (omega arith)

-- a length that none exceeds
pub longest : (ws : List (List ℕ)) → (b : ℕ) × Each (λ (w : List ℕ). length w ≤ b) ws
longest [] = (0, λ w i. absurd i)
longest (w ∷ ws) = let r = longest ws in (length w + r.0, λ v i. at_most r.0 r.1 v i)
  where
    at_most : (b : ℕ) → Each (λ (w : List ℕ). length w ≤ b) ws → (v : List ℕ) → In v (w ∷ ws) → length v ≤ length w + b
    at_most b h v (inl e) = let q = ap length e in omega arith
    at_most b h v (inr i) = let q = h v i in omega arith

-- each word of a list is contained in a maximal one, whatever the lengths
pub has_maximal : (ws : List (List ℕ)) (x : List ℕ) → Each IsWord ws → In x ws → (m : List ℕ) × In m (maximal ws) × Contains m x
has_maximal ws x g i =
    let b = longest ws in
    has_alone contains Contains (λ w. b.0 - length w) ws contains_same contains_trans
    (λ v w j k t n. let c = contains_from v w t in (c, omega (arith, longer v w (g v j) (g w k) c n, b.1 v j)))
    (suc b.0) x i (omega arith)
