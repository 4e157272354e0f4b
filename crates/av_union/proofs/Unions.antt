-- The law of the union: the computed list holds exactly the minimal words that contain a word of each list, and its class is
-- the union of the two classes.
use Rattle.std.proofs.Common.{◌≡◌, ℕ, ◌+◌, ◌≤◌, ◌⊎◌, inl, inr, ◌↔◌, true, not, List, [], ◌∷◌, length, refl, ap, arith}
use Rattle.std.specs.List.{filter, list_any}
use Rattle.std.proofs.lemmas.Bool.{cases_Bool, and_parts, and_from, not-false}
use Rattle.av_perm.specs.Members.{IsListOf, Ascending}
use Rattle.av_perm.specs.Lists.{counting}
use Rattle.av_perm.specs.Word.{words, shortlex}
use Rattle.av_perm.specs.WordOrder.{shortlex_total}
use Rattle.av_perm.specs.Contain.{contains}
use Rattle.av_perm.specs.Class.{minimal, avoids_all}
use Rattle.av_perm.specs.Relations.{IsWord, AreWords, Contains, InClass, InClassAt}
use Rattle.av_perm.proofs.Membership.{In, In_flat_map, flat_map_In, In_filter, filter_In, In_counting, counting_In}
use Rattle.av_perm.proofs.Tests.{any_from, any_to, all_fails}
use Rattle.av_perm.proofs.Occurrences.{contains_from, contains_to}
use Rattle.av_perm.proofs.Containment.{contains_trans, contains_length}
use Rattle.av_perm.proofs.WordLists.{words_arrange, arrangement_in_words}
use Rattle.av_perm.proofs.MinimalWords.{minimal_is, minimal_list, minimal_ascending, has_minimal}
use Rattle.av_perm.proofs.Ascending.{ascending_same}
use Rattle.av_perm.proofs.Classes.{avoids_from}
use Rattle.av_union.specs.Union.{ContainsSome, InBoth, IsMinimalInBoth, is_in_both, longest, words_up_to, union}
use Rattle.av_union.specs.Laws.{IsSpanned, AvoidsEach, UnionLaw}
use Rattle.av_union.proofs.Covers.{cover_length, minimal_covered}

-- ---- the words up to a length that contain a word of each list

-- where the test passes, some word of the list is contained
pub some_from : (w : List ℕ) (X : List (List ℕ)) → list_any (λ v. contains w v) X ≡ true → ContainsSome w X
some_from w X e = let r = any_from (λ v. contains w v) X e in (r.0, r.1, contains_from w r.0 r.2)

-- and the other way round
pub some_to : (w : List ℕ) (X : List (List ℕ)) → ContainsSome w X → list_any (λ v. contains w v) X ≡ true
some_to w X c = any_to (λ v. contains w v) X c.0 c.1 (contains_to w c.0 c.2)

-- the words of length up to n that contain a word of each list
abbrev both_up_to : List (List ℕ) → List (List ℕ) → ℕ → List (List ℕ)
both_up_to F G n = filter (is_in_both F G) (words_up_to n)

-- what is listed contains a word of each list, and is short enough
both_from : (F G : List (List ℕ)) (n : ℕ) (w : List ℕ) → In w (both_up_to F G n) → InBoth F G w × (length w ≤ n)
both_from F G n w i =
    let a = In_filter (is_in_both F G) (words_up_to n) w i in
    let b = In_flat_map words (counting 1 n) w a.0 in
    let c = In_counting n 1 b.0 b.1 in
    let d = words_arrange b.0 w b.2 in
    let e = and_parts (list_any (λ v. contains w v) F) (list_any (λ v. contains w v) G) a.1 in (
      record {
        word = record { numbers = d.0; filled = omega (arith, c.0, d.1) };
        has_first = some_from w F e.0;
        has_second = some_from w G e.1;
      },
      omega (arith, c.1, d.1),
    )

-- and the other way round
both_to : (F G : List (List ℕ)) (n : ℕ) (w : List ℕ) → InBoth F G w → length w ≤ n → In w (both_up_to F G n)
both_to F G n w b h =
    let here = counting_In n 1 (length w) b.word.filled (omega arith) in
    filter_In (is_in_both F G) (words_up_to n) w
    (flat_map_In words (counting 1 n) (length w) w here (arrangement_in_words (length w) w b.word.numbers refl))
    (and_from (list_any (λ v. contains w v) F) (list_any (λ v. contains w v) G) (some_to w F b.has_first) (some_to w G b.has_second))

-- the minimal ones of them are minimal among all, since what a word contains is no longer
minimal_from_list : (F G : List (List ℕ)) (n : ℕ) (w : List ℕ) → In w (minimal (both_up_to F G n)) → IsMinimalInBoth F G w
minimal_from_list F G n w i =
    let m = (minimal_is (both_up_to F G n) w).0 i in
    let b = both_from F G n w m.member in
    record {
      both = b.0;
      least = λ v c k. m.least v (both_to F G n v c (omega (arith, contains_length w v k, b.1))) k;
    }

-- and those that are minimal among all are listed, where they are short enough
minimal_to_list : (F G : List (List ℕ)) (n : ℕ) (w : List ℕ) → IsMinimalInBoth F G w → length w ≤ n → In w (minimal (both_up_to F G n))
minimal_to_list F G n w m h = (minimal_is (both_up_to F G n) w).1 (record {
  member = both_to F G n w m.both h;
  least = λ v i k. m.least v (both_from F G n v i).0 k;
})

-- ---- how long a minimal word is

-- no word of a list is longer than the longest
longest_in : (ws : List (List ℕ)) (w : List ℕ) → In w ws → length w ≤ longest ws
longest_in [] w i = absurd i
longest_in (v ∷ ws) w (inl e) = omega (arith, ap length e)
longest_in (v ∷ ws) w (inr i) = omega (arith, longest_in ws w i)

-- a minimal word contains a word of each list that have together at least as many entries
minimal_spanned : (F G : List (List ℕ)) (w : List ℕ) → AreWords F → IsMinimalInBoth F G w → IsSpanned F G w
minimal_spanned F G w words m =
    let c = minimal_covered F G w words m in
    let k = c.4.cover in
    record { spans = (c.0, c.1, c.2, c.3, (k.0, k.1.1.first), (k.1.0, k.1.1.second), cover_length c.0 c.1 w k.0 k.1.0 k.1.1) }

-- so it is no longer than the longest words of the two lists together
minimal_short : (F G : List (List ℕ)) (w : List ℕ) → AreWords F → IsMinimalInBoth F G w → length w ≤ longest F + longest G
minimal_short F G w words m =
    let s = (minimal_spanned F G w words m).spans in
    omega (arith, longest_in F s.0 s.2, longest_in G s.1 s.3, s.6)

-- ---- the words of the union

-- each word of the union is minimal
union_from : (F G : List (List ℕ)) (w : List ℕ) → In w (union F G) → IsMinimalInBoth F G w
unfolding union
union_from F G w i = minimal_from_list F G (longest F + longest G) w i

-- and each minimal word is there
union_to : (F G : List (List ℕ)) (w : List ℕ) → AreWords F → IsMinimalInBoth F G w → In w (union F G)
unfolding union
union_to F G w words m = minimal_to_list F G (longest F + longest G) w m (minimal_short F G w words m)

-- they stand in shortlex order
union_ascending : (F G : List (List ℕ)) → Ascending shortlex (union F G)
unfolding union
union_ascending F G = minimal_ascending (both_up_to F G (longest F + longest G))

-- each once
union_list : (F G : List (List ℕ)) → AreWords F → IsListOf (IsMinimalInBoth F G) (union F G)
unfolding union
union_list F G words = record {
  members = λ w. (union_from F G w, union_to F G w words);
  once = (minimal_list (both_up_to F G (longest F + longest G))).once;
}

-- a list in shortlex order that holds exactly the minimal words is the union
pub is_union : (F G ws : List (List ℕ)) → AreWords F → Ascending shortlex ws → ((w : List ℕ) → In w ws → IsMinimalInBoth F G w)
    → ((w : List ℕ) → IsMinimalInBoth F G w → In w ws) → ws ≡ union F G
is_union F G ws words up sound whole =
    ascending_same shortlex shortlex_total ws (union F G) up (union_ascending F G) (λ w i. union_to F G w words (sound w i)) (λ w i. whole w (union_from F G w i))

-- ---- the class of the union

-- each word that contains a word of each list contains a minimal one
has_minimal_one : (F G : List (List ℕ)) (w : List ℕ) → InBoth F G w → (m : List ℕ) × IsMinimalInBoth F G m × Contains w m
has_minimal_one F G w b =
    let n = length w in
    let r = has_minimal n (both_up_to F G n) w (λ v i. (both_from F G n v i).0.word) (both_to F G n w b (omega arith)) (omega arith) in
    (r.0, minimal_from_list F G n r.0 r.1, r.2)

-- a word avoids each of a list or contains some
avoids_or_some : (X : List (List ℕ)) (w : List ℕ) → AvoidsEach w X ⊎ ContainsSome w X
avoids_or_some X w = elim (cases_Bool (avoids_all X w)) [
  | inl e ↦ inl (avoids_from X w e)
  | inr e ↦
      let r = all_fails (λ b. not (contains w b)) X e in
      inr (r.0, r.1, contains_from w r.0 (not-false (contains w r.0) r.2))
]

-- a word avoids the union exactly where it avoids the one list or the other
union_avoided : (F G : List (List ℕ)) (w : List ℕ) → AreWords F → IsWord w → AvoidsEach w (union F G) ↔ (AvoidsEach w F ⊎ AvoidsEach w G)
union_avoided F G w words word = (parted, λ a. elim a [ inl f ↦ by_first f | inr g ↦ by_second g ])
  where
    parted : AvoidsEach w (union F G) → AvoidsEach w F ⊎ AvoidsEach w G
    parted a = elim (avoids_or_some F w) [
      | inl f ↦ inl f
      | inr f ↦ elim (avoids_or_some G w) [
        | inl g ↦ inr g
        | inr g ↦
            let m = has_minimal_one F G w (record { word = word; has_first = f; has_second = g }) in
            absurd (a m.0 (union_to F G m.0 words m.1) m.2)
      ]
    ]

    by_first : AvoidsEach w F → AvoidsEach w (union F G)
    by_first a v i k = let f = (union_from F G v i).both.has_first in a f.0 f.1 (contains_trans w v f.0 k f.2)

    by_second : AvoidsEach w G → AvoidsEach w (union F G)
    by_second a v i k = let g = (union_from F G v i).both.has_second in a g.0 g.1 (contains_trans w v g.0 k g.2)

-- so its class is the union of the two classes
union_class : (F G : List (List ℕ)) (w : List ℕ) → AreWords F → InClass (union F G) w ↔ (InClass F w ⊎ InClass G w)
union_class F G w words = (
  λ c. elim ((union_avoided F G w words c.word).0 c.avoids) [
    | inl f ↦ inl (record { word = c.word; avoids = f })
    | inr g ↦ inr (record { word = c.word; avoids = g })
  ],
  λ c. elim c [
    | inl f ↦ record { word = f.word; avoids = (union_avoided F G w words f.word).1 (inl f.avoids) }
    | inr g ↦ record { word = g.word; avoids = (union_avoided F G w words g.word).1 (inr g.avoids) }
  ],
)

-- of each length
union_class_at : (F G : List (List ℕ)) (n : ℕ) (w : List ℕ) → AreWords F → InClassAt (union F G) n w ↔ (InClassAt F n w ⊎ InClassAt G n w)
union_class_at F G n w words = (
  λ c. elim ((union_class F G w words).0 c.member) [
    | inl f ↦ inl (record { member = f; long = c.long })
    | inr g ↦ inr (record { member = g; long = c.long })
  ],
  λ c. elim c [
    | inl f ↦ record { member = (union_class F G w words).1 (inl f.member); long = f.long }
    | inr g ↦ record { member = (union_class F G w words).1 (inr g.member); long = g.long }
  ],
)

-- all together
pub union_law : UnionLaw
union_law F G f g = record {
  listed = union_list F G f;
  ascending = union_ascending F G;
  covered = λ w i. minimal_covered F G w f (union_from F G w i);
  spanned = λ w i. minimal_spanned F G w f (union_from F G w i);
  avoided = λ w word. union_avoided F G w f word;
  class = λ w. union_class F G w f;
  class_at = λ n w. union_class_at F G n w f;
}
