-- Simple words of a class put into a list in shortlex order.
use Rattle.std.proofs.Common.{ℕ, suc, true, ◌≡◌, ◌<◌, ◌≤◌, ◌-◌, ◌+◌, ◌⊎◌, List, [], length, get_or, inl, inr, refl, sym, subst, ap, ◌∙◌, arith, le-ltb, eq-eqb}
use Rattle.std.specs.BTreeSet.{insert_key}
use Rattle.std.proofs.lemmas.Bool.{cases_eq}
use Rattle.std.proofs.lemmas.List.{get_or_default}
use Rattle.std.specs.Cmp.Lexicographic.{slice_cmp}
use Rattle.std.specs.Ordering.{nat_cmp}
use Rattle.std.specs.declared.cmp.Ordering.TheVariants.{Less}
use Rattle.av_perm.specs.Members.{In, Ascending}
use Rattle.av_perm.specs.Word.{shortlex}
use Rattle.av_perm.specs.WordOrder.{shortlex_total}
use Rattle.av_perm.specs.Class.{avoids_all, insert_word}
use Rattle.av_perm.specs.Simple.{is_simple}
use Rattle.av_perm.specs.Gap.{simples}
use Rattle.av_perm.specs.Laws.{IsSimpleOf}
use Rattle.av_perm.specs.Relations.{IsOneToLength, IsWord}
use Rattle.av_perm.proofs.Ascending.{ascending_also, ascending_same}
use Rattle.av_perm.proofs.Classes.{avoids_from, avoids_to}
use Rattle.av_perm.proofs.Membership.{In_at, at_In}
use Rattle.av_perm.proofs.ShortlexLists.{insert_In, insert_new, insert_old, insert_ascending}
use Rattle.av_perm.proofs.SimpleWords.{simple_law, simples_are, simples_ascending}
use Rattle.av_interval.proofs.TwoGaps.{simple_of}
use Rattle.av_match.proofs.Gathered.{insert_same}
use Rattle.av_simple.specs.Extension.{insert_point, Before, HasPointAt, HasPoint, IsUnsimpleOf, HasTwoPointsAt, HasTwoPoints, HasPointOf, HasTwoPointsOf, Gathers}
use Rattle.av_simple.proofs.Insertions.{inserted_length}
use Rattle.av_simple.proofs.Extensions.{from_shorter}

module _ (basis : List (List ℕ)) (n : ℕ) where
  -- nothing is to be added
  pub gathers_none : (Q : List ℕ → Type 0) (old : List (List ℕ)) → ((w : List ℕ) → Q w → IsSimpleOf basis n w → ⊥) → Gathers basis n Q old old
  gathers_none Q old none = record {
    kept = λ w i. i;
    added = λ w i. inl i;
    all = λ w q s. absurd (none w q s);
    ascending = λ a. a;
  }

  -- words of one kind are added, and then words of another
  pub gathers_then : (Q R S : List ℕ → Type 0) (old between new : List (List ℕ)) → Gathers basis n Q old between → Gathers basis n R between new
      → ((w : List ℕ) → S w → IsSimpleOf basis n w → Q w ⊎ R w) → Gathers basis n S old new
  gathers_then Q R S old between new f g split = record {
    kept = λ w i. g.kept w (f.kept w i);
    added = λ w i. elim (g.added w i) [ inl j ↦ f.added w j | inr s ↦ inr s ];
    all = λ w q s. elim (split w q s) [ inl a ↦ g.kept w (f.all w a s) | inr b ↦ g.all w b s ];
    ascending = λ a. g.ascending (f.ascending a);
  }

  -- a part of a kind
  pub gathers_part : (Q S : List ℕ → Type 0) (old new : List (List ℕ)) → Gathers basis n Q old new → ((w : List ℕ) → S w → Q w) → Gathers basis n S old new
  gathers_part Q S old new f part = record {
    kept = f.kept;
    added = f.added;
    all = λ w q s. f.all w (part w q) s;
    ascending = f.ascending;
  }

  -- one more number
  pub gathers_next : (P : ℕ → List ℕ → Type 0) (k : ℕ) (old between new : List (List ℕ)) → Gathers basis n (Before k P) old between → Gathers basis n (P k) between new
      → Gathers basis n (Before (k + 1) P) old new
  gathers_next P k old between new f g = gathers_then (Before k P) (P k) (Before (k + 1) P) old between new f g
      (λ w q s. elim (cases_eq q.0 k) [ inl e ↦ inr (subst (λ v. P v w) e q.2) | inr ne ↦ let h = q.1 in inl (q.0, omega (arith, h, ne), q.2) ])

  -- the number at the end
  pub gathers_end : (P : ℕ → List ℕ → Type 0) (k m : ℕ) (old new : List (List ℕ)) → m ≤ k → Gathers basis n (Before k P) old new → Gathers basis n (Before m P) old new
  gathers_end P k m old new h f = gathers_part (Before k P) (Before m P) old new f (λ w q. let l = q.1 in (q.0, omega (arith, l, h), q.2))

  -- none at the start
  pub gathers_start : (P : ℕ → List ℕ → Type 0) (old : List (List ℕ)) → Gathers basis n (Before 0 P) old old
  gathers_start P old = gathers_none (Before 0 P) old (λ w q s. let l = q.1 in absurd (omega (arith, l)))

  -- one more number, beside another kind
  pub gathers_beside : (Q : List ℕ → Type 0) (P : ℕ → List ℕ → Type 0) (k : ℕ) (old between new : List (List ℕ)) → Gathers basis n (λ w. Q w ⊎ Before k P w) old between
      → Gathers basis n (P k) between new → Gathers basis n (λ w. Q w ⊎ Before (k + 1) P w) old new
  gathers_beside Q P k old between new f g = gathers_then (λ w. Q w ⊎ Before k P w) (P k) (λ w. Q w ⊎ Before (k + 1) P w) old between new f g
      (λ w d s. elim d [
        | inl q ↦ inl (inl q)
        | inr q ↦ elim (cases_eq q.0 k) [ inl e ↦ inr (subst (λ v. P v w) e q.2) | inr ne ↦ let h = q.1 in inl (inr (q.0, omega (arith, h, ne), q.2)) ]
      ])

-- a word that passes both tests is a simple word of the class, and conversely
pub tests_to : (basis : List (List ℕ)) (w : List ℕ) → IsWord w → is_simple w ≡ true → avoids_all basis w ≡ true → IsSimpleOf basis (length w) w
tests_to basis w g e f = simple_of basis (length w) w ((simple_law w g.numbers).0 e) (record { word = g; avoids = avoids_from basis w f }) refl

pub tests_from : (basis : List (List ℕ)) (n : ℕ) (w : List ℕ) → IsSimpleOf basis n w → (is_simple w ≡ true) × (avoids_all basis w ≡ true)
tests_from basis n w s = ((simple_law w s.simple.numbers).1 s.simple, avoids_to basis w s.member.member.avoids)

-- one simple word is put in
pub gathers_one : (basis : List (List ℕ)) (w : List ℕ) (old new : List (List ℕ)) → IsSimpleOf basis (length w) w → new ≡ insert_key shortlex old w
    → Gathers basis (length w) (λ v. v ≡ w) old new
gathers_one basis w old new s e = subst (λ l. Gathers basis (length w) (λ v. v ≡ w) old l) (sym (e ∙ insert_same w old)) (record {
  kept = λ v i. insert_old w old v i;
  added = λ v i. elim (insert_In w old v i) [ inl q ↦ inr (subst (λ x. IsSimpleOf basis (length w) x) (sym q) s) | inr j ↦ inl j ];
  all = λ v q t. subst (λ x. In x (insert_word w old)) (sym q) (insert_new w old);
  ascending = λ a. insert_ascending w old a;
})

-- a point that was put in, with the entry y: the word is gone through
pub point_turn : (basis : List (List ℕ)) (τ w : List ℕ) (v y : ℕ) (old between new : List (List ℕ)) → IsOneToLength τ → v ≤ length τ → 1 ≤ y → y ≤ suc (length τ) → w ≡ insert_point τ v y
    → Gathers basis (suc (length τ)) (Before y (HasPointAt τ v)) old between → Gathers basis (length w) (λ u. u ≡ w) between new
    → Gathers basis (suc (length τ)) (Before (y + 1) (HasPointAt τ v)) old new
point_turn basis τ w v y old between new g h low high e f one =
    let n : length w ≡ suc (length τ) = ap length e ∙ inserted_length τ g v y h low high in
    gathers_next basis (suc (length τ)) (HasPointAt τ v) y old between new f
    (gathers_part basis (suc (length τ)) (λ u. u ≡ w) (HasPointAt τ v y) between new (subst (λ k. Gathers basis k (λ u. u ≡ w) between new) n one) (λ u q. q.1 ∙ sym e))

-- no entry is below 1
pub point_start : (basis : List (List ℕ)) (τ : List ℕ) (v : ℕ) (old : List (List ℕ)) → Gathers basis (suc (length τ)) (Before 1 (HasPointAt τ v)) old old
point_start basis τ v old = gathers_none basis (suc (length τ)) (Before 1 (HasPointAt τ v)) old (λ w q s. let l = q.1 in let h = q.2.0 in absurd (omega (arith, l, h)))

-- the same for the first of two points, which leaves a word of the class that isn't simple
pub two_points_turn : (basis : List (List ℕ)) (τ w : List ℕ) (v y : ℕ) (old between new : List (List ℕ)) → IsOneToLength τ → v ≤ length τ → 1 ≤ y → y ≤ suc (length τ) → w ≡ insert_point τ v y
    → Gathers basis (suc (suc (length τ))) (Before y (HasTwoPointsAt basis τ v)) old between → Gathers basis (suc (length w)) (HasPoint w) between new
    → Gathers basis (suc (suc (length τ))) (Before (y + 1) (HasTwoPointsAt basis τ v)) old new
two_points_turn basis τ w v y old between new g h low high e f more =
    let n : suc (length w) ≡ suc (suc (length τ)) = ap (λ (u : List ℕ). suc (length u)) e ∙ ap suc (inserted_length τ g v y h low high) in
    gathers_next basis (suc (suc (length τ))) (HasTwoPointsAt basis τ v) y old between new f
    (gathers_part basis (suc (suc (length τ))) (HasPoint w) (HasTwoPointsAt basis τ v y) between new (subst (λ k. Gathers basis k (HasPoint w) between new) n more)
    (λ u q. subst (λ μ. HasPoint μ u) (sym e) q.2))

-- or leaves another word
pub two_points_skip : (basis : List (List ℕ)) (τ w : List ℕ) (v y : ℕ) (old new : List (List ℕ)) → w ≡ insert_point τ v y → (IsUnsimpleOf basis w → ⊥)
    → Gathers basis (suc (suc (length τ))) (Before y (HasTwoPointsAt basis τ v)) old new → Gathers basis (suc (suc (length τ))) (Before (y + 1) (HasTwoPointsAt basis τ v)) old new
two_points_skip basis τ w v y old new e no_word f = gathers_next basis (suc (suc (length τ))) (HasTwoPointsAt basis τ v) y old new new f
    (gathers_none basis (suc (suc (length τ))) (HasTwoPointsAt basis τ v y) new (λ u q s. no_word (subst (λ μ. IsUnsimpleOf basis μ) (sym e) q.1)))

pub two_points_start : (basis : List (List ℕ)) (τ : List ℕ) (v : ℕ) (old : List (List ℕ)) → Gathers basis (suc (suc (length τ))) (Before 1 (HasTwoPointsAt basis τ v)) old old
two_points_start basis τ v old = gathers_none basis (suc (suc (length τ))) (Before 1 (HasTwoPointsAt basis τ v)) old (λ w q s. let l = q.1 in let h = q.2.0 in absurd (omega (arith, l, h)))

-- the words of a list have its length
pub item_length : (basis : List (List ℕ)) (m : ℕ) {us ws : List (List ℕ)} {i : ℕ} {w : List ℕ}
    → us ≡ ws → ws ≡ simples basis m → i < length us → w ≡ get_or us i w → length w ≡ m
item_length basis m {us} {ws} {i} {w} q e h is =
    ((simples_are basis m w).0 (subst (λ l. In w l) (q ∙ e) (subst (λ v. In v us) (sym is) (In_at us i w h)))).member.long

-- what comes from one of the words
pub of_item : (basis : List (List ℕ)) (m n : ℕ) (P : List ℕ → List ℕ → Type 0) {us ws : List (List ℕ)} {i k : ℕ} {w : List ℕ}
    {old new : List (List ℕ)} → us ≡ ws → ws ≡ simples basis m → i < length us → w ≡ get_or us i w → (length w ≡ m → k ≡ n)
    → Gathers basis k (P w) old new → Gathers basis n (P (get_or ws i [])) old new
of_item basis m n P {us} {ws} {i} {k} {w} {old} {new} q e h is long g =
    subst (λ j. Gathers basis j (P (get_or ws i [])) old new) (long (item_length basis m q e h is))
    (gathers_part basis k (P w) (P (get_or ws i [])) old new g
    (λ u. subst (λ τ. P τ u) (sym (is ∙ get_or_default us i w [] h ∙ ap (λ l. get_or l i []) q))))

-- the simple words of one length ascend in shortlex order
level_ascending : (basis : List (List ℕ)) (n : ℕ) → Ascending shortlex (simples basis n)
level_ascending basis n = ascending_also (slice_cmp nat_cmp) shortlex (simples basis n)
    (λ v w i j l. same v w (((simples_are basis n v).0 i).member.long ∙ sym ((simples_are basis n w).0 j).member.long) l) (simples_ascending basis n)
  where
    same : (v w : List ℕ) → length v ≡ length w → slice_cmp nat_cmp v w ≡ Less → shortlex v w ≡ Less
    same v w e l = rw (e, le-ltb (length w) (length w) (omega arith), eq-eqb (length w) (length w) refl) l

-- all that come from the lists of the two lengths below are the simple words of the class
pub gathered_all : (basis one two : List (List ℕ)) (n : ℕ) (keys : List (List ℕ)) → 6 ≤ n → one ≡ simples basis (n - 1) → two ≡ simples basis (n - 2)
    → Gathers basis n (λ w. Before (length one) (HasPointOf one) w ⊎ Before (length two) (HasTwoPointsOf basis two) w) [] keys → keys ≡ simples basis n
gathered_all basis one two n keys low a b g =
    ascending_same shortlex shortlex_total keys (simples basis n) (g.ascending tt) (level_ascending basis n)
    (λ w i. (simples_are basis n w).1 (elim (g.added w i) [ inl j ↦ absurd j | inr s ↦ s ]))
    (λ w i. complete w ((simples_are basis n w).0 i))
  where
    complete : (w : List ℕ) → IsSimpleOf basis n w → In w keys
    complete w s = elim (from_shorter basis n w low s) [
      | inl q ↦ let r = at_In one q.0 [] (subst (λ l. In q.0 l) (sym a) q.1) in g.all w (inl (r.0, r.1, subst (λ τ. HasPoint τ w) (sym r.2) q.2)) s
      | inr q ↦ let r = at_In two q.0 [] (subst (λ l. In q.0 l) (sym b) q.1) in g.all w (inr (r.0, r.1, subst (λ τ. HasTwoPoints basis τ w) (sym r.2) q.2)) s
    ]
