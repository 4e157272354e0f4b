-- The two-gap law: a shortest simple word beyond a gap contains a simple word of the class that is one or two shorter.
use Rattle.std.proofs.Common.{◌≡◌, ℕ, zero, suc, ◌<◌, ◌≤◌, inl, inr, List, [], length, refl, subst, arith}
use Rattle.std.proofs.lemmas.Bool.{cases_eq}
use Rattle.av_perm.specs.Members.{In}
use Rattle.av_perm.specs.Gap.{simples}
use Rattle.av_perm.specs.Relations.{IsWord, IsSimple, InClass}
use Rattle.av_perm.specs.Laws.{IsSimpleOf, IsGap}
use Rattle.av_perm.proofs.Membership.{nil_from}
use Rattle.av_perm.proofs.Classes.{class_down}
use Rattle.av_perm.proofs.SimpleWords.{simples_are}
use Rattle.av_interval.specs.Laws.{IsFinalGap, TwoGapLaw}
use Rattle.av_interval.proofs.SmallerSimples.{smaller_simples_law}

-- a simple word of the class is one of its length
pub simple_of : (basis : List (List ℕ)) (m : ℕ) (w : List ℕ) → IsSimple w → InClass basis w → length w ≡ m → IsSimpleOf basis m w
simple_of basis m w p c e = record { simple = p; member = record { member = c; long = e } }

-- a simple word is a word
pub simple_filled : (w : List ℕ) → IsSimple w → IsWord w
simple_filled w p = record { numbers = p.numbers; filled = omega (arith, p.long) }

-- no simple word of the class has a length from the gap to below k
gap_below : (basis : List (List ℕ)) (g : ℕ) → IsGap basis g → (k m : ℕ) → g ≤ m → m < k → (w : List ℕ) → IsSimpleOf basis m w → ⊥
gap_below basis g gap zero m gm mk w p = absurd (omega (arith, mk))
gap_below basis g gap (suc k) m gm mk w p = elim (cases_eq m g) [
  | inl e ↦ gap.none w (simple_of basis g w p.simple p.member.member (omega (arith, p.member.long, e)))
  | inr ne ↦ elim (cases_eq m (suc g)) [
    | inl e ↦ gap.none_next w (simple_of basis (suc g) w p.simple p.member.member (omega (arith, p.member.long, e)))
    | inr ne' ↦
        let r = smaller_simples_law w p.simple (omega (arith, gap.high, gm, ne, ne', p.member.long)) in
        gap_below basis g gap k (length r.0) (omega (arith, gm, ne, ne', p.member.long, r.1.shorter)) (omega (arith, mk, p.member.long, r.1.shorter)) r.0
        (simple_of basis (length r.0) r.0 r.1.simple (class_down basis w r.0 p.member.member (simple_filled r.0 r.1.simple) r.1.contained) refl)
  ]
]

-- so none has a length from the gap on
pub final_gap : (basis : List (List ℕ)) (g : ℕ) → IsGap basis g → IsFinalGap basis g
final_gap basis g gap = record { none = none; none_listed = λ m gm. nil_from (simples basis m) (λ w i. none m gm w ((simples_are basis m w).0 i)) }
  where
    none : (m : ℕ) → g ≤ m → (w : List ℕ) → IsSimpleOf basis m w → ⊥
    none m gm w p = gap_below basis g gap (suc m) m gm (omega arith) w p

-- two empty lists make a gap
lists_gap : (basis : List (List ℕ)) (g : ℕ) → 4 ≤ g → simples basis g ≡ [] → simples basis (suc g) ≡ [] → IsGap basis g
lists_gap basis g high e f = record {
  high = high;
  none = λ w p. subst (In w) e ((simples_are basis g w).1 p);
  none_next = λ w p. subst (In w) f ((simples_are basis (suc g) w).1 p);
}

-- in both forms
pub two_gap_law : TwoGapLaw
two_gap_law = record {
  gap = final_gap;
  listed = λ basis g high e f m gm. (final_gap basis g (lists_gap basis g high e f)).none_listed m gm;
}
