-- When something is known of a pattern, and what it says of the region.
use Rattle.std.proofs.Common.{◌≡◌, ℕ, ◌≤◌, inl, inr, ◌↔◌, List, length, Bool, true, false, eqb, eq-eqb, refl, arith}
use Rattle.std.specs.List.{list_any}
use Rattle.std.proofs.lemmas.Bool.{or_cases, or_left, or_right, eqb-true}
use Rattle.av_perm.specs.Members.{In}
use Rattle.av_perm.specs.Contain.{contains}
use Rattle.av_perm.specs.Relations.{IsWord, Contains, Avoids}
use Rattle.av_perm.proofs.Tests.{any_from, any_to}
use Rattle.av_perm.proofs.Occurrences.{contains_from, contains_to}
use Rattle.av_perm.proofs.Containment.{contains_one, contains_trans}
use Rattle.av_sys.specs.declared.names.Constraint.{Constraint}
use Rattle.av_sys.specs.Names.{Meets}
use Rattle.av_name.specs.declared.constraints.Known.TheVariants.{Inside, Outside, Open}
use Rattle.av_name.specs.Constraints.{free, is_required, is_avoided, known_by, known_of, IsClean}
use Rattle.av_name.specs.Laws.{IsRequired, IsAvoided, KnownLaw, FreeLaw}

-- the pattern contains some avoided word
abbrev pub HasAvoided : Constraint → List ℕ → Type 0
HasAvoided c p = (a : List ℕ) × In a c.avoid × Contains p a

-- what the test of the required words says
pub required_from : (c : Constraint) (p : List ℕ) → is_required c p ≡ true → IsRequired c p
required_from c p e = elim (or_cases (eqb (length p) 1) (list_any (λ r. contains r p) c.require) e) [
  | inl h ↦ inl (eqb-true (length p) 1 h)
  | inr h ↦ let r = any_from (λ r. contains r p) c.require h in inr (r.0, r.1, contains_from r.0 p r.2)
]

-- and when it passes
pub required_to : (c : Constraint) (p : List ℕ) → IsRequired c p → is_required c p ≡ true
required_to c p (inl e) = or_left (eqb (length p) 1) (list_any (λ r. contains r p) c.require) (eq-eqb (length p) 1 e)
required_to c p (inr r) = or_right (eqb (length p) 1) (list_any (λ r. contains r p) c.require) (any_to (λ r. contains r p) c.require r.0 r.1 (contains_to r.0 p r.2))

-- what the test of the avoided words says
pub avoided_from : (c : Constraint) (p : List ℕ) → is_avoided c p ≡ true → HasAvoided c p
avoided_from c p e = let r = any_from (λ a. contains p a) c.avoid e in (r.0, r.1, contains_from p r.0 r.2)

-- and when it passes
pub avoided_to : (c : Constraint) (p : List ℕ) → HasAvoided c p → is_avoided c p ≡ true
avoided_to c p r = any_to (λ a. contains p a) c.avoid r.0 r.1 (contains_to p r.0 r.2)

-- the tests at what is known
by_inside : (x y : Bool) → known_by x y ≡ Inside → x ≡ true
by_inside true y e = refl
by_inside false true e = absurd (cc)
by_inside false false e = absurd (cc)

inside_by : (x y : Bool) → x ≡ true → known_by x y ≡ Inside
inside_by true y e = refl
inside_by false y e = absurd (cc)

by_outside : (x y : Bool) → known_by x y ≡ Outside → (x ≡ true → ⊥) × (y ≡ true)
by_outside true y e = absurd (cc)
by_outside false true e = (λ h. cc, refl)
by_outside false false e = absurd (cc)

outside_by : (x y : Bool) → (x ≡ true → ⊥) → y ≡ true → known_by x y ≡ Outside
outside_by true y h e = absurd (h refl)
outside_by false true h e = refl
outside_by false false h e = absurd (cc)

by_open : (x y : Bool) → known_by x y ≡ Open → (x ≡ true → ⊥) × (y ≡ true → ⊥)
by_open true y e = absurd (cc)
by_open false true e = absurd (cc)
by_open false false e = (λ h. cc, λ h. cc)

-- `Inside` comes exactly for what is required
pub inside_is : (c : Constraint) (p : List ℕ) → (known_of c p ≡ Inside) ↔ IsRequired c p
unfolding known_of
inside_is c p = (
  λ e. required_from c p (by_inside (is_required c p) (is_avoided c p) e),
  λ r. inside_by (is_required c p) (is_avoided c p) (required_to c p r),
)

-- `Outside` comes exactly for what has an avoided word, and is not required
pub outside_is : (c : Constraint) (p : List ℕ) → (known_of c p ≡ Outside) ↔ ((IsRequired c p → ⊥) × HasAvoided c p)
unfolding known_of
outside_is c p = (
  λ e. let b = by_outside (is_required c p) (is_avoided c p) e in (λ r. b.0 (required_to c p r), avoided_from c p b.1),
  λ h. outside_by (is_required c p) (is_avoided c p) (λ e. h.0 (required_from c p e)) (avoided_to c p h.1),
)

-- `Open` comes for neither
pub open_is : (c : Constraint) (p : List ℕ) → known_of c p ≡ Open → (IsRequired c p → ⊥) × (HasAvoided c p → ⊥)
unfolding known_of
open_is c p e = let b = by_open (is_required c p) (is_avoided c p) e in (λ r. b.0 (required_to c p r), λ h. b.1 (avoided_to c p h))

-- each word of the region contains what is required
pub inside_says : (c : Constraint) (p σ : List ℕ) → 1 ≤ length σ → Meets c.avoid c.require σ → known_of c p ≡ Inside → Contains σ p
inside_says c p σ n m e = into ((inside_is c p).0 e)
  where
    into : IsRequired c p → Contains σ p
    into (inl q) = contains_one σ p n q
    into (inr s) = contains_trans σ s.0 p (m.contains s.0 s.1) s.2

-- and no word of it what has an avoided word
pub outside_says : (c : Constraint) (p σ : List ℕ) → Meets c.avoid c.require σ → known_of c p ≡ Outside → Avoids σ p
outside_says c p σ m e k = let h = ((outside_is c p).0 e).1 in m.avoids h.0 h.1 (contains_trans σ p h.0 k h.2)

-- where no required word has an avoided word, neither has what is required, but for the word 1
not_both : (c : Constraint) (p : List ℕ) → IsClean c → IsAvoided c p → IsRequired c p → ⊥
not_both c p t a (inl q) = omega (arith, a.0)
not_both c p t a (inr s) = t s.0 a.1.0 s.1 a.1.1 (contains_trans s.0 p a.1.0 s.2 a.1.2)

-- a pattern that is not the word 1 has two entries or more
not_one : (c : Constraint) (p : List ℕ) → IsWord p → (IsRequired c p → ⊥) → 2 ≤ length p
not_one c p w n = let one : length p ≡ 1 → ⊥ = λ q. n (inl q) in omega (arith, w.filled, one)

-- the law of what is known
pub known_law : KnownLaw
known_law c p w = record {
  inside = inside_is c p;
  outside = λ t. (
    λ e. let h = (outside_is c p).0 e in (not_one c p w h.0, h.1),
    λ a. (outside_is c p).1 (not_both c p t a, a.1),
  );
  inside_says = λ e σ r. inside_says c p σ r.word.filled r.meets e;
  outside_says = λ e σ r. outside_says c p σ r.meets e;
}

-- the free constraint asks nothing
pub free_meets : (σ : List ℕ) → Meets free.avoid free.require σ
free_meets σ = record { avoids = λ a i. absurd i; contains = λ r i. absurd i }

-- its region is that of all words
pub free_law : FreeLaw
free_law σ = (λ r. r.word, λ w. record { word = w; meets = free_meets σ })
