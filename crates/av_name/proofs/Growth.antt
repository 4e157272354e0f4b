-- What the two additions make of a constraint.
use Rattle.std.proofs.Common.{◌≡◌, ℕ, ◌≤◌, inl, inr, ◌↔◌, List, ◌∷◌, length, Bool, true, ◌||◌, refl, sym, ap, ◌∙◌, subst, arith}
use Rattle.std.proofs.lemmas.Bool.{or_cases, or_left, or_right}
use Rattle.av_perm.specs.Members.{In}
use Rattle.av_perm.specs.Contain.{contains}
use Rattle.av_perm.specs.Class.{maximal, top}
use Rattle.av_perm.specs.Relations.{IsWord, Contains, Avoids}
use Rattle.av_perm.proofs.Membership.{Each}
use Rattle.av_perm.proofs.Occurrences.{contains_from, contains_to}
use Rattle.av_perm.proofs.Containment.{contains_trans}
use Rattle.av_perm.proofs.MinimalWords.{words_each, minimal_is, maximal_is, minimal_again, maximal_again, has_minimal, has_maximal}
use Rattle.av_perm.proofs.TopWords.{top_maximal}
use Rattle.av_sys.specs.declared.names.Constraint.{Constraint}
use Rattle.av_sys.specs.Names.{Meets}
use Rattle.av_name.specs.declared.constraints.Known.TheVariants.{Open}
use Rattle.av_name.specs.Constraints.{is_required, is_avoided, known_by, known_of, add_avoid, add_require, IsClean, once_avoided, once_required}
use Rattle.av_name.specs.Laws.{IsRequired, GrowthLaw}
use Rattle.av_name.proofs.KnownPatterns.{required_from, required_to, avoided_from, avoided_to, open_is}

-- a word joins words
put_word : (p : List ℕ) (ws : List (List ℕ)) → IsWord p → Each IsWord ws → Each IsWord (p ∷ ws)
put_word p ws g h w (inl e) = subst IsWord (sym e) g
put_word p ws g h w (inr i) = h w i

-- the words of a constraint, as elements; a required one has two entries or more
pub record IsFit (c : Constraint) : Type 0 where
  pub avoid : Each IsWord c.avoid
  pub require : Each IsWord c.require
  pub long : Each (λ (w : List ℕ). 2 ≤ length w) c.require

-- the pattern and each avoided word contain a word that is kept
pub avoid_has : (c : Constraint) (p a : List ℕ) → Each IsWord c.avoid → IsWord p → In a (p ∷ c.avoid) → (m : List ℕ) × In m (add_avoid c p).avoid × Contains a m
avoid_has c p a f g i = has_minimal (length a) (p ∷ c.avoid) a (put_word p c.avoid g f) i (omega arith)

-- the pattern and each required word are contained in a word that is kept
pub require_has : (c : Constraint) (p r : List ℕ) → Each IsWord c.require → IsWord p → In r (p ∷ c.require) → (m : List ℕ) × In m (add_require c p).require × Contains m r
require_has c p r f g i = has_maximal (p ∷ c.require) r (put_word p c.require g f) i

-- a word that is kept is the pattern or was there
avoid_old : (c : Constraint) (p a : List ℕ) → In a (add_avoid c p).avoid → In a (p ∷ c.avoid)
avoid_old c p a i = ((minimal_is (p ∷ c.avoid) a).0 i).member

-- a word that is kept is the pattern or was there
require_old : (c : Constraint) (p r : List ℕ) → In r (add_require c p).require → In r (p ∷ c.require)
require_old c p r i = ((maximal_is (p ∷ c.require) r).0 i).member

-- an open pattern has two entries or more, so the word 1 isn't among the maximal words beside it
pub required_top : (c : Constraint) (p : List ℕ) → IsWord p → known_of c p ≡ Open → top (p ∷ c.require) ≡ maximal (p ∷ c.require)
required_top c p g o =
    let no_one : length p ≡ 1 → ⊥ = λ e. (open_is c p o).0 (inl e) in
    top_maximal (p ∷ c.require) p (inl refl) (omega (arith, g.filled, no_one))

-- two tests of which each passes where the other does
same_tests : (a b : Bool) → (a ≡ true → b ≡ true) → (b ≡ true → a ≡ true) → a ≡ b
same_tests a b f g = grind arith

-- what is avoided once the pattern is: what contains it, and what was avoided
avoided_more : (c : Constraint) (p w : List ℕ) → Each IsWord c.avoid → IsWord p → is_avoided (add_avoid c p) w ≡ (contains w p || is_avoided c w)
avoided_more c p w f g = same_tests (is_avoided (add_avoid c p) w) (contains w p || is_avoided c w)
    (λ e. let h = avoided_from (add_avoid c p) w e in into h.0 h.2 (avoid_old c p h.0 h.1))
    (λ e. elim (or_cases (contains w p) (is_avoided c w) e) [
      | inl k ↦ let m = avoid_has c p p f g (inl refl) in avoided_to (add_avoid c p) w (m.0, m.1, contains_trans w p m.0 (contains_from w p k) m.2)
      | inr k ↦ let h = avoided_from c w k in let m = avoid_has c p h.0 f g (inr h.1) in avoided_to (add_avoid c p) w (m.0, m.1, contains_trans w h.0 m.0 h.2 m.2)
    ])
  where
    into : (a : List ℕ) → Contains w a → In a (p ∷ c.avoid) → (contains w p || is_avoided c w) ≡ true
    into a k (inl e) = or_left (contains w p) (is_avoided c w) (contains_to w p (subst (Contains w) e k))
    into a k (inr i) = or_right (contains w p) (is_avoided c w) (avoided_to c w (a, i, k))

-- what is required once the pattern is: what it contains, and what was required
required_more : (c : Constraint) (p w : List ℕ) → Each IsWord c.require → IsWord p → is_required (add_require c p) w ≡ (contains p w || is_required c w)
required_more c p w f g = same_tests (is_required (add_require c p) w) (contains p w || is_required c w)
    (λ e. into (required_from (add_require c p) w e))
    (λ e. elim (or_cases (contains p w) (is_required c w) e) [
      | inl k ↦ let m = require_has c p p f g (inl refl) in required_to (add_require c p) w (inr (m.0, m.1, contains_trans m.0 p w m.2 (contains_from p w k)))
      | inr k ↦ required_to (add_require c p) w (still (required_from c w k))
    ])
  where
    old : (r : List ℕ) → Contains r w → In r (p ∷ c.require) → (contains p w || is_required c w) ≡ true
    old r k (inl e) = or_left (contains p w) (is_required c w) (contains_to p w (subst (λ v. Contains v w) e k))
    old r k (inr i) = or_right (contains p w) (is_required c w) (required_to c w (inr (r, i, k)))

    into : IsRequired (add_require c p) w → (contains p w || is_required c w) ≡ true
    into (inl q) = or_right (contains p w) (is_required c w) (required_to c w (inl q))
    into (inr r) = old r.0 r.2 (require_old c p r.0 r.1)

    still : IsRequired c w → IsRequired (add_require c p) w
    still (inl q) = inl q
    still (inr r) = let m = require_has c p r.0 f g (inr r.1) in inr (m.0, m.1, contains_trans m.0 r.0 w m.2 r.2)

-- what is known of a word once the pattern is avoided
pub known_of_avoid : (c : Constraint) (p w : List ℕ) → Each IsWord c.avoid → IsWord p → known_of (add_avoid c p) w ≡ once_avoided (contains w p) (known_of c w)
unfolding known_of
known_of_avoid c p w f g = ap (known_by (is_required c w)) (avoided_more c p w f g) ∙ by (is_required c w) (is_avoided c w) (contains w p)
  where
    by : (x y b : Bool) → known_by x (b || y) ≡ once_avoided b (known_by x y)
    by x y b = grind arith

-- what is known of a word once the pattern is required, if nothing was known of the pattern
pub known_of_require : (c : Constraint) (p w : List ℕ) → Each IsWord c.require → IsWord p → known_of c p ≡ Open
    → known_of (add_require c p) w ≡ once_required (contains p w) (known_of c w)
unfolding known_of
known_of_require c p w f g o =
    ap (λ x. known_by x (is_avoided c w)) (required_more c p w f g)
    ∙ by (is_required c w) (is_avoided c w) (contains p w) (λ e k.
    let h = avoided_from c w e in (open_is c p o).1 (h.0, h.1, contains_trans p w h.0 (contains_from p w k) h.2))
  where
    by : (x y b : Bool) → (y ≡ true → b ≡ true → ⊥) → known_by (b || x) y ≡ once_required b (known_by x y)
    by x y b n = grind arith

-- avoiding the pattern keeps a constraint fit
pub avoid_fit : (c : Constraint) (p : List ℕ) → IsFit c → IsWord p → IsFit (add_avoid c p)
avoid_fit c p f g = record {
  avoid = λ w i. put_word p c.avoid g f.avoid w (avoid_old c p w i);
  require = f.require;
  long = f.long;
}

-- and so does requiring it, where nothing was known of it
pub require_fit : (c : Constraint) (p : List ℕ) → IsFit c → IsWord p → known_of c p ≡ Open → IsFit (add_require c p)
require_fit c p f g o = record {
  avoid = f.avoid;
  require = λ w i. put_word p c.require g f.require w (require_old c p w i);
  long = λ w i. at_least w (require_old c p w i);
}
  where
    at_least : (w : List ℕ) → In w (p ∷ c.require) → 2 ≤ length w
    at_least w (inl e) = let n : length p ≡ 1 → ⊥ = λ q. (open_is c p o).0 (inl q) in let s = ap length e in omega (arith, g.filled, n)
    at_least w (inr i) = f.long w i

-- what meets the constraint once the pattern is avoided
pub meets_avoid : (σ : List ℕ) (c : Constraint) (p : List ℕ) → Each IsWord c.avoid → IsWord p
    → Meets (add_avoid c p).avoid c.require σ ↔ (Meets c.avoid c.require σ × Avoids σ p)
meets_avoid σ c p f g = (
  λ r. (
    record { avoids = λ a i k. let m = avoid_has c p a f g (inr i) in r.avoids m.0 m.1 (contains_trans σ a m.0 k m.2); contains = r.contains },
    λ k. let m = avoid_has c p p f g (inl refl) in r.avoids m.0 m.1 (contains_trans σ p m.0 k m.2),
  ),
  λ h. record { avoids = λ a i k. back h a k (avoid_old c p a i); contains = h.0.contains },
)
  where
    back : Meets c.avoid c.require σ × Avoids σ p → (a : List ℕ) → Contains σ a → In a (p ∷ c.avoid) → ⊥
    back h a k (inl e) = h.1 (subst (Contains σ) e k)
    back h a k (inr j) = h.0.avoids a j k

-- and once it is required
pub meets_require : (σ : List ℕ) (c : Constraint) (p : List ℕ) → Each IsWord c.require → IsWord p
    → Meets c.avoid (add_require c p).require σ ↔ (Meets c.avoid c.require σ × Contains σ p)
meets_require σ c p f g = (
  λ r. (
    record { avoids = r.avoids; contains = λ w i. let m = require_has c p w f g (inr i) in contains_trans σ m.0 w (r.contains m.0 m.1) m.2 },
    let m = require_has c p p f g (inl refl) in contains_trans σ m.0 p (r.contains m.0 m.1) m.2,
  ),
  λ h. record { avoids = h.0.avoids; contains = λ w i. back h w (require_old c p w i) },
)
  where
    back : Meets c.avoid c.require σ × Contains σ p → (w : List ℕ) → In w (p ∷ c.require) → Contains σ w
    back h w (inl e) = subst (Contains σ) (sym e) h.1
    back h w (inr j) = h.0.contains w j

-- no required word contains an avoided one, once the pattern is avoided or required
pub clean_avoid : (c : Constraint) (p : List ℕ) → known_of c p ≡ Open → IsClean c → IsClean (add_avoid c p)
clean_avoid c p o t r a i j k = by (avoid_old c p a j)
  where
    by : In a (p ∷ c.avoid) → ⊥
    by (inl e) = (open_is c p o).0 (inr (r, i, subst (Contains r) e k))
    by (inr m) = t r a i m k

-- the same for the required words
pub clean_require : (c : Constraint) (p : List ℕ) → known_of c p ≡ Open → IsClean c → IsClean (add_require c p)
clean_require c p o t r a i j k = by (require_old c p r i)
  where
    by : In r (p ∷ c.require) → ⊥
    by (inl e) = (open_is c p o).1 (a, j, subst (λ v. Contains v a) e k)
    by (inr m) = t r a m j k

-- the law of growing constraints
pub growth_law : GrowthLaw
growth_law c p f g o = record {
  avoiding = λ σ.
      let m = meets_avoid σ c p (words_each c.avoid f.avoid) g in
      (λ r. let x = m.0 r.meets in (record { word = r.word; meets = x.0 }, x.1), λ r. record { word = r.0.word; meets = m.1 (r.0.meets, r.1) });
  requiring = λ σ.
      let m = meets_require σ c p (words_each c.require f.require) g in
      (λ r. let x = m.0 r.meets in (record { word = r.word; meets = x.0 }, x.1), λ r. record { word = r.0.word; meets = m.1 (r.0.meets, r.1) });
  minimal = minimal_again (p ∷ c.avoid);
  maximal = maximal_again (p ∷ c.require);
  clean = λ t. (clean_avoid c p o t, clean_require c p o t);
}
