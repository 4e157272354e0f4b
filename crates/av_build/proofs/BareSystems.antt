-- The system of a name that no word means, since a required word contains an avoided one: one equation without terms. What grows
-- from the name of a class is that, or what grows from any name.
use Rattle.std.proofs.Common.{◌≡◌, ℕ, zero, suc, ◌⊎◌, inl, inr, List, [], true, false, cond, refl, sym, ap, ◌∙◌, subst, arith}
use Rattle.std.specs.List.{list_any}
use Rattle.std.proofs.lemmas.Bool.{cases_Bool}
use Rattle.av_perm.specs.Contain.{contains}
use Rattle.av_perm.specs.Relations.{Contains}
use Rattle.av_perm.proofs.Membership.{In}
use Rattle.av_perm.proofs.Tests.{any_from, any_to}
use Rattle.av_perm.proofs.Occurrences.{contains_from, contains_to}
use Rattle.av_perm.proofs.Containment.{contains_trans}
use Rattle.av_perm.proofs.MinimalWords.{minimal_is}
use Rattle.av_perm.proofs.TopWords.{top_is}
use Rattle.av_sys.specs.declared.names.Name.{Name}
use Rattle.av_sys.specs.declared.terms.Term.{Term}
use Rattle.av_sys.specs.declared.terms.Equation.{Equation}
use Rattle.av_sys.specs.declared.terms.System.{System}
use Rattle.av_sys.specs.Names.{Means}
use Rattle.av_sys.specs.Terms.{IsWellFormed}
use Rattle.av_sys.specs.Trees.{Tree, IsTree}
use Rattle.av_sys.specs.Exact.{MeansAt, NamedUpTo}
use Rattle.av_build.specs.Canonical.{Grown, grow_from, grown_size, as_system, system_size, IsAbove, IsGrownWithin, IsCanonicalFrom, is_void, bare, first_name, grow_class}
use Rattle.av_build.specs.Laws.{IsNameOver, HasSize, SizeLaw, BareLaw}
use Rattle.av_build.proofs.Growing.{NameAt, canonical}
use Rattle.av_build.proofs.GrownSizes.{name_size}

-- no word means a name where a required word contains an avoided one
pub void_none : (name : Name) → is_void name ≡ true → (w : List ℕ) → Means name w → ⊥
void_none name e w m =
    let r = any_from (λ r. list_any (contains r) name.avoid) name.require e in
    let a = any_from (contains r.0) name.avoid r.2 in
    m.meets.avoids a.0 a.1 (contains_trans w r.0 a.0 (m.meets.contains r.0 r.1) (contains_from r.0 a.0 a.2))

-- and the test tells that one does
pub void_to : (name : Name) (r a : List ℕ) → In r name.require → In a name.avoid → Contains r a → is_void name ≡ true
void_to name r a i j c = any_to (λ r. list_any (contains r) name.avoid) name.require r i (any_to (contains r) name.avoid a j (contains_to r a c))

-- an equation without terms has no tree
no_tree : (name : Name) (u : ℕ) (T : Tree) → IsTree (as_system (bare name)) u T → ⊥
no_tree name zero T v = absurd (let f : false ≡ true = v in cc)
no_tree name (suc u) T v = absurd (let f : false ≡ true = v in cc)

-- so where no word means the name, it generates what it describes
pub bare_named : (name : Name) (m : ℕ) → ((w : List ℕ) → Means name w → ⊥) → NamedUpTo (as_system (bare name)) m
bare_named name m none = record {
  sound = λ u T v l. absurd (no_tree name u T v);
  complete = λ u w k l. absurd (at u w k);
  once = λ u T U v w k l e. absurd (no_tree name u T v);
}
  where
    at : (u : ℕ) (w : List ℕ) → MeansAt (as_system (bare name)) u w → ⊥
    at zero w k = none w k
    at (suc u) w k = absurd k

-- it is well formed
pub bare_form : (name : Name) → IsWellFormed (as_system (bare name))
bare_form name = record { some = omega arith; few = omega arith; terms = λ e t i j. absurd (by e t i j) }
  where
    by : (e : Equation) (t : Term) → In e (as_system (bare name)).equations → In t e.terms → ⊥
    by e t (inl q) j = subst (λ (x : Equation). In t x.terms) q j
    by e t (inr i) j = absurd i

-- what grows from the name of a class is the name alone where no word means it
pub grow_bare : (roots : List (List ℕ)) (name : Name) (j : ℕ) → is_void name ≡ true → grow_class roots name j ≡ bare name
unfolding grow_class
grow_bare roots name j e = ap (λ b. cond b (bare name) (grow_from roots name j)) e

-- and where it isn't so, what grows from any name
pub grow_full : (roots : List (List ℕ)) (name : Name) (j : ℕ) → is_void name ≡ false → grow_class roots name j ≡ grow_from roots name j
unfolding grow_class
grow_full roots name j e = ap (λ b. cond b (bare name) (grow_from roots name j)) e

-- it is one of them
pub grow_cases : (roots : List (List ℕ)) (name : Name)
    → ((is_void name ≡ true) × ((j : ℕ) → grow_class roots name j ≡ bare name)) ⊎ ((j : ℕ) → grow_class roots name j ≡ grow_from roots name j)
grow_cases roots name = elim (cases_Bool (is_void name)) [
  | inl e ↦ inl (e, λ j. grow_bare roots name j e)
  | inr e ↦ inr (λ j. grow_full roots name j e)
]

-- what has grown alike is within the same limits
pub within_same : (g h : ℕ → Grown) → ((j : ℕ) → g j ≡ h j) → (limit : ℕ) (S : System) → IsGrownWithin g limit S → IsGrownWithin h limit S
within_same g h e limit S w = record {
  fits = let q = ap grown_size (e limit) in let f = w.fits in omega arith;
  system = w.system ∙ ap as_system (e limit);
}

-- and above the same
pub above_same : (g h : ℕ → Grown) → ((j : ℕ) → g j ≡ h j) → (limit : ℕ) → IsAbove g limit → IsAbove h limit
above_same g h e limit a = let q = ap grown_size (e limit) in omega arith

-- the system of a class, within the limit, is the bare one of a name that no word means, or the canonical one of the name
pub class_cases : (roots : List (List ℕ)) (name : Name) (limit : ℕ) (S : System) → IsGrownWithin (grow_class roots name) limit S
    → ((is_void name ≡ true) × (S ≡ as_system (bare name))) ⊎ IsCanonicalFrom roots name limit S
class_cases roots name limit S w = elim (grow_cases roots name) [
  | inl v ↦ inl (v.0, w.system ∙ ap as_system (v.1 limit))
  | inr e ↦ inr (within_same (grow_class roots name) (grow_from roots name) e limit S w)
]

-- the bare system has the size 1
bare_size : (name : Name) (limit : ℕ) (S : System) → IsGrownWithin (λ j. bare name) limit S → HasSize (λ j. bare name) limit S
bare_size name limit S c = record {
  within = let f = c.fits in omega (arith, is);
  same = λ other T d. d.system ∙ sym c.system;
  fits = λ other. (λ d. let f = d.fits in omega (arith, is), λ h. record { fits = omega (arith, is); system = c.system });
  too_large = λ other. (λ a. omega (arith, is), λ l. omega (arith, is));
}
  where
    is : system_size S ≡ grown_size (bare name)
    is = ap system_size c.system

-- what has grown alike has the same size
size_same : (g h : ℕ → Grown) → ((j : ℕ) → g j ≡ h j) → (limit : ℕ) (S : System) → HasSize h limit S → HasSize g limit S
size_same g h e limit S s = record {
  within = s.within;
  same = λ other T d. s.same other T (within_same g h e other T d);
  fits = λ other. (
    λ d. (s.fits other).0 (within_same g h e other S d),
    λ l. within_same h g (λ j. sym (e j)) other S ((s.fits other).1 l),
  );
  too_large = λ other. (
    λ a. (s.too_large other).0 (above_same g h e other a),
    λ l. above_same h g (λ j. sym (e j)) other ((s.too_large other).1 l),
  );
}

-- the size of the canonical system of a class
class_size : (roots : List (List ℕ)) (name : Name) (limit : ℕ) (S : System) → IsGrownWithin (grow_class roots name) limit S → HasSize (grow_class roots name) limit S
class_size roots name limit S w = elim (grow_cases roots name) [
  | inl v ↦ size_same (grow_class roots name) (λ j. bare name) v.1 limit S (bare_size name limit S (within_same (grow_class roots name) (λ j. bare name) v.1 limit S w))
  | inr e ↦ size_same (grow_class roots name) (grow_from roots name) e limit S (name_size roots name limit S (within_same (grow_class roots name) (grow_from roots name) e limit S w))
]

-- the law of sizes
pub size_law : SizeLaw
size_law = record { from = name_size; class = λ basis required roots limit S w. class_size roots (first_name basis required) limit S w }

-- the law of bare systems
pub bare_law : BareLaw
bare_law basis required roots limit S r b words wanted i j k c = record {
  none = λ σ m.
      let f : Contains σ r = m.contains r ((top_is required r).0 i).member in
      m.member.avoids b ((minimal_is basis b).0 j).member (contains_trans σ r b f k);
  alone = c.system ∙ ap as_system (grow_bare roots (first_name basis required) limit (void_to (first_name basis required) r b i j k));
}

-- where it is the system of the class's name, that is equation 0's
pub class_first : (roots : List (List ℕ)) (name : Name) (basis : List (List ℕ)) (limit : ℕ) (S : System) → IsNameOver basis name
    → IsGrownWithin (grow_class roots name) limit S → NameAt S 0 name
class_first roots name basis limit S ok w = elim (class_cases roots name limit S w) [
  | inl v ↦ subst (λ (T : System). NameAt T 0 name) (sym v.1) (record { name = name; terms = [] }, refl, refl)
  | inr c ↦ (canonical basis roots name limit S ok c).first
]
