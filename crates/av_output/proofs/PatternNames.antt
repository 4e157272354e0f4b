-- The names of a system that was built are names of patterns, and it is no larger than a claim's may be.
use Rattle.std.proofs.Common.{◌≡◌, inl, inr, ℕ, ◌≤◌, ◌==◌, if◌then◌else◌, List, [], ◌∷◌, length, Option, Some, None, slice_get, refl, sym, ap, subst, arith}
use Rattle.std.specs.Prelude.{sum_by}
use Rattle.std.proofs.lemmas.Bool.{cases_Bool}
use Rattle.std.proofs.lemmas.List.Sums.{sum_by-cons}
use Rattle.av_perm.specs.declared.limits.TheConstants.{MAX_PATTERN_LENGTH}
use Rattle.av_perm.specs.Members.{In}
use Rattle.av_perm.specs.Class.{top}
use Rattle.av_perm.specs.Relations.{IsWord, AreWords}
use Rattle.av_perm.proofs.Membership.{Each, In_map}
use Rattle.av_perm.proofs.TopWords.{top_list}
use Rattle.av_sys.specs.declared.names.Name.{Name}
use Rattle.av_sys.specs.declared.terms.Term.{Term}
use Rattle.av_sys.specs.declared.terms.Equation.{Equation}
use Rattle.av_sys.specs.declared.terms.System.{System}
use Rattle.av_build.specs.Canonical.{IsCanonical, first_name, grow, equations_of}
use Rattle.av_build.specs.Lean.{name_of, lean_equation, kept, lean}
use Rattle.av_perm.proofs.ListLaws.{get_In}
use Rattle.av_build.proofs.ListPlaces.{part_sum}
use Rattle.av_build.proofs.ShortNames.{IsShortOver, first_short, class_short}
use Rattle.av_check.specs.Claims.{ArePatterns, IsNamedByPatterns}
use Rattle.av_session.specs.Classes.{in_format}

-- each name of a system is one of patterns
abbrev pub AreNamed : System → Type 0
AreNamed S = (e : Equation) → In e S.equations → IsNamedByPatterns e.name

-- a name of words that are short enough
short_name : (basis : List (List ℕ)) (n : Name) → IsShortOver basis MAX_PATTERN_LENGTH n → IsNamedByPatterns n
short_name basis n k = record {
  avoided = λ w i. record { word = k.over.avoids w i; short = k.short.avoid w i };
  required = λ w i. record { word = k.over.requires w i; short = k.short.require w i };
}

-- the name of an equation of what has grown was found
name_found : (found : List Name) (written : List (List Term)) (e : Equation) → In e (equations_of found written) → In e.name found
name_found [] written e i = absurd i
name_found (n ∷ found) [] e i = absurd i
name_found (n ∷ found) (ts ∷ written) e (inl q) = inl (ap (λ (x : Equation). x.name) q)
name_found (n ∷ found) (ts ∷ written) e (inr i) = inr (name_found found written e i)

-- the canonical system of a class has names of patterns
canonical_named : (basis required roots : List (List ℕ)) (limit : ℕ) (S : System) → AreWords basis → AreWords required → Each (λ w. length w ≤ MAX_PATTERN_LENGTH) basis
    → Each (λ w. length w ≤ MAX_PATTERN_LENGTH) required → IsCanonical basis required roots limit S → AreNamed S
canonical_named basis required roots limit S words wanted short short_required c = subst AreNamed (sym c.system) (λ e i.
    short_name basis e.name (class_short basis roots (first_name basis required) MAX_PATTERN_LENGTH limit first e.name
    (name_found (grow basis required roots limit).found (grow basis required roots limit).written e i)))
  where
    first : IsShortOver basis MAX_PATTERN_LENGTH (first_name basis required)
    first = first_short basis required MAX_PATTERN_LENGTH words wanted short short_required

-- so has the lean system of one that has
old_named : (S : System) → AreNamed S → (o : Option Equation) → ((e : Equation) → o ≡ Some e → In e S.equations) → IsNamedByPatterns (name_of o)
old_named S h None i = record { avoided = λ w j. absurd j; required = λ w j. absurd j }
old_named S h (Some e) i = h e (i e refl)

lean_named : (S : System) → AreNamed S → AreNamed (lean S)
lean_named S h e i =
    let u = In_map (lean_equation S (kept S)) (kept S) e i in
    subst (λ (x : Equation). IsNamedByPatterns x.name) (sym u.2) (old_named S h (slice_get S.equations u.0) (λ d q. get_In S.equations u.0 d q))

-- what holds of a system and of its lean system holds in each format
pub in_each_format : (P : System → Type 0) (S : System) (format : ℕ) → P S → P (lean S) → P (in_format format S)
in_each_format P S format whole pruned = elim (cases_Bool (format == 1)) [
  | inl e ↦ subst P (sym (ap (λ b. if b then S else lean S) e)) whole
  | inr e ↦ subst P (sym (ap (λ b. if b then S else lean S) e)) pruned
]

pub names_in_format : (basis required roots : List (List ℕ)) (limit format : ℕ) (S : System) → AreWords basis → AreWords required → Each (λ w. length w ≤ MAX_PATTERN_LENGTH) basis
    → Each (λ w. length w ≤ MAX_PATTERN_LENGTH) required → IsCanonical basis required roots limit S → AreNamed (in_format format S)
names_in_format basis required roots limit format S words wanted short short_required c =
    let named = canonical_named basis required roots limit S words wanted short short_required c in
    in_each_format AreNamed S format named (lean_named S named)

-- words that are short enough are patterns
pub patterns : (ws : List (List ℕ)) → Each IsWord ws → Each (λ w. length w ≤ MAX_PATTERN_LENGTH) ws → ArePatterns ws
patterns ws words short w i = record { word = words w i; short = short w i }

-- a list of different words of another is no longer
ones : (ws : List (List ℕ)) → sum_by (λ (w : List ℕ). 1) ws ≡ length ws
ones [] = refl
ones (w ∷ ws) = omega (arith, sum_by-cons (λ (v : List ℕ). 1) w ws, ones ws)

pub top_few : (ws : List (List ℕ)) → length (top ws) ≤ length ws
top_few ws =
    let t = top_list ws in
    omega (arith, part_sum (λ (w : List ℕ). 1) (top ws) ws t.once (λ w i. ((t.members w).0 i).member), ones (top ws), ones ws)
