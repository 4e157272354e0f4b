-- The terms of a list: the names of those with a root, those whose names the same blocks mean, and the points.
use Rattle.std.proofs.Common.{◌≡◌, ℕ, ◌≤◌, inl, inr, List, [], ◌∷◌, Bool, true, false, cond, refl, sym, ap, ◌∙◌, subst, arith, true≢false}
use Rattle.av_perm.specs.Members.{In}
use Rattle.av_perm.specs.Lists.{same}
use Rattle.av_perm.specs.WordOrder.{word_same}
use Rattle.av_perm.proofs.Membership.{SomeIn}
use Rattle.av_perm.proofs.Tests.{same_refl}
use Rattle.av_sys.specs.declared.names.Name.{Name}
use Rattle.av_sys.specs.declared.terms.Term.{Term}
use Rattle.av_sys.specs.declared.terms.Term.TheVariants.{Point, Node}
use Rattle.av_sys.specs.declared.terms.System.{System}
use Rattle.av_split.proofs.GenericSplit.{Apart}
use Rattle.av_build.proofs.TermShapes.{MeanAt}
use Rattle.av_walk.specs.Leaves.{names_at, names_of_root}
use Rattle.av_check.specs.Verdicts.{count_points}
use Rattle.av_check.proofs.NameLiterals.{Covers, mean_covers}

-- the names of the children of the terms with a root
pub In_names : (S : System) (root : List ℕ) (ts : List Term) (ns : List Name) → In ns (names_of_root S root ts) → (cs : List ℕ) × In (Node root cs) ts × (ns ≡ names_at S cs)
In_names S root [] ns i = absurd i
In_names S root (Point ∷ ts) ns i = let r = In_names S root ts ns i in (r.0, inr r.1, r.2)
In_names S root (Node π cs ∷ ts) ns i = by (same π root) refl i (λ j. let r = In_names S root ts ns j in (r.0, inr r.1, r.2))
  where
    by : (b : Bool) → same π root ≡ b → In ns (cond b (names_at S cs ∷ names_of_root S root ts) (names_of_root S root ts))
        → (In ns (names_of_root S root ts) → (ds : List ℕ) × In (Node root ds) (Node π cs ∷ ts) × (ns ≡ names_at S ds)) → (ds : List ℕ) × In (Node root ds) (Node π cs ∷ ts) × (ns ≡ names_at S ds)
    by true e (inl q) later = (cs, inl (ap (λ (p : List ℕ). Node p cs) (sym (word_same π root e))), q)
    by true e (inr j) later = later j
    by false e j later = later j

pub names_In : (S : System) (root cs : List ℕ) (ts : List Term) → In (Node root cs) ts → In (names_at S cs) (names_of_root S root ts)
names_In S root cs [] i = absurd i
names_In S root cs (Point ∷ ts) (inl q) = absurd (let z : Node root cs ≡ Point = q in cc)
names_In S root cs (Point ∷ ts) (inr i) = names_In S root cs ts i
names_In S root cs (Node π ds ∷ ts) i = by (same π root) refl i (names_In S root cs ts)
  where
    by : (b : Bool) → same π root ≡ b → In (Node root cs) (Node π ds ∷ ts) → (In (Node root cs) ts → In (names_at S cs) (names_of_root S root ts)) → In (names_at S cs) (cond b (names_at S ds ∷ names_of_root S root ts) (names_of_root S root ts))
    by true e (inl q) later = inl (let z : cs ≡ ds = cc in ap (names_at S) z)
    by true e (inr j) later = inr (later j)
    by false e (inl q) later = let z : root ≡ π = cc in absurd (true≢false (sym (subst (λ p. same p root ≡ true) z (same_refl root)) ∙ e))
    by false e (inr j) later = later j

-- a term with this root whose children's names the blocks mean
abbrev pub MeansBy : System → List ℕ → List (List ℕ) → Term → Type 0
MeansBy S root αs Point = ⊥
MeansBy S root αs (Node π cs) = (π ≡ root) × MeanAt S cs αs

-- no two terms have that, where no two of the names are met
means_In : (S : System) (root : List ℕ) (αs : List (List ℕ)) (ts : List Term) (x : Term) → In x ts → MeansBy S root αs x → SomeIn (Covers αs 0) (names_of_root S root ts)
means_In S root αs ts Point i m = absurd m
means_In S root αs ts (Node π cs) i m = (names_at S cs, names_In S root cs ts (subst (λ p. In (Node p cs) ts) m.0 i), mean_covers S cs αs m.1)

pub terms_means_apart : (S : System) (root : List ℕ) (αs : List (List ℕ)) (ts : List Term) → Apart (Covers αs 0) (names_of_root S root ts) → Apart (MeansBy S root αs) ts
terms_means_apart S root αs [] a = tt
terms_means_apart S root αs (Point ∷ ts) a = (λ y i p q. p, terms_means_apart S root αs ts a)
terms_means_apart S root αs (Node π cs ∷ ts) a = by (same π root) refl a (terms_means_apart S root αs ts)
  where
    by : (b : Bool) → same π root ≡ b → Apart (Covers αs 0) (cond b (names_at S cs ∷ names_of_root S root ts) (names_of_root S root ts))
        → (Apart (Covers αs 0) (names_of_root S root ts) → Apart (MeansBy S root αs) ts) → Apart (MeansBy S root αs) (Node π cs ∷ ts)
    by true e a later = (
      λ y i p q. let r = means_In S root αs ts y i q in a.0 r.0 r.1 (mean_covers S cs αs p.1) r.2,
      later a.1,
    )
    by false e a later = (
      λ y i p q. true≢false (sym (subst (λ x. same π x ≡ true) p.0 (same_refl π)) ∙ e),
      later a,
    )

-- the points
abbrev pub IsPoint : Term → Type 0
IsPoint Point = Unit {0}
IsPoint (Node root cs) = ⊥

pub point_counts : (ts : List Term) (x : Term) → In x ts → IsPoint x → 1 ≤ count_points ts
point_counts [] x i p = absurd i
point_counts (Point ∷ ts) x i p = omega arith
point_counts (Node root cs ∷ ts) x (inl e) p = absurd (subst IsPoint e p)
point_counts (Node root cs ∷ ts) x (inr i) p = point_counts ts x i p

pub points_apart : (ts : List Term) → count_points ts ≤ 1 → Apart IsPoint ts
points_apart [] h = tt
points_apart (Point ∷ ts) h = (λ y i p q. omega (arith, point_counts ts y i q), points_apart ts (omega arith))
points_apart (Node root cs ∷ ts) h = (λ y i p q. p, points_apart ts h)

pub some_point : (ts : List Term) → 1 ≤ count_points ts → In Point ts
some_point [] h = absurd (omega arith)
some_point (Point ∷ ts) h = inl refl
some_point (Node root cs ∷ ts) h = inr (some_point ts h)

-- how many points are due
pub due_most : (b : Bool) → cond {A = ℕ} b 1 0 ≤ 1
due_most true = omega arith
due_most false = omega arith

pub due_some : (b : Bool) → 1 ≤ cond {A = ℕ} b 1 0 → b ≡ true
due_some true h = refl
due_some false h = absurd (omega arith)
