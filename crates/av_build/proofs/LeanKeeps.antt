-- What the lean system keeps: names, members, trees, and that each equation generates what its name says; and that all its
-- equations but equation 0 are alive.
use Rattle.std.proofs.Common.{◌≡◌, ℕ, ◌≤◌, List, map, length, slice_get, true, Option, Some, None, refl, sym, ap, subst, arith}
use Rattle.std.proofs.lemmas.List.{length-map}
use Rattle.av_perm.specs.Members.{In}
use Rattle.av_perm.proofs.Membership.{In_map}
use Rattle.av_perm.proofs.ListLaws.{get_In, get_within}
use Rattle.av_sys.specs.declared.terms.Term.{Term}
use Rattle.av_sys.specs.declared.terms.Term.TheVariants.{Point, Node}
use Rattle.av_sys.specs.declared.terms.Equation.{Equation}
use Rattle.av_sys.specs.declared.terms.System.{System}
use Rattle.av_sys.specs.Names.{Means}
use Rattle.av_sys.specs.Terms.{terms_of, terms_at, children_of, IsWellFormed}
use Rattle.av_sys.specs.Trees.{Tree, IsTree, value}
use Rattle.av_sys.specs.TreeLists.{members}
use Rattle.av_sys.specs.Exact.{MeansOf, MeansAt, NamedUpTo}
use Rattle.av_sys.proofs.Subtrees.{tree_equation}
use Rattle.av_build.specs.Alive.{IsAlive, alive}
use Rattle.av_build.specs.Lean.{live_terms, used, place_of, renumbered, name_of, lean_equation, kept, lean}
use Rattle.av_build.specs.LeanLaws.{StemsFrom, KeptLaw, LeanMembersLaw, LeanAliveLaw, HasSameTrees, LeanTreesLaw, LeanNamedLaw}
use Rattle.av_build.proofs.AliveMarks.{alive_tree}
use Rattle.av_build.proofs.ListPlaces.{get_map, map_get}
use Rattle.av_build.proofs.FoundNumbers.{place_at}
use Rattle.av_build.proofs.KeptEquations.{child_alive, child_used, kept_numbering, numbering_first, numbering_once, numbering_within, numbering_closed, numbering_alive}
use Rattle.av_build.proofs.LeanValues.{lean_terms, members_kept}
use Rattle.av_build.proofs.LeanForm.{lean_formed}
use Rattle.av_build.proofs.TreeTwins.{same_trees, same_sound, same_complete, same_once}

module _ (S : System) (form : IsWellFormed S) where
  -- what the equations that are kept use is kept
  closed : (u : ℕ) → In u (kept S) → (c : ℕ) → In c (used S u) → In c (kept S)
  closed = numbering_closed S (kept S) (kept_numbering S form.some)

  -- the name and the trees of an equation that is kept
  pub stems : (v u : ℕ) → slice_get (kept S) v ≡ Some u → StemsFrom S v u
  stems v u e =
      let within = numbering_within S form.some (kept S) (kept_numbering S form.some) u (get_In (kept S) v u e) in
      let old = get_within S.equations u within in
      record {
        old = old.0;
        new = lean_equation S (kept S) u;
        at_old = old.1;
        at_new = get_map (lean_equation S (kept S)) (kept S) v u e;
        named = ap name_of old.1;
        values = λ n. members_kept S form (kept S) closed v u n e;
      }

  -- so its trees correspond to those that it had
  pub trees_kept : (v u : ℕ) → slice_get (kept S) v ≡ Some u → HasSameTrees S u (lean S) v
  trees_kept v u e = same_trees S (lean S) u v form (lean_formed S form (kept S) (kept_numbering S form.some)) (λ n. members_kept S form (kept S) closed v u n e)

  -- it is alive where it was
  alive_kept : (v u : ℕ) → slice_get (kept S) v ≡ Some u → alive S u ≡ true → IsAlive (lean S) v
  alive_kept v u e a =
      let U = alive_tree S u a in
      let h = trees_kept v u e in
      let T = h.back U.0 U.1 in
      (T.0, (h.alike T.0 U.0 T.1).new)

  -- an equation of the lean system is one that is kept
  stem : (v : ℕ) (e : Equation) → slice_get (lean S).equations v ≡ Some e → (u : ℕ) × (slice_get (kept S) v ≡ Some u)
  stem v e q = let r = map_get (lean_equation S (kept S)) (kept S) v e q in (r.0, r.1)

  -- a term of the lean system is a live one with new numbers
  old_term : (v : ℕ) (t : Term) → In t (terms_at (lean S) v) → (u : ℕ) × (slice_get (kept S) v ≡ Some u) × In t (map (renumbered (kept S)) (live_terms S u))
  old_term v t i = by (slice_get (lean S).equations v) refl i
    where
      by : (o : Option Equation) → slice_get (lean S).equations v ≡ o → In t (terms_of o) → (u : ℕ) × (slice_get (kept S) v ≡ Some u) × In t (map (renumbered (kept S)) (live_terms S u))
      by None q j = absurd j
      by (Some e) q j = let u = stem v e q in (u.0, u.1, subst (In t) (lean_terms S (kept S) v u.0 u.1) i)

  -- its children are the live term's, with new numbers
  old_child : (found : List ℕ) (t : Term) (d : ℕ) → In d (children_of (Some (renumbered found t))) → (c : ℕ) × In c (children_of (Some t)) × (d ≡ place_of found c)
  old_child found Point d i = absurd i
  old_child found (Node root cs) d i = In_map (place_of found) cs d i

  -- so they are alive
  children_alive : (v : ℕ) (t : Term) (d : ℕ) → In t (terms_at (lean S) v) → In d (children_of (Some t)) → IsAlive (lean S) d
  children_alive v t d it id =
      let u = old_term v t it in
      let r = In_map (renumbered (kept S)) (live_terms S u.0) t u.2 in
      let c = old_child (kept S) r.0 d (subst (λ x. In d (children_of (Some x))) r.2 id) in
      let there = closed u.0 (get_In (kept S) v u.0 u.1) c.0 (child_used S u.0 c.0 r.0 r.1 c.1) in
      subst (IsAlive (lean S)) (sym c.2) (alive_kept (place_of (kept S) c.0) c.0 (place_at (kept S) c.0 there) (child_alive S u.0 c.0 r.0 r.1 c.1))

  -- a word means the name of an equation of the lean system where it meant it before
  means_old : (v u : ℕ) (σ : List ℕ) → StemsFrom S v u → MeansAt (lean S) v σ → MeansAt S u σ
  means_old v u σ s m =
      subst (λ o. MeansOf o σ) (sym s.at_old) (subst (λ n. Means n σ) s.named (subst (λ o. MeansOf o σ) s.at_new m))

  -- and no other word does
  means_new : (v u : ℕ) (σ : List ℕ) → StemsFrom S v u → MeansAt S u σ → MeansAt (lean S) v σ
  means_new v u σ s m =
      subst (λ o. MeansOf o σ) (sym s.at_new) (subst (λ n. Means n σ) (sym s.named) (subst (λ o. MeansOf o σ) s.at_old m))

  -- an equation with a tree, or a word that means its name, is one that is kept
  tree_stem : (v : ℕ) (T : Tree) → IsTree (lean S) v T → (u : ℕ) × (slice_get (kept S) v ≡ Some u)
  tree_stem v T t = let e = tree_equation (lean S) v T t in stem v e.0 e.1

  means_stem : (v : ℕ) (σ : List ℕ) → MeansAt (lean S) v σ → (u : ℕ) × (slice_get (kept S) v ≡ Some u)
  means_stem v σ m = by (slice_get (lean S).equations v) refl m
    where
      by : (o : Option Equation) → slice_get (lean S).equations v ≡ o → MeansOf o σ → (u : ℕ) × (slice_get (kept S) v ≡ Some u)
      by None q k = absurd k
      by (Some e) q k = stem v e q

  -- so each equation generates what its name says where it did before
  named_kept : (m : ℕ) → NamedUpTo S m → NamedUpTo (lean S) m
  named_kept m h = record {
    sound = λ v T t small.
        let u = tree_stem v T t in
        let old = same_sound S (lean S) u.0 v (trees_kept v u.0 u.1) (λ n σ. n ≤ m → MeansAt S u.0 σ × (length σ ≡ n)) (h.sound u.0) T t small in
        (means_new v u.0 (value (lean S) v T) (stems v u.0 u.1) old.0, old.1);
    complete = λ v σ k small.
        let u = means_stem v σ k in
        same_complete S (lean S) u.0 v (trees_kept v u.0 u.1) σ (h.complete u.0 σ (means_old v u.0 σ (stems v u.0 u.1) k) small);
    once = λ v T V t w.
        let u = tree_stem v T t in
        same_once S (lean S) u.0 v (trees_kept v u.0 u.1) (λ n. n ≤ m) (h.once u.0) T V t w;
  }

-- the laws
pub kept_law : KeptLaw
kept_law S form =
    let numbering = kept_numbering S form.some in
    record {
      first = numbering_first S (kept S) numbering;
      once = numbering_once S (kept S) numbering;
      count = length-map (kept S) (lean_equation S (kept S));
      stems = stems S form;
    }

pub lean_members_law : LeanMembersLaw
unfolding members
lean_members_law S n form = (stems S form 0 0 (numbering_first S (kept S) (kept_numbering S form.some))).values n

pub lean_alive_law : LeanAliveLaw
lean_alive_law S form = record {
  equations = λ v h l.
      let u = get_within (kept S) v (omega (arith, l, length-map (kept S) (lean_equation S (kept S)))) in
      alive_kept S form v u.0 u.1 (numbering_alive S (kept S) (kept_numbering S form.some) v u.0 h u.1);
  children = children_alive S form;
}

pub lean_trees_law : LeanTreesLaw
lean_trees_law S v u form e = trees_kept S form v u e

pub lean_named_law : LeanNamedLaw
lean_named_law S form = record { up_to = named_kept S form; always = λ h m. named_kept S form m (h m) }
