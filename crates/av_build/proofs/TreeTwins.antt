-- Two equations whose trees have the same list of values at every size have the same trees but for their shape: each tree has
-- one twin, of the same size and the same value.
use Rattle.std.proofs.Common.{◌≡◌, ℕ, List, length, slice_get, Some, refl, sym, ◌∙◌, ap, subst, arith}
use Rattle.std.proofs.lemmas.List.{length-map}
use Rattle.std.proofs.lemmas.Option.{slice_get_within}
use Rattle.av_perm.proofs.ListLaws.{get_In, get_within, once_place}
use Rattle.av_sys.specs.declared.terms.System.{System}
use Rattle.av_sys.specs.Terms.{IsWellFormed}
use Rattle.av_sys.specs.Trees.{Tree, IsTree, size, value}
use Rattle.av_sys.specs.TreeLists.{trees, members_at}
use Rattle.av_sys.specs.Laws.{IsTreeOfSize}
use Rattle.av_sys.proofs.TreesOnce.{trees_law}
use Rattle.av_build.specs.LeanLaws.{AreTwins, HasSameTrees}
use Rattle.av_build.proofs.Growing.{In_get}
use Rattle.av_build.proofs.ListPlaces.{get_map}

-- the trees of a list have values, and no more
length_members : (S : System) (u n : ℕ) → length (members_at S u n) ≡ length (trees S u n)
unfolding members_at
length_members S u n = length-map (trees S u n) (value S u)

value_member : (S : System) (u n i : ℕ) (T : Tree) → slice_get (trees S u n) i ≡ Some T → slice_get (members_at S u n) i ≡ Some (value S u T)
unfolding members_at
value_member S u n i T e = get_map (value S u) (trees S u n) i T e

-- what is listed is a tree of the size
listed_tree : (S : System) (u n i : ℕ) (T : Tree) → IsWellFormed S → slice_get (trees S u n) i ≡ Some T → IsTreeOfSize S u n T
listed_tree S u n i T w e = ((trees_law S u n w).listed.members T).0 (get_In (trees S u n) i T e)

-- and each tree is listed
tree_listed : (S : System) (u : ℕ) (T : Tree) → IsWellFormed S → IsTree S u T → (i : ℕ) × (slice_get (trees S u (size T)) i ≡ Some T)
tree_listed S u T w t = In_get (trees S u (size T)) T (((trees_law S u (size T) w).listed.members T).1 (record { tree = t; sized = refl }))

-- at one place of one list
one_place : (S : System) (u n m i j : ℕ) (T : Tree) → IsWellFormed S → slice_get (trees S u n) i ≡ Some T → slice_get (trees S u m) j ≡ Some T → (n ≡ m) × (i ≡ j)
one_place S u n m i j T w e f = (same, once_place (trees S u m) i j T (trees_law S u m w).listed.once (subst (λ k. slice_get (trees S u k) i ≡ Some T) same e) f)
  where
    same : n ≡ m
    same = sym (listed_tree S u n i T w e).sized ∙ (listed_tree S u m j T w f).sized

-- trees at one place of one list are one tree
place_one : (S : System) (u n m i j : ℕ) (T U : Tree) → n ≡ m → i ≡ j → slice_get (trees S u n) i ≡ Some T → slice_get (trees S u m) j ≡ Some U → T ≡ U
place_one S u n m i j T U p q e f = some_one T U (sym e ∙ ap (λ k. slice_get (trees S u k) i) p ∙ ap (slice_get (trees S u m)) q ∙ f)
  where
    some_one : (T U : Tree) → Some T ≡ Some U → T ≡ U
    some_one T U e = cc

-- twins
pub same_trees : (S R : System) (u v : ℕ) → IsWellFormed S → IsWellFormed R → ((n : ℕ) → members_at R v n ≡ members_at S u n) → HasSameTrees S u R v
same_trees S R u v ws wr same = record {
  alike = λ T U t.
      let new = listed_tree R v t.points t.place T wr t.new in
      let old = listed_tree S u t.points t.place U ws t.old in
      record {
        new = new.tree;
        old = old.tree;
        sized = new.sized ∙ sym old.sized;
        valued =
            some_one (value R v T) (value S u U)
            (sym (value_member R v t.points t.place T t.new) ∙ ap (λ l. slice_get l t.place) (same t.points) ∙ value_member S u t.points t.place U t.old);
      };
  there = λ T t.
      let i = tree_listed R v T wr t in
      let U = get_within (trees S u (size T)) i.0 (omega (arith, slice_get_within (trees R v (size T)) i.0 T i.1, lengths (size T))) in
      (U.0, record { points = size T; place = i.0; new = i.1; old = U.1 });
  back = λ U t.
      let i = tree_listed S u U ws t in
      let T = get_within (trees R v (size U)) i.0 (omega (arith, slice_get_within (trees S u (size U)) i.0 U i.1, lengths (size U))) in
      (T.0, record { points = size U; place = i.0; new = T.1; old = i.1 });
  one_there = λ T U V a b.
      let p = one_place R v a.points b.points a.place b.place T wr a.new b.new in
      place_one S u a.points b.points a.place b.place U V p.0 p.1 a.old b.old;
  one_back = λ T V U a b.
      let p = one_place S u a.points b.points a.place b.place U ws a.old b.old in
      place_one R v a.points b.points a.place b.place T V p.0 p.1 a.new b.new;
}
  where
    lengths : (n : ℕ) → length (trees R v n) ≡ length (trees S u n)
    lengths n = sym (length_members R v n) ∙ ap length (same n) ∙ length_members S u n

    some_one : (w x : List ℕ) → Some w ≡ Some x → w ≡ x
    some_one w x e = cc

-- a tree of the equation with as many points as the word has entries, and the word for its value
abbrev pub HasTreeOf : System → ℕ → List ℕ → Type 0
HasTreeOf S u σ = (T : Tree) × IsTree S u T × (size T ≡ length σ) × (value S u T ≡ σ)

-- trees whose sizes are of a kind are equal where their values are
abbrev pub IsToldByValue : System → ℕ → (ℕ → Type 0) → Type 0
IsToldByValue S u B = (T U : Tree) → IsTree S u T → IsTree S u U → B (size T) → B (size U) → value S u T ≡ value S u U → T ≡ U

-- the trees of two equations correspond
module _ (S R : System) (u v : ℕ) (h : HasSameTrees S u R v) where
  -- what is so of the size and the value of each tree of one is so of each of the other
  pub same_sound : (A : ℕ → List ℕ → Type 0) → ((T : Tree) → IsTree S u T → A (size T) (value S u T)) → (T : Tree) → IsTree R v T → A (size T) (value R v T)
  same_sound A s T t =
      let U = h.there T t in
      let a = h.alike T U.0 U.1 in
      subst (λ n. A n (value R v T)) (sym a.sized) (subst (A (size U.0)) (sym a.valued) (s U.0 a.old))

  -- a word that one makes the other makes
  pub same_complete : (σ : List ℕ) → HasTreeOf S u σ → HasTreeOf R v σ
  same_complete σ U =
      let T = h.back U.0 U.1 in
      let a = h.alike T.0 U.0 T.1 in
      (T.0, a.new, a.sized ∙ U.2, a.valued ∙ U.3)

  -- and each once where the other makes each once
  pub same_once : (B : ℕ → Type 0) → IsToldByValue S u B → IsToldByValue R v B
  same_once B o T V t w first second e =
      let U = h.there T t in
      let W = h.there V w in
      let a = h.alike T U.0 U.1 in
      let b = h.alike V W.0 W.1 in
      let one : U.0 ≡ W.0 = o U.0 W.0 a.old b.old (subst B a.sized first) (subst B b.sized second) (sym a.valued ∙ e ∙ b.valued) in
      h.one_back T V W.0 (subst (λ x. AreTwins S u R v T x) one U.1) W.1

-- the values of the trees of an equation are the words of a set, each as long as its tree has points, and each of one tree
pub record Generates (S : System) (u : ℕ) (P : List ℕ → Type 0) : Type 0 where
  pub sound : (T : Tree) → IsTree S u T → P (value S u T) × (length (value S u T) ≡ size T)
  pub complete : (σ : List ℕ) → P σ → HasTreeOf S u σ
  pub once : (T U : Tree) → IsTree S u T → IsTree S u U → value S u T ≡ value S u U → T ≡ U

-- where the trees of two equations correspond, both generate the same sets
pub same_generates : (S R : System) (u v : ℕ) → HasSameTrees S u R v → (P : List ℕ → Type 0) → Generates S u P → Generates R v P
same_generates S R u v h P g = record {
  sound = same_sound S R u v h (λ n σ. P σ × (length σ ≡ n)) g.sound;
  complete = λ σ p. same_complete S R u v h σ (g.complete σ p);
  once = λ T U t w e. same_once S R u v h (λ n. Unit {0}) (λ T U t w a b. g.once T U t w) T U t w tt tt e;
}
