-- The place of a word in the list of trees, and that ranking and unranking are inverse.
use Rattle.std.proofs.Common.{◌≡◌, ℕ, ◌<◌, ◌≤◌, ◌^◌, Bool, true, false, List, [], map, length, get_or, refl, sym, ap, ◌∙◌, subst, arith, Option, Some, slice_get, nat_lt, if◌then◌else◌}
use Rattle.std.specs.Option.{option_map}
use Rattle.std.proofs.lemmas.Bool.{ltb-true, ltb-false}
use Rattle.std.proofs.lemmas.List.{get_or-map, length-map}
use Rattle.std.proofs.lemmas.Option.{slice_get_within, get_or_from_slice_get, slice_get-get_or, slice_get-map}
use Rattle.av_perm.proofs.ListLaws.{once_place, get_In}
use Rattle.av_sys.specs.declared.terms.System.{System}
use Rattle.av_sys.specs.Terms.{IsWellFormed}
use Rattle.av_sys.specs.Trees.{Tree, none, value}
use Rattle.av_sys.specs.TreeLists.{trees, members}
use Rattle.av_sys.specs.Exact.{MeansAt, NamedUpTo}
use Rattle.av_sys.specs.Laws.{IsTreeOfSize}
use Rattle.av_sys.proofs.TreesOnce.{trees_law}
use Rattle.av_count.specs.declared.count.Count.{Count}
use Rattle.av_count.specs.declared.count.Count.TheVariants.{Known, Over}
use Rattle.av_count.specs.Counts.{capped}
use Rattle.av_sys.specs.TreeLists.{members_at, count_at}
use Rattle.av_tree.specs.declared.ranking.Ranked.{Ranked}
use Rattle.av_tree.specs.declared.ranking.Ranked.TheVariants.{At, Big, Stranger}
use Rattle.av_tree.specs.Picks.{RankedAt}
use Rattle.av_tree.specs.Ranks.{IsPlaceOf, IsStranger, IsRanked}
use Rattle.av_tree.specs.Laws.{InverseLaw, PlacesLaw}
use Rattle.av_tree.proofs.TreeWords.{tree_word}

-- what stands in the list of trees is a tree of the size
pub listed_tree : (S : System) → IsWellFormed S → (n r : ℕ) (T : Tree) → slice_get (trees S 0 n) r ≡ Some T → IsTreeOfSize S 0 n T
listed_tree S w n r T e = ((trees_law S 0 n w).listed.members T).0 (get_In (trees S 0 n) r T e)

-- the place at which a word stands in the list of words
word_place : (S : System) (w : List ℕ) (r : ℕ) → IsWellFormed S → NamedUpTo S (length w) → r < count_at S 0 (length w) → get_or (members_at S 0 (length w)) r [] ≡ w → IsPlaceOf S w r
unfolding members_at count_at
word_place S w r formed named h e =
    let d : Tree = record { term = 0; subtrees = none } in
    let at : slice_get (trees S 0 (length w)) r ≡ Some (get_or (trees S 0 (length w)) r d) = slice_get-get_or (trees S 0 (length w)) r d h in
    let q : value S 0 (get_or (trees S 0 (length w)) r d) ≡ w = sym (get_or-map (value S 0) (trees S 0 (length w)) r d [] h) ∙ e in
    record {
      tree = get_or (trees S 0 (length w)) r d;
      listed = at;
      is = q;
      only = λ s other there p.
          let a = listed_tree S formed (length w) r (get_or (trees S 0 (length w)) r d) at in
          let b = listed_tree S formed (length w) s other there in
          let same = named.once 0 other (get_or (trees S 0 (length w)) r d) b.tree a.tree (omega (arith, b.sized)) (omega (arith, a.sized)) (p ∙ sym q) in
          once_place (trees S 0 (length w)) s r (get_or (trees S 0 (length w)) r d) (trees_law S 0 (length w) formed).listed.once (there ∙ ap (λ (T : Tree). Some T) same) at;
    }

-- a word that doesn't mean the name of equation 0 is a stranger
pub stranger : (S : System) (w : List ℕ) → IsWellFormed S → NamedUpTo S (length w) → (MeansAt S 0 w → ⊥) → IsStranger S w
stranger S w formed named f T v e =
    let x = tree_word S formed 0 T v in
    let l = ap (λ (y : List ℕ). length y) e in
    f (subst (MeansAt S 0) e (named.sound 0 T v (omega (arith, x.long))).0)

-- a known count is the number
known_is : (n r : ℕ) → Known r ≡ capped n → (r ≡ n) × (n < 2 ^ 128)
unfolding capped
known_is n r e = by (nat_lt n (2 ^ 128)) refl e
  where
    by : (b : Bool) → nat_lt n (2 ^ 128) ≡ b → Known r ≡ (if b then Known n else Over) → (r ≡ n) × (n < 2 ^ 128)
    by true q f = (cc, ltb-true n (2 ^ 128) q)
    by false q f = absurd (cc)

-- the count is over only where the number is
over_is : (n : ℕ) → Over ≡ capped n → 2 ^ 128 ≤ n
unfolding capped
over_is n e = by (nat_lt n (2 ^ 128)) refl e
  where
    by : (b : Bool) → nat_lt n (2 ^ 128) ≡ b → Over ≡ (if b then Known n else Over) → 2 ^ 128 ≤ n
    by true q f = absurd (cc)
    by false q f = ltb-false n (2 ^ 128) q

-- a known place is the answer
pub ranked_known : (S : System) (w : List ℕ) (count : Count) (r : ℕ) → IsWellFormed S → NamedUpTo S (length w) → RankedAt S 0 (length w) w count → count ≡ Known r → IsRanked S w (At r)
ranked_known S w count r formed named h e =
    let k = known_is h.place r (sym e ∙ h.is) in
    (omega (arith, k), subst (IsPlaceOf S w) (sym k.0) (word_place S w h.place formed named h.within h.entry))

-- a place that is over is too big
pub ranked_over : (S : System) (w : List ℕ) (count : Count) → IsWellFormed S → NamedUpTo S (length w) → RankedAt S 0 (length w) w count → count ≡ Over → IsRanked S w Big
ranked_over S w count formed named h e = (h.place, over_is h.place (sym e ∙ h.is), word_place S w h.place formed named h.within h.entry)

-- the tree behind a listed word
pub record HasListed (S : System) (w : List ℕ) (r : ℕ) : Type 0 where
  pub tree : Tree
  pub at : slice_get (trees S 0 (length w)) r ≡ Some tree
  pub is : value S 0 tree ≡ w

-- so there is one for each listed word
pub listed_word : (S : System) (w : List ℕ) (r : ℕ) → slice_get (members S (length w)) r ≡ Some w → HasListed S w r
unfolding members members_at
listed_word S w r e =
    let d : Tree = record { term = 0; subtrees = none } in
    let h : r < length (trees S 0 (length w)) = omega (arith, slice_get_within (map (value S 0) (trees S 0 (length w))) r w e, length-map (trees S 0 (length w)) (value S 0)) in
    record {
      tree = get_or (trees S 0 (length w)) r d;
      at = slice_get-get_or (trees S 0 (length w)) r d h;
      is = sym (get_or-map (value S 0) (trees S 0 (length w)) r d [] h) ∙ get_or_from_slice_get (map (value S 0) (trees S 0 (length w))) r w [] e;
    }

-- a word stands at its place
pub place_listed : (S : System) (w : List ℕ) (r : ℕ) → IsPlaceOf S w r → slice_get (members S (length w)) r ≡ Some w
unfolding members members_at
place_listed S w r p =
    slice_get-map (value S 0) (trees S 0 (length w)) r ∙ ap (λ (o : Option Tree). option_map (value S 0) o) p.listed ∙ ap (λ (v : List ℕ). Some v) p.is

-- below 2 ^ 128 ranking and unranking are inverse
pub inverse_law : InverseLaw
inverse_law S w answer r formed named h small = (
  λ e. place_listed S w r (subst (IsRanked S w) e h).1,
  λ e. by answer h (listed_word S w r e),
)
  where
    by : (answer : Ranked) → IsRanked S w answer → HasListed S w r → answer ≡ At r
    by (At s) k l = ap (λ (n : ℕ). At n) (sym (k.1.only r l.tree l.at l.is))
    by Big k l = absurd (let e = k.2.only r l.tree l.at l.is in omega (arith, k.1))
    by Stranger k l = absurd (k l.tree (listed_tree S formed (length w) r l.tree l.at).tree l.is)

-- two words of one length at one place are the same
pub places_law : PlacesLaw
places_law S v w r a b e =
    let f : Some v ≡ Some w = sym (place_listed S v r a.1) ∙ ap (λ n. slice_get (members S n) r) e ∙ place_listed S w r b.1 in
    cc
