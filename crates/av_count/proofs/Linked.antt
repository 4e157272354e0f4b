-- Links, and what they stand for.
use Rattle.std.proofs.Common.{◌≡◌, ◌≢◌, ◌⊎◌, inl, inr, ℕ, zero, suc, ◌<◌, ◌≤◌, ◌+◌, ◌-◌, List, [], ◌∷◌, ◌++◌, length, drop, refl, sym, ◌∙◌, ap, subst, arith, Option, Some, None, slice_get, length-append}
use Rattle.std.proofs.lemmas.Option.{slice_get_within}
use Rattle.av_perm.proofs.Membership.{at_In}
use Rattle.av_sys.specs.declared.terms.Term.{Term}
use Rattle.av_sys.specs.declared.terms.Term.TheVariants.{Point, Node}
use Rattle.av_sys.specs.declared.terms.System.{System}
use Rattle.av_sys.specs.Terms.{terms_at, term_at, IsWellFormed}
use Rattle.av_sys.specs.TreeLists.{count_at}
use Rattle.av_count.specs.declared.links.Rest.{Rest}
use Rattle.av_count.specs.declared.links.Rest.TheVariants.{Last, More}
use Rattle.av_count.specs.declared.links.Link.{Link}
use Rattle.av_count.specs.Links.{IsRest, IsLinkOf, AreNumbers, AreLinks, Keeps, Joins, AddsRest, AddsNode, IsHead, AreHeads, AreNodes, AddsHead, AddsHeads}
use Rattle.av_count.proofs.NodeForms.{node_form}
use Rattle.av_count.specs.Choices.{ways}
use Rattle.av_count.specs.Members.{subtree_lists, tail_at}
use Rattle.av_count.specs.declared.count.Count.{Count}
use Rattle.av_count.specs.declared.layout.Layout.{Layout}
use Rattle.av_count.specs.Tables.{RowHolds, IsFilled}
use Rattle.av_count.proofs.Members.{length_subtrees}
use Rattle.av_count.proofs.Filled.{push_each, TailRow, rest_row, rest_within, row_of, children_is}

-- links that keep their numbers stand for what they stood for
rest_kept : (old new : List Link) → Keeps old new → (cs : List ℕ) (r : Rest) → IsRest old cs r → IsRest new cs r
rest_kept old new k [] r h = absurd h
rest_kept old new k (c ∷ cs) (Last e) h = h
rest_kept old new k (c ∷ cs) (More i) h = (h.0, k i h.0 h.1, h.2, rest_kept old new k cs h.0.rest h.3)

node_kept : (old new : List Link) → Keeps old new → (cs : List ℕ) (l : Link) → IsLinkOf old cs l → IsLinkOf new cs l
node_kept old new k [] l h = absurd h
node_kept old new k (c ∷ cs) l h = (h.0, rest_kept old new k cs l.rest h.1)

head_kept : (old new : List Link) → Keeps old new → (o : Option Term) (x : Option Link) → IsHead old o x → IsHead new o x
head_kept old new k None None h = absurd h
head_kept old new k None (Some l) h = absurd h
head_kept old new k (Some Point) None h = tt
head_kept old new k (Some Point) (Some l) h = absurd h
head_kept old new k (Some (Node root cs)) None h = absurd h
head_kept old new k (Some (Node root cs)) (Some l) h = node_kept old new k cs l h

heads_kept : (S : System) (old new : List Link) (u s : ℕ) (heads : List (Option Link)) → Keeps old new → AreHeads S old u s heads → AreHeads S new u s heads
heads_kept S old new u s heads k h = record { long = h.long; each = λ t lt. head_kept old new k (term_at S u t) _ (h.each t lt) }

-- each link still stands for some children, once one joined that does
links_joined : (equations : ℕ) (old new : List Link) (link : Link) (i : ℕ) → Joins old new link i → ((cs : List ℕ) × AreNumbers equations cs × IsLinkOf new cs link)
    → AreLinks equations old → AreLinks equations new
links_joined equations old new link i j n h k l e = by (j.only k l e)
  where
    by : ((l ≡ link) ⊎ (slice_get old k ≡ Some l)) → (cs : List ℕ) × AreNumbers equations cs × IsLinkOf new cs l
    by (inl q) = subst (λ x. (cs : List ℕ) × AreNumbers equations cs × IsLinkOf new cs x) (sym q) n
    by (inr o) = let p = h k l o in (p.0, p.1, node_kept old new j.kept p.0 l p.2)

-- the children from one on are that one and those after it
drop_next : (cs : List ℕ) (i c : ℕ) → slice_get cs i ≡ Some c → drop i cs ≡ c ∷ drop (i + 1) cs
drop_next [] i c e = absurd (let f : None ≡ Some c = e in cc)
drop_next (x ∷ cs) zero c e = let q : x ≡ c = cc in ap (λ y. y ∷ cs) q
drop_next (x ∷ cs) (suc i) c e = let q : suc i + 1 ≡ suc (i + 1) = omega arith in rw q (drop_next cs i c e)

-- none are left after the last
drop_past : (cs : List ℕ) (i : ℕ) → i ≡ length cs → drop i cs ≡ []
drop_past [] zero e = refl
drop_past [] (suc i) e = absurd (omega arith)
drop_past (x ∷ cs) zero e = absurd (omega arith)
drop_past (x ∷ cs) (suc i) e = drop_past cs i (omega arith)

-- the last child
pub adds_last : (links : List Link) (cs : List ℕ) (i c : ℕ) → slice_get cs i ≡ Some c → i + 1 ≡ length cs → AddsRest links links (drop i cs) (Last c)
adds_last links cs i c e last =
    subst (λ ds. AddsRest links links ds (Last c)) (sym (drop_next cs i c e))
    (record { kept = λ j l h. h; rest = (refl, drop_past cs (i + 1) last); links = λ equations n h. h })

-- a child before others
pub adds_more : (old mid new : List Link) (cs : List ℕ) (i c k : ℕ) (r : Rest) → slice_get cs i ≡ Some c → AddsRest old mid (drop (i + 1) cs) r
    → Joins mid new (record { first = c; rest = r }) k → AddsRest old new (drop i cs) (More k)
adds_more old mid new cs i c k r e a j =
    let after = rest_kept mid new j.kept (drop (i + 1) cs) r a.rest in
    subst (λ ds. AddsRest old new ds (More k)) (sym (drop_next cs i c e))
    (record {
      kept = λ m l h. j.kept m l (a.kept m l h);
      rest = (record { first = c; rest = r }, j.stored, refl, after);
      links = λ equations n h. links_joined equations mid new (record { first = c; rest = r }) k j (c ∷ drop (i + 1) cs, n, (refl, after)) (a.links equations (λ x m. n x (inr m)) h);
    })

-- the first child
pub adds_node : (old new : List Link) (cs : List ℕ) (c : ℕ) (r : Rest) → slice_get cs 0 ≡ Some c → AddsRest old new (drop 1 cs) r
    → AddsNode old new cs (record { first = c; rest = r })
adds_node old new [] c r e a = absurd (let f : None ≡ Some c = e in cc)
adds_node old new (x ∷ cs) c r e a = record {
  kept = a.kept;
  node = (let f : c ≡ x = cc in f, a.rest);
  links = λ equations n h. a.links equations (λ y m. n y (inr m)) h;
}

-- what a link's rest stands for, one child further
pub record IsAfter (links : List Link) (cs : List ℕ) (skip : ℕ) (r : Rest) : Type 0 where
  pub others : List ℕ
  pub stands : IsRest links others r
  pub within : skip - 1 < length others
  pub same : drop skip cs ≡ drop (skip - 1) others

pub after_more : (links : List Link) (cs : List ℕ) (i skip : ℕ) (l : Link) → IsRest links cs (More i) → slice_get links i ≡ Some l → skip < length cs → skip ≢ 0
    → IsAfter links cs skip l.rest
after_more links [] i skip l h e lt ne = absurd h
after_more links (c ∷ cs) i zero l h e lt ne = absurd (ne refl)
after_more links (c ∷ cs) i (suc skip) l h e lt ne =
    let q : h.0 ≡ l = let f = sym h.1 ∙ e in some_same f in
    let k : skip ≡ suc skip - 1 = omega arith in
    record { others = cs; stands = subst (λ x. IsRest links cs x.rest) q h.3; within = omega arith; same = ap (λ j. drop j cs) k }
  where
    some_same : {x y : Link} → Some x ≡ Some y → x ≡ y
    some_same f = cc

-- the first of some children
pub more_known : (links : List Link) (cs : List ℕ) (i : ℕ) → IsRest links cs (More i) → i < length links
more_known links [] i h = absurd h
more_known links (c ∷ cs) i h = slice_get_within links i h.0 h.1

-- the link with the number of a rest stands for the same children
pub at_link : (links : List Link) (cs : List ℕ) (i : ℕ) (l : Link) → slice_get links i ≡ Some l → IsRest links cs (More i) → IsLinkOf links cs l
at_link links [] i l e h = absurd h
at_link links (c ∷ cs) i l e h =
    let q : h.0 ≡ l = some_same (sym h.1 ∙ e) in subst (λ x. (x.first ≡ c) × IsRest links cs x.rest) q (h.2, h.3)
  where
    some_same : {x y : Link} → Some x ≡ Some y → x ≡ y
    some_same f = cc

-- the rest of a link's children
pub record HasRest (equations : ℕ) (links : List Link) (cs : List ℕ) (l : Link) : Type 0 where
  pub others : List ℕ
  pub numbers : AreNumbers equations others
  pub stands : IsRest links others l.rest
  pub long : length cs ≡ suc (length others)
  pub same : (k : ℕ) → 1 ≤ k → drop k cs ≡ drop (k - 1) others

pub has_rest : (equations : ℕ) (links : List Link) (cs : List ℕ) (l : Link) → AreNumbers equations cs → IsLinkOf links cs l → HasRest equations links cs l
has_rest equations links [] l n h = absurd h
has_rest equations links (c ∷ cs) l n h = record { others = cs; numbers = λ y i. n y (inr i); stands = h.1; long = refl; same = less }
  where
    less : (k : ℕ) → 1 ≤ k → drop k (c ∷ cs) ≡ drop (k - 1) cs
    less zero le = absurd (omega arith)
    less (suc k) le = let e : k ≡ suc k - 1 = omega arith in ap (λ j. drop j cs) e

-- a term without children is a point
pub head_none : (links : List Link) (o : Option Term) → IsHead links o None → o ≡ Some Point
head_none links None h = absurd h
head_none links (Some Point) h = refl
head_none links (Some (Node root cs)) h = absurd h

-- a term with children is a node
pub record HasNode (links : List Link) (o : Option Term) (l : Link) : Type 0 where
  pub root : List ℕ
  pub children : List ℕ
  pub is : o ≡ Some (Node root children)
  pub node : IsLinkOf links children l

pub head_some : (links : List Link) (o : Option Term) (l : Link) → IsHead links o (Some l) → HasNode links o l
head_some links None l h = absurd h
head_some links (Some Point) l h = absurd h
head_some links (Some (Node root cs)) l h = record { root = root; children = cs; is = refl; node = h }

-- the children of a node are equations
pub node_numbers : (S : System) (u t : ℕ) (root cs : List ℕ) → IsWellFormed S → term_at S u t ≡ Some (Node root cs) → AreNumbers (length S.equations) cs
node_numbers S u t root cs w e c i =
    let r = at_In cs c 0 i in subst (λ x. x < length S.equations) r.2 ((node_form S u t root cs w e).known r.0 r.1)

-- a node has them
pub adds_head : (S : System) (u t : ℕ) (root cs : List ℕ) (old new : List Link) (l : Link) → IsWellFormed S → term_at S u t ≡ Some (Node root cs)
    → AreLinks (length S.equations) old → AddsNode old new cs l → AddsHead S u t old new (Some l)
adds_head S u t root cs old new l w e h a = record {
  kept = a.kept;
  head = subst (λ o. IsHead new o (Some l)) (sym e) a.node;
  links = a.links (length S.equations) (node_numbers S u t root cs w e) h;
}

-- one term more
pub heads_more : (S : System) (old new : List Link) (u s : ℕ) (heads : List (Option Link)) (o : Option Link) → AreHeads S old u s heads → AddsHead S u s old new o
    → AreHeads S new u (s + 1) (heads ++ o ∷ [])
heads_more S old new u s heads o h a = record {
  long = length-append heads (o ∷ []) ∙ ap (λ k. k + 1) h.long;
  each = push_each (λ t x. IsHead new (term_at S u t) x) heads s o None h.long a.head (heads_kept S old new u s heads a.kept h).each;
}

-- one equation more
pub nodes_more : (S : System) (old new : List Link) (s : ℕ) (nodes : List (List (Option Link))) (heads : List (Option Link)) → AreNodes S old s nodes → AddsHeads S s old new heads
    → AreNodes S new (s + 1) (nodes ++ heads ∷ [])
nodes_more S old new s nodes heads h a = record {
  long = length-append nodes (heads ∷ []) ∙ ap (λ k. k + 1) h.long;
  each = push_each (λ u hs. AreHeads S new u (length (terms_at S u)) hs) nodes s heads [] h.long a.listed (λ u lt. heads_kept S old new u _ _ a.kept (h.each u lt));
  links_stand = a.links;
}

-- fewer numbers of equations
numbers_drop : (equations : ℕ) (cs : List ℕ) (k : ℕ) → AreNumbers equations cs → AreNumbers equations (drop k cs)
numbers_drop equations cs zero n = n
numbers_drop equations [] (suc k) n = n
numbers_drop equations (c ∷ cs) (suc k) n = numbers_drop equations cs k (λ y i. n y (inr i))

-- the rest that is reached from a link, for the children from the second or a later one on
pub tail_row : (g : Layout) (s : ℕ) (counts rests : List (List Count)) (l : Link) (child : ℕ) (r : Rest) → IsFilled g s counts rests → 2 ≤ child
    → ((ds : List ℕ) → IsRest g.links ds l.rest → child - 2 < length ds → IsRest g.links (drop (child - 2) ds) r)
    → (cs : List ℕ) → AreNumbers (length g.of.value.equations) cs → IsLinkOf g.links cs l → child ≤ length cs → TailRow g s counts rests child cs r
tail_row g s counts rests l child r h two after cs n d le =
    let o = has_rest (length g.of.value.equations) g.links cs l n d in
    let stands = after o.others o.stands (omega (arith, o.long)) in
    let numbers = numbers_drop (length g.of.value.equations) o.others (child - 2) o.numbers in
    let k : child - 1 - 1 ≡ child - 2 = omega arith in
    let same = o.same (child - 1) (omega arith) ∙ ap (λ j. drop j o.others) k in
    record {
      within = rest_within g s counts rests h (drop (child - 2) o.others) numbers r stands;
      holds = subst (λ ds. RowHolds (ways (count_at g.of.value) ds) (g.largest + 1) s (row_of counts rests r)) (sym same) (rest_row g s counts rests h (drop (child - 2) o.others) numbers r stands);
    }

-- the number of the lists for a node's children from one on
pub tail_ways : (S : System) (u t child n : ℕ) (root cs : List ℕ) → term_at S u t ≡ Some (Node root cs) → ways (count_at S) (drop (child - 1) cs) n ≡ tail_at S u t child n
unfolding tail_at
tail_ways S u t child n root cs e =
    sym (ap (λ ds. length (subtree_lists S (drop (child - 1) ds) n)) (children_is S u t root cs e) ∙ length_subtrees S (drop (child - 1) cs) n)
