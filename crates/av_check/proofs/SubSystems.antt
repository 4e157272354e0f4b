-- The canonical system of a name of a canonical system: it has only names that the other has, so it is no larger, and an
-- equation has the same trees.
use Rattle.std.proofs.Common.{◌≡◌, ℕ, ◌≤◌, inl, inr, List, [], ◌∷◌, slice_get, true, false, not, nat_le, le-leb, Option, Some, None, is_some, refl, sym, ap, ◌∙◌, subst, arith, true≢false}
use Rattle.std.proofs.lemmas.Bool.{and_parts, and_from}
use Rattle.std.proofs.lemmas.Option.{slice_get_within}
use Rattle.av_perm.specs.Members.{In}
use Rattle.av_perm.proofs.Tests.{not_to}
use Rattle.av_sys.specs.declared.names.Name.{Name}
use Rattle.av_sys.specs.declared.terms.Term.{Term}
use Rattle.av_sys.specs.declared.terms.Term.TheVariants.{Point, Node}
use Rattle.av_sys.specs.declared.terms.System.{System}
use Rattle.av_sys.specs.Terms.{term_at, children_of}
use Rattle.av_sys.specs.Trees.{Tree, Trees, none, more, are_valid, IsTree}
use Rattle.av_sys.proofs.TreeSizes.{first_valid, others_valid}
use Rattle.av_sys.proofs.Subtrees.{equation_term, more_valid, term_valid}
use Rattle.av_build.specs.Drafts.{Draft, point, node, draft_names, drafts}
use Rattle.av_build.specs.Canonical.{Grown, grow_from, grown_size, as_system}
use Rattle.av_build.specs.Alive.{alive}
use Rattle.av_build.specs.Laws.{IsNameOver}
use Rattle.av_perm.proofs.Pointwise.{beside, before}
use Rattle.av_perm.proofs.ListLaws.{get_In, get_within}
use Rattle.av_build.proofs.ListPlaces.{part_sum}
use Rattle.av_build.proofs.TermsStand.{Numbered, Stands, FoundAt}
use Rattle.av_build.proofs.Growing.{Canonical, canonical, NameAt, In_get, grow_inv, grow_each}
use Rattle.av_build.proofs.GrownSizes.{small_through}
use Rattle.av_build.proofs.AliveMarks.{tree_alive, alive_tree}
use Rattle.av_check.specs.Verdicts.{is_dead}
use Rattle.av_check.proofs.GrownNames.{grow_once, weight, size_most, size_whole}

-- a term that is there
term_there : (S : System) (c t : ℕ) (o : Option Term) → term_at S c t ≡ o → is_some o ≡ true → (x : Term) × (term_at S c t ≡ Some x)
term_there S c t None e h = absurd (true≢false (sym h))
term_there S c t (Some x) e h = (x, e)

-- names with trees in one system have the same trees in another, where the equations of both are those of their names
module _ (simples : List (List ℕ)) (m n : Name) (S R : System) (s : Canonical [] simples m S) (r : Canonical [] simples n R) where
  -- terms of both systems that stand for one draft
  pub record IsSameTerm (c d t : ℕ) : Type 0 where
    pub term : Term
    pub other : Term
    pub at_term : term_at S c t ≡ Some term
    pub at_other : term_at R d t ≡ Some other
    pub draft : Draft
    pub stands : Stands (NameAt S) term draft
    pub others : Stands (NameAt R) other draft

  -- terms of one number of two equations of one name are such
  same_term : (c d t : ℕ) (k : Name) → NameAt S c k → NameAt R d k → (x : Term) → term_at S c t ≡ Some x → IsSameTerm c d t
  same_term c d t k a b x e =
      let l : slice_get a.0.terms t ≡ Some x = sym (equation_term S c t a.0 a.1) ∙ e in
      let y = beside (Stands (NameAt S)) a.0.terms (drafts simples a.0.name) t x (s.stands c a.0 a.1) l in
      let q : slice_get (drafts simples b.0.name) t ≡ Some y.0 = ap (λ j. slice_get (drafts simples j) t) (b.2 ∙ sym a.2) ∙ y.1 in
      let z = before (Stands (NameAt R)) b.0.terms (drafts simples b.0.name) t y.0 (r.stands d b.0 b.1) q in
      record { term = x; other = z.0; at_term = e; at_other = equation_term R d t b.0 b.1 ∙ z.1; draft = y.0; stands = y.2; others = z.2 }

  -- their children have the same names
  children_same : (x y : Term) (d : Draft) → Stands (NameAt S) x d → Stands (NameAt R) y d → (ns : List Name) × Numbered (NameAt S) (children_of (Some x)) ns × Numbered (NameAt R) (children_of (Some y)) ns
  children_same Point Point point a b = ([], tt, tt)
  children_same Point (Node π ds) point a b = absurd b
  children_same Point y (node root ns) a b = absurd a
  children_same (Node π cs) y point a b = absurd a
  children_same (Node π cs) Point (node root ns) a b = absurd b
  children_same (Node π cs) (Node π' ds) (node root ns) a b = (ns, a.1, b.1)

  -- so trees of one are trees of the other
  same_valid : (cs ds : List ℕ) (ns : List Name) (ts : Trees) → Numbered (NameAt S) cs ns → Numbered (NameAt R) ds ns → are_valid S cs ts ≡ true → are_valid R ds ts ≡ true
  unfolding are_valid
  same_valid [] [] [] ts a b v = kept ts v
    where
      kept : (ts : Trees) → are_valid S [] ts ≡ true → are_valid R [] ts ≡ true
      kept none v = refl
      kept (more t sub others) v = absurd (true≢false (sym v))
  same_valid [] (d ∷ ds) [] ts a b v = absurd b
  same_valid [] ds (k ∷ ns) ts a b v = absurd a
  same_valid (c ∷ cs) ds [] ts a b v = absurd a
  same_valid (c ∷ cs) [] (k ∷ ns) ts a b v = absurd b
  same_valid (c ∷ cs) (d ∷ ds) (k ∷ ns) none a b v = absurd (true≢false (sym v))
  same_valid (c ∷ cs) (d ∷ ds) (k ∷ ns) (more t sub others) a b v =
      let p = and_parts (is_some (term_at S c t)) (are_valid S (children_of (term_at S c t)) sub) (first_valid S c t cs sub others v) in
      let x = term_there S c t (term_at S c t) refl p.0 in
      let y = same_term c d t k a.0 b.0 x.0 x.1 in
      let z = children_same y.term y.other y.draft y.stands y.others in
      let w : are_valid R (children_of (Some y.other)) sub ≡ true = same_valid (children_of (Some y.term)) (children_of (Some y.other)) z.0 sub z.1 z.2 (subst (λ o. are_valid S (children_of o) sub ≡ true) y.at_term p.1) in
      more_valid R d (record { term = t; subtrees = sub }) ds others (term_valid R d t y.other sub y.at_other w)
      (same_valid cs ds ns others a.1 b.1 (others_valid S c t cs sub others v))

  -- and an equation with a tree has one there
  pub same_tree : (c d : ℕ) (k : Name) (T : Tree) → NameAt S c k → NameAt R d k → IsTree S c T → IsTree R d T
  same_tree c d k T a b v =
      let p = and_parts (is_some (term_at S c T.term)) (are_valid S (children_of (term_at S c T.term)) T.subtrees) v in
      let x = term_there S c T.term (term_at S c T.term) refl p.0 in
      let y = same_term c d T.term k a b x.0 x.1 in
      let z = children_same y.term y.other y.draft y.stands y.others in
      term_valid R d T.term y.other T.subtrees y.at_other (same_valid (children_of (Some y.term)) (children_of (Some y.other)) z.0 T.subtrees z.1 z.2 (subst (λ o. are_valid S (children_of o) T.subtrees ≡ true) y.at_term p.1))

module _ (limit : ℕ) (simples : List (List ℕ)) (n : Name) (fits : grown_size (grow_from simples n limit) ≤ limit) where
  abbrev G : Grown
  G = grow_from simples n limit

  -- the names that a term stands for are found
  names_found : (x : Term) (d : Draft) (m : Name) → Stands (FoundAt G.found) x d → In m (draft_names d) → In m G.found
  names_found Point point m h i = absurd i
  names_found Point (node root ns) m h i = absurd h
  names_found (Node π cs) point m h i = absurd h
  names_found (Node π cs) (node root ns) m h i = found cs ns h.1 i
    where
      found : (cs : List ℕ) (ns : List Name) → Numbered (FoundAt G.found) cs ns → In m ns → In m G.found
      found [] [] h i = absurd i
      found [] (x ∷ ns) h i = absurd h
      found (c ∷ cs) [] h i = absurd i
      found (c ∷ cs) (x ∷ ns) h (inl e) = subst (λ y. In y G.found) (sym e) (get_In G.found c x h.0)
      found (c ∷ cs) (x ∷ ns) h (inr i) = found cs ns h.1 i

  -- the children's names of each name found are found
  names_closed : (k : Name) (d : Draft) (m : Name) → In k G.found → In d (drafts simples k) → In m (draft_names d) → In m G.found
  names_closed k d m ik id im =
      let u = In_get G.found k ik in
      let ts = get_within G.written u.0 (let l = small_through simples n limit fits in omega (arith, slice_get_within G.found u.0 k u.1)) in
      let w = (grow_inv simples n limit).stands u.0 ts.0 ts.1 in
      let same : w.0 ≡ k = some_name w.0 k (sym w.1 ∙ u.1) in
      let t = In_get (drafts simples w.0) d (subst (λ x. In d (drafts simples x)) (sym same) id) in
      let x = before (Stands (FoundAt G.found)) ts.0 (drafts simples w.0) t.0 d w.2 t.1 in
      names_found x.0 d m x.2 im
    where
      some_name : (a b : Name) → Some a ≡ Some b → a ≡ b
      some_name a b e = cc

  -- so the canonical system of one is no larger
  sub_small : (m : Name) → In m G.found → grown_size (grow_from simples m limit) ≤ limit
  sub_small m i =
      let a = size_most simples m limit in
      let b = part_sum (weight simples) (grow_from simples m limit).found G.found (grow_once simples m limit) (grow_each simples m (λ k. In k G.found) i names_closed limit) in
      let c = size_whole simples n limit (small_through simples n limit fits) in
      omega arith

  -- and it is dead where its equation has no tree
  pub found_dead : (m : Name) (v : ℕ) → Canonical [] simples n (as_system G) → IsNameOver [] m → In m G.found → NameAt (as_system G) v m → alive (as_system G) v ≡ false → is_dead limit simples m ≡ true
  found_dead m v c over i at dead =
      let small = sub_small m i in
      let own : System = as_system (grow_from simples m limit) in
      and_from (nat_le (grown_size (grow_from simples m limit)) limit) (not (alive own 0)) (le-leb (grown_size (grow_from simples m limit)) limit small)
      (not_to (alive own 0) (λ e.
      let t = alive_tree own 0 e in
      let k = canonical [] simples m limit own over (record { fits = small; system = refl }) in
      let there = same_tree simples m n own (as_system G) k c 0 v m t.0 k.first at t.1 in
      true≢false (sym (tree_alive (as_system G) v t.0 there) ∙ dead)))
