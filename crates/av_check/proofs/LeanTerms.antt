-- The verdict on the lean system of a canonical system is yes: a leaf of which the term was left out has a dead name.
use Rattle.std.proofs.Common.{◌≡◌, ℕ, suc, ◌≤◌, inl, inr, List, [], ◌∷◌, map, length, get_or, slice_get, filter, Bool, true, false, not, ◌&&◌, ◌||◌, cond, Option, Some, None, refl, sym, ap, ap₂, ◌∙◌, subst}
use Rattle.std.specs.List.{list_all, list_any}
use Rattle.std.proofs.lemmas.Option.{slice_get_within}
use Rattle.av_perm.specs.Members.{In, Once}
use Rattle.av_perm.specs.Lists.{same}
use Rattle.av_perm.specs.Relations.{IsSimple}
use Rattle.av_perm.proofs.Membership.{Each, map_In, In_map, In_filter}
use Rattle.av_perm.proofs.Tests.{any_to, all_fails}
use Rattle.av_sys.specs.declared.names.Name.{Name}
use Rattle.av_sys.specs.declared.terms.Term.{Term}
use Rattle.av_sys.specs.declared.terms.Term.TheVariants.{Point, Node}
use Rattle.av_sys.specs.declared.terms.Equation.{Equation}
use Rattle.av_sys.specs.declared.terms.System.{System}
use Rattle.av_sys.specs.Terms.{terms_of, children_of}
use Rattle.av_sys.proofs.Subtrees.{IsEquation}
use Rattle.av_split.specs.Boxes.{Box, boxes}
use Rattle.av_build.specs.Drafts.{Draft, point, node, child_names, drafts}
use Rattle.av_build.specs.Canonical.{number_of, Grown, grow_from, grown_size, as_system}
use Rattle.av_build.specs.Alive.{has_marked, alive_marks}
use Rattle.av_build.specs.Lean.{name_of, live_terms, place_of, renumbered, lean_equation, lean_over, kept, lean, IsNumbering}
use Rattle.av_build.proofs.NameNumbers.{number_at}
use Rattle.av_perm.proofs.Pointwise.{beside}
use Rattle.av_perm.proofs.ListLaws.{get_In, get_within, once_place}
use Rattle.av_build.proofs.ListPlaces.{get_map, map_get}
use Rattle.av_build.proofs.TermsStand.{Numbered, Stands}
use Rattle.av_build.proofs.Growing.{Canonical, canonical, NameAt, In_get, equation_at}
use Rattle.av_build.proofs.FoundNumbers.{place_at}
use Rattle.av_build.proofs.KeptEquations.{child_used, kept_numbering, numbering_first, numbering_within, numbering_closed}
use Rattle.av_walk.specs.Walk.{Leaf}
use Rattle.av_walk.specs.Leaves.{name_of_equation, names_at, names_of_root, leaves}
use Rattle.av_check.specs.declared.verdict.Flaw.TheVariants.{Lost, Large}
use Rattle.av_check.specs.declared.verdict.Verdict.TheVariants as verdicts
use Rattle.av_check.specs.Verdicts.{count_points, first_sign, are_signed, roots_for, leaf_flaw, ending_flaw, is_dead, is_large, equation_fault, verdict_from}
use Rattle.av_check.proofs.GrownNames.{grow_once}
use Rattle.av_check.proofs.VerdictParts.{IsFaultless}
use Rattle.av_check.proofs.TidyNames.{IsTidyName}
use Rattle.av_check.proofs.CanonicalTerms.{numbered_names, equation_points, equation_nodes, equation_names}
use Rattle.av_check.proofs.ListedTerms.{In_names}
use Rattle.av_check.proofs.SubSystems.{found_dead}
use Rattle.av_check.proofs.Completeness.{box_leaves, canon, found_tidy, tidy, first_named, rightly_named, yes_of}

module _ (S : System) (found : List ℕ) where
  -- the names of the children are as before
  lean_names : (cs : List ℕ) → Each (λ c. In c found) cs → names_at (lean_over S found) (map (place_of found) cs) ≡ names_at S cs
  lean_names [] h = refl
  lean_names (c ∷ cs) h = ap₂ (λ (x : Name) (xs : List Name). x ∷ xs) here (lean_names cs (λ d i. h d (inr i)))
    where
      same_names : (o : Option Equation) → name_of o ≡ name_of_equation o
      same_names None = refl
      same_names (Some e) = refl

      here : name_of_equation (slice_get (lean_over S found).equations (place_of found c)) ≡ name_of_equation (slice_get S.equations c)
      here = ap name_of_equation (get_map (lean_equation S found) found (place_of found c) c (place_at found c (h c (inl refl)))) ∙ same_names (slice_get S.equations c)

  -- so of all terms with a root
  lean_root : (root : List ℕ) (ts : List Term) → ((t : Term) → In t ts → Each (λ c. In c found) (children_of (Some t))) → names_of_root (lean_over S found) root (map (renumbered found) ts) ≡ names_of_root S root ts
  lean_root root [] h = refl
  lean_root root (Point ∷ ts) h = lean_root root ts (λ t i. h t (inr i))
  lean_root root (Node π cs ∷ ts) h =
      ap₂ (λ (x : List Name) (xs : List (List Name)). cond (same π root) (x ∷ xs) xs) (lean_names cs (h (Node π cs) (inl refl))) (lean_root root ts (λ t i. h t (inr i)))

  -- the points are as many
  lean_points : (ts : List Term) → count_points (map (renumbered found) ts) ≡ count_points ts
  lean_points [] = refl
  lean_points (Point ∷ ts) = ap suc (lean_points ts)
  lean_points (Node root cs ∷ ts) = lean_points ts

  -- a node was one
  lean_node : (root ds : List ℕ) (t : Term) → Node root ds ≡ renumbered found t → (cs : List ℕ) × (t ≡ Node root cs) × (ds ≡ map (place_of found) cs)
  lean_node root ds Point e = absurd (let z : Node root ds ≡ Point = e in cc)
  lean_node root ds (Node π cs) e = (cs, let z : π ≡ root = cc in ap (λ p. Node p cs) z, cc)

-- the points stay where only terms with marked children are kept
live_points : (marks : List Bool) (ts : List Term) → count_points (filter (has_marked marks) ts) ≡ count_points ts
live_points marks [] = refl
live_points marks (Point ∷ ts) = ap suc (live_points marks ts)
live_points marks (Node root cs ∷ ts) = by (has_marked marks (Node root cs)) (live_points marks ts)
  where
    by : (b : Bool) → count_points (filter (has_marked marks) ts) ≡ count_points ts → count_points (cond b (Node root cs ∷ filter (has_marked marks) ts) (filter (has_marked marks) ts)) ≡ count_points ts
    by true e = e
    by false e = e

-- and the names of the terms that stay are those that pass a test of names
live_names : (S : System) (marks : List Bool) (keep : List Name → Bool) (root : List ℕ) (ts : List Term) → ((π cs : List ℕ) → In (Node π cs) ts → list_all (λ c. get_or marks c false) cs ≡ keep (names_at S cs))
    → names_of_root S root (filter (has_marked marks) ts) ≡ filter keep (names_of_root S root ts)
live_names S marks keep root [] h = refl
live_names S marks keep root (Point ∷ ts) h = live_names S marks keep root ts (λ π cs i. h π cs (inr i))
live_names S marks keep root (Node π cs ∷ ts) h =
    names_cond (list_all (λ c. get_or marks c false) cs)
    ∙ ap (λ n. cond (list_all (λ c. get_or marks c false) cs) (cond (same π root) (names_at S cs ∷ n) n) n) (live_names S marks keep root ts (λ π cs i. h π cs (inr i)))
    ∙ swapped (list_all (λ c. get_or marks c false) cs) (same π root) (filter keep (names_of_root S root ts))
    ∙ ap (λ c. cond (same π root) (cond c (names_at S cs ∷ filter keep (names_of_root S root ts)) (filter keep (names_of_root S root ts))) (filter keep (names_of_root S root ts))) (h π cs (inl refl))
    ∙ sym (filter_cond (same π root))
  where
    names_cond : (b : Bool) → names_of_root S root (cond b (Node π cs ∷ filter (has_marked marks) ts) (filter (has_marked marks) ts))
        ≡ cond b (cond (same π root) (names_at S cs ∷ names_of_root S root (filter (has_marked marks) ts)) (names_of_root S root (filter (has_marked marks) ts))) (names_of_root S root (filter (has_marked marks) ts))
    names_cond true = refl
    names_cond false = refl

    filter_cond : (b : Bool) → filter keep (cond b (names_at S cs ∷ names_of_root S root ts) (names_of_root S root ts))
        ≡ cond b (cond (keep (names_at S cs)) (names_at S cs ∷ filter keep (names_of_root S root ts)) (filter keep (names_of_root S root ts))) (filter keep (names_of_root S root ts))
    filter_cond true = refl
    filter_cond false = refl

    swapped : (b d : Bool) (xs : List (List Name)) → cond b (cond d (names_at S cs ∷ xs) xs) xs ≡ cond d (cond b (names_at S cs ∷ xs) xs) xs
    swapped true true xs = refl
    swapped true false xs = refl
    swapped false true xs = refl
    swapped false false xs = refl

-- the kept images are the images of those kept
filter_map : {A B : Type 0} (keep : B → Bool) (f : A → B) (xs : List A) → filter keep (map f xs) ≡ map f (filter (λ x. keep (f x)) xs)
filter_map keep f [] = refl
filter_map keep f (x ∷ xs) = ap (λ l. cond (keep (f x)) (f x ∷ l) l) (filter_map keep f xs) ∙ by (keep (f x))
  where
    by : (b : Bool) → cond b (f x ∷ map f (filter (λ x. keep (f x)) xs)) (map f (filter (λ x. keep (f x)) xs)) ≡ map f (cond b (x ∷ filter (λ x. keep (f x)) xs) (filter (λ x. keep (f x)) xs))
    by true = refl
    by false = refl

-- a name of a child, and its number
name_number : (S : System) (cs : List ℕ) (ns : List Name) (m : Name) → Numbered (NameAt S) cs ns → In m ns → (c : ℕ) × In c cs × NameAt S c m
name_number S [] [] m h i = absurd i
name_number S [] (n ∷ ns) m h i = absurd h
name_number S (c ∷ cs) [] m h i = absurd i
name_number S (c ∷ cs) (n ∷ ns) m h (inl e) = (c, inl refl, subst (NameAt S c) (sym e) h.0)
name_number S (c ∷ cs) (n ∷ ns) m h (inr i) = let r = name_number S cs ns m h.1 i in (r.0, inr r.1, r.2)

module _ (limit : ℕ) (first : Name) (simples : List (List ℕ)) (start : IsTidyName first.avoid first) (fits : grown_size (grow_from simples first limit) ≤ limit) (g : Each IsSimple simples) (o : Once simples) where
  abbrev G : Grown
  G = grow_from simples first limit

  abbrev S : System
  S = as_system (grow_from simples first limit)

  abbrev marks : List Bool
  marks = alive_marks S.equations

  is : Canonical first.avoid simples first S
  is = canon limit first simples start fits

  -- the number of a name
  number_is : (c : ℕ) (m : Name) → NameAt S c m → (number_of G.found m ≡ c) × In m G.found
  number_is c m a =
      let e = (equation_at G.found G.written c a.0 a.1).0 in
      let h : slice_get G.found c ≡ Some m = e ∙ ap (λ (n : Name). Some n) a.2 in
      let i = get_In G.found c m h in
      (once_place G.found (number_of G.found m) c m (grow_once simples first limit) (number_at G.found m i) h, i)

  -- the test of names: each is that of an equation that is alive
  abbrev keep : List Name → Bool
  keep ns = list_all (λ m. get_or marks (number_of G.found m) false) ns

  keep_is : (cs : List ℕ) (ns : List Name) → Numbered (NameAt S) cs ns → list_all (λ c. get_or marks c false) cs ≡ keep ns
  keep_is [] [] h = refl
  keep_is [] (n ∷ ns) h = absurd h
  keep_is (c ∷ cs) [] h = absurd h
  keep_is (c ∷ cs) (n ∷ ns) h = ap₂ (λ a b. a && b) (ap (λ k. get_or marks k false) (sym (number_is c n h.0).0)) (keep_is cs ns h.1)

  -- the names of the children of a node
  node_names : (u : ℕ) (d : Equation) → IsEquation S u d → (π cs : List ℕ) → In (Node π cs) d.terms → (ns : List Name) × Numbered (NameAt S) cs ns × (names_at S cs ≡ ns)
  node_names u d q π cs i =
      let t = In_get d.terms (Node π cs) i in
      let y = beside (Stands (NameAt S)) d.terms (drafts simples d.name) t.0 (Node π cs) (is.stands u d q) t.1 in
      by y.0 y.2
    where
      by : (x : Draft) → Stands (NameAt S) (Node π cs) x → (ns : List Name) × Numbered (NameAt S) cs ns × (names_at S cs ≡ ns)
      by point h = absurd h
      by (node root ns) h = (ns, h.1, numbered_names S cs ns h.1)

  -- a name of a term that isn't alive is dead
  name_dead : (u : ℕ) (d : Equation) → IsEquation S u d → (root : List ℕ) (ns : List Name) (m : Name) → In ns (names_of_root S root d.terms) → In m ns → get_or marks (number_of G.found m) false ≡ false → is_dead limit simples m ≡ true
  name_dead u d q root ns m j i dead =
      let cs = In_names S root d.terms ns j in
      let r = node_names u d q root cs.0 cs.1 in
      let c = name_number S cs.0 r.0 m r.1 (subst (In m) (cs.2 ∙ r.2) i) in
      let k = number_is c.0 m c.2 in
      let n = (found_tidy limit first simples start fits m k.1).over in
      let own = start.over in
      found_dead limit simples first fits m c.0
      (canonical [] simples first limit S (record { avoids = own.avoids; requires = own.requires; long = own.long; covers = λ b i. absurd i }) (record { fits = fits; system = refl }))
      (record { avoids = n.avoids; requires = n.requires; long = n.long; covers = λ b i. absurd i }) k.1 c.2 (ap (λ v. get_or marks v false) (sym k.0) ∙ dead)

  -- the leaves of a root and of the live terms of an equation have no flaw
  live_leaf : (u : ℕ) (d : Equation) → IsEquation S u d → (root : List ℕ) → In root (roots_for d.name.sign simples) → (l : Leaf Box)
      → In l (leaves root d.name (names_of_root S root (filter (has_marked marks) d.terms))) → leaf_flaw limit simples root l ≡ None
  live_leaf u d q root i l j =
      let bs : List Box = boxes root d.name.avoid d.name.require in
      let keeps : Box → Bool = λ b. keep (child_names (first_sign root) b) in
      let t = tidy limit first simples start fits u d q in
      let e = equation_names S simples g o d (is.stands u d q) root i in
      let n : names_of_root S root (filter (has_marked marks) d.terms) ≡ map (child_names (first_sign root)) (filter keeps bs) =
      live_names S marks keep root d.terms (λ π cs k. let r = node_names u d q π cs k in keep_is cs r.0 r.1 ∙ ap keep (sym r.2))
      ∙ ap (filter keep) e
      ∙ filter_map keep (child_names (first_sign root)) bs in
      elim (box_leaves root d.name (first_sign root) keeps t.over.avoids t.over.requires l (subst (λ x. In l (leaves root d.name x)) n j)) [
        | inl f ↦ ap (λ x. ending_flaw limit simples root x l.cell) f
        | inr f ↦
            let ns : List Name = child_names (first_sign root) l.cell in
            let m = all_fails (λ m. get_or marks (number_of G.found m) false) ns f.1 in
            let w : In ns (names_of_root S root d.terms) = subst (In ns) (sym e) (map_In (child_names (first_sign root)) bs l.cell f.2) in
            let any : list_any (is_dead limit simples) ns ≡ true = any_to (is_dead limit simples) ns m.0 m.1 (name_dead u d q root ns m.0 w m.1 m.2) in
            ap (λ x. ending_flaw limit simples root x l.cell) f.0
            ∙ ap (λ b. cond b None (cond (list_any (is_large limit simples) ns) (Some Large) (Some Lost))) any
      ]

  -- the equations that are kept
  abbrev F : List ℕ
  F = kept S

  some : 1 ≤ length S.equations
  some = slice_get_within S.equations 0 is.first.0 is.first.1

  numbering : IsNumbering S F
  numbering = kept_numbering S some

  abbrev live : Equation → List Term
  live d = filter (has_marked marks) d.terms

  -- an equation with its live terms
  abbrev lean_of : Equation → Equation
  lean_of d = record { name = d.name; terms = map (renumbered F) (live d) }

  lean_is : (u : ℕ) (d : Equation) → IsEquation S u d → lean_equation S F u ≡ lean_of d
  lean_is u d e = ap (λ (p : Option Equation). let y : Equation = record { name = name_of p; terms = map (renumbered F) (filter (has_marked marks) (terms_of p)) } in y) e

  -- the children of its terms are kept
  live_kept : (u : ℕ) (d : Equation) → In u F → IsEquation S u d → (t : Term) → In t (live d) → Each (λ c. In c F) (children_of (Some t))
  live_kept u d iu e t i c k =
      let listed : live_terms S u ≡ live d = ap (λ (p : Option Equation). filter (has_marked marks) (terms_of p)) e in
      numbering_closed S F numbering u iu c (child_used S u c t (subst (In t) (sym listed) i) k)

  -- so it isn't at fault
  lean_right : (v u : ℕ) (d : Equation) → slice_get F v ≡ Some u → IsEquation S u d → IsFaultless limit first (lean S) simples v (lean_of d)
  lean_right v u d a e = record {
    name = rightly_named first v d.name (tidy limit first simples start fits u d e) (λ z. first_named limit first simples start fits d (subst (λ k. IsEquation S k d) (zero_kept z) e));
    points = lean_points S F (live d) ∙ live_points marks d.terms ∙ equation_points S simples g o d (is.stands u d e);
    nodes = λ root ds i.
        let t = In_map (renumbered F) (live d) (Node root ds) i in
        let n = lean_node S F root ds t.0 t.2 in
        let h : In (Node root n.0) (live d) = subst (λ y. In y (live d)) n.1 t.1 in
        let alike : names_at (lean S) ds ≡ names_at S n.0 = ap (names_at (lean S)) n.2 ∙ lean_names S F n.0 (closed (Node root n.0) h) in
        ap (λ x. not (list_any (same root) (roots_for d.name.sign simples)) || not (are_signed (first_sign root) x)) alike
        ∙ equation_nodes S simples g o d (is.stands u d e) root n.0 (In_filter (has_marked marks) d.terms (Node root n.0) h).0;
    cells = λ root i l j. live_leaf u d e root i l (subst (λ x. In l (leaves root d.name x)) (lean_root S F root (live d) closed) j);
  }
    where
      closed : (t : Term) → In t (live d) → Each (λ c. In c F) (children_of (Some t))
      closed = live_kept u d (get_In F v u a) e

      zero_kept : v ≡ 0 → u ≡ 0
      zero_kept z = some_number u 0 (sym a ∙ ap (slice_get F) z ∙ numbering_first S F numbering)
        where
          some_number : (x y : ℕ) → Some x ≡ Some y → x ≡ y
          some_number x y q = cc

  -- so the verdict is yes
  pub lean_yes : verdict_from (equation_fault limit first (lean S) simples) 0 (lean S).equations ≡ verdicts.Yes
  lean_yes = yes_of limit first (lean S) simples (λ v x q.
      let m = map_get (lean_equation S F) F v x q in
      let d = get_within S.equations m.0 (numbering_within S some F numbering m.0 (get_In F v m.0 m.1)) in
      subst (λ y. IsFaultless limit first (lean S) simples v y) (sym (m.2 ∙ lean_is m.0 d.0 d.1)) (lean_right v m.0 d.0 m.1 d.1))
