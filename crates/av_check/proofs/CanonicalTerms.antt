-- The terms of an equation of a canonical system: the point as it is due, right roots and signs, and for each root the names
-- of its boxes.
use Rattle.std.proofs.Common.{◌≡◌, ℕ, suc, ◌+◌, inl, inr, List, [], ◌∷◌, ◌++◌, map, flat_map, Bool, true, false, not, cond, refl, sym, ap, ap₂, ◌∙◌, subst, arith}
use Rattle.std.specs.List.{list_all, list_any}
use Rattle.std.proofs.lemmas.Bool.{and_from}
use Rattle.std.proofs.lemmas.List.{append-nil}
use Rattle.av_perm.specs.Members.{In, Once}
use Rattle.av_perm.specs.Lists.{same}
use Rattle.av_perm.specs.Relations.{IsSimple}
use Rattle.av_perm.proofs.Membership.{Each}
use Rattle.av_perm.proofs.Tests.{any_to, same_refl}
use Rattle.av_sys.specs.declared.names.Sign.{Sign}
use Rattle.av_sys.specs.declared.names.Sign.TheVariants.{C}
use Rattle.av_sys.specs.declared.names.Name.{Name}
use Rattle.av_sys.specs.declared.terms.Term.{Term}
use Rattle.av_sys.specs.declared.terms.Term.TheVariants.{Point, Node}
use Rattle.av_sys.specs.declared.terms.Equation.{Equation}
use Rattle.av_sys.specs.declared.terms.System.{System}
use Rattle.av_split.specs.Boxes.{Box, boxes}
use Rattle.av_build.specs.Drafts.{Draft, point, node, name_of, child_names, has_point, point_drafts, drafts}
use Rattle.av_build.specs.Canonical.{same_sign}
use Rattle.av_build.proofs.NameNumbers.{sign_refl}
use Rattle.av_perm.proofs.Pointwise.{beside}
use Rattle.av_perm.proofs.ListLaws.{get_In}
use Rattle.av_build.proofs.RootedTerms.{Rooted, rooted, drafts_of, drafts_are}
use Rattle.av_build.proofs.DraftMeanings.{root_draft_is}
use Rattle.av_build.proofs.DraftsApart.{Distinct, rooted_distinct}
use Rattle.av_build.proofs.TermsStand.{Numbered, Stands, AllStand}
use Rattle.av_build.proofs.Growing.{NameAt, In_get}
use Rattle.av_walk.specs.Leaves.{name_of_equation, names_at, names_of_root}
use Rattle.av_check.specs.Verdicts.{count_points, points_due, first_sign, are_signed, roots_for, is_wrong_node}
use Rattle.av_check.proofs.ListedRoots.{same_false, rooted_at, listed_rooted, rooted_listed, rooted_sign}
use Rattle.av_check.proofs.TidyNames.{or_false}

-- the names of numbers
pub numbered_names : (S : System) (cs : List ℕ) (ns : List Name) → Numbered (NameAt S) cs ns → names_at S cs ≡ ns
numbered_names S [] [] h = refl
numbered_names S [] (n ∷ ns) h = absurd h
numbered_names S (c ∷ cs) [] h = absurd h
numbered_names S (c ∷ cs) (n ∷ ns) h = ap₂ (λ (x : Name) (xs : List Name). x ∷ xs) (ap name_of_equation h.0.1 ∙ h.0.2) (numbered_names S cs ns h.1)

-- how many drafts are the point
abbrev count_drafts : List Draft → ℕ
count_drafts [] = 0
count_drafts (point ∷ ds) = suc (count_drafts ds)
count_drafts (node root ns ∷ ds) = count_drafts ds

-- as many as terms that stand for them are
count_stands : (N : ℕ → Name → Type 0) (ts : List Term) (ds : List Draft) → AllStand N ts ds → count_points ts ≡ count_drafts ds
count_stands N [] [] h = refl
count_stands N [] (d ∷ ds) h = absurd h
count_stands N (t ∷ ts) [] h = absurd h
count_stands N (Point ∷ ts) (point ∷ ds) h = ap suc (count_stands N ts ds h.1)
count_stands N (Point ∷ ts) (node root ns ∷ ds) h = absurd h.0
count_stands N (Node root cs ∷ ts) (point ∷ ds) h = absurd h.0
count_stands N (Node root cs ∷ ts) (node root' ns ∷ ds) h = count_stands N ts ds h.1

count_append : (xs ys : List Draft) → count_drafts (xs ++ ys) ≡ count_drafts xs + count_drafts ys
count_append [] ys = omega arith
count_append (point ∷ xs) ys = omega (arith, count_append xs ys)
count_append (node root ns ∷ xs) ys = count_append xs ys

-- none of those of roots
count_boxes : (root : List ℕ) (first : Sign) (bs : List Box) → count_drafts (map (λ (box : Box). node root (child_names first box)) bs) ≡ 0
count_boxes root first [] = refl
count_boxes root first (b ∷ bs) = count_boxes root first bs

count_rooted : (n : Name) (rs : List Rooted) → count_drafts (flat_map (drafts_of n) rs) ≡ 0
count_rooted n [] = refl
count_rooted n (r ∷ rs) = omega (arith, count_append (drafts_of n r) (flat_map (drafts_of n) rs), count_boxes r.root r.first (boxes r.root n.avoid n.require), count_rooted n rs)

count_point : (n : Name) → count_drafts (point_drafts n) ≡ points_due n
count_point n = by (has_point n)
  where
    by : (b : Bool) → count_drafts (cond b (point ∷ []) []) ≡ cond {A = ℕ} b 1 0
    by true = refl
    by false = refl

-- so the point comes as often as it is due
points_right : (simples : List (List ℕ)) (n : Name) → count_drafts (drafts simples n) ≡ points_due n
points_right simples n =
    ap count_drafts (drafts_are simples n)
    ∙ count_append (point_drafts n) (flat_map (drafts_of n) (rooted simples n.sign))
    ∙ omega (arith, count_rooted n (rooted simples n.sign), count_point n)

-- the names of a box have the signs that they are to have
rest_signed : (box : Box) → list_all (λ (m : Name). same_sign m.sign C) (map (name_of C) box) ≡ true
rest_signed [] = refl
rest_signed (c ∷ box) = rest_signed box

names_signed : (first : Sign) (box : Box) → are_signed first (child_names first box) ≡ true
names_signed first [] = refl
names_signed first (c ∷ box) = and_from (same_sign first first) (list_all (λ (m : Name). same_sign m.sign C) (map (name_of C) box)) (sign_refl first) (rest_signed box)

-- a term of a name has a root that it may have, and names with their signs
record IsRightNode (simples : List (List ℕ)) (n : Name) (root : List ℕ) (ns : List Name) : Type 0 where
  listed : In root (roots_for n.sign simples)
  signed : are_signed (first_sign root) ns ≡ true

node_right : (simples : List (List ℕ)) (n : Name) (root : List ℕ) (ns : List Name) → Each IsSimple simples → In (node root ns) (drafts simples n) → IsRightNode simples n root ns
node_right simples n root ns g i =
    let r = root_draft_is simples n root ns g i in
    let one : Rooted = record { first = r.first; root = root } in
    record {
      listed = rooted_listed simples n.sign one r.among;
      signed = rw (r.names, ← rooted_sign simples n.sign one g r.among) (names_signed r.first r.box);
    }

-- the names of the drafts with a root
abbrev names_of_drafts : List ℕ → List Draft → List (List Name)
names_of_drafts root [] = []
names_of_drafts root (point ∷ ds) = names_of_drafts root ds
names_of_drafts root (node π ns ∷ ds) = cond (same π root) (ns ∷ names_of_drafts root ds) (names_of_drafts root ds)

-- those of the terms that stand for them
names_stand : (S : System) (root : List ℕ) (ts : List Term) (ds : List Draft) → AllStand (NameAt S) ts ds → names_of_root S root ts ≡ names_of_drafts root ds
names_stand S root [] [] h = refl
names_stand S root [] (d ∷ ds) h = absurd h
names_stand S root (t ∷ ts) [] h = absurd h
names_stand S root (Point ∷ ts) (point ∷ ds) h = names_stand S root ts ds h.1
names_stand S root (Point ∷ ts) (node π ns ∷ ds) h = absurd h.0
names_stand S root (Node π cs ∷ ts) (point ∷ ds) h = absurd h.0
names_stand S root (Node π cs ∷ ts) (node π' ns ∷ ds) h =
    ap (λ p. cond (same p root) (names_at S cs ∷ names_of_root S root ts) (names_of_root S root ts)) h.0.0
    ∙ ap₂ (λ (x : List Name) (xs : List (List Name)). cond (same π' root) (x ∷ xs) xs) (numbered_names S cs ns h.0.1) (names_stand S root ts ds h.1)

module _ (root : List ℕ) where
  names_append : (xs ys : List Draft) → names_of_drafts root (xs ++ ys) ≡ names_of_drafts root xs ++ names_of_drafts root ys
  names_append [] ys = refl
  names_append (point ∷ xs) ys = names_append xs ys
  names_append (node π ns ∷ xs) ys = by (same π root) (names_append xs ys)
    where
      by : (b : Bool) → names_of_drafts root (xs ++ ys) ≡ names_of_drafts root xs ++ names_of_drafts root ys → cond b (ns ∷ names_of_drafts root (xs ++ ys)) (names_of_drafts root (xs ++ ys)) ≡ cond b (ns ∷ names_of_drafts root xs) (names_of_drafts root xs) ++ names_of_drafts root ys
      by true e = ap (λ l. ns ∷ l) e
      by false e = e

  -- of the boxes of the root, of those of another, and of the point
  names_hit : (first : Sign) (bs : List Box) → names_of_drafts root (map (λ (box : Box). node root (child_names first box)) bs) ≡ map (child_names first) bs
  names_hit first [] = refl
  names_hit first (b ∷ bs) =
      ap (λ c. cond c (child_names first b ∷ names_of_drafts root (map (λ (box : Box). node root (child_names first box)) bs)) (names_of_drafts root (map (λ (box : Box). node root (child_names first box)) bs))) (same_refl root)
      ∙ ap (λ l. child_names first b ∷ l) (names_hit first bs)

  names_miss : (π : List ℕ) (first : Sign) (bs : List Box) → same π root ≡ false → names_of_drafts root (map (λ (box : Box). node π (child_names first box)) bs) ≡ []
  names_miss π first [] e = refl
  names_miss π first (b ∷ bs) e =
      ap (λ c. cond c (child_names first b ∷ names_of_drafts root (map (λ (box : Box). node π (child_names first box)) bs)) (names_of_drafts root (map (λ (box : Box). node π (child_names first box)) bs))) e
      ∙ names_miss π first bs e

  names_point : (n : Name) → names_of_drafts root (point_drafts n) ≡ []
  names_point n = by (has_point n)
    where
      by : (b : Bool) → names_of_drafts root (cond b (point ∷ []) []) ≡ []
      by true = refl
      by false = refl

  -- of different roots that aren't this one
  others_miss : (n : Name) (rs : List Rooted) → ((r : Rooted) → In r rs → r.root ≡ root → ⊥) → names_of_drafts root (flat_map (drafts_of n) rs) ≡ []
  others_miss n [] h = refl
  others_miss n (r ∷ rs) h =
      names_append (drafts_of n r) (flat_map (drafts_of n) rs)
      ∙ ap₂ (λ (x y : List (List Name)). x ++ y) (names_miss r.root r.first (boxes r.root n.avoid n.require) (same_false r.root root (h r (inl refl)))) (others_miss n rs (λ x i. h x (inr i)))

-- of different roots the names of each are those of its boxes
names_rooted : (n : Name) (r : Rooted) (rs : List Rooted) → Distinct rs → In r rs → names_of_drafts r.root (flat_map (drafts_of n) rs) ≡ map (child_names r.first) (boxes r.root n.avoid n.require)
names_rooted n r [] o i = absurd i
names_rooted n r (t ∷ rs) o (inl e) =
    names_append r.root (drafts_of n t) (flat_map (drafts_of n) rs)
    ∙ ap₂ (λ (x y : List (List Name)). x ++ y)
    (ap (λ (x : Rooted). names_of_drafts r.root (drafts_of n x)) (sym e) ∙ names_hit r.root r.first (boxes r.root n.avoid n.require))
    (others_miss r.root n rs (λ x i q. o.0 x i (ap (λ (y : Rooted). y.root) (sym e) ∙ sym q)))
    ∙ append-nil (map (child_names r.first) (boxes r.root n.avoid n.require))
names_rooted n r (t ∷ rs) o (inr i) =
    names_append r.root (drafts_of n t) (flat_map (drafts_of n) rs)
    ∙ ap₂ (λ (x y : List (List Name)). x ++ y) (names_miss r.root t.root t.first (boxes t.root n.avoid n.require) (same_false t.root r.root (o.0 r i))) (names_rooted n r rs o.1 i)

-- so of each root that is listed
names_listed : (n : Name) (simples : List (List ℕ)) (root : List ℕ) → Each IsSimple simples → Once simples → In root (roots_for n.sign simples)
    → names_of_drafts root (drafts simples n) ≡ map (child_names (first_sign root)) (boxes root n.avoid n.require)
names_listed n simples root g o i =
    ap (names_of_drafts root) (drafts_are simples n)
    ∙ names_append root (point_drafts n) (flat_map (drafts_of n) (rooted simples n.sign))
    ∙ ap (λ l. l ++ names_of_drafts root (flat_map (drafts_of n) (rooted simples n.sign))) (names_point root n)
    ∙ names_rooted n (rooted_at root) (rooted simples n.sign) (rooted_distinct simples n.sign g o) (listed_rooted simples n.sign root g i)

module _ (S : System) (simples : List (List ℕ)) (g : Each IsSimple simples) (o : Once simples) (e : Equation) (stand : AllStand (NameAt S) e.terms (drafts simples e.name)) where
  -- the points of an equation
  pub equation_points : count_points e.terms ≡ points_due e.name
  equation_points = count_stands (NameAt S) e.terms (drafts simples e.name) stand ∙ points_right simples e.name

  -- its nodes
  pub equation_nodes : (root cs : List ℕ) → In (Node root cs) e.terms → is_wrong_node S simples e.name root cs ≡ false
  equation_nodes root cs i =
      let t = In_get e.terms (Node root cs) i in
      let d = beside (Stands (NameAt S)) e.terms (drafts simples e.name) t.0 (Node root cs) stand t.1 in
      by d.0 d.2 (get_In (drafts simples e.name) t.0 d.0 d.1)
    where
      by : (d : Draft) → Stands (NameAt S) (Node root cs) d → In d (drafts simples e.name) → is_wrong_node S simples e.name root cs ≡ false
      by point s k = absurd s
      by (node root' ns) s k =
          let r = node_right simples e.name root' ns g k in
          let listed : In root (roots_for e.name.sign simples) = subst (λ p. In p (roots_for e.name.sign simples)) (sym s.0) r.listed in
          let signed : are_signed (first_sign root) (names_at S cs) ≡ true =
          subst (λ l. are_signed (first_sign root) l ≡ true) (sym (numbered_names S cs ns s.1)) (subst (λ p. are_signed (first_sign p) ns ≡ true) (sym s.0) r.signed) in
          or_false (not (list_any (same root) (roots_for e.name.sign simples))) (not (are_signed (first_sign root) (names_at S cs)))
          (ap not (any_to (same root) (roots_for e.name.sign simples) root listed (same_refl root)))
          (ap not signed)

  -- and the names of a root's children
  pub equation_names : (root : List ℕ) → In root (roots_for e.name.sign simples) → names_of_root S root e.terms ≡ map (child_names (first_sign root)) (boxes root e.name.avoid e.name.require)
  equation_names root i = names_stand S root e.terms (drafts simples e.name) stand ∙ names_listed e.name simples root g o i
