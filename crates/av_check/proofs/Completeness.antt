-- The verdict on the canonical system is yes.
use Rattle.std.proofs.Common.{◌≡◌, ℕ, suc, ◌+◌, ◌≤◌, ◌⊎◌, inl, inr, List, [], ◌∷◌, map, length, slice_get, filter, replicate, Bool, true, false, not, ◌&&◌, nat_eq, eq-eqb, eqb-true, Option, Some, None, refl, sym, ap, ◌∙◌, subst, arith, true≢false}
use Rattle.std.proofs.lemmas.Bool.{cases_Bool}
use Rattle.std.proofs.lemmas.List.{append-nil}
use Rattle.av_perm.specs.Members.{In, Once}
use Rattle.av_perm.specs.Relations.{IsWord, IsSimple}
use Rattle.av_perm.proofs.Membership.{Each}
use Rattle.av_perm.proofs.ListLaws.{get_In}
use Rattle.av_sys.specs.declared.names.Sign.{Sign}
use Rattle.av_sys.specs.declared.names.Name.{Name}
use Rattle.av_sys.specs.declared.terms.Term.{Term}
use Rattle.av_sys.specs.declared.terms.Term.TheVariants.{Point, Node}
use Rattle.av_sys.specs.declared.terms.Equation.{Equation}
use Rattle.av_sys.specs.declared.terms.System.{System}
use Rattle.av_sys.proofs.Subtrees.{IsEquation}
use Rattle.av_name.specs.Constraints.{free}
use Rattle.av_split.specs.Split.{Demand}
use Rattle.av_split.specs.Boxes.{Question, Box, word_rules, demands, boxes}
use Rattle.av_split.proofs.WordRules.{Apt}
use Rattle.av_split.proofs.WordDemands.{demands_apt}
use Rattle.av_build.specs.Drafts.{child_names}
use Rattle.av_build.specs.Canonical.{same_name, grow_from, grown_size, as_system}
use Rattle.av_build.proofs.NameNumbers.{name_refl}
use Rattle.av_build.proofs.Growing.{Canonical, canonical, grow_each, equation_at}
use Rattle.av_walk.specs.Walk.{Literal, good, bare, Leaf, walk, walk_questions}
use Rattle.av_walk.specs.Leaves.{literals, leaves}
use Rattle.av_check.specs.declared.fault.Fault.{Fault}
use Rattle.av_check.specs.declared.fault.Fault.TheVariants as faults
use Rattle.av_check.specs.declared.verdict.Flaw.{Flaw}
use Rattle.av_check.specs.declared.verdict.Verdict.TheVariants as verdicts
use Rattle.av_check.specs.Verdicts.{first_of, first_some, some_if, is_misnamed, is_wrong_name, count_points, points_due, first_sign, roots_for, wrong_root, leaf_flaw, ending_flaw, cell_fault, first_leaf, root_fault, root_found, name_fault, point_fault, node_fault, cells_fault, equation_fault, verdict_or, verdict_from}
use Rattle.av_check.proofs.GoodWalk.{walk_fits}
use Rattle.av_check.proofs.WordTelling.{IsLong, start_long, long_law, box_term, Marks, word_tell}
use Rattle.av_check.proofs.VerdictParts.{IsFaultless}
use Rattle.av_check.proofs.TidyNames.{IsTidyName, draft_tidy, tidy_named, or_false}
use Rattle.av_check.proofs.CanonicalTerms.{equation_points, equation_nodes, equation_names}

-- the names of the boxes as terms
terms_of_boxes : (first : Sign) (bs : List Box) → map (literals 0) (map (child_names first) bs) ≡ map (box_term first) bs
terms_of_boxes first [] = refl
terms_of_boxes first (b ∷ bs) = ap (λ l. box_term first b ∷ l) (terms_of_boxes first bs)

-- the leaves of a root and a name, where the names of the terms are those of the boxes that are kept
pub box_leaves : (root : List ℕ) (n : Name) (first : Sign) (keep : Box → Bool) → Each IsWord n.avoid → Each IsWord n.require → (l : Leaf Box)
    → In l (leaves root n (map (child_names first) (filter keep (boxes root n.avoid n.require))))
    → (l.ending ≡ good) ⊎ ((l.ending ≡ bare) × (keep l.cell ≡ false) × In l.cell (boxes root n.avoid n.require))
box_leaves root n first keep ga gr l i =
    let bs : List Box = boxes root n.avoid n.require in
    let ds : List (Demand Question) = demands root n.avoid n.require in
    let start : Box = replicate (length root) free in
    let ts : List (List (Literal Question)) = map (box_term first) (filter keep bs) in
    (walk_fits word_rules (IsLong (length root)) (Apt (length root)) (long_law (length root)) ds (demands_apt root n.avoid n.require ga gr)
    (box_term first) Marks (word_tell (length root) first) keep bs (walk_questions ds ts) start l (start_long (length root))
    (record {
      before = [];
      after = [];
      is = sym (append-nil (filter keep bs));
      listed = λ x k. k;
      before_out = λ x k. absurd k;
      after_out = λ x k. absurd k;
    })
    (subst (λ x. In l (walk word_rules ds x start)) (terms_of_boxes first (filter keep bs)) i)).ending

-- where all are kept each leaf is good
keep_all : (bs : List Box) → filter (λ (b : Box). true) bs ≡ bs
keep_all [] = refl
keep_all (b ∷ bs) = ap (λ l. b ∷ l) (keep_all bs)

good_leaves : (root : List ℕ) (n : Name) (first : Sign) → Each IsWord n.avoid → Each IsWord n.require → (l : Leaf Box) → In l (leaves root n (map (child_names first) (boxes root n.avoid n.require))) → l.ending ≡ good
good_leaves root n first ga gr l i =
    elim (box_leaves root n first (λ (b : Box). true) ga gr l (subst (λ bs. In l (leaves root n (map (child_names first) bs))) (sym (keep_all (boxes root n.avoid n.require))) i)) [
      | inl e ↦ e
      | inr e ↦ absurd (true≢false e.1)
    ]

-- of answers that are none the first is none
first_of_both : {X : Type 0} (x y : Option X) → x ≡ None → y ≡ None → first_of x y ≡ None
first_of_both None y e f = f
first_of_both (Some v) y e f = absurd (let z : Some v ≡ None = e in cc)

first_some_to : {A X : Type 0} (f : A → Option X) (xs : List A) → Each (λ x. f x ≡ None) xs → first_some f xs ≡ None
first_some_to f [] h = refl
first_some_to f (x ∷ xs) h = first_of_both (f x) (first_some f xs) (h x (inl refl)) (first_some_to f xs (λ y i. h y (inr i)))

first_leaf_to : (f : Leaf Box → Option Flaw) (root : List ℕ) (k : ℕ) (ls : List (Leaf Box)) → Each (λ l. f l ≡ None) ls → first_leaf f root k ls ≡ None
first_leaf_to f root k [] h = refl
first_leaf_to f root k (l ∷ ls) h = first_of_both (cell_fault root k (f l)) (first_leaf f root (suc k) ls) (ap (cell_fault root k) (h l (inl refl))) (first_leaf_to f root (suc k) ls (λ y i. h y (inr i)))

-- an equation that isn't at fault has no first fault
faultless_none : (limit : ℕ) (first : Name) (S : System) (simples : List (List ℕ)) (u : ℕ) (e : Equation) → IsFaultless limit first S simples u e → equation_fault limit first S simples u e ≡ None
faultless_none limit first S simples u e h =
    first_of_both (name_fault first u e) (first_of (point_fault e) (first_of (node_fault S simples e) (cells_fault limit S simples e))) (ap (λ x. some_if x faults.Name) h.name)
    (first_of_both (point_fault e) (first_of (node_fault S simples e) (cells_fault limit S simples e)) (ap (λ x. some_if (not x) faults.Points) (eq-eqb (count_points e.terms) (points_due e.name) h.points))
    (first_of_both (node_fault S simples e) (cells_fault limit S simples e) (ap root_found (first_some_to (wrong_root S simples e.name) e.terms terms_right))
    (first_some_to (root_fault limit S simples e) (roots_for e.name.sign simples) (λ root i. first_leaf_to (leaf_flaw limit simples root) root 0 _ (h.cells root i)))))
  where
    terms_right : (t : Term) → In t e.terms → wrong_root S simples e.name t ≡ None
    terms_right Point i = refl
    terms_right (Node root cs) i = ap (λ x. some_if x root) (h.nodes root cs i)

-- where no equation is at fault the verdict is yes
yes_from : (f : ℕ → Equation → Option Fault) (k : ℕ) (es : List Equation) → ((u : ℕ) (e : Equation) → slice_get es u ≡ Some e → f (k + u) e ≡ None) → verdict_from f k es ≡ verdicts.Yes
yes_from f k [] h = refl
yes_from f k (e ∷ es) h =
    let n : k ≡ k + 0 = omega arith in
    ap (λ o. verdict_or k o (verdict_from f (suc k) es)) (ap (λ m. f m e) n ∙ h 0 e refl)
    ∙ yes_from f (suc k) es (λ u d q. let m : suc k + u ≡ k + suc u = omega arith in ap (λ j. f j d) m ∙ h (suc u) d q)

pub yes_of : (limit : ℕ) (first : Name) (S : System) (simples : List (List ℕ)) → ((u : ℕ) (e : Equation) → IsEquation S u e → IsFaultless limit first S simples u e)
    → verdict_from (equation_fault limit first S simples) 0 S.equations ≡ verdicts.Yes
yes_of limit first S simples h = yes_from (equation_fault limit first S simples) 0 S.equations (λ u e q.
    let n : 0 + u ≡ u = omega arith in
    ap (λ k. equation_fault limit first S simples k e) n ∙ faultless_none limit first S simples u e (h u e q))

-- a tidy name passes the test, where that of equation 0 is the first one
pub rightly_named : (first : Name) (u : ℕ) (n : Name) → IsTidyName first.avoid n → (u ≡ 0 → n ≡ first) → is_wrong_name first u n ≡ false
rightly_named first u n t h = or_false (nat_eq u 0 && not (same_name n first)) (is_misnamed first n) (elim (cases_Bool (nat_eq u 0)) [
  | inl e ↦ ap (λ b. b && not (same_name n first)) e ∙ ap not (subst (λ m. same_name n m ≡ true) (h (eqb-true u 0 e)) (name_refl n))
  | inr e ↦ ap (λ b. b && not (same_name n first)) e
]) (tidy_named first n t)

module _ (limit : ℕ) (first : Name) (simples : List (List ℕ)) (start : IsTidyName first.avoid first) (fits : grown_size (grow_from simples first limit) ≤ limit) where
  abbrev S : System
  S = as_system (grow_from simples first limit)

  pub canon : Canonical first.avoid simples first S
  canon = canonical first.avoid simples first limit S start.over (record { fits = fits; system = refl })

  -- its names are tidy
  pub found_tidy : Each (IsTidyName first.avoid) (grow_from simples first limit).found
  found_tidy = grow_each simples first (IsTidyName first.avoid) start (draft_tidy first.avoid simples) limit

  pub tidy : (u : ℕ) (d : Equation) → IsEquation S u d → IsTidyName first.avoid d.name
  tidy u d q =
      let g = grow_from simples first limit in
      found_tidy d.name (get_In g.found u d.name (equation_at g.found g.written u d q).0)

  -- and equation 0 has the first
  pub first_named : (d : Equation) → IsEquation S 0 d → d.name ≡ first
  first_named d q = let f = canon.first in ap (λ (x : Equation). x.name) (some_same d f.0 (sym q ∙ f.1)) ∙ f.2
    where
      some_same : (a b : Equation) → Some a ≡ Some b → a ≡ b
      some_same a b e = cc

  -- so no equation is at fault, whatever the limit of the systems that are asked for
  pub canonical_faultless : Each IsSimple simples → Once simples → (most u : ℕ) (d : Equation) → IsEquation S u d → IsFaultless most first S simples u d
  canonical_faultless g o most u d q =
      let s = canon.stands u d q in
      let t = tidy u d q in
      record {
        name = rightly_named first u d.name t (λ e. first_named d (subst (λ k. IsEquation S k d) e q));
        points = equation_points S simples g o d s;
        nodes = equation_nodes S simples g o d s;
        cells = λ root i l j.
            let k = equation_names S simples g o d s root i in
            let w = good_leaves root d.name (first_sign root) t.over.avoids t.over.requires l (subst (λ x. In l (leaves root d.name x)) k j) in
            ap (λ x. ending_flaw most simples root x l.cell) w;
      }
