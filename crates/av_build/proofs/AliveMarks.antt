-- An equation is marked, once as many levels are allowed as there are equations, exactly where it has a derivation tree.
use Rattle.std.proofs.Common.{◌≡◌, ℕ, zero, suc, ◌<◌, ◌≤◌, ◌⊎◌, inl, inr, List, [], ◌∷◌, map, length, get_or, slice_get, Bool, true, false, Option, Some, None, is_some, refl, sym, ap, ◌∙◌, subst, arith, true≢false}
use Rattle.std.specs.List.{list_all, list_any, count_by}
use Rattle.std.proofs.lemmas.Bool.{and_parts, and_from}
use Rattle.std.proofs.lemmas.List.{length-map}
use Rattle.std.proofs.lemmas.List.Sums.{count_by-le-length}
use Rattle.av_perm.specs.Members.{In}
use Rattle.av_perm.proofs.Tests.{any_from, any_to, all_from}
use Rattle.av_perm.proofs.ListLaws.{get_In}
use Rattle.av_sys.specs.declared.terms.Term.{Term}
use Rattle.av_sys.specs.declared.terms.Equation.{Equation}
use Rattle.av_sys.specs.declared.terms.System.{System}
use Rattle.av_sys.specs.Terms.{terms_of, term_at, children_of}
use Rattle.av_sys.specs.Trees.{Tree, Trees, none, more, are_valid, IsTree}
use Rattle.av_sys.proofs.TreeSizes.{first_valid, others_valid}
use Rattle.av_sys.proofs.Subtrees.{more_valid, equation_term, term_valid}
use Rattle.av_build.specs.Alive.{IsAlive, has_marked, mark_next, marks_within, alive_marks, alive, AliveLaw}
use Rattle.av_build.specs.Rounds.{Below}
use Rattle.av_build.proofs.Growing.{In_get}
use Rattle.av_build.proofs.MarkOrder.{below_cases, below_trans, next_below, none_below}

-- allowing one more level keeps the marks
marks_grow : (es : List Equation) (k : ℕ) → Below (marks_within es k) (mark_next es (marks_within es k))
unfolding marks_within
marks_grow es zero = none_below es (mark_next es (map (λ (e : Equation). false) es)) (length-map es (λ (e : Equation). list_any (has_marked (map (λ (e : Equation). false) es)) e.terms))
marks_grow es (suc k) = next_below es (marks_within es k) (mark_next es (marks_within es k)) (marks_grow es k)

-- there is a mark for each equation
pub marks_length : (es : List Equation) (k : ℕ) → length (marks_within es k) ≡ length es
unfolding marks_within
marks_length es zero = length-map es (λ (e : Equation). false)
marks_length es (suc k) = length-map es (λ (e : Equation). list_any (has_marked (marks_within es k)) e.terms)

-- how many marks there are
abbrev count : List Bool → ℕ
count marks = count_by (λ mark. mark) marks

-- with so many levels there are as many marks, or one level more changes nothing
enough_or_closed : (es : List Equation) (k : ℕ) → (k ≤ count (marks_within es k)) ⊎ (mark_next es (marks_within es k) ≡ marks_within es k)
unfolding marks_within
enough_or_closed es zero = inl (omega arith)
enough_or_closed es (suc k) = by (enough_or_closed es k) (below_cases (marks_within es k) (mark_next es (marks_within es k)) (marks_grow es k))
  where
    stays : mark_next es (marks_within es k) ≡ marks_within es k → mark_next es (mark_next es (marks_within es k)) ≡ mark_next es (marks_within es k)
    stays e = ap (mark_next es) e

    by : (k ≤ count (marks_within es k)) ⊎ (mark_next es (marks_within es k) ≡ marks_within es k)
        → (marks_within es k ≡ mark_next es (marks_within es k)) ⊎ (count (marks_within es k) < count (mark_next es (marks_within es k)))
        → (suc k ≤ count (mark_next es (marks_within es k))) ⊎ (mark_next es (mark_next es (marks_within es k)) ≡ mark_next es (marks_within es k))
    by (inr e) o = inr (stays e)
    by (inl h) (inl e) = inr (stays (sym e))
    by (inl h) (inr l) = inl (omega arith)

-- so with as many levels as equations one more changes nothing
pub alive_closed : (es : List Equation) → mark_next es (alive_marks es) ≡ alive_marks es
alive_closed es = by (enough_or_closed es (length es)) (below_cases (alive_marks es) (mark_next es (alive_marks es)) (marks_grow es (length es)))
  where
    most : count (mark_next es (alive_marks es)) ≤ length es
    most = omega (arith, count_by-le-length (λ (mark : Bool). mark) (mark_next es (alive_marks es)), length-map es (λ (e : Equation). list_any (has_marked (alive_marks es)) e.terms))

    by : (length es ≤ count (alive_marks es)) ⊎ (mark_next es (alive_marks es) ≡ alive_marks es)
        → (alive_marks es ≡ mark_next es (alive_marks es)) ⊎ (count (alive_marks es) < count (mark_next es (alive_marks es)))
        → mark_next es (alive_marks es) ≡ alive_marks es
    by (inr e) o = e
    by (inl h) (inl e) = sym e
    by (inl h) (inr l) = absurd (omega (arith, most))

-- marks that one level more doesn't add to hold those within any number of levels
least : (es : List Equation) (marks : List Bool) (k : ℕ) → length marks ≡ length es → Below (mark_next es marks) marks → Below (marks_within es k) marks
unfolding marks_within
least es marks zero long closed = none_below es marks long
least es marks (suc k) long closed =
    below_trans (mark_next es (marks_within es k)) (mark_next es marks) marks (next_below es (marks_within es k) marks (least es marks k long closed)) closed

-- so they hold those of the equations that are alive
pub alive_least : (es : List Equation) (marks : List Bool) → length marks ≡ length es → Below (mark_next es marks) marks → Below (alive_marks es) marks
alive_least es marks = least es marks (length es)

-- at first there are no marks, and these are sound
pub none_sound : (es : List Equation) → Below (map (λ (e : Equation). false) es) (alive_marks es)
none_sound es = none_below es (alive_marks es) (marks_length es (length es))

-- the mark of an equation that passes a test
pub mark_at : (es : List Equation) (f : Equation → Bool) (u : ℕ) (e : Equation) → slice_get es u ≡ Some e → f e ≡ true → get_or (map f es) u false ≡ true
mark_at [] f u e q h = absurd (let z : None ≡ Some e = q in cc)
mark_at (d ∷ es) f zero e q h = let z : Some d ≡ Some e = q in let s : d ≡ e = cc in ap f s ∙ h
mark_at (d ∷ es) f (suc u) e q h = mark_at es f u e q h

-- an equation with such a mark is there, and passes the test
pub marked_at : (es : List Equation) (f : Equation → Bool) (u : ℕ) → get_or (map f es) u false ≡ true → (e : Equation) × (slice_get es u ≡ Some e) × (f e ≡ true)
marked_at [] f u h = absurd (true≢false (sym h))
marked_at (e ∷ es) f zero h = (e, refl, h)
marked_at (e ∷ es) f (suc u) h = marked_at es f u h

-- where one level more changes nothing, each equation that has a tree is marked
module _ (S : System) (marks : List Bool) (closed : mark_next S.equations marks ≡ marks) where
  -- an equation with a term whose children are all marked is marked
  marked_by : (u t : ℕ) (o : Option Term) → term_at S u t ≡ o → is_some o ≡ true → list_all (λ c. get_or marks c false) (children_of o) ≡ true → get_or marks u false ≡ true
  marked_by u t None f s h = absurd (true≢false (sym s))
  marked_by u t (Some x) f s h = by_equation (slice_get S.equations u) refl f
    where
      by_equation : (p : Option Equation) → slice_get S.equations u ≡ p → slice_get (terms_of p) t ≡ Some x → get_or marks u false ≡ true
      by_equation None q g = absurd (let z : None ≡ Some x = g in cc)
      by_equation (Some e) q g =
          subst (λ m. get_or m u false ≡ true) closed
          (mark_at S.equations (λ (e : Equation). list_any (has_marked marks) e.terms) u e q (any_to (has_marked marks) e.terms x (get_In e.terms t x g) h))

  -- so are the equations of a list of trees
  all_marked : (us : List ℕ) (ts : Trees) → are_valid S us ts ≡ true → list_all (λ c. get_or marks c false) us ≡ true
  unfolding are_valid
  all_marked [] ts v = refl
  all_marked (u ∷ us) none v = absurd (true≢false (sym v))
  all_marked (u ∷ us) (more t subtrees others) v =
      let p = and_parts (is_some (term_at S u t)) (are_valid S (children_of (term_at S u t)) subtrees) (first_valid S u t us subtrees others v) in
      and_from (get_or marks u false) (list_all (λ c. get_or marks c false) us)
      (marked_by u t (term_at S u t) refl p.0 (all_marked (children_of (term_at S u t)) subtrees p.1))
      (all_marked us others (others_valid S u t us subtrees others v))

  -- and the equation of a tree
  tree_marked : (u : ℕ) (T : Tree) → IsTree S u T → get_or marks u false ≡ true
  tree_marked u T v =
      let p = and_parts (is_some (term_at S u T.term)) (are_valid S (children_of (term_at S u T.term)) T.subtrees) v in
      marked_by u T.term (term_at S u T.term) refl p.0 (all_marked (children_of (term_at S u T.term)) T.subtrees p.1)

-- an equation with a tree passes the test
pub tree_alive : (S : System) (u : ℕ) (T : Tree) → IsTree S u T → alive S u ≡ true
tree_alive S u T v = tree_marked S (alive_marks S.equations) (alive_closed S.equations) u T v

-- with no level nothing is marked
none_marked : (es : List Equation) (u : ℕ) → get_or (map (λ (e : Equation). false) es) u false ≡ true → ⊥
none_marked [] u h = true≢false (sym h)
none_marked (e ∷ es) zero h = true≢false (sym h)
none_marked (e ∷ es) (suc u) h = none_marked es u h

-- each equation that is marked has a tree
module _ (S : System) where
  -- trees of equations each of which has one
  some_trees : (cs : List ℕ) → ((c : ℕ) → In c cs → IsAlive S c) → (ts : Trees) × (are_valid S cs ts ≡ true)
  unfolding are_valid
  some_trees [] h = (none, refl)
  some_trees (c ∷ cs) h =
      let t = h c (inl refl) in
      let r = some_trees cs (λ d i. h d (inr i)) in
      (more t.0.term t.0.subtrees r.0, more_valid S c t.0 cs r.0 t.1 r.1)

  -- a term whose children all have a tree makes one
  term_tree : (u t : ℕ) (x : Term) (marks : List Bool) → term_at S u t ≡ Some x → has_marked marks x ≡ true → ((c : ℕ) → get_or marks c false ≡ true → IsAlive S c) → IsAlive S u
  term_tree u t x marks f m h =
      let r = some_trees (children_of (Some x)) (λ c i. h c (all_from (λ c. get_or marks c false) (children_of (Some x)) m c i)) in
      (record { term = t; subtrees = r.0 }, term_valid S u t x r.0 f r.1)

  -- so a marked equation is alive
  marked_alive : (k u : ℕ) → get_or (marks_within S.equations k) u false ≡ true → IsAlive S u
  unfolding marks_within
  marked_alive zero u h = absurd (none_marked S.equations u h)
  marked_alive (suc k) u h =
      let e = marked_at S.equations (λ (e : Equation). list_any (has_marked (marks_within S.equations k)) e.terms) u h in
      let x = any_from (has_marked (marks_within S.equations k)) e.0.terms e.2 in
      let t = In_get e.0.terms x.0 x.1 in
      term_tree u t.0 x.0 (marks_within S.equations k) (equation_term S u t.0 e.0 e.1 ∙ t.1) x.2 (marked_alive k)

-- an equation that passes the test has a tree
pub alive_tree : (S : System) (u : ℕ) → alive S u ≡ true → IsAlive S u
alive_tree S u h = marked_alive S (length S.equations) u h

-- the test tells which equations are alive
pub alive_law : AliveLaw
alive_law S u = (alive_tree S u, λ t. tree_alive S u t.0 t.1)

-- no equation past the last is alive
pub alive_within : (S : System) (u : ℕ) → alive S u ≡ true → u < length S.equations
alive_within S u h = omega (arith, within (alive_marks S.equations) u h, marks_length S.equations (length S.equations))
  where
    within : (marks : List Bool) (c : ℕ) → get_or marks c false ≡ true → c < length marks
    within [] c e = absurd (true≢false (sym e))
    within (x ∷ marks) zero e = omega arith
    within (x ∷ marks) (suc c) e = omega (arith, within marks c e)
