-- What a verdict of yes says of each equation.
use Rattle.std.proofs.Common.{◌≡◌, ℕ, zero, suc, ◌+◌, ◌-◌, ◌^◌, inl, inr, List, [], ◌∷◌, slice_get, Bool, true, false, not, nat_eq, eqb-true, Option, Some, None, refl, sym, ap, ◌∙◌, arith}
use Rattle.std.proofs.lemmas.Bool.{not-false}
use Rattle.av_perm.specs.Members.{In}
use Rattle.av_perm.proofs.Membership.{Each}
use Rattle.av_sys.specs.declared.names.Name.{Name}
use Rattle.av_sys.specs.declared.terms.Term.TheVariants.{Node}
use Rattle.av_sys.specs.declared.terms.Equation.{Equation}
use Rattle.av_sys.specs.declared.terms.System.{System}
use Rattle.av_split.specs.Boxes.{Box}
use Rattle.av_walk.specs.Walk.{Leaf}
use Rattle.av_walk.specs.Leaves.{leaves_of}
use Rattle.av_check.specs.declared.fault.Fault.{Fault}
use Rattle.av_check.specs.declared.fault.Fault.TheVariants as faults
use Rattle.av_check.specs.declared.verdict.Flaw.{Flaw}
use Rattle.av_check.specs.declared.verdict.Verdict.{Verdict}
use Rattle.av_check.specs.declared.verdict.Verdict.TheVariants as verdicts
use Rattle.av_check.specs.Verdicts.{at_most, first_of, first_some, some_if, is_wrong_name, count_points, points_due, roots_for, wrong_root, is_wrong_node, leaf_flaw, cell_fault, first_leaf, root_fault, root_found, name_fault, point_fault, node_fault, cells_fault, equation_fault, verdict_of, verdict_or, verdict_from}

-- where the first of two answers is none, neither is one
pub first_of_none : {X : Type 0} (x y : Option X) → first_of x y ≡ None → (x ≡ None) × (y ≡ None)
first_of_none None y e = (refl, e)
first_of_none (Some v) y e = absurd (let z : Some v ≡ None = e in cc)

pub first_some_none : {A X : Type 0} (f : A → Option X) (xs : List A) → first_some f xs ≡ None → Each (λ x. f x ≡ None) xs
first_some_none f [] e x i = absurd i
first_some_none f (y ∷ xs) e x (inl q) = ap f q ∙ (first_of_none (f y) (first_some f xs) e).0
first_some_none f (y ∷ xs) e x (inr i) = first_some_none f xs (first_of_none (f y) (first_some f xs) e).1 x i

pub some_if_none : {X : Type 0} (b : Bool) (x : X) → some_if b x ≡ None → b ≡ false
some_if_none true x e = absurd (let z : Some x ≡ None = e in cc)
some_if_none false x e = refl

root_found_none : (o : Option (List ℕ)) → root_found o ≡ None → o ≡ None
root_found_none None e = refl
root_found_none (Some root) e = absurd (let z : Some (faults.Root root) ≡ None = e in cc)

cell_fault_none : (root : List ℕ) (k : ℕ) (o : Option Flaw) → cell_fault root k o ≡ None → o ≡ None
cell_fault_none root k None e = refl
cell_fault_none root k (Some flaw) e = absurd (let z : Some (faults.Cell root (at_most (2 ^ 64 - 1) k) flaw) ≡ None = e in cc)

pub first_leaf_none : (f : Leaf Box → Option Flaw) (root : List ℕ) (k : ℕ) (ls : List (Leaf Box)) → first_leaf f root k ls ≡ None → Each (λ l. f l ≡ None) ls
first_leaf_none f root k [] e l i = absurd i
first_leaf_none f root k (m ∷ ls) e l (inl q) = ap f q ∙ cell_fault_none root k (f m) (first_of_none (cell_fault root k (f m)) (first_leaf f root (suc k) ls) e).0
first_leaf_none f root k (m ∷ ls) e l (inr i) = first_leaf_none f root (suc k) ls (first_of_none (cell_fault root k (f m)) (first_leaf f root (suc k) ls) e).1 l i

-- an equation without a fault
pub record IsFaultless (limit : ℕ) (first : Name) (S : System) (simples : List (List ℕ)) (u : ℕ) (e : Equation) : Type 0 where
  pub name : is_wrong_name first u e.name ≡ false
  pub points : count_points e.terms ≡ points_due e.name
  pub nodes : (root cs : List ℕ) → In (Node root cs) e.terms → is_wrong_node S simples e.name root cs ≡ false
  pub cells : (root : List ℕ) → In root (roots_for e.name.sign simples) → Each (λ l. leaf_flaw limit simples root l ≡ None) (leaves_of S root e)

-- so where none is found
pub faultless : (limit : ℕ) (first : Name) (S : System) (simples : List (List ℕ)) (u : ℕ) (e : Equation) → equation_fault limit first S simples u e ≡ None
    → IsFaultless limit first S simples u e
faultless limit first S simples u e h =
    let a = first_of_none (name_fault first u e) (first_of (point_fault e) (first_of (node_fault S simples e) (cells_fault limit S simples e))) h in
    let b = first_of_none (point_fault e) (first_of (node_fault S simples e) (cells_fault limit S simples e)) a.1 in
    let c = first_of_none (node_fault S simples e) (cells_fault limit S simples e) b.1 in
    let points = some_if_none (not (nat_eq (count_points e.terms) (points_due e.name))) faults.Points b.0 in
    let nodes = first_some_none (wrong_root S simples e.name) e.terms (root_found_none (first_some (wrong_root S simples e.name) e.terms) c.0) in
    let cells = first_some_none (root_fault limit S simples e) (roots_for e.name.sign simples) c.1 in
    record {
      name = some_if_none (is_wrong_name first u e.name) faults.Name a.0;
      points = eqb-true (count_points e.terms) (points_due e.name) (not-false (nat_eq (count_points e.terms) (points_due e.name)) points);
      nodes = λ root cs i. some_if_none (is_wrong_node S simples e.name root cs) root (nodes (Node root cs) i);
      cells = λ root i. first_leaf_none (leaf_flaw limit simples root) root 0 (leaves_of S root e) (cells root i);
    }

-- no fault has the verdict yes
fault_not_yes : (u : ℕ) (x : Fault) → verdict_of u x ≡ verdicts.Yes → ⊥
fault_not_yes u faults.Name e = let z : verdicts.Name u ≡ verdicts.Yes = e in cc
fault_not_yes u faults.Points e = let z : verdicts.Point u ≡ verdicts.Yes = e in cc
fault_not_yes u (faults.Root root) e = let z : verdicts.Root u root ≡ verdicts.Yes = e in cc
fault_not_yes u (faults.Cell root k flaw) e = let z : verdicts.Cell u root k flaw ≡ verdicts.Yes = e in cc

yes_parts : (u : ℕ) (o : Option Fault) (rest : Verdict) → verdict_or u o rest ≡ verdicts.Yes → (o ≡ None) × (rest ≡ verdicts.Yes)
yes_parts u None rest e = (refl, e)
yes_parts u (Some x) rest e = absurd (fault_not_yes u x e)

-- where the verdict is yes no equation has a fault
pub yes_none : (f : ℕ → Equation → Option Fault) (k : ℕ) (es : List Equation) → verdict_from f k es ≡ verdicts.Yes → (u : ℕ) (e : Equation) → slice_get es u ≡ Some e → f (k + u) e ≡ None
yes_none f k [] h u e q = absurd (let z : None ≡ Some e = q in cc)
yes_none f k (d ∷ es) h zero e q =
    let z : Some d ≡ Some e = q in
    let s : d ≡ e = cc in
    let n : k + 0 ≡ k = omega arith in
    ap (λ m. f m e) n ∙ ap (f k) (sym s) ∙ (yes_parts k (f k d) (verdict_from f (suc k) es) h).0
yes_none f k (d ∷ es) h (suc u) e q =
    let n : k + suc u ≡ suc k + u = omega arith in
    ap (λ m. f m e) n ∙ yes_none f (suc k) es (yes_parts k (f k d) (verdict_from f (suc k) es) h).1 u e q
