-- Blocks that lie in a cell mean the names of its children, and blocks that meet the names of a term mean them.
use Rattle.std.proofs.Common.{◌≡◌, ℕ, suc, ◌+◌, ◌<◌, ◌≤◌, inl, inr, List, [], ◌∷◌, map, length, slice_get, Bool, true, false, cond, Option, Some, None, refl, sym, ap, ◌∙◌, subst, arith}
use Rattle.std.specs.List.{list_all, list_any}
use Rattle.std.proofs.lemmas.Bool.{cases_Bool, and_parts}
use Rattle.av_perm.specs.Members.{In}
use Rattle.av_perm.specs.Relations.{IsWord, block}
use Rattle.av_perm.proofs.Tests.{any_from}
use Rattle.av_perm.proofs.ListLaws.{get_within}
use Rattle.av_sys.specs.declared.names.Sign.{Sign}
use Rattle.av_sys.specs.declared.names.Sign.TheVariants.{C}
use Rattle.av_sys.specs.declared.names.Constraint.{Constraint}
use Rattle.av_sys.specs.declared.names.Name.{Name}
use Rattle.av_sys.specs.declared.terms.Equation.{Equation}
use Rattle.av_sys.specs.declared.terms.System.{System}
use Rattle.av_sys.specs.Names.{IsSigned, InRegion, Meets, Means}
use Rattle.av_sys.specs.Exact.{MeansOf, MeansAt}
use Rattle.av_name.proofs.Growth.{IsFit}
use Rattle.av_split.specs.Boxes.{Box, child_of}
use Rattle.av_build.specs.Drafts.{name_of, child_names}
use Rattle.av_build.specs.Canonical.{same_sign}
use Rattle.av_build.specs.Laws.{IsNameOver}
use Rattle.av_build.proofs.NameNumbers.{sign_equal}
use Rattle.av_build.proofs.TermShapes.{MeanAt}
use Rattle.av_walk.specs.Leaves.{name_of_equation, names_at}
use Rattle.av_check.specs.declared.verdict.Flaw.TheVariants.{Lost, Large}
use Rattle.av_check.specs.Verdicts.{are_signed, is_dead, is_large, bare_flaw}
use Rattle.av_check.proofs.NameLiterals.{Covers}

-- a constraint of words, and a word of its region
abbrev pub Lives : Constraint → List ℕ → Type 0
Lives c σ = IsFit c × InRegion c σ

-- the name of a constraint with a sign
name_lives : (s : Sign) (c : Constraint) (σ : List ℕ) → Lives c σ → IsSigned s σ → IsNameOver [] (name_of s c) × Means (name_of s c) σ
name_lives s c σ l h = (
  record { avoids = l.0.avoid; requires = l.0.require; long = l.0.long; covers = λ b i. absurd i },
  record { word = l.1.word; meets = l.1.meets; signed = h },
)

-- a name of a child, and the block that means it
pub record HasBlock (m : Name) (αs : List (List ℕ)) : Type 0 where
  pub child : ℕ
  pub within : child < length αs
  pub over : IsNameOver [] m
  pub means : Means m (block αs child)

later_block : (m : Name) (α : List ℕ) (αs : List (List ℕ)) → HasBlock m αs → HasBlock m (α ∷ αs)
later_block m α αs h = record { child = suc h.child; within = let w = h.within in omega arith; over = h.over; means = h.means }

first_block : (m : Name) (s : Sign) (c : Constraint) (α : List ℕ) (αs : List (List ℕ)) → Lives c α → IsSigned s α → m ≡ name_of s c → HasBlock m (α ∷ αs)
first_block m s c α αs l h e = let r = name_lives s c α l h in record { child = 0; within = omega arith; over = subst (IsNameOver []) (sym e) r.0; means = subst (λ k. Means k α) (sym e) r.1 }

rest_blocks : (box : Box) (αs : List (List ℕ)) → length box ≡ length αs → ((i : ℕ) → i < length box → Lives (child_of box i) (block αs i)) → (m : Name) → In m (map (name_of C) box) → HasBlock m αs
rest_blocks [] αs e r m i = absurd i
rest_blocks (c ∷ box) [] e r m i = absurd (omega (arith, e))
rest_blocks (c ∷ box) (α ∷ αs) e r m (inl q) = first_block m C c α αs (r 0 (omega arith)) tt q
rest_blocks (c ∷ box) (α ∷ αs) e r m (inr i) = later_block m α αs (rest_blocks box αs (omega (arith, e)) (λ j h. r (suc j) (omega arith)) m i)

-- so each name of a cell
pub cell_blocks : (first : Sign) (box : Box) (αs : List (List ℕ)) → length box ≡ length αs → ((i : ℕ) → i < length box → Lives (child_of box i) (block αs i)) → IsSigned first (block αs 0)
    → (m : Name) → In m (child_names first box) → HasBlock m αs
cell_blocks first [] αs e r s m i = absurd i
cell_blocks first (c ∷ box) [] e r s m i = absurd (omega (arith, e))
cell_blocks first (c ∷ box) (α ∷ αs) e r s m (inl q) = first_block m first c α αs (r 0 (omega arith)) s q
cell_blocks first (c ∷ box) (α ∷ αs) e r s m (inr i) = later_block m α αs (rest_blocks box αs (omega (arith, e)) (λ j h. r (suc j) (omega arith)) m i)

-- where a bare leaf has no flaw the name of some child is dead
pub bare_dead : (limit : ℕ) (roots : List (List ℕ)) (ns : List Name) → bare_flaw limit roots ns ≡ None → (m : Name) × In m ns × (is_dead limit roots m ≡ true)
bare_dead limit roots ns e = elim (cases_Bool (list_any (is_dead limit roots) ns)) [
  | inl h ↦ any_from (is_dead limit roots) ns h
  | inr h ↦ absurd (flawed (list_any (is_large limit roots) ns) (ap (λ b. cond b None (cond (list_any (is_large limit roots) ns) (Some Large) (Some Lost))) (sym h) ∙ e))
]
  where
    flawed : (b : Bool) → cond b (Some Large) (Some Lost) ≡ None → ⊥
    flawed true q = let z : Some Large ≡ None = q in cc
    flawed false q = let z : Some Lost ≡ None = q in cc

-- a word that meets the lists and the sign of an equation means its name
means_of : (S : System) (c : ℕ) (s : Sign) (σ : List ℕ) → c < length S.equations → IsWord σ → Meets (name_of_equation (slice_get S.equations c)).avoid (name_of_equation (slice_get S.equations c)).require σ
    → same_sign (name_of_equation (slice_get S.equations c)).sign s ≡ true → IsSigned s σ → MeansAt S c σ
means_of S c s σ h w m t g = by (slice_get S.equations c) (get_within S.equations c h) m t
  where
    by : (o : Option Equation) → (e : Equation) × (o ≡ Some e) → Meets (name_of_equation o).avoid (name_of_equation o).require σ → same_sign (name_of_equation o).sign s ≡ true → MeansOf o σ
    by None r m t = absurd (let z : None ≡ Some r.0 = r.1 in cc)
    by (Some e) r m t = record { word = w; meets = m; signed = subst (λ k. IsSigned k σ) (sym (sign_equal e.name.sign s t)) g }

-- equations of a system
abbrev pub InRange : System → List ℕ → Type 0
InRange S cs = (c : ℕ) → In c cs → c < length S.equations

rest_means : (S : System) (αs : List (List ℕ)) (i : ℕ) (cs : List ℕ) (βs : List (List ℕ)) → ((j : ℕ) → block βs j ≡ block αs (i + j)) → length βs ≡ length cs → ((j : ℕ) → j < length βs → IsWord (block βs j))
    → InRange S cs → Covers αs i (names_at S cs) → list_all (λ (m : Name). same_sign m.sign C) (names_at S cs) ≡ true → MeanAt S cs βs
rest_means S αs i [] [] e l w r c t = tt
rest_means S αs i [] (β ∷ βs) e l w r c t = absurd (omega (arith, l))
rest_means S αs i (d ∷ cs) [] e l w r c t = absurd (omega (arith, l))
rest_means S αs i (d ∷ cs) (β ∷ βs) e l w r c t =
    let p = and_parts (same_sign (name_of_equation (slice_get S.equations d)).sign C) (list_all (λ (m : Name). same_sign m.sign C) (names_at S cs)) t in
    let n : i + 0 ≡ i = omega arith in (
      means_of S d C β (r d (inl refl)) (w 0 (omega arith)) (subst (Meets (name_of_equation (slice_get S.equations d)).avoid (name_of_equation (slice_get S.equations d)).require) (sym (e 0 ∙ ap (block αs) n)) c.0) p.0 tt,
      rest_means S αs (suc i) cs βs (λ j. let k : i + suc j ≡ suc i + j = omega arith in e (suc j) ∙ ap (block αs) k) (omega (arith, l)) (λ j h. w (suc j) (omega arith)) (λ x q. r x (inr q)) c.1 p.1,
    )

-- blocks that meet the names of a term, and the sign of the first, mean them
pub covers_means : (S : System) (first : Sign) (cs : List ℕ) (αs : List (List ℕ)) → length αs ≡ length cs → ((j : ℕ) → j < length αs → IsWord (block αs j))
    → InRange S cs → Covers αs 0 (names_at S cs) → are_signed first (names_at S cs) ≡ true → IsSigned first (block αs 0) → MeanAt S cs αs
covers_means S first [] [] l w r c t s = tt
covers_means S first [] (β ∷ βs) l w r c t s = absurd (omega (arith, l))
covers_means S first (d ∷ cs) [] l w r c t s = absurd (omega (arith, l))
covers_means S first (d ∷ cs) (β ∷ βs) l w r c t s =
    let p = and_parts (same_sign (name_of_equation (slice_get S.equations d)).sign first) (list_all (λ (m : Name). same_sign m.sign C) (names_at S cs)) t in (
      means_of S d first β (r d (inl refl)) (w 0 (omega arith)) c.0 p.0 s,
      rest_means S (β ∷ βs) 1 cs βs (λ j. let k : suc j ≡ 1 + j = omega arith in ap (block (β ∷ βs)) k) (omega (arith, l)) (λ j h. w (suc j) (omega arith)) (λ x q. r x (inr q)) c.1 p.1,
    )

-- the first of words that mean the names has the sign of the first child
pub mean_first : (S : System) (first : Sign) (cs : List ℕ) (αs : List (List ℕ)) → 1 ≤ length cs → MeanAt S cs αs → are_signed first (names_at S cs) ≡ true → IsSigned first (block αs 0)
mean_first S first [] αs h m t = absurd (omega arith)
mean_first S first (d ∷ cs) [] h m t = absurd m
mean_first S first (d ∷ cs) (β ∷ βs) h m t =
    by (slice_get S.equations d) m.0 (and_parts (same_sign (name_of_equation (slice_get S.equations d)).sign first) (list_all (λ (m : Name). same_sign m.sign C) (names_at S cs)) t).0
  where
    by : (o : Option Equation) → MeansOf o β → same_sign (name_of_equation o).sign first ≡ true → IsSigned first β
    by None k q = absurd k
    by (Some e) k q = subst (λ s. IsSigned s β) (sign_equal e.name.sign first q) k.signed
