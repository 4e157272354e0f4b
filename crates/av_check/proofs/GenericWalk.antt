-- The walk, for any kind of box and question: by induction over its cells, what each of its leaves is, and that what lies in the
-- first box lies in one leaf and in no two.
use Rattle.std.proofs.Common.{◌≡◌, ℕ, zero, suc, ◌<◌, ◌≤◌, ◌⊎◌, inl, inr, List, [], ◌∷◌, ◌++◌, Bool, true, false, refl, sym, subst, arith}
use Rattle.av_perm.specs.Members.{In}
use Rattle.av_perm.proofs.Membership.{Each, SomeIn, In_one, In_append_cases, append_left, append_right}
use Rattle.av_name.specs.declared.constraints.Known.TheVariants.{Open}
use Rattle.av_split.specs.Split.{Demand, Rules}
use Rattle.av_split.proofs.GenericSplit.{Lawful, Meant, Apart, Apart_append}
use Rattle.av_walk.specs.Walk.{Literal, Ending, ends, splits, treatment, Leaf, walk}
use Rattle.av_walk.proofs.GenericWalk.{questions_with, splits_asked, never_stuck, treatment_cases, open_in, falls, walk_leaf_only, walk_parts}
use Rattle.av_check.proofs.CellTreatments.{IsSettledLeaf, IsFair, ends_settled}

-- a box that is split, at an open question of those that there are
pub record IsCut {B Q : Type 0} (r : Rules B Q) (ds : List (Demand Q)) (ts : List (List (Literal Q))) (b : B) (q : Q) : Type 0 where
  pub treated : treatment r ds ts b ≡ splits q
  pub unknown : r.known b q ≡ Open
  pub there : In q (questions_with ds ts)

-- the leaf of a box that ends
abbrev pub leaf_of : {B : Type 0} → B → Ending → Leaf B
leaf_of b x = record { cell = b; ending = x }

module _ {B Q : Type 0} (r : Rules B Q) (ds : List (Demand Q)) (ts : List (List (Literal Q))) where
  -- a box ends or is split
  pub box_cases : (b : B) → ((x : Ending) × (treatment r ds ts b ≡ ends x)) ⊎ ((q : Q) × IsCut r ds ts b q)
  box_cases b = elim (treatment_cases (treatment r ds ts b)) [
    | inl k ↦ inl k
    | inr (inl k) ↦ let a = splits_asked (r.known b) ds ts k.0 k.1 in inr (k.0, record { treated = k.1; unknown = a.0; there = a.1 })
    | inr (inr k) ↦ absurd (never_stuck (r.known b) ds ts k)
  ]

module _ {B Q : Type 0} (r : Rules B Q) (Fine : B → Type 0) (Apt : Q → Type 0) (law : Lawful r Fine Apt) (ds : List (Demand Q)) (ts : List (List (Literal Q))) (apt : Each Apt (questions_with ds ts)) where
  -- a part of a box that is split has fewer open questions, and is fine
  fewer : (w : Bool) (b : B) (q : Q) → Fine b → IsCut r ds ts b q → open_in r Fine Apt law ds ts apt (r.settle w b q) < open_in r Fine Apt law ds ts apt b
  fewer w b q f c = falls r Fine Apt law ds ts apt w b q f c.there c.unknown

  part_fine : (w : Bool) (b : B) (q : Q) → Fine b → IsCut r ds ts b q → Fine (r.settle w b q)
  part_fine w b q f c = law.fine w b q f (apt q c.there) c.unknown

  -- what holds of a box that ends and its leaf, and, where it holds of both parts of a box that is split, of the whole, holds of
  -- each box and its leaves
  walk_induct : (P : B → List (Leaf B) → Type 0) → ((b : B) (x : Ending) → Fine b → treatment r ds ts b ≡ ends x → P b (leaf_of b x ∷ []))
      → ((b : B) (q : Q) (xs ys : List (Leaf B)) → Fine b → IsCut r ds ts b q → P (r.settle false b q) xs → P (r.settle true b q) ys → P b (xs ++ ys))
      → (d : ℕ) (b : B) → Fine b → open_in r Fine Apt law ds ts apt b ≤ d → P b (walk r ds ts b)
  walk_induct P given cut zero b f h = elim (box_cases r ds ts b) [
    | inl k ↦ subst (P b) (sym (walk_leaf_only r Fine Apt law ds ts apt b k.0 k.1)) (given b k.0 f k.1)
    | inr k ↦ absurd (omega (arith, fewer false b k.0 f k.1))
  ]
  walk_induct P given cut (suc d) b f h = elim (box_cases r ds ts b) [
    | inl k ↦ subst (P b) (sym (walk_leaf_only r Fine Apt law ds ts apt b k.0 k.1)) (given b k.0 f k.1)
    | inr k ↦
        subst (P b) (sym (walk_parts r Fine Apt law ds ts apt b k.0 f k.1.treated))
        (cut b k.0 (walk r ds ts (r.settle false b k.0)) (walk r ds ts (r.settle true b k.0)) f k.1
        (walk_induct P given cut d (r.settle false b k.0) (part_fine false b k.0 f k.1) (omega (arith, fewer false b k.0 f k.1)))
        (walk_induct P given cut d (r.settle true b k.0) (part_fine true b k.0 f k.1) (omega (arith, fewer true b k.0 f k.1))))
  ]

  -- with as many steps as it has open questions
  leaves_induct : (P : B → List (Leaf B) → Type 0) → ((b : B) (x : Ending) → Fine b → treatment r ds ts b ≡ ends x → P b (leaf_of b x ∷ []))
      → ((b : B) (q : Q) (xs ys : List (Leaf B)) → Fine b → IsCut r ds ts b q → P (r.settle false b q) xs → P (r.settle true b q) ys → P b (xs ++ ys))
      → (b : B) → Fine b → P b (walk r ds ts b)
  leaves_induct P given cut b f = walk_induct P given cut (open_in r Fine Apt law ds ts apt b) b f (omega arith)

  -- a leaf is a fine box that is treated so
  pub record IsLeaf (l : Leaf B) : Type 0 where
    pub fine : Fine l.cell
    pub is : treatment r ds ts l.cell ≡ ends l.ending

  -- each leaf of a walk
  pub walk_leaf : (b : B) → Fine b → Each IsLeaf (walk r ds ts b)
  walk_leaf =
      leaves_induct (λ b. Each IsLeaf) (λ b x f e l i. subst IsLeaf (sym (In_one l (leaf_of b x) i)) (record { fine = f; is = e }))
      (λ b q xs ys f c g h l i. elim (In_append_cases xs ys l i) [ inl j ↦ g l j | inr j ↦ h l j ])

  -- one without a flaw of its own is settled
  pub leaf_settled : (l : Leaf B) → IsLeaf l → IsFair l.ending → IsSettledLeaf (r.known l.cell) ds ts l.ending
  leaf_settled l h fair = ends_settled (r.known l.cell) ds ts l.ending fair h.is

  module _ (Lies : B → Type 0) (H : Q → Type 0) (meant : Meant r Fine Apt Lies H) where
    -- what lies in the cell of a leaf
    abbrev pub LiesAt : Leaf B → Type 0
    LiesAt l = Lies l.cell

    -- what lies in a part of a box lies in the box
    part_lies : (w : Bool) (b : B) (q : Q) → Fine b → IsCut r ds ts b q → Lies (r.settle w b q) → Lies b
    part_lies w b q f c l = ((meant.lies w b q f (apt q c.there) c.unknown).0 l).0

    -- what lies in a box lies in a leaf of its walk
    pub walk_covers : (b : B) → Fine b → Lies b → SomeIn LiesAt (walk r ds ts b)
    walk_covers = leaves_induct (λ b ls. Lies b → SomeIn LiesAt ls) (λ b x f e l. (leaf_of b x, inl refl, l)) cut
      where
        cut : (b : B) (q : Q) (xs ys : List (Leaf B)) → Fine b → IsCut r ds ts b q → (Lies (r.settle false b q) → SomeIn LiesAt xs) → (Lies (r.settle true b q) → SomeIn LiesAt ys) → Lies b → SomeIn LiesAt (xs ++ ys)
        cut b q xs ys f c g h l = elim (meant.decided q (apt q c.there)) [
          | inl y ↦ let m = h ((meant.lies true b q f (apt q c.there) c.unknown).1 (l, y)) in (m.0, append_right xs ys m.0 m.1, m.2)
          | inr y ↦ let m = g ((meant.lies false b q f (apt q c.there) c.unknown).1 (l, y)) in (m.0, append_left xs ys m.0 m.1, m.2)
        ]

    -- what lies in a leaf lies in the box, and no two leaves hold the same
    abbrev Parts : B → List (Leaf B) → Type 0
    Parts b ls = ((l : Leaf B) → In l ls → LiesAt l → Lies b) × Apart LiesAt ls

    leaves_part : (b : B) → Fine b → Parts b (walk r ds ts b)
    leaves_part =
        leaves_induct Parts (λ b x f e. (λ l i m. subst LiesAt (In_one l (leaf_of b x) i) m, (λ y i. absurd i, tt)))
        (λ b q xs ys f c g h. (
          λ l i m. elim (In_append_cases xs ys l i) [ inl j ↦ part_lies false b q f c (g.0 l j m) | inr j ↦ part_lies true b q f c (h.0 l j m) ],
          Apart_append LiesAt xs ys g.1 h.1
              (λ x y i j l m. ((meant.lies false b q f (apt q c.there) c.unknown).0 (g.0 x i l)).1 ((meant.lies true b q f (apt q c.there) c.unknown).0 (h.0 y j m)).1),
        ))

    pub leaves_apart : (b : B) → Fine b → Apart LiesAt (walk r ds ts b)
    leaves_apart b f = (leaves_part b f).1
