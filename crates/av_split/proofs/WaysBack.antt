-- The way back along the cuts of a path, whatever is remembered of them.
use Rattle.std.proofs.Common.{◌≡◌, ◌<◌, ◌++◌, inl, inr, List, [], ◌∷◌, ℕ, zero, suc, set, get_or, refl, Bool, true, false, cond, Option, Some, length, reverse, sym, ap, ◌∙◌, subst, arith}
use Rattle.std.proofs.lemmas.List.{length-set, get_or-set_same}
use Rattle.av_perm.specs.Members.{In}
use Rattle.av_split.specs.declared.cells.Cell.{Cell}
use Rattle.av_split.specs.declared.path.Path.{Path}
use Rattle.av_split.specs.declared.path.Turn.{Turn}
use Rattle.av_split.specs.declared.rows.Mark.{Mark}
use Rattle.av_split.specs.Boxes.{word_rules}
use Rattle.av_split.specs.Cells.{question_at}
use Rattle.av_split.specs.Marks.{box_of}
use Rattle.av_split.specs.Paths.{before, AreCutsBy, parts_left, parts_of, CanEnter, AreTurns, IsEntered, Either, GoesBack}
use Rattle.av_split.proofs.LastItems.{In_reverse}

-- the value of a known option
pub some : {A : Type 0} {x y : A} → Some x ≡ Some y → x ≡ y
some e = cc

-- an item that is put back
pub set_back : {A : Type 0} (xs : List A) (i : ℕ) (x d : A) → i < length xs → set (set xs i x) i (get_or xs i d) ≡ xs
set_back [] i x d h = absurd (omega arith)
set_back (y ∷ xs) zero x d h = refl
set_back (y ∷ xs) (suc i) x d h = ap (λ l. y ∷ l) (set_back xs i x d (omega arith))

-- it leads to the parts that are left, where entering the second part of a box does
pub back_parts : {S : Type 0} (ps : List (List ℕ)) (C : List (List Mark) → S → Cell → Type 0) (P : Path S → Type 0)
    → ((rows : List (List Mark)) (state : S) (cell : Cell) (cuts : List (Turn S)) (q : Path S) → C rows state cell → AreCutsBy C cuts rows → IsEntered true ps cell state rows cuts q
    → P q × (parts_of ps (Some q) ≡ word_rules.settle true (box_of ps rows) (question_at ps cell) ∷ parts_left ps cuts rows))
    → (turns : List (Turn S)) (rows : List (List Mark)) (next : Option (Path S)) → AreCutsBy C turns rows → GoesBack ps turns rows next → ((q : Path S) → next ≡ Some q → P q) × (parts_of ps next ≡ parts_left ps turns rows)
back_parts ps C P entered [] rows next c g = (λ q e. absurd (cc), ap (parts_of ps) g)
back_parts {S} ps C P entered (t ∷ turns) rows next c g = by t.required (back_parts ps C P entered turns (before t rows) next c.1) g
  where
    by : (r : Bool) → (GoesBack ps turns (before t rows) next → ((q : Path S) → next ≡ Some q → P q) × (parts_of ps next ≡ parts_left ps turns (before t rows)))
        → Either r (GoesBack ps turns (before t rows) next) ((p : Path S) × (next ≡ Some p) × IsEntered true ps t.cell t.state (before t rows) turns p)
        → ((q : Path S) → next ≡ Some q → P q)
        × (parts_of ps next ≡ cond r [] (word_rules.settle true (box_of ps (before t rows)) (question_at ps t.cell) ∷ []) ++ parts_left ps turns (before t rows))
    by true f g = f g
    by false f g =
        let e = entered (before t rows) t.state t.cell turns g.0 c.0 c.1 g.2 in (
          λ q s. let same : Some g.0 ≡ Some q = sym g.1 ∙ s in subst P (let i : g.0 ≡ q = cc in i) e.0,
          ap (parts_of ps) g.1 ∙ e.1,
        )

cuts_turns : {S : Type 0} (ps : List (List ℕ)) (C : List (List Mark) → S → Cell → Type 0) → ((rows : List (List Mark)) (state : S) (cell : Cell) → C rows state cell → CanEnter ps rows cell)
    → (turns : List (Turn S)) (rows : List (List Mark)) → AreCutsBy C turns rows → AreTurns ps turns rows
cuts_turns ps C enters [] rows c t i = absurd i
cuts_turns {S} ps C enters (s ∷ turns) rows c t i = by i (cuts_turns ps C enters turns (before s rows) c.1 t)
  where
    long : length (before s rows) ≡ length rows
    long = length-set rows s.cell.child s.row

    e : CanEnter ps (before s rows) s.cell
    e = enters (before s rows) s.state s.cell c.0

    by : In t (s ∷ turns) → (In t turns → (t.cell.child < length (before s rows)) × (t.cell.pattern < length ps) × (length t.row ≡ length ps)) → (t.cell.child < length rows) × (t.cell.pattern < length ps) × (length t.row ≡ length ps)
    by (inl q) h = subst (λ (u : Turn S). (u.cell.child < length rows) × (u.cell.pattern < length ps) × (length u.row ≡ length ps)) (sym q) (
      let l = e.child in omega (arith, long),
      e.pattern,
      ap length (sym (get_or-set_same rows s.cell.child s.row [] (let l = e.child in omega (arith, long)))) ∙ e.size,
    )
    by (inr j) h = subst (λ m. (t.cell.child < m) × (t.cell.pattern < length ps) × (length t.row ≡ length ps)) long (h j)

-- the cells of the cuts of a path are of the rows, where each can be entered
pub path_turns : {S : Type 0} (ps : List (List ℕ)) (C : List (List Mark) → S → Cell → Type 0) → ((rows : List (List Mark)) (state : S) (cell : Cell) → C rows state cell → CanEnter ps rows cell)
    → (turns : List (Turn S)) (rows : List (List Mark)) → AreCutsBy C (reverse turns) rows → AreTurns ps turns rows
path_turns ps C enters turns rows c t i = cuts_turns ps C enters (reverse turns) rows c t (In_reverse turns t i)
