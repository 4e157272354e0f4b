-- The rows once the pattern of a cell is settled are those of the cut box.
use Rattle.std.proofs.Common.{◌≡◌, ℕ, ◌<◌, inl, inr, List, [], length, get_or, set, Bool, false, sym, ap, ◌∙◌, subst, arith}
use Rattle.std.proofs.lemmas.Bool.{cases_eq}
use Rattle.std.proofs.lemmas.List.{map-set, length-set, get_or-set_same, get_or-set_other}
use Rattle.av_perm.specs.Relations.{IsWord}
use Rattle.av_name.specs.declared.constraints.Known.{Known}
use Rattle.av_name.specs.declared.constraints.Known.TheVariants.{Open}
use Rattle.av_split.specs.declared.cells.Cell.{Cell}
use Rattle.av_split.specs.declared.rows.Mark.{Mark}
use Rattle.av_split.specs.Boxes.{added, word_rules}
use Rattle.av_split.specs.Marks.{unmarked, once, relates, IsSettledRow, constraint_of, box_of}
use Rattle.av_split.specs.Cells.{question_at, known_at}
use Rattle.av_split.specs.Walk.{IsRow, AreRows}
use Rattle.av_split.proofs.MarkedRows.{settled_is, settled_row, settled_known}
use Rattle.av_split.proofs.RowBoxes.{child_is}

-- the rows once the pattern of a cell is settled
module _ (r : Bool) (k : ℕ) (ps : List (List ℕ)) (rows next : List (List Mark)) (row : List Mark) (cell : Cell) (is : AreRows k ps rows) (h : cell.child < k) (g : cell.pattern < length ps) (word : IsWord (get_or ps cell.pattern []))
    (unknown : known_at rows cell ≡ Open) (s : IsSettledRow r ps cell.pattern (get_or rows cell.child []) row) (e : next ≡ set rows cell.child row) where
  pub here : cell.child < length rows
  here = let n = is.count in omega arith

  pub next_box : box_of ps next ≡ word_rules.settle r (box_of ps rows) (question_at ps cell)
  next_box =
      ap (box_of ps) e ∙ map-set (constraint_of ps) rows cell.child row
      ∙ ap (set (box_of ps rows) cell.child) (settled_is r ps cell.pattern (get_or rows cell.child []) row (is.each cell.child h) g word unknown s ∙ ap (λ c. added r c (get_or ps cell.pattern [])) (sym (child_is ps rows cell.child here)))

  pub same_row : get_or next cell.child [] ≡ row
  same_row = ap (λ (l : List (List Mark)). get_or l cell.child []) e ∙ get_or-set_same rows cell.child row [] here

  pub other_row : (j : ℕ) → (j ≡ cell.child → ⊥) → get_or next j [] ≡ get_or rows j []
  other_row j n = ap (λ (l : List (List Mark)). get_or l j []) e ∙ get_or-set_other rows cell.child j row [] n

  pub next_rows : AreRows k ps next
  next_rows = record {
    count = ap length e ∙ length-set rows cell.child row ∙ is.count;
    each = λ j l. elim (cases_eq j cell.child) [
      | inl q ↦ subst (λ i. IsRow ps (get_or next i [])) (sym q) (subst (IsRow ps) (sym same_row) (settled_row r ps cell.pattern (get_or rows cell.child []) row (is.each cell.child h) g word unknown s))
      | inr n ↦ subst (IsRow ps) (sym (other_row j n)) (is.each j l)
    ];
  }

  -- what becomes of what is known of a cell
  pub next_known : (other : Cell) → other.pattern < length ps → (t : Bool) × (known_at next other ≡ once r t (known_at rows other))
  next_known other p = elim (cases_eq other.child cell.child) [
    | inl q ↦ (
      relates r ps cell.pattern other.pattern,
      ap (λ (x : List Mark). (get_or x other.pattern unmarked).known) (ap (λ i. get_or next i []) q ∙ same_row)
          ∙ settled_known r ps cell.pattern (get_or rows cell.child []) row s other.pattern p
          ∙ ap (λ i. once r (relates r ps cell.pattern other.pattern) (get_or (get_or rows i []) other.pattern unmarked).known) (sym q),
    )
    | inr n ↦ (false, ap (λ (x : List Mark). (get_or x other.pattern unmarked).known) (other_row other.child n) ∙ none r (known_at rows other))
  ]
    where
      none : (r : Bool) (k : Known) → k ≡ once r false k
      none r k = grind arith
