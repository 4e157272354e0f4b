-- The box that rows of marks stand for, and what is known of its cells.
use Rattle.std.proofs.Common.{◌≡◌, ℕ, zero, suc, ◌<◌, inl, inr, List, [], ◌∷◌, length, get_or, take, sym, ap, ◌∙◌, subst, arith}
use Rattle.std.proofs.lemmas.List.{get_or-map, length-map}
use Rattle.av_perm.specs.Members.{In}
use Rattle.av_perm.proofs.Pointwise.{pointwise_In}
use Rattle.av_name.specs.Constraints.{free, known_of}
use Rattle.av_name.proofs.Growth.{IsFit}
use Rattle.av_split.specs.declared.cells.Cell.{Cell}
use Rattle.av_split.specs.declared.rows.Mark.{Mark}
use Rattle.av_split.specs.Split.{Demand}
use Rattle.av_split.specs.Boxes.{Question, child_of, word_rules}
use Rattle.av_split.specs.Laws.{IsTidy}
use Rattle.av_split.specs.Marks.{constraint_of, box_of}
use Rattle.av_split.specs.Cells.{IsQuestionOf, AreQuestionsOf, IsDemandOf, AreDemandsOf, known_at, IsCellOf}
use Rattle.av_split.specs.Paths.{CanEnter}
use Rattle.av_split.specs.Walk.{AreRows}
use Rattle.av_split.proofs.WordRules.{Fine}
use Rattle.av_split.proofs.MarkedRows.{row_fit}

-- a list begins with items of it
pub take_In : {A : Type 0} (n : ℕ) (xs : List A) (x : A) → In x (take n xs) → In x xs
take_In zero xs x i = absurd i
take_In (suc n) [] x i = absurd i
take_In (suc n) (y ∷ xs) x (inl e) = inl e
take_In (suc n) (y ∷ xs) x (inr i) = inr (take_In n xs x i)

-- the constraint of a child
pub child_is : (ps : List (List ℕ)) (rows : List (List Mark)) (i : ℕ) → i < length rows → child_of (box_of ps rows) i ≡ constraint_of ps (get_or rows i [])
child_is ps rows i h = get_or-map (constraint_of ps) rows i [] free h

-- what is known of a cell is what its constraint tells of its pattern
pub cell_known : (k : ℕ) (ps : List (List ℕ)) (rows : List (List Mark)) (cell : Cell) (q : Question) → AreRows k ps rows → IsQuestionOf k ps cell q → known_at rows cell ≡ word_rules.known (box_of ps rows) q
cell_known k ps rows cell q r i =
    (r.each cell.child i.child).known cell.pattern i.pattern
    ∙ ap (λ c. known_of c (get_or ps cell.pattern [])) (sym (child_is ps rows cell.child (let n = r.count in let h = i.child in omega arith)))
    ∙ ap (word_rules.known (box_of ps rows)) i.question

-- the cell of a question can be entered
pub question_enters : (k : ℕ) (ps : List (List ℕ)) (rows : List (List Mark)) (cell : Cell) (q : Question) → AreRows k ps rows → IsQuestionOf k ps cell q → CanEnter ps rows cell
question_enters k ps rows cell q is at = record {
  child = let h = at.child in let n = is.count in omega arith;
  pattern = at.pattern;
  size = (is.each cell.child at.child).size;
}

-- the box of the rows is fine
pub rows_fine : (k : ℕ) (ps : List (List ℕ)) (rows : List (List Mark)) → AreRows k ps rows → Fine k (box_of ps rows)
rows_fine k ps rows r = record {
  count = length-map rows (constraint_of ps) ∙ r.count;
  fit = λ i h. subst IsFit (sym (child_is ps rows i (let n = r.count in omega arith))) (row_fit ps (get_or rows i []) (r.each i h));
  tidy = λ i h. subst IsTidy (sym (child_is ps rows i (let n = r.count in omega arith))) (r.each i h).tidy;
}

-- the cell of a question is one of the rows
pub question_cell : (k : ℕ) (ps : List (List ℕ)) (rows : List (List Mark)) (cell : Cell) (q : Question) → AreRows k ps rows → IsQuestionOf k ps cell q → IsCellOf rows cell
question_cell k ps rows cell q r i = record {
  child = let n = r.count in let h = i.child in omega arith;
  pattern = let n = (r.each cell.child i.child).size in let h = i.pattern in omega arith;
}

-- each cell of the demands has its question
pub cell_question : (k : ℕ) (ps : List (List ℕ)) (ds : List (Demand Cell)) (es : List (Demand Question)) → AreDemandsOf k ps ds es → (d : Demand Cell) → In d ds → (cells : List Cell) → In cells d.embeddings → (cell : Cell) → In cell cells
    → (q : Question) × IsQuestionOf k ps cell q
cell_question k ps ds es a d i cells j cell l =
    let e = pointwise_In (IsDemandOf k ps) ds es d a i in
    let m = pointwise_In (AreQuestionsOf k ps) d.embeddings (e.0).embeddings cells (e.1).embeddings j in
    pointwise_In (IsQuestionOf k ps) cells m.0 cell m.1 l
