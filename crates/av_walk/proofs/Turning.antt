-- The cells that are split one after another on the path of the walk.
use Rattle.std.proofs.Common.{◌≡◌, ℕ, ◌+◌, ◌<◌, List, [], ◌∷◌, ◌++◌, length, get_or, set, reverse, cond, Bool, true, false, Option, Some, None, sym, ap, ap₂, ◌∙◌, subst, arith, append_assoc}
use Rattle.std.specs.List.{flat_map}
use Rattle.av_perm.specs.Members.{In}
use Rattle.av_perm.specs.Relations.{IsWord}
use Rattle.av_perm.proofs.Membership.{Each}
use Rattle.av_perm.proofs.Pointwise.{pointwise_In}
use Rattle.av_name.specs.declared.constraints.Known.TheVariants.{Open}
use Rattle.av_split.specs.declared.cells.Cell.{Cell}
use Rattle.av_split.specs.declared.rows.Mark.{Mark}
use Rattle.av_split.specs.Split.{Demand}
use Rattle.av_split.specs.Boxes.{Question, Box, word_rules}
use Rattle.av_split.specs.Marks.{once, box_of}
use Rattle.av_split.specs.Cells.{question_at, IsQuestionOf, AreDemandsOf, known_at, HaveCellsOf}
use Rattle.av_split.specs.Paths.{before, parts_left, parts_of, CanEnter, IsEntered, GoesBack}
use Rattle.av_split.specs.Walk.{AreRows}
use Rattle.av_split.proofs.OpenQuestions.{open_count}
use Rattle.av_split.proofs.WordRules.{Fine, Apt, word_law}
use Rattle.av_split.proofs.WaysBack.{some, set_back, back_parts, path_turns}
use Rattle.av_split.proofs.RowBoxes.{cell_known, rows_fine, question_cell, cell_question, question_enters}
use Rattle.av_split.proofs.SettledRows.{next_box, next_rows, next_known}
use Rattle.av_split.proofs.Weights.{weight, weight_two, weight_some}
use Rattle.av_split.specs.declared.path.Path.{Path}
use Rattle.av_walk.specs.declared.looking.State.{State}
use Rattle.av_split.specs.declared.path.Turn.{Turn}
use Rattle.av_walk.specs.declared.looking.Kind.{Kind}
use Rattle.av_walk.specs.declared.looking.Look.{Look}
use Rattle.av_walk.specs.declared.looking.Look.TheVariants as looks
use Rattle.av_walk.specs.declared.leaves.CellEnd.{CellEnd}
use Rattle.av_walk.specs.Walk.{Literal, splits, ends, treatment, Leaf, walk}
use Rattle.av_walk.specs.Numbers.{IsLiteralOf, AreLiteralsOf, AreTermsOf}
use Rattle.av_walk.specs.Sifts.{AreCellsOfTerms}
use Rattle.av_walk.specs.Looks.{ending_of, IsLook}
use Rattle.av_walk.specs.Paths.{treatment_at, IsCut, AreCuts, Inherits, IsPath}
use Rattle.av_walk.specs.Ends.{IsEndOf, Advances, CanAdvance}
use Rattle.av_walk.proofs.GenericWalk.{questions_with, splits_asked, falls, walk_leaf_only, walk_parts}
use Rattle.av_walk.proofs.Treatments.{TreatmentOf, treatment_same, same_end, same_split}
use Rattle.av_walk.proofs.Staying.{safe_then, known_then}

-- a leaf was found, the first, or none, and the leaves are the same
abbrev pub Finds : Option CellEnd → List (Leaf Box) → List (Leaf Box) → Type 0
Finds None before after = before ≡ after
Finds (Some end) before after = (l : Leaf Box) × IsEndOf end l × (before ≡ l ∷ after)

-- the weights of some boxes together
abbrev pub weights : List (Demand Question) → List (List (Literal Question)) → List Box → ℕ
weights es us [] = 0
weights es us (b ∷ bs) = weight (open_count (word_rules.known b) (questions_with es us)) + weights es us bs

-- the demands and the terms by cells and by questions, which are of `k` children
module _ (k : ℕ) (ps : List (List ℕ)) (ds : List (Demand Cell)) (es : List (Demand Question)) (asked : AreDemandsOf k ps ds es) (ts : List (List (Literal Cell))) (us : List (List (Literal Question))) (terms : AreTermsOf k ps ts us) (apt : Each (Apt k) (questions_with es us)) where
  -- their cells are in the rows
  pub cells_there : (rows : List (List Mark)) → AreRows k ps rows → HaveCellsOf rows ds
  cells_there rows is d j cells l cell m = let q = cell_question k ps ds es asked d j cells l cell m in question_cell k ps rows cell q.0 is q.1

  pub terms_there : (rows : List (List Mark)) → AreRows k ps rows → AreCellsOfTerms rows ts
  terms_there rows is t i l j =
      let u = pointwise_In (AreLiteralsOf k ps) ts us t terms i in
      let m = pointwise_In (IsLiteralOf k ps) t u.0 l u.1 j in
      question_cell k ps rows l.question m.0.question is m.1.question

  -- a box with these rows
  module _ (rows : List (List Mark)) (is : AreRows k ps rows) where
    -- what becomes of it is the same by questions
    becomes : TreatmentOf k ps (treatment_at (known_at rows) ds ts) (treatment word_rules es us (box_of ps rows))
    becomes = treatment_same k ps (known_at rows) (word_rules.known (box_of ps rows)) (λ cell q i. cell_known k ps rows cell q is i) ds es ts us asked terms

    -- the cell that cuts it, with its question
    record Asked (cell : Cell) : Type 0 where
      cell_is : IsQuestionOf k ps cell (question_at ps cell)
      cuts : treatment word_rules es us (box_of ps rows) ≡ splits (question_at ps cell)
      unknown : word_rules.known (box_of ps rows) (question_at ps cell) ≡ Open
      there : In (question_at ps cell) (questions_with es us)

    asked_at : (cell : Cell) → treatment_at (known_at rows) ds ts ≡ splits cell → Asked cell
    asked_at cell e =
        let s = same_split k ps (treatment_at (known_at rows) ds ts) (treatment word_rules es us (box_of ps rows)) cell becomes e in
        let a = splits_asked (word_rules.known (box_of ps rows)) es us (question_at ps cell) s.1 in
        record { cell_is = s.0; cuts = s.1; unknown = a.0; there = a.1 }

    can_enter : (cell : Cell) → Asked cell → CanEnter ps rows cell
    can_enter cell a = question_enters k ps rows cell (question_at ps cell) is a.cell_is

    -- the pattern of the cell, of which nothing is known
    cell_open : (cell : Cell) → Asked cell → known_at rows cell ≡ Open
    cell_open cell a = cell_known k ps rows cell (question_at ps cell) is a.cell_is ∙ a.unknown

    cell_word : (cell : Cell) → Asked cell → IsWord (get_or ps cell.pattern [])
    cell_word cell a = (apt (question_at ps cell) a.there).word

    -- the path to a part of the box, after some cuts, and the parts that it leaves for later
    entered : (r : Bool) (state : State) (cell : Cell) (cuts : List (Turn State)) (q : Path State) → IsCut k ps ds ts rows state cell → AreCuts k ps ds ts cuts rows → IsEntered r ps cell state rows cuts q
        → IsPath k ps ds ts q × (parts_of ps (Some q) ≡ word_rules.settle r (box_of ps rows) (question_at ps cell) ∷ (cond r [] (word_rules.settle true (box_of ps rows) (question_at ps cell) ∷ []) ++ parts_left ps cuts rows))
    entered r state cell cuts q c earlier x = (
      record {
        marks = next_rows r k ps rows q.rows.items x.row cell is a.cell_is.child a.cell_is.pattern (cell_word cell a) (cell_open cell a) x.settled x.rows;
        known = subst (Inherits (known_at q.rows.items) ds ts) (sym x.turns) (
          known_then r k ps (known_at rows) (known_at q.rows.items) next ds es asked ts us terms state c.known,
          safe_then r k ps (known_at rows) (known_at q.rows.items) next ds es asked state c.unsettled,
        );
        cuts = subst (λ l. AreCuts k ps ds ts l q.rows.items) (sym x.turns) (
          subst (λ l. IsCut k ps ds ts l state cell) (sym put_back) c,
          subst (AreCuts k ps ds ts cuts) (sym put_back) earlier,
        );
      },
      ap₂ (λ (b : Box) (bs : List Box). b ∷ bs)
          (next_box r k ps rows q.rows.items x.row cell is a.cell_is.child a.cell_is.pattern (cell_word cell a) (cell_open cell a) x.settled x.rows)
          (ap (λ l. parts_left ps l q.rows.items) x.turns ∙ ap (λ l. cond r [] (word_rules.settle true (box_of ps l) (question_at ps cell) ∷ []) ++ parts_left ps cuts l) put_back),
    )
      where
        a : Asked cell
        a = asked_at cell c.splits

        put_back : set q.rows.items cell.child (get_or rows cell.child []) ≡ rows
        put_back = ap (λ (l : List (List Mark)). set l cell.child (get_or rows cell.child [])) x.rows ∙ set_back rows cell.child x.row [] (can_enter cell a).child

        next : (other : Cell) → other.pattern < length ps → (t : Bool) × (known_at q.rows.items other ≡ once r t (known_at rows other))
        next other h = next_known r k ps rows q.rows.items x.row cell is a.cell_is.child a.cell_is.pattern (cell_word cell a) (cell_open cell a) x.settled x.rows other h

  -- the cell of a cut can be entered
  cut_enters : (rows : List (List Mark)) (state : State) (cell : Cell) → IsCut k ps ds ts rows state cell → CanEnter ps rows cell
  cut_enters rows state cell c = can_enter rows c.marks cell (asked_at rows c.marks cell c.splits)

  -- the way back leads to the parts that are left
  parts_back : (turns : List (Turn State)) (rows : List (List Mark)) (next : Option (Path State)) → AreCuts k ps ds ts turns rows → GoesBack ps turns rows next → ((q : Path State) → next ≡ Some q → IsPath k ps ds ts q) × (parts_of ps next ≡ parts_left ps turns rows)
  parts_back = back_parts ps (IsCut k ps ds ts) (IsPath k ps ds ts) (λ rows state cell cuts q c earlier x. entered rows c.marks true state cell cuts q c earlier x)

  -- what was seen can be done
  pub can_advance : (p : Path State) (look : Look) → IsPath k ps ds ts p → IsLook (known_at p.rows.items) ds ts look → CanAdvance ps p look
  can_advance p (looks.Ends kind) i e = (
    λ j h. (i.marks.each j (let n = i.marks.count in omega arith)).size,
    path_turns ps (IsCut k ps ds ts) cut_enters p.turns.items p.rows.items i.cuts,
  )
  can_advance p (looks.Cut cell state) i e = can_enter p.rows.items i.marks cell (asked_at p.rows.items i.marks cell e.0)

  -- the leaf that was found is the first of those that were left, or none was found, and the walk is nearer to its end
  pub record Advanced (parts : List Box) (next : Option (Path State)) (found : Option CellEnd) : Type 0 where
    pub path : (q : Path State) → next ≡ Some q → IsPath k ps ds ts q
    pub leaves : Finds found (flat_map (walk word_rules es us) parts) (flat_map (walk word_rules es us) (parts_of ps next))
    pub less : weights es us (parts_of ps next) < weights es us parts

  -- a turn of the loop
  pub turn : (p : Path State) (look : Look) (next : Option (Path State)) (found : Option CellEnd) → IsPath k ps ds ts p → IsLook (known_at p.rows.items) ds ts look → Advances ps look p found next → Advanced (parts_of ps (Some p)) next found
  turn p look next found i l v = by look l v
    where
      b : Box
      b = box_of ps p.rows.items

      later : List Box
      later = parts_left ps (reverse p.turns.items) p.rows.items

      fine : Fine k b
      fine = rows_fine k ps p.rows.items i.marks

      ended : (kind : Kind) (end : CellEnd) → found ≡ Some end → IsEndOf end (record { cell = b; ending = ending_of kind }) → treatment_at (known_at p.rows.items) ds ts ≡ ends (ending_of kind)
          → GoesBack ps (reverse p.turns.items) p.rows.items next → Advanced (parts_of ps (Some p)) next found
      ended kind end f h e g =
          let r = parts_back (reverse p.turns.items) p.rows.items next i.cuts g in
          let t = same_end k ps (treatment_at (known_at p.rows.items) ds ts) (treatment word_rules es us b) (ending_of kind) (becomes p.rows.items i.marks) e in
          record {
            path = r.0;
            leaves = subst (λ o. Finds o (flat_map (walk word_rules es us) (b ∷ later)) (flat_map (walk word_rules es us) (parts_of ps next))) (sym f) (
              record { cell = b; ending = ending_of kind },
              h,
              ap₂ (λ (x y : List (Leaf Box)). x ++ y) (walk_leaf_only word_rules (Fine k) (Apt k) (word_law k) es us apt b (ending_of kind) t) (ap (flat_map (walk word_rules es us)) (sym r.1)),
            );
            less = let w = ap (weights es us) r.1 in omega (arith, w, weight_some (open_count (word_rules.known b) (questions_with es us)));
          }

      cut : (cell : Cell) (state : State) → IsCut k ps ds ts p.rows.items state cell → (q : Path State) → next ≡ Some q → found ≡ None → IsEntered false ps cell state p.rows.items (reverse p.turns.items) q → Advanced (parts_of ps (Some p)) next found
      cut cell state c q e f x =
          let a = asked_at p.rows.items i.marks cell c.splits in
          let h = entered p.rows.items i.marks false state cell (reverse p.turns.items) q c i.cuts x in
          let part : Bool → Box = λ r. word_rules.settle r b (question_at ps cell) in
          let more = walk_parts word_rules (Fine k) (Apt k) (word_law k) es us apt b (question_at ps cell) fine a.cuts in
          let is : parts_of ps next ≡ part false ∷ part true ∷ later = ap (parts_of ps) e ∙ h.1 in
          record {
            path = λ z s. subst (IsPath k ps ds ts) (some (sym e ∙ s)) h.0;
            leaves = subst (λ o. Finds o (flat_map (walk word_rules es us) (b ∷ later)) (flat_map (walk word_rules es us) (parts_of ps next))) (sym f) (
                ap (λ (l : List (Leaf Box)). l ++ flat_map (walk word_rules es us) later) more
                ∙ append_assoc (walk word_rules es us (part false)) (walk word_rules es us (part true)) (flat_map (walk word_rules es us) later)
                ∙ ap (flat_map (walk word_rules es us)) (sym is)
                );
            less =
                let w = ap (weights es us) is in
                omega (
                  arith,
                  w,
                  weight_two (open_count (word_rules.known (part false)) (questions_with es us)) (open_count (word_rules.known (part true)) (questions_with es us)) (open_count (word_rules.known b) (questions_with es us))
                      (falls word_rules (Fine k) (Apt k) (word_law k) es us apt false b (question_at ps cell) fine a.there a.unknown)
                      (falls word_rules (Fine k) (Apt k) (word_law k) es us apt true b (question_at ps cell) fine a.there a.unknown),
                );
          }

      by : (look : Look) → IsLook (known_at p.rows.items) ds ts look → Advances ps look p found next → Advanced (parts_of ps (Some p)) next found
      by (looks.Ends kind) l v = ended kind v.0.0 v.0.1 v.0.2 l v.1
      by (looks.Cut cell state) l v = cut cell state (record { marks = i.marks; known = l.1; unsettled = l.2; splits = l.0 }) v.1 v.2 v.0 v.3
