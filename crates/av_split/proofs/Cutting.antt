-- The boxes that are cut one after another on the path of the walk.
use Rattle.std.proofs.Common.{◌≡◌, ℕ, zero, suc, ◌<◌, ◌≤◌, List, [], ◌∷◌, ◌++◌, map, length, get_or, set, replicate, take, reverse, cond, Bool, true, false, Option, Some, None, refl, sym, ap, ap₂, ◌∙◌, subst, arith, append_assoc, append-nil}
use Rattle.std.proofs.lemmas.List.{get_or-replicate, length-replicate}
use Rattle.std.specs.List.{flat_map}
use Rattle.av_perm.specs.Members.{In}
use Rattle.av_perm.proofs.Membership.{Each}
use Rattle.av_perm.specs.Relations.{IsWord}
use Rattle.av_sys.specs.declared.names.Constraint.{Constraint}
use Rattle.av_name.specs.declared.constraints.Known.{Known}
use Rattle.av_name.specs.declared.constraints.Known.TheVariants.{Inside, Outside, Open}
use Rattle.av_name.specs.Constraints.{free}
use Rattle.av_split.specs.declared.cells.Cell.{Cell}
use Rattle.av_split.specs.declared.rows.Mark.{Mark}
use Rattle.av_split.specs.declared.path.Path.{Path}
use Rattle.av_split.specs.declared.path.Turn.{Turn}
use Rattle.av_split.specs.declared.steps.Step.{Step}
use Rattle.av_split.specs.declared.steps.Step.TheVariants.{Holds, Fails, Asks}
use Rattle.av_split.specs.Split.{turned, all_of, Demand, demand_known, demands_known, next_question, questions_of, boxes_by}
use Rattle.av_split.specs.Boxes.{Question, Box, word_rules, demands, boxes}
use Rattle.av_split.specs.Marks.{once, box_of, free_mark}
use Rattle.av_split.specs.Cells.{question_at, IsQuestionOf, AreDemandsOf, known_at, HaveCellsOf, IsStep}
use Rattle.av_split.specs.Paths.{parts_left, parts_of, CanEnter, AreTurns, IsEntered, GoesBack}
use Rattle.av_split.specs.Walk.{IsRow, AreRows, IsOpen, AreCuts, done_before, last_cut, IsPath, IsWalk, left_of, Advances, CanStep}
use Rattle.av_split.proofs.OpenQuestions.{turned_open, open_count}
use Rattle.av_split.proofs.GenericSplit.{Asks as IsAsked, asks, fewer, boxes_outside, boxes_inside, boxes_more}
use Rattle.av_split.proofs.WordRules.{Fine, Apt, word_law}
use Rattle.av_split.proofs.WordDemands.{demands_apt}
use Rattle.av_split.proofs.WaysBack.{some, set_back, back_parts, path_turns}
use Rattle.av_split.proofs.MarkedRows.{free_row, free_is}
use Rattle.av_split.proofs.CellQuestions.{OptionOf, demands_same, next_same}
use Rattle.av_split.proofs.RowBoxes.{take_In, cell_known, rows_fine, question_cell, cell_question, question_enters}
use Rattle.av_split.proofs.PassedDemands.{Passes, all_pass, demand_pass, inside_open, outside_open, open_none, once_keeps, once_other}
use Rattle.av_split.proofs.SettledRows.{next_box, next_rows, next_known}
use Rattle.av_split.proofs.Weights.{weight_two, weight_some, weights}

-- none is no value
none : {A : Type 0} {x : A} → None ≡ Some x → ⊥
none e = cc

-- the boxes of a step
abbrev pub given : Option Box → List Box
given None = []
given (Some b) = b ∷ []

-- what a turn of the loop keeps, and what it gives
pub record Advanced (k : ℕ) (ps : List (List ℕ)) (ds : List (Demand Cell)) (all : List (Demand Question)) (parts : List Box) (next : Option (Path ℕ)) (out : List Box) : Type 0 where
  pub path : (q : Path ℕ) → next ≡ Some q → IsPath k ps ds q
  pub boxes : flat_map (boxes_by word_rules all) parts ≡ out ++ left_of all ps next
  pub less : weights all (parts_of ps next) < weights all parts

-- of one root and name
module _ (π : List ℕ) (A R ps : List (List ℕ)) (ds : List (Demand Cell)) (ga : Each IsWord A) (gr : Each IsWord R) (asked : AreDemandsOf (length π) ps ds (demands π A R)) where
  -- the questions are of the children
  pub apt : Each (Apt (length π)) (questions_of (demands π A R))
  apt = demands_apt π A R ga gr

  -- the cells of the demands are in the rows
  pub cells_there : (rows : List (List Mark)) → AreRows (length π) ps rows → HaveCellsOf rows ds
  cells_there rows is d j cells l cell m =
      let q = cell_question (length π) ps ds (demands π A R) asked d j cells l cell m in
      question_cell (length π) ps rows cell q.0 is q.1

  -- a box with these rows
  module _ (rows : List (List Mark)) (is : AreRows (length π) ps rows) where
    -- what is known of cells is that of questions
    agree : (cell : Cell) (q : Question) → IsQuestionOf (length π) ps cell q → known_at rows cell ≡ word_rules.known (box_of ps rows) q
    agree cell q e = cell_known (length π) ps rows cell q is e

    -- what is known of the demands
    same_known : demands_known (known_at rows) ds ≡ demands_known (word_rules.known (box_of ps rows)) (demands π A R)
    same_known = demands_same (length π) ps (known_at rows) (word_rules.known (box_of ps rows)) agree ds (demands π A R) asked

    -- the open cell of a step, with its question
    record Asked (cell : Cell) : Type 0 where
      cell_is : IsQuestionOf (length π) ps cell (question_at ps cell)
      asks : IsAsked word_rules (demands π A R) (box_of ps rows) (question_at ps cell)

    asked_at : (cell : Cell) → IsStep (Asks cell) (demands_known (known_at rows) ds) (next_question (known_at rows) ds) → Asked cell
    asked_at cell s =
        let n = asks word_rules (demands π A R) (box_of ps rows) (sym same_known ∙ s.0) in
        let both = next_same (length π) ps (known_at rows) (word_rules.known (box_of ps rows)) agree ds (demands π A R) asked in
        let i : IsQuestionOf (length π) ps cell n.0 = subst (λ o. OptionOf (IsQuestionOf (length π) ps) o (Some n.0)) s.1 (subst (OptionOf (IsQuestionOf (length π) ps) (next_question (known_at rows) ds)) n.1.next both) in
        record {
          cell_is = record { child = i.child; pattern = i.pattern; question = refl };
          asks = subst (IsAsked word_rules (demands π A R) (box_of ps rows)) (sym i.question) n.1;
        }

    can_enter : (cell : Cell) → Asked cell → CanEnter ps rows cell
    can_enter cell a = question_enters (length π) ps rows cell (question_at ps cell) is a.cell_is

    -- the pattern of the cell, of which nothing is known
    cell_open : (cell : Cell) → Asked cell → known_at rows cell ≡ Open
    cell_open cell a = agree cell (question_at ps cell) a.cell_is ∙ a.asks.unknown

    cell_word : (cell : Cell) → Asked cell → IsWord (get_or ps cell.pattern [])
    cell_word cell a = (apt (question_at ps cell) a.asks.there).word

    -- the path to a part of the box, after some cuts, and the parts that it leaves for later
    entered : (r : Bool) (n : ℕ) (cell : Cell) (cuts : List (Turn ℕ)) (q : Path ℕ) → Asked cell → n ≤ length ds → all_of (demand_known (known_at rows)) (take n ds) ≡ Inside
        → next_question (known_at rows) ds ≡ Some cell → AreCuts (length π) ps ds cuts rows → IsEntered r ps cell n rows cuts q
        → IsPath (length π) ps ds q × (parts_of ps (Some q) ≡ word_rules.settle r (box_of ps rows) (question_at ps cell) ∷ (cond r [] (word_rules.settle true (box_of ps rows) (question_at ps cell) ∷ []) ++ parts_left ps cuts rows))
    entered r n cell cuts q a m done next earlier x = (
      record {
        marks = next_rows r (length π) ps rows q.rows.items x.row cell is a.cell_is.child a.cell_is.pattern (cell_word cell a) (cell_open cell a) x.settled x.rows;
        within = subst (λ l. l ≤ length ds) (sym from) m;
        done =
            subst (λ l. all_of (demand_known (known_at q.rows.items)) (take l ds) ≡ Inside) (sym from)
            (all_pass Inside (demand_known (known_at rows)) (demand_known (known_at q.rows.items)) (take n ds) inside_open
            (λ d i. demand_pass Inside (known_at rows) (known_at q.rows.items) d inside_open (λ l j c k e. stays d (take_In n ds d i) l j c k (λ o. inside_open (turned_open d.required Inside o)) e)) done);
        safe = λ d i s o.
            open_none (demand_known (known_at rows)) ds d (same_known ∙ a.asks.known) i
            (demand_pass Outside (known_at q.rows.items) (known_at rows) d outside_open (λ l j c k. subst (λ w. Passes (turned w Outside) (known_at q.rows.items) (known_at rows) c) (kind d s) (came d i l j c k)) o);
        cuts = subst (λ l. AreCuts (length π) ps ds l q.rows.items) (sym x.turns) (
          subst (λ l. IsOpen (length π) ps ds l n cell) (sym put_back) (record { marks = is; known = same_known ∙ a.asks.known; next = next; within = m; done = done }),
          subst (AreCuts (length π) ps ds cuts) (sym put_back) earlier,
        );
      },
      ap₂ (λ (b : Box) (bs : List Box). b ∷ bs)
          (next_box r (length π) ps rows q.rows.items x.row cell is a.cell_is.child a.cell_is.pattern (cell_word cell a) (cell_open cell a) x.settled x.rows)
          (ap (λ l. parts_left ps l q.rows.items) x.turns ∙ ap (λ l. cond r [] (word_rules.settle true (box_of ps l) (question_at ps cell) ∷ []) ++ parts_left ps cuts l) put_back),
    )
      where
        from : done_before (reverse q.turns.items) ≡ n
        from = ap done_before x.turns

        put_back : set q.rows.items cell.child (get_or rows cell.child []) ≡ rows
        put_back = ap (λ (l : List (List Mark)). set l cell.child (get_or rows cell.child [])) x.rows ∙ set_back rows cell.child x.row [] (can_enter cell a).child

        tells : (d : Demand Cell) → In d ds → (l : List Cell) → In l d.embeddings → (c : Cell) → In c l → (t : Bool) × (known_at q.rows.items c ≡ once r t (known_at rows c))
        tells d i l j c k =
            next_known r (length π) ps rows q.rows.items x.row cell is a.cell_is.child a.cell_is.pattern (cell_word cell a) (cell_open cell a) x.settled x.rows c
            (cell_question (length π) ps ds (demands π A R) asked d i l j c k).1.pattern

        stays : (d : Demand Cell) → In d ds → (l : List Cell) → In l d.embeddings → (c : Cell) → In c l → {k : Known} → (k ≡ Open → ⊥) → known_at rows c ≡ k → known_at q.rows.items c ≡ k
        stays d i l j c m {k} n e = let t = tells d i l j c m in t.1 ∙ once_keeps r t.0 (known_at rows c) k n e

        came : (d : Demand Cell) → In d ds → (l : List Cell) → In l d.embeddings → (c : Cell) → In c l → Passes (turned r Outside) (known_at q.rows.items) (known_at rows) c
        came d i l j c m e = let t = tells d i l j c m in once_other r t.0 (known_at rows c) (sym t.1 ∙ e)

        kind : (d : Demand Cell) → last_cut (reverse q.turns.items) ≡ Some d.required → r ≡ d.required
        kind d s = let e : Some r ≡ Some d.required = sym (ap last_cut x.turns) ∙ s in cc

  -- the cell of a cut can be entered
  cut_enters : (rows : List (List Mark)) (n : ℕ) (cell : Cell) → IsOpen (length π) ps ds rows n cell → CanEnter ps rows cell
  cut_enters rows n cell o = can_enter rows o.marks cell (asked_at rows o.marks cell (o.known, o.next))

  -- the way back leads to the parts that are left
  parts_back : (turns : List (Turn ℕ)) (rows : List (List Mark)) (next : Option (Path ℕ)) → AreCuts (length π) ps ds turns rows → GoesBack ps turns rows next
      → ((q : Path ℕ) → next ≡ Some q → IsPath (length π) ps ds q) × (parts_of ps next ≡ parts_left ps turns rows)
  parts_back =
      back_parts ps (IsOpen (length π) ps ds) (IsPath (length π) ps ds)
      (λ rows n cell cuts q o earlier x. entered rows o.marks true n cell cuts q (asked_at rows o.marks cell (o.known, o.next)) o.within o.done o.next earlier x)

  -- a step can be taken
  pub can_step : (p : Path ℕ) (s : Step) → IsPath (length π) ps ds p → IsStep s (demands_known (known_at p.rows.items) ds) (next_question (known_at p.rows.items) ds) → CanStep ps p s
  can_step p s i e = by s e
    where
      turns : AreTurns ps p.turns.items p.rows.items
      turns = path_turns ps (IsOpen (length π) ps ds) cut_enters p.turns.items p.rows.items i.cuts

      sizes : (j : ℕ) → j < length p.rows.items → length (get_or p.rows.items j []) ≡ length ps
      sizes j h = (i.marks.each j (let n = i.marks.count in omega arith)).size

      by : (s : Step) → IsStep s (demands_known (known_at p.rows.items) ds) (next_question (known_at p.rows.items) ds) → CanStep ps p s
      by Holds e = (sizes, turns)
      by Fails e = (sizes, turns)
      by (Asks cell) e = can_enter p.rows.items i.marks cell (asked_at p.rows.items i.marks cell e)

  -- a turn of the loop
  pub turn : (p : Path ℕ) (n : ℕ) (s : Step) (next : Option (Path ℕ)) (found : Option Box) → IsPath (length π) ps ds p → n ≤ length ds → all_of (demand_known (known_at p.rows.items)) (take n ds) ≡ Inside
      → IsStep s (demands_known (known_at p.rows.items) ds) (next_question (known_at p.rows.items) ds) → Advances ps s n p found next → Advanced (length π) ps ds (demands π A R) (parts_of ps (Some p)) next (given found)
  turn p n s next found i m done step v = by s step v
    where
      all : List (Demand Question)
      all = demands π A R

      b : Box
      b = box_of ps p.rows.items

      later : List Box
      later = parts_left ps (reverse p.turns.items) p.rows.items

      passed : boxes_by word_rules (demands π A R) (box_of ps p.rows.items) ≡ given found → GoesBack ps (reverse p.turns.items) p.rows.items next
          → Advanced (length π) ps ds (demands π A R) (parts_of ps (Some p)) next (given found)
      passed e g =
          let r = parts_back (reverse p.turns.items) p.rows.items next i.cuts g in
          record {
            path = r.0;
            boxes = ap₂ (λ (x y : List Box). x ++ y) e (ap (flat_map (boxes_by word_rules all)) (sym r.1));
            less = let w = ap (weights all) r.1 in omega (arith, w, weight_some (open_count (word_rules.known b) (questions_of all)));
          }

      cut : (cell : Cell) → Asked p.rows.items i.marks cell → next_question (known_at p.rows.items) ds ≡ Some cell → (q : Path ℕ) → next ≡ Some q → found ≡ None → IsEntered false ps cell n p.rows.items (reverse p.turns.items) q
          → Advanced (length π) ps ds (demands π A R) (parts_of ps (Some p)) next (given found)
      cut cell a o q e f x =
          let c = entered p.rows.items i.marks false n cell (reverse p.turns.items) q a m done o i.cuts x in
          let fine : Fine (length π) b = rows_fine (length π) ps p.rows.items i.marks in
          let more = boxes_more word_rules (Fine (length π)) (Apt (length π)) (word_law (length π)) all apt b (question_at ps cell) fine a.asks in
          let part : Bool → Box = λ r. word_rules.settle r b (question_at ps cell) in
          let is : parts_of ps next ≡ part false ∷ part true ∷ later = ap (parts_of ps) e ∙ c.1 in
          record {
            path = λ z s. subst (IsPath (length π) ps ds) (some (sym e ∙ s)) c.0;
            boxes =
                ap (λ (l : List Box). l ++ flat_map (boxes_by word_rules all) later) more
                ∙ append_assoc (boxes_by word_rules all (part false)) (boxes_by word_rules all (part true)) (flat_map (boxes_by word_rules all) later)
                ∙ ap₂ (λ (x y : List Box). x ++ flat_map (boxes_by word_rules all) y) (sym (ap given f)) (sym is);
            less =
                let w = ap (weights all) is in
                omega (
                  arith,
                  w,
                  weight_two (open_count (word_rules.known (part false)) (questions_of all)) (open_count (word_rules.known (part true)) (questions_of all)) (open_count (word_rules.known b) (questions_of all))
                      (fewer word_rules (Fine (length π)) (Apt (length π)) (word_law (length π)) all apt false b (question_at ps cell) fine a.asks)
                      (fewer word_rules (Fine (length π)) (Apt (length π)) (word_law (length π)) all apt true b (question_at ps cell) fine a.asks),
                );
          }

      by : (s : Step) → IsStep s (demands_known (known_at p.rows.items) ds) (next_question (known_at p.rows.items) ds) → Advances ps s n p found next
          → Advanced (length π) ps ds (demands π A R) (parts_of ps (Some p)) next (given found)
      by Holds e v = passed (boxes_inside word_rules (Fine (length π)) (Apt (length π)) (word_law (length π)) (demands π A R) apt (box_of ps p.rows.items) (sym (same_known p.rows.items i.marks) ∙ e) ∙ ap given (sym v.0)) v.1
      by Fails e v = passed (boxes_outside word_rules (Fine (length π)) (Apt (length π)) (word_law (length π)) (demands π A R) apt (box_of ps p.rows.items) (sym (same_known p.rows.items i.marks) ∙ e) ∙ ap given (sym v.0)) v.1
      by (Asks cell) e v = cut cell (asked_at p.rows.items i.marks cell e) e.1 v.1 v.2 v.0 v.3

-- a turn of the walk
pub record Walked (π : List ℕ) (A R ps : List (List ℕ)) (ds : List (Demand Cell)) (rest next : Option (Path ℕ)) (found : Option Box) : Type 0 where
  pub walk : IsWalk π A R ps ds next
  pub left : left_of (demands π A R) ps rest ≡ given found ++ left_of (demands π A R) ps next
  pub less : weights (demands π A R) (parts_of ps next) < weights (demands π A R) (parts_of ps rest)

module _ (π : List ℕ) (A R ps : List (List ℕ)) (ds : List (Demand Cell)) (rest : Option (Path ℕ)) (p : Path ℕ) (w : IsWalk π A R ps ds rest) (e : rest ≡ Some p) where
  pub walk_cells : HaveCellsOf p.rows.items ds
  walk_cells = cells_there π A R ps ds w.avoid w.require w.asked p.rows.items (w.path p e).marks

  pub walk_step : (s : Step) → IsStep s (demands_known (known_at p.rows.items) ds) (next_question (known_at p.rows.items) ds) → CanStep ps p s
  walk_step s = can_step π A R ps ds w.avoid w.require w.asked p s (w.path p e)

  pub walk_turn : (n : ℕ) (s : Step) (next : Option (Path ℕ)) (found : Option Box) → n ≤ length ds → all_of (demand_known (known_at p.rows.items)) (take n ds) ≡ Inside
      → IsStep s (demands_known (known_at p.rows.items) ds) (next_question (known_at p.rows.items) ds) → Advances ps s n p found next → Walked π A R ps ds rest next found
  walk_turn n s next found m done step v =
      let t = turn π A R ps ds w.avoid w.require w.asked p n s next found (w.path p e) m done step v in
      record {
        walk = record { avoid = w.avoid; require = w.require; asked = w.asked; path = t.path };
        left = ap (left_of (demands π A R) ps) e ∙ t.boxes;
        less = let l = t.less in subst (λ x. weights (demands π A R) (parts_of ps next) < weights (demands π A R) (parts_of ps x)) (sym e) l;
      }

-- a list of free rows
pub free_rows : (k : ℕ) (ps : List (List ℕ)) → AreRows k ps (replicate k (map free_mark ps))
free_rows k ps = record {
  count = length-replicate k (map free_mark ps);
  each = λ i h. subst (IsRow ps) (sym (get_or-replicate k i (map free_mark ps) [] h)) (free_row ps);
}

-- the box in which nothing is avoided or required
pub free_box : (k : ℕ) (ps : List (List ℕ)) → box_of ps (replicate k (map free_mark ps)) ≡ replicate k free
free_box zero ps = refl
free_box (suc k) ps = ap₂ (λ (c : Constraint) (b : Box). c ∷ b) (free_is ps) (free_box k ps)

-- at the start the path leads to it, with no cut
pub starts : (π : List ℕ) (A R ps : List (List ℕ)) (ds : List (Demand Cell)) (p : Path ℕ) (n : ℕ) → Each IsWord A → Each IsWord R → AreDemandsOf (length π) ps ds (demands π A R) → n ≡ length π
    → p.rows.items ≡ replicate n (map free_mark ps) → p.turns.items ≡ [] → IsWalk π A R ps ds (Some p) × (left_of (demands π A R) ps (Some p) ≡ boxes π A R)
starts π A R ps ds p n ga gr asked l r t =
    let is : p.rows.items ≡ replicate (length π) (map free_mark ps) = r ∙ ap (λ m. replicate m (map free_mark ps)) l in (
      record {
        avoid = ga;
        require = gr;
        asked = asked;
        path = λ q e. subst (IsPath (length π) ps ds) (some e) (record {
          marks = subst (AreRows (length π) ps) (sym is) (free_rows (length π) ps);
          within = let f = ap (λ (l : List (Turn ℕ)). done_before (reverse l)) t in omega (arith, f);
          done = ap (λ (l : List (Turn ℕ)). all_of (demand_known (known_at p.rows.items)) (take (done_before (reverse l)) ds)) t;
          safe = λ d j s o. none (sym (ap (λ (l : List (Turn ℕ)). last_cut (reverse l)) t) ∙ s);
          cuts = subst (λ (l : List (Turn ℕ)). AreCuts (length π) ps ds (reverse l) p.rows.items) (sym t) tt;
        });
      },
      ap (λ l. boxes_by word_rules (demands π A R) (box_of ps p.rows.items) ++ flat_map (boxes_by word_rules (demands π A R)) (parts_left ps (reverse l) p.rows.items)) t
          ∙ append-nil (boxes_by word_rules (demands π A R) (box_of ps p.rows.items))
          ∙ ap (boxes_by word_rules (demands π A R)) (ap (box_of ps) is ∙ free_box (length π) ps),
    )
