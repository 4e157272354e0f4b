-- A cut whose second part is on the path leaves nothing, and another is entered again.
use Rattle.std.proofs.Common.{◌≡◌, ◌<◌, ◌++◌, ◌∷◌, [], ◌∙◌, List, ℕ, true, false, Option, Some, inl, reverse, length, refl, sym, ap, subst, arith}
use Rattle.std.proofs.lemmas.List.{length-set, get_or-set_same}
use Rattle.av_perm.specs.Members.{In}
use Rattle.av_perm.proofs.Membership.{append_left, append_right}
use Rattle.av_split.specs.declared.path.Path.{Path}
use Rattle.av_split.specs.declared.path.Turn.{Turn}
use Rattle.av_split.specs.declared.rows.Mark.{Mark}
use Rattle.av_split.specs.Paths.{before, CanEnter, AreTurns, IsEntered, Either, GoesBack}
use Rattle.av_split.proofs.LastItems.{last_first}
use Rattle.av_split.proofs.path.back.Goals as goal

way_on : {S : Type 0} (ps : List (List ℕ)) (turns front : List (Turn S)) (t : Turn S) (rows : List (List Mark)) (next : Option (Path S)) → turns ≡ front ++ t ∷ [] → t.required ≡ true → GoesBack ps (reverse front) (before t rows) next
    → GoesBack ps (reverse turns) rows next
way_on {S} ps turns front t rows next e r g =
    subst (λ l. GoesBack ps l rows next) (last_first turns front t e)
    (subst (λ b. Either b (GoesBack ps (reverse front) (before t rows) next) ((p : Path S) × (next ≡ Some p) × IsEntered true ps t.cell t.state (before t rows) (reverse front) p)) (sym r) g)

way_in : {S : Type 0} (ps : List (List ℕ)) (turns front : List (Turn S)) (t : Turn S) (rows : List (List Mark)) (p : Path S) → turns ≡ front ++ t ∷ [] → t.required ≡ false → IsEntered true ps t.cell t.state (before t rows) (reverse front) p
    → GoesBack ps (reverse turns) rows (Some p)
way_in {S} ps turns front t rows p e r g =
    subst (λ l. GoesBack ps l rows (Some p)) (last_first turns front t e)
    (subst (λ b. Either b (GoesBack ps (reverse front) (before t rows) (Some p)) ((q : Path S) × (Some p ≡ Some q) × IsEntered true ps t.cell t.state (before t rows) (reverse front) q)) (sym r) (p, refl, g))

-- the cells of the cuts before it
fewer_cells : {S : Type 0} (ps : List (List ℕ)) (turns front : List (Turn S)) (t : Turn S) (rows : List (List Mark)) → turns ≡ front ++ t ∷ [] → AreTurns ps turns rows → AreTurns ps front (before t rows)
fewer_cells ps turns front t rows e a u i =
    let k = a u (subst (In u) (sym e) (append_left front (t ∷ []) u i)) in
    (subst (λ n. u.cell.child < n) (sym (length-set rows t.cell.child t.row)) k.0, k.1, k.2)

last_cell : {S : Type 0} (ps : List (List ℕ)) (turns front : List (Turn S)) (t : Turn S) (rows : List (List Mark)) → turns ≡ front ++ t ∷ [] → AreTurns ps turns rows → (t.cell.child < length rows) × CanEnter ps (before t rows) t.cell
last_cell ps turns front t rows e a =
    let k = a t (subst (In t) (sym e) (append_right front (t ∷ []) t (inl refl))) in (
      k.0,
      record {
        child = subst (λ n. t.cell.child < n) (sym (length-set rows t.cell.child t.row)) k.0;
        pattern = k.1;
        size = ap length (get_or-set_same rows t.cell.child t.row [] k.0) ∙ k.2;
      },
    )

pub index_mut-requires : goal.index_mut-requires
index_mut-requires g c =
    let o = c.loop-turn.path.rows.ok in
    let h = (last_cell c.args.table.now c.loop-turn.path.turns.items c.pop.new.self.items c.in-Some.turn c.loop-turn.path.rows.items c.in-Some.ensures.items c.loop-turn.invariant.cells).0 in
    omega (arith, o.0, h)

pub enter-requires : goal.enter-requires
enter-requires g c = (last_cell c.args.table.now c.loop-turn.path.turns.items c.pop.new.self.items c.in-Some.turn c.loop-turn.path.rows.items c.in-Some.ensures.items c.loop-turn.invariant.cells).1

pub returns-then-not-required : goal.returns-then-not-required
returns-then-not-required g c =
    c.loop-turn.invariant.way (Some c.in_ok-enter.field-0)
    (way_in c.args.table.now c.loop-turn.path.turns.items c.pop.new.self.items c.in-Some.turn c.loop-turn.path.rows.items c.in_ok-enter.field-0 c.in-Some.ensures.items c.if-not-required.true c.in_ok-enter.ensures)

pub loop-turn-preserved : goal.loop-turn-preserved
loop-turn-preserved g c = record {
  cells = fewer_cells c.args.table.now c.loop-turn.path.turns.items c.pop.new.self.items c.in-Some.turn c.loop-turn.path.rows.items c.in-Some.ensures.items c.loop-turn.invariant.cells;
  way = λ next way. c.loop-turn.invariant.way next
      (way_on c.args.table.now c.loop-turn.path.turns.items c.pop.new.self.items c.in-Some.turn c.loop-turn.path.rows.items next c.in-Some.ensures.items c.if-not-required.false way);
}
