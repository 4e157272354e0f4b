-- The lines of a script, cut from its front.
use Rattle.std.proofs.Common.{◌≡◌, ℕ, suc, ◌+◌, ◌-◌, ◌<◌, ◌≤◌, Bool, true, false, List, [], ◌∷◌, length, take, drop, map, refl, ap, ◌∙◌, arith, Some, None, cond, nat_lt, ltb-true, ltb-false, not, ◌==◌, take_all}
use Rattle.std.proofs.lemmas.Bool.Decides.{nat_tests}
use Rattle.std.proofs.lemmas.List.{length-drop, length-map}
use Rattle.std.proofs.lemmas.List.Splits.{slice_split_first, length-slice_split}
use Rattle.std.proofs.lemmas.Option.{cond_some}
use Rattle.std.specs.List.{slice_split, position, position_or_len, onto_first}
use Rattle.std.specs.Str.Lines.{strip_carriage_return}
use Rattle.av_text.specs.Lines.{script_lines, drop_empty_last, is_line_feed}

-- all bytes from number n on
pub rest_all : (n : ℕ) (bs : List ℕ) → take (length bs - n) (drop n bs) ≡ drop n bs
rest_all n bs = take_all (length bs - n) (drop n bs) (omega (arith, length-drop n bs))

-- a piece that others follow stays
pub kept_piece : (p : List ℕ) (ps : List (List ℕ)) → 0 < length ps → drop_empty_last (p ∷ ps) ≡ p ∷ drop_empty_last ps
kept_piece p [] h = absurd (omega arith)
kept_piece p (q ∷ qs) h = refl

-- no bytes have no line
pub lines_none : script_lines [] ≡ []
unfolding script_lines
lines_none = refl

-- the same, by their number
pub lines_empty : (bs : List ℕ) → length bs ≡ 0 → script_lines bs ≡ []
lines_empty [] e = lines_none
lines_empty (x ∷ xs) e = absurd (omega arith)

-- the first line ends at the first line feed
pub lines_cut : (bs : List ℕ) (i : ℕ) → position is_line_feed bs ≡ Some i → script_lines bs ≡ strip_carriage_return (take i bs) ∷ script_lines (drop (i + 1) bs)
unfolding script_lines
lines_cut bs i e =
    let c = cond_some (nat_lt (position_or_len is_line_feed bs) (length bs)) _ _ e in
    let lt : position_or_len is_line_feed bs < length bs = ltb-true _ _ c.0 in
    let cut = rw c.1 at (slice_split_first is_line_feed bs 0 lt) in
    let more : 0 < length (slice_split is_line_feed (drop (i + 1) bs)) = omega (arith, length-slice_split is_line_feed (drop (i + 1) bs)) in
    ap (λ ps. map strip_carriage_return (drop_empty_last ps)) cut ∙ ap (map strip_carriage_return) (kept_piece _ _ more)

-- there is no first line feed
no_cut : (b : Bool) (n : ℕ) → cond b (Some n) None ≡ None → b ≡ false
no_cut true n e = cc
no_cut false n e = refl

-- bytes without a line feed are one piece
whole : (bs : List ℕ) → length bs ≤ position_or_len is_line_feed bs → slice_split is_line_feed bs ≡ bs ∷ []
whole [] h = refl
whole (x ∷ xs) h = by (is_line_feed x) (whole xs) h
  where
    by : (t : Bool) → (length xs ≤ position_or_len is_line_feed xs → slice_split is_line_feed xs ≡ xs ∷ [])
        → suc (length xs) ≤ cond (not t) (1 + position_or_len is_line_feed xs) 0
        → cond t ([] ∷ slice_split is_line_feed xs) (onto_first x (slice_split is_line_feed xs)) ≡ (x ∷ xs) ∷ []
    by true ih g = absurd (omega arith)
    by false ih g = rw (ih (omega arith)) refl

-- a filled piece stays
filled : (n : ℕ) (ps : List (List ℕ)) → 0 < n → cond (not (n == 0)) ps [] ≡ ps
filled n ps h = grind (arith, nat_tests)

-- the last line has no line feed
pub lines_last : (bs : List ℕ) → 0 < length bs → position is_line_feed bs ≡ None → script_lines bs ≡ strip_carriage_return bs ∷ []
unfolding script_lines
lines_last bs h e =
    let ge = ltb-false (position_or_len is_line_feed bs) (length bs) (no_cut _ _ e) in
    ap (λ ps. map strip_carriage_return (drop_empty_last ps)) (whole bs ge) ∙ ap (map strip_carriage_return) (filled (length bs) (bs ∷ []) h)

-- the first line of some bytes, by where the first line feed stands
pub ruleset cuts = (lines_none, lines_empty, lines_cut, lines_last)

-- a last piece is at most one line
one_line : (b : Bool) (p : List ℕ) → length (cond b (p ∷ []) []) ≤ 1
one_line true p = omega arith
one_line false p = omega arith

-- a byte more of the first piece
longer : (x : ℕ) (ps : List (List ℕ)) (n : ℕ) → length (drop_empty_last ps) ≤ n → length (drop_empty_last (onto_first x ps)) ≤ suc n
longer x [] n h = omega (arith, one_line (not (length (x ∷ []) == 0)) (x ∷ []))
longer x (q ∷ []) n h = omega (arith, one_line (not (length (x ∷ q) == 0)) (x ∷ q))
longer x (q ∷ r ∷ rs) n h = omega arith

-- the pieces are no more than the bytes
pieces_few : (bs : List ℕ) → length (drop_empty_last (slice_split is_line_feed bs)) ≤ length bs
pieces_few [] = omega (arith, one_line (not (length {A = ℕ} [] == 0)) [])
pieces_few (x ∷ xs) = by (is_line_feed x) (pieces_few xs)
  where
    by : (t : Bool) → length (drop_empty_last (slice_split is_line_feed xs)) ≤ length xs
        → length (drop_empty_last (cond t ([] ∷ slice_split is_line_feed xs) (onto_first x (slice_split is_line_feed xs)))) ≤ suc (length xs)
    by true ih =
        let more : 0 < length (slice_split is_line_feed xs) = omega (arith, length-slice_split is_line_feed xs) in
        omega (arith, ap length (kept_piece [] (slice_split is_line_feed xs) more))
    by false ih = longer x (slice_split is_line_feed xs) (length xs) ih

-- there are no more lines than bytes
pub lines_few : (bs : List ℕ) → length (script_lines bs) ≤ length bs
unfolding script_lines
lines_few bs = omega (arith, pieces_few bs, length-map (drop_empty_last (slice_split is_line_feed bs)) strip_carriage_return)
