-- The lines of a script, and the tokens of a line.
use Rattle.std.specs.Prelude.{ℕ, Bool, not, ◌&&◌, ◌||◌, List, [], ◌∷◌, map, filter, length, nat_le, ◌==◌, if◌then◌else◌}
use Rattle.std.specs.List.{slice_split}
use Rattle.std.specs.Str.Lines.{strip_carriage_return}

-- at least one element
abbrev pub is_filled : List ℕ → Bool
is_filled xs = not (length xs == 0)

-- the byte that ends a line
abbrev pub is_line_feed : ℕ → Bool
is_line_feed b = b == 10

-- the pieces without the last one, where that is empty
abbrev pub drop_empty_last : List (List ℕ) → List (List ℕ)
drop_empty_last [] = []
drop_empty_last (p ∷ []) = if is_filled p then p ∷ [] else []
drop_empty_last (p ∷ q ∷ ps) = p ∷ drop_empty_last (q ∷ ps)

-- the pieces between line feeds, each without the one carriage return at its end, if it has one;
-- the piece after the last line feed is a line exactly where it isn't empty
unfoldable pub script_lines : List ℕ → List (List ℕ)
script_lines bytes = map strip_carriage_return (drop_empty_last (slice_split is_line_feed bytes))

-- a byte that a line may hold: space to `~`, and tab
abbrev pub is_allowed : ℕ → Bool
is_allowed b = (b == 9) || (nat_le 32 b && nat_le b 126)

-- space and tab
abbrev pub is_blank : ℕ → Bool
is_blank b = (b == 32) || (b == 9)

-- the tokens of a line: its longest runs of bytes other than space and tab
unfoldable pub tokens : List ℕ → List (List ℕ)
tokens line = filter is_filled (slice_split is_blank line)
