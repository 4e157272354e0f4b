-- When a table serves a query, and what table is made for queries.
use Rattle.std.specs.Prelude.{◌≡◌, ℕ, ◌≤◌, max, List, map, fold, Option, Some, None}
use Rattle.av_sys.specs.declared.terms.System.{System}
use Rattle.av_count.specs.Tables.{Stands}
use Rattle.av_text.specs.declared.queries.Query.{Query}
use Rattle.av_session.specs.Answers.{length_needed}

-- it is a table of this system up to length n; there may be none where no length is needed
abbrev pub Serves : System → ℕ → Option Stands → Type 0
Serves S n (Some table) = (table.system ≡ S) × (n ≤ table.largest)
Serves S n None = n ≡ 0

-- the greatest length that some queries need; 0 where none needs any
abbrev pub greatest_needed : List Query → ℕ
greatest_needed queries = fold max 0 (map length_needed queries)

-- the table made where the greatest length needed is n: one of this system up to exactly n, and none where n is 0
abbrev pub IsTableFor : System → ℕ → Option Stands → Type 0
IsTableFor S n (Some table) = (1 ≤ n) × (table.system ≡ S) × (table.largest ≡ n)
IsTableFor S n None = n ≡ 0
