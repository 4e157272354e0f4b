-- The answers of the queries about a settled class.
use Rattle.std.specs.Prelude.{◌≡◌, ℕ, Bool, not, ◌^◌, ◌==◌, List, [], length, take, drop, flat_map, filter, find, slice_get, nat_lt, if◌then◌else◌, Option, Some, None, codes, decimal}
use Rattle.std.specs.List.{position}
use Rattle.av_perm.specs.Lists.{same, counting}
use Rattle.av_perm.specs.declared.StatKind.{StatKind}
use Rattle.av_perm.specs.Stat.{statistic_of}
use Rattle.av_perm.specs.Contain.{contains, first_occurrence}
use Rattle.av_decomp.specs.Trees.{dec}
use Rattle.av_sys.specs.declared.terms.System.{System}
use Rattle.av_sys.specs.TreeLists.{members, count_of}
use Rattle.av_count.specs.declared.count.Count.{Count}
use Rattle.av_count.specs.declared.count.Count.TheVariants.{Known, Over}
use Rattle.av_count.specs.Counts.{capped}
use Rattle.av_list.specs.Items.{items_from}
use Rattle.av_bars.specs.Histograms.{bars}
use Rattle.av_dist.specs.Distributions.{dist}
use Rattle.av_text.specs.declared.queries.Query.{Query}
use Rattle.av_text.specs.declared.queries.Query.TheVariants as query
use Rattle.av_print.specs.Text.{◌⊹◌, word_text, places_text, ranked_text, count_text, bars_text, dist_bars_text, query_text, tree_text}
use Rattle.av_session.specs.Classes.{Class, required_of}
use Rattle.av_session.specs.Drawing.{draws, drawn_values, summary_text}

-- an answer of one line: the query, and what is answered
abbrev pub one_line : Query → List ℕ → List ℕ
one_line q text = query_text q ⊹ codes " = " ⊹ text ⊹ codes "\n"

-- how many members of a length there are, over from 2 ^ 128 on
abbrev pub member_count : System → ℕ → Count
member_count S n = capped (count_of S n)

-- that number after a space, and those of the lengths from 1 to n
abbrev pub spaced_count : System → ℕ → List ℕ
spaced_count S m = codes " " ⊹ count_text (member_count S m)

abbrev pub counts_text : System → ℕ → List ℕ
counts_text S n = flat_map (spaced_count S) (counting 1 n)

-- the line of a member with its rank
abbrev pub row_text : ℕ × List ℕ → List ℕ
row_text row = ranked_text row.0 row.1

-- the lines of the members of length n from rank r on, as far as ranks are below 2 ^ 128, at most k of them
unfoldable pub rows_text : System → ℕ → ℕ → ℕ → List ℕ
rows_text S n r k = flat_map row_text (take k (items_from r (drop r (members S n))))

-- the member at a rank, or how many members there are
abbrev pub unranked_text : Count → Option (List ℕ) → List ℕ
unranked_text count (Some w) = word_text w
unranked_text count None = codes "none of " ⊹ count_text count

-- the places of an occurrence
abbrev pub occurrence_text : Option (List ℕ) → List ℕ
occurrence_text (Some places) = places_text places
occurrence_text None = []

-- the word of the basis that a word contains, and where it does first
abbrev pub bad_text : List ℕ → Option (List ℕ) → List ℕ
bad_text w (Some b) = codes "no " ⊹ word_text b ⊹ codes " at " ⊹ occurrence_text (first_occurrence w b)
bad_text w None = []

-- a rank below 2 ^ 128, or that it is greater
abbrev pub rank_text : ℕ → List ℕ
rank_text r = if nat_lt r (2 ^ 128) then decimal r else codes "big"

-- the required word that a word lacks
abbrev pub lacks_text : Option (List ℕ) → List ℕ
lacks_text (Some q) = codes "lacks " ⊹ word_text q
lacks_text None = []

-- the first word of the basis that a word contains; or where it contains none, the first required word that it lacks
abbrev pub strange_text : List ℕ → Option (List ℕ) → Option (List ℕ) → List ℕ
strange_text w (Some b) lacking = bad_text w (Some b)
strange_text w None lacking = lacks_text lacking

-- the first required word that a word doesn't contain
abbrev pub first_lacking : List ℕ → List (List ℕ) → Option (List ℕ)
first_lacking w required = find (λ q. not (contains w q)) required

-- the rank of a word, its place among the members of its length; or why it has none
abbrev pub place_text : Class → List ℕ → Option ℕ → List ℕ
place_text class w (Some r) = rank_text r
place_text class w None = strange_text w (find (contains w) class.subject.found.basis) (first_lacking w (required_of class.subject))

-- the place of a word among the members of its length
abbrev pub place_among : System → List ℕ → Option ℕ
place_among S w = position (same w) (members S (length w))

-- the lines of the members of length n that are drawn, k of them
unfoldable pub draws_text : System → ℕ → ℕ → ℕ → List ℕ
draws_text S n seed k = flat_map row_text (draws (members S n) seed k)

-- an answer about drawn members, where so many can be drawn
abbrev pub drawn_answer : Query → Count → List ℕ → List ℕ
drawn_answer q Over text = one_line q (codes "over")
drawn_answer q (Known c) text = if c == 0 then one_line q (codes "none of 0") else text

-- a closure whose answers on a word are these answers this test
abbrev pub Tells : (List ℕ → Bool → Type 0) → (List ℕ → Bool) → Type 0
Tells answers p = (w : List ℕ) (b : Bool) → answers w b → b ≡ p w

-- the rows whose word passes a test, in their order
abbrev pub kept : (List ℕ → Bool) → List (ℕ × List ℕ) → List (ℕ × List ℕ)
kept p rows = filter (λ (row : ℕ × List ℕ). p row.1) rows

-- their lines
unfoldable pub kept_text : (List ℕ → Bool) → List (ℕ × List ℕ) → List ℕ
kept_text p rows = flat_map row_text (kept p rows)

-- whether a statistic has a value
abbrev pub has_value : StatKind → ℕ → List ℕ → Bool
has_value t v w = statistic_of t w == v

-- the rows whose word has a value of a statistic, in their order
unfoldable pub picked : StatKind → ℕ → List (ℕ × List ℕ) → List (ℕ × List ℕ)
picked t v rows = kept (has_value t v) rows

-- the lines of the members of length n that have a value of a statistic
unfoldable pub picked_text : System → StatKind → ℕ → ℕ → List ℕ
picked_text S t v n = kept_text (has_value t v) (items_from 0 (members S n))

-- the answer of a query
unfoldable pub answer_text : Class → Query → List ℕ
answer_text class (query.Count n) = one_line (query.Count n) (count_text (member_count class.system n))
answer_text class (query.Counts n) = query_text (query.Counts n) ⊹ codes " =" ⊹ counts_text class.system n ⊹ codes "\n"
answer_text class (query.List n r k) = query_text (query.List n r k) ⊹ codes " =\n" ⊹ rows_text class.system n r k ⊹ codes "end\n"
answer_text class (query.Unrank n r) = one_line (query.Unrank n r) (unranked_text (member_count class.system n) (slice_get (members class.system n) r))
answer_text class (query.Rank w) = one_line (query.Rank w) (place_text class w (place_among class.system w))
answer_text class (query.Tree w) = one_line (query.Tree w) (tree_text (dec w))
answer_text class (query.Draw n s k) =
    drawn_answer (query.Draw n s k) (member_count class.system n)
    (query_text (query.Draw n s k) ⊹ codes " =\n" ⊹ draws_text class.system n s k ⊹ codes "end\n")
answer_text class (query.DrawStat t n s k) =
    drawn_answer (query.DrawStat t n s k) (member_count class.system n)
    (one_line (query.DrawStat t n s k) (summary_text (drawn_values t (draws (members class.system n) s k))))
answer_text class (query.Stat t n) = one_line (query.Stat t n) (bars_text (bars t (members class.system n)))
answer_text class (query.Pick t v n) = query_text (query.Pick t v n) ⊹ codes " =\n" ⊹ picked_text class.system t v n ⊹ codes "end\n"
answer_text class (query.Dist k n) = one_line (query.Dist k n) (dist_bars_text (dist k class.system n))

-- the greatest length at which a query asks of the members, one by one or how many they are; none for the tree of a word, and for
-- a distribution
abbrev pub length_needed : Query → ℕ
length_needed (query.Count n) = n
length_needed (query.Counts n) = n
length_needed (query.List n r k) = n
length_needed (query.Unrank n r) = n
length_needed (query.Rank w) = length w
length_needed (query.Tree w) = 0
length_needed (query.Draw n s k) = n
length_needed (query.DrawStat t n s k) = n
length_needed (query.Stat t n) = n
length_needed (query.Pick t v n) = n
length_needed (query.Dist k n) = 0
