-- Worked texts, each with the script or the fault that it is.
use Rattle.std.proofs.Common.{◌≡◌, ℕ, List, [], ◌∷◌, ◌++◌, map, take, refl, Result, Ok, Err, codes, None, Some}
use Rattle.std.specs.List.{repeat}
use Rattle.av_perm.specs.Lists.{counting}
use Rattle.av_perm.specs.declared.StatKind.TheVariants as stat
use Rattle.av_text.specs.declared.kind.Kind.{Kind}
use Rattle.av_text.specs.declared.kind.Kind.TheVariants.{NoBasis, BadWord, LongWord, ManyWords, UnknownQuery, BadNumber, Range, BadByte, SecondBasis, SecondRequire, SecondFormat, LongUnion, SecondUnion}
use Rattle.av_text.specs.declared.queries.DistKind.TheVariants as dist
use Rattle.av_text.specs.declared.queries.Query.{Query}
use Rattle.av_text.specs.declared.queries.Query.TheVariants as query
use Rattle.av_text.specs.declared.script.Script.{Script}
use Rattle.av_text.specs.Lines.{script_lines, tokens}
use Rattle.av_text.specs.Numerals.{is_digits, is_numeral, number_in}
use Rattle.av_text.specs.Words.{is_comma_form, entries_of, checked_word, word_in}
use Rattle.av_text.specs.Queries.{form_named, statistic_named, dist_kind_named, query_with_one, query_with_two, query_with_three, query_with_four, query_with_five, query_with, query_of}
use Rattle.av_text.specs.Read.{Fault, patterns, patterns_once, format_said, tokens_said, line_said, union_words, lines_said, read}

-- a fault at a line
abbrev fault : ℕ → Kind → Result Script Fault
fault line kind = Err (record { line = line; kind = kind })

-- a script
abbrev script : List (List ℕ) → List Query → Result Script Fault
script basis queries = Ok (record { basis = basis; union_with = None; require = None; format = 2; queries = queries })

-- the word 132
abbrev w132 : List ℕ
w132 = 1 ∷ 3 ∷ 2 ∷ []

-- texts, and what each is
abbrev table : List (List ℕ × Result Script Fault)
table =
    (codes "basis 132\ncount 7\n", script (w132 ∷ []) (query.Count 7 ∷ []))
    ∷ (codes "basis 1,3,2", script (w132 ∷ []) [])
    ∷ (codes "basis 132\r\ncount 7\r\n", script (w132 ∷ []) (query.Count 7 ∷ []))
    ∷ (codes "tree 213\nbasis 12 12 132\n# note\n\ncount 1", script ((1 ∷ 2 ∷ []) ∷ (1 ∷ 2 ∷ []) ∷ w132 ∷ []) (query.Tree (2 ∷ 1 ∷ 3 ∷ []) ∷ query.Count 1 ∷ []))
    ∷ (codes "basis", script [] [])
    ∷ ([], fault 0 NoBasis)
    ∷ (codes "count 7", fault 0 NoBasis)
    ∷ (codes "basis 1224", fault 1 BadWord)
    ∷ (codes "basis 0", fault 1 BadWord)
    ∷ (codes "basis 1234567890", fault 1 BadWord)
    ∷ (codes "basis 2,1,3,", fault 1 BadWord)
    ∷ (codes "basis 1,2,3,4,5,6,7,8,9,10,11,12,13", fault 1 LongWord)
    ∷ (codes "basis 1111111111111", fault 1 LongWord)
    ∷ (codes "basis" ++ repeat 65 (codes " 21"), fault 1 ManyWords)
    ∷ (codes "BASIS 132", fault 1 UnknownQuery)
    ∷ (codes "basis 132\ncuont 7", fault 2 UnknownQuery)
    ∷ (codes "basis 132\ncount", fault 2 UnknownQuery)
    ∷ (codes "basis 132\nlist 3 from", fault 2 UnknownQuery)
    ∷ (codes "basis 132\nlist 3\nlist 3 from 2\nlist 3 for 2\nlist 3 from 2 for 1000000", script (w132 ∷ []) (query.List 3 0 1000 ∷ query.List 3 2 1000 ∷ query.List 3 0 2 ∷ query.List 3 2 1000000 ∷ []))
    ∷ (codes "basis 132\nunrank 3 340282366920938463463374607431768211455\nrank 2,1,3", script (w132 ∷ []) (query.Unrank 3 340282366920938463463374607431768211455 ∷ query.Rank (2 ∷ 1 ∷ 3 ∷ []) ∷ []))
    ∷ (codes "basis 132\nunrank 3 340282366920938463463374607431768211456", fault 2 Range)
    ∷ (codes "basis 132\nlist 3 for 2 from 1", fault 2 UnknownQuery)
    ∷ (codes "basis 132\ndraw 3 0 2\ndraw 160 18446744073709551615 100000", script (w132 ∷ []) (query.Draw 3 0 2 ∷ query.Draw 160 18446744073709551615 100000 ∷ []))
    ∷ (codes "basis 132\ndraw 3 18446744073709551616 2", fault 2 Range)
    ∷ (codes "basis 132\ndraw 3 0 100001", fault 2 Range)
    ∷ (codes "basis 132\ndraw 3 0 0", fault 2 Range)
    ∷ (codes "basis 132\ndraw 3 0", fault 2 UnknownQuery)
    ∷ (codes "basis 132\ndraw 0 x 1", fault 2 Range)
    ∷ (codes "basis 132\ndraw x 0 0", fault 2 BadNumber)
    ∷ (codes "basis 132\ndrawstat inv 3 0 2\ndrawstat des 3 1 4\ndrawstat lrm 1 2 3", script (w132 ∷ []) (query.DrawStat stat.Inv 3 0 2 ∷ query.DrawStat stat.Des 3 1 4 ∷ query.DrawStat stat.Lrm 1 2 3 ∷ []))
    ∷ (codes "basis 132\ndrawstat maj 0 x 1", fault 2 UnknownQuery)
    ∷ (codes "basis 132\nstat inv 12\npick des 12720 1\npick lrm 0 12", script (w132 ∷ []) (query.Stat stat.Inv 12 ∷ query.Pick stat.Des 12720 1 ∷ query.Pick stat.Lrm 0 12 ∷ []))
    ∷ (codes "basis 132\nstat foo 3", fault 2 UnknownQuery)
    ∷ (codes "basis 132\npick inv 12721 x", fault 2 Range)
    ∷ (codes "basis 132\ndist inv 24\ndist des 1", script (w132 ∷ []) (query.Dist dist.Inv 24 ∷ query.Dist dist.Des 1 ∷ []))
    ∷ (codes "basis 132\ndist lrm 3", fault 2 UnknownQuery)
    ∷ (codes "basis 132\ndist inv", fault 2 UnknownQuery)
    ∷ (codes "basis 132\ndist inv x", fault 2 BadNumber)
    ∷ (codes "basis 132\ndist inv 0", fault 2 Range)
    ∷ (codes "basis 132\ndist inv 25", fault 2 Range)
    ∷ (codes "basis 132\ndrawstat inv 161 0 2", fault 2 Range)
    ∷ (codes "basis 132\ncount x", fault 2 BadNumber)
    ∷ (codes "basis 132\ncount 07", fault 2 BadNumber)
    ∷ (codes "basis 132\ncount 0", fault 2 Range)
    ∷ (codes "basis 132\ncount 160\ncounts 160", script (w132 ∷ []) (query.Count 160 ∷ query.Counts 160 ∷ []))
    ∷ (codes "basis 132\ncount 161", fault 2 Range)
    ∷ (codes "basis 132\ncounts 161", fault 2 Range)
    ∷ (codes "basis 132\ncount 340282366920938463463374607431768211456", fault 2 Range)
    ∷ (codes "basis 132\ntree 122", fault 2 BadWord)
    ∷ (codes "basis 132\ntree 1,2,,3", fault 2 BadWord)
    ∷ (codes "basis 132\n" ++ 195 ∷ [], fault 2 BadByte)
    ∷ (codes "basis 132\r\r\ncount 7", fault 1 BadByte)
    ∷ (codes "basis 132\n# note\nbasis 21", fault 3 SecondBasis)
    ∷ (codes "basis 132\nrequire 21 1", Ok (record { basis = w132 ∷ []; union_with = None; require = Some ((2 ∷ 1 ∷ []) ∷ (1 ∷ []) ∷ []); format = 2; queries = [] }))
    ∷ (codes "require\nbasis 132", Ok (record { basis = w132 ∷ []; union_with = None; require = Some []; format = 2; queries = [] }))
    ∷ (codes "basis 21\nrequire 1\nrequire 122", fault 3 SecondRequire)
    ∷ (codes "basis 21\nrequire 122", fault 2 BadWord)
    ∷ (codes "format 1\nbasis 132", Ok (record { basis = w132 ∷ []; union_with = None; require = None; format = 1; queries = [] }))
    ∷ (codes "basis 21\nformat 1 2", fault 2 UnknownQuery)
    ∷ (codes "basis 21\nformat 2\nformat x", fault 3 SecondFormat)
    ∷ (codes "basis 21\nformat x", fault 2 BadNumber)
    ∷ (codes "basis 21\nformat 3", fault 2 Range)
    ∷ (codes "require 1,2,3,4,5,6,7,8,9,10,11,12,13", fault 1 LongWord)
    ∷ (codes "basis 132\nunion 1234567", Ok (record { basis = w132 ∷ []; union_with = Some ((1 ∷ 2 ∷ 3 ∷ 4 ∷ 5 ∷ 6 ∷ 7 ∷ []) ∷ []); require = None; format = 2; queries = [] }))
    ∷ (codes "union\nbasis 132", Ok (record { basis = w132 ∷ []; union_with = Some []; require = None; format = 2; queries = [] }))
    ∷ (codes "basis\nunion 12345678", Ok (record { basis = []; union_with = Some ((1 ∷ 2 ∷ 3 ∷ 4 ∷ 5 ∷ 6 ∷ 7 ∷ 8 ∷ []) ∷ []); require = None; format = 2; queries = [] }))
    ∷ (codes "basis 132\nunion 12345678", fault 2 LongUnion)
    ∷ (codes "# note\nunion 12345678\nbasis 1 132 21", fault 2 LongUnion)
    ∷ (codes "basis 132\nunion 12345678\ncount 0", fault 3 Range)
    ∷ (codes "union 12345678", fault 0 NoBasis)
    ∷ (codes "basis 12\nunion 21\nunion 122", fault 3 SecondUnion)
    ∷ (codes "basis 21\nunion 122", fault 2 BadWord)
    ∷ (codes "basis 21\nunion 1,2,3,4,5,6,7,8,9,10,11,12,13", fault 2 LongWord)
    ∷ (codes "basis 21\nunion" ++ repeat 65 (codes " 0"), fault 2 ManyWords)
    ∷ []

-- each text of the table is what it says
pub each_is_so : map (λ row. read row.0) table ≡ map (λ row. row.1) table
unfolding read union_words lines_said line_said tokens_said format_said patterns_once patterns word_in entries_of checked_word is_digits is_numeral is_comma_form script_lines tokens query_of query_with query_with_one query_with_two query_with_three query_with_four query_with_five form_named statistic_named dist_kind_named number_in
each_is_so = refl

-- the first text, cut after each number of bytes
abbrev cuts : List (Result Script Fault)
cuts =
    fault 0 NoBasis
    ∷ repeat 4 (fault 1 UnknownQuery ∷ [])
    ++ repeat 2 (script [] [] ∷ [])
    ++ script ((1 ∷ []) ∷ []) []
    ∷ fault 1 BadWord
    ∷ repeat 2 (script (w132 ∷ []) [] ∷ [])
    ++ repeat 6 (fault 2 UnknownQuery ∷ [])
    ++ repeat 2 (script (w132 ∷ []) (query.Count 7 ∷ []) ∷ [])

-- each cut is what the list says
pub each_cut_is_so : map (λ k. read (take k (codes "basis 132\ncount 7\n"))) (counting 0 19) ≡ cuts
unfolding read union_words lines_said line_said tokens_said format_said patterns_once patterns word_in entries_of checked_word is_digits is_numeral is_comma_form script_lines tokens query_of query_with query_with_one query_with_two query_with_three query_with_four query_with_five form_named statistic_named dist_kind_named number_in
each_cut_is_so = refl
