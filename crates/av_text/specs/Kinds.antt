-- The numbers that faults are reported by.
use Rattle.std.specs.Prelude.{ℕ}
use Rattle.av_text.specs.declared.kind.Kind.{Kind}
use Rattle.av_text.specs.declared.kind.Kind.TheVariants.{NoBasis, BadWord, LongWord, ManyWords, UnknownQuery, BadNumber, Range, TooLong, BadByte, SecondBasis, SecondRequire, SecondFormat, BadClaim, LongUnion, SecondUnion}

-- the number of a kind
abbrev pub kind_number : Kind → ℕ
kind_number NoBasis = 1
kind_number BadWord = 2
kind_number LongWord = 3
kind_number ManyWords = 4
kind_number UnknownQuery = 5
kind_number BadNumber = 6
kind_number Range = 7
kind_number TooLong = 8
kind_number BadByte = 9
kind_number SecondBasis = 10
kind_number SecondRequire = 11
kind_number SecondFormat = 12
kind_number BadClaim = 13
kind_number LongUnion = 14
kind_number SecondUnion = 15
