-- The queries of a script.
use Rattle.std.specs.Prelude.{ℕ, ◌-◌, ◌^◌, ◌<◌, ◌≤◌, Bool, ◌&&◌, if◌then◌else◌, List, [], ◌∷◌, Option, find, Result, Ok, Err, ok_or, codes, IsTrue}
use Rattle.av_perm.specs.declared.StatKind.{StatKind}
use Rattle.av_perm.specs.declared.StatKind.TheVariants as stat
use Rattle.av_perm.specs.declared.limits.TheConstants.{MAX_LENGTH, MAX_STATISTIC}
use Rattle.av_perm.specs.Lists.{same}
use Rattle.av_perm.specs.Word.{is_perm}
use Rattle.av_text.specs.declared.kind.Kind.{Kind}
use Rattle.av_text.specs.declared.kind.Kind.TheVariants.{UnknownQuery}
use Rattle.av_text.specs.declared.limits.TheConstants.{MAX_LISTED, DEFAULT_LISTED, MAX_DRAWN, MAX_STATISTIC_LENGTH, MAX_DISTRIBUTION_LENGTH}
use Rattle.av_text.specs.declared.queries.DistKind.{DistKind}
use Rattle.av_text.specs.declared.queries.DistKind.TheVariants as dist
use Rattle.av_text.specs.declared.queries.Form.{Form}
use Rattle.av_text.specs.declared.queries.Form.TheVariants as form
use Rattle.av_text.specs.declared.queries.Query.{Query}
use Rattle.av_text.specs.declared.queries.Query.TheVariants as query
use Rattle.av_text.specs.Steps.{◌>>=◌}
use Rattle.av_text.specs.Numerals.{number_in}
use Rattle.av_text.specs.Words.{word_in}

-- the first token of a form
abbrev pub form_name : Form → List ℕ
form_name form.Count = codes "count"
form_name form.Counts = codes "counts"
form_name form.List = codes "list"
form_name form.Unrank = codes "unrank"
form_name form.Rank = codes "rank"
form_name form.Tree = codes "tree"
form_name form.Draw = codes "draw"
form_name form.DrawStat = codes "drawstat"
form_name form.Stat = codes "stat"
form_name form.Pick = codes "pick"
form_name form.Dist = codes "dist"

-- all forms
abbrev pub forms : List Form
forms = form.Count ∷ form.Counts ∷ form.List ∷ form.Unrank ∷ form.Rank ∷ form.Tree ∷ form.Draw ∷ form.DrawStat ∷ form.Stat ∷ form.Pick ∷ form.Dist ∷ []

-- the form that a token names
unfoldable pub form_named : List ℕ → Option Form
form_named t = find (λ f. same (form_name f) t) forms

-- a length of a word
abbrev pub IsLength : ℕ → Type 0
IsLength n = (1 ≤ n) × (n ≤ MAX_LENGTH)

-- such a length
abbrev pub length_in : List ℕ → Result ℕ Kind
length_in t = number_in 1 MAX_LENGTH t

-- a rank
abbrev pub IsRank : ℕ → Type 0
IsRank r = r < 2 ^ 128

abbrev pub rank_in : List ℕ → Result ℕ Kind
rank_in t = number_in 0 (2 ^ 128 - 1) t

-- how many words are listed at most
abbrev pub IsListed : ℕ → Type 0
IsListed k = (1 ≤ k) × (k ≤ MAX_LISTED)

abbrev pub listed_in : List ℕ → Result ℕ Kind
listed_in t = number_in 1 MAX_LISTED t

-- a seed
abbrev pub IsSeed : ℕ → Type 0
IsSeed s = s < 2 ^ 64

abbrev pub seed_in : List ℕ → Result ℕ Kind
seed_in t = number_in 0 (2 ^ 64 - 1) t

-- how many words are drawn
abbrev pub IsDrawn : ℕ → Type 0
IsDrawn k = (1 ≤ k) × (k ≤ MAX_DRAWN)

abbrev pub drawn_in : List ℕ → Result ℕ Kind
drawn_in t = number_in 1 MAX_DRAWN t

-- a length of words of which each is asked for a statistic
abbrev pub IsStatisticLength : ℕ → Type 0
IsStatisticLength n = (1 ≤ n) × (n ≤ MAX_STATISTIC_LENGTH)

abbrev pub statistic_length_in : List ℕ → Result ℕ Kind
statistic_length_in t = number_in 1 MAX_STATISTIC_LENGTH t

-- a value of a statistic
abbrev pub IsStatisticValue : ℕ → Type 0
IsStatisticValue v = v ≤ MAX_STATISTIC

abbrev pub statistic_value_in : List ℕ → Result ℕ Kind
statistic_value_in t = number_in 0 MAX_STATISTIC t

-- the token that names a statistic
abbrev pub statistic_name : StatKind → List ℕ
statistic_name stat.Inv = codes "inv"
statistic_name stat.Des = codes "des"
statistic_name stat.Lrm = codes "lrm"

-- all statistics
abbrev pub statistics : List StatKind
statistics = stat.Inv ∷ stat.Des ∷ stat.Lrm ∷ []

-- the statistic that a token names
unfoldable pub statistic_named : List ℕ → Option StatKind
statistic_named t = find (λ k. same (statistic_name k) t) statistics

-- where none is named, the line has no form of a query
abbrev pub statistic_in : List ℕ → Result StatKind Kind
statistic_in t = ok_or (statistic_named t) UnknownQuery

-- a length of words of whose statistics a distribution is asked for
abbrev pub IsDistributionLength : ℕ → Type 0
IsDistributionLength n = (1 ≤ n) × (n ≤ MAX_DISTRIBUTION_LENGTH)

abbrev pub distribution_length_in : List ℕ → Result ℕ Kind
distribution_length_in t = number_in 1 MAX_DISTRIBUTION_LENGTH t

-- a kind of distribution as a kind of statistic
abbrev pub stat_kind : DistKind → StatKind
stat_kind dist.Inv = stat.Inv
stat_kind dist.Des = stat.Des

-- the token that names a kind of distribution: that of its statistic
abbrev pub dist_kind_name : DistKind → List ℕ
dist_kind_name k = statistic_name (stat_kind k)

-- all kinds of distributions
abbrev pub dist_kinds : List DistKind
dist_kinds = dist.Inv ∷ dist.Des ∷ []

-- the kind of distribution that a token names
unfoldable pub dist_kind_named : List ℕ → Option DistKind
dist_kind_named t = find (λ k. same (dist_kind_name k) t) dist_kinds

-- where none is named, the line has no form of a query
abbrev pub dist_kind_in : List ℕ → Result DistKind Kind
dist_kind_in t = ok_or (dist_kind_named t) UnknownQuery

-- the tokens before a rank, and before a number of words
abbrev pub is_from : List ℕ → Bool
is_from t = same t (codes "from")

abbrev pub is_for : List ℕ → Bool
is_for t = same t (codes "for")

-- the query of a form with one argument
unfoldable pub query_with_one : Form → List ℕ → Result Query Kind
query_with_one form.Count a = do
  n ← length_in a
  Ok (query.Count n)
query_with_one form.Counts a = do
  n ← length_in a
  Ok (query.Counts n)
query_with_one form.List a = do
  n ← length_in a
  Ok (query.List n 0 DEFAULT_LISTED)
query_with_one form.Rank a = do
  w ← word_in MAX_LENGTH a
  Ok (query.Rank w)
query_with_one form.Tree a = do
  w ← word_in MAX_LENGTH a
  Ok (query.Tree w)
query_with_one _ a = Err UnknownQuery

-- with two
unfoldable pub query_with_two : Form → List ℕ → List ℕ → Result Query Kind
query_with_two form.Unrank a b = do
  n ← length_in a
  r ← rank_in b
  Ok (query.Unrank n r)
query_with_two form.Stat a b = do
  t ← statistic_in a
  n ← statistic_length_in b
  Ok (query.Stat t n)
query_with_two form.Dist a b = do
  t ← dist_kind_in a
  n ← distribution_length_in b
  Ok (query.Dist t n)
query_with_two _ a b = Err UnknownQuery

-- with three
unfoldable pub query_with_three : Form → List ℕ → List ℕ → List ℕ → Result Query Kind
query_with_three form.List a b c =
    if is_from b then (do
      n ← length_in a
      r ← rank_in c
      Ok (query.List n r DEFAULT_LISTED))
    else (if is_for b then (do
      n ← length_in a
      k ← listed_in c
      Ok (query.List n 0 k)) else Err UnknownQuery)
query_with_three form.Draw a b c = do
  n ← length_in a
  s ← seed_in b
  k ← drawn_in c
  Ok (query.Draw n s k)
query_with_three form.Pick a b c = do
  t ← statistic_in a
  v ← statistic_value_in b
  n ← statistic_length_in c
  Ok (query.Pick t v n)
query_with_three _ a b c = Err UnknownQuery

-- with four
unfoldable pub query_with_four : Form → List ℕ → List ℕ → List ℕ → List ℕ → Result Query Kind
query_with_four form.DrawStat a b c d = do
  t ← statistic_in a
  n ← length_in b
  s ← seed_in c
  k ← drawn_in d
  Ok (query.DrawStat t n s k)
query_with_four _ a b c d = Err UnknownQuery

-- with five
unfoldable pub query_with_five : Form → List ℕ → List ℕ → List ℕ → List ℕ → List ℕ → Result Query Kind
query_with_five form.List a b c d e =
    if is_from b && is_for d then (do
      n ← length_in a
      r ← rank_in c
      k ← listed_in e
      Ok (query.List n r k))
    else Err UnknownQuery
query_with_five _ a b c d e = Err UnknownQuery

-- the query of a form with these arguments; no form has another number of them
unfoldable pub query_with : Form → List (List ℕ) → Result Query Kind
query_with f (a ∷ []) = query_with_one f a
query_with f (a ∷ b ∷ []) = query_with_two f a b
query_with f (a ∷ b ∷ c ∷ []) = query_with_three f a b c
query_with f (a ∷ b ∷ c ∷ d ∷ []) = query_with_four f a b c d
query_with f (a ∷ b ∷ c ∷ d ∷ e ∷ []) = query_with_five f a b c d e
query_with f _ = Err UnknownQuery

-- the query of a line's first token and those that follow it
unfoldable pub query_of : List ℕ → List (List ℕ) → Result Query Kind
query_of t args = do
  f ← ok_or (form_named t) UnknownQuery
  query_with f args

-- the numbers and words of a query are in their ranges
abbrev pub IsInRange : Query → Type 0
IsInRange (query.Count n) = IsLength n
IsInRange (query.Counts n) = IsLength n
IsInRange (query.List n r k) = IsLength n × IsRank r × IsListed k
IsInRange (query.Unrank n r) = IsLength n × IsRank r
IsInRange (query.Rank w) = IsTrue (is_perm w)
IsInRange (query.Tree w) = IsTrue (is_perm w)
IsInRange (query.Draw n s k) = IsLength n × IsSeed s × IsDrawn k
IsInRange (query.DrawStat t n s k) = IsLength n × IsSeed s × IsDrawn k
IsInRange (query.Stat t n) = IsStatisticLength n
IsInRange (query.Pick t v n) = IsStatisticValue v × IsStatisticLength n
IsInRange (query.Dist t n) = IsDistributionLength n
