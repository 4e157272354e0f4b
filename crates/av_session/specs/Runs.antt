-- What a run is about: the text due of the words and the bytes, what it says of the class, and what its system generates.
use Rattle.std.specs.Prelude.{◌≡◌, ℕ, suc, ◌^◌, ◌<◌, ◌≤◌, ◌↔◌, ◌⊎◌, false, if◌then◌else◌, List, [], length, map, flat_map, find, slice_get, Option, Some, None, Ok}
use Rattle.std.specs.Io.KnownBytes.{IsAtEnd}
use Rattle.std.specs.Option.{option_and_then, option_map}
use Rattle.std.specs.Ordering.{nat_cmp}
use Rattle.std.specs.declared.cmp.Ordering.{Ordering}
use Rattle.av_perm.specs.declared.StatKind.{StatKind}
use Rattle.av_perm.specs.Members.{In, IsListOf, Ascending}
use Rattle.av_perm.specs.Stat.{statistic_of}
use Rattle.av_perm.specs.Class.{minimal, top}
use Rattle.av_perm.specs.Contain.{contains, first_occurrence}
use Rattle.av_perm.specs.Gap.{simples, simples_below, IsSettled, IsUnsettled}
use Rattle.av_perm.specs.Relations.{IsWord, OccursAt, Contains, Avoids, InClass, InClassWith, InClassWithAt, AreWords}
use Rattle.av_perm.specs.Laws.{IsSimpleOf, IsMinimalIn, IsTopIn, IsGap, IsLeastGap}
use Rattle.av_decomp.specs.Laws.{HasTree}
use Rattle.av_union.specs.Union.{IsMinimalInBoth}
use Rattle.av_union.specs.Laws.{AvoidsEach}
use Rattle.av_sys.specs.declared.terms.System.{System}
use Rattle.av_sys.specs.Terms.{IsWellFormed, AreNamedByWords}
use Rattle.av_sys.specs.TreeLists.{members, count_of}
use Rattle.av_sys.specs.Exact.{Exact, Named}
use Rattle.av_build.specs.Canonical.{grow, grown_size, IsTooLarge, IsCanonical}
use Rattle.av_list.specs.Items.{items_from}
use Rattle.av_bars.specs.Histograms.{bars}
use Rattle.av_bars.specs.Laws.{pair_of, histogram_pair}
use Rattle.av_dist.specs.Distributions.{dist}
use Rattle.av_text.specs.declared.queries.DistKind.{DistKind}
use Rattle.av_text.specs.Queries.{stat_kind}
use Rattle.av_text.specs.declared.script.Script.{Script}
use Rattle.av_text.specs.Demo.{demo_script}
use Rattle.av_text.specs.Read.{read}
use Rattle.av_text.specs.Ranges.{united, required}
use Rattle.av_session.specs.declared.options.Options.{Options}
use Rattle.av_session.specs.Classes.{Class, required_of, in_format}
use Rattle.av_session.specs.declared.solving.Solved.TheVariants.{Settled}
use Rattle.av_session.specs.declared.reading.TheConstants.{MOST_READ, MOST_CLAIMED}
use Rattle.av_session.specs.declared.status.Status.{Status}
use Rattle.av_session.specs.declared.status.Status.TheVariants as status
use Rattle.av_session.specs.Options.{options}
use Rattle.av_print.specs.Text.{◌⊹◌}
use Rattle.av_print.specs.Systems.{system_text}
use Rattle.av_session.specs.Drawing.{draw, least_of, greatest_of}
use Rattle.av_session.specs.Answers.{answer_text, place_among, first_lacking, picked}
use Rattle.av_session.specs.Due.{text_due, settled_header}
use Rattle.av_session.specs.Solved.{basis_of, lists_of, subject_of, solved_script, status_of}
use Rattle.av_session.specs.Status.{FitsText}
use Rattle.av_session.specs.Taken.{TakesAll}

-- the number of the demo script that the words of the command line ask for
unfoldable pub demo_asked : List (List ℕ) → Option ℕ
demo_asked words = option_and_then (λ o. o.demo) (options words)

-- the bytes that are read as a script, where they are known: those of the demo script of a number, or where there is none
-- those that the source has
abbrev pub bytes_by : Option ℕ → Option (List ℕ) → Option (List ℕ)
bytes_by (Some g) left = Some (demo_script g)
bytes_by None left = left

-- where the words of the command line set these options, or aren't accepted: with `--check` no bytes are read as a script
abbrev pub script_by : Option Options → Option (List ℕ) → Option (List ℕ)
script_by None left = left
script_by (Some options) left = if options.check then None else bytes_by options.demo left

unfoldable pub script_bytes : List (List ℕ) → Option (List ℕ) → Option (List ℕ)
script_bytes words left = script_by (options words) left

-- how many bytes are read at most: as far as a script may reach and one byte more, or with `--check` as far as a claim may reach
-- and one byte more
abbrev pub most_by : Option Options → ℕ
most_by None = MOST_READ
most_by (Some options) = if options.check then MOST_CLAIMED else MOST_READ

unfoldable pub most_read : List (List ℕ) → ℕ
most_read words = most_by (options words)

-- the text due where the words of the command line set these options, or aren't accepted
abbrev pub due_of : Option Options → List ℕ → List ℕ
due_of None bytes = []
due_of (Some options) bytes = text_due options bytes

-- the text due of the words of the command line and of the bytes that are read as a script
unfoldable pub due : List (List ℕ) → List ℕ → List ℕ
due words bytes = due_of (options words) bytes

abbrev pub FitsRun_of : Status → Option Options → List ℕ → Type 0
FitsRun_of s None bytes = Unit {0}
FitsRun_of s (Some options) bytes = FitsText s options bytes

-- the status may come with these words, where these bytes are read as a script
unfoldable pub FitsRun : Status → List (List ℕ) → List ℕ → Type 0
FitsRun s words bytes = FitsRun_of s (options words) bytes

-- the source was read to its end, or so many bytes of it
abbrev pub IsReadWhole : ℕ → Option (List ℕ) → Option (List ℕ) → Type 0
IsReadWhole most old new = (bytes : List ℕ) × TakesAll most old new bytes

-- what was read, by the status
abbrev pub ReadsWhole : ℕ → Status → Option (List ℕ) → Option (List ℕ) → Type 0
ReadsWhole most status.Done old new = IsReadWhole most old new × IsAtEnd new
ReadsWhole most status.Refused old new = IsReadWhole most old new
ReadsWhole most status.Unsettled old new = IsReadWhole most old new
ReadsWhole most status.TooLarge old new = IsReadWhole most old new
ReadsWhole most _ old new = Unit {0}

-- a permutation avoids each word of a list, where there is one; where there is none, no permutation is meant
abbrev pub AvoidsLine : Option (List (List ℕ)) → List ℕ → Type 0
AvoidsLine None σ = ⊥
AvoidsLine (Some ws) σ = AvoidsEach σ ws

-- a permutation of the class of a script: it avoids each word of the basis line or, where there is a union line, each word of that
-- one, and it contains each required word
pub record IsOfScript (script : Script) (σ : List ℕ) : Type 0 where
  pub word : IsWord σ
  pub avoids : AvoidsEach σ script.basis ⊎ AvoidsLine script.union_with σ
  pub contains : (τ : List ℕ) → In τ (required script) → Contains σ τ

-- what the numbers and words of the text are, of a script, in the words of the textbook
pub record IsAbout (script : Script) : Type 0 where
  -- the basis line, the union line and the required words are lists of words, and so is the basis
  pub words : AreWords script.basis
  pub united_words : AreWords (united script)
  pub required_words : AreWords (required script)
  pub basis_words : AreWords (basis_of script)
  -- where there is no union line the basis is the basis line; else it has the minimal ones of the words that contain a word of each
  -- of the two lines
  pub alone : script.union_with ≡ None → basis_of script ≡ script.basis
  pub overlaid : (second : List (List ℕ)) → script.union_with ≡ Some second → IsListOf (IsMinimalInBoth script.basis second) (basis_of script)
  -- a permutation avoids the basis exactly where it avoids each word of the basis line or each word of the union line, so the class
  -- of the basis and the required words is that of the script
  pub either : (σ : List ℕ) → IsWord σ → AvoidsEach σ (basis_of script) ↔ (AvoidsEach σ script.basis ⊎ AvoidsLine script.union_with σ)
  pub class : (σ : List ℕ) → InClassWith (basis_of script) (required script) σ ↔ IsOfScript script σ
  -- the header gives the minimal words of both lines, which the same permutations avoid
  pub first_words : IsListOf (IsMinimalIn script.basis) (minimal script.basis)
  pub second_words : IsListOf (IsMinimalIn (united script)) (minimal (united script))
  pub same_first : (σ : List ℕ) → InClass (minimal script.basis) σ ↔ InClass script.basis σ
  pub same_second : (σ : List ℕ) → InClass (minimal (united script)) σ ↔ InClass (united script) σ
  -- the minimal words of the basis, which the header gives, are avoided by the same permutations
  pub minimal_words : IsListOf (IsMinimalIn (basis_of script)) (minimal (basis_of script))
  pub same_basis : (σ : List ℕ) → InClass (minimal (basis_of script)) σ ↔ InClass (basis_of script) σ
  -- with the maximal required words other than the word 1, which the header gives, they make the same class
  pub maximal_words : IsListOf (IsTopIn (required script)) (top (required script))
  pub same_class : (σ : List ℕ) → InClassWith (minimal (basis_of script)) (top (required script)) σ ↔ InClassWith (basis_of script) (required script) σ
  -- the header's numbers are those of the simple permutations that avoid the basis
  pub simple_words : (m : ℕ) → IsListOf (IsSimpleOf (basis_of script) m) (simples (minimal (basis_of script)) m)
  -- the gap is the least length of which and of the next no simple permutation avoids the basis
  pub gap : (limit g : ℕ) → IsSettled (minimal (basis_of script)) limit g ↔ IsLeastGap (basis_of script) limit g
  pub no_gap : (limit : ℕ) → IsUnsettled (minimal (basis_of script)) limit ↔ ((g : ℕ) → IsGap (basis_of script) g → suc g ≤ limit → ⊥)
  -- the tree of a word is its decomposition tree, and there is no other
  pub tree : (σ : List ℕ) → IsWord σ → HasTree σ

-- the canonical system of a class, where the basis has gap g, is within the limit
abbrev pub IsWithin : List (List ℕ) → List (List ℕ) → ℕ → ℕ → Type 0
IsWithin basis required g limit = grown_size (grow basis required (simples_below basis g) limit) ≤ limit

-- a word contains one of a list of words, the first such, and here are the places of its first occurrence
pub record HasBad (basis : List (List ℕ)) (σ : List ℕ) : Type 0 where
  pub pattern : List ℕ
  pub first : find (contains σ) basis ≡ Some pattern
  pub places : List ℕ
  pub given : first_occurrence σ pattern ≡ Some places
  pub occurs : OccursAt σ pattern places

-- an avoider of the basis lacks one of a list of required words, of which the first such is this
pub record HasLack (required : List (List ℕ)) (σ : List ℕ) : Type 0 where
  pub pattern : List ℕ
  pub first : first_lacking σ required ≡ Some pattern
  pub avoids : Avoids σ pattern

-- which of the three a class is, in the words of the textbook
pub record HasCases (o : Options) (script : Script) : Type 0 where
  -- it is settled exactly where the basis has a gap within the limit of lengths, and the canonical system is within the limit of
  -- sizes
  pub settled : (status_of (solved_script o script) ≡ status.Done)
      ↔ ((g : ℕ) × IsLeastGap (basis_of script) o.max_simple g × IsWithin (minimal (basis_of script)) (top (required script)) g o.max_size)
  -- its system is too large exactly where the basis has a gap within the limit of lengths, and that system is above the limit of
  -- sizes
  pub too_large : (status_of (solved_script o script) ≡ status.TooLarge)
      ↔ ((g : ℕ) × IsLeastGap (basis_of script) o.max_simple g × IsTooLarge (minimal (basis_of script)) (top (required script)) (simples_below (minimal (basis_of script)) g) o.max_size)
  -- it is unsettled exactly where the basis has no gap within the limit of lengths, whatever words are required
  pub unsettled : (status_of (solved_script o script) ≡ status.Unsettled) ↔ ((g : ℕ) → IsGap (basis_of script) g → suc g ≤ o.max_simple → ⊥)

-- a draw from the members of length n: a rank below their number, and the member there, which is of the class
pub record IsDrawnMember (basis required : List (List ℕ)) (class : Class) (n : ℕ) (row : ℕ × List ℕ) : Type 0 where
  pub below : row.0 < count_of class.system n
  pub there : slice_get (members class.system n) row.0 ≡ Some row.1
  pub member : InClassWithAt basis required n row.1

-- the least and the greatest of some numbers are of them, and none is less or greater
pub record IsSummary (xs : List ℕ) : Type 0 where
  pub least : In (least_of xs) xs
  pub none_less : (x : ℕ) → In x xs → least_of xs ≤ x
  pub greatest : In (greatest_of xs) xs
  pub none_greater : (x : ℕ) → In x xs → x ≤ greatest_of xs

-- how many permutations of length n of the class have a value of a statistic: as many as a list of exactly these, each once, has
pub record IsMemberCount (basis required : List (List ℕ)) (t : StatKind) (n v count : ℕ) : Type 0 where
  pub words : List (List ℕ)
  pub listed : IsListOf (λ σ. InClassWithAt basis required n σ × (statistic_of t σ ≡ v)) words
  pub many : length words ≡ count

-- the bars of a statistic over the permutations of length n of the class, each a value and a count: values increase, each count
-- says how many of them have the value, one at least, and each of them has its value there
pub record HasBars (basis required : List (List ℕ)) (t : StatKind) (n : ℕ) (bs : List (ℕ × ℕ)) : Type 0 where
  pub increasing : Ascending nat_cmp (map (λ (b : ℕ × ℕ). b.0) bs)
  pub counted : (b : ℕ × ℕ) → In b bs → (1 ≤ b.1) × IsMemberCount basis required t n b.0 b.1
  pub whole : (σ : List ℕ) → InClassWithAt basis required n σ → In (statistic_of t σ) (map (λ (b : ℕ × ℕ). b.0) bs)

-- the order of rows by their ranks
abbrev pub by_rank : ℕ × List ℕ → ℕ × List ℕ → Ordering
by_rank row other = nat_cmp row.0 other.0

-- the rows of the words that have a value of a statistic, in order of rank: a word's rank is its place in the list, and rows
-- have ranks below 2 ^ 128
pub record ArePicked (t : StatKind) (v : ℕ) (ws : List (List ℕ)) (rows : List (ℕ × List ℕ)) : Type 0 where
  pub ordered : Ascending by_rank rows
  pub members : (row : ℕ × List ℕ) → In row rows ↔ ((row.0 < 2 ^ 128) × (slice_get ws row.0 ≡ Some row.1) × (statistic_of t row.1 ≡ v))

-- what the answers about a class's members say, in the words of the textbook: the class is that of the permutations that avoid the
-- basis and contain the required words
pub record HasAnswers (basis required : List (List ℕ)) (class : Class) : Type 0 where
  -- the list of the members of a length, which lists and draws from, holds each permutation of the class of that length once, and
  -- no other
  pub listed : (n : ℕ) → 1 ≤ n → IsListOf (InClassWithAt basis required n) (members class.system n)
  -- a count is how many these are
  pub counted : (n : ℕ) → count_of class.system n ≡ length (members class.system n)
  -- a permutation of the class has a rank, its place in this list
  pub ranked : (σ : List ℕ) → InClassWith basis required σ → (r : ℕ) × (place_among class.system σ ≡ Some r) × (slice_get (members class.system (length σ)) r ≡ Some σ)
  -- any other has none
  pub strange : (σ : List ℕ) → IsWord σ → (InClassWith basis required σ → ⊥) → place_among class.system σ ≡ None
  -- a permutation that contains a word of the basis contains a minimal one, of which the first and its places are given
  pub bad : (σ : List ℕ) → IsWord σ → (InClass basis σ → ⊥) → HasBad class.subject.found.basis σ
  -- one that contains none, and isn't of the class, lacks a maximal required word, of which the first is given
  pub lacking : (σ : List ℕ) → InClass basis σ → (InClassWith basis required σ → ⊥)
      → (find (contains σ) class.subject.found.basis ≡ None) × HasLack (required_of class.subject) σ
  -- each draw from the members of a length, where there are some, is the one at the drawn rank
  pub drawn : (n seed d : ℕ) → 1 ≤ n → 1 ≤ count_of class.system n → IsDrawnMember basis required class n (draw (members class.system n) seed d)
  -- the least and the greatest value of a statistic over draws are what they are called
  pub summed : (xs : List ℕ) → 1 ≤ length xs → IsSummary xs
  -- the bars of a statistic say how many permutations of the class of a length have each value
  pub barred : (t : StatKind) (n : ℕ) → 1 ≤ n → HasBars basis required t n (map histogram_pair (bars t (members class.system n)))
  -- and so do those of the distribution of inversions, and of descents
  pub distributed : (k : DistKind) (n : ℕ) → 1 ≤ n → HasBars basis required (stat_kind k) n (map pair_of (dist k class.system n))
  -- the members that are picked are those with the value, in order of rank
  pub picked_all : (t : StatKind) (v n : ℕ) → ArePicked t v (members class.system n) (picked t v (items_from 0 (members class.system n)))

-- the system of these options and this script, whose class is settled: its text stands in the text due of the words and the
-- bytes, and it generates the class
pub record HasSystem (words : List (List ℕ)) (bytes : List ℕ) (o : Options) (script : Script) (class : Class) : Type 0 where
  -- the text of the system stands after the header and before the answers
  pub text : due words bytes ≡ settled_header class.subject class.gap ⊹ system_text class.format class.system ⊹ flat_map (answer_text class) script.queries
  -- the header speaks of the minimal words of the two lines of a union and of the basis, up to the limit of lengths, of the maximal
  -- required words, and of the gap
  pub searched : class.subject ≡ subject_of (lists_of script) (minimal (basis_of script)) (option_map top script.require) o.max_simple
  pub gap : IsLeastGap (basis_of script) o.max_simple class.gap
  -- no other well-formed system of words has that text in any version
  pub only : (n : ℕ) (S : System) → n < 2 ^ 8 → IsWellFormed S → AreNamedByWords S → system_text n S ≡ system_text class.format class.system
      → (n ≡ class.format) × (S ≡ class.system)
  -- it is the canonical system of the class, or where the format isn't 1 the lean one of that, and well formed
  pub format : class.format ≡ script.format
  pub whole : System
  pub canonical : IsCanonical (minimal (basis_of script)) (top (required script)) (simples_below (minimal (basis_of script)) class.gap) o.max_size whole
  pub printed : class.system ≡ in_format script.format whole
  -- whatever the format is, the members of each length are those of the canonical system, in the same order
  pub same_members : (n : ℕ) → members class.system n ≡ members whole n
  pub form : IsWellFormed class.system
  -- its derivation trees of each size have for values exactly the permutations of that length of the script's class, which
  -- are those that avoid the basis and contain the required words, each once; and each of its equations generates exactly the permutations that its name describes, each once
  pub exact : Exact class.system (basis_of script) (required script)
  pub named : Named class.system
  -- so the answers are those of the class
  pub answers : HasAnswers (basis_of script) (required script) class

-- so wherever the words are accepted and don't ask for a check, and the bytes are a script of a settled class
abbrev pub WritesSystem : List (List ℕ) → Type 0
WritesSystem words =
    (bytes : List ℕ) (o : Options) (script : Script) (class : Class) → options words ≡ Some o → o.check ≡ false → read bytes ≡ Ok script
    → solved_script o script ≡ Settled class → HasSystem words bytes o script class

-- accepted words, a script of a settled class, and counts of faults that neither rise nor stand at their end leave two
-- statuses: the whole text, or want of memory
abbrev pub IsComplete : Status → Option (List ℕ) → List (List ℕ) → Type 0 → Type 0 → Type 0
IsComplete s left words read_rose write_rose =
    (bytes : List ℕ) (o : Options) (script : Script) (class : Class) → left ≡ Some bytes → options words ≡ Some o → read bytes ≡ Ok script
    → solved_script o script ≡ Settled class
    → (read_rose → ⊥) → (write_rose → ⊥) → (s ≡ status.Done) ⊎ (s ≡ status.Memory)
