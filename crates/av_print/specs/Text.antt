-- Texts, as lists of bytes.
use Rattle.std.specs.Prelude.{ℕ, List, [], ◌∷◌, ◌++◌, length, nat_le, if◌then◌else◌, Option, Some, None, codes, decimal}
use Rattle.std.specs.List.{join_by}
use Rattle.av_count.specs.declared.count.Count.{Count}
use Rattle.av_count.specs.declared.count.Count.TheVariants.{Known, Over}
use Rattle.av_bars.specs.declared.bars.Bar.{Bar}
use Rattle.av_bars.specs.declared.dist_bars.DistBar.{DistBar}
use Rattle.av_decomp.specs.RootTrees.{RootTrees, none, more, RootTree}
use Rattle.av_text.specs.declared.queries.Form.TheVariants as form
use Rattle.av_text.specs.declared.queries.Query.{Query}
use Rattle.av_text.specs.declared.queries.Query.TheVariants as query
use Rattle.av_text.specs.Queries.{form_name, statistic_name, dist_kind_name}

-- one text, and then another
infixr 65 ◌⊹◌
abbrev pub ◌⊹◌ : List ℕ → List ℕ → List ℕ
s ⊹ t = s ++ t

-- a count: its numeral, or `over` where it is 2 ^ 128 or more
abbrev pub count_text : Count → List ℕ
count_text (Known n) = decimal n
count_text Over = codes "over"

-- a word: its digits up to nine entries, else its entries joined by commas
unfoldable pub word_text : List ℕ → List ℕ
word_text w = if nat_le (length w) 9 then join_by decimal [] w else join_by decimal (codes ",") w

-- the texts of items joined by single spaces, or `none` where there is no item
unfoldable pub joined_or_none : {A : Type 0} → (A → List ℕ) → List A → List ℕ
joined_or_none text [] = codes "none"
joined_or_none text (x ∷ xs) = join_by text (codes " ") (x ∷ xs)

-- words likewise
unfoldable pub words_text : List (List ℕ) → List ℕ
words_text ws = joined_or_none word_text ws

-- places of a word, joined by single spaces
unfoldable pub places_text : List ℕ → List ℕ
places_text places = join_by decimal (codes " ") places

-- a value, and how many have it
abbrev pub tally_text : ℕ → ℕ → List ℕ
tally_text value count = decimal value ⊹ codes ":" ⊹ decimal count

-- a bar of a histogram, and of a distribution
abbrev pub bar_text : Bar → List ℕ
bar_text b = tally_text b.value b.count

abbrev pub dist_bar_text : DistBar → List ℕ
dist_bar_text b = tally_text b.value b.count

-- all of them
abbrev pub bars_text : List Bar → List ℕ
bars_text bs = joined_or_none bar_text bs

abbrev pub dist_bars_text : List DistBar → List ℕ
dist_bars_text bs = joined_or_none dist_bar_text bs

-- the line of a word with its rank
unfoldable pub ranked_text : ℕ → List ℕ → List ℕ
ranked_text r w = decimal r ⊹ codes " " ⊹ word_text w ⊹ codes "\n"

-- texts with single spaces between them
abbrev pub spaced : List (List ℕ) → List ℕ
spaced [] = []
spaced (t ∷ []) = t
spaced (t ∷ u ∷ ts) = t ⊹ codes " " ⊹ spaced (u ∷ ts)

-- the tokens of a query: the name of its form and the texts of its arguments
unfoldable pub query_tokens : Query → List (List ℕ)
query_tokens (query.Count n) = form_name form.Count ∷ decimal n ∷ []
query_tokens (query.Counts n) = form_name form.Counts ∷ decimal n ∷ []
query_tokens (query.List n r k) = form_name form.List ∷ decimal n ∷ codes "from" ∷ decimal r ∷ codes "for" ∷ decimal k ∷ []
query_tokens (query.Unrank n r) = form_name form.Unrank ∷ decimal n ∷ decimal r ∷ []
query_tokens (query.Rank w) = form_name form.Rank ∷ word_text w ∷ []
query_tokens (query.Tree w) = form_name form.Tree ∷ word_text w ∷ []
query_tokens (query.Draw n s k) = form_name form.Draw ∷ decimal n ∷ decimal s ∷ decimal k ∷ []
query_tokens (query.DrawStat t n s k) = form_name form.DrawStat ∷ statistic_name t ∷ decimal n ∷ decimal s ∷ decimal k ∷ []
query_tokens (query.Stat t n) = form_name form.Stat ∷ statistic_name t ∷ decimal n ∷ []
query_tokens (query.Pick t v n) = form_name form.Pick ∷ statistic_name t ∷ decimal v ∷ decimal n ∷ []
query_tokens (query.Dist t n) = form_name form.Dist ∷ dist_kind_name t ∷ decimal n ∷ []

-- the canonical text of a query
unfoldable pub query_text : Query → List ℕ
query_text q = spaced (query_tokens q)

-- a root: its word, in round brackets where it has more than nine entries
unfoldable pub root_text : List ℕ → List ℕ
root_text π = if nat_le (length π) 9 then word_text π else codes "(" ⊹ word_text π ⊹ codes ")"

-- a tree, by its root and the texts of its blocks: `1` for a point, else the root, and the texts joined by commas in
-- square brackets
unfoldable pub node_text : Option (List ℕ) → List (List ℕ) → List ℕ
node_text None texts = codes "1"
node_text (Some root) texts = root_text root ⊹ codes "[" ⊹ join_by (λ text. text) (codes ",") texts ⊹ codes "]"

-- the texts of the trees of a list
unfoldable pub tree_texts : RootTrees → List (List ℕ)
tree_texts none = []
tree_texts (more root blocks others) = node_text root (tree_texts blocks) ∷ tree_texts others

-- a decomposition tree
unfoldable pub tree_text : RootTree → List ℕ
tree_text tree = node_text tree.root (tree_texts tree.blocks)
