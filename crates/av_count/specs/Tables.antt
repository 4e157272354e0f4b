-- What a table holds.
use Rattle.std.specs.Prelude.{◌≡◌, ℕ, ◌+◌, ◌<◌, ◌≤◌, List, [], length, slice_index_or}
use Rattle.av_perm.specs.declared.limits.TheConstants.{MAX_LENGTH}
use Rattle.av_sys.specs.declared.terms.System.{System}
use Rattle.av_sys.specs.Terms.{IsWellFormed}
use Rattle.av_sys.specs.TreeLists.{count_at}
use Rattle.av_count.specs.declared.count.Count.{Count}
use Rattle.av_count.specs.declared.count.Count.TheVariants.{Over}
use Rattle.av_count.specs.declared.links.Rest.TheVariants.{More}
use Rattle.av_count.specs.declared.links.Link.{Link}
use Rattle.av_count.specs.declared.layout.Layout.{Layout}
use Rattle.av_count.specs.Counts.{capped}
use Rattle.av_count.specs.Choices.{ways}
use Rattle.av_count.specs.Links.{IsRest, AreNumbers, AreNodes}

-- the number at a place, over where there is none
abbrev pub cell : List Count → ℕ → Count
cell row k = slice_index_or row k Over

-- a row of this width has these numbers below size s
pub record RowHolds (number : ℕ → ℕ) (width s : ℕ) (row : List Count) : Type 0 where
  pub long : length row ≡ width
  pub cells : (k : ℕ) → k < s → cell row k ≡ capped (number k)

-- a row for each equation: the numbers of its trees
pub record CountsHold (S : System) (width s : ℕ) (counts : List (List Count)) : Type 0 where
  pub long : length counts ≡ length S.equations
  pub rows : (u : ℕ) → u < length S.equations → RowHolds (count_at S u) width s (slice_index_or counts u [])

-- a row for a link: the numbers of the lists of trees for the children that it stands for
pub record LinkHolds (S : System) (links : List Link) (width s i : ℕ) (row : List Count) : Type 0 where
  pub long : length row ≡ width
  pub cells : (cs : List ℕ) → AreNumbers (length S.equations) cs → IsRest links cs (More i) → (k : ℕ) → k < s → cell row k ≡ capped (ways (count_at S) cs k)

-- one for each link
pub record RestsHold (S : System) (links : List Link) (width s : ℕ) (rests : List (List Count)) : Type 0 where
  pub long : length rests ≡ length links
  pub rows : (i : ℕ) → i < length links → LinkHolds S links width s i (slice_index_or rests i [])

-- which system a table stands for, and up to which size
pub record Stands : Type 0 where
  pub system : System
  pub largest : ℕ

-- the layout is that of a well-formed system, and the size is from 1 to MAX_LENGTH
pub record IsLaidOut (g : Layout) : Type 0 where
  pub formed : IsWellFormed g.of.value
  pub nodes : AreNodes g.of.value g.links (length g.of.value.equations) g.nodes.items
  pub least : 1 ≤ g.largest
  pub most : g.largest ≤ MAX_LENGTH

-- the rows hold below size s
pub record IsFilled (g : Layout) (s : ℕ) (counts rests : List (List Count)) : Type 0 where
  pub counted : CountsHold g.of.value (g.largest + 1) s counts
  pub rows : RestsHold g.of.value g.links (g.largest + 1) s rests

-- they hold up to the largest size
pub record Holds (g : Layout) (counts rests : List (List Count)) : Type 0 where
  pub laid_out : IsLaidOut g
  pub filled : IsFilled g (g.largest + 1) counts rests
