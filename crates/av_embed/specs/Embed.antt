-- Embeddings of a word in a root. Children are counted from 1, and places inside a relation from 0.
use Rattle.std.specs.Prelude.{◌≡◌, ℕ, ◌<◌, ◌≤◌, ◌≢◌, ◌↔◌, List, [], ◌∷◌, length, Bool, true, ◌&&◌, ◌||◌, nat_lt, nat_le, ◌==◌, filter}
use Rattle.std.specs.List.{list_all}
use Rattle.av_perm.specs.Lists.{alike, all_lists, counting}
use Rattle.av_perm.specs.Word.{entry}
use Rattle.av_perm.specs.Relations.{at}
pub use Rattle.av_perm.specs.Fibre.{fibre}

-- `e` sends each place of `γ` to a child of `π`, weakly increasing, and two places with different children lie as the
-- root's entries at the children lie
pub record IsEmbedding (π γ e : List ℕ) : Type 0 where
  pub count : length e ≡ length γ
  pub children : (s : ℕ) → s < length e → (1 ≤ at e s) × (at e s ≤ length π)
  pub rising : (s t : ℕ) → s < t → t < length e → at e s ≤ at e t
  pub across : (s t : ℕ) → s < length e → t < length e → at e s ≢ at e t → (at γ s < at γ t) ↔ (entry π (at e s) < entry π (at e t))

-- no number is greater than a later one
abbrev pub rises : List ℕ → Bool
rises [] = true
rises (x ∷ xs) = list_all (nat_le x) xs && rises xs

-- entry `g`, sent to child `c`, lies to each later entry that is sent elsewhere as the root's entries at the children lie
abbrev pub lies_to_later : List ℕ → ℕ → ℕ → List ℕ → List ℕ → Bool
lies_to_later π g c (h ∷ γ) (d ∷ e) =
    (c == d || (alike (nat_lt g h) (nat_lt (entry π c) (entry π d)) && alike (nat_lt h g) (nat_lt (entry π d) (entry π c)))) && lies_to_later π g c γ e
lies_to_later _ _ _ _ _ = true

-- each entry does
abbrev pub lies : List ℕ → List ℕ → List ℕ → Bool
lies π (g ∷ γ) (c ∷ e) = lies_to_later π g c γ e && lies π γ e
lies _ _ _ = true

-- the embeddings of `γ` in `π`, in lexicographic order: the lists of children that rise and lie as the root does
unfoldable pub embeddings : List ℕ → List ℕ → List (List ℕ)
embeddings π γ = filter (λ e. rises e && lies π γ e) (all_lists (length γ) (counting 1 (length π)))
