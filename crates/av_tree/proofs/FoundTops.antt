-- What was found of a term makes a top, or rules it out.
use Rattle.std.proofs.Common.{◌≡◌, ℕ, ◌<◌, ◌≤◌, List, length, sym, subst}
use Rattle.av_perm.specs.Relations.{IsOneToLength}
use Rattle.av_interval.specs.declared.spans.Span.{Span}
use Rattle.av_decomp.specs.Blocks.{blocks_at, halves_at}
use Rattle.av_decomp.specs.Shapes.{HasBlocks}
use Rattle.av_sys.specs.declared.terms.System.{System}
use Rattle.av_tree.specs.Tops.{FitsAt, FitsNone, IsInflationOf, IsTop, IsTwoRoot, IsCutAt, HasNoCutTop}
use Rattle.av_tree.proofs.Cuts.{cut_into}

-- a cut word is the inflation by its two parts
pub cut_inflation : (w root : List ℕ) (k : ℕ) (αs : List (List ℕ)) → IsTwoRoot root → IsOneToLength w → 1 ≤ k → k < length w → IsCutAt w root k → αs ≡ blocks_at w (halves_at (length w) k)
    → IsInflationOf w root αs
cut_inflation w root k αs two g h l c e = subst (IsInflationOf w root) (sym e) (cut_into w root k two g h l c)

-- every word is the inflation by the blocks of its decomposition
pub shape_inflation : (w root : List ℕ) (spans : List Span) (αs : List (List ℕ)) → HasBlocks w root spans → αs ≡ blocks_at w spans → IsInflationOf w root αs
shape_inflation w root spans αs h e =
    subst (IsInflationOf w root) (sym e) (let i : IsInflationOf w root (blocks_at w spans) = record { blocks = h.blocks.blocks; value = h.blocks.value } in i)

-- a term that fits blocks is the top, which holds them
pub fits_top : (S : System) (u : ℕ) (w root : List ℕ) (αs βs : List (List ℕ)) (t : ℕ) → IsInflationOf w root αs → βs ≡ αs → FitsAt S u root βs t → IsTop S u w t αs
fits_top S u w root αs βs t i e f = record { root = root; inflation = i; here = subst (λ γs. FitsAt S u root γs t) e f }

-- where none fits the parts at a cut, there is no top at the cut
pub no_cut_top : (S : System) (u : ℕ) (w root : List ℕ) (k : ℕ) (βs : List (List ℕ)) → βs ≡ blocks_at w (halves_at (length w) k) → FitsNone S u root βs → HasNoCutTop S u w root k
no_cut_top S u w root k βs e f c = subst (FitsNone S u root) e f
