-- What a block means, by its number and by itself.
use Rattle.std.proofs.Common.{◌≡◌, ℕ, ◌<◌, List, [], length, get_or, Some, sym, ◌∙◌, subst}
use Rattle.std.proofs.lemmas.Option.{slice_get-get_or}
use Rattle.av_perm.specs.Relations.{block}
use Rattle.av_sys.specs.declared.terms.System.{System}
use Rattle.av_sys.specs.Exact.{MeansAt}

-- the block that was read
pub block_read : (αs : List (List ℕ)) (i : ℕ) (α : List ℕ) → i < length αs → α ≡ get_or αs i α → block αs i ≡ α
block_read αs i α h e =
    let r : Some (get_or αs i []) ≡ Some (get_or αs i α) = sym (slice_get-get_or αs i [] h) ∙ slice_get-get_or αs i α h in
    let s : get_or αs i [] ≡ get_or αs i α = cc in
    s ∙ sym e

-- the equation that was read and the block that was read are those of the number
pub mean_here : (S : System) (cs : List ℕ) (αs : List (List ℕ)) (i c : ℕ) (α : List ℕ) → get_or cs i 0 ≡ c → block αs i ≡ α → MeansAt S (get_or cs i 0) (block αs i) → MeansAt S c α
mean_here S cs αs i c α e f m = subst (λ x. MeansAt S x α) e (subst (λ β. MeansAt S (get_or cs i 0) β) f m)

-- and back
pub mean_there : (S : System) (cs : List ℕ) (αs : List (List ℕ)) (i c : ℕ) (α : List ℕ) → get_or cs i 0 ≡ c → block αs i ≡ α → MeansAt S c α → MeansAt S (get_or cs i 0) (block αs i)
mean_there S cs αs i c α e f m = subst (λ β. MeansAt S (get_or cs i 0) β) (sym f) (subst (λ x. MeansAt S x α) (sym e) m)
