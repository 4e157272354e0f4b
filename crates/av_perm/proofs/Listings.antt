-- The values of a function at 0, .., n - 1 as a list.
use Rattle.std.proofs.Common.{◌≡◌, ℕ, ◌<◌, List, map, length, get_or, ap, ◌∙◌, arith}
use Rattle.std.proofs.lemmas.List.{get_or-map, length-map}
use Rattle.av_perm.specs.Lists.{counting}
use Rattle.av_perm.specs.Relations.{at}
use Rattle.av_perm.proofs.RisingLists.{length_counting, counting_at}

-- g 0, .., g (n - 1)
abbrev pub listed : {A : Type 0} → (ℕ → A) → ℕ → List A
listed g n = map g (counting 0 n)

-- the list has n items
pub listed_length : {A : Type 0} (g : ℕ → A) (n : ℕ) → length (listed g n) ≡ n
listed_length g n = length-map (counting 0 n) g ∙ length_counting n 0

-- item `s` is the value at `s`
pub listed_at : {A : Type 0} (g : ℕ → A) (n s : ℕ) (d : A) → s < n → get_or (listed g n) s d ≡ g s
listed_at g n s d h =
    let here : at (counting 0 n) s ≡ s = omega (arith, counting_at n 0 s h) in
    get_or-map g (counting 0 n) s 0 d (omega (arith, length_counting n 0)) ∙ ap g here
