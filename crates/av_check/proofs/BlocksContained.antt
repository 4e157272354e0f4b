-- An inflation contains each of its blocks.
use Rattle.std.proofs.Common.{◌≡◌, ℕ, suc, ◌<◌, inl, inr, List, [], ◌∷◌, length, replicate, refl, sym, ap, ◌∙◌, subst, arith}
use Rattle.std.proofs.lemmas.Bool.{cases_eq}
use Rattle.av_perm.specs.Relations.{IsWord, Contains, AreBlocks, block, inflate, pattern_of, InClass}
use Rattle.av_perm.specs.Decompose.{Decomposes}
use Rattle.av_perm.proofs.Classes.{class_down}
use Rattle.av_perm.proofs.Containment.{contains_same}
use Rattle.av_perm.proofs.Fibres.{fibre_miss}
use Rattle.av_perm.proofs.Patterns.{word_pattern}
use Rattle.av_embed.specs.Embed.{fibre}
use Rattle.av_embed.proofs.EmbeddingLaw.{embedding_law}
use Rattle.av_split.proofs.WordSplit.{constant, constant_fibre}
use Rattle.av_build.proofs.NameEquations.{root_is_word}

-- the map that sends all places to one child has no other fibre
other_fibre : (γ : List ℕ) (i j : ℕ) → (i ≡ j → ⊥) → fibre γ (replicate (length γ) i) j ≡ []
other_fibre [] i j n = refl
other_fibre (x ∷ γ) i j n = fibre_miss x γ i (replicate (length γ) i) j n ∙ other_fibre γ i j n

-- so a block is contained
pub block_contained : (π : List ℕ) (αs : List (List ℕ)) (i : ℕ) → IsWord π → AreBlocks π αs → i < length π → Contains (inflate π αs) (block αs i)
block_contained π αs i w b h =
    let γ : List ℕ = block αs i in
    let e : List ℕ = replicate (length (block αs i)) (suc i) in
    (embedding_law π γ αs w.numbers b).1 (
      e,
      constant π γ i h,
      λ j l ne. elim (cases_eq j i) [
        | inl q ↦
            let whole : pattern_of (fibre γ e (suc j)) ≡ γ = ap (λ k. pattern_of (fibre γ e (suc k))) q ∙ ap pattern_of (constant_fibre γ (suc i)) ∙ word_pattern γ (b.words i h) in
            subst (λ p. Contains (block αs j) p) (sym whole) (subst (λ k. Contains (block αs k) γ) (sym q) (contains_same γ))
        | inr n ↦ absurd (ne (other_fibre γ (suc i) (suc j) (λ q. n (omega (arith, q)))))
      ],
    )

-- and the blocks of a word of a class are of the class
pub block_in_class : (basis : List (List ℕ)) (w root : List ℕ) (αs : List (List ℕ)) → InClass basis w → Decomposes w root αs → (i : ℕ) → i < length αs → InClass basis (block αs i)
block_in_class basis w root αs c d i h =
    let b = d.blocks in
    let n = b.count in
    let g : i < length root = omega (arith, n) in
    class_down basis w (block αs i) c (record { numbers = b.words i g; filled = b.filled i g })
    (subst (λ v. Contains v (block αs i)) d.value (block_contained root αs i (root_is_word root (block αs 0) d.root) b g))
