-- A word has one decomposition tree, which is the one computed.
use Rattle.std.proofs.Common.{◌≡◌, ℕ, zero, suc, ◌-◌, ◌<◌, ◌≤◌, inl, inr, List, [], ◌∷◌, map, length, Option, Some, None, refl, sym, ap, ap₂, ◌∙◌, subst, arith}
use Rattle.std.proofs.lemmas.Bool.{cases_eq}
use Rattle.std.proofs.lemmas.List.{length-map}
use Rattle.av_perm.specs.Relations.{at, IsWord, AreBlocks, block, inflate}
use Rattle.av_perm.specs.Decompose.{Decomposes, IsRoot}
use Rattle.av_perm.specs.Parts.{parts}
use Rattle.av_perm.proofs.Inflations.{length_inflate, inflation_word}
use Rattle.av_perm.proofs.RootWords.{root_word}
use Rattle.av_perm.proofs.Parts.{parts_law}
use Rattle.av_decomp.specs.RootTrees.{RootTrees, none, more, RootTree, point, as_trees, one_of}
use Rattle.av_decomp.specs.Trees.{count, value_by, values, value, IsCanonicalRoot, IsCanonicalNode, AreCanonicalNodes, IsTreeOf, tree_by, tree_up_to, dec}
use Rattle.av_decomp.specs.Laws.{TreeLaw}
use Rattle.av_decomp.proofs.Decompositions.{parts_are, word_of_one, root_two, block_shorter}

-- one word for each tree
pub length_values : (ts : RootTrees) → length (values ts) ≡ count ts
length_values none = refl
length_values (more root blocks others) = ap suc (length_values others)

-- words that are all words
abbrev pub AllWords : List (List ℕ) → Type 0
AllWords αs = (i : ℕ) → i < length αs → IsWord (block αs i)

-- a canonical root and words make a decomposition
pub node_blocks : (π : List ℕ) (ts : RootTrees) → IsCanonicalRoot π ts → AllWords (values ts) → AreBlocks π (values ts)
node_blocks π ts c f = record {
  count = length_values ts ∙ c.blocks;
  words = λ i l. (f i (omega (arith, length_values ts, c.blocks))).numbers;
  filled = λ i l. (f i (omega (arith, length_values ts, c.blocks))).filled;
}

-- of the word that they make
node_decomposes : (π : List ℕ) (ts : RootTrees) → IsCanonicalRoot π ts → AllWords (values ts) → Decomposes (inflate π (values ts)) π (values ts)
node_decomposes π ts c f = record { blocks = node_blocks π ts c f; value = refl; root = c.root }

-- a canonical root is a word
pub root_is_word : (π : List ℕ) (ts : RootTrees) → IsCanonicalRoot π ts → IsWord π
root_is_word π ts c = record { numbers = root_word π (block (values ts) 0) c.root; filled = omega (arith, root_two π (block (values ts) 0) c.root) }

-- the word 1
pub one_word : IsWord (1 ∷ [])
one_word = record {
  numbers = record { within = λ s h. one s h; apart = λ s t h k. absurd (omega arith) };
  filled = omega arith;
}
  where
    one : (s : ℕ) → s < 1 → (1 ≤ at (1 ∷ []) s) × (at (1 ∷ []) s ≤ 1)
    one zero h = (omega arith, omega arith)
    one (suc s) h = absurd (omega arith)

-- trees with canonical roots stand for words
head_word : (root : Option (List ℕ)) (ts : RootTrees) → IsCanonicalNode root ts → AllWords (values ts) → IsWord (value_by root (values ts))
head_word None ts c f = one_word
head_word (Some π) ts c f = inflation_word π (values ts) (root_is_word π ts c) (node_blocks π ts c f)

-- so do all trees of a list
pub values_words : (ts : RootTrees) → AreCanonicalNodes ts → AllWords (values ts)
values_words none c i l = absurd (omega arith)
values_words (more root blocks others) c zero l = head_word root blocks c.0 (values_words blocks c.1)
values_words (more root blocks others) c (suc i) l = values_words others c.2 i (omega arith)

-- the blocks of a root are shorter than the word
shorter : (π : List ℕ) (ts : RootTrees) (i : ℕ) → IsCanonicalRoot π ts → AllWords (values ts) → i < length (values ts) → length (block (values ts) i) < length (inflate π (values ts))
shorter π ts i c f l =
    let n = length_values ts ∙ c.blocks in
    let m = length_inflate π (values ts) n in
    let two = root_two π (block (values ts) 0) c.root in
    let s = block_shorter (values ts) i l (λ j k. (f j k).filled) in
    omega arith

-- the word 1 has no parts
no_parts : parts (1 ∷ []) ≡ None
unfolding parts
no_parts = refl

-- trees with canonical roots are those computed of their words
tree_one : (d : ℕ) → tree_up_to (suc d) (1 ∷ []) ≡ point
unfolding tree_up_to
tree_one d = ap (λ p. tree_by p (λ α. tree_up_to d α)) no_parts

-- the tree of a longer word, from its parts
tree_node : (d : ℕ) (w π : List ℕ) (αs : List (List ℕ)) → parts w ≡ Some (record { root = π; blocks = αs }) → tree_up_to (suc d) w ≡ record { root = Some π; blocks = as_trees (map (tree_up_to d) αs) }
unfolding tree_up_to
tree_node d w π αs e = ap (λ p. tree_by p (λ α. tree_up_to d α)) e

-- a tree before others
abbrev put : RootTree → RootTrees → RootTrees
put t ts = more t.root t.blocks ts

-- trees with canonical roots are those computed of their words
trees_are : (ts : RootTrees) (d : ℕ) → AreCanonicalNodes ts → ((i : ℕ) → i < length (values ts) → length (block (values ts) i) ≤ d) → ts ≡ as_trees (map (tree_up_to d) (values ts))
trees_are none d c f = refl
trees_are (more root blocks others) zero c f = let w = head_word root blocks c.0 (values_words blocks c.1) in absurd (omega (arith, w.filled, f 0 (omega arith)))
trees_are (more None blocks others) (suc d) c f =
    ap₂ (λ (bs os : RootTrees). more None bs os) c.0 (trees_are others (suc d) c.2 (λ i l. f (suc i) (omega arith)))
    ∙ ap (λ t. put t (as_trees (map (tree_up_to (suc d)) (values others)))) (sym (tree_one d))
trees_are (more (Some π) blocks others) (suc d) c f =
    let words = values_words blocks c.1 in
    let two = root_two π (block (values blocks) 0) c.0.root in
    let n = length_values blocks ∙ c.0.blocks in
    let w = inflation_word π (values blocks) (root_is_word π blocks c.0) (node_blocks π blocks c.0 words) in
    let long : 2 ≤ length (inflate π (values blocks)) = omega (arith, shorter π blocks 0 c.0 words (omega arith), (words 0 (omega arith)).filled) in
    let p = parts_are (inflate π (values blocks)) π (values blocks) w long (node_decomposes π blocks c.0 words) in
    ap₂ (λ (bs os : RootTrees). more (Some π) bs os) (trees_are blocks d c.1 (λ i l. omega (arith, shorter π blocks i c.0 words l, f 0 (omega arith)))) (trees_are others (suc d) c.2 (λ i l. f (suc i) (omega arith)))
    ∙ ap (λ t. put t (as_trees (map (tree_up_to (suc d)) (values others)))) (sym (tree_node d (inflate π (values blocks)) π (values blocks) p))

-- any decomposition tree is the one computed
pub tree_only : (d : ℕ) (σ : List ℕ) (t : RootTree) → length σ ≤ d → IsTreeOf σ t → t ≡ tree_up_to d σ
tree_only d σ t l h =
    ap one_of (trees_are (more t.root t.blocks none) d (h.top, h.below, tt) (λ i k. short i k)) ∙ ap (tree_up_to d) h.word
  where
    short : (i : ℕ) → i < 1 → length (block (value t ∷ []) i) ≤ d
    short zero k = let e = ap length h.word in omega arith
    short (suc i) k = absurd (omega arith)

-- the trees computed of words
pub count_as_trees : (ts : List RootTree) → count (as_trees ts) ≡ length ts
count_as_trees [] = refl
count_as_trees (t ∷ ts) = ap suc (count_as_trees ts)

-- trees computed of words stand for the words
values_back : (d : ℕ) (αs : List (List ℕ)) → ((i : ℕ) → i < length αs → IsTreeOf (block αs i) (tree_up_to d (block αs i))) → values (as_trees (map (tree_up_to d) αs)) ≡ αs
values_back d [] f = refl
values_back d (α ∷ αs) f = ap₂ (λ (v : List ℕ) (vs : List (List ℕ)). v ∷ vs) (f 0 (omega arith)).word (values_back d αs (λ i l. f (suc i) (omega arith)))

-- and have canonical roots
canonical_all : (d : ℕ) (αs : List (List ℕ)) → ((i : ℕ) → i < length αs → IsTreeOf (block αs i) (tree_up_to d (block αs i))) → AreCanonicalNodes (as_trees (map (tree_up_to d) αs))
canonical_all d [] f = tt
canonical_all d (α ∷ αs) f = ((f 0 (omega arith)).top, (f 0 (omega arith)).below, canonical_all d αs (λ i l. f (suc i) (omega arith)))

-- the computed tree is a decomposition tree
pub tree_is : (d : ℕ) (w : List ℕ) → IsWord w → length w ≤ d → IsTreeOf w (tree_up_to d w)
tree_is zero w g l = absurd (omega (arith, g.filled))
tree_is (suc d) w g l = elim (cases_eq (length w) 1) [
  | inl e ↦ let q = word_of_one w g e in subst (λ v. IsTreeOf v (tree_up_to (suc d) v)) (sym q) (subst (IsTreeOf (1 ∷ [])) (sym (tree_one d)) (record { word = refl; top = refl; below = tt }))
  | inr ne ↦
      let some = g.filled in
      let p = parts_law w g (omega (arith, ne)) in
      subst (IsTreeOf w) (sym (tree_node d w p.0.root p.0.blocks p.1)) (node p.0.root p.0.blocks p.2 (λ α a k. tree_is d α a k))
]
  where
    node : (π : List ℕ) (αs : List (List ℕ)) → Decomposes w π αs → ((α : List ℕ) → IsWord α → length α ≤ d → IsTreeOf α (tree_up_to d α)) → IsTreeOf w (record { root = Some π; blocks = as_trees (map (tree_up_to d) αs) })
    node π αs h each =
        let b = h.blocks in
        let n = b.count in
        let m = length_inflate π αs n in
        let v = ap length h.value in
        let two = root_two π (block αs 0) h.root in
        let deeper : (i : ℕ) → i < length αs → IsTreeOf (block αs i) (tree_up_to d (block αs i)) = λ i k.
        let s = block_shorter αs i k (λ j o. b.filled j (omega arith)) in
        each (block αs i) (record { numbers = b.words i (omega arith); filled = b.filled i (omega arith) }) (omega arith) in
        let back = values_back d αs deeper in
        record {
          word = ap (inflate π) back ∙ h.value;
          top = record {
            blocks = count_as_trees (map (tree_up_to d) αs) ∙ length-map αs (tree_up_to d) ∙ n;
            root = subst (λ βs. IsRoot π (block βs 0)) (sym back) h.root;
          };
          below = canonical_all d αs deeper;
        }

-- each word has exactly one decomposition tree
pub tree_law : TreeLaw
unfolding dec
tree_law σ g = record {
  tree = tree_is (length σ) σ g (omega arith);
  only = λ t h. tree_only (length σ) σ t (omega arith) h;
}

-- more steps change nothing
tree_enough : (d : ℕ) (w : List ℕ) → IsWord w → length w ≤ d → tree_up_to d w ≡ dec w
tree_enough d w g l = (tree_law w g).only (tree_up_to d w) (tree_is d w g l)

-- the tree of a word of two or more entries, from those of its blocks
pub dec_node : (w π : List ℕ) (αs : List (List ℕ)) → IsWord w → Decomposes w π αs → parts w ≡ Some (record { root = π; blocks = αs }) → dec w ≡ record { root = Some π; blocks = as_trees (map dec αs) }
unfolding dec
dec_node w π αs g h e =
    let some = g.filled in
    let n : length w ≡ suc (length w - 1) = omega arith in
    ap (λ d. tree_up_to d w) n ∙ tree_node (length w - 1) w π αs e
    ∙ ap (λ ts. let t : RootTree = record { root = Some π; blocks = as_trees ts } in t) (same αs (λ i l. enough i l))
  where
    enough : (i : ℕ) → i < length αs → tree_up_to (length w - 1) (block αs i) ≡ dec (block αs i)
    enough i l =
        let b = h.blocks in
        let n = b.count in
        let m = length_inflate π αs n in
        let v = ap length h.value in
        let two = root_two π (block αs 0) h.root in
        let s = block_shorter αs i l (λ j o. b.filled j (omega arith)) in
        tree_enough (length w - 1) (block αs i) (record { numbers = b.words i (omega arith); filled = b.filled i (omega arith) }) (omega arith)

    same : (αs : List (List ℕ)) → ((i : ℕ) → i < length αs → tree_up_to (length w - 1) (block αs i) ≡ dec (block αs i)) → map (tree_up_to (length w - 1)) αs ≡ map dec αs
    same [] f = refl
    same (α ∷ αs) f = ap₂ (λ (t : RootTree) (ts : List RootTree). t ∷ ts) (f 0 (omega arith)) (same αs (λ i l. f (suc i) (omega arith)))

-- that of the word 1
pub dec_one : dec (1 ∷ []) ≡ point
unfolding dec
dec_one = tree_one 0
