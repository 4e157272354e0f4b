-- What the type of trees keeps, and the word of a tree block by block.
use Rattle.std.proofs.Common.{◌≡◌, ℕ, zero, suc, ◌+◌, ◌<◌, ◌≤◌, List, [], ◌∷◌, ◌++◌, map, length, take, get_or, slice_get, cond, ltb, Option, Some, None, sum_by, add-one, refl, sym, ap, ap₂, ◌∙◌, subst, arith, lt-ltb, le-ltb, append_assoc}
use Rattle.std.proofs.lemmas.List.{get_or-map, length-map}
use Rattle.av_perm.specs.Word.{entry}
use Rattle.av_perm.specs.Relations.{at, IsWord, block, raised, joined, points_below, inflate}
use Rattle.av_perm.proofs.Inflations.{lengths_sum, length_inflate, inflation_word}
use Rattle.av_perm.proofs.InflationSteps.{below_more, joined_more, joined_few}
use Rattle.av_decomp.specs.RootTrees.{RootTrees, none, more, RootTree, as_trees, trees_of, nodes, all_of}
use Rattle.av_decomp.specs.Trees.{root_length, value_by, values, value, FitsRoot, FitsNode, AreFormed, IsFormed, Keeps, IsCanonicalNode, AreCanonicalNodes, dec}
use Rattle.av_decomp.proofs.DecompositionTrees.{AllWords, tree_law, count_as_trees, length_values, one_word, root_is_word}
use Rattle.av_decomp.proofs.Decompositions.{root_two}

-- the words of trees one after another
pub values_as_trees : (ts : List RootTree) → values (as_trees ts) ≡ map value ts
values_as_trees [] = refl
values_as_trees (t ∷ ts) = ap (λ (vs : List (List ℕ)). value t ∷ vs) (values_as_trees ts)

-- the word of a tree in a list
pub value_at : (ts : List RootTree) (k : ℕ) (t : RootTree) → k < length ts → t ≡ get_or ts k t → value t ≡ block (map value ts) k
value_at ts k t h e = ap value e ∙ sym (get_or-map value ts k t [] h)

-- one more block whose root entry is below a number, or isn't
pub lower_more : (v x r n k : ℕ) (π : List ℕ) (αs : List (List ℕ)) → k < length π → k < length αs → r ≡ points_below v (take k π) (take k αs) → x ≡ entry π (k + 1) → x < v → n ≡ length (block αs k)
    → r + n ≡ points_below v (take (k + 1) π) (take (k + 1) αs)
lower_more v x r n k π αs hx ha so_far ex less en =
    let here : x ≡ at π k = ex ∙ ap (entry π) (add-one k) in
    let more = below_more v π αs k hx ha in
    let c : cond (ltb (at π k) v) (length (block αs k)) 0 ≡ length (block αs k) = rw (lt-ltb (at π k) v (omega (arith, here, less))) refl in
    rw (add-one k) (omega (arith, more, c, so_far, en))

-- the next block is not below
pub lower_still : (v x r k : ℕ) (π : List ℕ) (αs : List (List ℕ)) → k < length π → k < length αs → r ≡ points_below v (take k π) (take k αs) → x ≡ entry π (k + 1) → v ≤ x
    → r ≡ points_below v (take (k + 1) π) (take (k + 1) αs)
lower_still v x r k π αs hx ha so_far ex least =
    let here : x ≡ at π k = ex ∙ ap (entry π) (add-one k) in
    let more = below_more v π αs k hx ha in
    let c : cond (ltb (at π k) v) (length (block αs k)) 0 ≡ 0 = rw (le-ltb (at π k) v (omega (arith, here, least))) refl in
    rw (add-one k) (omega (arith, more, c, so_far))

-- the blocks of a raised inflation
abbrev pub lifted : ℕ → List ℕ → List (List ℕ) → ℕ → List ℕ
lifted o π αs i = raised (o + points_below (at π i) π αs) (block αs i)

-- raised twice
raised_twice : (o r : ℕ) (a : List ℕ) → raised o (raised r a) ≡ raised (o + r) a
raised_twice o r [] = refl
raised_twice o r (x ∷ a) = let e : x + r + o ≡ x + (o + r) = omega arith in ap₂ (λ (y : ℕ) (b : List ℕ). y ∷ b) e (raised_twice o r a)

-- two lists raised together
raised_append : (o : ℕ) (a b : List ℕ) → raised o (a ++ b) ≡ raised o a ++ raised o b
raised_append o [] b = refl
raised_append o (x ∷ a) b = ap (λ (c : List ℕ). (x + o) ∷ c) (raised_append o a b)

-- many lists raised together
raised_pieces : (o n : ℕ) (F : ℕ → List ℕ) → raised o (joined F n) ≡ joined (λ i. raised o (F i)) n
raised_pieces o zero F = refl
raised_pieces o (suc n) F = raised_append o (F 0) (joined (λ i. F (suc i)) n) ∙ ap (λ (c : List ℕ). raised o (F 0) ++ c) (raised_pieces o n (λ i. F (suc i)))

-- lists that are equal one by one are equal joined
pieces_same : (n : ℕ) (F G : ℕ → List ℕ) → ((i : ℕ) → F i ≡ G i) → joined F n ≡ joined G n
pieces_same zero F G h = refl
pieces_same (suc n) F G h = ap₂ (λ (a b : List ℕ). a ++ b) (h 0) (pieces_same n (λ i. F (suc i)) (λ i. G (suc i)) (λ i. h (suc i)))

-- together they are the inflation, raised
pub lifted_all : (o : ℕ) (π : List ℕ) (αs : List (List ℕ)) → joined (lifted o π αs) (length π) ≡ raised o (inflate π αs)
lifted_all o π αs =
    sym (raised_pieces o (length π) (λ i. raised (points_below (at π i) π αs) (block αs i))
    ∙ pieces_same (length π) (λ i. raised o (raised (points_below (at π i) π αs) (block αs i))) (lifted o π αs) (λ i. raised_twice o (points_below (at π i) π αs) (block αs i)))

-- the blocks that stand already leave room for the next
lifted_length : (o : ℕ) (π : List ℕ) (αs : List (List ℕ)) (i : ℕ) → length (lifted o π αs i) ≡ length (block αs i)
lifted_length o π αs i = length-map (block αs i) (λ (v : ℕ). v + (o + points_below (at π i) π αs))

-- so the next block finds room
pub lifted_room : (o : ℕ) (π : List ℕ) (αs : List (List ℕ)) (i : ℕ) → i < length αs → length (joined (lifted o π αs) i) + length (block αs i) ≤ sum_by length αs
lifted_room o π αs i h = omega (arith, lengths_sum αs, joined_few (lifted o π αs) αs i h (λ k. lifted_length o π αs k))

-- one more block at the end
pub lifted_more : (o r : ℕ) (π : List ℕ) (αs : List (List ℕ)) (i : ℕ) (start old new a : List ℕ) → old ≡ start ++ joined (lifted o π αs) i → new ≡ old ++ raised (o + r) a
    → r ≡ points_below (at π i) π αs → a ≡ block αs i → new ≡ start ++ joined (lifted o π αs) (i + 1)
lifted_more o r π αs i start old new a eo en er ea =
    en ∙ rw (eo, er, ea, add-one i) (append_assoc start (joined (lifted o π αs) i) (lifted o π αs i) ∙ ap (λ (l : List ℕ). start ++ l) (joined_more i (lifted o π αs)))

-- what a tree with a root keeps
pub record IsRootedTree (π : List ℕ) (ts : List RootTree) (t : RootTree) : Type 0 where
  pub count : length ts ≡ length π
  pub word : value t ≡ inflate π (map value ts)
  pub long : length (value t) ≡ sum_by length (map value ts)
  pub few : sum_by length (map value ts) ≤ 160

-- a tree with a root keeps it
pub node_of : (root : Option (List ℕ)) (π : List ℕ) (ts : List RootTree) (t : RootTree) → IsFormed (record { root = root; blocks = as_trees ts }) → root ≡ Some π → record { root = root; blocks = as_trees ts } ≡ t → IsRootedTree π ts t
node_of root π ts t h e q =
    let f : FitsRoot π (as_trees ts) = subst (λ r. FitsNode r (as_trees ts)) e h.top in
    let n : length ts ≡ length π = sym (count_as_trees ts) ∙ f.blocks in
    let w : value t ≡ inflate π (map value ts) = ap value (sym q) ∙ ap (λ r. value_by r (values (as_trees ts))) e ∙ ap (inflate π) (values_as_trees ts) in
    let l : length (value t) ≡ sum_by length (map value ts) = ap (λ (v : List ℕ). length v) w ∙ length_inflate π (map value ts) (length-map ts value ∙ n) ∙ lengths_sum (map value ts) in
    let few = h.few in
    let g : length (value t) ≡ length (value (record { root = root; blocks = as_trees ts })) = ap (λ (u : RootTree). length (value u)) (sym q) in
    record { count = n; word = w; long = l; few = omega arith }

-- a tree of a block has fewer nodes
all_less : (ts : List RootTree) (k : ℕ) (d : RootTree) → k < length ts → nodes (get_or ts k d) ≤ all_of (as_trees ts)
all_less [] k d h = absurd (omega arith)
all_less (t ∷ ts) zero d h = omega arith
all_less (t ∷ ts) (suc k) d h = omega (arith, all_less ts k d (omega arith))

-- so the tree of a block has fewer than the tree
pub nodes_less : (root : Option (List ℕ)) (ts : List RootTree) (k : ℕ) (t s : RootTree) → k < length ts → s ≡ get_or ts k s → record { root = root; blocks = as_trees ts } ≡ t → nodes s < nodes t
nodes_less root ts k t s h e q =
    let a = all_less ts k s h in
    let b = ap (λ (u : RootTree). nodes u) e in
    let c : nodes (record { root = root; blocks = as_trees ts }) ≡ nodes t = ap (λ (u : RootTree). nodes u) q in
    omega arith

-- a tree has as many blocks as its root is long
pub formed_length : (root : Option (List ℕ)) (ts : List RootTree) → FitsNode root (as_trees ts) → length ts ≡ root_length root
formed_length None [] h = refl
formed_length None (t ∷ ts) h = absurd (cc)
formed_length (Some π) ts h = sym (count_as_trees ts) ∙ h.blocks

-- a formed tree stands for a word
formed_head : (root : Option (List ℕ)) (ts : RootTrees) → FitsNode root ts → AllWords (values ts) → IsWord (value_by root (values ts))
formed_head None ts h f = one_word
formed_head (Some π) ts h f = inflation_word π (values ts) h.word (record {
  count = length_values ts ∙ h.blocks;
  words = λ i l. (f i (omega (arith, length_values ts, h.blocks))).numbers;
  filled = λ i l. (f i (omega (arith, length_values ts, h.blocks))).filled;
})

-- and so do all trees of a list
formed_words : (ts : RootTrees) → AreFormed ts → AllWords (values ts)
formed_words none h i l = absurd (omega arith)
formed_words (more root blocks others) h zero l = formed_head root blocks h.0 (formed_words blocks h.1)
formed_words (more root blocks others) h (suc i) l = formed_words others h.2 i (omega arith)

-- one tree stands for a word
pub formed_word : (t : RootTree) → IsFormed t → IsWord (value t)
formed_word t h = formed_head t.root t.blocks h.top (formed_words t.blocks h.below)

-- a decomposition tree is formed
canonical_fits : (root : Option (List ℕ)) (ts : RootTrees) → IsCanonicalNode root ts → FitsNode root ts
canonical_fits None ts h = h
canonical_fits (Some π) ts h = record { word = root_is_word π ts h; two = root_two π (block (values ts) 0) h.root; blocks = h.blocks }

-- canonical trees of a list are formed
canonical_formed : (ts : RootTrees) → AreCanonicalNodes ts → AreFormed ts
canonical_formed none h = tt
canonical_formed (more root blocks others) h = (canonical_fits root blocks h.0, canonical_formed blocks h.1, canonical_formed others h.2)

-- the decomposition tree of a word keeps what the type does
pub dec_keeps : (w : List ℕ) (n : ℕ) → IsWord w → length w ≤ 160 → n ≡ length w → Keeps (dec w) n
dec_keeps w n g short e =
    let t = (tree_law w g).tree in
    let l = ap (λ (v : List ℕ). length v) t.word in
    record {
      formed = record { top = canonical_fits (dec w).root (dec w).blocks t.top; below = canonical_formed (dec w).blocks t.below; few = omega arith };
      points = omega arith;
    }

-- entries raised by nothing
pub raised_none : (a : List ℕ) → raised 0 a ≡ a
raised_none [] = refl
raised_none (x ∷ a) = let e : x + 0 ≡ x = omega arith in ap₂ (λ (y : ℕ) (b : List ℕ). y ∷ b) e (raised_none a)

-- all blocks, raised, are the word of the tree, raised
pub lifted_end : (o i : ℕ) (π : List ℕ) (ts : List RootTree) (now : RootTree) (start new : List ℕ) → IsRootedTree π ts now → new ≡ start ++ joined (lifted o π (map value ts)) i → i ≡ length π
    → new ≡ start ++ raised o (value now)
lifted_end o i π ts now start new n e q =
    let all : joined (lifted o π (map value ts)) i ≡ raised o (value now) = ap (joined (lifted o π (map value ts))) q ∙ lifted_all o π (map value ts) ∙ ap (raised o) (sym n.word) in
    e ∙ ap (λ (l : List ℕ). start ++ l) all

-- what a caller knows of the trees of blocks: they are as many as the root is long, and each has fewer nodes
as_trees_of : (ts : RootTrees) → as_trees (trees_of ts) ≡ ts
as_trees_of none = refl
as_trees_of (more root blocks others) = ap (λ (os : RootTrees). more root blocks os) (as_trees_of others)

-- a tree has as many blocks as its root is long
pub children_count : (t : RootTree) → IsFormed t → length (trees_of t.blocks) ≡ root_length t.root
children_count t h = formed_length t.root (trees_of t.blocks) (subst (FitsNode t.root) (sym (as_trees_of t.blocks)) h.top)

-- the tree of a block has fewer nodes
pub child_less : (t s : RootTree) (i : ℕ) → i < length (trees_of t.blocks) → slice_get (trees_of t.blocks) i ≡ Some s → nodes s < nodes t
child_less t s i h e =
    let q : record { root = t.root; blocks = as_trees (trees_of t.blocks) } ≡ t = ap (λ (bs : RootTrees). let r : RootTree = record { root = t.root; blocks = bs } in r) (as_trees_of t.blocks) in
    nodes_less t.root (trees_of t.blocks) i t s h (sym (slice_get_is (trees_of t.blocks) i s s e)) q
  where
    slice_get_is : (ts : List RootTree) (i : ℕ) (s d : RootTree) → slice_get ts i ≡ Some s → get_or ts i d ≡ s
    slice_get_is [] i s d e = cc
    slice_get_is (t ∷ ts) zero s d e = cc
    slice_get_is (t ∷ ts) (suc i) s d e = slice_get_is ts i s d e
