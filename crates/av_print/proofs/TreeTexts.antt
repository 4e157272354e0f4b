-- The text of a tree, from the texts of its blocks.
use Rattle.std.proofs.Common.{◌≡◌, ℕ, zero, suc, ◌+◌, ◌-◌, ◌<◌, ◌≤◌, List, ◌++◌, length, drop, get_or, slice_get, flat_map, codes, Option, Some, None, append_assoc, refl, sym, ap, ◌∙◌, subst, arith}
use Rattle.std.proofs.KnownBytes.{Appends-nil, Appends-trans}
use Rattle.std.proofs.lemmas.List.{drop_all}
use Rattle.std.specs.Io.KnownBytes.{Appends}
use Rattle.std.specs.List.{join_by}
use Rattle.av_decomp.specs.RootTrees.{RootTrees, none, more, RootTree, trees_of, nodes}
use Rattle.av_decomp.specs.Trees.{root_length, FitsNode, IsFormed}
use Rattle.av_decomp.proofs.FormedTrees.{children_count, child_less}
use Rattle.av_print.specs.Text.{root_text, node_text, tree_texts, tree_text}
use Rattle.av_print.specs.Wrote.{AppendsPart}
use Rattle.av_print.proofs.Written.{AppendsUpTo, part_step, up_to_end, items_turn, items_fault}

-- a text after a comma
abbrev pub after_comma : List ℕ → List ℕ
after_comma text = codes "," ++ text

-- the texts of the blocks of a tree from a place on, each after a comma
abbrev pub others_from : RootTree → ℕ → List ℕ
others_from t k = flat_map after_comma (drop k (tree_texts t.blocks))

-- what follows the opening bracket
abbrev inside : RootTree → List ℕ
inside t = join_by (λ text. text) (codes ",") (tree_texts t.blocks) ++ codes "]"

-- there are as many texts as trees
texts_count : (ts : RootTrees) → length (tree_texts ts) ≡ length (trees_of ts)
unfolding tree_texts
texts_count none = refl
texts_count (more root blocks others) = ap suc (texts_count others)

-- the text at a place is that of the tree there
text_at : (ts : RootTrees) (k : ℕ) (t : RootTree) → slice_get (trees_of ts) k ≡ Some t → (k < length (tree_texts ts)) × (tree_text t ≡ get_or (tree_texts ts) k (tree_text t))
unfolding tree_texts tree_text
text_at none k t e = cc
text_at (more root blocks others) zero t e =
    let s : RootTree = record { root = root; blocks = blocks } in
    let q : s ≡ t = cc in
    (omega arith, ap (λ (u : RootTree). node_text u.root (tree_texts u.blocks)) (sym q))
text_at (more root blocks others) (suc k) t e = let h = text_at others k t e in (omega (arith, h.0), h.1)

-- the joined texts begin with that of the first tree
first_text : (ts : RootTrees) (t : RootTree) → slice_get (trees_of ts) 0 ≡ Some t → join_by (λ text. text) (codes ",") (tree_texts ts) ≡ tree_text t ++ flat_map after_comma (drop 1 (tree_texts ts))
unfolding tree_texts tree_text
first_text none t e = cc
first_text (more root blocks others) t e =
    let s : RootTree = record { root = root; blocks = blocks } in
    let q : s ≡ t = cc in
    ap (λ (u : RootTree). node_text u.root (tree_texts u.blocks) ++ flat_map after_comma (tree_texts others)) q

-- the text of a point
pub point_text : (t : RootTree) → None ≡ t.root → tree_text t ≡ codes "1"
unfolding tree_text node_text
point_text t e = ap (λ (r : Option (List ℕ)). node_text r (tree_texts t.blocks)) (sym e)

-- the text of a tree begins with its root
pub root_first : (t : RootTree) (π : List ℕ) → Some π ≡ t.root → tree_text t ≡ (root_text π ++ codes "[") ++ inside t
unfolding tree_text node_text
root_first t π e = ap (λ (r : Option (List ℕ)). node_text r (tree_texts t.blocks)) (sym e) ∙ sym (append_assoc (root_text π) (codes "[") (inside t))

-- then comes the first block
inside_parts : (t s : RootTree) → slice_get (trees_of t.blocks) 0 ≡ Some s → inside t ≡ tree_text s ++ (others_from t 1 ++ codes "]")
inside_parts t s e = ap (λ (x : List ℕ). x ++ codes "]") (first_text t.blocks s e) ∙ append_assoc (tree_text s) (others_from t 1) (codes "]")

tree_parts : (t s : RootTree) (π : List ℕ) → Some π ≡ t.root → slice_get (trees_of t.blocks) 0 ≡ Some s → tree_text t ≡ (root_text π ++ codes "[") ++ (tree_text s ++ (others_from t 1 ++ codes "]"))
tree_parts t s π e q = root_first t π e ∙ ap (λ (x : List ℕ). (root_text π ++ codes "[") ++ x) (inside_parts t s q)

-- the root was written, and a part of what follows, or all of it
pub node_part : (t s : RootTree) (π : List ℕ) (old mid new : Option (List ℕ)) → Some π ≡ t.root → slice_get (trees_of t.blocks) 0 ≡ Some s → Appends old mid (root_text π ++ codes "[")
    → AppendsPart mid new (tree_text s ++ (others_from t 1 ++ codes "]")) → AppendsPart old new (tree_text t)
node_part t s π old mid new e q a p = subst (AppendsPart old new) (sym (tree_parts t s π e q)) (part_step old mid new _ _ a p)

pub node_whole : (t s : RootTree) (π : List ℕ) (old mid new : Option (List ℕ)) → Some π ≡ t.root → slice_get (trees_of t.blocks) 0 ≡ Some s → Appends old mid (root_text π ++ codes "[")
    → Appends mid new (tree_text s ++ (others_from t 1 ++ codes "]")) → Appends old new (tree_text t)
node_whole t s π old mid new e q a p = subst (Appends old new) (sym (tree_parts t s π e q)) (Appends-trans old mid new _ _ a p)

-- a block has fewer nodes than the tree
pub block_less : (t s : RootTree) (k : ℕ) → slice_get (trees_of t.blocks) k ≡ Some s → nodes s < nodes t
block_less t s k e = child_less t s k (omega (arith, (text_at t.blocks k s e).0, texts_count t.blocks)) e

-- a point has no blocks
pub no_others : (t : RootTree) (held : Option (List ℕ)) → None ≡ t.root → IsFormed t → Appends held held (others_from t 1)
unfolding tree_texts
no_others t held e f =
    let b : t.blocks ≡ none = subst (λ (r : Option (List ℕ)). FitsNode r t.blocks) (sym e) f.top in
    subst (λ (ts : RootTrees). Appends held held (flat_map after_comma (drop 1 (tree_texts ts)))) (sym b) (Appends-nil held)

-- a block was written after a comma
pub others_turn : (t s : RootTree) (i : ℕ) (old mid near new : Option (List ℕ)) (text : List ℕ) → 2 ≤ i → slice_get (trees_of t.blocks) (i - 1) ≡ Some s
    → AppendsUpTo old mid text (others_from t (i - 1)) → Appends mid near (codes ",") → Appends near new (tree_text s) → AppendsUpTo old new text (others_from t (i + 1 - 1))
others_turn t s i old mid near new text two e u a b =
    let h = text_at t.blocks (i - 1) s e in
    let next : i + 1 - 1 ≡ i - 1 + 1 = omega arith in
    rw next (items_turn after_comma (tree_texts t.blocks) (i - 1) (tree_text s) old mid new text h.0 h.1 u (Appends-trans mid near new (codes ",") (tree_text s) a b))

-- or a part of that
pub others_fault : (t s : RootTree) (i : ℕ) (old mid new : Option (List ℕ)) (text : List ℕ) → slice_get (trees_of t.blocks) (i - 1) ≡ Some s
    → AppendsUpTo old mid text (others_from t (i - 1)) → AppendsPart mid new (codes "," ++ tree_text s) → AppendsPart old new text
others_fault t s i old mid new text e u p =
    let h = text_at t.blocks (i - 1) s e in
    items_fault after_comma (tree_texts t.blocks) (i - 1) (tree_text s) old mid new text h.0 h.1 u p

-- none is left
pub others_end : (t : RootTree) (π : List ℕ) (i : ℕ) (old new : Option (List ℕ)) (text : List ℕ) → Some π ≡ t.root → IsFormed t → length π + 1 ≤ i
    → AppendsUpTo old new text (others_from t (i - 1)) → Appends old new text
others_end t π i old new text e f ge u =
    let l : length π ≡ root_length t.root = ap root_length e in
    let n : length (tree_texts t.blocks) ≤ i - 1 = omega (arith, texts_count t.blocks, children_count t f, l) in
    up_to_end old new text (others_from t (i - 1)) u (ap (flat_map after_comma) (drop_all (i - 1) (tree_texts t.blocks) n))
