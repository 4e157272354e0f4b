-- Where the equations generate what their names say, a word that means a name has a top.
use Rattle.std.proofs.Common.{◌≡◌, ℕ, zero, suc, ◌<◌, ◌≤◌, inl, inr, true, List, [], ◌∷◌, length, refl, sym, ap, ◌∙◌, subst, arith, true≢false, Option, Some, None, is_some}
use Rattle.std.proofs.lemmas.Bool.{and_parts}
use Rattle.std.proofs.lemmas.List.{length-map}
use Rattle.std.proofs.lemmas.Option.{slice_get_within}
use Rattle.av_perm.specs.declared.limits.TheConstants.{MAX_ROOT_LENGTH}
use Rattle.av_perm.specs.Relations.{IsWord, AreBlocks, IsSimple, inflate, sum_root, skew_root}
use Rattle.av_perm.proofs.Inflations.{length_inflate, lengths_least}
use Rattle.av_perm.proofs.OneDecomposition.{one_decomposition}
use Rattle.av_interval.specs.declared.spans.Span.{Span}
use Rattle.av_decomp.specs.Blocks.{block_at, blocks_at}
use Rattle.av_decomp.specs.Shapes.{HasBlocks}
use Rattle.av_sys.specs.declared.terms.Term.{Term}
use Rattle.av_sys.specs.declared.terms.Term.TheVariants.{Point, Node}
use Rattle.av_sys.specs.declared.terms.System.{System}
use Rattle.av_sys.specs.Terms.{terms_at, term_at, children_of, IsWellFormed}
use Rattle.av_sys.specs.Trees.{Tree, Trees, none, more, are_valid, IsTree, sizes, size, value, values, value_over}
use Rattle.av_sys.specs.Exact.{MeansAt, NamedUpTo}
use Rattle.av_sys.proofs.TreeSizes.{first_valid, others_valid, node_size}
use Rattle.av_count.proofs.NodeForms.{node_form}
use Rattle.av_tree.specs.Tops.{AllMean, FitsTerm, FitsNone, IsTwoRoot, HasNoCutTop, HasNoTop}
use Rattle.av_tree.proofs.TreeWords.{values_words, length_values, word_blocks}
use Rattle.av_tree.proofs.Cuts.{cut_found}

-- a shorter bound on sizes
pub named_less : (S : System) (m n : ℕ) → n ≤ m → NamedUpTo S m → NamedUpTo S n
named_less S m n le h = record {
  sound = λ u T v s. h.sound u T v (omega arith);
  complete = λ u σ mean l. h.complete u σ mean (omega arith);
  once = λ u T U v w s r e. h.once u T U v w (omega arith) (omega arith) e;
}

-- the values of subtrees mean the names of the children's equations
subtrees_mean : (S : System) (m : ℕ) → NamedUpTo S m → (cs : List ℕ) (ts : Trees) → are_valid S cs ts ≡ true → sizes ts ≤ m → AllMean S cs (values S cs ts)
unfolding are_valid values sizes
subtrees_mean S m h [] ts v s i lt = absurd (omega arith)
subtrees_mean S m h (c ∷ cs) none v s i lt = absurd (true≢false (sym v))
subtrees_mean S m h (c ∷ cs) (more t sub others) v s zero lt =
    (h.sound c (record { term = t; subtrees = sub }) (first_valid S c t cs sub others v) (omega arith)).0
subtrees_mean S m h (c ∷ cs) (more t sub others) v s (suc i) lt =
    subtrees_mean S m h cs others (others_valid S c t cs sub others v) (omega arith) i (omega arith)

-- the top of a tree: its term and what that makes of its subtrees
pub record TreeTop (S : System) (u : ℕ) (T : Tree) (o : Option Term) : Type 0 where
  pub some : is_some o ≡ true
  pub valid : are_valid S (children_of o) T.subtrees ≡ true
  pub is : value_over o (values S (children_of o) T.subtrees) ≡ value S u T

-- so of each tree
pub tree_top : (S : System) (u : ℕ) (T : Tree) (o : Option Term) → term_at S u T.term ≡ o → IsTree S u T → TreeTop S u T o
tree_top S u T o e v =
    subst (TreeTop S u T) e
    (let p = and_parts (is_some (term_at S u T.term)) (are_valid S (children_of (term_at S u T.term)) T.subtrees) v in
    record { some = p.0; valid = p.1; is = refl })

module _ (S : System) (w : List ℕ) (formed : IsWellFormed S) (named : NamedUpTo S (length w)) where
  -- a word of two or more entries that means a name has a top
  pub some_top : (u : ℕ) → MeansAt S u w → 2 ≤ length w → HasNoTop S u w → ⊥
  some_top u mean two none_fits =
      let c = named.complete u w mean (omega arith) in
      by c.0 (term_at S u c.0.term) refl c.1 c.2 c.3
    where
      by : (T : Tree) (o : Option Term) → term_at S u T.term ≡ o → IsTree S u T → size T ≡ length w → value S u T ≡ w → ⊥
      by T None e v s q = true≢false (sym (tree_top S u T None e v).some)
      by T (Some Point) e v s q = let l = ap (λ (x : List ℕ). length x) ((tree_top S u T (Some Point) e v).is ∙ q) in omega arith
      by T (Some (Node root cs)) e v s q =
          let t = tree_top S u T (Some (Node root cs)) e v in
          let g = node_form S u T.term root cs formed e in
          let k = length_values S cs T.subtrees t.valid ∙ sym g.long in
          let x = values_words S formed cs T.subtrees t.valid in
          let z = node_size S cs T.subtrees (omega (arith, g.two)) t.valid in
          none_fits root (values S cs T.subtrees) g.rooted (word_blocks root (values S cs T.subtrees) k x.0) (t.is ∙ q) T.term
          (subst (FitsTerm S root (values S cs T.subtrees)) (sym e) (refl, subtrees_mean S (length w) named cs T.subtrees t.valid (omega arith)))

  -- the word 1 has a point
  pub some_point : (u : ℕ) → MeansAt S u w → length w ≡ 1 → (t : ℕ) × (t < length (terms_at S u)) × (term_at S u t ≡ Some Point)
  some_point u mean one =
      let c = named.complete u w mean (omega arith) in
      by c.0 (term_at S u c.0.term) refl c.1 c.3
    where
      by : (T : Tree) (o : Option Term) → term_at S u T.term ≡ o → IsTree S u T → value S u T ≡ w → (t : ℕ) × (t < length (terms_at S u)) × (term_at S u t ≡ Some Point)
      by T None e v q = absurd (true≢false (sym (tree_top S u T None e v).some))
      by T (Some Point) e v q = (T.term, slice_get_within (terms_at S u) T.term Point e, e)
      by T (Some (Node root cs)) e v q =
          let t = tree_top S u T (Some (Node root cs)) e v in
          let g = node_form S u T.term root cs formed e in
          let k = length_values S cs T.subtrees t.valid ∙ sym g.long in
          let x = values_words S formed cs T.subtrees t.valid in
          let b = word_blocks root (values S cs T.subtrees) k x.0 in
          let l = ap (λ (y : List ℕ). length y) (t.is ∙ q) in
          let m = length_inflate root (values S cs T.subtrees) k in
          let a = lengths_least (values S cs T.subtrees) (λ i h. b.filled i (omega arith)) in
          absurd (omega (arith, g.two, g.long))

-- of a simple root the blocks are those of the decomposition
pub simple_none : (S : System) (u : ℕ) (w root : List ℕ) (spans : List Span) → IsWord w → HasBlocks w root spans → FitsNone S u root (blocks_at w spans)
    → (π : List ℕ) (αs : List (List ℕ)) → IsSimple π → AreBlocks π αs → inflate π αs ≡ w → FitsNone S u π αs
simple_none S u w root spans g h f π αs simple b e t k =
    let q = one_decomposition w π root αs (blocks_at w spans) g.numbers (record { blocks = b; value = e; root = inr (inr simple) }) h.blocks in
    f t (subst (λ r. FitsTerm S r (blocks_at w spans) (term_at S u t)) q.0 (subst (λ βs. FitsTerm S π βs (term_at S u t)) q.1 k))

-- nor does a term have a root of more than MAX_ROOT_LENGTH entries
pub long_none : (S : System) (u : ℕ) (w root : List ℕ) (spans : List Span) → IsWellFormed S → IsWord w → HasBlocks w root spans → MAX_ROOT_LENGTH < length spans
    → (π : List ℕ) (αs : List (List ℕ)) → IsSimple π → AreBlocks π αs → inflate π αs ≡ w → FitsNone S u π αs
long_none S u w root spans formed g h long π αs simple b e t =
    let q = one_decomposition w π root αs (blocks_at w spans) g.numbers (record { blocks = b; value = e; root = inr (inr simple) }) h.blocks in
    by (term_at S u t) refl (ap (λ (βs : List (List ℕ)). length βs) q.1)
  where
    by : (o : Option Term) → term_at S u t ≡ o → length αs ≡ length (blocks_at w spans) → FitsTerm S π αs o → ⊥
    by None e n f = f
    by (Some Point) e n f = f
    by (Some (Node own cs)) e n f =
        let r = node_form S u t own cs formed e in
        let l = ap (λ (v : List ℕ). length v) f.0 in
        omega (arith, r.few, r.long, b.count, length-map spans (block_at w))

-- no cut has a top of this root
pub cut_none : (S : System) (u : ℕ) (w root : List ℕ) → IsTwoRoot root → ((k : ℕ) → 1 ≤ k → k < length w → HasNoCutTop S u w root k)
    → (αs : List (List ℕ)) → AreBlocks root αs → inflate root αs ≡ w → FitsNone S u root αs
cut_none S u w root two f αs b e =
    let c = cut_found w root αs two b e in
    subst (FitsNone S u root) c.blocks (f c.k c.some c.part (ap (inflate root) c.blocks ∙ e))

-- so there is no top, where none is found of 12, of 21 and of a simple root
pub no_top : (S : System) (u : ℕ) (w rise fall : List ℕ) → rise ≡ sum_root → fall ≡ skew_root
    → ((k : ℕ) → 1 ≤ k → k < length w → HasNoCutTop S u w rise k) → ((k : ℕ) → 1 ≤ k → k < length w → HasNoCutTop S u w fall k)
    → ((root : List ℕ) (αs : List (List ℕ)) → IsSimple root → AreBlocks root αs → inflate root αs ≡ w → FitsNone S u root αs) → HasNoTop S u w
no_top S u w rise fall er ef a b s root αs (inl q) k e =
    cut_none S u w root (inl q) (subst (λ r. (k : ℕ) → 1 ≤ k → k < length w → HasNoCutTop S u w r k) (er ∙ sym q) a) αs k e
no_top S u w rise fall er ef a b s root αs (inr (inl q)) k e =
    cut_none S u w root (inr q) (subst (λ r. (k : ℕ) → 1 ≤ k → k < length w → HasNoCutTop S u w r k) (ef ∙ sym q) b) αs k e
no_top S u w rise fall er ef a b s root αs (inr (inr p)) k e = s root αs p.0 k e
