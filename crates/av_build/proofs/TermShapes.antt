-- The shape of a term: words that have it, and what it is for terms to be sound, or whole.
use Rattle.std.proofs.Common.{◌≡◌, ℕ, ◌<◌, ◌≤◌, List, [], ◌∷◌, length, slice_get, Option, Some, None, refl, sym, ap, ap₂, ◌∙◌, subst, arith}
use Rattle.av_perm.specs.Relations.{IsWord, AreBlocks, block, inflate}
use Rattle.av_perm.specs.Decompose.{Decomposes}
use Rattle.av_perm.specs.Lists.{Pointwise}
use Rattle.av_perm.proofs.Inflations.{length_inflate}
use Rattle.av_decomp.proofs.Decompositions.{root_two, block_shorter}
use Rattle.av_sys.specs.declared.terms.Term.{Term}
use Rattle.av_sys.specs.declared.terms.Term.TheVariants.{Point, Node}
use Rattle.av_sys.specs.declared.terms.Equation.{Equation}
use Rattle.av_sys.specs.declared.terms.System.{System}
use Rattle.av_sys.specs.Names.{Means}
use Rattle.av_sys.specs.Terms.{terms_of, term_at}
use Rattle.av_sys.specs.Trees.{Tree, Trees, more}
use Rattle.av_sys.specs.Exact.{MeansOf, MeansAt}
use Rattle.av_perm.proofs.Pointwise.{same_length, before_at}
use Rattle.av_sys.proofs.Subtrees.{IsEquation}

-- as many words as equations, and each means the name of the equation at its place
abbrev pub MeanAt : System → List ℕ → List (List ℕ) → Type 0
MeanAt S cs αs = Pointwise (MeansAt S) cs αs

-- a word of the shape of a term: the word 1, or an inflation of the root by words of the children's names
abbrev pub HasTermShape : System → List ℕ → Term → Type 0
HasTermShape S w Point = w ≡ 1 ∷ []
HasTermShape S w (Node root cs) = (αs : List (List ℕ)) × Decomposes w root αs × MeanAt S cs αs

-- a word that means the name of some equation is a word
pub mean_word : (o : Option Equation) (σ : List ℕ) → MeansOf o σ → IsWord σ
mean_word None σ m = absurd m
mean_word (Some e) σ m = m.word

-- so of words that mean the names of equations
pub mean_at_word : (S : System) (cs : List ℕ) (αs : List (List ℕ)) → MeanAt S cs αs → (i : ℕ) → i < length αs → IsWord (block αs i)
mean_at_word S cs αs m i h = let c = before_at (MeansAt S) cs αs i [] m h in mean_word (slice_get S.equations c.0) (block αs i) c.1

-- such words are blocks of a root that is as long
pub mean_at_blocks : (S : System) (root cs : List ℕ) (αs : List (List ℕ)) → length cs ≡ length root → MeanAt S cs αs → AreBlocks root αs
mean_at_blocks S root cs αs e m =
    let c = sym (same_length (MeansAt S) cs αs m) in
    record {
      count = c ∙ e;
      words = λ i h. (mean_at_word S cs αs m i (omega arith)).numbers;
      filled = λ i h. (mean_at_word S cs αs m i (omega arith)).filled;
    }

-- a block of a word is shorter than the word
pub child_shorter : (w root : List ℕ) (αs : List (List ℕ)) → Decomposes w root αs → (i : ℕ) → i < length αs → length (block αs i) < length w
child_shorter w root αs d i h =
    let b = d.blocks in
    let e = ap length d.value in
    omega (arith, block_shorter αs i h (λ j k. b.filled j (omega (arith, b.count))), root_two root (block αs 0) d.root, b.count, length_inflate root αs b.count)

-- what means an equation's name means it at the equation's number
pub means_at : (S : System) (u : ℕ) (e : Equation) (w : List ℕ) → IsEquation S u e → Means e.name w → MeansAt S u w
means_at S u e w q m = subst (λ o. MeansOf o w) (sym q) m

-- and the other way round
pub at_means : (S : System) (u : ℕ) (e : Equation) (w : List ℕ) → IsEquation S u e → MeansAt S u w → Means e.name w
at_means S u e w q m = subst (λ o. MeansOf o w) q m

-- a term that stands in an equation
abbrev pub IsTermAt : System → ℕ → ℕ → Term → Type 0
IsTermAt S u t x = term_at S u t ≡ Some x

-- it is one of an equation
pub term_equation : (S : System) (u t : ℕ) (x : Term) → IsTermAt S u t x → (e : Equation) × IsEquation S u e × (slice_get e.terms t ≡ Some x)
term_equation S u t x f = by (slice_get S.equations u) refl f
  where
    by : (o : Option Equation) → slice_get S.equations u ≡ o → slice_get (terms_of o) t ≡ Some x → (e : Equation) × IsEquation S u e × (slice_get e.terms t ≡ Some x)
    by None q g = absurd (let z : None ≡ Some x = g in cc)
    by (Some e) q g = (e, q, g)

-- the words that have a term of their shape, among those of a kind
pub record IsServed (S : System) (P : List ℕ → Type 0) : Type 0 where
  pub down : (w root : List ℕ) (αs : List (List ℕ)) → P w → Decomposes w root αs → (i : ℕ) → i < length αs → P (block αs i)
  pub served : (u : ℕ) (w : List ℕ) → MeansAt S u w → P w → (t : ℕ) × (x : Term) × IsTermAt S u t x × HasTermShape S w x

-- terms that generate nothing wrong: the values of their trees decompose by their roots, a word of the shape of one means the
-- name, and no word has the shape of two
pub record AreSoundTerms (S : System) : Type 0 where
  pub two : (u t : ℕ) (root cs : List ℕ) → IsTermAt S u t (Node root cs) → 2 ≤ length cs
  pub decomposes : (u t : ℕ) (root cs : List ℕ) → IsTermAt S u t (Node root cs) → (αs : List (List ℕ)) → MeanAt S cs αs → Decomposes (inflate root αs) root αs
  pub sound : (u t : ℕ) (x : Term) (w : List ℕ) → IsTermAt S u t x → HasTermShape S w x → MeansAt S u w
  pub apart : (u s t : ℕ) (x y : Term) (w : List ℕ) → IsTermAt S u s x → IsTermAt S u t y → HasTermShape S w x → HasTermShape S w y → s ≡ t

-- terms that serve each word
abbrev pub AreWholeTerms : System → Type 0
AreWholeTerms S = (u : ℕ) (w : List ℕ) → MeansAt S u w → (t : ℕ) × (x : Term) × IsTermAt S u t x × HasTermShape S w x

-- equal lists have equal parts
pub list_parts : (a b : List ℕ) (xs ys : List (List ℕ)) → (a ∷ xs) ≡ (b ∷ ys) → (a ≡ b) × (xs ≡ ys)
list_parts a b xs ys e = (cc, cc)

-- trees with equal parts are equal
pub tree_equal : (T U : Tree) → T.term ≡ U.term → T.subtrees ≡ U.subtrees → T ≡ U
tree_equal T U e f = ap₂ (λ (t : ℕ) (ts : Trees). let x : Tree = record { term = t; subtrees = ts } in x) e f

-- and so are lists of trees
pub trees_equal : (T U : Tree) (ts us : Trees) → T ≡ U → ts ≡ us → more T.term T.subtrees ts ≡ more U.term U.subtrees us
trees_equal T U ts us e f = ap₂ (λ (V : Tree) (vs : Trees). more V.term V.subtrees vs) e f

pub some_term : (a b : Term) → Some a ≡ Some b → a ≡ b
some_term a b e = cc
