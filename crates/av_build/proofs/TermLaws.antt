-- A system each of whose equations has the right terms generates what its names describe: a word of the shape of a term means
-- the name, no word has the shape of two terms, and a word that means the name has the shape of one.
use Rattle.std.proofs.Common.{◌≡◌, ℕ, zero, suc, ◌<◌, ◌≤◌, List, [], ◌∷◌, length, slice_get, Some, true, refl, sym, ap, ap₂, ◌∙◌, subst, arith, true≢false}
use Rattle.av_perm.specs.Relations.{block, inflate}
use Rattle.av_perm.specs.Decompose.{Decomposes}
use Rattle.av_perm.proofs.Inflations.{lengths, length_inflate}
use Rattle.av_perm.proofs.OneDecomposition.{one_decomposition}
use Rattle.av_decomp.proofs.Decompositions.{root_two}
use Rattle.av_sys.specs.declared.terms.Term.{Term}
use Rattle.av_sys.specs.declared.terms.Term.TheVariants.{Point, Node}
use Rattle.av_sys.specs.declared.terms.System.{System}
use Rattle.av_sys.specs.Terms.{term_at, children_of}
use Rattle.av_sys.specs.Trees.{Tree, Trees, none, more, are_valid, IsTree, sizes, size, size_over, value, values}
use Rattle.av_sys.specs.Exact.{MeansAt, NamedUpTo, Named}
use Rattle.av_sys.proofs.TreeSizes.{first_valid, others_valid, size_positive, node_size}
use Rattle.av_perm.proofs.Pointwise.{same_length}
use Rattle.av_sys.proofs.Subtrees.{AllWithin, more_valid, tree_equation, tree_term, term_valid, term_value, subtrees_within}
use Rattle.av_build.proofs.TermShapes.{MeanAt, HasTermShape, mean_word, child_shorter, IsTermAt, IsServed, AreSoundTerms, AreWholeTerms, list_parts, tree_equal, trees_equal, some_term}

module _ (S : System) (P : List ℕ → Type 0) (served : IsServed S P) where
  -- the word is the value of a tree
  abbrev pub IsReached : ℕ → List ℕ → Type 0
  IsReached u w = (T : Tree) × IsTree S u T × (size T ≡ length w) × (value S u T ≡ w)

  -- so of each word of the kind that means a name, of length at most d
  abbrev ReachedUpTo : ℕ → Type 0
  ReachedUpTo d = (u : ℕ) (w : List ℕ) → length w ≤ d → MeansAt S u w → P w → IsReached u w

  -- the words are the values of a list of trees
  abbrev AreReached : List ℕ → List (List ℕ) → Type 0
  AreReached cs αs = (ts : Trees) × (are_valid S cs ts ≡ true) × (sizes ts ≡ lengths αs) × (values S cs ts ≡ αs)

  -- so of words that mean the names of children
  blocks_reached : (d : ℕ) → ReachedUpTo d → (cs : List ℕ) (αs : List (List ℕ)) → MeanAt S cs αs → ((i : ℕ) → i < length αs → (length (block αs i) ≤ d) × P (block αs i)) → AreReached cs αs
  unfolding are_valid values sizes
  blocks_reached d h [] [] m l = (none, refl, refl, refl)
  blocks_reached d h [] (α ∷ αs) m l = absurd m
  blocks_reached d h (c ∷ cs) [] m l = absurd m
  blocks_reached d h (c ∷ cs) (α ∷ αs) m l =
      let near = l 0 (omega arith) in
      let t = h c α near.0 m.0 near.1 in
      let r = blocks_reached d h cs αs m.1 (λ i k. l (suc i) (omega arith)) in
      let T : Tree = t.0 in (
        more T.term T.subtrees r.0,
        more_valid S c T cs r.0 t.1 r.1,
        omega (arith, t.2, r.2),
        ap₂ (λ (x : List ℕ) (xs : List (List ℕ)). x ∷ xs) t.3 r.3,
      )

  -- trees whose values are the blocks of a word make a tree of it
  node_made : (u : ℕ) (w : List ℕ) (t : ℕ) (root cs : List ℕ) (αs : List (List ℕ)) (ts : Trees) → IsTermAt S u t (Node root cs) → 1 ≤ length cs → Decomposes w root αs
      → are_valid S cs ts ≡ true → sizes ts ≡ lengths αs → values S cs ts ≡ αs → IsReached u w
  node_made u w t root cs αs ts f some dec v long is = (
    record { term = t; subtrees = ts },
    term_valid S u t (Node root cs) ts f v,
    node_size S cs ts some v ∙ long ∙ sym (length_inflate root αs dec.blocks.count) ∙ ap length dec.value,
    term_value S u t (Node root cs) ts f ∙ ap (inflate root) is ∙ dec.value,
  )

  -- a word of the shape of a term
  by_term : (d u : ℕ) (w : List ℕ) (t : ℕ) (x : Term) → ReachedUpTo d → length w ≤ suc d → P w → IsTermAt S u t x → HasTermShape S w x → IsReached u w
  unfolding are_valid
  by_term d u w t Point h l p f fit = (
    record { term = t; subtrees = none },
    term_valid S u t Point none f refl,
    sym (ap length fit),
    term_value S u t Point none f ∙ sym fit,
  )
  by_term d u w t (Node root cs) h l p f fit =
      let αs : List (List ℕ) = fit.0 in
      let dec : Decomposes w root αs = fit.1 in
      let some : 1 ≤ length cs = omega (arith, same_length (MeansAt S) cs αs fit.2, root_two root (block αs 0) dec.root, dec.blocks.count) in
      let r = blocks_reached d h cs αs fit.2 (λ i j. let k = child_shorter w root αs dec i j in (omega arith, served.down w root αs p dec i j)) in
      node_made u w t root cs αs r.0 f some dec r.1 r.2 r.3

  -- each word of the kind that means a name is the value of a tree
  pub reached : (d : ℕ) → ReachedUpTo d
  reached zero u w l mean p = absurd (omega (arith, (mean_word (slice_get S.equations u) w mean).filled))
  reached (suc d) u w l mean p = let r = served.served u w mean p in by_term d u w r.0 r.1 (reached d) l p r.2 r.3

module _ (S : System) (right : AreSoundTerms S) where
  -- the value of a tree means the name, has the shape of the tree's term, and is as long as the tree
  pub record Valued (u : ℕ) (T : Tree) : Type 0 where
    pub means : MeansAt S u (value S u T)
    pub long : length (value S u T) ≡ size T
    pub term : Term
    pub at_term : IsTermAt S u T.term term
    pub fits : HasTermShape S (value S u T) term

  -- so of each tree of size at most d
  abbrev ValuedUpTo : ℕ → Type 0
  ValuedUpTo d = (u : ℕ) (T : Tree) → IsTree S u T → size T ≤ d → Valued u T

  -- so of the subtrees of a tree
  subtrees_valued : (d : ℕ) → ValuedUpTo d → (cs : List ℕ) (ts : Trees) → are_valid S cs ts ≡ true → AllWithin d ts → MeanAt S cs (values S cs ts) × (lengths (values S cs ts) ≡ sizes ts)
  unfolding are_valid values sizes
  subtrees_valued d h [] none v s = (tt, refl)
  subtrees_valued d h [] (more t sub others) v s = absurd (true≢false (sym v))
  subtrees_valued d h (c ∷ cs) none v s = absurd (true≢false (sym v))
  subtrees_valued d h (c ∷ cs) (more t sub others) v s =
      let T : Tree = record { term = t; subtrees = sub } in
      let x = h c T (first_valid S c t cs sub others v) s.0 in
      let y = subtrees_valued d h cs others (others_valid S c t cs sub others v) s.1 in
      ((x.means, y.0), omega (arith, x.long, y.1))

  -- a term without children has no subtrees
  no_trees : (ts : Trees) → are_valid S [] ts ≡ true → ts ≡ none
  unfolding are_valid
  no_trees none v = refl
  no_trees (more t sub others) v = absurd (true≢false (sym v))

  -- a node: its value decomposes by the root of its term and the values of its subtrees
  pub record NodeValued (u : ℕ) (T : Tree) (root cs : List ℕ) : Type 0 where
    pub decomposes : Decomposes (value S u T) root (values S cs T.subtrees)
    pub means : MeanAt S cs (values S cs T.subtrees)
    pub long : lengths (values S cs T.subtrees) ≡ size T

  node_valued : (d u : ℕ) (T : Tree) (root cs : List ℕ) → ValuedUpTo d → are_valid S cs T.subtrees ≡ true → size T ≤ suc d → IsTermAt S u T.term (Node root cs) → NodeValued u T root cs
  node_valued d u T root cs h v s f =
      let two = right.two u T.term root cs f in
      let x = subtrees_valued d h cs T.subtrees v (subtrees_within S cs T.subtrees d two v s) in
      let is : value S u T ≡ inflate root (values S cs T.subtrees) = term_value S u T.term (Node root cs) T.subtrees f in
      record {
        decomposes = subst (λ w. Decomposes w root (values S cs T.subtrees)) (sym is) (right.decomposes u T.term root cs f (values S cs T.subtrees) x.0);
        means = x.0;
        long = x.1 ∙ sym (node_size S cs T.subtrees (omega arith) v);
      }

  -- a tree with a term
  valued_by : (d u : ℕ) (T : Tree) (x : Term) → ValuedUpTo d → are_valid S (children_of (Some x)) T.subtrees ≡ true → size T ≤ suc d → IsTermAt S u T.term x → Valued u T
  valued_by d u T Point h v s f =
      let is : value S u T ≡ 1 ∷ [] = term_value S u T.term Point T.subtrees f in
      record {
        means = right.sound u T.term Point (value S u T) f is;
        long = ap length is ∙ ap (λ ts. size_over ts (sizes ts)) (sym (no_trees T.subtrees v));
        term = Point;
        at_term = f;
        fits = is;
      }
  valued_by d u T (Node root cs) h v s f =
      let g = node_valued d u T root cs h v s f in
      let b = g.decomposes in
      record {
        means = right.sound u T.term (Node root cs) (value S u T) f (values S cs T.subtrees, b, g.means);
        long = ap length (sym b.value) ∙ length_inflate root (values S cs T.subtrees) b.blocks.count ∙ g.long;
        term = Node root cs;
        at_term = f;
        fits = (values S cs T.subtrees, b, g.means);
      }

  -- so each tree
  pub valued : (d : ℕ) → ValuedUpTo d
  valued zero u T v s = absurd (omega (arith, size_positive T.subtrees))
  valued (suc d) u T v s =
      let e = tree_equation S u T v in
      let t = tree_term S u e.0 T e.1 v in
      valued_by d u T t.term (valued d) t.valid s t.at_term

  -- two trees of an equation with one value are one
  abbrev OnceUpTo : ℕ → Type 0
  OnceUpTo d = (u : ℕ) (T U : Tree) → IsTree S u T → IsTree S u U → size T ≤ d → size U ≤ d → value S u T ≡ value S u U → T ≡ U

  -- so of lists of trees
  subtrees_once : (d : ℕ) → OnceUpTo d → (cs : List ℕ) (ts us : Trees) → are_valid S cs ts ≡ true → are_valid S cs us ≡ true → AllWithin d ts → AllWithin d us
      → values S cs ts ≡ values S cs us → ts ≡ us
  unfolding are_valid values
  subtrees_once d h [] none none v w s r e = refl
  subtrees_once d h [] none (more t sub others) v w s r e = absurd (true≢false (sym w))
  subtrees_once d h [] (more t sub others) us v w s r e = absurd (true≢false (sym v))
  subtrees_once d h (c ∷ cs) none us v w s r e = absurd (true≢false (sym v))
  subtrees_once d h (c ∷ cs) (more t sub others) none v w s r e = absurd (true≢false (sym w))
  subtrees_once d h (c ∷ cs) (more t sub others) (more t' sub' others') v w s r e =
      let T : Tree = record { term = t; subtrees = sub } in
      let U : Tree = record { term = t'; subtrees = sub' } in
      let q = list_parts (value S c T) (value S c U) (values S cs others) (values S cs others') e in
      trees_equal T U others others'
      (h c T U (first_valid S c t cs sub others v) (first_valid S c t' cs sub' others' w) s.0 r.0 q.0)
      (subtrees_once d h cs others others' (others_valid S c t cs sub others v) (others_valid S c t' cs sub' others' w) s.1 r.1 q.1)

  -- two trees with one term and one value have the same subtrees
  same_subtrees : (d u : ℕ) (T U : Tree) (x : Term) → OnceUpTo d → T.term ≡ U.term → are_valid S (children_of (Some x)) T.subtrees ≡ true → are_valid S (children_of (Some x)) U.subtrees ≡ true
      → size T ≤ suc d → size U ≤ suc d → IsTermAt S u T.term x → value S u T ≡ value S u U → T.subtrees ≡ U.subtrees
  same_subtrees d u T U Point h z v w s r f same = no_trees T.subtrees v ∙ sym (no_trees U.subtrees w)
  same_subtrees d u T U (Node root cs) h z v w s r f same =
      subtrees_once d h cs T.subtrees U.subtrees v w (subtrees_within S cs T.subtrees d two v s) (subtrees_within S cs U.subtrees d two w r)
      (one_decomposition (value S u T) root root (values S cs T.subtrees) (values S cs U.subtrees) (mean_word (slice_get S.equations u) (value S u T) word).numbers first.decomposes
      (subst (λ x. Decomposes x root (values S cs U.subtrees)) (sym same) second.decomposes)).1
    where
      two : 2 ≤ length cs
      two = right.two u T.term root cs f

      first : NodeValued u T root cs
      first = node_valued d u T root cs (valued d) v s f

      second : NodeValued u U root cs
      second = node_valued d u U root cs (valued d) w r (subst (λ t. IsTermAt S u t (Node root cs)) z f)

      word : MeansAt S u (value S u T)
      word = right.sound u T.term (Node root cs) (value S u T) f (values S cs T.subtrees, first.decomposes, first.means)

  -- each value is that of one tree
  pub valued_once : (d : ℕ) → OnceUpTo d
  valued_once zero u T U v w s r same = absurd (omega (arith, size_positive T.subtrees))
  valued_once (suc d) u T U v w s r same =
      let a = valued (suc d) u T v s in
      let b = valued (suc d) u U w r in
      let z : T.term ≡ U.term = right.apart u T.term U.term a.term b.term (value S u T) a.at_term b.at_term a.fits (subst (λ x. HasTermShape S x b.term) (sym same) b.fits) in
      let e = tree_equation S u T v in
      let t = tree_term S u e.0 T e.1 v in
      let t' = tree_term S u e.0 U e.1 w in
      let x : t'.term ≡ t.term = some_term t'.term t.term (sym t'.at_term ∙ ap (term_at S u) (sym z) ∙ t.at_term) in
      let w' : are_valid S (children_of (Some t.term)) U.subtrees ≡ true = subst (λ k. are_valid S (children_of (Some k)) U.subtrees ≡ true) x t'.valid in
      tree_equal T U z (same_subtrees d u T U t.term (valued_once d) z t.valid w' s r t.at_term same)

  -- so the system generates up to a size what its names describe, where the words up to that length are of a kind that is served
  pub right_up_to : (P : List ℕ → Type 0) → IsServed S P → (m : ℕ) → ((u : ℕ) (w : List ℕ) → MeansAt S u w → length w ≤ m → P w) → NamedUpTo S m
  right_up_to P served m h = record {
    sound = λ u T v s. let x = valued m u T v s in (x.means, x.long);
    complete = λ u w mean l. reached S P served m u w l mean (h u w mean l);
    once = λ u T U v w s r same. valued_once m u T U v w s r same;
  }

  -- and at every size, where all words are served
  pub right_named : AreWholeTerms S → Named S
  right_named whole m = right_up_to (λ w. Unit {0}) (record { down = λ w root αs p d i h. tt; served = λ u w mean p. whole u w mean }) m (λ u w mean l. tt)
