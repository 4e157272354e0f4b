-- The terms of an equation of a claim without faults are the right ones.
use Rattle.std.proofs.Common.{◌≡◌, ℕ, ◌≤◌, inl, inr, List, [], ◌∷◌, length, get_or, slice_get, true, not, cond, Option, Some, None, refl, sym, ap, ◌∙◌, subst, arith}
use Rattle.std.specs.List.{list_any}
use Rattle.std.proofs.lemmas.Bool.{cases_eq, or_parts, not-false}
use Rattle.std.proofs.lemmas.List.{length-map}
use Rattle.av_perm.specs.Members.{In}
use Rattle.av_perm.specs.Lists.{same}
use Rattle.av_perm.specs.Relations.{IsWord, AreWords, AreBlocks, InClass, IsSimple, Contains, block, inflate}
use Rattle.av_perm.specs.Decompose.{Decomposes, IsRoot}
use Rattle.av_perm.proofs.Classes.{class_down}
use Rattle.av_perm.proofs.Containment.{contains_trans}
use Rattle.av_perm.proofs.Membership.{Each, In_at, In_map}
use Rattle.av_perm.proofs.Inflations.{length_inflate, lengths_least}
use Rattle.av_perm.proofs.InflatedPatterns.{root_contained}
use Rattle.av_perm.proofs.OneDecomposition.{one_decomposition}
use Rattle.av_perm.proofs.SomeDecomposition.{some_decomposition}
use Rattle.av_perm.proofs.ListLaws.{get_In}
use Rattle.av_decomp.proofs.Decompositions.{word_of_one, root_two}
use Rattle.av_sys.specs.declared.terms.Term.{Term}
use Rattle.av_sys.specs.declared.terms.Term.TheVariants.{Point, Node}
use Rattle.av_sys.specs.declared.terms.Equation.{Equation}
use Rattle.av_sys.specs.declared.terms.System.{System}
use Rattle.av_sys.specs.Names.{Means, Meets}
use Rattle.av_sys.specs.Terms.{terms_of, IsNodeOf, IsWellFormed}
use Rattle.av_sys.specs.Exact.{MeansOf}
use Rattle.av_sys.proofs.Subtrees.{IsEquation, equation_term}
use Rattle.av_sys.proofs.TreeSizes.{Branches, nodes_branch}
use Rattle.av_split.specs.Boxes.{Box, boxes}
use Rattle.av_split.proofs.GenericSplit.{Apart}
use Rattle.av_build.specs.Drafts.{point, point_drafts, has_point, child_names}
use Rattle.av_build.specs.Canonical.{first_name}
use Rattle.av_build.specs.Laws.{IsNameOver}
use Rattle.av_build.proofs.Growing.{In_get}
use Rattle.av_build.proofs.NameEquations.{decomposed_word, root_is_word, root_splits, equation_law}
use Rattle.av_build.proofs.DraftMeanings.{point_listed, point_sound, point_complete}
use Rattle.av_build.proofs.DraftsApart.{apart_same}
use Rattle.av_build.proofs.TermShapes.{MeanAt, HasTermShape, IsTermAt, AreSoundTerms, AreWholeTerms, mean_at_blocks, means_at, term_equation}
use Rattle.av_walk.specs.Walk.{Ending, good, bare, twice, extra, Leaf}
use Rattle.av_walk.specs.Leaves.{name_of_equation, names_at, names_of_root}
use Rattle.av_check.specs.declared.verdict.Flaw.TheVariants.{Twice, Extra}
use Rattle.av_check.specs.Verdicts.{first_sign, are_signed, roots_for, leaf_flaw, ending_flaw, points_due}
use Rattle.av_check.specs.Laws.{IsWordName, HoldsAllSimples}
use Rattle.av_check.proofs.BlocksContained.{block_in_class}
use Rattle.av_check.proofs.DeadNames.{dead_none}
use Rattle.av_check.proofs.CellTreatments.{IsFair}
use Rattle.av_check.proofs.NameLiterals.{Covers, mean_covers}
use Rattle.av_check.proofs.RootLeaves.{IsLeafOf, some_leaf, leaf_fine, term_sound, terms_apart, term_complete}
use Rattle.av_check.proofs.VerdictParts.{IsFaultless}
use Rattle.av_check.proofs.ListedRoots.{listed_is, serves_listed, listed_by_test, first_signed}
use Rattle.av_check.proofs.ListedTerms.{In_names, names_In, MeansBy, terms_means_apart, IsPoint, point_counts, points_apart, some_point, due_most, due_some}
use Rattle.av_check.proofs.RightNames.{named_over, not_misnamed}
use Rattle.av_check.proofs.CellNames.{cell_blocks, bare_dead, covers_means, mean_first}

-- a claim none of whose equations has a fault
pub record IsChecked (limit : ℕ) (basis required : List (List ℕ)) (S : System) (simples : List (List ℕ)) : Type 0 where
  pub form : IsWellFormed S
  pub words : (u : ℕ) (e : Equation) → IsEquation S u e → IsWordName e.name
  pub basis_words : AreWords basis
  pub held : HoldsAllSimples basis simples
  pub faultless : (u : ℕ) (e : Equation) → IsEquation S u e → IsFaultless limit (first_name basis required) S simples u e

-- an ending without a flaw
fair_of : (limit : ℕ) (simples : List (List ℕ)) (root : List ℕ) (x : Ending) (cell : Box) → ending_flaw limit simples root x cell ≡ None → IsFair x
fair_of limit simples root good cell e = tt
fair_of limit simples root bare cell e = tt
fair_of limit simples root twice cell e = let z : Some Twice ≡ None = e in cc
fair_of limit simples root extra cell e = let z : Some Extra ≡ None = e in cc

-- a word of one entry is no inflation
one_not : (w root : List ℕ) (αs : List (List ℕ)) → w ≡ 1 ∷ [] → Decomposes w root αs → ⊥
one_not w root αs e d =
    let b = d.blocks in
    let f = ap length d.value in
    let g = ap length e in
    omega (arith, length_inflate root αs b.count, lengths_least αs (λ i h. b.filled i (omega (arith, b.count))), b.count, root_two root (block αs 0) d.root)

module _ (limit : ℕ) (basis required : List (List ℕ)) (S : System) (simples : List (List ℕ)) (ok : IsChecked limit basis required S simples) where
  simple : Each IsSimple simples
  simple w i = ok.held.simple w i

  -- the names of children are of words
  name_words : (o : Option Equation) (c : ℕ) → slice_get S.equations c ≡ o → IsWordName (name_of_equation o)
  name_words None c q = record { avoids = λ w i. absurd i; requires = λ w i. absurd i }
  name_words (Some e) c q = ok.words c e q

  names_words : (cs : List ℕ) → Each IsWordName (names_at S cs)
  names_words cs m i = let r = In_map (λ c. name_of_equation (slice_get S.equations c)) cs m i in subst IsWordName (sym r.2) (name_words (slice_get S.equations r.0) r.0 refl)

  module _ (u : ℕ) (e : Equation) (q : IsEquation S u e) where
    own : IsWordName e.name
    own = ok.words u e q

    -- the name is one over the basis
    over : IsNameOver basis e.name
    over = named_over basis required e.name ok.basis_words own (not_misnamed (first_name basis required) e.name u (ok.faultless u e q).name)

    -- a word that means it is of the class
    in_class : (w : List ℕ) → Means e.name w → InClass basis w
    in_class w m = record { word = m.word; avoids = λ b i c. let a = over.covers b i in m.meets.avoids a.0 a.1 (contains_trans w b a.0 c a.2) }

    -- a node is one of as many children as its root is long
    node_form : (root cs : List ℕ) → In (Node root cs) e.terms → IsNodeOf (length S.equations) root cs
    node_form root cs i = ok.form.terms e (Node root cs) (get_In S.equations u e q) i

    node_listed : (root cs : List ℕ) → In (Node root cs) e.terms → In root (roots_for e.name.sign simples)
    node_listed root cs i =
        let p = or_parts (not (list_any (same root) (roots_for e.name.sign simples))) (not (are_signed (first_sign root) (names_at S cs))) ((ok.faultless u e q).nodes root cs i) in
        listed_by_test e.name.sign simples root (not-false (list_any (same root) (roots_for e.name.sign simples)) p.0)

    node_signed : (root cs : List ℕ) → In (Node root cs) e.terms → are_signed (first_sign root) (names_at S cs) ≡ true
    node_signed root cs i =
        let p = or_parts (not (list_any (same root) (roots_for e.name.sign simples))) (not (are_signed (first_sign root) (names_at S cs))) ((ok.faultless u e q).nodes root cs i) in
        not-false (are_signed (first_sign root) (names_at S cs)) p.1

    -- the names of the terms with a root
    sized : (root : List ℕ) → Each (λ ns. length ns ≡ length root) (names_of_root S root e.terms)
    sized root ns i =
        let r = In_names S root e.terms ns i in
        ap length r.2 ∙ length-map r.0 (λ c. name_of_equation (slice_get S.equations c)) ∙ (node_form root r.0 r.1).count

    all_words : (root : List ℕ) → Each (λ ns. Each IsWordName ns) (names_of_root S root e.terms)
    all_words root ns i = let r = In_names S root e.terms ns i in subst (Each IsWordName) (sym r.2) (names_words r.0)

    module _ (root : List ℕ) (listed : In root (roots_for e.name.sign simples)) (w : IsWord root) (αs : List (List ℕ)) (b : AreBlocks root αs) where
      leaf : (l : Leaf Box) × IsLeafOf root e.name (names_of_root S root e.terms) w own (sized root) (all_words root) αs b l
      leaf = some_leaf root e.name (names_of_root S root e.terms) w own (sized root) (all_words root) αs b

      flawless : leaf_flaw limit simples root leaf.0 ≡ None
      flawless = (ok.faultless u e q).cells root listed leaf.0 leaf.1.listed

      fair : IsFair leaf.0.ending
      fair = fair_of limit simples root leaf.0.ending leaf.0.cell flawless

      node_meets : (cs : List ℕ) → In (Node root cs) e.terms → MeanAt S cs αs → Meets e.name.avoid e.name.require (inflate root αs)
      node_meets cs i m = term_sound root e.name (names_of_root S root e.terms) w own (sized root) (all_words root) αs b leaf.0 leaf.1 fair (names_at S cs) (names_In S root cs e.terms i) (mean_covers S cs αs m)

      nodes_apart : Apart (MeansBy S root αs) e.terms
      nodes_apart = terms_means_apart S root αs e.terms (terms_apart root e.name (names_of_root S root e.terms) w own (sized root) (all_words root) αs b leaf.0 leaf.1 fair)

      -- a bare leaf holds no blocks of a word of the class
      not_bare : IsRoot root (block αs 0) → InClass basis (inflate root αs) → leaf.0.ending ≡ bare → ⊥
      not_bare r p x =
          let fine = leaf_fine root e.name (names_of_root S root e.terms) w own (sized root) (all_words root) leaf.0 leaf.1.listed in
          let dead = bare_dead limit simples (child_names (first_sign root) leaf.0.cell) (subst (λ y. ending_flaw limit simples root y leaf.0.cell ≡ None) x flawless) in
          let n = b.count in
          let c = fine.count in
          let k = cell_blocks (first_sign root) leaf.0.cell αs (c ∙ sym n)
          (λ i h. (fine.fit i (omega arith), record { word = record { numbers = b.words i (omega arith); filled = b.filled i (omega arith) }; meets = leaf.1.lies i (omega arith) }))
          (first_signed root (block αs 0) r) dead.0 dead.1 in
          let d : Decomposes (inflate root αs) root αs = record { blocks = b; value = refl; root = r } in
          dead_none limit basis simples dead.0 (block αs k.child) k.over ok.held dead.2 (block_in_class basis (inflate root αs) root αs p d k.child k.within) k.means

      node_complete : IsRoot root (block αs 0) → InClass basis (inflate root αs) → Meets e.name.avoid e.name.require (inflate root αs) → (cs : List ℕ) × In (Node root cs) e.terms × MeanAt S cs αs
      node_complete r p m = elim (term_complete root e.name (names_of_root S root e.terms) w own (sized root) (all_words root) αs b leaf.0 leaf.1 fair m) [
        | inl s ↦
            let t = In_names S root e.terms s.0 s.1 in
            let f = node_form root t.0 t.1 in
            let n = b.count in (
              t.0,
              t.1,
              covers_means S (first_sign root) t.0 αs (n ∙ sym f.count)
                  (λ j h. record { numbers = b.words j (omega arith); filled = b.filled j (omega arith) })
                  f.numbers (subst (Covers αs 0) t.2 s.2) (node_signed root t.0 t.1) (first_signed root (block αs 0) r),
            )
        | inr x ↦ absurd (not_bare r p x)
      ]

    -- blocks that mean the names of a node make a word of its root
    node_decomposes : (root cs : List ℕ) → In (Node root cs) e.terms → 2 ≤ length cs → (αs : List (List ℕ)) → MeanAt S cs αs → Decomposes (inflate root αs) root αs
    node_decomposes root cs i two αs m = record {
      blocks = mean_at_blocks S root cs αs (node_form root cs i).count m;
      value = refl;
      root = (listed_is simples e.name.sign root simple (node_listed root cs i)).fits (block αs 0) (mean_first S (first_sign root) cs αs (omega arith) m (node_signed root cs i));
    }

    -- a word of the shape of a term means the name
    term_means : (x : Term) (w : List ℕ) → In x e.terms → HasTermShape S w x → Means e.name w
    term_means Point w i f =
        let h : has_point e.name ≡ true = due_some (has_point e.name) (let c = (ok.faultless u e q).points in omega (arith, point_counts e.terms Point i tt)) in
        subst (Means e.name) (sym f) (point_sound basis e.name point over (listed h))
      where
        listed : has_point e.name ≡ true → In point (point_drafts e.name)
        listed h = subst (λ b. In point (cond b (point ∷ []) [])) (sym h) (inl refl)
    term_means (Node root cs) w i f =
        let αs : List (List ℕ) = f.0 in
        let d : Decomposes w root αs = f.1 in
        let wr = root_is_word root (block αs 0) d.root in
        let meets = node_meets root (node_listed root cs i) wr αs d.blocks cs i f.2 in
        let s = (root_splits e.name root (block αs 0) own.avoids own.requires d.root).exact αs d.blocks in
        let box = s.0 meets in
        (equation_law e.name w root αs own.avoids own.requires d).1
        ((listed_is simples e.name.sign root simple (node_listed root cs i)).serves, (get_or (boxes root e.name.avoid e.name.require) box.0 [], In_at (boxes root e.name.avoid e.name.require) box.0 [] box.1, box.2))

    -- no word has the shape of two terms
    term_once : (s t : ℕ) (x y : Term) (w : List ℕ) → slice_get e.terms s ≡ Some x → slice_get e.terms t ≡ Some y → HasTermShape S w x → HasTermShape S w y → s ≡ t
    term_once s t Point Point w a b f g =
        apart_same IsPoint e.terms s t Point Point (points_apart e.terms (let c = (ok.faultless u e q).points in omega (arith, due_most (has_point e.name)))) a b tt tt
    term_once s t Point (Node root cs) w a b f g = absurd (one_not w root g.0 f g.1)
    term_once s t (Node root cs) Point w a b f g = absurd (one_not w root f.0 g f.1)
    term_once s t (Node root cs) (Node root' cs') w a b f g =
        let i = get_In e.terms s (Node root cs) a in
        let wr = root_is_word root (block f.0 0) f.1.root in
        let same = one_decomposition w root root' f.0 g.0 (decomposed_word w root f.0 f.1).numbers f.1 g.1 in
        apart_same (MeansBy S root f.0) e.terms s t (Node root cs) (Node root' cs') (nodes_apart root (node_listed root cs i) wr f.0 f.1.blocks) a b
        (refl, f.2) (sym same.0, subst (MeanAt S cs') (sym same.1) g.2)

    -- a word that means the name has the shape of a term
    term_found : (w : List ℕ) → Means e.name w → (t : ℕ) × (x : Term) × (slice_get e.terms t ≡ Some x) × HasTermShape S w x
    term_found w m = elim (cases_eq (length w) 1) [
      | inl one ↦
          let f = word_of_one w m.word one in
          let h = point_listed e.name point (point_complete basis e.name w over m f) in
          let c = (ok.faultless u e q).points in
          let g : points_due e.name ≡ 1 = ap (λ b. cond {A = ℕ} b 1 0) h in
          let r = In_get e.terms Point (some_point e.terms (omega arith)) in
          (r.0, Point, r.1, f)
      | inr ne ↦
          let s = some_decomposition w m.word.numbers (omega (arith, m.word.filled, ne)) in
          let root : List ℕ = s.0 in
          let αs : List (List ℕ) = s.1 in
          let d : Decomposes w root αs = s.2 in
          let wr = root_is_word root (block αs 0) d.root in
          let serves = ((equation_law e.name w root αs own.avoids own.requires d).0 m).0 in
          let k = in_class w m in
          let listed = serves_listed simples e.name.sign root (block αs 0) d.root serves (λ p. ok.held.all root p (class_down basis w root k wr (subst (λ v. Contains v root) d.value (root_contained root αs wr.numbers d.blocks)))) in
          let n = node_complete root listed wr αs d.blocks d.root (subst (InClass basis) (sym d.value) k) (subst (Meets e.name.avoid e.name.require) (sym d.value) m.meets) in
          let r = In_get e.terms (Node root n.0) n.1 in
          (r.0, Node root n.0, r.1, (αs, d, n.2))
    ]

  -- so all equations have the right terms
  pub checked_right : AreSoundTerms S
  checked_right = record {
    two = branches;
    decomposes = λ u t root cs f αs m. let r = term_equation S u t (Node root cs) f in node_decomposes u r.0 r.1 root cs (get_In r.0.terms t (Node root cs) r.2) (branches u t root cs f) αs m;
    sound = λ u t x w f g. let r = term_equation S u t x f in means_at S u r.0 w r.1 (term_means u r.0 r.1 x w (get_In r.0.terms t x r.2) g);
    apart = λ u s t x y w f g h k.
        let r = term_equation S u s x f in
        term_once u r.0 r.1 s t x y w r.2 (ap (λ (o : Option Equation). slice_get (terms_of o) t) (sym r.1) ∙ g) h k;
  }
    where
      branches : (u t : ℕ) (root cs : List ℕ) → IsTermAt S u t (Node root cs) → 2 ≤ length cs
      branches u t root cs f = subst Branches f (nodes_branch S ok.form u t)

  -- and serve each word
  pub checked_whole : AreWholeTerms S
  checked_whole u w m = by u w (slice_get S.equations u) refl m
    where
      by : (u : ℕ) (w : List ℕ) (o : Option Equation) → slice_get S.equations u ≡ o → MeansOf o w → (t : ℕ) × (x : Term) × IsTermAt S u t x × HasTermShape S w x
      by u w None q m = absurd m
      by u w (Some e) q m = let r = term_found u e q w m in (r.0, r.1, equation_term S u r.0 e q ∙ r.2, r.3)
