-- The canonical system of a name: where the roots hold all simple words of the class up to a length, each of its equations
-- generates up to that size what its own name describes.
use Rattle.std.proofs.Common.{◌≡◌, ℕ, ◌≤◌, inl, inr, List, [], ◌∷◌, length, slice_get, Option, Some, None, refl, sym, ◌∙◌, subst, arith}
use Rattle.av_perm.specs.Members.{Once}
use Rattle.av_perm.specs.Relations.{InClass, IsSimple, inflate}
use Rattle.av_perm.specs.Decompose.{Decomposes}
use Rattle.av_perm.proofs.Classes.{class_down}
use Rattle.av_perm.proofs.Containment.{contains_trans, contains_length}
use Rattle.av_perm.proofs.Membership.{Each}
use Rattle.av_sys.specs.declared.names.Name.{Name}
use Rattle.av_sys.specs.declared.terms.Term.{Term}
use Rattle.av_sys.specs.declared.terms.Term.TheVariants.{Point, Node}
use Rattle.av_sys.specs.declared.terms.Equation.{Equation}
use Rattle.av_sys.specs.declared.terms.System.{System}
use Rattle.av_sys.specs.Names.{Means}
use Rattle.av_sys.specs.Exact.{MeansOf, MeansAt, NamedUpTo}
use Rattle.av_build.specs.Drafts.{Draft, point, node, drafts}
use Rattle.av_build.specs.Canonical.{first_name}
use Rattle.av_build.specs.Laws.{IsNameOver, HoldsSimples, NamedFromLaw, NamedLaw}
use Rattle.av_build.proofs.RootedTerms.{DraftCases, draft_cases, root_draft_In}
use Rattle.av_build.proofs.NamesOver.{first_name_ok}
use Rattle.av_build.proofs.BareSystems.{void_none, bare_named, class_cases}
use Rattle.av_perm.proofs.Pointwise.{same_length, beside, before, flipped, chained}
use Rattle.av_perm.proofs.ListLaws.{get_In}
use Rattle.av_build.proofs.TermsStand.{Numbered, Stands}
use Rattle.av_build.proofs.Growing.{Canonical, canonical, NameAt}
use Rattle.av_build.proofs.DraftMeanings.{BlocksMean, HasShape, IsRootDraft, root_draft_is, names_count, draft_root, node_sound, point_sound, some_shape}
use Rattle.av_build.proofs.DraftsApart.{apart_same, drafts_apart}
use Rattle.av_sys.proofs.Subtrees.{IsEquation, equation_term}
use Rattle.av_build.proofs.TermShapes.{MeanAt, HasTermShape, IsTermAt, IsServed, AreSoundTerms, mean_at_blocks, at_means, means_at, term_equation, child_shorter}
use Rattle.av_build.proofs.TermLaws.{right_up_to}

-- words that mean the equations of numbers mean their names
blocks_mean : (S : System) (cs : List ℕ) (ns : List Name) (αs : List (List ℕ)) → Numbered (NameAt S) cs ns → MeanAt S cs αs → BlocksMean ns αs
blocks_mean S cs ns αs n = chained (λ n c. NameAt S c n) (MeansAt S) Means (λ n c α k m. subst (λ x. Means x α) k.2 (at_means S c k.0 α k.1 m)) ns cs αs (flipped (NameAt S) cs ns n)

-- and the other way round
mean_numbered : (S : System) (cs : List ℕ) (ns : List Name) (αs : List (List ℕ)) → Numbered (NameAt S) cs ns → BlocksMean ns αs → MeanAt S cs αs
mean_numbered S cs ns αs = chained (NameAt S) Means (MeansAt S) (λ c n α k m. means_at S c k.0 α k.1 (subst (λ x. Means x α) (sym k.2) m)) cs ns αs

-- a word of the shape of a term has that of its draft
term_fits : (S : System) (w : List ℕ) (x : Term) (y : Draft) → Stands (NameAt S) x y → HasTermShape S w x → HasShape w y
term_fits S w Point point s f = f
term_fits S w Point (node root ns) s f = absurd s
term_fits S w (Node root cs) point s f = absurd s
term_fits S w (Node root cs) (node root' ns) s f = (f.0, subst (λ r. Decomposes w r f.0) s.0 f.1, blocks_mean S cs ns f.0 s.1 f.2)

-- a word of the shape of a draft has that of its term
pub fits_term : (S : System) (w : List ℕ) (x : Term) (y : Draft) → Stands (NameAt S) x y → HasShape w y → HasTermShape S w x
fits_term S w Point point s f = f
fits_term S w Point (node root ns) s f = absurd s
fits_term S w (Node root cs) point s f = absurd s
fits_term S w (Node root cs) (node root' ns) s f = (f.0, subst (λ r. Decomposes w r f.0) (sym s.0) f.1, mean_numbered S cs ns f.0 s.1 f.2)

module _ (basis roots : List (List ℕ)) (name : Name) (S : System) (c : Canonical basis roots name S) (simple : Each IsSimple roots) where
  -- the draft of a term
  pub record HasDraft (u t : ℕ) (x : Term) : Type 0 where
    pub equation : Equation
    pub here : IsEquation S u equation
    pub draft : Draft
    pub at_draft : slice_get (drafts roots equation.name) t ≡ Some draft
    pub stands : Stands (NameAt S) x draft

  has_draft : (u t : ℕ) (x : Term) → IsTermAt S u t x → HasDraft u t x
  has_draft u t x f =
      let e = term_equation S u t x f in
      let d = beside (Stands (NameAt S)) e.0.terms (drafts roots e.0.name) t x (c.stands u e.0 e.1) e.2 in
      record { equation = e.0; here = e.1; draft = d.0; at_draft = d.1; stands = d.2 }

  -- the draft of a node
  pub record HasNode (u t : ℕ) (root cs : List ℕ) : Type 0 where
    pub equation : Equation
    pub here : IsEquation S u equation
    pub names : List Name
    pub draft : IsRootDraft roots equation.name root names
    pub numbered : Numbered (NameAt S) cs names
    pub count : length cs ≡ length root

  has_node : (u t : ℕ) (root cs : List ℕ) → IsTermAt S u t (Node root cs) → HasNode u t root cs
  has_node u t root cs f = let h = has_draft u t (Node root cs) f in by h.equation h.here h.draft h.at_draft h.stands
    where
      by : (e : Equation) → IsEquation S u e → (d : Draft) → slice_get (drafts roots e.name) t ≡ Some d → Stands (NameAt S) (Node root cs) d → HasNode u t root cs
      by e q point l s = absurd s
      by e q (node root' ns) l s =
          let r : IsRootDraft roots e.name root ns = subst (λ p. IsRootDraft roots e.name p ns) (sym s.0) (root_draft_is roots e.name root' ns simple (get_In (drafts roots e.name) t (node root' ns) l)) in
          record { equation = e; here = q; names = ns; draft = r; numbered = s.1; count = same_length (NameAt S) cs ns s.1 ∙ names_count basis e.name (c.over u e q) roots root ns r }

  node_decomposes : (u t : ℕ) (root cs : List ℕ) → IsTermAt S u t (Node root cs) → (αs : List (List ℕ)) → MeanAt S cs αs → Decomposes (inflate root αs) root αs
  node_decomposes u t root cs f αs m =
      let h = has_node u t root cs f in
      record {
        blocks = mean_at_blocks S root cs αs h.count m;
        value = refl;
        root = draft_root basis h.equation.name (c.over u h.equation h.here) roots root h.names αs h.draft (blocks_mean S cs h.names αs h.numbered m);
      }

  term_sound : (u t : ℕ) (x : Term) (w : List ℕ) → IsTermAt S u t x → HasTermShape S w x → MeansAt S u w
  term_sound u t Point w f g = let h = has_draft u t Point f in by h.equation h.here h.draft h.at_draft h.stands
    where
      meant : (e : Equation) → IsEquation S u e → DraftCases roots e.name point → Means e.name (1 ∷ [])
      meant e q (inl j) = point_sound basis e.name point (c.over u e q) j
      meant e q (inr r) = absurd (let z = (root_draft_In r.0.first e.name r.0.root point r.2).2 in cc)

      by : (e : Equation) → IsEquation S u e → (d : Draft) → slice_get (drafts roots e.name) t ≡ Some d → Stands (NameAt S) Point d → MeansAt S u w
      by e q point l s = means_at S u e w q (subst (Means e.name) (sym g) (meant e q (draft_cases roots e.name point (get_In (drafts roots e.name) t point l))))
      by e q (node root ns) l s = absurd s
  term_sound u t (Node root cs) w f g =
      let h = has_node u t root cs f in
      means_at S u h.equation w h.here (node_sound basis h.equation.name (c.over u h.equation h.here) roots root h.names w g.0 h.draft g.1 (blocks_mean S cs h.names g.0 h.numbered g.2))

  some_equation : (a b : Equation) → Some a ≡ Some b → a ≡ b
  some_equation a b e = cc

  term_apart : Once roots → (u s t : ℕ) (x y : Term) (w : List ℕ) → IsTermAt S u s x → IsTermAt S u t y → HasTermShape S w x → HasTermShape S w y → s ≡ t
  term_apart o u s t x y w f g p q =
      let a = has_draft u s x f in
      let b = has_draft u t y g in
      let z : b.equation ≡ a.equation = some_equation b.equation a.equation (sym b.here ∙ a.here) in
      let word = (at_means S u a.equation w a.here (term_sound u s x w f p)).word in
      apart_same (HasShape w) (drafts roots a.equation.name) s t a.draft b.draft (drafts_apart basis a.equation.name (c.over u a.equation a.here) w word roots simple o) a.at_draft
      (subst (λ (e : Equation). slice_get (drafts roots e.name) t ≡ Some b.draft) z b.at_draft) (term_fits S w x a.draft a.stands p) (term_fits S w y b.draft b.stands q)

  -- the terms are right
  pub name_right : Once roots → AreSoundTerms S
  name_right o = record {
    two = λ u t root cs f. let h = has_node u t root cs f in let l = h.draft.rooted.long in let k = h.count in omega arith;
    decomposes = node_decomposes;
    sound = term_sound;
    apart = term_apart o;
  }

  -- a word that means a name over the basis is of the class
  mean_class : (n : Name) (w : List ℕ) → IsNameOver basis n → Means n w → InClass basis w
  mean_class n w ok m = record { word = m.word; avoids = λ b i x. let a = ok.covers b i in m.meets.avoids a.0 a.1 (contains_trans w b a.0 x a.2) }

  -- the words of length at most m that mean a name have a term of their shape, where the roots hold the simple words up to m
  pub short_served : (m : ℕ) → HoldsSimples basis roots m → IsServed S (λ w. length w ≤ m)
  short_served m h = record {
    down = λ w root αs l d i k. let s = child_shorter w root αs d i k in omega arith;
    served = λ u w k l. by u w l (slice_get S.equations u) refl k;
  }
    where
      by : (u : ℕ) (w : List ℕ) → length w ≤ m → (o : Option Equation) → slice_get S.equations u ≡ o → MeansOf o w → (t : ℕ) × (x : Term) × IsTermAt S u t x × HasTermShape S w x
      by u w l None q k = absurd k
      by u w l (Some e) q k =
          let member = mean_class e.name w (c.over u e q) k in
          let r = some_shape basis roots e.name w (c.over u e q) k (λ π s x. h.all π s (class_down basis w π member (record { numbers = s.numbers; filled = omega (arith, s.long) }) x) (omega (arith, contains_length w π x))) in
          let t = before (Stands (NameAt S)) e.terms (drafts roots e.name) r.number r.draft (c.stands u e q) r.at_number in
          (r.number, t.0, equation_term S u r.number e q ∙ t.1, fits_term S w t.0 r.draft t.2 r.fits)

-- the law
pub named_from_law : NamedFromLaw
named_from_law basis roots name limit m S ok c h =
    let canon = canonical basis roots name limit S ok c in
    right_up_to S (name_right basis roots name S canon h.simple h.once) (λ w. length w ≤ m) (short_served basis roots name S canon h.simple m h) m (λ u w k l. l)

-- of a class with required words
pub named_law : NamedLaw
named_law basis required roots limit m S words wanted c h = elim (class_cases roots (first_name basis required) limit S c) [
  | inl v ↦ subst (λ (T : System). NamedUpTo T m) (sym v.1) (bare_named (first_name basis required) m (void_none (first_name basis required) v.0))
  | inr d ↦ named_from_law basis roots (first_name basis required) limit m S (first_name_ok basis required words wanted) d h
]
