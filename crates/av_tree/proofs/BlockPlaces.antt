-- The places of the blocks of a word make the choices for its tree.
use Rattle.std.proofs.Common.{◌≡◌, ℕ, suc, ◌+◌, ◌-◌, ◌<◌, ◌≤◌, inl, inr, List, [], ◌∷◌, length, get_or, set, refl, sym, ap, ap₂, ◌∙◌, subst, arith, Option, Some}
use Rattle.std.specs.Option.{MatchOption}
use Rattle.std.proofs.lemmas.Option.{MatchOption-at_some}
use Rattle.std.proofs.lemmas.List.{get_or-set_same, get_or-set_other}
use Rattle.std.proofs.lemmas.Bool.{cases_eq}
use Rattle.av_perm.specs.Relations.{block, inflate}
use Rattle.av_perm.proofs.Inflations.{lengths, length_inflate}
use Rattle.av_decomp.proofs.Decompositions.{block_shorter}
use Rattle.av_sys.specs.declared.terms.Term.TheVariants.{Node}
use Rattle.av_sys.specs.declared.terms.System.{System}
use Rattle.av_sys.specs.Terms.{term_at}
use Rattle.av_count.specs.declared.count.Count.{Count}
use Rattle.av_sys.specs.TreeLists.{members_at, count_at}
use Rattle.av_tree.specs.declared.choosing.Pick.{Pick}
use Rattle.av_tree.specs.declared.placing.Found.{Found}
use Rattle.av_tree.specs.Founds.{Alike}
use Rattle.av_tree.specs.Picks.{Fitting, RankedAt, picked}
use Rattle.av_tree.specs.declared.tops.Top.{Top}
use Rattle.av_tree.specs.Tops.{AllMean, FitsTerm, IsInflationOf, IsTop, HasNoTop}
use Rattle.av_tree.proofs.PlacedPicks.{none}

-- of a block: its length, and the count of its place among the words of an equation
pub record FoundAt (S : System) (c : ℕ) (α : List ℕ) (f : Found) : Type 0 where
  pub sized : f.size ≡ length α
  pub ranked : RankedAt S c (length α) α f.rank

-- so of the first i blocks
abbrev pub FoundUpTo : System → List ℕ → List (List ℕ) → List Found → ℕ → Type 0
FoundUpTo S cs αs fs i = (j : ℕ) → j < i → FoundAt S (get_or cs j 0) (block αs j) (get_or fs j none)

-- one block more
pub found_more : (S : System) (cs : List ℕ) (αs : List (List ℕ)) (fs : List Found) (i : ℕ) (f : Found) → i < length fs → FoundUpTo S cs αs fs i → FoundAt S (get_or cs i 0) (block αs i) f
    → FoundUpTo S cs αs (set fs i f) (i + 1)
found_more S cs αs fs i f lt h here j l = elim (cases_eq j i) [
  | inl e ↦ subst (λ k. FoundAt S (get_or cs k 0) (block αs k) (get_or (set fs i f) k none)) (sym e) (subst (FoundAt S (get_or cs i 0) (block αs i)) (sym (get_or-set_same fs i f none lt)) here)
  | inr ne ↦ subst (FoundAt S (get_or cs j 0) (block αs j)) (sym (get_or-set_other fs i j f none ne)) (h j (omega (arith, ne)))
]

-- choices that make the blocks
pub record HasPicks (S : System) (cs : List ℕ) (αs : List (List ℕ)) (n : ℕ) (fs : List Found) : Type 0 where
  pub picks : List Pick
  pub fits : Fitting (count_at S) cs n picks
  pub alike : Alike fs picks
  pub same : picked (members_at S) cs picks ≡ αs

-- of all blocks
pub has_picks : (S : System) (cs : List ℕ) (αs : List (List ℕ)) (fs : List Found) → length αs ≡ length cs → length cs ≤ length fs → FoundUpTo S cs αs fs (length cs)
    → ((j : ℕ) → j < length cs → 1 ≤ length (block αs j)) → HasPicks S cs αs (lengths αs) fs
has_picks S [] [] fs e l f p = record { picks = []; fits = refl; alike = tt; same = refl }
has_picks S [] (α ∷ αs) fs e l f p = absurd (omega arith)
has_picks S (c ∷ cs) [] fs e l f p = absurd (omega arith)
has_picks S (c ∷ cs) (α ∷ αs) [] e l f p = absurd (omega arith)
has_picks S (c ∷ cs) (α ∷ αs) (x ∷ fs) e l f p =
    let h = f 0 (omega arith) in
    let r = has_picks S cs αs fs (omega arith) (omega arith) (λ j b. f (suc j) (omega arith)) (λ j b. p (suc j) (omega arith)) in
    let m : lengths αs ≡ length α + lengths αs - length α = omega arith in
    record {
      picks = record { size = length α; rank = h.ranked.place } ∷ r.picks;
      fits = (p 0 (omega arith), omega arith, h.ranked.within, subst (λ n. Fitting (count_at S) cs n r.picks) m r.fits);
      alike = (h.sized, h.ranked.is, r.alike);
      same = ap₂ (λ (a : List ℕ) (bs : List (List ℕ)). a ∷ bs) h.ranked.entry r.same;
    }

-- what a top says, where its term is a node
pub record NodeTop (S : System) (w root cs : List ℕ) (αs : List (List ℕ)) : Type 0 where
  pub inflation : IsInflationOf w root αs
  pub means : AllMean S cs αs

-- so of a top with such a term
node_top : (S : System) (u : ℕ) (w : List ℕ) (t : ℕ) (αs : List (List ℕ)) (root cs : List ℕ) → IsTop S u w t αs → term_at S u t ≡ Some (Node root cs) → NodeTop S w root cs αs
node_top S u w t αs root cs h e =
    let f : FitsTerm S h.root αs (Some (Node root cs)) = subst (FitsTerm S h.root αs) e h.here.fits in
    record { inflation = subst (λ r. IsInflationOf w r αs) (sym f.0) h.inflation; means = f.1 }

-- the top that was found
pub found_top : (S : System) (u : ℕ) (w : List ℕ) (o : Option Top) (x : Top) (αs : List (List ℕ)) (root cs : List ℕ) → MatchOption o (HasNoTop S u w) (λ top. IsTop S u w top.term top.blocks.items)
    → o ≡ Some x → αs ≡ x.blocks.items → term_at S u x.term ≡ Some (Node root cs) → NodeTop S w root cs αs
found_top S u w o x αs root cs m e f q =
    subst (NodeTop S w root cs) (sym f)
    (node_top S u w x.term x.blocks.items root cs (MatchOption-at_some (HasNoTop S u w) (λ (top : Top). IsTop S u w top.term top.blocks.items) x e m) q)

module _ {S : System} {w root cs : List ℕ} {αs : List (List ℕ)} (top : NodeTop S w root cs αs) (long : length root ≡ length cs) where
  -- it has as many blocks as the term has children
  pub top_count : length αs ≡ length cs
  top_count = top.inflation.blocks.count ∙ long

  -- together they are as long as the word
  top_lengths : lengths αs ≡ length w
  top_lengths = sym (length_inflate root αs top.inflation.blocks.count) ∙ ap (λ (v : List ℕ). length v) top.inflation.value

  -- so each is shorter
  pub top_shorter : (i : ℕ) → 2 ≤ length cs → i < length cs → length (block αs i) < length w
  top_shorter i two lt =
      let s = block_shorter αs i (omega (arith, top_count)) (λ j k. top.inflation.blocks.filled j (omega (arith, top_count, long))) in
      omega (arith, top_count, top_lengths)

  -- all blocks found, they make choices for the word's length
  pub top_picks : (fs : List Found) (i n : ℕ) → i ≡ length cs → length cs ≤ length fs → FoundUpTo S cs αs fs i → n ≡ length w
      → HasPicks S cs αs n fs
  top_picks fs i n e le f l =
      subst (λ k. HasPicks S cs αs k fs) (top_lengths ∙ sym l)
      (has_picks S cs αs fs top_count le (subst (FoundUpTo S cs αs fs) e f) (λ j k. top.inflation.blocks.filled j (omega (arith, long))))

  -- and the word is ranked as the one at these choices
  pub top_ranked : (u n : ℕ) {fs : List Found} (p : HasPicks S cs αs n fs) (count : Count) → n ≡ length w
      → RankedAt S u n (inflate root (picked (members_at S) cs p.picks)) count → RankedAt S u (length w) w count
  top_ranked u n p count l r =
      subst (λ k. RankedAt S u k w count) l (subst (λ v. RankedAt S u n v count) (ap (inflate root) p.same ∙ top.inflation.value) r)

-- what was found of a block
pub found_here : (S : System) (cs : List ℕ) (αs : List (List ℕ)) (i c : ℕ) (α : List ℕ) (f : Found) → get_or cs i 0 ≡ c → block αs i ≡ α → f.size ≡ length α → RankedAt S c (length α) α f.rank
    → FoundAt S (get_or cs i 0) (block αs i) f
found_here S cs αs i c α f e q s r =
    subst (λ β. FoundAt S (get_or cs i 0) β f) (sym q) (subst (λ d. FoundAt S d α f) (sym e) (let x : FoundAt S c α f = record { sized = s; ranked = r } in x))
