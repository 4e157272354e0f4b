-- The names of the children of a bare leaf: their canonical systems can be grown.
use Rattle.std.proofs.Common.{◌≡◌, ℕ, suc, ◌<◌, ◌≤◌, ◌⊎◌, inl, inr, true, false, not, ◌||◌, List, [], ◌∷◌, map, length, replicate, refl, sym, ap, ◌∙◌, subst, arith}
use Rattle.std.specs.List.{list_any}
use Rattle.std.specs.Cmp.Lexicographic.{pointwise}
use Rattle.std.proofs.lemmas.Bool.{cases_Bool, or_parts}
use Rattle.av_perm.specs.declared.limits.TheConstants.{MAX_PATTERN_LENGTH}
use Rattle.av_perm.specs.Members.{In}
use Rattle.av_perm.specs.Lists.{same}
use Rattle.av_perm.specs.Contain.{contains}
use Rattle.av_perm.specs.Class.{minimal, top}
use Rattle.av_perm.specs.Relations.{IsWord, pattern_of}
use Rattle.av_perm.proofs.Membership.{Each, In_joined, In_append_cases, each_all, all_each}
use Rattle.av_perm.proofs.Containment.{contains_trans}
use Rattle.av_perm.proofs.Occurrences.{contains_from}
use Rattle.av_perm.proofs.Patterns.{length_pattern}
use Rattle.av_perm.proofs.Tests.{any_from, any_to}
use Rattle.av_embed.specs.Embed.{fibre}
use Rattle.av_sys.specs.declared.names.Sign.{Sign}
use Rattle.av_sys.specs.declared.names.Name.{Name}
use Rattle.av_name.specs.Constraints.{free}
use Rattle.av_split.specs.Split.{questions_of}
use Rattle.av_split.specs.Boxes.{Question, Box, child_of, word_rules, ask, questions, demands}
use Rattle.av_split.proofs.WordDemands.{In_ask, demands_each, demands_apt}
use Rattle.av_split.proofs.WordSplit.{done_child_avoids, start_fine}
use Rattle.av_split.proofs.BoxWords.{FineWith, AptWith, words_law, start_words, fibre_short}
use Rattle.av_build.specs.Drafts.{child_names}
use Rattle.av_build.specs.Canonical.{is_void}
use Rattle.av_build.specs.Laws.{Covers}
use Rattle.av_build.proofs.NamesOver.{child_name_In}
use Rattle.av_walk.specs.Walk.{Literal, bare, Leaf}
use Rattle.av_walk.specs.Leaves.{literals, leaves}
use Rattle.av_walk.proofs.GenericWalk.{questions_with}
use Rattle.av_check.specs.Verdicts.{leaves_class, is_wrong_name}
use Rattle.av_check.specs.Laws.{IsWordName}
use Rattle.av_check.specs.Checks.{AreShort, IsShortName}
use Rattle.av_check.specs.Outcomes.{IsGrowable}
use Rattle.av_check.proofs.CellTreatments.{IsFair}
use Rattle.av_check.proofs.GenericWalk.{walk_leaf}
use Rattle.av_check.proofs.NameLiterals.{child_each, literals_apt}
use Rattle.av_check.proofs.RootLeaves.{all_questions, settled}
use Rattle.av_check.proofs.RightNames.{not_misnamed}
use Rattle.av_check.proofs.TidyNames.{top_same}

-- the avoided words of a name that doesn't leave the class cover those of the claim's name
covered_class : (first n : Name) → leaves_class first n ≡ false → Covers first.avoid n.avoid
covered_class first n e b i = elim (cases_Bool (list_any (contains b) n.avoid)) [
  | inl h ↦ let a = any_from (contains b) n.avoid h in (a.0, a.1, contains_from b a.0 a.2)
  | inr h ↦ absurd (let t : true ≡ false = sym (any_to (λ b. not (list_any (contains b) n.avoid)) first.avoid b i (ap not h)) ∙ e in cc)
]

-- so where its equation may have the name
pub covered_right : (first : Name) (u : ℕ) (n : Name) → is_wrong_name first u n ≡ false → Covers first.avoid n.avoid
covered_right first u n e =
    let p = or_parts (not (pointwise same (minimal n.avoid) n.avoid)) (not (pointwise same (top n.require) n.require) || (is_void n || leaves_class first n)) (not_misnamed first n u e) in
    let q = or_parts (not (pointwise same (top n.require) n.require)) (is_void n || leaves_class first n) p.1 in
    covered_class first n (or_parts (is_void n) (leaves_class first n) q.1).1

-- a word of at most so many entries as a pattern may have
abbrev Short : List ℕ → Type 0
Short w = length w ≤ MAX_PATTERN_LENGTH

module _ (π : List ℕ) (n : Name) (nss : List (List Name)) (w : IsWord π) (own : IsWordName n) (sized : Each (λ ns. length ns ≡ length π) nss) (words : Each (λ ns. Each IsWordName ns) nss)
    (short : IsShortName n) (shorts : Each (λ ns. Each IsShortName ns) nss) where
  -- the questions of the name have short words
  own_short : Each (AptWith Short (length π)) (questions_of (demands π n.avoid n.require))
  own_short q i = record {
    apt = demands_apt π n.avoid n.require own.avoids own.requires q i;
    word = demands_each (λ (x : Question). Short x.word) π n.avoid n.require asked q i;
  }
    where
      word_short : (γ : List ℕ) → In γ n.avoid ⊎ In γ n.require → Short γ
      word_short γ (inl j) = all_each Short n.avoid short.avoid γ j
      word_short γ (inr j) = all_each Short n.require short.require γ j

      asked : (γ e : List ℕ) → In γ n.avoid ⊎ In γ n.require → Each (λ (q : Question). Short q.word) (questions π γ e)
      asked γ e o q j =
          let r = In_joined (λ k. ask k (fibre γ e (suc k))) (length π) q j in
          let a = In_ask r.0 (fibre γ e (suc r.0)) q r.2 in
          let l : Short (pattern_of (fibre γ e (suc r.0))) = omega (arith, length_pattern (fibre γ e (suc r.0)), fibre_short γ e (suc r.0), word_short γ o) in
          subst Short (sym (ap (λ (x : Question). x.word) a.0)) l

  -- and so have those of the terms
  literals_short : (i : ℕ) (ns : List Name) → Each IsShortName ns → Each (λ (l : Literal Question). Short l.question.word) (literals i ns)
  literals_short i [] h l j = absurd j
  literals_short i (m ∷ ns) h l j = elim (In_append_cases _ (literals (suc i) ns) l j) [
    | inl k ↦
        let s = h m (inl refl) in
        child_each (λ (l : Literal Question). Short l.question.word) i m (λ v g. all_each Short m.avoid s.avoid v g) (λ v g. all_each Short m.require s.require v g) l k
    | inr k ↦ literals_short (suc i) ns (λ x p. h x (inr p)) l k
  ]

  all_short : Each (AptWith Short (length π)) (questions_with (demands π n.avoid n.require) (map (literals 0) nss))
  all_short = all_questions (AptWith Short (length π)) (demands π n.avoid n.require) nss own_short (λ ns j l k. record {
    apt = literals_apt (length π) 0 ns (let e = sized ns j in omega arith) (words ns j) l k;
    word = literals_short 0 ns (shorts ns j) l k;
  })

  -- so have the constraints of each leaf
  leaf_short : (l : Leaf Box) → In l (leaves π n nss) → FineWith Short (length π) l.cell
  leaf_short l i =
      (walk_leaf word_rules (FineWith Short (length π)) (AptWith Short (length π)) (words_law Short (length π))
      (demands π n.avoid n.require) (map (literals 0) nss) all_short (replicate (length π) free)
      (record { fine = start_fine (length π); words = start_words Short (length π) }) l i).fine

  -- the canonical system of the name of each child of a bare leaf can be grown over a basis that the name covers
  pub bare_growable : (basis : List (List ℕ)) (first : Sign) (l : Leaf Box) → Covers basis n.avoid → In l (leaves π n nss) → l.ending ≡ bare → Each (IsGrowable basis) (child_names first l.cell)
  bare_growable basis first l covers i e m im =
      let f = leaf_short l i in
      let r = child_name_In first l.cell m im in
      let here : r.0 < length π = omega (arith, r.1, f.fine.count) in
      let fit = f.fine.fit r.0 here in
      let tidy = f.fine.tidy r.0 here in
      let words_short = f.words r.0 here in
      let done = (settled π n nss w own sized words l i (subst IsFair (sym e) tt)).done e in
      record {
        avoid = subst AreShort (sym r.2) (each_all Short (child_of l.cell r.0).avoid words_short.avoid);
        require = subst AreShort (sym r.3) (each_all Short (child_of l.cell r.0).require words_short.require);
        top = subst (λ ws. top ws ≡ ws) (sym r.3) (top_same (child_of l.cell r.0).require fit.long tidy.maximal);
        covers = λ b j.
            let a = covers b j in
            let o = done_child_avoids π n.avoid n.require a.0 l.cell r.0 own.avoids a.1 done here in
            (o.0, subst (In o.0) (sym r.2) o.1, contains_trans b a.0 o.0 a.2 o.2);
      }
