-- The split at words.
use Rattle.std.proofs.Common.{◌≡◌, ℕ, suc, ◌<◌, inl, List, [], ◌∷◌, map, length, get_or, replicate, true, false, refl, sym, ap, ◌∙◌, subst, arith}
use Rattle.std.proofs.lemmas.List.{get_or-replicate, length-replicate}
use Rattle.av_perm.specs.Members.{In}
use Rattle.av_perm.specs.Relations.{Contains, IsWord, at, block, pattern_of}
use Rattle.av_perm.proofs.Membership.{Each, In_at, at_In, map_In, In_joined, append_left}
use Rattle.av_perm.proofs.MinimalWords.{words_each}
use Rattle.av_perm.proofs.Patterns.{word_pattern}
use Rattle.av_perm.proofs.Fibres.{fibre_hit, fibre_at}
use Rattle.av_embed.specs.Embed.{IsEmbedding, fibre, embeddings}
use Rattle.av_embed.proofs.EmbeddingList.{embedding_to}
use Rattle.av_sys.specs.declared.names.Constraint.{Constraint}
use Rattle.av_sys.specs.Names.{Meets}
use Rattle.av_name.specs.declared.constraints.Known.{Known}
use Rattle.av_name.specs.declared.constraints.Known.TheVariants.{Inside}
use Rattle.av_name.specs.Constraints.{free}
use Rattle.av_name.proofs.KnownPatterns.{outside_is, free_meets}
use Rattle.av_name.proofs.Growth.{IsFit}
use Rattle.av_split.specs.Split.{Demand, questions_of, all_of, some_of, demand_known, demands_known}
use Rattle.av_split.specs.Boxes.{Question, Box, child_of, word_rules, ask, questions, demand, demands, boxes}
use Rattle.av_split.specs.Laws.{IsTidy, Splits, SplitLaw}
use Rattle.av_split.proofs.KnownFacts.{each_inside, each_outside, one_outside, unflipped}
use Rattle.av_split.proofs.OpenQuestions.{open_count_length}
use Rattle.av_split.proofs.GenericSplit.{Apart_at, boxes_cover, boxes_apart, boxes_done, split_same, never_stuck}
use Rattle.av_split.proofs.WordRules.{Fine, Apt, word_law, Lies, Holds, word_meant}
use Rattle.av_split.proofs.WordDemands.{In_ask, demands_apt, met_meets}

-- all blocks lie in the first box
pub free_lies : (k : ℕ) (αs : List (List ℕ)) → Lies k αs (replicate k free)
free_lies k αs i h = subst (λ (d : Constraint). Meets d.avoid d.require (block αs i)) (sym (get_or-replicate k i free free h)) (free_meets (block αs i))

-- the free constraint is fit
pub free_fit : IsFit free
free_fit = record { avoid = λ w i. absurd i; require = λ w i. absurd i; long = λ w i. absurd i }

-- and tidy
pub free_tidy : IsTidy free
free_tidy = record { minimal = refl; maximal = refl; clean = λ r a i j k. absurd i }

-- the first box is fine
pub start_fine : (k : ℕ) → Fine k (replicate k free)
start_fine k = record {
  count = length-replicate k free;
  fit = λ i h. subst IsFit (sym (get_or-replicate k i free free h)) free_fit;
  tidy = λ i h. subst IsTidy (sym (get_or-replicate k i free free h)) free_tidy;
}

-- each box is fine
pub box_fine : (π : List ℕ) (A R : List (List ℕ)) (x : Box) → Each IsWord A → Each IsWord R → In x (boxes π A R) → Fine (length π) x
box_fine π A R x ga gr i = (boxes_done word_rules (Fine (length π)) (Apt (length π)) (word_law (length π)) (demands π A R) (demands_apt π A R ga gr) (replicate (length π) free) (start_fine (length π)) x i).1

-- the map that sends all places to one child
pub constant : (π γ : List ℕ) (i : ℕ) → i < length π → IsEmbedding π γ (replicate (length γ) (suc i))
constant π γ i h =
    let n = length-replicate (length γ) (suc i) in
    let is : (s : ℕ) → s < length (replicate (length γ) (suc i)) → at (replicate (length γ) (suc i)) s ≡ suc i = λ s k. get_or-replicate (length γ) s (suc i) 0 (omega arith) in
    record {
      count = n;
      children = λ s k. let e = is s k in (omega arith, omega arith);
      rising = λ s t k l. let e = is s (omega arith) in let f = is t l in omega arith;
      across = λ s t k l ne. absurd (ne (is s k ∙ sym (is t l)));
    }

-- its fibre is the whole
pub constant_fibre : (γ : List ℕ) (i : ℕ) → fibre γ (replicate (length γ) i) i ≡ γ
constant_fibre [] i = refl
constant_fibre (x ∷ γ) i = fibre_hit x γ i (replicate (length γ) i) i refl ∙ ap (λ l. x ∷ l) (constant_fibre γ i)

-- a list that is not empty has an element
pub nonempty_has : (l : List ℕ) → (l ≡ [] → ⊥) → (x : ℕ) × In x l
nonempty_has [] h = absurd (h refl)
nonempty_has (x ∷ l) h = (x, inl refl)

-- where all demands of a name are done in a cell, each avoided word of the name contains an avoided word of each child
pub done_child_avoids : (π : List ℕ) (A R : List (List ℕ)) (γ : List ℕ) (x : Box) (i : ℕ) → Each IsWord A → In γ A → demands_known (word_rules.known x) (demands π A R) ≡ Inside → i < length π
    → (a : List ℕ) × In a (child_of x i).avoid × Contains γ a
done_child_avoids π A R γ x i ga inA done hi =
    let f : Question → Known = word_rules.known x in
    let d = each_inside (demand_known f) (demands π A R) done (demand π false γ) (append_left (map (demand π false) A) (map (demand π true) R) (demand π false γ) (map_In (demand π false) A γ inA)) in
    let out = unflipped (some_of (all_of f) (map (questions π γ) (embeddings π γ))) d in
    let e : List ℕ = replicate (length γ) (suc i) in
    let m = each_outside (all_of f) (map (questions π γ) (embeddings π γ)) out (questions π γ e) (map_In (questions π γ) (embeddings π γ) e (embedding_to π γ e (constant π γ i hi))) in
    let q = one_outside f (questions π γ e) m in
    let j = In_joined (λ n. ask n (fibre γ e (suc n))) (length π) q.0 q.1 in
    let asked = In_ask j.0 (fibre γ e (suc j.0)) q.0 j.2 in
    let item = nonempty_has (fibre γ e (suc j.0)) asked.1 in
    let place = fibre_at γ e (suc j.0) item.0 0 item.1 in
    let here : suc j.0 ≡ suc i = sym place.3 ∙ get_or-replicate (length γ) place.0 (suc i) 0 place.1 in
    let word : pattern_of (fibre γ e (suc j.0)) ≡ γ = ap (λ n. pattern_of (fibre γ e n)) here ∙ ap pattern_of (constant_fibre γ (suc i)) ∙ word_pattern γ (ga γ inA).numbers in
    let child : q.0.child ≡ i = ap (λ (p : Question). p.child) asked.0 ∙ omega (arith, here) in
    let text : q.0.word ≡ γ = ap (λ (p : Question). p.word) asked.0 ∙ word in
    let o = ((outside_is (child_of x q.0.child) q.0.word).0 q.2).1 in
    (o.0, subst (λ n. In o.0 (child_of x n).avoid) child o.1, subst (λ v. Contains v o.0) text o.2)

-- so it does in each box of the name
pub child_avoids : (π : List ℕ) (A R : List (List ℕ)) (γ : List ℕ) (x : Box) (i : ℕ) → Each IsWord A → Each IsWord R → In γ A → In x (boxes π A R) → i < length π
    → (a : List ℕ) × In a (child_of x i).avoid × Contains γ a
child_avoids π A R γ x i ga gr inA hx hi =
    let k : ℕ = length π in
    let done = boxes_done word_rules (Fine k) (Apt k) (word_law k) (demands π A R) (demands_apt π A R ga gr) (replicate k free) (start_fine k) x hx in
    done_child_avoids π A R γ x i ga inA done.0 hi

-- the boxes of a root and a name
pub split_is : (π : List ℕ) (A R : List (List ℕ)) → IsWord π → Each IsWord A → Each IsWord R → Splits π A R
split_is π A R w ga gr = record {
  exact = λ αs b.
      let cover = boxes_cover word_rules (Fine k) (Apt k) (word_law k) ds apt (Lies k αs) (Holds αs) (word_meant k αs b.filled) start fine (free_lies k αs) in
      let met = met_meets π A R αs w b in (
        λ m.
            let s = cover.0 (met.1 m) in
            let p = at_In (boxes π A R) s.0 [] s.1 in
            (p.0, p.1, subst (Lies k αs) (sym p.2) s.2),
        λ s. met.0 (cover.1 (get_or (boxes π A R) s.0 [], In_at (boxes π A R) s.0 [] s.1, s.2)),
      );
  apart = λ αs b i j h l x y.
      Apart_at (Lies k αs) (boxes π A R) i j [] (boxes_apart word_rules (Fine k) (Apt k) (word_law k) ds apt (Lies k αs) (Holds αs) (word_meant k αs b.filled) start fine) h l x y;
  sized = λ b i. (box_fine π A R b ga gr i).count;
  tidy = λ b i. (box_fine π A R b ga gr i).tidy;
  kept = λ γ g b i j h. child_avoids π A R γ b j ga gr g i h;
  never_stuck = never_stuck word_rules (Fine k) (Apt k) (word_law k) ds apt (length (questions_of ds)) start fine (open_count_length (word_rules.known start) (questions_of ds));
  enough = λ d h.
      let l = open_count_length (word_rules.known start) (questions_of ds) in
      split_same word_rules (Fine k) (Apt k) (word_law k) ds apt (length (questions_of ds)) d start fine l (omega (arith, l));
}
  where
    k : ℕ
    k = length π

    ds : List (Demand Question)
    ds = demands π A R

    start : Box
    start = replicate (length π) free

    fine : Fine k start
    fine = start_fine (length π)

    apt : Each (Apt k) (questions_of ds)
    apt = demands_apt π A R ga gr

-- the law of the split
pub split_law : SplitLaw
split_law π A R w ga gr = split_is π A R w (words_each A ga) (words_each R gr)
