-- What is known of the demands in a cell is true of the blocks that lie there.
use Rattle.std.proofs.Common.{◌≡◌, ℕ, ◌↔◌, List, [], length, get_or, replicate, sym, subst}
use Rattle.std.proofs.lemmas.List.{get_or-replicate}
use Rattle.av_perm.specs.Relations.{IsWord, AreBlocks, block, inflate}
use Rattle.av_perm.proofs.Membership.{Each, In_at, at_In}
use Rattle.av_perm.proofs.MinimalWords.{words_each}
use Rattle.av_sys.specs.declared.names.Constraint.{Constraint}
use Rattle.av_sys.specs.Names.{Meets}
use Rattle.av_name.specs.declared.constraints.Known.TheVariants.{Inside, Outside}
use Rattle.av_name.specs.Constraints.{free}
use Rattle.av_name.proofs.KnownPatterns.{inside_says, outside_says, free_meets}
use Rattle.av_split.specs.Split.{demands_known, questions_of}
use Rattle.av_split.specs.Boxes.{Box, child_of, word_rules, demands, boxes}
use Rattle.av_split.specs.Laws.{LiesIn}
use Rattle.av_split.proofs.KnownFacts.{Says, Met, demands_say}
use Rattle.av_split.proofs.OpenQuestions.{next_finds}
use Rattle.av_split.proofs.GenericSplit.{boxes_cover}
use Rattle.av_split.proofs.WordRules.{Fine, Apt, Lies, Holds, word_law, word_meant}
use Rattle.av_split.proofs.WordDemands.{demands_apt}
use Rattle.av_split.proofs.WordSplit.{start_fine, split_law}
use Rattle.av_split.specs.Advice.{AdviceLaw}

module _ (π : List ℕ) (A R : List (List ℕ)) (w : IsWord π) (ga : Each IsWord A) (gr : Each IsWord R) (b : Box) (αs : List (List ℕ)) (are : AreBlocks π αs) (lies : LiesIn π αs b) where
  -- what the box says of a question is true
  says : Each (Says (word_rules.known b) (Holds αs)) (questions_of (demands π A R))
  says q i =
      let a = demands_apt π A R ga gr q i in
      record {
        inside = λ e. inside_says (child_of b q.child) q.word (block αs q.child) (are.filled q.child a.child) (lies q.child a.child) e;
        outside = λ e h. outside_says (child_of b q.child) q.word (block αs q.child) (lies q.child a.child) e h;
      }

  -- so what it says of all demands is
  all_say : Says (demands_known (word_rules.known b)) (Each (Met (Holds αs))) (demands π A R)
  all_say = demands_say (word_rules.known b) (Holds αs) (demands π A R) says

  -- the demands are met where the inflation meets the name
  met_is : Each (Met (Holds αs)) (demands π A R) ↔ Meets A R (inflate π αs)
  met_is =
      let s = split_law π A R w (λ i h. ga (get_or A i []) (In_at A i [] h)) (λ i h. gr (get_or R i []) (In_at R i [] h)) in
      let start : Lies (length π) αs (replicate (length π) free) = λ i h. subst (λ (d : Constraint). Meets d.avoid d.require (block αs i)) (sym (get_or-replicate (length π) i free free h)) (free_meets (block αs i)) in
      let c = boxes_cover word_rules (Fine (length π)) (Apt (length π)) (word_law (length π)) (demands π A R) (demands_apt π A R ga gr) (Lies (length π) αs) (Holds αs) (word_meant (length π) αs are.filled) (replicate (length π) free) (start_fine (length π)) start in (
        λ m. let r = c.0 m in let p = at_In (boxes π A R) r.0 [] r.1 in (s.exact αs are).1 (p.0, p.1, subst (Lies (length π) αs) (sym p.2) r.2),
        λ m. let r = (s.exact αs are).0 m in c.1 (get_or (boxes π A R) r.0 [], In_at (boxes π A R) r.0 [] r.1, r.2),
      )

  pub done_meets : demands_known (word_rules.known b) (demands π A R) ≡ Inside → Meets A R (inflate π αs)
  done_meets e = met_is.0 (all_say.inside e)

  pub broken_meets : demands_known (word_rules.known b) (demands π A R) ≡ Outside → Meets A R (inflate π αs) → ⊥
  broken_meets e m = all_say.outside e (met_is.1 m)

-- the law
pub advice_law : AdviceLaw
advice_law π A R b w ga gr = record {
  broken = λ e αs are lies. broken_meets π A R w (words_each A ga) (words_each R gr) b αs are lies e;
  done = λ e αs are lies. done_meets π A R w (words_each A ga) (words_each R gr) b αs are lies e;
  asks = λ e.
      let n = next_finds (word_rules.known b) (demands π A R) e in
      let a = demands_apt π A R (words_each A ga) (words_each R gr) n.0 n.2.1 in
      (n.0, n.1, n.2.0, a.child, a.word);
}
