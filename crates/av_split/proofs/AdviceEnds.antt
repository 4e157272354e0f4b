-- The demands of a name, all gone through.
use Rattle.std.proofs.Common.{◌≡◌, ◌≤◌, ℕ, List, [], ◌++◌, map, length, true, false, Option, Some, None, refl, sym, ◌∙◌, subst, arith}
use Rattle.std.proofs.lemmas.List.{append-nil}
use Rattle.av_perm.specs.Relations.{IsWord}
use Rattle.av_perm.specs.declared.limits.TheConstants.{MAX_ROOT_LENGTH}
use Rattle.av_perm.proofs.Membership.{Each}
use Rattle.av_name.specs.declared.constraints.Known.TheVariants.{Inside, Outside}
use Rattle.av_split.specs.Split.{both, demands_known, next_question}
use Rattle.av_split.specs.Boxes.{Question, Box, word_rules, demand, demands}
use Rattle.av_split.proofs.OpenQuestions.{next_finds}
use Rattle.av_split.proofs.WordRules.{Apt}
use Rattle.av_split.proofs.WordDemands.{demands_apt}
use Rattle.av_split.specs.declared.advising.Asked.{Asked}
use Rattle.av_split.specs.Cells.{known_so, or_else}
use Rattle.av_split.specs.Gathering.{question_asked, word_question, Told, Gathers, IsBroken, MayAsk}
use Rattle.av_split.proofs.AdviceWalks.{told_start}

module _ (b : Box) (π : List ℕ) (A R : List (List ℕ)) where
  -- the avoided words gone through
  half : (mid : Option Question) → Gathers b None (map (demand π false) A) mid [] → Told b mid (demands π A R) (map (demand π true) R ++ [])
  half mid h = subst (Told b mid (demands π A R)) (sym (append-nil (map (demand π true) R)))
      (h (demands π A R) (map (demand π true) R) (told_start b (demands π A R)))

  -- a broken required one
  pub second_broken : (mid : Option Question) → Gathers b None (map (demand π false) A) mid [] → IsBroken b mid (map (demand π true) R) → demands_known (word_rules.known b) (demands π A R) ≡ Outside
  second_broken mid h k = k (demands π A R) [] (half mid h)

  -- all gone through
  whole : (mid new : Option Question) → Gathers b None (map (demand π false) A) mid [] → Gathers b mid (map (demand π true) R) new [] → Told b new (demands π A R) []
  whole mid new h k = k (demands π A R) [] (half mid h)

  both_nothing : (o : Option Question) → both (known_so o) Inside ≡ known_so o
  both_nothing None = refl
  both_nothing (Some q) = refl

  or_nothing : (o : Option Question) → or_else o None ≡ o
  or_nothing None = refl
  or_nothing (Some q) = refl

  pub all_known : (mid new : Option Question) → Gathers b None (map (demand π false) A) mid [] → Gathers b mid (map (demand π true) R) new [] → demands_known (word_rules.known b) (demands π A R) ≡ known_so new
  all_known mid new h k = (whole mid new h k).known ∙ both_nothing new

  pub all_next : (mid new : Option Question) → Gathers b None (map (demand π false) A) mid [] → Gathers b mid (map (demand π true) R) new [] → next_question (word_rules.known b) (demands π A R) ≡ new
  all_next mid new h k = (whole mid new h k).first ∙ or_nothing new

  -- the question is one of the root's children
  pub may_ask : Each IsWord A → Each IsWord R → length π ≤ MAX_ROOT_LENGTH → (mid : Option Question) (new : Option Asked) → Gathers b None (map (demand π false) A) mid [] → Gathers b mid (map (demand π true) R) (question_asked new) [] → MayAsk new
  may_ask ga gr l mid None h k = tt
  may_ask ga gr l mid (Some a) h k =
      let n = next_finds (word_rules.known b) (demands π A R) (all_known mid (Some (word_question a.child a.word)) h k) in
      let s : n.0 ≡ word_question a.child a.word = some_question n.0 (word_question a.child a.word) (sym n.1 ∙ all_next mid (Some (word_question a.child a.word)) h k) in
      let c = (subst (Apt (length π)) s (demands_apt π A R ga gr n.0 n.2.1)).child in
      omega (arith, c, l)
    where
      some_question : (x y : Question) → Some x ≡ Some y → x ≡ y
      some_question x y e = cc
