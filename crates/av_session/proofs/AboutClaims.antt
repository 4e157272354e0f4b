-- What a claim is about, and what the answer to it says.
use Rattle.std.proofs.Common.{◌≡◌, ℕ, suc, ◌≤◌, ◌↔◌, List, length, codes, Option, Some, None, refl, ap, ◌∙◌, arith}
use Rattle.av_perm.specs.Members.{In, IsListOf}
use Rattle.av_perm.specs.Word.{shortlex}
use Rattle.av_perm.specs.WordOrder.{shortlex_total}
use Rattle.av_perm.proofs.Ascending.{ascending_same}
use Rattle.av_perm.specs.Class.{minimal, top}
use Rattle.av_perm.specs.Gap.{simples_below, IsSettled, IsUnsettled}
use Rattle.av_perm.specs.Relations.{IsWord, Contains, InClass, InClassWith, AreWords, IsSimple}
use Rattle.av_perm.specs.Laws.{IsGap, IsLeastGap}
use Rattle.av_perm.proofs.Membership.{Each}
use Rattle.av_perm.proofs.MinimalWords.{minimal_list}
use Rattle.av_perm.proofs.TopWords.{top_list, contains_top}
use Rattle.av_perm.proofs.Classes.{minimal_holds}
use Rattle.av_perm.proofs.Gaps.{below_list, below_ascending}
use Rattle.av_simple.specs.Searched.{gap_of}
use Rattle.av_build.proofs.ExactAlways.{gap_holds}
use Rattle.av_print.specs.Text.{◌⊹◌}
use Rattle.av_print.proofs.UniqueReading.{IsWritable}
use Rattle.av_check.specs.declared.claim.Claim.{Claim}
use Rattle.av_check.specs.declared.verdict.Verdict.{Verdict}
use Rattle.av_check.specs.declared.verdict.Verdict.TheVariants as verdicts
use Rattle.av_check.specs.Claims.{IsClaim}
use Rattle.av_check.specs.Verdicts.{required_of, verdict}
use Rattle.av_check.specs.Laws.{ChecksClaim}
use Rattle.av_check.proofs.ClassChecks.{check_law}
use Rattle.av_check.proofs.TakenClaims.{claim_of_words}
use Rattle.av_session.specs.declared.options.Options.{Options}
use Rattle.av_session.specs.declared.subject.Subject.{Subject}
use Rattle.av_session.specs.declared.status.Status.TheVariants as status
use Rattle.av_session.specs.Options.{IsAllowed}
use Rattle.av_session.specs.Due.{settled_header, unsettled_text}
use Rattle.av_session.specs.Checked.{claim_subject, verdict_text, checked_text, claim_text_by, claim_text, claim_status_by, claim_status}
use Rattle.av_session.specs.Checks.{IsAboutClaim}
use Rattle.av_session.proofs.Abouts.{simple_same, settled_same, unsettled_same}
use Rattle.av_session.proofs.CheckEnds.{yes_from, not_unsettled}

-- the minimal words of the basis make the same class
same_basis : (claim : Claim) → AreWords claim.basis → (σ : List ℕ) → InClass (minimal claim.basis) σ ↔ InClass claim.basis σ
same_basis claim words = (minimal_holds claim.basis).same_class words

-- and with the maximal required ones the same class with required words
class_same : (claim : Claim) → AreWords claim.basis → AreWords (required_of claim) → (σ : List ℕ)
    → InClassWith (minimal claim.basis) (top (required_of claim)) σ ↔ InClassWith claim.basis (required_of claim) σ
class_same claim words wanted σ =
    let same = same_basis claim words σ in
    let tops : IsWord σ → Each (Contains σ) (top (required_of claim)) ↔ Each (Contains σ) (required_of claim) =
    λ w. contains_top (required_of claim) σ wanted w in (
      λ c. record { member = same.0 c.member; contains = (tops c.member.word).0 c.contains },
      λ c. record { member = same.1 c.member; contains = (tops c.member.word).1 c.contains },
    )

-- the gap that is searched is the least one
least_gap : (claim : Claim) → AreWords claim.basis → (limit g : ℕ) → IsSettled (minimal claim.basis) limit g ↔ IsLeastGap claim.basis limit g
least_gap claim words = settled_same (minimal claim.basis) claim.basis (same_basis claim words)

no_gap : (claim : Claim) → AreWords claim.basis → (limit : ℕ) → IsUnsettled (minimal claim.basis) limit ↔ ((g : ℕ) → IsGap claim.basis g → suc g ≤ limit → ⊥)
no_gap claim words = unsettled_same (minimal claim.basis) claim.basis (same_basis claim words)

module _ (o : Options) (claim : Claim) (words : AreWords claim.basis) where
  -- what is found is a gap, or that there is none
  found : Option ℕ
  found = gap_of (claim_subject o.max_simple claim).found

  pub settled_is : (g : ℕ) → IsLeastGap claim.basis o.max_simple g → claim_text o claim ≡ checked_text (claim_subject o.max_simple claim) g (verdict claim (simples_below claim.basis g))
  unfolding claim_text
  settled_is g p = ap (claim_text_by claim (claim_subject o.max_simple claim)) ((least_gap claim words o.max_simple g).1 p)

  pub unsettled_is : ((g : ℕ) → IsGap claim.basis g → suc g ≤ o.max_simple → ⊥) → claim_text o claim ≡ unsettled_text (claim_subject o.max_simple claim)
  unfolding claim_text
  unsettled_is none = ap (claim_text_by claim (claim_subject o.max_simple claim)) ((no_gap claim words o.max_simple).1 none)

  pub claim_settled : (claim_status o claim ≡ status.Done) ↔ ((g : ℕ) × IsLeastGap claim.basis o.max_simple g)
  unfolding found
  claim_settled = (λ d. to found refl d, λ p. ap claim_status_by ((least_gap claim words o.max_simple p.0).1 p.1))
    where
      to : (g : Option ℕ) → found ≡ g → claim_status_by g ≡ status.Done → (h : ℕ) × IsLeastGap claim.basis o.max_simple h
      to None e d = absurd (cc)
      to (Some g) e d = (g, (least_gap claim words o.max_simple g).0 e)

  pub claim_unsettled : (claim_status o claim ≡ status.Unsettled) ↔ ((g : ℕ) → IsGap claim.basis g → suc g ≤ o.max_simple → ⊥)
  unfolding found
  claim_unsettled = (λ d. to found refl d, λ none. ap claim_status_by ((no_gap claim words o.max_simple).1 none))
    where
      to : (g : Option ℕ) → found ≡ g → claim_status_by g ≡ status.Unsettled → (h : ℕ) → IsGap claim.basis h → suc h ≤ o.max_simple → ⊥
      to None e d = (no_gap claim words o.max_simple).0 e
      to (Some g) e d = absurd (cc)

  -- a text that ends in `check yes` is that of a yes
  pub yes_is : (before : List ℕ) → IsWritable o.max_simple → claim_text o claim ≡ before ⊹ codes "check yes\n" → (g : ℕ) × IsLeastGap claim.basis o.max_simple g × (verdict claim (simples_below claim.basis g) ≡ verdicts.Yes)
  unfolding claim_text found
  yes_is before small e = by found refl e
    where
      by : (g : Option ℕ) → found ≡ g → claim_text_by claim (claim_subject o.max_simple claim) g ≡ before ⊹ codes "check yes\n"
          → (h : ℕ) × IsLeastGap claim.basis o.max_simple h × (verdict claim (simples_below claim.basis h) ≡ verdicts.Yes)
      by None f e = absurd (not_unsettled (claim_subject o.max_simple claim) before small e)
      by (Some g) f e = (g, (least_gap claim words o.max_simple g).0 f, yes_from (claim_subject o.max_simple claim) g (verdict claim (simples_below claim.basis g)) before e)

-- the roots are all simple words of the class
all_roots : (basis : List (List ℕ)) (g : ℕ) → IsGap basis g → IsListOf (λ σ. IsSimple σ × InClass basis σ) (simples_below basis g)
all_roots basis g gap = record {
  members = λ σ. (
    λ i. let b = ((below_list basis g).members σ).0 i in (b.simple, b.member),
    λ p. (gap_holds basis g (length σ) gap).all σ p.0 p.1 (omega arith),
  );
  once = (below_list basis g).once;
}

-- those that avoid the minimal words of the basis are those that avoid the basis
below_among : (A B : List (List ℕ)) (g : ℕ) → ((σ : List ℕ) → InClass A σ → InClass B σ) → (w : List ℕ) → In w (simples_below A g) → In w (simples_below B g)
below_among A B g f w i = let b = ((below_list A g).members w).0 i in ((below_list B g).members w).1 (record { simple = b.simple; member = f w b.member; short = b.short })

pub same_roots : (basis : List (List ℕ)) (g : ℕ) → AreWords basis → simples_below (minimal basis) g ≡ simples_below basis g
same_roots basis g words =
    let same = (minimal_holds basis).same_class words in
    ascending_same shortlex shortlex_total (simples_below (minimal basis) g) (simples_below basis g) (below_ascending (minimal basis) g) (below_ascending basis g)
    (below_among (minimal basis) basis g (λ σ. (same σ).0)) (below_among basis (minimal basis) g (λ σ. (same σ).1))

-- the text of a verdict, line by line
checked_is : (subject : Subject) (g : ℕ) (v : Verdict) → checked_text subject g v ≡ settled_header subject g ⊹ codes "check " ⊹ verdict_text v ⊹ codes "\n"
unfolding checked_text
checked_is subject g v = refl

yes_line : (subject : Subject) (g : ℕ) → checked_text subject g verdicts.Yes ≡ settled_header subject g ⊹ codes "check yes\n"
unfolding checked_text verdict_text
yes_line subject g = refl

pub about_claim : (o : Options) (bytes : List ℕ) (claim : Claim) → IsAllowed o → IsClaim bytes claim → IsAboutClaim o claim
about_claim o bytes claim allowed is =
    let form = claim_of_words bytes claim is in
    let words = form.basis in
    let law : (g : ℕ) → IsLeastGap claim.basis o.max_simple g → ChecksClaim claim g = λ g p. check_law claim g form p.gap in
    record {
      words = words;
      required_words = form.required;
      form = form.form;
      minimal_words = minimal_list claim.basis;
      maximal_words = top_list (required_of claim);
      same_class = class_same claim words form.required;
      simple_words = simple_same (minimal claim.basis) claim.basis (same_basis claim words);
      settled = claim_settled o claim words;
      unsettled = claim_unsettled o claim words;
      unsettled_is = unsettled_is o claim words;
      settled_is = λ g p. settled_is o claim words g p ∙ checked_is (claim_subject o.max_simple claim) g (verdict claim (simples_below claim.basis g));
      roots = λ g p. all_roots claim.basis g p.gap;
      exact = λ before e. let y = yes_is o claim words before (omega (arith, allowed.high)) e in (law y.0 y.1).sound y.2;
      canonical = λ g S p c s.
          settled_is o claim words g p
          ∙ ap (checked_text (claim_subject o.max_simple claim) g) ((law g p).complete S c s)
          ∙ yes_line (claim_subject o.max_simple claim) g;
    }
