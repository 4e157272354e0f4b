-- The output of a run is a claim, and a check of it says yes.
use Rattle.std.proofs.Common.{◌≡◌, ◌↔◌, ◌⊎◌, inl, inr, ℕ, zero, suc, ◌≤◌, List, [], length, Option, Some, None, unwrap_or, flat_map, refl, sym, ap, ◌∙◌, subst, arith}
use Rattle.std.specs.Option.{option_map}
use Rattle.av_perm.specs.declared.limits.TheConstants.{MAX_PATTERN_LENGTH}
use Rattle.av_perm.specs.Class.{minimal, top}
use Rattle.av_perm.specs.Gap.{simples_below, IsSettled}
use Rattle.av_perm.specs.Relations.{AreWords, InClass}
use Rattle.av_perm.specs.Laws.{IsLeastGap}
use Rattle.av_perm.proofs.Membership.{Each, all_each}
use Rattle.av_perm.proofs.MinimalWords.{words_each, minimal_words}
use Rattle.av_perm.proofs.TopWords.{top_words}
use Rattle.av_perm.proofs.Classes.{minimal_holds}
use Rattle.av_perm.proofs.Gaps.{gap_law}
use Rattle.av_sys.specs.declared.terms.System.{System}
use Rattle.av_sys.specs.Terms.{IsWellFormed}
use Rattle.av_simple.specs.Searched.{gap_of}
use Rattle.av_text.specs.declared.limits.TheConstants.{MAX_PATTERNS}
use Rattle.av_text.specs.declared.script.Script.{Script}
use Rattle.av_text.specs.Ranges.{KeepsLimits, required}
use Rattle.av_text.proofs.Kept.{read_kept}
use Rattle.av_build.specs.Canonical.{IsCanonical, system_size}
use Rattle.av_build.specs.declared.limits.TheConstants.{MAX_SIZE}
use Rattle.av_build.specs.Lean.{lean}
use Rattle.av_build.proofs.BareSystems.{size_law}
use Rattle.av_build.proofs.LeanForm.{lean_form_law}
use Rattle.av_build.proofs.CanonicalForm.{canonical_form_law}
use Rattle.av_print.specs.Text.{◌⊹◌}
use Rattle.av_check.specs.declared.claim.Claim.{Claim}
use Rattle.av_check.specs.declared.limits.TheConstants.{MAX_CLAIM_BYTES}
use Rattle.av_check.specs.Claims.{IsClaim, ArePatterns}
use Rattle.av_check.specs.ClaimLaws.{IsWithinLimits, text_of_claim}
use Rattle.av_check.specs.Verdicts.{words_or_none, required_of}
use Rattle.av_check.proofs.ClaimTexts.{claim_text_law}
use Rattle.av_session.specs.declared.options.Options.{Options}
use Rattle.av_session.specs.declared.subject.Subject.{Subject}
use Rattle.av_session.specs.Options.{IsAllowed}
use Rattle.av_session.specs.Classes.{Class}
use Rattle.av_session.specs.Solved.{basis_of}
use Rattle.av_session.specs.Answers.{answer_text}
use Rattle.av_session.specs.Runs.{due, HasSystem}
use Rattle.av_session.proofs.Systems.{basis_kept, tops_of, below_roots, writes_system}
use Rattle.av_session.proofs.Abouts.{settled_same, basis_are_words, required_are_words}
use Rattle.av_session.proofs.AllowedOptions.{options_allowed}
use Rattle.av_session.proofs.AboutClaims.{about_claim}
use Rattle.av_output.specs.Output.{claim_of, IsRight, OutputLaw}
use Rattle.av_output.proofs.HeaderTexts.{IsClaimText, header_is}
use Rattle.av_output.proofs.PatternNames.{AreNamed, in_each_format, names_in_format, patterns, top_few}

-- the required words of the claim are the maximal ones of the script
required_is : (script : Script) (class : Class) → required_of (claim_of script class) ≡ top (required script)
required_is script class = by script.require
  where
    by : (o : Option (List (List ℕ))) → words_or_none (option_map top o) ≡ top (unwrap_or o [])
    by None = refl
    by (Some ws) = refl

-- versions are 1 and 2
one_or_two : (n : ℕ) → 1 ≤ n → n ≤ 2 → (n ≡ 1) ⊎ (n ≡ 2)
one_or_two zero h k = absurd (omega arith)
one_or_two (suc zero) h k = inl refl
one_or_two (suc (suc n)) h k = inr (omega arith)

module _ (words : List (List ℕ)) (bytes : List ℕ) (o : Options) (script : Script) (class : Class) (kept : KeepsLimits script) (allowed : IsAllowed o)
    (has : HasSystem words bytes o script class) where
  are : AreWords (minimal (basis_of script))
  are = minimal_words (basis_of script) (basis_are_words script kept)

  tops : AreWords (top (required script))
  tops = top_words (required script) (required_are_words script kept)

  short : Each (λ w. length w ≤ MAX_PATTERN_LENGTH) (minimal (basis_of script))
  short = all_each (λ w. length w ≤ MAX_PATTERN_LENGTH) (minimal (basis_of script)) (basis_kept script kept).short

  short_tops : Each (λ w. length w ≤ MAX_PATTERN_LENGTH) (top (required script))
  short_tops = all_each (λ w. length w ≤ MAX_PATTERN_LENGTH) (top (required script)) (tops_of script kept).short

  same : (σ : List ℕ) → InClass (minimal (basis_of script)) σ ↔ InClass (basis_of script) σ
  same = (minimal_holds (basis_of script)).same_class (basis_are_words script kept)

  settled : IsSettled (minimal (basis_of script)) o.max_simple class.gap
  settled = (settled_same (minimal (basis_of script)) (basis_of script) same o.max_simple class.gap).1 has.gap

  least : IsLeastGap (minimal (basis_of script)) o.max_simple class.gap
  least = (gap_law.settled (minimal (basis_of script)) o.max_simple class.gap).0 settled

  form_whole : IsWellFormed has.whole
  form_whole = canonical_form_law (minimal (basis_of script)) (top (required script)) (simples_below (minimal (basis_of script)) class.gap) o.max_size has.whole are tops has.canonical
      (omega (arith, allowed.few)) (below_roots (minimal (basis_of script)) class.gap (omega (arith, least.within, allowed.high)))

  -- the system has names of patterns, and is no larger than the canonical one
  named : AreNamed class.system
  named = subst AreNamed (sym has.printed)
      (names_in_format (minimal (basis_of script)) (top (required script)) (simples_below (minimal (basis_of script)) class.gap) o.max_size script.format has.whole are tops short short_tops has.canonical)

  size : system_size has.whole ≤ MAX_SIZE
  size =
      let s = (size_law.class (minimal (basis_of script)) (top (required script)) (simples_below (minimal (basis_of script)) class.gap) o.max_size has.whole has.canonical).within in
      omega (arith, s, allowed.few)

  small : system_size class.system ≤ MAX_SIZE
  small = subst (λ S. system_size S ≤ MAX_SIZE) (sym has.printed)
      (in_each_format (λ S. system_size S ≤ MAX_SIZE) has.whole script.format size (omega (arith, size, (lean_form_law has.whole form_whole).small)))

  within : length (minimal (basis_of script)) ≤ MAX_PATTERNS → IsWithinLimits (claim_of script class)
  within few = record {
    few_words = few;
    few_required = subst (λ ws. length ws ≤ MAX_PATTERNS) (sym (required_is script class)) (omega (arith, top_few (required script), kept.required.few));
    basis_words = patterns (minimal (basis_of script)) (words_each (minimal (basis_of script)) are) short;
    words_required = subst ArePatterns (sym (required_is script class)) (patterns (top (required script)) (words_each (top (required script)) tops) short_tops);
    formed = has.form;
    named = named;
    small = omega (arith, small);
  }

  -- the text due is that of the claim and of the answers
  claim_by : Subject → Claim
  claim_by subject = record { basis = subject.found.basis; require = subject.require; system = class.system }

  written : IsClaimText class.format class.subject class.gap class.system
  written = header_is class.format class.subject class.gap class.system (subst (λ (s : Subject). gap_of s.found ≡ Some class.gap) (sym has.searched) settled) (omega (arith, least.gap.high))

  answers : List ℕ
  answers = flat_map (answer_text class) script.queries

  due_is : due words bytes ≡ text_of_claim class.format written.shown (claim_of script class) ⊹ answers
  unfolding claim_by answers
  due_is = has.text ∙ written.text answers ∙ ap (λ (s : Subject). text_of_claim class.format written.shown (claim_by s) ⊹ answers) has.searched

  output_claim : length (minimal (basis_of script)) ≤ MAX_PATTERNS → length (due words bytes) ≤ MAX_CLAIM_BYTES → IsClaim (due words bytes) (claim_of script class)
  output_claim few short_text = subst (λ bs. IsClaim bs (claim_of script class)) (sym due_is)
      (claim_text_law class.format written.shown (claim_of script class) answers
      (one_or_two class.format (omega (arith, has.format, kept.format.least)) (omega (arith, has.format, kept.format.most)))
      written.unbroken (within few) (subst (λ bs. length bs ≤ MAX_CLAIM_BYTES) due_is short_text))

  -- the claimed system is the canonical one or its lean system, whatever the limit of lengths is
  gap_to : (limit : ℕ) → o.max_simple ≤ limit → IsLeastGap (minimal (basis_of script)) limit class.gap
  gap_to limit h = record { gap = least.gap; within = omega (arith, least.within, h); least = least.least }

  canonical : IsCanonical (minimal (basis_of script)) (required_of (claim_of script class)) (simples_below (minimal (basis_of script)) class.gap) MAX_SIZE has.whole
  canonical = subst (λ ws. IsCanonical (minimal (basis_of script)) ws (simples_below (minimal (basis_of script)) class.gap) MAX_SIZE has.whole) (sym (required_is script class))
      (((size_law.class (minimal (basis_of script)) (top (required script)) (simples_below (minimal (basis_of script)) class.gap) o.max_size has.whole has.canonical).fits MAX_SIZE).1 size)

  one : (class.system ≡ has.whole) ⊎ (class.system ≡ lean has.whole)
  one = subst (λ (S : System). (S ≡ has.whole) ⊎ (S ≡ lean has.whole)) (sym has.printed)
      (in_each_format (λ (S : System). (S ≡ has.whole) ⊎ (S ≡ lean has.whole)) has.whole script.format (inl refl) (inr refl))

  right : length (minimal (basis_of script)) ≤ MAX_PATTERNS → length (due words bytes) ≤ MAX_CLAIM_BYTES → IsRight words bytes o script class
  right few short_text =
      let is = output_claim few short_text in
      record {
        is_claim = is;
        yes = λ p may h. (about_claim p (due words bytes) (claim_of script class) may is).canonical class.gap has.whole (gap_to p.max_simple h) canonical one;
      }

pub output_law : OutputLaw
output_law words bytes o script class accepted unchecked said is =
    right words bytes o script class (read_kept bytes script said) (options_allowed words o accepted) (writes_system words bytes o script class accepted unchecked said is)
