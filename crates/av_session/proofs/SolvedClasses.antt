-- What is known of a class, by its gap and by what has grown within the limit of sizes.
use Rattle.std.proofs.Common.{◌≡◌, ℕ, ◌<◌, ◌≤◌, List, [], Option, Some, None, unwrap_or, Bool, true, false, nat_lt, refl, ap, subst, if◌then◌else◌}
use Rattle.std.proofs.lemmas.Bool.{ltb-true, ltb-false, lt-ltb, le-ltb}
use Rattle.av_perm.specs.Gap.{gap, IsSettled, IsUnsettled}
use Rattle.av_build.specs.Canonical.{grown_size, as_system}
use Rattle.av_session.specs.declared.options.Options.{Options}
use Rattle.av_session.specs.declared.subject.Subject.{Subject}
use Rattle.av_session.specs.declared.subject.United.{United}
use Rattle.av_session.specs.Classes.{Class, in_format}
use Rattle.av_session.specs.declared.solving.Solved.TheVariants.{TooLarge, Settled}
use Rattle.av_session.specs.declared.status.Status.TheVariants as status
use Rattle.av_session.specs.Solved.{subject_of, grown_to, sized, solved_by, solved, status_of}

module _ (o : Options) (united : Option United) (basis : List (List ℕ)) (require : Option (List (List ℕ))) (format : ℕ) where
  abbrev asked : Subject
  asked = subject_of united basis require o.max_simple

  abbrev size : ℕ → ℕ
  size g = grown_size (grown_to basis (unwrap_or require []) g o.max_size)

  -- a settled class, with the gap and the system that it has
  pub record IsSettledAs (class : Class) : Type 0 where
    pub subject : class.subject ≡ subject_of united basis require o.max_simple
    pub settled : IsSettled basis o.max_simple class.gap
    pub within : grown_size (grown_to basis (unwrap_or require []) class.gap o.max_size) ≤ o.max_size
    pub chosen : class.format ≡ format
    pub system : class.system ≡ in_format format (as_system (grown_to basis (unwrap_or require []) class.gap o.max_size))

  settled_by : (class : Class) (g : Option ℕ) → gap basis o.max_simple ≡ g → solved_by asked o.max_size format g ≡ Settled class → IsSettledAs class
  settled_by class None e f = absurd (cc)
  settled_by class (Some g) e f = by (nat_lt o.max_size (size g)) refl f
    where
      here : Class
      here = record { subject = asked; gap = g; format = format; system = in_format format (as_system (grown_to basis (unwrap_or require []) g o.max_size)) }

      by : (b : Bool) → nat_lt o.max_size (size g) ≡ b → (if b then TooLarge asked g else Settled here) ≡ Settled class → IsSettledAs class
      by true h f = absurd (cc)
      by false h f = let same : here ≡ class = cc in subst IsSettledAs same (record { subject = refl; settled = e; within = ltb-false o.max_size (size g) h; chosen = refl; system = refl })

  pub settled_as : (class : Class) → solved o united basis require format ≡ Settled class → IsSettledAs class
  unfolding solved
  settled_as class e = settled_by class (gap basis o.max_simple) refl e

  -- each of the three, from what makes it
  of_gap : (g : ℕ) → IsSettled basis o.max_simple g → solved o united basis require format ≡ sized asked g o.max_size format (grown_to basis (unwrap_or require []) g o.max_size)
  unfolding solved
  of_gap g e = ap (solved_by asked o.max_size format) e

  pub done_to : (g : ℕ) → IsSettled basis o.max_simple g → size g ≤ o.max_size → status_of (solved o united basis require format) ≡ status.Done
  done_to g e h = rw (of_gap g e) (rw (le-ltb o.max_size (size g) h) refl)

  pub too_large_to : (g : ℕ) → IsSettled basis o.max_simple g → o.max_size < size g → status_of (solved o united basis require format) ≡ status.TooLarge
  too_large_to g e h = rw (of_gap g e) (rw (lt-ltb o.max_size (size g) h) refl)

  pub unsettled_to : IsUnsettled basis o.max_simple → status_of (solved o united basis require format) ≡ status.Unsettled
  unfolding solved
  unsettled_to e = ap (λ g. status_of (solved_by asked o.max_size format g)) e

  -- and what makes each of the three
  pub data Case : Type 0 where
    has_no_gap : IsUnsettled basis o.max_simple → Case
    is_above : (g : ℕ) → IsSettled basis o.max_simple g → o.max_size < size g → Case
    is_within : (g : ℕ) → IsSettled basis o.max_simple g → size g ≤ o.max_size → Case

  pub case_of : Case
  case_of = by (gap basis o.max_simple) refl
    where
      by_size : (g : ℕ) (b : Bool) → gap basis o.max_simple ≡ Some g → nat_lt o.max_size (size g) ≡ b → Case
      by_size g true e h = is_above g e (ltb-true o.max_size (size g) h)
      by_size g false e h = is_within g e (ltb-false o.max_size (size g) h)

      by : (g : Option ℕ) → gap basis o.max_simple ≡ g → Case
      by None e = has_no_gap e
      by (Some g) e = by_size g (nat_lt o.max_size (size g)) e refl

  pub done_from : status_of (solved o united basis require format) ≡ status.Done → (g : ℕ) × IsSettled basis o.max_simple g × (size g ≤ o.max_size)
  done_from e = elim case_of [
    | has_no_gap u ↦ absurd (let f = unsettled_to u in cc)
    | is_above g s h ↦ absurd (let f = too_large_to g s h in cc)
    | is_within g s h ↦ (g, s, h)
  ]

  pub too_large_from : status_of (solved o united basis require format) ≡ status.TooLarge → (g : ℕ) × IsSettled basis o.max_simple g × (o.max_size < size g)
  too_large_from e = elim case_of [
    | has_no_gap u ↦ absurd (let f = unsettled_to u in cc)
    | is_above g s h ↦ (g, s, h)
    | is_within g s h ↦ absurd (let f = done_to g s h in cc)
  ]

  pub unsettled_from : status_of (solved o united basis require format) ≡ status.Unsettled → IsUnsettled basis o.max_simple
  unsettled_from e = elim case_of [
    | has_no_gap u ↦ u
    | is_above g s h ↦ absurd (let f = too_large_to g s h in cc)
    | is_within g s h ↦ absurd (let f = done_to g s h in cc)
  ]
