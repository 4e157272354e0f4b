-- Verdicts that are known.
use Rattle.std.specs.Prelude.{◌≡◌, refl, ℕ, List, [], ◌∷◌, Some, None}
use Rattle.av_perm.specs.Lists.{all_lists, choices}
use Rattle.av_perm.specs.Contain.{contains}
use Rattle.av_embed.specs.Embed.{embeddings}
use Rattle.av_name.specs.Constraints.{known_of}
use Rattle.av_sys.specs.declared.names.Sign.TheVariants.{C, P, M}
use Rattle.av_sys.specs.declared.terms.Term.{Term}
use Rattle.av_sys.specs.declared.terms.Term.TheVariants.{Point, Node}
use Rattle.av_sys.specs.declared.terms.System.{System}
use Rattle.av_sys.proofs.Worked.{avoiders_of_132}
use Rattle.av_build.specs.Drafts.{drafts}
use Rattle.av_build.specs.Canonical.{grow_from}
use Rattle.av_build.specs.Alive.{marks_within}
use Rattle.av_build.proofs.LeanWorked.{equation, plus, increasing, lean_increasing}
use Rattle.av_check.specs.declared.claim.Claim.{Claim}
use Rattle.av_check.specs.declared.verdict.Flaw.TheVariants.{Lost, Twice, Extra, Large}
use Rattle.av_check.specs.declared.verdict.Verdict.TheVariants as verdicts
use Rattle.av_check.specs.Verdicts.{verdict_up_to}

-- the claim of a system for the class that avoids 132
abbrev claim_of_132 : System → Claim
claim_of_132 S = record { basis = (1 ∷ 3 ∷ 2 ∷ []) ∷ []; require = None; system = S }

-- the system of the class is right
pub yes_for_132 : verdict_up_to 15 (claim_of_132 avoiders_of_132) [] ≡ verdicts.Yes
unfolding known_of embeddings all_lists choices contains drafts grow_from marks_within verdict_up_to
yes_for_132 = refl

-- a skew sum of words of two equations
abbrev minus : ℕ → ℕ → Term
minus first second = Node (2 ∷ 1 ∷ []) (first ∷ second ∷ [])

-- that system with other terms for equation 0
abbrev with_terms : List Term → System
with_terms terms = record {
  equations =
      equation C ((1 ∷ 3 ∷ 2 ∷ []) ∷ []) [] terms
      ∷ equation P ((1 ∷ 3 ∷ 2 ∷ []) ∷ []) [] (Point ∷ minus 3 0 ∷ [])
      ∷ equation C ((2 ∷ 1 ∷ []) ∷ []) [] (Point ∷ plus 4 2 ∷ [])
      ∷ equation M ((1 ∷ 3 ∷ 2 ∷ []) ∷ []) [] (Point ∷ plus 1 2 ∷ [])
      ∷ equation P ((2 ∷ 1 ∷ []) ∷ []) [] (Point ∷ [])
      ∷ [];
}

-- without the sums, which are words
pub sums_are_lost : verdict_up_to 15 (claim_of_132 (with_terms (Point ∷ minus 3 0 ∷ []))) [] ≡ verdicts.Cell 0 (1 ∷ 2 ∷ []) 0 Lost
unfolding known_of embeddings all_lists choices contains drafts grow_from marks_within verdict_up_to
sums_are_lost = refl

-- with the sums twice
pub sums_come_twice : verdict_up_to 15 (claim_of_132 (with_terms (Point ∷ plus 1 2 ∷ plus 1 2 ∷ minus 3 0 ∷ []))) [] ≡ verdicts.Cell 0 (1 ∷ 2 ∷ []) 0 Twice
unfolding known_of embeddings all_lists choices contains drafts grow_from marks_within verdict_up_to
sums_come_twice = refl

-- with a second block that may have a descent
pub sums_are_too_many : verdict_up_to 15 (claim_of_132 (with_terms (Point ∷ plus 1 0 ∷ minus 3 0 ∷ []))) [] ≡ verdicts.Cell 0 (1 ∷ 2 ∷ []) 1 Extra
unfolding known_of embeddings all_lists choices contains drafts grow_from marks_within verdict_up_to
sums_are_too_many = refl

-- without the point
pub point_is_lost : verdict_up_to 15 (claim_of_132 (with_terms (plus 1 2 ∷ minus 3 0 ∷ []))) [] ≡ verdicts.Point 0
unfolding known_of embeddings all_lists choices contains drafts grow_from marks_within verdict_up_to
point_is_lost = refl

-- with a first block that may be a sum
pub sign_is_wrong : verdict_up_to 15 (claim_of_132 (with_terms (Point ∷ plus 0 2 ∷ minus 3 0 ∷ []))) [] ≡ verdicts.Root 0 (1 ∷ 2 ∷ [])
unfolding known_of embeddings all_lists choices contains drafts grow_from marks_within verdict_up_to
sign_is_wrong = refl

-- for another class
pub name_is_wrong : verdict_up_to 15 (record { basis = (1 ∷ 2 ∷ 3 ∷ []) ∷ []; require = None; system = avoiders_of_132 }) [] ≡ verdicts.Name 0
unfolding known_of embeddings all_lists choices contains drafts grow_from marks_within verdict_up_to
name_is_wrong = refl

-- the claim of a system for the words that avoid 21 and contain 123
abbrev claim_of_increasing : System → Claim
claim_of_increasing S = record { basis = (2 ∷ 1 ∷ []) ∷ []; require = Some ((1 ∷ 2 ∷ 3 ∷ []) ∷ []); system = S }

-- the canonical system is right, and so is the lean one
pub yes_for_increasing : verdict_up_to 15 (claim_of_increasing increasing) [] ≡ verdicts.Yes
unfolding known_of embeddings all_lists choices contains drafts grow_from marks_within verdict_up_to
yes_for_increasing = refl

pub yes_for_lean_increasing : verdict_up_to 15 (claim_of_increasing lean_increasing) [] ≡ verdicts.Yes
unfolding known_of embeddings all_lists choices contains drafts grow_from marks_within verdict_up_to
yes_for_lean_increasing = refl

-- where the systems that are asked for are too large nothing is known of a term that was left out
pub large_for_lean_increasing : verdict_up_to 0 (claim_of_increasing lean_increasing) [] ≡ verdicts.Cell 0 (1 ∷ 2 ∷ []) 2 Large
unfolding known_of embeddings all_lists choices contains drafts grow_from marks_within verdict_up_to
large_for_lean_increasing = refl

-- where no word is in the class one equation without terms is right, and nothing else
abbrev claim_of_none : System → Claim
claim_of_none S = record { basis = (2 ∷ 1 ∷ []) ∷ []; require = Some ((3 ∷ 2 ∷ 1 ∷ []) ∷ []); system = S }

pub yes_for_none : verdict_up_to 1 (claim_of_none (record { equations = equation C ((2 ∷ 1 ∷ []) ∷ []) ((3 ∷ 2 ∷ 1 ∷ []) ∷ []) [] ∷ [] })) [] ≡ verdicts.Yes
unfolding contains choices verdict_up_to
yes_for_none = refl

pub no_for_none : verdict_up_to 1 (claim_of_none (record { equations = equation C ((2 ∷ 1 ∷ []) ∷ []) ((3 ∷ 2 ∷ 1 ∷ []) ∷ []) (Point ∷ []) ∷ [] })) [] ≡ verdicts.Name 0
unfolding contains choices verdict_up_to
no_for_none = refl
