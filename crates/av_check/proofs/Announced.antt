-- The counts that a system is said to have, by their numerals.
use Rattle.std.proofs.Common.{◌≡◌, ℕ, ◌-◌, ◌≤◌, List, [], ◌∷◌, codes, decimal, sym, ◌∙◌, arith}
use Rattle.av_print.proofs.UniqueReading.{numeral_once}
use Rattle.av_check.specs.declared.limits.TheConstants.{MAX_CLAIM_SIZE}
use Rattle.av_check.specs.declared.reading.announced.Counts.{Counts}
use Rattle.av_check.specs.Reading.{AreCounts, numerals, counts_tokens}
use Rattle.av_check.proofs.ReadAs.{SameReadings}

-- a third numeral that is none of a number within the limit
pub no_terms : (version equations terms : List ℕ) (x : ℕ) → x ≤ MAX_CLAIM_SIZE → equations ≡ decimal x
    → ((n : ℕ) → (0 ≤ n) × (n ≤ MAX_CLAIM_SIZE - x) → terms ≡ decimal n → ⊥)
    → (k : Counts) → AreCounts k → version ∷ equations ∷ terms ∷ [] ≡ numerals k → ⊥
no_terms version equations terms x small is none k are e =
    let f : equations ≡ decimal k.equations = cc in
    let g : terms ≡ decimal k.terms = cc in
    let same = numeral_once x k.equations (omega arith) (omega (arith, are.few)) (sym is ∙ f) in
    none k.terms (omega arith, omega (arith, same, are.few)) g

-- the numerals among the tokens of the line
pub fixed_same : (first version third equations fifth terms : List ℕ) → first ≡ codes "system" → third ≡ codes "equations" → fifth ≡ codes "terms"
    → SameReadings AreCounts AreCounts numerals (version ∷ equations ∷ terms ∷ []) counts_tokens (first ∷ version ∷ third ∷ equations ∷ fifth ∷ terms ∷ [])
fixed_same first version third equations fifth terms f t g = record { to = λ k are e. (are, cc); from = λ k are e. (are, cc) }
