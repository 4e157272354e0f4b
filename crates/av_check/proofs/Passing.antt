-- Lines that may be passed are passed in one way.
use Rattle.std.proofs.Common.{◌≡◌, ℕ, List, [], ◌∷◌, ◌++◌, refl, sym, subst}
use Rattle.av_check.specs.Claims.{IsOptional}
use Rattle.av_check.specs.Reading.{FirstIs, IsPassed}

-- at most one line of a kind, before lines of which the first is of another
pub optional_passed : (P : List ℕ → Type 0) (s u : List (List ℕ)) → IsOptional P s → (FirstIs P u → ⊥) → IsPassed P s u
optional_passed P [] u p none = none
optional_passed P (l ∷ []) u p none = p
optional_passed P (l ∷ m ∷ s) u p none = p

-- such a line is passed in one way
pub passed_once : (P : List ℕ → Type 0) (s t u v : List (List ℕ)) → IsPassed P s u → IsPassed P t v → s ++ u ≡ t ++ v → (s ≡ t) × (u ≡ v)
passed_once P [] [] u v p q e = (refl, e)
passed_once P [] (y ∷ []) u v p q e = absurd (p (subst (FirstIs P) (sym e) q))
passed_once P [] (y ∷ z ∷ t) u v p q e = absurd q
passed_once P (x ∷ []) [] u v p q e = absurd (q (subst (FirstIs P) e p))
passed_once P (x ∷ []) (y ∷ []) u v p q e = (cc, cc)
passed_once P (x ∷ []) (y ∷ z ∷ t) u v p q e = absurd q
passed_once P (x ∷ w ∷ s) t u v p q e = absurd p

-- the first line of some lines, if there is one, is that of others
abbrev pub Leads : List (List ℕ) → List (List ℕ) → Type 0
Leads [] left = Unit {0}
Leads (l ∷ ls) [] = ⊥
Leads (l ∷ ls) (m ∷ ms) = l ≡ m

pub leads_first : (P : List ℕ → Type 0) (x left : List (List ℕ)) → Leads x left → FirstIs P x → FirstIs P left
leads_first P [] left e f = absurd f
leads_first P (l ∷ ls) [] e f = e
leads_first P (l ∷ ls) (m ∷ ms) e f = subst P e f

pub leads_append : (s x left : List (List ℕ)) → Leads x left → Leads (s ++ x) (s ++ left)
leads_append [] x left e = e
leads_append (l ∷ s) x left e = refl

pub leads_passed : (P : List ℕ → Type 0) (s x left : List (List ℕ)) → Leads x left → IsPassed P s left → IsPassed P s x
leads_passed P [] x left e p = λ f. p (leads_first P x left e f)
leads_passed P (l ∷ []) x left e p = p
leads_passed P (l ∷ m ∷ s) x left e p = p

-- no line, and the first line alone
pub leads_one : (line : List ℕ) (others left : List (List ℕ)) (more : List (List ℕ)) → left ≡ line ∷ others → Leads (line ∷ more) left
leads_one line others left more e = subst (Leads (line ∷ more)) (sym e) refl
