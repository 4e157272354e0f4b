-- The next line of a text, and those after it.
use Rattle.std.proofs.Common.{◌≡◌, ℕ, List, [], ◌∷◌, drop, sym, ap, subst, ◌∙◌}
use Rattle.av_check.specs.Reading.{FirstIs, Passes}

-- what is known of the next line
pub next_is : (P : List ℕ → Type 0) (ls : List (List ℕ)) (l : List ℕ) (rest : List (List ℕ)) → ls ≡ l ∷ rest → P l → FirstIs P ls
next_is P ls l rest e p = subst (FirstIs P) (sym e) p

pub none_next : (P : List ℕ → Type 0) (ls : List (List ℕ)) → ls ≡ [] → FirstIs P ls → ⊥
none_next P ls e f = subst (FirstIs P) e f

-- it is passed
pub passes_one : (P : List ℕ → Type 0) (old new : List (List ℕ)) → FirstIs P old → new ≡ drop 1 old → Passes P old new
passes_one P [] new f e = absurd f
passes_one P (l ∷ ls) new f e = record { passed = l ∷ []; cut = ap (λ (r : List (List ℕ)). l ∷ r) (sym e); is = f }
