-- The signs of the names of a term's children, by their numbers.
use Rattle.std.proofs.Common.{◌≡◌, ℕ, ◌-◌, ◌≤◌, List, [], ◌∷◌, length, get_or, slice_get, take, drop, Bool, true, ◌&&◌, sym, ap, ◌∙◌, subst, arith}
use Rattle.std.specs.List.{list_all}
use Rattle.std.proofs.lemmas.List.{take_all}
use Rattle.std.proofs.lemmas.List.Folds.{list_all-map}
use Rattle.av_sys.specs.declared.names.Sign.{Sign}
use Rattle.av_sys.specs.declared.names.Sign.TheVariants.{C}
use Rattle.av_sys.specs.declared.names.Name.{Name}
use Rattle.av_sys.specs.declared.terms.System.{System}
use Rattle.av_sys.specs.contracts.names.SignPartialEq.TheImpl as signs
use Rattle.av_build.specs.Canonical.{same_sign}
use Rattle.av_build.proofs.NameTests.{sign_test}
use Rattle.av_walk.specs.Leaves.{name_of_equation, names_at}
use Rattle.av_check.specs.Verdicts.{are_signed}

-- the sign of a child's name
abbrev pub sign_of : System → ℕ → Sign
sign_of S c = (name_of_equation (slice_get S.equations c)).sign

-- where the first child's sign is right, all are where the others have the sign C
pub signed_by : (S : System) (first s : Sign) (cs : List ℕ) (b : Bool) → 1 ≤ length cs → s ≡ sign_of S (get_or cs 0 0) → (signs.eq-value).it s first ≡ true
    → b ≡ list_all (λ child. same_sign (sign_of S child) C) (take (length cs - 1) (drop 1 cs)) → b ≡ are_signed first (names_at S cs)
signed_by S first s [] b h e f p = absurd (omega arith)
signed_by S first s (c ∷ cs) b h e f p =
    let right : same_sign (sign_of S c) first ≡ true = sym (sign_test (sign_of S c) first) ∙ subst (λ t. (signs.eq-value).it t first ≡ true) e f in
    let all : take (length (c ∷ cs) - 1) (drop 1 (c ∷ cs)) ≡ cs = take_all (length (c ∷ cs) - 1) cs (omega arith) in
    p ∙ ap (list_all (λ child. same_sign (sign_of S child) C)) all
    ∙ sym (list_all-map (λ (name : Name). same_sign name.sign C) (λ child. name_of_equation (slice_get S.equations child)) cs)
    ∙ ap (λ x. x && list_all (λ (name : Name). same_sign name.sign C) (names_at S cs)) (sym right)
