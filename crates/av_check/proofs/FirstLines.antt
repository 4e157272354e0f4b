-- The first lines of claims are read in one way.
use Rattle.std.proofs.Common.{◌≡◌, ℕ, List, [], ◌∷◌, ◌++◌, Option, Some, None, codes, refl, sym, ap, subst, ◌∙◌, append_assoc, arith}
use Rattle.av_check.specs.Claims.{IsOptional, TellsWords, TellsRequired, AreFirstLines}
use Rattle.av_check.specs.Reading.{FirstIs, IsPassed, IsVersion, IsUnion, IsWithoutRequired}
use Rattle.av_check.proofs.LineKinds.{version_letter, union_letter, basis_letter, words_once}
use Rattle.av_check.proofs.Passing.{optional_passed, passed_once}

-- first lines before others, in order, with what is passed
pub record AreOrdered (ws : List (List ℕ)) (needed : Option (List (List ℕ))) (all left : List (List ℕ)) : Type 0 where
  pub version : List (List ℕ)
  pub union : List (List ℕ)
  pub basis : List ℕ
  pub require : List (List ℕ)
  pub in_order : all ≡ version ++ (union ++ (basis ∷ (require ++ left)))
  pub is_version : IsPassed IsVersion version (union ++ (basis ∷ (require ++ left)))
  pub is_union : IsPassed IsUnion union (basis ∷ (require ++ left))
  pub is_basis : TellsWords (codes "basis") ws basis
  pub is_require : TellsRequired needed require

-- four lists of lines before another
pub regroup : (x y z w : List (List ℕ)) → (x ++ (y ++ z)) ++ w ≡ x ++ (y ++ (z ++ w))
regroup x y z w = append_assoc x (y ++ z) w ∙ ap (λ (l : List (List ℕ)). x ++ l) (append_assoc y z w)

pub first_ordered : (ws : List (List ℕ)) (needed : Option (List (List ℕ))) (lines left : List (List ℕ)) → AreFirstLines ws needed lines → AreOrdered ws needed (lines ++ left) left
first_ordered ws needed lines left f = record {
  version = f.version;
  union = f.union;
  basis = f.basis;
  require = f.require;
  in_order = ap (λ (l : List (List ℕ)). l ++ left) f.in_order ∙ regroup f.version f.union (f.basis ∷ f.require) left;
  is_version = optional_passed IsVersion f.version _ f.is_version (no_version f.union f.is_union);
  is_union = optional_passed IsUnion f.union _ f.is_union (λ u. let a = union_letter f.basis u in let b = basis_letter ws f.basis f.is_basis in omega arith);
  is_basis = f.is_basis;
  is_require = f.is_require;
}
  where
    no_version : (union : List (List ℕ)) → IsOptional IsUnion union → FirstIs IsVersion (union ++ (f.basis ∷ (f.require ++ left))) → ⊥
    no_version [] u v = let a = version_letter f.basis v in let b = basis_letter ws f.basis f.is_basis in omega arith
    no_version (l ∷ []) u v = let a = version_letter l v in let b = union_letter l u in omega arith
    no_version (l ∷ m ∷ ls) u v = u

-- lines of which the first, after what is passed, is no basis line are the first lines of no claim
pub first_stop : (version union x : List (List ℕ)) → IsPassed IsVersion version (union ++ x) → IsPassed IsUnion union x
    → ((ws : List (List ℕ)) → FirstIs (TellsWords (codes "basis") ws) x → ⊥)
    → (ws : List (List ℕ)) (needed : Option (List (List ℕ))) (lines left : List (List ℕ)) → AreFirstLines ws needed lines → version ++ (union ++ x) ≡ lines ++ left → ⊥
first_stop version union x v u none ws needed lines left f e =
    let o = first_ordered ws needed lines left f in
    let a = passed_once IsVersion version o.version (union ++ x) _ v o.is_version (e ∙ o.in_order) in
    let b = passed_once IsUnion union o.union x _ u o.is_union a.1 in
    none ws (subst (FirstIs (TellsWords (codes "basis") ws)) (sym b.1) o.is_basis)

-- lines of required words are taken in one way
required_once : (r q : Option (List (List ℕ))) (s t u v : List (List ℕ)) → TellsRequired r s → TellsRequired q t → IsWithoutRequired r u → IsWithoutRequired q v
    → s ++ u ≡ t ++ v → (r ≡ q) × (u ≡ v)
required_once None None [] [] u v p o a b e = (refl, e)
required_once None None [] (y ∷ t) u v p o a b e = absurd o
required_once None None (x ∷ s) t u v p o a b e = absurd p
required_once None (Some vs) s [] u v p o a b e = absurd o
required_once None (Some vs) (x ∷ s) (y ∷ t) u v p o a b e = absurd p
required_once None (Some vs) [] (y ∷ []) u v p o a b e = absurd (a vs (subst (FirstIs (TellsWords (codes "require") vs)) (sym e) o))
required_once None (Some vs) [] (y ∷ z ∷ t) u v p o a b e = absurd o
required_once (Some ws) q [] t u v p o a b e = absurd p
required_once (Some ws) q (x ∷ z ∷ s) t u v p o a b e = absurd p
required_once (Some ws) None (x ∷ []) [] u v p o a b e = absurd (b ws (subst (FirstIs (TellsWords (codes "require") ws)) e p))
required_once (Some ws) None (x ∷ []) (y ∷ t) u v p o a b e = absurd o
required_once (Some ws) (Some vs) (x ∷ []) [] u v p o a b e = absurd o
required_once (Some ws) (Some vs) (x ∷ []) (y ∷ z ∷ t) u v p o a b e = absurd o
required_once (Some ws) (Some vs) (x ∷ []) (y ∷ []) u v p o a b e =
    let h : y ≡ x = cc in
    (ap Some (words_once (codes "require") x ws vs p (subst (TellsWords (codes "require") vs) h o)), cc)

-- first lines before others are read in one way
pub first_once : (b c : List (List ℕ)) (r q : Option (List (List ℕ))) (l m u v : List (List ℕ)) → AreFirstLines b r l → AreFirstLines c q m
    → IsWithoutRequired r u → IsWithoutRequired q v → l ++ u ≡ m ++ v → (b ≡ c) × (r ≡ q) × (u ≡ v)
first_once b c r q l m u v f g after also e =
    let o = first_ordered b r l u f in
    let p = first_ordered c q m v g in
    let x = passed_once IsVersion o.version p.version _ _ o.is_version p.is_version (sym o.in_order ∙ e ∙ p.in_order) in
    let y = passed_once IsUnion o.union p.union _ _ o.is_union p.is_union x.1 in
    let h : p.basis ≡ o.basis = head_same o.basis p.basis _ _ y.1 in
    let z = required_once r q o.require p.require u v o.is_require p.is_require after also (tail_same o.basis p.basis _ _ y.1) in
    (words_once (codes "basis") o.basis b c o.is_basis (subst (TellsWords (codes "basis") c) h p.is_basis), z.0, z.1)
  where
    head_same : (x y : List ℕ) (s t : List (List ℕ)) → x ∷ s ≡ y ∷ t → y ≡ x
    head_same x y s t e = cc

    tail_same : (x y : List ℕ) (s t : List (List ℕ)) → x ∷ s ≡ y ∷ t → s ≡ t
    tail_same x y s t e = cc
