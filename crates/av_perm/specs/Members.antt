-- Elements of a list.
use Rattle.std.specs.Prelude.{◌≡◌, ◌⊎◌, ◌↔◌, List, [], ◌∷◌}
use Rattle.std.specs.declared.cmp.Ordering.{Ordering}
use Rattle.std.specs.declared.cmp.Ordering.TheVariants.{Less}

-- `a` is an element of the list
abbrev pub In : {A : Type 0} → A → List A → Type 0
In a [] = ⊥
In a (x ∷ xs) = (a ≡ x) ⊎ In a xs

-- no element comes twice
abbrev pub Once : {A : Type 0} → List A → Type 0
Once [] = Unit {0}
Once (x ∷ xs) = (In x xs → ⊥) × Once xs

-- the list holds exactly the things of which `P` is true, each once
pub record IsListOf {A : Type 0} (P : A → Type 0) (xs : List A) : Type 0 where
  pub members : (a : A) → In a xs ↔ P a
  pub once : Once xs

-- each element lies before each later one in the order
abbrev pub Ascending : {A : Type 0} → (A → A → Ordering) → List A → Type 0
Ascending order [] = Unit {0}
Ascending {A} order (x ∷ xs) = ((y : A) → In y xs → order x y ≡ Less) × Ascending order xs
