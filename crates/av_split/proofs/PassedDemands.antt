-- What a cut tells of its cells, it tells of the demands: where these are settled by it, they are so in the box.
use Rattle.std.proofs.Common.{◌≡◌, inl, inr, List, [], ◌∷◌, Bool, refl, sym, ap, ap₂, ◌∙◌, arith}
use Rattle.av_perm.specs.Members.{In}
use Rattle.av_perm.proofs.Membership.{Each}
use Rattle.av_name.specs.declared.constraints.Known.{Known}
use Rattle.av_name.specs.declared.constraints.Known.TheVariants.{Inside, Outside, Open}
use Rattle.av_split.specs.declared.cells.Cell.{Cell}
use Rattle.av_split.specs.Split.{both, either, turned, all_of, some_of, Demand, demand_known}
use Rattle.av_split.specs.Marks.{once}
use Rattle.av_split.proofs.KnownFacts.{both_inside, both_outside, both_out, either_inside, either_outside, either_in}
use Rattle.av_split.proofs.OpenQuestions.{turned_open}

-- where one is known the other is so too
abbrev pub Passes : {A : Type 0} → Known → (A → Known) → (A → Known) → A → Type 0
Passes k f g x = f x ≡ k → g x ≡ k

pub all_pass : {A : Type 0} (k : Known) (f g : A → Known) (xs : List A) → (k ≡ Open → ⊥) → Each (Passes k f g) xs → all_of f xs ≡ k → all_of g xs ≡ k
all_pass Inside f g [] n h e = refl
all_pass Outside f g [] n h e = absurd (cc)
all_pass Open f g xs n h e = absurd (n refl)
all_pass Inside f g (x ∷ xs) n h e = let b = both_inside (f x) (all_of f xs) e in ap₂ both (h x (inl refl) b.0) (all_pass Inside f g xs n (λ y i. h y (inr i)) b.1)
all_pass Outside f g (x ∷ xs) n h e = elim (both_outside (f x) (all_of f xs) e) [
  | inl q ↦ ap (λ k. both k (all_of g xs)) (h x (inl refl) q)
  | inr q ↦ ap (both (g x)) (all_pass Outside f g xs n (λ y i. h y (inr i)) q) ∙ both_out (g x)
]

pub some_pass : {A : Type 0} (k : Known) (f g : A → Known) (xs : List A) → (k ≡ Open → ⊥) → Each (Passes k f g) xs → some_of f xs ≡ k → some_of g xs ≡ k
some_pass Inside f g [] n h e = absurd (cc)
some_pass Outside f g [] n h e = refl
some_pass Open f g xs n h e = absurd (n refl)
some_pass Outside f g (x ∷ xs) n h e = let b = either_outside (f x) (some_of f xs) e in ap₂ either (h x (inl refl) b.0) (some_pass Outside f g xs n (λ y i. h y (inr i)) b.1)
some_pass Inside f g (x ∷ xs) n h e = elim (either_inside (f x) (some_of f xs) e) [
  | inl q ↦ ap (λ k. either k (some_of g xs)) (h x (inl refl) q)
  | inr q ↦ ap (either (g x)) (some_pass Inside f g xs n (λ y i. h y (inr i)) q) ∙ either_in (g x)
]

pub turned_twice : (w : Bool) (k : Known) → turned w (turned w k) ≡ k
turned_twice w k = grind arith

-- a demand, where that holds of its cells, as its kind turns it
pub demand_pass : (k : Known) (f g : Cell → Known) (d : Demand Cell) → (k ≡ Open → ⊥) → ((m : List Cell) → In m d.embeddings → Each (Passes (turned d.required k) f g) m) → demand_known f d ≡ k → demand_known g d ≡ k
demand_pass k f g d n h e =
    let w : Bool = d.required in
    let settled : turned w k ≡ Open → ⊥ = λ o. n (turned_open w k o) in
    ap (turned w)
    (some_pass (turned w k) (all_of f) (all_of g) d.embeddings settled (λ m i. all_pass (turned w k) f g m settled (h m i)) (sym (turned_twice w (some_of (all_of f) d.embeddings)) ∙ ap (turned w) e))
    ∙ turned_twice w k

pub inside_open : Inside ≡ Open → ⊥
inside_open e = cc

pub outside_open : Outside ≡ Open → ⊥
outside_open e = cc

-- of demands that are open together none is broken
pub outside_one : {A : Type 0} (f : A → Known) (xs : List A) (x : A) → In x xs → f x ≡ Outside → all_of f xs ≡ Outside
outside_one f [] x i o = absurd i
outside_one f (y ∷ xs) x (inl q) o = ap (λ k. both k (all_of f xs)) (ap f (sym q) ∙ o)
outside_one f (y ∷ xs) x (inr j) o = ap (both (f y)) (outside_one f xs x j o) ∙ both_out (f y)

pub open_none : {A : Type 0} (f : A → Known) (xs : List A) (x : A) → all_of f xs ≡ Open → In x xs → f x ≡ Outside → ⊥
open_none f xs x e i o = outside_open (sym (outside_one f xs x i o) ∙ e)

-- what is known stays known, and only what is required is found to be, or only what is avoided
pub once_keeps : (r b : Bool) (k l : Known) → (l ≡ Open → ⊥) → k ≡ l → once r b k ≡ l
once_keeps r b k l n e = grind arith

pub once_other : (r b : Bool) (k : Known) → once r b k ≡ turned r Outside → k ≡ turned r Outside
once_other r b k e = grind arith
