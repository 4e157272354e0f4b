-- What is known of the items of a list, gone through from the front.
use Rattle.std.proofs.Common.{◌≡◌, ◌↔◌, ℕ, ◌+◌, ◌<◌, ◌≤◌, List, [], ◌∷◌, length, get_or, take, zero, suc, inl, inr, drop, Option, Some, None, refl, ap, ap₂, sym, ◌∙◌, subst, drop-cons, add-one, arith}
use Rattle.av_perm.specs.Members.{In}
use Rattle.av_perm.proofs.Membership.{In_at}
use Rattle.av_name.specs.declared.constraints.Known.{Known}
use Rattle.av_name.specs.declared.constraints.Known.TheVariants.{Inside, Outside, Open}
use Rattle.av_split.specs.declared.cells.Cell.{Cell}
use Rattle.av_split.specs.declared.steps.Step.{Step}
use Rattle.av_split.specs.declared.steps.Step.TheVariants.{Holds, Fails, Asks}
use Rattle.std.proofs.Math.ListN.{drop_of_length-le}
use Rattle.std.proofs.lemmas.Bool.{cases_lt}
use Rattle.av_split.specs.Split.{Demand, both, either, all_of, some_of, at_open, first_open}
use Rattle.av_split.proofs.KnownFacts.{both_inside}
use Rattle.av_split.specs.Cells.{IsStep, IsFirst, known_so, or_else}

-- what the items gone through tell together where one that holds suffices and none did, by the first open cell or question
abbrev pub some_so : {X : Type 0} → Option X → Known
some_so None = Outside
some_so (Some x) = Open

-- the items before the rest told no more than the first open cell or question
pub record AllSo {A X : Type 0} (f : A → Known) (g : A → Option X) (found : Option X) (xs rest : List A) : Type 0 where
  pub known : all_of f xs ≡ both (known_so found) (all_of f rest)
  pub first : first_open f g xs ≡ or_else found (first_open f g rest)

-- the same where one that holds suffices
pub record SomeSo {A X : Type 0} (f : A → Known) (g : A → Option X) (found : Option X) (xs rest : List A) : Type 0 where
  pub known : some_of f xs ≡ either (some_so found) (some_of f rest)
  pub first : first_open f g xs ≡ or_else found (first_open f g rest)

-- the rest at an index, by its first item
pub rest_at : {A : Type 0} (xs : List A) (i n : ℕ) (x d : A) → i < length xs → get_or xs i d ≡ x → n ≡ i + 1 → drop i xs ≡ x ∷ drop n xs
rest_at xs i n x d h e q = drop-cons xs i d h ∙ ap₂ (λ y m. y ∷ drop m xs) e (sym (add-one i) ∙ sym q)

-- an item at an index, as a loop gives it
pub item_in : {A : Type 0} (xs ys : List A) (i : ℕ) (x : A) → i < length xs → x ≡ get_or xs i x → xs ≡ ys → In x ys
item_in xs ys i x h e q = subst (In x) q (subst (λ y. In y xs) (sym e) (In_at xs i x h))

-- the same, in the list that the loop's is equal to
pub item_at : {A : Type 0} (xs ys : List A) (i : ℕ) (x : A) → x ≡ get_or xs i x → xs ≡ ys → x ≡ get_or ys i x
item_at xs ys i x e q = e ∙ ap (λ (l : List _). get_or l i x) q

-- items that hold are passed over at once
pub all_skip : {A : Type 0} (f : A → Known) (xs : List A) (n : ℕ) → all_of f (take n xs) ≡ Inside → all_of f xs ≡ all_of f (drop n xs)
all_skip f xs zero e = refl
all_skip f [] (suc n) e = refl
all_skip f (x ∷ xs) (suc n) e = let b = both_inside (f x) (all_of f (take n xs)) e in ap (λ k. both k (all_of f xs)) b.0 ∙ all_skip f xs n b.1

pub first_skip : {A : Type 0} (f : A → Known) (g : A → Option Cell) (xs : List A) (n : ℕ) → all_of f (take n xs) ≡ Inside → first_open f g xs ≡ first_open f g (drop n xs)
first_skip f g xs zero e = refl
first_skip f g [] (suc n) e = refl
first_skip f g (x ∷ xs) (suc n) e = let b = both_inside (f x) (all_of f (take n xs)) e in ap (λ k. at_open k (g x) (first_open f g xs)) b.0 ∙ first_skip f g xs n b.1

-- one more item that holds
pub all_more : {A : Type 0} (f : A → Known) (xs : List A) (i n : ℕ) (x d : A) → i < length xs → get_or xs i d ≡ x → n ≡ i + 1 → all_of f (take i xs) ≡ Inside → f x ≡ Inside → all_of f (take n xs) ≡ Inside
all_more {A = A} f xs i n x d h e q a k = ap (λ m. all_of f (take m xs)) (q ∙ add-one i) ∙ by xs i h e a
  where
    by : (xs : List A) (i : ℕ) → i < length xs → get_or xs i d ≡ x → all_of f (take i xs) ≡ Inside → all_of f (take (suc i) xs) ≡ Inside
    by [] i h e a = absurd (omega arith)
    by (y ∷ xs) zero h e a = ap (λ z. both (f z) Inside) e ∙ ap (λ l. both l Inside) k
    by (y ∷ xs) (suc i) h e a =
        let b = both_inside (f y) (all_of f (take i xs)) a in
        ap (λ l. both l (all_of f (take (suc i) xs))) b.0 ∙ by xs i (omega arith) e b.1

-- an item that is not broken is passed over, and one that is breaks all
pub both_broken : (x y : Known) → (x ≡ Outside → ⊥) → (both x y ≡ Outside) ↔ (y ≡ Outside)
both_broken x y n = (λ e. grind arith, λ e. grind arith)

abbrev pub Breaks : {A : Type 0} → (A → Known) → List A → List A → Type 0
Breaks f xs ys = (all_of f xs ≡ Outside) ↔ (all_of f ys ≡ Outside)

pub breaks_next : {A : Type 0} (f : A → Known) (all xs : List A) (i n : ℕ) (x : A) → i < length xs → x ≡ get_or xs i x → n ≡ i + 1 → (f x ≡ Outside → ⊥) → Breaks f all (drop i xs) → Breaks f all (drop n xs)
breaks_next f all xs i n x h e q k b =
    let r = subst (λ ys. Breaks f all ys) (rest_at xs i n x x h (sym e) q) b in
    let s = both_broken (f x) (all_of f (drop n xs)) k in
    (λ o. s.0 (r.0 o), λ o. r.1 (s.1 o))

pub breaks_here : {A : Type 0} (f : A → Known) (all xs : List A) (i : ℕ) (x : A) → i < length xs → x ≡ get_or xs i x → f x ≡ Outside → Breaks f all (drop i xs) → all_of f all ≡ Outside
breaks_here f all xs i x h e k b = b.1 (ap (all_of f) (rest_at xs i (i + 1) x x h (sym e) refl) ∙ ap (λ l. both l (all_of f (drop (i + 1) xs))) k)

pub breaks_none : {A : Type 0} (f : A → Known) (all xs : List A) (i : ℕ) → length xs ≤ i → Breaks f all (drop i xs) → all_of f all ≡ Outside → ⊥
breaks_none f all xs i h b o = let e : all_of f [] ≡ Outside = subst (λ ys. all_of f ys ≡ Outside) (drop_of_length-le xs h) (b.0 o) in cc

-- the first item that doesn't hold, at an index
pub first_at : (s : Step) (f : Demand Cell → Known) (g : Demand Cell → Option Cell) (xs : List (Demand Cell)) (i : ℕ) (x : Demand Cell) → i < length xs → x ≡ get_or xs i x → IsStep s (f x) (g x) → (s ≡ Holds → ⊥) → IsFirst s f g (drop i xs)
first_at s f g xs i x h e k n = subst (IsFirst s f g) (sym (rest_at xs i (i + 1) x x h (sym e) refl)) (by s k n)
  where
    by : (s : Step) → IsStep s (f x) (g x) → (s ≡ Holds → ⊥) → IsFirst s f g (x ∷ drop (i + 1) xs)
    by Holds k n = absurd (n refl)
    by Fails k n = k
    by (Asks cell) k n = k

-- what follows the first item of the rest
pub drop_tail : {A : Type 0} (xs : List A) (n : ℕ) (y : A) (ys : List A) → drop n xs ≡ y ∷ ys → drop (suc n) xs ≡ ys
drop_tail xs zero y ys e = ap (drop 1) e
drop_tail [] (suc n) y ys e = absurd (cc)
drop_tail (x ∷ xs) (suc n) y ys e = drop_tail xs n y ys e

-- the step of all, by that of the first item that doesn't hold
pub both_open_whole : (k : Known) → (k ≡ Outside → ⊥) → both Open k ≡ Open
both_open_whole k n = grind arith

module _ (f : Demand Cell → Known) (g : Demand Cell → Option Cell) (xs : List (Demand Cell)) (n : ℕ) (done : all_of f (take n xs) ≡ Inside) where
  pub all_done : IsFirst Holds f g (drop n xs) → all_of f xs ≡ Inside
  all_done e = all_skip f xs n done ∙ ap (all_of f) e

  pub first_fails : IsFirst Fails f g (drop n xs) → all_of f xs ≡ Outside
  first_fails h = all_skip f xs n done ∙ by (drop n xs) h
    where
      by : (ys : List (Demand Cell)) → IsFirst Fails f g ys → all_of f ys ≡ Outside
      by [] h = absurd h
      by (y ∷ ys) h = ap (λ k. both k (all_of f ys)) h

  pub first_within : (cell : Cell) → IsFirst (Asks cell) f g (drop n xs) → n < length xs
  first_within cell h = elim (cases_lt n (length xs)) [ inl l ↦ l | inr l ↦ absurd (subst (IsFirst (Asks cell) f g) (drop_of_length-le xs l) h) ]

  pub later : (ys : List (Demand Cell)) (y : Demand Cell) → drop n xs ≡ y ∷ ys → drop (n + 1) xs ≡ ys
  later ys y e = ap (λ m. drop m xs) (add-one n) ∙ drop_tail xs n y ys e

  pub later_fails : (cell : Cell) → IsFirst (Asks cell) f g (drop n xs) → all_of f (drop (n + 1) xs) ≡ Outside → all_of f xs ≡ Outside
  later_fails cell h o = all_skip f xs n done ∙ by (drop n xs) refl h
    where
      by : (ys : List (Demand Cell)) → drop n xs ≡ ys → IsFirst (Asks cell) f g ys → all_of f ys ≡ Outside
      by [] e h = absurd h
      by (y ∷ ys) e h = ap₂ both h.0 (ap (all_of f) (sym (later ys y e)) ∙ o)

  pub first_asks : (cell : Cell) → IsFirst (Asks cell) f g (drop n xs) → (all_of f (drop (n + 1) xs) ≡ Outside → ⊥) → (all_of f xs ≡ Open) × (first_open f g xs ≡ Some cell)
  first_asks cell h o = let r = by (drop n xs) refl h in (all_skip f xs n done ∙ r.0, first_skip f g xs n done ∙ r.1)
    where
      by : (ys : List (Demand Cell)) → drop n xs ≡ ys → IsFirst (Asks cell) f g ys → (all_of f ys ≡ Open) × (first_open f g ys ≡ Some cell)
      by [] e h = absurd h
      by (y ∷ ys) e h = (
        ap (λ k. both k (all_of f ys)) h.0 ∙ both_open_whole (all_of f ys) (λ q. o (ap (all_of f) (later ys y e) ∙ q)),
        ap (λ k. at_open k (g y) (first_open f g ys)) h.0 ∙ h.1,
      )
