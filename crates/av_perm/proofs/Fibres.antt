-- The items that a map of places sends to one child.
use Rattle.std.proofs.Common.{◌≡◌, ℕ, zero, suc, ◌<◌, ◌≤◌, inl, inr, List, [], ◌∷◌, ◌++◌, map, length, get_or, cond, true, false, eqb, eq-eqb, ne_eqb, refl, sym, ap, ◌∙◌, subst, ap₂, arith}
use lib.Dec.{eqb-suc-suc}
use Rattle.std.proofs.lemmas.Bool.{cases_eq}
use Rattle.std.proofs.lemmas.List.{get_or-map, length-map}
use Rattle.av_perm.specs.Members.{In, Once}
use Rattle.av_perm.specs.Relations.{at, joined}
use Rattle.av_perm.specs.Fibre.{fibre}
use Rattle.av_perm.proofs.Membership.{In_at, nil_from}
use Rattle.av_perm.proofs.Pairings.{Pair, Placed, Placed_skip}

-- an item that is sent to the child
pub fibre_hit : {A : Type 0} (x : A) (xs : List A) (c : ℕ) (e : List ℕ) (i : ℕ) → c ≡ i → fibre (x ∷ xs) (c ∷ e) i ≡ x ∷ fibre xs e i
fibre_hit x xs c e i h = ap (λ b. cond b (x ∷ fibre xs e i) (fibre xs e i)) (eq-eqb c i h)

-- an item that is sent elsewhere
pub fibre_miss : {A : Type 0} (x : A) (xs : List A) (c : ℕ) (e : List ℕ) (i : ℕ) → (c ≡ i → ⊥) → fibre (x ∷ xs) (c ∷ e) i ≡ fibre xs e i
fibre_miss x xs c e i h = ap (λ b. cond b (x ∷ fibre xs e i) (fibre xs e i)) (ne_eqb c i h)

-- the place of an item
pub fibre_at : {A : Type 0} (xs : List A) (e : List ℕ) (i : ℕ) (x d : A) → In x (fibre xs e i)
    → (s : ℕ) × (s < length xs) × (s < length e) × (at e s ≡ i) × (get_or xs s d ≡ x)
fibre_at [] e i x d h = absurd h
fibre_at (y ∷ xs) [] i x d h = absurd h
fibre_at {A = A} (y ∷ xs) (c ∷ e) i x d h = elim (cases_eq c i) [
  | inl q ↦ fibre_at_hit y xs c e i x d q (fibre_at xs e i x d) (subst (In x) (fibre_hit y xs c e i q) h)
  | inr n ↦ let r = fibre_at xs e i x d (subst (In x) (fibre_miss y xs c e i n) h) in (suc r.0, omega arith, omega arith, r.3, r.4)
]
  where
    fibre_at_hit : (y : A) (xs : List A) (c : ℕ) (e : List ℕ) (i : ℕ) (x d : A) → c ≡ i
        → (In x (fibre xs e i) → (s : ℕ) × (s < length xs) × (s < length e) × (at e s ≡ i) × (get_or xs s d ≡ x)) → In x (y ∷ fibre xs e i)
        → (s : ℕ) × (s < length (y ∷ xs)) × (s < length (c ∷ e)) × (at (c ∷ e) s ≡ i) × (get_or (y ∷ xs) s d ≡ x)
    fibre_at_hit y xs c e i x d q f (inl h) = (0, omega arith, omega arith, q, sym h)
    fibre_at_hit y xs c e i x d q f (inr h) = let r = f h in (suc r.0, omega arith, omega arith, r.3, r.4)

-- an item is in the fibre of its child
pub at_fibre : {A : Type 0} (xs : List A) (e : List ℕ) (s : ℕ) (d : A) → s < length xs → s < length e → In (get_or xs s d) (fibre xs e (at e s))
at_fibre [] e s d h k = absurd (omega arith)
at_fibre (x ∷ xs) [] s d h k = absurd (omega arith)
at_fibre (x ∷ xs) (c ∷ e) zero d h k = subst (In x) (sym (fibre_hit x xs c e c refl)) (inl refl)
at_fibre (x ∷ xs) (c ∷ e) (suc s) d h k =
    let r = at_fibre xs e s d (omega arith) (omega arith) in
    elim (cases_eq c (at e s)) [
      | inl q ↦ subst (In (get_or xs s d)) (sym (fibre_hit x xs c e (at e s) q)) (inr r)
      | inr n ↦ subst (In (get_or xs s d)) (sym (fibre_miss x xs c e (at e s) n)) r
    ]

-- the fibre of a mapped list
pub fibre-map : {A B : Type 0} (f : A → B) (xs : List A) (e : List ℕ) (i : ℕ) → map f (fibre xs e i) ≡ fibre (map f xs) e i
fibre-map f [] e i = refl
fibre-map f (x ∷ xs) [] i = refl
fibre-map f (x ∷ xs) (c ∷ e) i = elim (eqb c i) as (λ b. map f (cond b (x ∷ fibre xs e i) (fibre xs e i)) ≡ cond b (f x ∷ fibre (map f xs) e i) (fibre (map f xs) e i)) [
  | true ↦ ap (λ l. f x ∷ l) (fibre-map f xs e i)
  | false ↦ fibre-map f xs e i
]

-- with each child one higher none goes to the first
fibre_none : {A : Type 0} (xs : List A) (e : List ℕ) → fibre xs (map suc e) 0 ≡ []
fibre_none [] e = refl
fibre_none (x ∷ xs) [] = refl
fibre_none (x ∷ xs) (c ∷ e) = fibre_miss x xs (suc c) (map suc e) 0 (λ h. omega arith) ∙ fibre_none xs e

-- with each child one higher a fibre is that of the child before
pub fibre_suc : {A : Type 0} (xs : List A) (e : List ℕ) (i : ℕ) → fibre xs (map suc e) (suc i) ≡ fibre xs e i
fibre_suc [] e i = refl
fibre_suc (x ∷ xs) [] i = refl
fibre_suc (x ∷ xs) (c ∷ e) i = elim (cases_eq c i) [
  | inl q ↦ fibre_hit x xs (suc c) (map suc e) (suc i) (omega arith) ∙ ap (λ l. x ∷ l) (fibre_suc xs e i) ∙ sym (fibre_hit x xs c e i q)
  | inr n ↦ fibre_miss x xs (suc c) (map suc e) (suc i) (λ h. n (omega arith)) ∙ fibre_suc xs e i ∙ sym (fibre_miss x xs c e i n)
]

-- pairs in blocks joined: which block each stands in
pub record Spread (z : List Pair) (F : ℕ → List ℕ) (n : ℕ) (e : List ℕ) : Type 0 where
  pub count : length e ≡ length z
  pub children : (s : ℕ) → s < length e → at e s < n
  pub rising : (s t : ℕ) → s < t → t < length e → at e s ≤ at e t
  pub held : (i : ℕ) → i < n → Placed (fibre z e i) (F i)

-- the same, with the first block in sight
record Front (z : List Pair) (A : List ℕ) (F : ℕ → List ℕ) (n : ℕ) (e : List ℕ) : Type 0 where
  count : length e ≡ length z
  children : (s : ℕ) → s < length e → at e s < suc n
  rising : (s t : ℕ) → s < t → t < length e → at e s ≤ at e t
  first : Placed (fibre z e 0) A
  held : (i : ℕ) → i < n → Placed (fibre z e (suc i)) (F i)

-- the first block is used up: the others have one number more
Front_here : (z : List Pair) (F : ℕ → List ℕ) (n : ℕ) (e : List ℕ) → Spread z F n e → Front z [] F n (map suc e)
Front_here z F n e h =
    let l = length-map e suc in
    let here : (s : ℕ) → s < length e → at (map suc e) s ≡ suc (at e s) = λ s k. get_or-map suc e s 0 0 k in
    let m = h.count in
    record {
      count = omega arith;
      children = λ s k. let a = here s (omega arith) in let b = h.children s (omega arith) in omega arith;
      rising = λ s t k j. let a = here s (omega arith) in let b = here t (omega arith) in let c = h.rising s t k (omega arith) in omega arith;
      first = subst (λ l. Placed l []) (sym (fibre_none z e)) tt;
      held = λ i k. subst (λ l. Placed l (F i)) (sym (fibre_suc z e i)) (h.held i k);
    }

-- an entry of the first block that no pair stands at
Front_skip : (z : List Pair) (y : ℕ) (A : List ℕ) (F : ℕ → List ℕ) (n : ℕ) (e : List ℕ) → Front z A F n e → Front z (y ∷ A) F n e
Front_skip z y A F n e h = record { count = h.count; children = h.children; rising = h.rising; first = Placed_skip (fibre z e 0) y A h.first; held = h.held }

-- no pairs
Front_none : (A : List ℕ) (F : ℕ → List ℕ) (n : ℕ) → Front [] A F n []
Front_none A F n = record { count = refl; children = λ s k. absurd (omega arith); rising = λ s t k l. absurd (omega arith); first = tt; held = λ i k. tt }

-- a pair that stands at the next entry of the first block
Front_keep : (p : Pair) (z : List Pair) (y : ℕ) (A : List ℕ) (F : ℕ → List ℕ) (n : ℕ) (e : List ℕ) → p.to ≡ y → Front z A F n e
    → Front (p ∷ z) (y ∷ A) F n (0 ∷ e)
Front_keep p z y A F n e q h = record {
  count = ap suc h.count;
  children = λ s. kept s;
  rising = λ s t. kept_rising s t;
  first = subst (λ l. Placed l (y ∷ A)) (sym (fibre_hit p z 0 e 0 refl)) (inl (q, h.first));
  held = λ i k. subst (λ l. Placed l (F i)) (sym (fibre_miss p z 0 e (suc i) (λ w. omega arith))) (h.held i k);
}
  where
    kept : (s : ℕ) → s < length (0 ∷ e) → at (0 ∷ e) s < suc n
    kept zero k = omega arith
    kept (suc s) k = h.children s (omega arith)

    kept_rising : (s t : ℕ) → s < t → t < length (0 ∷ e) → at (0 ∷ e) s ≤ at (0 ∷ e) t
    kept_rising zero t k l = omega arith
    kept_rising (suc s) zero k l = absurd (omega arith)
    kept_rising (suc s) (suc t) k l = h.rising s t (omega arith) (omega arith)

-- pairs in a first block and the rest
front : (A : List ℕ) (z : List Pair) (F : ℕ → List ℕ) (n : ℕ) (B : List ℕ) → ((w : List Pair) → Placed w B → (e : List ℕ) × Spread w F n e)
    → Placed z (A ++ B) → (e : List ℕ) × Front z A F n e
front [] z F n B f h = let r = f z h in (map suc r.0, Front_here z F n r.0 r.1)
front (y ∷ A) [] F n B f h = ([], Front_none (y ∷ A) F n)
front (y ∷ A) (p ∷ z) F n B f (inl h) = let r = front A z F n B f h.1 in (0 ∷ r.0, Front_keep p z y A F n r.0 h.0 r.1)
front (y ∷ A) (p ∷ z) F n B f (inr h) = let r = front A (p ∷ z) F n B f h in (r.0, Front_skip (p ∷ z) y A F n r.0 r.1)

-- with the whole first block in sight
Front_Spread : (z : List Pair) (F : ℕ → List ℕ) (n : ℕ) (e : List ℕ) → Front z (F 0) (λ i. F (suc i)) n e → Spread z F (suc n) e
Front_Spread z F n e h = record { count = h.count; children = h.children; rising = h.rising; held = λ i. held_at i }
  where
    held_at : (i : ℕ) → i < suc n → Placed (fibre z e i) (F i)
    held_at zero k = h.first
    held_at (suc i) k = h.held i (omega arith)

-- pairs in blocks joined each stand in one
pub spread : (n : ℕ) (F : ℕ → List ℕ) (z : List Pair) → Placed z (joined F n) → (e : List ℕ) × Spread z F n e
spread zero F [] h = ([], record { count = refl; children = λ s k. absurd (omega arith); rising = λ s t k l. absurd (omega arith); held = λ i k. absurd (omega arith) })
spread zero F (p ∷ z) h = absurd h
spread (suc n) F z h =
    let r = front (F 0) z (λ i. F (suc i)) n (joined (λ i. F (suc i)) n) (spread n (λ i. F (suc i))) h in
    (r.0, Front_Spread z F n r.0 r.1)

-- the other way: a weakly increasing map cuts the list into its fibres
pub joined_same : {A : Type 0} (F G : ℕ → List A) (n : ℕ) → ((j : ℕ) → j < n → F j ≡ G j) → joined F n ≡ joined G n
joined_same F G zero h = refl
joined_same F G (suc n) h = ap₂ (λ l m. l ++ m) (h 0 (omega arith)) (joined_same (λ i. F (suc i)) (λ i. G (suc i)) n (λ j k. h (suc j) (omega arith)))

-- empty lists joined are empty
joined_none : {A : Type 0} (n : ℕ) → joined {A = A} (λ i. []) n ≡ []
joined_none zero = refl
joined_none (suc n) = joined_none n

-- one item put before the first list that is not empty
insert_first : {A : Type 0} (f : ℕ → List A) (x : A) (c n : ℕ) → c < n → ((j : ℕ) → j < c → f j ≡ [])
    → joined (λ j. cond (eqb c j) (x ∷ f j) (f j)) n ≡ x ∷ joined f n
insert_first f x c zero h none = absurd (omega arith)
insert_first f x zero (suc n) h none =
    ap (λ l. x ∷ (f 0 ++ l)) (joined_same (λ j. cond (eqb 0 (suc j)) (x ∷ f (suc j)) (f (suc j))) (λ j. f (suc j)) n (λ j k. ap (λ b. cond b (x ∷ f (suc j)) (f (suc j))) (ne_eqb 0 (suc j) (λ e. omega arith))))
insert_first f x (suc c) (suc n) h none =
    let first : cond (eqb (suc c) 0) (x ∷ f 0) (f 0) ≡ [] = ap (λ b. cond b (x ∷ f 0) (f 0)) (ne_eqb (suc c) 0 (λ e. omega arith)) ∙ none 0 (omega arith) in
    let rest : joined (λ j. cond (eqb (suc c) (suc j)) (x ∷ f (suc j)) (f (suc j))) n ≡ x ∷ joined (λ j. f (suc j)) n =
    joined_same (λ j. cond (eqb (suc c) (suc j)) (x ∷ f (suc j)) (f (suc j))) (λ j. cond (eqb c j) (x ∷ f (suc j)) (f (suc j))) n (λ j k. ap (λ b. cond b (x ∷ f (suc j)) (f (suc j))) (eqb-suc-suc c j))
    ∙ insert_first (λ j. f (suc j)) x c n (omega arith) (λ j k. none (suc j) (omega arith)) in
    ap₂ (λ l m. l ++ m) first rest ∙ ap (λ l. x ∷ (l ++ joined (λ j. f (suc j)) n)) (sym (none 0 (omega arith)))

-- a weakly increasing map cuts the list into its fibres
pub fibres_joined : {A : Type 0} (xs : List A) (e : List ℕ) (n : ℕ) → length e ≡ length xs → ((s : ℕ) → s < length e → at e s < n)
    → ((s t : ℕ) → s < t → t < length e → at e s ≤ at e t) → joined (fibre xs e) n ≡ xs
fibres_joined [] e n q children rising = joined_none n
fibres_joined (x ∷ xs) [] n q children rising = absurd (omega arith)
fibres_joined (x ∷ xs) (c ∷ e) n q children rising =
    insert_first (fibre xs e) x c n (children 0 (omega arith))
    (λ j k. nil_from (fibre xs e j) (λ y i. let r = fibre_at xs e j y x i in let l = rising 0 (suc r.0) (omega arith) (omega arith) in omega arith))
    ∙ ap (λ l. x ∷ l) (fibres_joined xs e n (omega arith) (λ s k. children (suc s) (omega arith)) (λ s t k l. rising (suc s) (suc t) (omega arith) (omega arith)))

-- what is sent to a child is there, and once where it was
pub fibre_In : {A : Type 0} (xs : List A) (e : List ℕ) (i : ℕ) (x d : A) → In x (fibre xs e i) → In x xs
fibre_In xs e i x d h = let r = fibre_at xs e i x d h in subst (λ y. In y xs) r.4 (In_at xs r.0 d r.1)

-- what comes once in a list comes once in a fibre
pub fibre_once : (xs e : List ℕ) (i : ℕ) → Once xs → Once (fibre xs e i)
fibre_once [] e i d = tt
fibre_once (x ∷ xs) [] i d = tt
fibre_once (x ∷ xs) (c ∷ e) i d = elim (eqb c i) as (λ b. Once (cond b (x ∷ fibre xs e i) (fibre xs e i))) [
  | true ↦ (λ j. d.0 (fibre_In xs e i x 0 j), fibre_once xs e i d.1)
  | false ↦ fibre_once xs e i d.1
]

-- no item goes past the last child
pub fibre_past : (γ e : List ℕ) (n i : ℕ) → ((s : ℕ) → s < length e → at e s < n) → n ≤ i → fibre γ e i ≡ []
fibre_past γ e n i h l = nil_from (fibre γ e i) (λ y k. let r = fibre_at γ e i y 0 k in let m = h r.0 r.2 in omega arith)
