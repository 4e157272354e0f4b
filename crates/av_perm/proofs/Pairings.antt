-- Containment by a list of pairs, each an entry of the pattern beside the entry of the word that it goes to.
use Rattle.std.proofs.Common.{◌≡◌, ℕ, zero, suc, ◌+◌, ◌<◌, ◌≤◌, ◌⊎◌, inl, inr, ◌↔◌, List, [], ◌∷◌, ◌++◌, map, length, get_or, refl, sym, ap, ◌∙◌, ap₂, arith}
use Rattle.std.proofs.lemmas.Bool.{cases_lt}
use Rattle.std.proofs.lemmas.List.{get_or-map, length-map, map-append}
use Rattle.av_perm.specs.Relations.{at, Contains, joined, raised}
use Rattle.av_perm.proofs.Membership.{In, In_at}

-- an entry of a pattern beside what it goes to
abbrev pub Pair : Type 0
Pair = record { from : ℕ; to : ℕ }

-- the second entries
abbrev pub tos : List Pair → List ℕ
tos z = map (λ p. p.to) z

-- the first entries
abbrev pub froms : List Pair → List ℕ
froms z = map (λ p. p.from) z

-- the second entries stand in the word in this order
abbrev pub Placed : List Pair → List ℕ → Type 0
Placed [] ys = Unit {0}
Placed (p ∷ z) [] = ⊥
Placed (p ∷ z) (y ∷ ys) = ((p.to ≡ y) × Placed z ys) ⊎ Placed (p ∷ z) ys

-- the same relative order
abbrev pub Agree : List Pair → Type 0
Agree z = (p q : Pair) → In p z → In q z → (p.from < q.from) ↔ (p.to < q.to)

-- some pairs lie in the word as the pattern
abbrev pub Has : List ℕ → List ℕ → Type 0
Has σ τ = (z : List Pair) × (froms z ≡ τ) × Placed z σ × Agree z

-- an entry more in front of the word
pub Placed_skip : (z : List Pair) (y : ℕ) (ys : List ℕ) → Placed z ys → Placed z (y ∷ ys)
Placed_skip [] y ys h = tt
Placed_skip (p ∷ z) y ys h = inr h

-- the second entry of a pair that is placed is in the word
pub Placed_In : (z : List Pair) (ys : List ℕ) (p : Pair) → Placed z ys → In p z → In p.to ys
Placed_In [] ys p h i = absurd i
Placed_In (q ∷ z) [] p h i = absurd h
Placed_In (q ∷ z) (y ∷ ys) p (inl h) (inl e) = inl (ap (λ r. r.to) e ∙ h.0)
Placed_In (q ∷ z) (y ∷ ys) p (inl h) (inr i) = inr (Placed_In z ys p h.1 i)
Placed_In (q ∷ z) (y ∷ ys) p (inr h) i = inr (Placed_In (q ∷ z) ys p h i)

-- places in the word, as pairs in it
abbrev pairs : List ℕ → List ℕ → List ℕ → List Pair
pairs σ [] p = []
pairs σ (t ∷ τ) [] = []
pairs σ (t ∷ τ) (q ∷ p) = record { from = t; to = at σ q } ∷ pairs σ τ p

-- the first entries of these pairs are the pattern
pairs_froms : (σ τ p : List ℕ) → length p ≡ length τ → froms (pairs σ τ p) ≡ τ
pairs_froms σ [] p e = refl
pairs_froms σ (t ∷ τ) [] e = absurd (omega arith)
pairs_froms σ (t ∷ τ) (q ∷ p) e = ap (λ l. t ∷ l) (pairs_froms σ τ p (omega arith))

-- each of these pairs has its place
pairs_In : (σ τ p : List ℕ) (q : Pair) → In q (pairs σ τ p) → (s : ℕ) × (s < length τ) × (s < length p) × (q.from ≡ at τ s) × (q.to ≡ at σ (at p s))
pairs_In σ [] p q i = absurd i
pairs_In σ (t ∷ τ) [] q i = absurd i
pairs_In σ (t ∷ τ) (u ∷ p) q (inl e) = (0, omega arith, omega arith, ap (λ r. r.from) e, ap (λ r. r.to) e)
pairs_In σ (t ∷ τ) (u ∷ p) q (inr i) =
    let r = pairs_In σ τ p q i in
    (suc r.0, omega arith, omega arith, r.3, r.4)

-- the first of increasing places is the least
first_le : (q : ℕ) (p : List ℕ) → ((s t : ℕ) → s < t → t < length (q ∷ p) → at (q ∷ p) s < at (q ∷ p) t) → (s : ℕ) → s < length (q ∷ p) → q ≤ at (q ∷ p) s
first_le q p r zero h = omega arith
first_le q p r (suc s) h = let k = r 0 (suc s) (omega arith) h in omega arith

-- the places are at least `lo`, and what is left of the word from there is `ys`
pairs_Placed : (ys σ τ p : List ℕ) (lo : ℕ) → ((j : ℕ) → j < length ys → at σ (lo + j) ≡ at ys j)
    → ((s : ℕ) → s < length p → (lo ≤ at p s) × (at p s < lo + length ys)) → ((s t : ℕ) → s < t → t < length p → at p s < at p t)
    → Placed (pairs σ τ p) ys
pairs_Placed ys σ [] p lo is within rising = tt
pairs_Placed ys σ (t ∷ τ) [] lo is within rising = tt
pairs_Placed [] σ (t ∷ τ) (q ∷ p) lo is within rising = let h = within 0 (omega arith) in absurd (omega arith)
pairs_Placed (y ∷ ys) σ (t ∷ τ) (q ∷ p) lo is within rising =
    let here = within 0 (omega arith) in
    let next : (j : ℕ) → j < length ys → at σ (suc lo + j) ≡ at ys j = λ j h. ap (at σ) (omega arith) ∙ is (suc j) (omega arith) in
    elim (cases_lt lo q) [
      | inl l ↦
          inr (pairs_Placed ys σ (t ∷ τ) (q ∷ p) (suc lo) next
          (λ s h. let w = within s h in let f = first_le q p rising s h in (omega arith, omega arith)) rising)
      | inr l ↦
          inl (
            ap (at σ) (omega arith) ∙ is 0 (omega arith),
            pairs_Placed ys σ τ p (suc lo) next
                (λ s h. let w = within (suc s) (omega arith) in let r = rising 0 (suc s) (omega arith) (omega arith) in (omega arith, omega arith))
                (λ s t h k. rising (suc s) (suc t) (omega arith) (omega arith)),
          )
    ]

-- an occurrence as pairs
pub Contains_Has : (σ τ : List ℕ) → Contains σ τ → Has σ τ
Contains_Has σ τ c =
    let o = c.1 in (
      pairs σ τ c.0,
      pairs_froms σ τ c.0 o.count,
      pairs_Placed σ σ τ c.0 0 (λ j h. ap (at σ) (omega arith)) (λ s h. let k = o.placed s h in (omega arith, omega arith)) o.rising,
      λ u v iu iv.
          let a = pairs_In σ τ c.0 u iu in
          let b = pairs_In σ τ c.0 v iv in
          let g = o.alike a.0 b.0 a.1 b.1 in
          (λ h. let k = g.0 (omega arith) in omega arith, λ h. let k = g.1 (omega arith) in omega arith),
    )

-- pairs to places
pub record Stands (z : List Pair) (ys p : List ℕ) : Type 0 where
  pub count : length p ≡ length z
  pub placed : (s : ℕ) → s < length p → at p s < length ys
  pub rising : (s t : ℕ) → s < t → t < length p → at p s < at p t
  pub is : (s : ℕ) (d : Pair) → s < length z → at ys (at p s) ≡ (get_or z s d).to

-- no pairs stand at no places
nothing_stands : (ys : List ℕ) → Stands [] ys []
nothing_stands ys = record { count = refl; placed = λ s h. absurd (omega arith); rising = λ s t h k. absurd (omega arith); is = λ s d h. absurd (omega arith) }

-- the places with an entry more in front of the word
Stands_skip : (z : List Pair) (y : ℕ) (ys p : List ℕ) → Stands z ys p → Stands z (y ∷ ys) (map suc p)
Stands_skip z y ys p h =
    let len = length-map p suc in
    let here : (s : ℕ) → s < length p → at (map suc p) s ≡ suc (at p s) = λ s k. get_or-map suc p s 0 0 k in
    let n = h.count in
    record {
      count = omega arith;
      placed = λ s k. let a = here s (omega arith) in let b = h.placed s (omega arith) in omega arith;
      rising = λ s t k l. let a = here s (omega arith) in let b = here t (omega arith) in let c = h.rising s t k (omega arith) in omega arith;
      is = λ s d k. ap (at (y ∷ ys)) (here s (omega arith)) ∙ h.is s d k;
    }

-- the places with a pair more that stands at the first entry
Stands_keep : (q : Pair) (z : List Pair) (y : ℕ) (ys p : List ℕ) → q.to ≡ y → Stands z ys p → Stands (q ∷ z) (y ∷ ys) (0 ∷ map suc p)
Stands_keep q z y ys p e h =
    let n = m.count in
    record {
      count = omega arith;
      placed = λ s. kept_placed s;
      rising = λ s t. kept_rising s t;
      is = λ s. kept_is s;
    }
  where
    m : Stands z (y ∷ ys) (map suc p)
    m = Stands_skip z y ys p h

    up : (s : ℕ) → s < length (map suc p) → 0 < at (map suc p) s
    up s k = let a = get_or-map suc p s 0 0 (omega (arith, length-map p suc)) in omega arith

    kept_placed : (s : ℕ) → s < length (0 ∷ map suc p) → at (0 ∷ map suc p) s < length (y ∷ ys)
    kept_placed zero k = omega arith
    kept_placed (suc s) k = m.placed s (omega arith)

    kept_rising : (s t : ℕ) → s < t → t < length (0 ∷ map suc p) → at (0 ∷ map suc p) s < at (0 ∷ map suc p) t
    kept_rising zero zero k l = absurd (omega arith)
    kept_rising zero (suc t) k l = up t (omega arith)
    kept_rising (suc s) zero k l = absurd (omega arith)
    kept_rising (suc s) (suc t) k l = m.rising s t (omega arith) (omega arith)

    kept_is : (s : ℕ) (d : Pair) → s < length (q ∷ z) → at (y ∷ ys) (at (0 ∷ map suc p) s) ≡ (get_or (q ∷ z) s d).to
    kept_is zero d k = sym e
    kept_is (suc s) d k = m.is s d (omega arith)

-- pairs that are placed have places
pub Placed_places : (z : List Pair) (ys : List ℕ) → Placed z ys → (p : List ℕ) × Stands z ys p
Placed_places [] ys h = ([], nothing_stands ys)
Placed_places (q ∷ z) [] h = absurd h
Placed_places (q ∷ z) (y ∷ ys) (inl h) = let r = Placed_places z ys h.1 in (0 ∷ map suc r.0, Stands_keep q z y ys r.0 h.0 r.1)
Placed_places (q ∷ z) (y ∷ ys) (inr h) = let r = Placed_places (q ∷ z) ys h in (map suc r.0, Stands_skip (q ∷ z) y ys r.0 r.1)

-- pairs as an occurrence
pub Has_Contains : (σ τ : List ℕ) → Has σ τ → Contains σ τ
Has_Contains σ τ h =
    let z : List Pair = h.0 in
    let r = Placed_places z σ h.2 in
    let d : Pair = record { from = 0; to = 0 } in
    let e : length (froms z) ≡ length τ = ap length h.1 in
    let n = length-map z (λ (p : Pair). p.from) in
    let c = r.1.count in
    let from : (s : ℕ) → s < length z → at τ s ≡ (get_or z s d).from = λ s k. ap (λ l. at l s) (sym h.1) ∙ get_or-map (λ (p : Pair). p.from) z s d 0 k in (
      r.0,
      record {
        count = omega arith;
        placed = r.1.placed;
        rising = r.1.rising;
        alike = λ s t hs ht.
            let g = h.3 (get_or z s d) (get_or z t d) (In_at z s d (omega arith)) (In_at z t d (omega arith)) in
            let a = from s (omega arith) in
            let b = from t (omega arith) in
            let a' = r.1.is s d (omega arith) in
            let b' = r.1.is t d (omega arith) in
            (λ k. let l = g.0 (omega arith) in omega arith, λ k. let l = g.1 (omega arith) in omega arith);
      },
    )

-- many lists of pairs, each placed in a list of its own
pub map_joined : {A B : Type 0} (f : A → B) (F : ℕ → List A) (n : ℕ) → map f (joined F n) ≡ joined (λ j. map f (F j)) n
map_joined f F zero = refl
map_joined f F (suc n) = map-append f (F 0) (joined (λ i. F (suc i)) n) ∙ ap (λ l. map f (F 0) ++ l) (map_joined f (λ i. F (suc i)) n)

-- pairs placed in two lists are placed in the two joined
Placed_append : (z w : List Pair) (A B : List ℕ) → Placed z A → Placed w B → Placed (z ++ w) (A ++ B)
Placed_append [] w [] B h k = k
Placed_append [] w (y ∷ A) B h k = Placed_skip w y (A ++ B) (Placed_append [] w A B tt k)
Placed_append (p ∷ z) w [] B h k = absurd h
Placed_append (p ∷ z) w (y ∷ A) B (inl h) k = inl (h.0, Placed_append z w A B h.1 k)
Placed_append (p ∷ z) w (y ∷ A) B (inr h) k = inr (Placed_append (p ∷ z) w A B h k)

-- pairs placed in many lists are placed in them joined
pub Placed_joined : (n : ℕ) (z : ℕ → List Pair) (F : ℕ → List ℕ) → ((j : ℕ) → j < n → Placed (z j) (F j)) → Placed (joined z n) (joined F n)
Placed_joined zero z F h = tt
Placed_joined (suc n) z F h = Placed_append (z 0) (joined (λ i. z (suc i)) n) (F 0) (joined (λ i. F (suc i)) n) (h 0 (omega arith)) (Placed_joined n (λ i. z (suc i)) (λ i. F (suc i)) (λ j k. h (suc j) (omega arith)))

-- pairs whose second entries are raised
abbrev pub up : ℕ → List Pair → List Pair
up o z = map (λ (p : Pair). record { from = p.from; to = p.to + o }) z

-- the first entries stay
pub up_froms : (o : ℕ) (z : List Pair) → froms (up o z) ≡ froms z
up_froms o [] = refl
up_froms o (p ∷ z) = ap (λ l. p.from ∷ l) (up_froms o z)

-- raised pairs are placed in the raised list
pub Placed_up : (o : ℕ) (z : List Pair) (a : List ℕ) → Placed z a → Placed (up o z) (raised o a)
Placed_up o [] a h = tt
Placed_up o (p ∷ z) [] h = absurd h
Placed_up o (p ∷ z) (y ∷ a) (inl h) = inl (ap (λ v. v + o) h.0, Placed_up o z a h.1)
Placed_up o (p ∷ z) (y ∷ a) (inr h) = inr (Placed_up o (p ∷ z) a h)

-- pairs placed in a raised list are raised pairs
pub Placed_down : (o : ℕ) (z : List Pair) (a : List ℕ) → Placed z (raised o a) → (w : List Pair) × (up o w ≡ z) × Placed w a
Placed_down o [] a h = ([], refl, tt)
Placed_down o (p ∷ z) [] h = absurd h
Placed_down o (p ∷ z) (y ∷ a) (inl h) =
    let r = Placed_down o z a h.1 in
    (record { from = p.from; to = y } ∷ r.0, ap₂ (λ (v : ℕ) (l : List Pair). record { from = p.from; to = v } ∷ l) (sym h.0) r.1, inl (refl, r.2))
Placed_down o (p ∷ z) (y ∷ a) (inr h) = let r = Placed_down o (p ∷ z) a h in (r.0, r.1, Placed_skip r.0 y a r.2)

-- each entry of a list beside itself
abbrev pub twins : List ℕ → List Pair
twins [] = []
twins (v ∷ w) = record { from = v; to = v } ∷ twins w

-- the first ones are the list
pub twins_froms : (w : List ℕ) → froms (twins w) ≡ w
twins_froms [] = refl
twins_froms (v ∷ w) = ap (λ l. v ∷ l) (twins_froms w)

-- they are placed in the list
pub twins_placed : (w : List ℕ) → Placed (twins w) w
twins_placed [] = tt
twins_placed (v ∷ w) = inl (refl, twins_placed w)

-- both entries of such a pair are equal
pub twins_same : (w : List ℕ) (p : Pair) → In p (twins w) → p.from ≡ p.to
twins_same [] p i = absurd i
twins_same (v ∷ w) p (inl e) = ap (λ (r : Pair). r.from) e ∙ sym (ap (λ (r : Pair). r.to) e)
twins_same (v ∷ w) p (inr i) = twins_same w p i
