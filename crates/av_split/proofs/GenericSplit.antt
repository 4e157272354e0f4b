-- The split, for any kind of box and question.
use Rattle.std.proofs.Common.{◌≡◌, ℕ, zero, suc, ◌-◌, ◌<◌, ◌≤◌, ◌⊎◌, inl, inr, ◌↔◌, List, [], ◌∷◌, ◌++◌, length, get_or, Bool, true, false, Some, refl, sym, ap, ◌∙◌, subst, ap₂, arith}
use Rattle.av_perm.specs.Members.{In}
use Rattle.av_perm.proofs.Membership.{Each, SomeIn, In_at, In_one, In_append_cases, append_left, append_right}
use Rattle.av_name.specs.declared.constraints.Known.{Known}
use Rattle.av_name.specs.declared.constraints.Known.TheVariants.{Inside, Outside, Open}
use Rattle.av_split.specs.Split.{Demand, demands_known, next_question, Rules, outcome, split_by, questions_of, boxes_by, NeverStuck}
use Rattle.av_split.proofs.KnownFacts.{Says, MetIf, Met, demands_say}
use Rattle.av_split.proofs.OpenQuestions.{next_finds, open_count, open_count_length, open_count_less}

-- Boxes of a kind `Fine`, asked questions of a kind `Apt`: what is known stays known, and each question that is asked becomes so
pub record Lawful {B Q : Type 0} (r : Rules B Q) (Fine : B → Type 0) (Apt : Q → Type 0) : Type 0 where
  pub fine : (w : Bool) (b : B) (q : Q) → Fine b → Apt q → r.known b q ≡ Open → Fine (r.settle w b q)
  pub settles : (w : Bool) (b : B) (q : Q) → Fine b → Apt q → r.known b q ≡ Open → r.known (r.settle w b q) q ≡ Open → ⊥
  pub keeps : (w : Bool) (b : B) (q p : Q) → Fine b → Apt q → Apt p → r.known b q ≡ Open → r.known (r.settle w b q) p ≡ Open → r.known b p ≡ Open

-- what lies in a box (`Lies`) and the questions that hold (`H`), for one list of blocks
pub record Meant {B Q : Type 0} (r : Rules B Q) (Fine : B → Type 0) (Apt : Q → Type 0) (Lies : B → Type 0) (H : Q → Type 0) : Type 0 where
  pub says : (b : B) (q : Q) → Fine b → Apt q → Lies b → Says (r.known b) H q
  pub lies : (w : Bool) (b : B) (q : Q) → Fine b → Apt q → r.known b q ≡ Open → Lies (r.settle w b q) ↔ (Lies b × MetIf w (H q))
  pub decided : (q : Q) → Apt q → H q ⊎ (H q → ⊥)

pub known_cases : (k : Known) → (k ≡ Outside) ⊎ ((k ≡ Inside) ⊎ (k ≡ Open))
known_cases Outside = inl refl
known_cases Inside = inr (inl refl)
known_cases Open = inr (inr refl)

-- no two have it
abbrev pub Apart : {A : Type 0} → (A → Type 0) → List A → Type 0
Apart P [] = Unit {0}
Apart {A} P (x ∷ xs) = ((y : A) → In y xs → P x → P y → ⊥) × Apart P xs

pub Apart_append : {A : Type 0} (P : A → Type 0) (xs ys : List A) → Apart P xs → Apart P ys → ((x y : A) → In x xs → In y ys → P x → P y → ⊥) → Apart P (xs ++ ys)
Apart_append P [] ys a b h = b
Apart_append P (x ∷ xs) ys a b h = (
  λ y i px py. elim (In_append_cases xs ys y i) [ inl j ↦ a.0 y j px py | inr j ↦ h x y (inl refl) j px py ],
  Apart_append P xs ys a.1 b (λ u v i j. h u v (inr i) j),
)

pub Apart_at : {A : Type 0} (P : A → Type 0) (xs : List A) (i j : ℕ) (d : A) → Apart P xs → i < j → j < length xs → P (get_or xs i d) → P (get_or xs j d) → ⊥
Apart_at P [] i j d a h k p q = absurd (omega arith)
Apart_at P (x ∷ xs) zero zero d a h k p q = absurd (omega arith)
Apart_at P (x ∷ xs) zero (suc j) d a h k p q = a.0 (get_or xs j d) (In_at xs j d (omega arith)) p q
Apart_at P (x ∷ xs) (suc i) zero d a h k p q = absurd (omega arith)
Apart_at P (x ∷ xs) (suc i) (suc j) d a h k p q = Apart_at P xs i j d a.1 (omega arith) (omega arith) p q

-- an open box and its next question
pub record Asks {B Q : Type 0} (r : Rules B Q) (ds : List (Demand Q)) (b : B) (q : Q) : Type 0 where
  pub known : demands_known (r.known b) ds ≡ Open
  pub next : next_question (r.known b) ds ≡ Some q
  pub unknown : r.known b q ≡ Open
  pub there : In q (questions_of ds)

pub asks : {B Q : Type 0} (r : Rules B Q) (ds : List (Demand Q)) (b : B) → demands_known (r.known b) ds ≡ Open → (q : Q) × Asks r ds b q
asks r ds b k = let n = next_finds (r.known b) ds k in (n.0, record { known = k; next = n.1; unknown = n.2.0; there = n.2.1 })

-- the three rules
pub split_outside : {B Q : Type 0} (r : Rules B Q) (ds : List (Demand Q)) (d : ℕ) (b : B) → demands_known (r.known b) ds ≡ Outside → split_by r ds d b ≡ []
split_outside r ds zero b e = ap (λ k. outcome k b (next_question (r.known b) ds) (λ q. [])) e
split_outside r ds (suc d) b e = ap (λ k. outcome k b (next_question (r.known b) ds) (λ q. split_by r ds d (r.settle false b q) ++ split_by r ds d (r.settle true b q))) e

pub split_inside : {B Q : Type 0} (r : Rules B Q) (ds : List (Demand Q)) (d : ℕ) (b : B) → demands_known (r.known b) ds ≡ Inside → split_by r ds d b ≡ b ∷ []
split_inside r ds zero b e = ap (λ k. outcome k b (next_question (r.known b) ds) (λ q. [])) e
split_inside r ds (suc d) b e = ap (λ k. outcome k b (next_question (r.known b) ds) (λ q. split_by r ds d (r.settle false b q) ++ split_by r ds d (r.settle true b q))) e

pub split_more : {B Q : Type 0} (r : Rules B Q) (ds : List (Demand Q)) (d : ℕ) (b : B) (q : Q) → Asks r ds b q → split_by r ds (suc d) b ≡ split_by r ds d (r.settle false b q) ++ split_by r ds d (r.settle true b q)
split_more r ds d b q a = ap₂ (λ k o. outcome k b o (λ q. split_by r ds d (r.settle false b q) ++ split_by r ds d (r.settle true b q))) a.known a.next

module _ {B Q : Type 0} (r : Rules B Q) (Fine : B → Type 0) (Apt : Q → Type 0) (law : Lawful r Fine Apt) (ds : List (Demand Q)) (apt : Each Apt (questions_of ds)) where
  pub fewer : (w : Bool) (b : B) (q : Q) → Fine b → Asks r ds b q → open_count (r.known (r.settle w b q)) (questions_of ds) < open_count (r.known b) (questions_of ds)
  fewer w b q f a =
      open_count_less (r.known (r.settle w b q)) (r.known b) (questions_of ds) q (λ p j k. law.keeps w b q p f (apt q a.there) (apt p j) a.unknown k) a.there a.unknown (law.settles w b q f (apt q a.there) a.unknown)

  -- what holds of a box that is dropped, of one that is given, and, where it holds of both parts of a cut, of the whole, holds
  -- of each box and what it is cut into, with as many steps as it has open questions
  pub split_induct : (P : B → List B → Type 0) → ((b : B) → Fine b → demands_known (r.known b) ds ≡ Outside → P b []) → ((b : B) → Fine b → demands_known (r.known b) ds ≡ Inside → P b (b ∷ []))
      → ((b : B) (q : Q) (xs ys : List B) → Fine b → Asks r ds b q → P (r.settle false b q) xs → P (r.settle true b q) ys → P b (xs ++ ys))
      → (d : ℕ) (b : B) → Fine b → open_count (r.known b) (questions_of ds) ≤ d → P b (split_by r ds d b)
  split_induct P dropped given cut zero b f h = elim (known_cases (demands_known (r.known b) ds)) [
    | inl k ↦ subst (P b) (sym (split_outside r ds 0 b k)) (dropped b f k)
    | inr (inl k) ↦ subst (P b) (sym (split_inside r ds 0 b k)) (given b f k)
    | inr (inr k) ↦ let a = asks r ds b k in absurd (omega (arith, fewer false b a.0 f a.1))
  ]
  split_induct P dropped given cut (suc d) b f h = elim (known_cases (demands_known (r.known b) ds)) [
    | inl k ↦ subst (P b) (sym (split_outside r ds (suc d) b k)) (dropped b f k)
    | inr (inl k) ↦ subst (P b) (sym (split_inside r ds (suc d) b k)) (given b f k)
    | inr (inr k) ↦
        let a = asks r ds b k in
        subst (P b) (sym (split_more r ds d b a.0 a.1))
        (cut b a.0 (split_by r ds d (r.settle false b a.0)) (split_by r ds d (r.settle true b a.0)) f a.1
        (split_induct P dropped given cut d (r.settle false b a.0) (law.fine false b a.0 f (apt a.0 a.1.there) a.1.unknown) (omega (arith, fewer false b a.0 f a.1)))
        (split_induct P dropped given cut d (r.settle true b a.0) (law.fine true b a.0 f (apt a.0 a.1.there) a.1.unknown) (omega (arith, fewer true b a.0 f a.1))))
  ]

  -- the same for the boxes that a box is cut into
  pub boxes_induct : (P : B → List B → Type 0) → ((b : B) → Fine b → demands_known (r.known b) ds ≡ Outside → P b []) → ((b : B) → Fine b → demands_known (r.known b) ds ≡ Inside → P b (b ∷ []))
      → ((b : B) (q : Q) (xs ys : List B) → Fine b → Asks r ds b q → P (r.settle false b q) xs → P (r.settle true b q) ys → P b (xs ++ ys))
      → (b : B) → Fine b → P b (boxes_by r ds b)
  boxes_induct P dropped given cut b f = split_induct P dropped given cut (length (questions_of ds)) b f (open_count_length (r.known b) (questions_of ds))

  -- each box that is given has its demands met, and is of the kind
  pub boxes_done : (b : B) → Fine b → Each (λ x. (demands_known (r.known x) ds ≡ Inside) × Fine x) (boxes_by r ds b)
  boxes_done =
      boxes_induct (λ b. Each (λ x. (demands_known (r.known x) ds ≡ Inside) × Fine x)) (λ b f k x i. absurd i)
      (λ b f k x i. subst (λ y. (demands_known (r.known y) ds ≡ Inside) × Fine y) (sym (In_one x b i)) (k, f))
      (λ b q xs ys f a g h x i. elim (In_append_cases xs ys x i) [ inl j ↦ g x j | inr j ↦ h x j ])

  -- more steps than there are open questions change nothing
  pub split_same : (d e : ℕ) (b : B) → Fine b → open_count (r.known b) (questions_of ds) ≤ d → open_count (r.known b) (questions_of ds) ≤ e → split_by r ds e b ≡ split_by r ds d b
  split_same d e b f h k =
      split_induct (λ (b : B) (xs : List B). (n : ℕ) → open_count (r.known b) (questions_of ds) ≤ n → split_by r ds n b ≡ xs) (λ b f o n l. split_outside r ds n b o) (λ b f o n l. split_inside r ds n b o)
      (λ b q xs ys f a g h n l. cut b q xs ys f a g h n l) d b f h e k
    where
      cut : (b : B) (q : Q) (xs ys : List B) → Fine b → Asks r ds b q → ((n : ℕ) → open_count (r.known (r.settle false b q)) (questions_of ds) ≤ n → split_by r ds n (r.settle false b q) ≡ xs)
          → ((n : ℕ) → open_count (r.known (r.settle true b q)) (questions_of ds) ≤ n → split_by r ds n (r.settle true b q) ≡ ys) → (n : ℕ) → open_count (r.known b) (questions_of ds) ≤ n → split_by r ds n b ≡ xs ++ ys
      cut b q xs ys f a g h zero l = absurd (omega (arith, fewer false b q f a))
      cut b q xs ys f a g h (suc n) l =
          split_more r ds n b q a ∙ ap₂ (λ x y. x ++ y) (g n (omega (arith, fewer false b q f a))) (h n (omega (arith, fewer true b q f a)))

  pub never_stuck : (d : ℕ) (b : B) → Fine b → open_count (r.known b) (questions_of ds) ≤ d → NeverStuck r ds d b
  never_stuck zero b f h = λ k. let a = asks r ds b k in absurd (omega (arith, fewer false b a.0 f a.1))
  never_stuck (suc d) b f h = λ k.
      let a = asks r ds b k in
      (a.0, a.1.next, λ w. never_stuck d (r.settle w b a.0) (law.fine w b a.0 f (apt a.0 a.1.there) a.1.unknown) (omega (arith, fewer w b a.0 f a.1)))

  -- a broken box gives none, one that is done itself, and an open one the boxes of its two parts
  pub boxes_outside : (b : B) → demands_known (r.known b) ds ≡ Outside → boxes_by r ds b ≡ []
  boxes_outside = split_outside r ds (length (questions_of ds))

  pub boxes_inside : (b : B) → demands_known (r.known b) ds ≡ Inside → boxes_by r ds b ≡ b ∷ []
  boxes_inside = split_inside r ds (length (questions_of ds))

  pub boxes_more : (b : B) (q : Q) → Fine b → Asks r ds b q → boxes_by r ds b ≡ boxes_by r ds (r.settle false b q) ++ boxes_by r ds (r.settle true b q)
  boxes_more b q f a =
      let n : ℕ = length (questions_of ds) in
      let some = fewer false b q f a in
      let l = open_count_length (r.known b) (questions_of ds) in
      let m : suc (n - 1) ≡ n = omega arith in
      let part : (w : Bool) → split_by r ds (n - 1) (r.settle w b q) ≡ split_by r ds n (r.settle w b q) =
      λ w. split_same n (n - 1) (r.settle w b q) (law.fine w b q f (apt q a.there) a.unknown) (omega (arith, fewer w b q f a)) (omega (arith, fewer w b q f a)) in
      ap (λ j. split_by r ds j b) (sym m) ∙ split_more r ds (n - 1) b q a ∙ ap₂ (λ x y. x ++ y) (part false) (part true)

  module _ (Lies : B → Type 0) (H : Q → Type 0) (meant : Meant r Fine Apt Lies H) where
    state_says : (b : B) → Fine b → Lies b → Says (demands_known (r.known b)) (Each (Met H)) ds
    state_says b f l = demands_say (r.known b) H ds (λ q i. meant.says b q f (apt q i) l)

    -- what lies in a box that is given lies in the whole, and meets the demands
    abbrev Sound : B → List B → Type 0
    Sound b xs = (x : B) → In x xs → Lies x → Lies b × Each (Met H) ds

    sound_cut : (b : B) (q : Q) (xs ys : List B) → Fine b → Asks r ds b q → Sound (r.settle false b q) xs → Sound (r.settle true b q) ys → Sound b (xs ++ ys)
    sound_cut b q xs ys f a g h x i l = elim (In_append_cases xs ys x i) [
      | inl j ↦ let m = g x j l in (((meant.lies false b q f (apt q a.there) a.unknown).0 m.0).0, m.1)
      | inr j ↦ let m = h x j l in (((meant.lies true b q f (apt q a.there) a.unknown).0 m.0).0, m.1)
    ]

    -- and it lies in no two
    boxes_sound : (b : B) → Fine b → Sound b (boxes_by r ds b) × Apart Lies (boxes_by r ds b)
    boxes_sound =
        boxes_induct (λ b xs. Sound b xs × Apart Lies xs) (λ b f k. (λ x i l. absurd i, tt))
        (λ b f k. (λ x i l. let m = subst Lies (In_one x b i) l in (m, (state_says b f m).inside k), (λ y i. absurd i, tt)))
        (λ b q xs ys f a g h. (
          sound_cut b q xs ys f a g.0 h.0,
          Apart_append Lies xs ys g.1 h.1
              (λ x y i j l m. ((meant.lies false b q f (apt q a.there) a.unknown).0 (g.0 x i l).0).1 ((meant.lies true b q f (apt q a.there) a.unknown).0 (h.0 y j m).0).1),
        ))

    -- what lies in the whole and meets the demands lies in one of them
    boxes_complete : (b : B) → Fine b → Lies b → Each (Met H) ds → SomeIn Lies (boxes_by r ds b)
    boxes_complete b f l e = boxes_induct (λ b xs. Lies b → SomeIn Lies xs) (λ b f k l. absurd ((state_says b f l).outside k e)) (λ b f k l. (b, inl refl, l)) cut b f l
      where
        cut : (b : B) (q : Q) (xs ys : List B) → Fine b → Asks r ds b q → (Lies (r.settle false b q) → SomeIn Lies xs) → (Lies (r.settle true b q) → SomeIn Lies ys) → Lies b → SomeIn Lies (xs ++ ys)
        cut b q xs ys f a g h l = elim (meant.decided q (apt q a.there)) [
          | inl y ↦ let m = h ((meant.lies true b q f (apt q a.there) a.unknown).1 (l, y)) in (m.0, append_right xs ys m.0 m.1, m.2)
          | inr y ↦ let m = g ((meant.lies false b q f (apt q a.there) a.unknown).1 (l, y)) in (m.0, append_left xs ys m.0 m.1, m.2)
        ]

    pub boxes_apart : (b : B) → Fine b → Apart Lies (boxes_by r ds b)
    boxes_apart b f = (boxes_sound b f).1

    pub boxes_cover : (b : B) → Fine b → Lies b → Each (Met H) ds ↔ SomeIn Lies (boxes_by r ds b)
    boxes_cover b f l = (boxes_complete b f l, λ s. ((boxes_sound b f).0 s.0 s.1 s.2).1)
