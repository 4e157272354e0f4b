-- The walk over terms that are the boxes of the split, or some of them: each leaf is good, or it is one of the boxes that
-- were left out, and bare. For any kind of box and question.
use Rattle.std.proofs.Common.{◌≡◌, ℕ, zero, suc, ◌⊎◌, inl, inr, List, [], ◌∷◌, ◌++◌, map, filter, Bool, true, false, not, cond, Option, Some, None, refl, sym, ap, ap₂, ◌∙◌, subst, append_assoc}
use Rattle.std.proofs.lemmas.Bool.{cases_Bool}
use Rattle.std.proofs.lemmas.List.{map-append}
use Rattle.std.proofs.lemmas.List.Elements.{filter-append}
use Rattle.av_perm.specs.Members.{In}
use Rattle.av_perm.proofs.Membership.{Each, In_one, In_append_cases, append_left, append_right, In_map, In_filter}
use Rattle.av_name.specs.declared.constraints.Known.{Known}
use Rattle.av_name.specs.declared.constraints.Known.TheVariants.{Inside, Outside, Open}
use Rattle.av_split.specs.Split.{Demand, demands_known, at_open, first_open, next_question, Rules, questions_of, boxes_by}
use Rattle.av_split.proofs.GenericSplit.{Lawful, Asks, asks, known_cases, boxes_induct, boxes_outside, boxes_inside, boxes_more}
use Rattle.av_walk.specs.Walk.{Literal, literal_known, term_known, next_of_terms, one_more, inside_count, Ending, good, bare, ends, splits, treated, treatment, Leaf, leaves_by, walk_by}
use Rattle.av_check.proofs.GenericWalk.{leaf_of}

-- a term is refuted
abbrev pub Refuted : {Q : Type 0} → (Q → Known) → List (Literal Q) → Type 0
Refuted f t = term_known f t ≡ Outside

-- of refuted terms none is inside, and with one other that is there is one
refuted_count : {Q : Type 0} (f : Q → Known) (ts : List (List (Literal Q))) → Each (Refuted f) ts → inside_count f ts ≡ 0
refuted_count f [] h = refl
refuted_count f (t ∷ ts) h = ap (λ k. one_more k (inside_count f ts)) (h t (inl refl)) ∙ refuted_count f ts (λ y i. h y (inr i))

one_count : {Q : Type 0} (f : Q → Known) (xs : List (List (Literal Q))) (t : List (Literal Q)) (ys : List (List (Literal Q))) → Each (Refuted f) xs → term_known f t ≡ Inside → Each (Refuted f) ys
    → inside_count f (xs ++ t ∷ ys) ≡ 1
one_count f [] t ys h e k = ap (λ k. one_more k (inside_count f ys)) e ∙ ap suc (refuted_count f ys k)
one_count f (x ∷ xs) t ys h e k = ap (λ k. one_more k (inside_count f (xs ++ t ∷ ys))) (h x (inl refl)) ∙ one_count f xs t ys (λ y i. h y (inr i)) e k

-- of items that aren't open none is picked
none_picked : {A X : Type 0} (f : A → Known) (g : A → Option X) (xs : List A) → Each (λ x. f x ≡ Open → ⊥) xs → first_open f g xs ≡ None
none_picked f g [] h = refl
none_picked f g (x ∷ xs) h = by (f x) refl (none_picked f g xs (λ y i. h y (inr i)))
  where
    by : (k : Known) → f x ≡ k → first_open f g xs ≡ None → at_open k (g x) (first_open f g xs) ≡ None
    by Open e d = absurd (h x (inl refl) e)
    by Inside e d = d
    by Outside e d = d

-- what the boxes and their terms are to each other: a box's own term is inside, a refuted term stays so, and a box below one
-- part of a split is refuted in the other. `Marks` says that a box avoids a question (`false`) or requires it (`true`)
pub record Telling {B Q : Type 0} (r : Rules B Q) (Fine : B → Type 0) (Apt : Q → Type 0) (term_of : B → List (Literal Q)) (Marks : Bool → Q → B → Type 0) : Type 0 where
  pub own : (b : B) → Fine b → term_known (r.known b) (term_of b) ≡ Inside
  pub stays : (w : Bool) (b x : B) (q : Q) → Fine b → Fine x → Apt q → r.known b q ≡ Open → Refuted (r.known b) (term_of x) → Refuted (r.known (r.settle w b q)) (term_of x)
  pub marks : (w : Bool) (b : B) (q : Q) → Fine b → Apt q → r.known b q ≡ Open → Marks w q (r.settle w b q)
  pub keeps : (w s : Bool) (b : B) (q p : Q) → Fine b → Apt q → Apt p → r.known b q ≡ Open → Marks s p b → Marks s p (r.settle w b q)
  pub refutes : (w : Bool) (b x : B) (q : Q) → Fine b → Fine x → Apt q → r.known b q ≡ Open → Marks w q x → Refuted (r.known (r.settle (not w) b q)) (term_of x)

module _ {B Q : Type 0} (r : Rules B Q) (Fine : B → Type 0) (Apt : Q → Type 0) (law : Lawful r Fine Apt) (ds : List (Demand Q)) (apt : Each Apt (questions_of ds))
    (term_of : B → List (Literal Q)) (Marks : Bool → Q → B → Type 0) (tell : Telling r Fine Apt term_of Marks) where
  -- a part of a box that asks is fine
  part_fine : (w : Bool) (b : B) (q : Q) → Fine b → Asks r ds b q → Fine (r.settle w b q)
  part_fine w b q f a = law.fine w b q f (apt q a.there) a.unknown

  -- a fine box with a mark
  abbrev IsMarked : Bool → Q → B → Type 0
  IsMarked w p b = Fine b × Marks w p b

  -- each box below a marked one is marked
  boxes_marked : (w : Bool) (p : Q) → Apt p → (b : B) → Fine b → Marks w p b → Each (IsMarked w p) (boxes_by r ds b)
  boxes_marked w p settled =
      boxes_induct r Fine Apt law ds apt (λ b xs. Marks w p b → Each (IsMarked w p) xs) (λ b f k m x i. absurd i)
      (λ b f k m x i. subst (IsMarked w p) (sym (In_one x b i)) (f, m))
      (λ b q xs ys f a g h m x i. elim (In_append_cases xs ys x i) [
        | inl j ↦ g (tell.keeps false w b q p f (apt q a.there) settled a.unknown m) x j
        | inr j ↦ h (tell.keeps true w b q p f (apt q a.there) settled a.unknown m) x j
      ])

  module _ (keep : B → Bool) (bs : List B) where
    -- the terms of the boxes that are kept
    abbrev pub kept_terms : List (List (Literal Q))
    kept_terms = map term_of (filter keep bs)

    -- a leaf is good, or its box isn't kept and it is bare
    pub record IsFitting (l : Leaf B) : Type 0 where
      pub fine : Fine l.cell
      pub ending : (l.ending ≡ good) ⊎ ((l.ending ≡ bare) × (keep l.cell ≡ false) × In l.cell bs)

    -- a fine box that is refuted in another
    abbrev pub IsOut : B → B → Type 0
    IsOut b x = Fine x × Refuted (r.known b) (term_of x)

    terms_out : (b : B) (xs : List B) → Each (IsOut b) xs → Each (Refuted (r.known b)) (map term_of xs)
    terms_out b xs h t i = let s = In_map term_of xs t i in subst (Refuted (r.known b)) (sym s.2) (h s.0 s.1).1

    -- the leaf of a box that ends
    one_leaf : (d : ℕ) (b : B) (x : Ending) (l : Leaf B) → treatment r ds kept_terms b ≡ ends x → In l (walk_by r ds kept_terms d b) → l ≡ leaf_of b x
    one_leaf zero b x l e i = In_one l (leaf_of b x) (subst (In l) (ap (λ t. leaves_by t b (λ q. [])) e) i)
    one_leaf (suc d) b x l e i = In_one l (leaf_of b x) (subst (In l) (ap (λ t. leaves_by t b (λ q. walk_by r ds kept_terms d (r.settle false b q) ++ walk_by r ds kept_terms d (r.settle true b q))) e) i)

    -- what becomes of a box, by what is known of it
    treated_is : (b : B) (k : Known) (c : ℕ) (o n : Option Q) → demands_known (r.known b) ds ≡ k → inside_count (r.known b) kept_terms ≡ c → next_of_terms (r.known b) kept_terms ≡ o → next_question (r.known b) ds ≡ n
        → treatment r ds kept_terms b ≡ treated k c o n
    treated_is b k c o n e f g h =
        ap (λ x. treated x (inside_count (r.known b) kept_terms) (next_of_terms (r.known b) kept_terms) (next_question (r.known b) ds)) e
        ∙ ap₂ (λ x y. treated k x y (next_question (r.known b) ds)) f g
        ∙ ap (λ x. treated k c o x) h

    -- the kept boxes are those below a box, and others that are refuted in it
    pub record IsAmid (b : B) : Type 0 where
      pub before : List B
      pub after : List B
      pub is : filter keep bs ≡ before ++ (filter keep (boxes_by r ds b) ++ after)
      pub listed : Each (λ x. In x bs) (boxes_by r ds b)
      pub before_out : Each (IsOut b) before
      pub after_out : Each (IsOut b) after

    -- how many terms are inside, and the next question of those that are open
    abbrev Counts : B → ℕ → Type 0
    Counts b c = (inside_count (r.known b) kept_terms ≡ c) × (next_of_terms (r.known b) kept_terms ≡ None)

    none_asked : (b : B) → Each (λ t. term_known (r.known b) t ≡ Open → ⊥) kept_terms → next_of_terms (r.known b) kept_terms ≡ None
    none_asked b = none_picked (term_known (r.known b)) (λ (t : List (Literal Q)). first_open (literal_known (r.known b)) (λ (l : Literal Q). Some l.question) t) kept_terms

    out_not_open : (b : B) (t : List (Literal Q)) → Refuted (r.known b) t → term_known (r.known b) t ≡ Open → ⊥
    out_not_open b t h e = let z : Outside ≡ Open = sym h ∙ e in cc

    -- where no box is left below, all terms are refuted
    amid_none : (b : B) → IsAmid b → filter keep (boxes_by r ds b) ≡ [] → Counts b 0
    amid_none b a e =
        let h : Each (Refuted (r.known b)) kept_terms = terms_out b (filter keep bs) (λ x i. elim (In_append_cases a.before a.after x (subst (In x) (a.is ∙ ap (λ l. a.before ++ (l ++ a.after)) e) i)) [
          | inl j ↦ a.before_out x j
          | inr j ↦ a.after_out x j
        ]) in
        (refuted_count (r.known b) kept_terms h, none_asked b (λ t i. out_not_open b t (h t i)))

    -- where the box itself is left, its term alone is inside
    amid_one : (b : B) → Fine b → IsAmid b → filter keep (boxes_by r ds b) ≡ b ∷ [] → Counts b 1
    amid_one b f a e =
        let is : kept_terms ≡ map term_of a.before ++ term_of b ∷ map term_of a.after =
        ap (map term_of) (a.is ∙ ap (λ l. a.before ++ (l ++ a.after)) e) ∙ map-append term_of a.before (b ∷ a.after) in (
          ap (inside_count (r.known b)) is ∙ one_count (r.known b) (map term_of a.before) (term_of b) (map term_of a.after) (terms_out b a.before a.before_out) (tell.own b f) (terms_out b a.after a.after_out),
          none_asked b (λ t i. elim (In_append_cases (map term_of a.before) (term_of b ∷ map term_of a.after) t (subst (In t) is i)) [
            | inl j ↦ out_not_open b t (terms_out b a.before a.before_out t j)
            | inr (inl j) ↦ λ g. let z : Inside ≡ Open = sym (tell.own b f) ∙ ap (term_known (r.known b)) (sym j) ∙ g in cc
            | inr (inr j) ↦ out_not_open b t (terms_out b a.after a.after_out t j)
          ]),
        )

    -- each part of a box that asks is amid as well: the boxes of the other part are refuted in it
    others_out : (w : Bool) (b : B) (q : Q) → Fine b → Asks r ds b q → Each (IsOut (r.settle (not w) b q)) (filter keep (boxes_by r ds (r.settle w b q)))
    others_out w b q f a x i =
        let l = In_filter keep (boxes_by r ds (r.settle w b q)) x i in
        let m = boxes_marked w q (apt q a.there) (r.settle w b q) (part_fine w b q f a) (tell.marks w b q f (apt q a.there) a.unknown) x l.0 in
        (m.0, tell.refutes w b x q f m.0 (apt q a.there) a.unknown m.1)

    still_out : (w : Bool) (b : B) (q : Q) (xs : List B) → Fine b → Asks r ds b q → Each (IsOut b) xs → Each (IsOut (r.settle w b q)) xs
    still_out w b q xs f a h x i = let y = h x i in (y.0, tell.stays w b x q f y.0 (apt q a.there) a.unknown y.1)

    -- the kept boxes below, part by part
    kept_parts : (b : B) (q : Q) → Fine b → Asks r ds b q → filter keep (boxes_by r ds b) ≡ filter keep (boxes_by r ds (r.settle false b q)) ++ filter keep (boxes_by r ds (r.settle true b q))
    kept_parts b q f a = ap (filter keep) (boxes_more r Fine Apt law ds apt b q f a) ∙ filter-append keep (boxes_by r ds (r.settle false b q)) (boxes_by r ds (r.settle true b q))

    amid_part : (w : Bool) (b : B) (q : Q) → Fine b → Asks r ds b q → IsAmid b → IsAmid (r.settle w b q)
    amid_part false b q f a m = record {
      before = m.before;
      after = filter keep (boxes_by r ds (r.settle true b q)) ++ m.after;
      is = m.is ∙ ap (λ l. m.before ++ (l ++ m.after)) (kept_parts b q f a)
          ∙ ap (λ l. m.before ++ l) (append_assoc (filter keep (boxes_by r ds (r.settle false b q))) (filter keep (boxes_by r ds (r.settle true b q))) m.after);
      listed = λ x j. m.listed x (subst (In x) (sym (boxes_more r Fine Apt law ds apt b q f a)) (append_left (boxes_by r ds (r.settle false b q)) (boxes_by r ds (r.settle true b q)) x j));
      before_out = still_out false b q m.before f a m.before_out;
      after_out = λ x j. elim (In_append_cases (filter keep (boxes_by r ds (r.settle true b q))) m.after x j) [
        | inl k ↦ others_out true b q f a x k
        | inr k ↦ still_out false b q m.after f a m.after_out x k
      ];
    }
    amid_part true b q f a m = record {
      before = m.before ++ filter keep (boxes_by r ds (r.settle false b q));
      after = m.after;
      is = m.is ∙ ap (λ l. m.before ++ (l ++ m.after)) (kept_parts b q f a)
          ∙ ap (λ l. m.before ++ l) (append_assoc (filter keep (boxes_by r ds (r.settle false b q))) (filter keep (boxes_by r ds (r.settle true b q))) m.after)
          ∙ sym (append_assoc m.before (filter keep (boxes_by r ds (r.settle false b q))) (filter keep (boxes_by r ds (r.settle true b q)) ++ m.after));
      listed = λ x j. m.listed x (subst (In x) (sym (boxes_more r Fine Apt law ds apt b q f a)) (append_right (boxes_by r ds (r.settle false b q)) (boxes_by r ds (r.settle true b q)) x j));
      before_out = λ x j. elim (In_append_cases m.before (filter keep (boxes_by r ds (r.settle false b q))) x j) [
        | inl k ↦ still_out true b q m.before f a m.before_out x k
        | inr k ↦ others_out false b q f a x k
      ];
      after_out = still_out true b q m.after f a m.after_out;
    }

    -- a leaf that is the box itself
    end_leaf : (b : B) (x : Ending) (l : Leaf B) → Fine b → l ≡ leaf_of b x → (x ≡ good) ⊎ ((x ≡ bare) × (keep b ≡ false) × In b bs) → IsFitting l
    end_leaf b x l f e h = subst IsFitting (sym e) (record { fine = f; ending = h })

    filter_one : (b : B) (k : Bool) → keep b ≡ k → filter keep (b ∷ []) ≡ cond k (b ∷ []) []
    filter_one b k e = ap (λ c. cond c (b ∷ []) []) e

    -- a leaf of a box that is amid fits, where those of its parts do
    box_fits : (d : ℕ) (b : B) (l : Leaf B) → Fine b → IsAmid b → In l (walk_by r ds kept_terms d b)
        → ((q : Q) → ((w : Bool) → Fine (r.settle w b q) × IsAmid (r.settle w b q)) → treatment r ds kept_terms b ≡ splits q → IsFitting l) → IsFitting l
    box_fits d b l f a i below = elim (known_cases (demands_known (r.known b) ds)) [
      | inl k ↦
          let o = amid_none b a (ap (filter keep) (boxes_outside r Fine Apt law ds apt b k)) in
          end_leaf b good l f (one_leaf d b good l (treated_is b Outside 0 None (next_question (r.known b) ds) k o.0 o.1 refl) i) (inl refl)
      | inr (inl k) ↦
          let here : filter keep (boxes_by r ds b) ≡ filter keep (b ∷ []) = ap (filter keep) (boxes_inside r Fine Apt law ds apt b k) in
          elim (cases_Bool (keep b)) [
            | inl t ↦
                let o = amid_one b f a (here ∙ filter_one b true t) in
                end_leaf b good l f (one_leaf d b good l (treated_is b Inside 1 None (next_question (r.known b) ds) k o.0 o.1 refl) i) (inl refl)
            | inr t ↦
                let o = amid_none b a (here ∙ filter_one b false t) in
                end_leaf b bare l f (one_leaf d b bare l (treated_is b Inside 0 None (next_question (r.known b) ds) k o.0 o.1 refl) i) (inr (refl, t, a.listed b (subst (In b) (sym (boxes_inside r Fine Apt law ds apt b k)) (inl refl))))
          ]
      | inr (inr k) ↦
          let n = asks r ds b k in
          below n.0 (λ w. (part_fine w b n.0 f n.1, amid_part w b n.0 f n.1 a))
          (treated_is b Open (inside_count (r.known b) kept_terms) (next_of_terms (r.known b) kept_terms) (Some n.0) k refl refl n.1.next)
    ]

    -- each leaf of a walk from such a box
    pub walk_fits : (d : ℕ) (b : B) (l : Leaf B) → Fine b → IsAmid b → In l (walk_by r ds kept_terms d b) → IsFitting l
    walk_fits zero b l f a i = box_fits 0 b l f a i (λ q p e. absurd (subst (In l) (ap (λ t. leaves_by t b (λ q. [])) e) i))
    walk_fits (suc d) b l f a i = box_fits (suc d) b l f a i (λ q p e.
        elim (In_append_cases (walk_by r ds kept_terms d (r.settle false b q)) (walk_by r ds kept_terms d (r.settle true b q)) l
        (subst (In l) (ap (λ t. leaves_by t b (λ q. walk_by r ds kept_terms d (r.settle false b q) ++ walk_by r ds kept_terms d (r.settle true b q))) e) i)) [
          | inl j ↦ walk_fits d (r.settle false b q) l (p false).0 (p false).1 j
          | inr j ↦ walk_fits d (r.settle true b q) l (p true).0 (p true).1 j
        ])
