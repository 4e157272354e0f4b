-- Rows of marks and the constraints that they stand for.
use Rattle.std.proofs.Common.{◌≡◌, ℕ, zero, suc, ◌<◌, ◌==◌, ◌⊎◌, inl, inr, ◌↔◌, List, [], ◌∷◌, length, get_or, map, Bool, true, false, cond, ◌&&◌, ◌||◌, refl, sym, ap, ap₂, ◌∙◌, subst, arith}
use Rattle.std.proofs.lemmas.Bool.{cases_Bool, eqb-true, eq-eqb}
use Rattle.std.proofs.lemmas.List.{get_or-map, length-map}
use Rattle.av_perm.specs.Members.{In, Ascending}
use Rattle.av_perm.specs.Word.{shortlex}
use Rattle.av_perm.specs.WordOrder.{shortlex_total}
use Rattle.av_perm.specs.Contain.{contains}
use Rattle.av_perm.specs.Class.{in_shortlex}
use Rattle.av_perm.specs.Relations.{IsWord, Contains}
use Rattle.av_perm.proofs.Ascending.{ascending_same}
use Rattle.av_perm.proofs.ShortlexLists.{In_shortlex, shortlex_In, shortlex_ascending}
use Rattle.av_perm.proofs.Occurrences.{contains_from, contains_to}
use Rattle.av_perm.proofs.Containment.{contains_same}
use Rattle.av_perm.proofs.MinimalWords.{minimal_is, maximal_is, minimal_ascending, maximal_ascending}
use Rattle.av_sys.specs.declared.names.Constraint.{Constraint}
use Rattle.av_name.specs.declared.constraints.Known.TheVariants.{Inside, Open as Unknown}
use Rattle.av_name.specs.Constraints.{free, known_of, known_by}
use Rattle.av_name.proofs.KnownPatterns.{open_is}
use Rattle.av_name.proofs.Growth.{IsFit}
use Rattle.av_split.specs.declared.rows.Mark.{Mark}
use Rattle.av_split.specs.Boxes.{added}
use Rattle.av_split.specs.Laws.{IsTidy}
use Rattle.av_split.specs.Marks.{unmarked, once, is_side, is_named, next_mark, relates, IsSettledRow, named, constraint_of, free_mark}
use Rattle.av_split.specs.Walk.{IsRow}
use Rattle.av_split.proofs.WordRules.{stands, stands_itself, added_known, added_fit, added_tidy}
use Rattle.av_split.proofs.WordSplit.{free_tidy, free_fit}

-- a pattern of the row is a required word of the constraint, or an avoided one
pub record Has (r : Bool) (ps : List (List ℕ)) (row : List Mark) (w : List ℕ) : Type 0 where
  pub place : ℕ
  pub there : place < length ps
  pub mark : is_named r (get_or row place unmarked) ≡ true
  pub word : w ≡ get_or ps place []

pub In_named : (r : Bool) (ps : List (List ℕ)) (row : List Mark) (w : List ℕ) → In w (named r ps row) → Has r ps row w
In_named r [] row w i = absurd i
In_named r (v ∷ ps) [] w i = absurd i
In_named r (v ∷ ps) (m ∷ row) w i = elim (cases_Bool (is_named r m)) [
  | inl e ↦ here e (In_named r ps row w) (subst (λ b. In w (cond b (v ∷ named r ps row) (named r ps row))) e i)
  | inr e ↦ later (In_named r ps row w (subst (λ b. In w (cond b (v ∷ named r ps row) (named r ps row))) e i))
]
  where
    later : Has r ps row w → Has r (v ∷ ps) (m ∷ row) w
    later h = record { place = suc h.place; there = let t = h.there in omega arith; mark = h.mark; word = h.word }

    here : is_named r m ≡ true → (In w (named r ps row) → Has r ps row w) → In w (v ∷ named r ps row) → Has r (v ∷ ps) (m ∷ row) w
    here e f (inl q) = record { place = 0; there = omega arith; mark = e; word = q }
    here e f (inr j) = later (f j)

pub named_In : (r : Bool) (ps : List (List ℕ)) (row : List Mark) (i : ℕ) → i < length ps → length row ≡ length ps → is_named r (get_or row i unmarked) ≡ true → In (get_or ps i []) (named r ps row)
named_In r [] row i h s e = absurd (omega arith)
named_In r (v ∷ ps) [] i h s e = absurd (omega arith)
named_In r (v ∷ ps) (m ∷ row) zero h s e = subst (λ b. In v (cond b (v ∷ named r ps row) (named r ps row))) (sym e) (inl refl)
named_In r (v ∷ ps) (m ∷ row) (suc i) h s e = by (is_named r m) (named_In r ps row i (omega arith) (omega arith) e)
  where
    by : (b : Bool) → In (get_or ps i []) (named r ps row) → In (get_or ps i []) (cond b (v ∷ named r ps row) (named r ps row))
    by true j = inr j
    by false j = j

-- the words of the constraint
pub has_In : (r : Bool) (ps : List (List ℕ)) (row : List Mark) (w : List ℕ) → length row ≡ length ps → Has r ps row w → In w (in_shortlex (named r ps row))
has_In r ps row w s h = In_shortlex (named r ps row) w (subst (λ v. In v (named r ps row)) (sym h.word) (named_In r ps row h.place h.there s h.mark))

pub In_has : (r : Bool) (ps : List (List ℕ)) (row : List Mark) (w : List ℕ) → In w (in_shortlex (named r ps row)) → Has r ps row w
In_has r ps row w i = In_named r ps row w (shortlex_In (named r ps row) w i)

-- the required words of a constraint, or the avoided ones
abbrev pub words : Bool → Constraint → List (List ℕ)
words true c = c.require
words false c = c.avoid

pub words_of : (r : Bool) (ps : List (List ℕ)) (row : List Mark) → words r (constraint_of ps row) ≡ in_shortlex (named r ps row)
words_of true ps row = refl
words_of false ps row = refl

-- a pattern that a required word contains is required too, and one that contains an avoided word is avoided too
abbrev pub Stands : Bool → List ℕ → List ℕ → Type 0
Stands true w v = Contains v w
Stands false w v = Contains w v

pub relates_is : (r : Bool) (ps : List (List ℕ)) (n i : ℕ) → relates r ps n i ≡ stands r (get_or ps i []) (get_or ps n [])
relates_is true ps n i = refl
relates_is false ps n i = refl

pub stands_same : (r : Bool) (w : List ℕ) → Stands r w w
stands_same true w = contains_same w
stands_same false w = contains_same w

pub not_stands : (r : Bool) (w v : List ℕ) → stands r w v ≡ false → Stands r w v → ⊥
not_stands true w v e c = let k = contains_to v w c in cc
not_stands false w v e c = let k = contains_to w v c in cc

pub stands_not : (r : Bool) (w v : List ℕ) → (Stands r w v → ⊥) → stands r w v ≡ false
stands_not true w v n = elim (cases_Bool (contains v w)) [ inl e ↦ absurd (n (contains_from v w e)) | inr e ↦ e ]
stands_not false w v n = elim (cases_Bool (contains w v)) [ inl e ↦ absurd (n (contains_from w v e)) | inr e ↦ e ]

-- no word of the list but `w` stands for it
pub record Top (r : Bool) (ws : List (List ℕ)) (w : List ℕ) : Type 0 where
  member : In w ws
  alone : (v : List ℕ) → In v ws → Stands r w v → v ≡ w

pub top_added : (r : Bool) (c : Constraint) (p w : List ℕ) → In w (words r (added r c p)) ↔ Top r (p ∷ words r c) w
top_added true c p w = (
  λ i. let m = (maximal_is (p ∷ c.require) w).0 i in record { member = m.member; alone = m.greatest },
  λ t. (maximal_is (p ∷ c.require) w).1 (record { member = t.member; greatest = t.alone }),
)
top_added false c p w = (
  λ i. let m = (minimal_is (p ∷ c.avoid) w).0 i in record { member = m.member; alone = m.least },
  λ t. (minimal_is (p ∷ c.avoid) w).1 (record { member = t.member; least = t.alone }),
)

pub top_tidy : (r : Bool) (c : Constraint) (w v : List ℕ) → IsTidy c → In w (words r c) → In v (words r c) → Stands r w v → v ≡ w
top_tidy true c w v t i j s = ((maximal_is c.require w).0 (subst (In w) (sym t.maximal) i)).greatest v j s
top_tidy false c w v t i j s = ((minimal_is c.avoid w).0 (subst (In w) (sym t.minimal) i)).least v j s

-- where nothing is known of the pattern, no word of the constraint stands for it, nor it for one of the other kind
pub none_stands : (r : Bool) (c : Constraint) (p a : List ℕ) → known_of c p ≡ Unknown → In a (words r c) → Stands r p a → ⊥
none_stands true c p a o i s = (open_is c p o).0 (inr (a, i, s))
none_stands false c p a o i s = (open_is c p o).1 (a, i, s)

-- the words of a constraint once one more is required, or avoided
abbrev pub Joins : Bool → Bool → Constraint → List ℕ → List ℕ → Type 0
Joins r r' c p w = ((w ≡ p) × (r' ≡ r)) ⊎ (In w (words r' c) × (Stands r w p → ⊥))

pub same_from : (r : Bool) (c : Constraint) (p w : List ℕ) → known_of c p ≡ Unknown → In w (words r (added r c p)) → Joins r r c p w
same_from r c p w o i = by m.member
  where
    m : Top r (p ∷ words r c) w
    m = (top_added r c p w).0 i

    by : In w (p ∷ words r c) → Joins r r c p w
    by (inl e) = inl (e, refl)
    by (inr j) = inr (j, λ s. none_stands r c p w o j (subst (λ v. Stands r v w) (sym (m.alone p (inl refl) s)) (stands_same r w)))

pub same_to : (r : Bool) (c : Constraint) (p w : List ℕ) → IsTidy c → known_of c p ≡ Unknown → Joins r r c p w → In w (words r (added r c p))
same_to r c p w t o (inl e) = (top_added r c p w).1 (record { member = inl e.0; alone = λ v i s. by v i (subst (λ x. Stands r x v) e.0 s) })
  where
    by : (v : List ℕ) → In v (p ∷ words r c) → Stands r p v → v ≡ w
    by v (inl q) s = q ∙ sym e.0
    by v (inr j) s = absurd (none_stands r c p v o j s)
same_to r c p w t o (inr h) = (top_added r c p w).1 (record { member = inr h.0; alone = λ v i s. by v i s })
  where
    by : (v : List ℕ) → In v (p ∷ words r c) → Stands r w v → v ≡ w
    by v (inl q) s = absurd (h.1 (subst (Stands r w) q s))
    by v (inr j) s = top_tidy r c w v t h.0 j s

pub joins_from : (r r' : Bool) (c : Constraint) (p w : List ℕ) → known_of c p ≡ Unknown → In w (words r' (added r c p)) → Joins r r' c p w
joins_from true true c p w o i = same_from true c p w o i
joins_from false false c p w o i = same_from false c p w o i
joins_from true false c p w o i = inr (i, λ s. (open_is c p o).1 (w, i, s))
joins_from false true c p w o i = inr (i, λ s. (open_is c p o).0 (inr (w, i, s)))

pub joins_to : (r r' : Bool) (c : Constraint) (p w : List ℕ) → IsTidy c → known_of c p ≡ Unknown → Joins r r' c p w → In w (words r' (added r c p))
joins_to true true c p w t o j = same_to true c p w t o j
joins_to false false c p w t o j = same_to false c p w t o j
joins_to true false c p w t o (inl e) = absurd (let q = e.1 in cc)
joins_to true false c p w t o (inr h) = h.0
joins_to false true c p w t o (inl e) = absurd (let q = e.1 in cc)
joins_to false true c p w t o (inr h) = h.0

-- a row whose marks have the words of a tidy constraint stands for it
pub words_ascend : (r : Bool) (c : Constraint) → IsTidy c → Ascending shortlex (words r c)
words_ascend true c t = subst (Ascending shortlex) t.maximal (maximal_ascending c.require)
words_ascend false c t = subst (Ascending shortlex) t.minimal (minimal_ascending c.avoid)

pub stands_for : (ps : List (List ℕ)) (row : List Mark) (c : Constraint) → length row ≡ length ps → IsTidy c → ((r : Bool) (w : List ℕ) → Has r ps row w ↔ In w (words r c)) → constraint_of ps row ≡ c
stands_for ps row c s t h = ap₂ (λ (a q : List (List ℕ)). record { avoid = a; require = q }) (same false) (same true)
  where
    same : (r : Bool) → in_shortlex (named r ps row) ≡ words r c
    same r =
        ascending_same shortlex shortlex_total (in_shortlex (named r ps row)) (words r c) (shortlex_ascending (named r ps row)) (words_ascend r c t)
        (λ w i. (h r w).0 (In_has r ps row w i)) (λ w i. has_In r ps row w s ((h r w).1 i))

-- a row that stands for a fit and tidy constraint, whose marks are what it tells
pub row_of : (ps : List (List ℕ)) (row : List Mark) (c : Constraint) → constraint_of ps row ≡ c → length row ≡ length ps → IsFit c → IsTidy c
    → ((i : ℕ) → i < length ps → (get_or row i unmarked).known ≡ known_of c (get_or ps i [])) → IsRow ps row
row_of ps row c e l f t k =
    let g : IsFit (constraint_of ps row) = subst IsFit (sym e) f in
    record {
      size = l;
      avoid = g.avoid;
      require = g.require;
      long = g.long;
      tidy = subst IsTidy (sym e) t;
      known = λ i h. k i h ∙ ap (λ d. known_of d (get_or ps i [])) (sym e);
    }

pub row_fit : (ps : List (List ℕ)) (row : List Mark) → IsRow ps row → IsFit (constraint_of ps row)
row_fit ps row i = record { avoid = i.avoid; require = i.require; long = i.long }

-- what the next mark tells
pub next_tells : (r itself t : Bool) (m : Mark) → (next_mark r itself t m).known ≡ once r t m.known
next_tells r itself t m = grind arith

pub both_true : (a b : Bool) → (a && b) ≡ true → (a ≡ true) × (b ≡ true)
both_true a b e = grind arith

pub side_is : (r r' : Bool) → is_side r' (once r true Unknown) ≡ true → r' ≡ r
side_is r r' e = grind arith

-- which marks are those of words of the constraint
pub next_from : (r r' itself t : Bool) (m : Mark) → (itself ≡ true → m.known ≡ Unknown) → is_named r' (next_mark r itself t m) ≡ true → ((itself ≡ true) × (r' ≡ r)) ⊎ ((t ≡ false) × (is_named r' m ≡ true))
next_from r r' itself true m h e =
    let b = both_true itself (is_side r' (once r true m.known)) e in
    inl (b.0, side_is r r' (ap (λ k. is_side r' (once r true k)) (sym (h b.0)) ∙ b.1))
next_from r r' itself false m h e = inr (refl, e)

pub next_itself : (r : Bool) (m : Mark) → m.known ≡ Unknown → is_named r (next_mark r true true m) ≡ true
next_itself r m e = grind arith

-- what is known once a pattern is settled
pub settled_known : (r : Bool) (ps : List (List ℕ)) (n : ℕ) (row next : List Mark) → IsSettledRow r ps n row next → (i : ℕ) → i < length ps
    → (get_or next i unmarked).known ≡ once r (relates r ps n i) (get_or row i unmarked).known
settled_known r ps n row next s i h = ap (λ (m : Mark). m.known) (s.marks i h) ∙ next_tells r (i == n) (relates r ps n i) (get_or row i unmarked)

-- a row once pattern number `n`, of which nothing is known, is settled
module _ (r : Bool) (ps : List (List ℕ)) (n : ℕ) (row next : List Mark) (is : IsRow ps row) (h : n < length ps) (word : IsWord (get_or ps n [])) (unknown : (get_or row n unmarked).known ≡ Unknown)
    (s : IsSettledRow r ps n row next) where
  -- nothing is known of the pattern
  pub known_open : known_of (constraint_of ps row) (get_or ps n []) ≡ Unknown
  known_open = sym (is.known n h) ∙ unknown

  pub grown_tidy : IsTidy (added r (constraint_of ps row) (get_or ps n []))
  grown_tidy = added_tidy r (constraint_of ps row) (get_or ps n []) known_open is.tidy

  pub size : length next ≡ length ps
  size = s.size ∙ is.size

  pub has_from : (r' : Bool) (w : List ℕ) → Has r' ps next w → Joins r r' (constraint_of ps row) (get_or ps n []) w
  has_from r' w k = elim (next_from r r' (k.place == n) (relates r ps n k.place) (get_or row k.place unmarked) (λ e. ap (λ j. (get_or row j unmarked).known) (eqb-true k.place n e) ∙ unknown) (ap (is_named r') (sym (s.marks k.place k.there)) ∙ k.mark)) [
    | inl e ↦ inl (k.word ∙ ap (λ j. get_or ps j []) (eqb-true k.place n e.0), e.1)
    | inr e ↦ inr (
      subst (In w) (sym (words_of r' ps row)) (has_In r' ps row w is.size (record { place = k.place; there = k.there; mark = e.1; word = k.word })),
      not_stands r w (get_or ps n []) (ap (λ v. stands r v (get_or ps n [])) k.word ∙ sym (relates_is r ps n k.place) ∙ e.0),
    )
  ]

  pub has_to : (r' : Bool) (w : List ℕ) → Joins r r' (constraint_of ps row) (get_or ps n []) w → Has r' ps next w
  has_to r' w (inl e) = record {
    place = n;
    there = h;
    mark =
        ap (is_named r') (s.marks n h)
        ∙ ap₂ (λ b t. is_named r' (next_mark r b t (get_or row n unmarked))) (eq-eqb n n refl) (relates_is r ps n n ∙ stands_itself r (get_or ps n []))
        ∙ ap (λ q. is_named q (next_mark r true true (get_or row n unmarked))) e.1
        ∙ next_itself r (get_or row n unmarked) unknown;
    word = e.0;
  }
  has_to r' w (inr e) = by (In_has r' ps row w (subst (In w) (words_of r' ps row) e.0))
    where
      by : Has r' ps row w → Has r' ps next w
      by k = record {
        place = k.place;
        there = k.there;
        mark =
            ap (is_named r') (s.marks k.place k.there)
            ∙ ap (λ t. is_named r' (next_mark r (k.place == n) t (get_or row k.place unmarked)))
            (relates_is r ps n k.place ∙ ap (λ v. stands r v (get_or ps n [])) (sym k.word) ∙ stands_not r w (get_or ps n []) e.1)
            ∙ k.mark;
        word = k.word;
      }

  -- it stands for the constraint with the pattern
  pub settled_is : constraint_of ps next ≡ added r (constraint_of ps row) (get_or ps n [])
  settled_is =
      stands_for ps next (added r (constraint_of ps row) (get_or ps n [])) size grown_tidy
      (λ r' w. (
        λ k. joins_to r r' (constraint_of ps row) (get_or ps n []) w is.tidy known_open (has_from r' w k),
        λ i. has_to r' w (joins_from r r' (constraint_of ps row) (get_or ps n []) w known_open i),
      ))

  pub settled_row : IsRow ps next
  settled_row =
      row_of ps next (added r (constraint_of ps row) (get_or ps n [])) settled_is size (added_fit r (constraint_of ps row) (get_or ps n []) (row_fit ps row is) word known_open) grown_tidy
      (λ i k.
      settled_known r ps n row next s i k
      ∙ ap₂ (once r) (relates_is r ps n i) (is.known i k)
      ∙ sym (added_known r (constraint_of ps row) (get_or ps n []) (get_or ps i []) (row_fit ps row is) word known_open))

-- the row where nothing is avoided or required
pub free_is : (ps : List (List ℕ)) → constraint_of ps (map free_mark ps) ≡ free
free_is ps = stands_for ps (map free_mark ps) free (length-map ps free_mark) free_tidy (λ r w. (λ k. absurd (none k), by r w))
  where
    none : {r : Bool} {w : List ℕ} → Has r ps (map free_mark ps) w → ⊥
    none {r} k = let e = ap (is_named r) (sym (get_or-map free_mark ps k.place [] unmarked k.there)) ∙ k.mark in cc

    by : (r : Bool) (w : List ℕ) → In w (words r free) → Has r ps (map free_mark ps) w
    by true w i = absurd i
    by false w i = absurd i

pub free_row : (ps : List (List ℕ)) → IsRow ps (map free_mark ps)
unfolding known_of
free_row ps = row_of ps (map free_mark ps) free (free_is ps) (length-map ps free_mark) free_fit free_tidy
    (λ i h. ap (λ (m : Mark). m.known) (get_or-map free_mark ps i [] unmarked h) ∙ of (length (get_or ps i []) == 1))
  where
    of : (b : Bool) → cond b Inside Unknown ≡ known_by (b || false) false
    of b = grind arith
