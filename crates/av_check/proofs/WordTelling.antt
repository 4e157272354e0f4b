-- The names of a box's children as a term: it is inside in its own box, and refuted in the other part of each split on its way.
use Rattle.std.proofs.Common.{◌≡◌, ℕ, zero, suc, ◌+◌, ◌<◌, ◌≤◌, inl, inr, List, [], ◌∷◌, map, length, replicate, Bool, true, false, not, refl, sym, ap, ◌∙◌, subst, arith}
use Rattle.std.proofs.lemmas.List.{get_or-replicate}
use Rattle.av_perm.specs.Members.{In}
use Rattle.av_perm.specs.Relations.{IsWord}
use Rattle.av_perm.proofs.Membership.{Each, In_append_cases, append_left, append_right}
use Rattle.av_perm.proofs.Containment.{contains_same, contains_trans, contains_length}
use Rattle.av_perm.proofs.MinimalWords.{minimal_is}
use Rattle.av_perm.proofs.Occurrences.{contains_from, contains_to}
use Rattle.av_sys.specs.declared.names.Sign.{Sign}
use Rattle.av_sys.specs.declared.names.Sign.TheVariants.{C}
use Rattle.av_sys.specs.declared.names.Constraint.{Constraint}
use Rattle.av_name.specs.declared.constraints.Known.{Known}
use Rattle.av_name.specs.declared.constraints.Known.TheVariants.{Inside, Outside, Open}
use Rattle.av_name.specs.Constraints.{free, known_of}
use Rattle.av_name.proofs.KnownPatterns.{inside_is, outside_is, open_is}
use Rattle.av_name.proofs.Growth.{IsFit, avoid_has, require_has}
use Rattle.av_split.specs.Split.{both, turned, all_of}
use Rattle.av_split.specs.Boxes.{Question, Box, child_of, added, word_rules}
use Rattle.av_split.specs.Marks.{once, side}
use Rattle.av_split.specs.Laws.{IsTidy}
use Rattle.av_split.proofs.KnownFacts.{one_outside}
use Rattle.av_split.proofs.GenericSplit.{Lawful}
use Rattle.av_split.proofs.WordRules.{stands, added_known, Fine, Apt, same_child, changed_child, word_law}
use Rattle.av_split.proofs.WordSplit.{start_fine}
use Rattle.av_split.proofs.PassedDemands.{outside_one}
use Rattle.av_build.specs.Drafts.{name_of, child_names}
use Rattle.av_walk.specs.Walk.{Literal, literal_known}
use Rattle.av_walk.specs.Leaves.{asks, child_literals, literals}
use Rattle.av_check.proofs.NameLiterals.{child_each, avoided_asked, required_asked}
use Rattle.av_check.proofs.GoodWalk.{Refuted, Telling}

-- where each is inside all are, and where some is refuted all are
all_is_inside : {A : Type 0} (f : A → Known) (xs : List A) → Each (λ x. f x ≡ Inside) xs → all_of f xs ≡ Inside
all_is_inside f [] h = refl
all_is_inside f (x ∷ xs) h = ap (λ k. both k (all_of f xs)) (h x (inl refl)) ∙ all_is_inside f xs (λ y i. h y (inr i))

-- the required words of a constraint, or the avoided ones
abbrev pub words_of : Bool → Constraint → List (List ℕ)
words_of true c = c.require
words_of false c = c.avoid

-- the literals of a box
abbrev pub box_term : Sign → Box → List (Literal Question)
box_term first box = literals 0 (child_names first box)

-- the signs don't matter
plain : (first : Sign) (i : ℕ) (box : Box) → literals i (child_names first box) ≡ literals i (map (name_of C) box)
plain first i [] = refl
plain first i (c ∷ box) = refl

-- what holds of the literals of each word of each constraint holds of all
each_from : (P : Literal Question → Type 0) (i : ℕ) (box : Box) → ((w : Bool) (j : ℕ) → j < length box → Each (λ a. P (asks w (i + j) a)) (words_of w (child_of box j))) → Each P (literals i (map (name_of C) box))
each_from P i [] h l k = absurd k
each_from P i (c ∷ box) h l k = elim (In_append_cases (child_literals i (name_of C c)) (literals (suc i) (map (name_of C) box)) l k) [
  | inl j ↦ let n : i + 0 ≡ i = omega arith in child_each P i (name_of C c) (λ a m. subst (λ x. P (asks false x a)) n (h false 0 (omega arith) a m)) (λ a m. subst (λ x. P (asks true x a)) n (h true 0 (omega arith) a m)) l j
  | inr j ↦ each_from P (suc i) box (λ w m g a t. let n : i + suc m ≡ suc i + m = omega arith in subst (λ x. P (asks w x a)) n (h w (suc m) (omega arith) a t)) l j
]

pub box_each : (P : Literal Question → Type 0) (first : Sign) (box : Box) → ((w : Bool) (j : ℕ) → j < length box → Each (λ a. P (asks w j a)) (words_of w (child_of box j))) → Each P (box_term first box)
box_each P first box h l i = each_from P 0 box (λ w j g a m. let n : j ≡ 0 + j = omega arith in subst (λ x. P (asks w x a)) n (h w j g a m)) l (subst (In l) (plain first 0 box) i)

-- and these literals are among them
child_asked : (w : Bool) (i : ℕ) (c : Constraint) → Each (λ a. In (asks w i a) (child_literals i (name_of C c))) (words_of w c)
child_asked true i c = required_asked i (name_of C c)
child_asked false i c = avoided_asked i (name_of C c)

asked_from : (w : Bool) (i j : ℕ) (box : Box) → j < length box → Each (λ a. In (asks w (i + j) a) (literals i (map (name_of C) box))) (words_of w (child_of box j))
asked_from w i j [] h a m = absurd (omega arith)
asked_from w i zero (c ∷ box) h a m =
    let n : i ≡ i + 0 = omega arith in
    subst (λ x. In (asks w x a) (literals i (map (name_of C) (c ∷ box)))) n
    (append_left (child_literals i (name_of C c)) (literals (suc i) (map (name_of C) box)) (asks w i a) (child_asked w i c a m))
asked_from w i (suc j) (c ∷ box) h a m =
    let n : suc i + j ≡ i + suc j = omega arith in
    subst (λ x. In (asks w x a) (literals i (map (name_of C) (c ∷ box)))) n
    (append_right (child_literals i (name_of C c)) (literals (suc i) (map (name_of C) box)) (asks w (suc i + j) a) (asked_from w (suc i) j box (omega arith) a m))

box_asked : (w : Bool) (first : Sign) (box : Box) (j : ℕ) → j < length box → Each (λ a. In (asks w j a) (box_term first box)) (words_of w (child_of box j))
box_asked w first box j h a m =
    let n : 0 + j ≡ j = omega arith in
    subst (In (asks w j a)) (sym (plain first 0 box)) (subst (λ x. In (asks w x a) (literals 0 (map (name_of C) box))) n (asked_from w 0 j box h a m))

-- words of two entries or more
abbrev AreLong : List (List ℕ) → Type 0
AreLong = Each (λ (w : List ℕ). 2 ≤ length w)

-- a fine box whose avoided words have two entries or more
pub record IsLong (k : ℕ) (b : Box) : Type 0 where
  pub fine : Fine k b
  pub long : (i : ℕ) → i < k → Each (λ (w : List ℕ). 2 ≤ length w) (child_of b i).avoid

-- an open word has two entries or more
added_long : (w : Bool) (c : Constraint) (p : List ℕ) → IsWord p → known_of c p ≡ Open → AreLong c.avoid → AreLong (added w c p).avoid
added_long true c p g o h = h
added_long false c p g o h = λ v i. by v ((minimal_is (p ∷ c.avoid) v).0 i).member
  where
    two : 2 ≤ length p
    two = let no_one : length p ≡ 1 → ⊥ = λ e. (open_is c p o).0 (inl e) in omega (arith, g.filled, no_one)

    by : (v : List ℕ) → In v (p ∷ c.avoid) → 2 ≤ length v
    by v (inl e) = subst (λ x. 2 ≤ length x) (sym e) two
    by v (inr j) = h v j

-- the rules are lawful for such boxes
pub long_law : (k : ℕ) → Lawful word_rules (IsLong k) (Apt k)
long_law k = record {
  fine = λ w b q f a o. record {
    fine = (word_law k).fine w b q f.fine a o;
    long = λ j l. changed_child (λ c. AreLong c.avoid) k b q.child j (added w (child_of b q.child) q.word) f.fine a.child (λ e. added_long w (child_of b q.child) q.word a.word o (f.long q.child a.child)) (f.long j l);
  };
  settles = λ w b q f a o. (word_law k).settles w b q f.fine a o;
  keeps = λ w b q p f a x o. (word_law k).keeps w b q p f.fine a x o;
}

-- the first box is one
pub start_long : (k : ℕ) → IsLong k (replicate k free)
start_long k = record {
  fine = start_fine k;
  long = λ i h. subst (λ (d : Constraint). AreLong d.avoid) (sym (get_or-replicate k i free free h)) (λ w j. absurd j);
}

-- what is known of a word of a constraint
own_known : (w : Bool) (c : Constraint) (a : List ℕ) → IsTidy c → AreLong c.avoid → In a (words_of w c) → known_of c a ≡ side w
own_known true c a t l i = (inside_is c a).1 (inr (a, i, contains_same a))
own_known false c a t l i = (outside_is c a).1 (
  λ r. elim r [
    | inl q ↦ omega (arith, l a i, q)
    | inr s ↦ t.clean s.0 a s.1 i s.2
  ],
  (a, i, contains_same a),
)

own_side : (w : Bool) → turned w (side w) ≡ Inside
own_side true = refl
own_side false = refl

other_side : (w : Bool) → turned w (side (not w)) ≡ Outside
other_side true = refl
other_side false = refl

-- what is known stays
once_settled : (w x : Bool) (m : Known) → (m ≡ Open → ⊥) → once w x m ≡ m
once_settled true true Inside n = refl
once_settled true true Outside n = refl
once_settled true true Open n = absurd (n refl)
once_settled true false m n = refl
once_settled false true Inside n = refl
once_settled false true Outside n = refl
once_settled false true Open n = absurd (n refl)
once_settled false false m n = refl

refuted_known : (w : Bool) (k : Known) → turned w k ≡ Outside → k ≡ Open → ⊥
refuted_known true k e o = let z : Open ≡ Outside = sym o ∙ e in cc
refuted_known false k e o = let z : Open ≡ Outside = ap (turned false) (sym o) ∙ e in cc

module _ (k : ℕ) where
  -- what is known of a question in a box stays
  known_stays : (w : Bool) (b : Box) (q p : Question) (m : Known) → IsLong k b → Apt k q → word_rules.known b q ≡ Open → (m ≡ Open → ⊥) → word_rules.known b p ≡ m → word_rules.known (word_rules.settle w b q) p ≡ m
  known_stays w b q p m f a o n e =
      let c : Constraint = child_of b q.child in
      changed_child (λ d. known_of d p.word ≡ m) k b q.child p.child (added w c q.word) f.fine a.child (λ s.
      added_known w c q.word p.word (f.fine.fit q.child a.child) a.word o
      ∙ ap (once w (stands w p.word q.word)) (subst (λ j. known_of (child_of b j) p.word ≡ m) s e)
      ∙ once_settled w (stands w p.word q.word) m n) e

  -- so a refuted term stays so
  term_stays : (w : Bool) (b : Box) (q : Question) (t : List (Literal Question)) → IsLong k b → Apt k q → word_rules.known b q ≡ Open → Refuted (word_rules.known b) t → Refuted (word_rules.known (word_rules.settle w b q)) t
  term_stays w b q t f a o e =
      let r = one_outside (literal_known (word_rules.known b)) t e in
      let l : Literal Question = r.0 in
      outside_one (literal_known (word_rules.known (word_rules.settle w b q))) t l r.1
      (ap (turned l.required) (known_stays w b q l.question (word_rules.known b l.question) f a o (refuted_known l.required (word_rules.known b l.question) r.2) refl) ∙ r.2)

-- a constraint avoids a word within the word, or requires one around it
abbrev pub HasMark : Bool → List ℕ → Constraint → Type 0
HasMark w p c = (a : List ℕ) × In a (words_of w c) × (stands w p a ≡ true)

-- so does that of a question's child
abbrev pub Marks : Bool → Question → Box → Type 0
Marks w q b = HasMark w q.word (child_of b q.child)

-- a word that joins is a mark of itself
mark_made : (w : Bool) (c : Constraint) (q : List ℕ) → IsFit c → IsWord q → HasMark w q (added w c q)
mark_made true c q f g = let r = require_has c q q f.require g (inl refl) in (r.0, r.1, contains_to r.0 q r.2)
mark_made false c q f g = let r = avoid_has c q q f.avoid g (inl refl) in (r.0, r.1, contains_to q r.0 r.2)

-- and marks stay when one joins
mark_stays : (w s : Bool) (c : Constraint) (q p : List ℕ) → IsFit c → IsWord q → HasMark s p c → HasMark s p (added w c q)
mark_stays true true c q p f g m =
    let r = require_has c q m.0 f.require g (inr m.1) in
    (r.0, r.1, contains_to r.0 p (contains_trans r.0 m.0 p r.2 (contains_from m.0 p m.2)))
mark_stays false false c q p f g m =
    let r = avoid_has c q m.0 f.avoid g (inr m.1) in
    (r.0, r.1, contains_to p r.0 (contains_trans p m.0 r.0 (contains_from p m.0 m.2) r.2))
mark_stays true false c q p f g m = m
mark_stays false true c q p f g m = m

-- what tells of a marked word tells the opposite of its mark
other_stands : (w : Bool) (q a : List ℕ) → stands (not w) a q ≡ stands w q a
other_stands true q a = refl
other_stands false q a = refl

-- of a word around an open one it isn't known that it is contained, and of one within it not that it is avoided
unless_open : (w : Bool) (c : Constraint) (q a : List ℕ) → IsWord q → known_of c q ≡ Open → stands w q a ≡ true → known_of c a ≡ side w → ⊥
unless_open true c q a g o s e =
    let h = contains_from a q s in
    elim ((inside_is c a).0 e) [
      | inl one ↦ (open_is c q o).0 (inl (let l = contains_length a q h in omega (arith, g.filled)))
      | inr r ↦ (open_is c q o).0 (inr (r.0, r.1, contains_trans r.0 a q r.2 h))
    ]
unless_open false c q a g o s e =
    let r = ((outside_is c a).0 e).1 in
    (open_is c q o).1 (r.0, r.1, contains_trans q a r.0 (contains_from q a s) r.2)

once_told : (w : Bool) (m : Known) → (m ≡ side w → ⊥) → once (not w) true m ≡ side (not w)
once_told true Inside n = absurd (n refl)
once_told true Outside n = refl
once_told true Open n = refl
once_told false Inside n = refl
once_told false Outside n = absurd (n refl)
once_told false Open n = refl

module _ (k : ℕ) (first : Sign) where
  -- a box below one part is refuted in the other
  marked_refuted : (w : Bool) (b x : Box) (q : Question) → IsLong k b → IsLong k x → Apt k q → word_rules.known b q ≡ Open → Marks w q x → Refuted (word_rules.known (word_rules.settle (not w) b q)) (box_term first x)
  marked_refuted w b x q f g a o m =
      let c : Constraint = child_of b q.child in
      let n = g.fine.count in
      let h = a.child in
      let told : word_rules.known (word_rules.settle (not w) b q) (record { child = q.child; word = m.0 }) ≡ side (not w) =
      ap (λ d. known_of d m.0) (same_child b q.child (added (not w) c q.word) k f.fine a.child)
      ∙ added_known (not w) c q.word m.0 (f.fine.fit q.child a.child) a.word o
      ∙ ap (λ t. once (not w) t (known_of c m.0)) (other_stands w q.word m.0 ∙ m.2)
      ∙ once_told w (known_of c m.0) (unless_open w c q.word m.0 a.word o m.2) in
      outside_one (literal_known (word_rules.known (word_rules.settle (not w) b q))) (box_term first x) (asks w q.child m.0) (box_asked w first x q.child (omega arith) m.0 m.1)
      (ap (turned w) told ∙ other_side w)

  -- so the boxes and their terms are such
  pub word_tell : Telling word_rules (IsLong k) (Apt k) (box_term first) Marks
  word_tell = record {
    own = λ b f. all_is_inside (literal_known (word_rules.known b)) (box_term first b) (box_each (λ l. literal_known (word_rules.known b) l ≡ Inside) first b (λ w j h a i.
        let g = f.fine.count in
        ap (turned w) (own_known w (child_of b j) a (f.fine.tidy j (omega arith)) (f.long j (omega arith)) i) ∙ own_side w));
    stays = λ w b x q f g a o e. term_stays k w b q (box_term first x) f a o e;
    marks = λ w b q f a o. subst (HasMark w q.word) (sym (same_child b q.child (added w (child_of b q.child) q.word) k f.fine a.child)) (mark_made w (child_of b q.child) q.word (f.fine.fit q.child a.child) a.word);
    keeps = λ w s b q p f a x o m.
        changed_child (HasMark s p.word) k b q.child p.child (added w (child_of b q.child) q.word) f.fine a.child
        (λ e. mark_stays w s (child_of b q.child) q.word p.word (f.fine.fit q.child a.child) a.word (subst (λ j. HasMark s p.word (child_of b j)) e m)) m;
    refutes = marked_refuted;
  }
