-- The rules at words are lawful, and mean what they should: what is known of a constraint, and how one more word changes it.
use Rattle.std.proofs.Common.{◌≡◌, ℕ, ◌<◌, ◌≤◌, inl, inr, ◌↔◌, List, ◌∷◌, length, set, Bool, true, false, sym, ap, ◌∙◌, subst, arith}
use Rattle.std.proofs.lemmas.Bool.{cases_eq}
use Rattle.std.proofs.lemmas.List.{get_or-set_same, get_or-set_other, length-set}
use Rattle.av_perm.specs.Relations.{Contains, IsWord, block}
use Rattle.av_perm.proofs.Containment.{contains_decided, contains_same}
use Rattle.av_perm.proofs.Occurrences.{contains_to}
use Rattle.av_perm.proofs.MinimalWords.{minimal_again, maximal_again}
use Rattle.av_perm.specs.Contain.{contains}
use Rattle.av_sys.specs.declared.names.Constraint.{Constraint}
use Rattle.av_sys.specs.Names.{Meets}
use Rattle.av_name.specs.declared.constraints.Known.{Known}
use Rattle.av_name.specs.declared.constraints.Known.TheVariants.{Open}
use Rattle.av_name.specs.Constraints.{free, known_of}
use Rattle.av_name.proofs.KnownPatterns.{inside_says, outside_says}
use Rattle.av_name.proofs.Growth.{IsFit, avoid_fit, require_fit, known_of_avoid, known_of_require, meets_avoid, meets_require, clean_avoid, clean_require}
use Rattle.av_split.specs.Boxes.{Question, Box, child_of, added, word_rules}
use Rattle.av_split.specs.Laws.{IsTidy}
use Rattle.av_split.specs.Marks.{once}
use Rattle.av_split.proofs.KnownFacts.{MetIf}
use Rattle.av_split.proofs.GenericSplit.{Lawful, Meant}

-- `v` stands for `w`: where words are required it contains it, where they are avoided it is within
abbrev pub stands : Bool → List ℕ → List ℕ → Bool
stands true w v = contains v w
stands false w v = contains w v

pub stands_itself : (r : Bool) (w : List ℕ) → stands r w w ≡ true
stands_itself true w = contains_to w w (contains_same w)
stands_itself false w = contains_to w w (contains_same w)

-- what is known once a word is required, or avoided
pub added_known : (r : Bool) (c : Constraint) (p w : List ℕ) → IsFit c → IsWord p → known_of c p ≡ Open → known_of (added r c p) w ≡ once r (stands r w p) (known_of c w)
added_known true c p w f g o = known_of_require c p w f.require g o
added_known false c p w f g o = known_of_avoid c p w f.avoid g

pub added_fit : (r : Bool) (c : Constraint) (p : List ℕ) → IsFit c → IsWord p → known_of c p ≡ Open → IsFit (added r c p)
added_fit true c p f g o = require_fit c p f g o
added_fit false c p f g o = avoid_fit c p f g

pub added_tidy : (r : Bool) (c : Constraint) (p : List ℕ) → known_of c p ≡ Open → IsTidy c → IsTidy (added r c p)
added_tidy true c p o t = record { minimal = t.minimal; maximal = maximal_again (p ∷ c.require); clean = clean_require c p o t.clean }
added_tidy false c p o t = record { minimal = minimal_again (p ∷ c.avoid); maximal = t.maximal; clean = clean_avoid c p o t.clean }

-- what is open then was open before, and was not told of
pub once_open : (r b : Bool) (k : Known) → once r b k ≡ Open → (k ≡ Open) × (b ≡ false)
once_open r b k e = grind arith

-- boxes with `k` children
pub record Fine (k : ℕ) (b : Box) : Type 0 where
  pub count : length b ≡ k
  pub fit : (i : ℕ) → i < k → IsFit (child_of b i)
  pub tidy : (i : ℕ) → i < k → IsTidy (child_of b i)

-- a question of one of `k` children
pub record Apt (k : ℕ) (q : Question) : Type 0 where
  pub child : q.child < k
  pub word : IsWord q.word

-- the constraint that is put at a child
pub same_child : (b : Box) (i : ℕ) (c : Constraint) (k : ℕ) → Fine k b → i < k → child_of (set b i c) i ≡ c
same_child b i c k f h = get_or-set_same b i c free (omega (arith, f.count))

-- the other children stay
pub other_child : (b : Box) (i j : ℕ) (c : Constraint) → (j ≡ i → ⊥) → child_of (set b i c) j ≡ child_of b j
other_child b i j c n = get_or-set_other b i j c free n

-- what holds of the constraint that is put there, and of those that stay
pub changed_child : (P : Constraint → Type 0) (k : ℕ) (b : Box) (i j : ℕ) (c : Constraint) → Fine k b → i < k → (j ≡ i → P c) → P (child_of b j) → P (child_of (set b i c) j)
changed_child P k b i j c f h g o = elim (cases_eq j i) [
  | inl e ↦ subst (λ m. P (child_of (set b i c) m)) (sym e) (subst P (sym (same_child b i c k f h)) (g e))
  | inr n ↦ subst P (sym (other_child b i j c n)) o
]

-- a box with a new constraint for one child
pub changed_fine : (k : ℕ) (b : Box) (i : ℕ) (c : Constraint) → Fine k b → i < k → IsFit c → IsTidy c → Fine k (set b i c)
changed_fine k b i c f h g t = record {
  count = length-set b i c ∙ f.count;
  fit = λ j l. changed_child IsFit k b i j c f h (λ e. g) (f.fit j l);
  tidy = λ j l. changed_child IsTidy k b i j c f h (λ e. t) (f.tidy j l);
}

-- the rules at words are lawful
pub word_law : (k : ℕ) → Lawful word_rules (Fine k) (Apt k)
word_law k = record {
  fine = λ r b q f a o.
      changed_fine k b q.child (added r (child_of b q.child) q.word) f a.child (added_fit r (child_of b q.child) q.word (f.fit q.child a.child) a.word o)
      (added_tidy r (child_of b q.child) q.word o (f.tidy q.child a.child));
  settles = λ r b q f a o e.
      let h = once_open r (stands r q.word q.word) (known_of (child_of b q.child) q.word)
      (sym (added_known r (child_of b q.child) q.word q.word (f.fit q.child a.child) a.word o)
      ∙ subst (λ d. known_of d q.word ≡ Open) (same_child b q.child (added r (child_of b q.child) q.word) k f a.child) e) in
      true_false (sym (stands_itself r q.word) ∙ h.1);
  keeps = λ r b q p f a x o e. elim (cases_eq p.child q.child) [
    | inl h ↦
        subst (λ j. known_of (child_of b j) p.word ≡ Open) (sym h)
        (once_open r (stands r p.word q.word) (known_of (child_of b q.child) p.word)
        (sym (added_known r (child_of b q.child) q.word p.word (f.fit q.child a.child) a.word o)
        ∙ subst (λ d. known_of d p.word ≡ Open) (ap (child_of (word_rules.settle r b q)) h ∙ same_child b q.child (added r (child_of b q.child) q.word) k f a.child) e)).0
    | inr n ↦ subst (λ d. known_of d p.word ≡ Open) (other_child b q.child p.child (added r (child_of b q.child) q.word) n) e
  ];
}
  where
    true_false : true ≡ false → ⊥
    true_false e = cc

-- one list of blocks lies in a box of `k` children
abbrev pub Lies : ℕ → List (List ℕ) → Box → Type 0
Lies k αs b = (i : ℕ) → i < k → Meets (child_of b i).avoid (child_of b i).require (block αs i)

-- a question holds of it
abbrev pub Holds : List (List ℕ) → Question → Type 0
Holds αs q = Contains (block αs q.child) q.word

-- what lies in the changed box
pub changed_lies : (k : ℕ) (αs : List (List ℕ)) (b : Box) (i : ℕ) (c : Constraint) (X : Type 0) → Fine k b → i < k
    → Meets c.avoid c.require (block αs i) ↔ (Meets (child_of b i).avoid (child_of b i).require (block αs i) × X) → Lies k αs (set b i c) ↔ (Lies k αs b × X)
changed_lies k αs b i c X f h g = (
  λ l.
      let here = g.0 (subst (λ (d : Constraint). Meets d.avoid d.require (block αs i)) (same_child b i c k f h) (l i h)) in (
        λ j hj. elim (cases_eq j i) [
          | inl e ↦ subst (λ m. Meets (child_of b m).avoid (child_of b m).require (block αs m)) (sym e) here.0
          | inr n ↦ subst (λ (d : Constraint). Meets d.avoid d.require (block αs j)) (other_child b i j c n) (l j hj)
        ],
        here.1,
      ),
  λ l j hj.
      changed_child (λ (d : Constraint). Meets d.avoid d.require (block αs j)) k b i j c f h (λ e. subst (λ m. Meets c.avoid c.require (block αs m)) (sym e) (g.1 (l.0 i h, l.1))) (l.0 j hj),
)

-- what lies in the region of a constraint with one more word
pub added_meets : (r : Bool) (σ : List ℕ) (c : Constraint) (p : List ℕ) → IsFit c → IsWord p → Meets (added r c p).avoid (added r c p).require σ ↔ (Meets c.avoid c.require σ × MetIf r (Contains σ p))
added_meets true σ c p f g = meets_require σ c p f.require g
added_meets false σ c p f g = meets_avoid σ c p f.avoid g

-- what is known, and the changed boxes, mean
pub word_meant : (k : ℕ) (αs : List (List ℕ)) → ((i : ℕ) → i < k → 1 ≤ length (block αs i)) → Meant word_rules (Fine k) (Apt k) (Lies k αs) (Holds αs)
word_meant k αs filled = record {
  says = λ b q f a l. record {
    inside = inside_says (child_of b q.child) q.word (block αs q.child) (filled q.child a.child) (l q.child a.child);
    outside = outside_says (child_of b q.child) q.word (block αs q.child) (l q.child a.child);
  };
  lies = λ r b q f a o. changed_lies k αs b q.child (added r (child_of b q.child) q.word) (MetIf r (Holds αs q)) f a.child (added_meets r (block αs q.child) (child_of b q.child) q.word (f.fit q.child a.child) a.word);
  decided = λ q a. contains_decided (block αs q.child) q.word;
}
