-- What the names of children ask, as literals: blocks meet the names exactly where each literal holds.
use Rattle.std.proofs.Common.{◌≡◌, ℕ, suc, ◌+◌, ◌<◌, ◌≤◌, inl, inr, true, false, List, [], ◌∷◌, map, length, slice_get, Option, Some, None, refl, sym, ap, ◌∙◌, subst, arith}
use Rattle.av_perm.specs.Members.{In}
use Rattle.av_perm.specs.Class.{in_shortlex}
use Rattle.av_perm.specs.Relations.{block}
use Rattle.av_perm.proofs.Membership.{Each, In_append_cases, append_left, append_right, In_map, map_In}
use Rattle.av_perm.proofs.ShortlexLists.{In_shortlex, shortlex_In}
use Rattle.av_sys.specs.declared.names.Name.{Name}
use Rattle.av_sys.specs.declared.terms.Equation.{Equation}
use Rattle.av_sys.specs.declared.terms.System.{System}
use Rattle.av_sys.specs.Names.{Meets}
use Rattle.av_sys.specs.Exact.{MeansOf}
use Rattle.av_name.specs.declared.constraints.Known.TheVariants.{Inside, Outside}
use Rattle.av_split.specs.Boxes.{Question, Box, word_rules}
use Rattle.av_split.proofs.KnownFacts.{MetIf, turned_says, each_inside, one_outside}
use Rattle.av_split.proofs.WordRules.{Fine, Apt, Lies, Holds, word_meant}
use Rattle.av_build.proofs.TermShapes.{MeanAt}
use Rattle.av_walk.specs.Walk.{Literal, literal_known, term_known}
use Rattle.av_walk.specs.Leaves.{asks, child_literals, literals, name_of_equation, names_at}
use Rattle.av_check.specs.Laws.{IsWordName}

-- a literal holds of blocks
abbrev pub LiteralHolds : List (List ℕ) → Literal Question → Type 0
LiteralHolds αs l = MetIf l.required (Holds αs l.question)

-- the blocks from number i on avoid and contain what the names ask
abbrev pub Covers : List (List ℕ) → ℕ → List Name → Type 0
Covers αs i [] = Unit {0}
Covers αs i (n ∷ ns) = Meets n.avoid n.require (block αs i) × Covers αs (suc i) ns

-- what holds of the literals of each word of a name holds of all of its literals
pub child_each : (P : Literal Question → Type 0) (i : ℕ) (n : Name) → Each (λ w. P (asks false i w)) n.avoid → Each (λ w. P (asks true i w)) n.require → Each P (child_literals i n)
child_each P i n a r l k = elim (In_append_cases (map (asks false i) (in_shortlex n.avoid)) (map (asks true i) (in_shortlex n.require)) l k) [
  | inl j ↦ let s = In_map (asks false i) (in_shortlex n.avoid) l j in subst P (sym s.2) (a s.0 (shortlex_In n.avoid s.0 s.1))
  | inr j ↦ let s = In_map (asks true i) (in_shortlex n.require) l j in subst P (sym s.2) (r s.0 (shortlex_In n.require s.0 s.1))
]

-- and those are among them
pub avoided_asked : (i : ℕ) (n : Name) → Each (λ w. In (asks false i w) (child_literals i n)) n.avoid
avoided_asked i n w k = append_left (map (asks false i) (in_shortlex n.avoid)) (map (asks true i) (in_shortlex n.require)) (asks false i w) (map_In (asks false i) (in_shortlex n.avoid) w (In_shortlex n.avoid w k))

pub required_asked : (i : ℕ) (n : Name) → Each (λ w. In (asks true i w) (child_literals i n)) n.require
required_asked i n w k = append_right (map (asks false i) (in_shortlex n.avoid)) (map (asks true i) (in_shortlex n.require)) (asks true i w) (map_In (asks true i) (in_shortlex n.require) w (In_shortlex n.require w k))

module _ (αs : List (List ℕ)) where
  -- blocks that meet the names make each literal hold
  pub covers_hold : (i : ℕ) (ns : List Name) → Covers αs i ns → Each (LiteralHolds αs) (literals i ns)
  covers_hold i [] c l k = absurd k
  covers_hold i (n ∷ ns) c l k = elim (In_append_cases (child_literals i n) (literals (suc i) ns) l k) [
    | inl j ↦ child_each (LiteralHolds αs) i n (λ w h. c.0.avoids w h) (λ w h. c.0.contains w h) l j
    | inr j ↦ covers_hold (suc i) ns c.1 l j
  ]

  -- and where each holds they meet the names
  pub hold_covers : (i : ℕ) (ns : List Name) → Each (LiteralHolds αs) (literals i ns) → Covers αs i ns
  hold_covers i [] h = tt
  hold_covers i (n ∷ ns) h =
      let own : Each (LiteralHolds αs) (child_literals i n) = λ l k. h l (append_left (child_literals i n) (literals (suc i) ns) l k) in (
        record { avoids = λ a k. own (asks false i a) (avoided_asked i n a k); contains = λ r k. own (asks true i r) (required_asked i n r k) },
        hold_covers (suc i) ns (λ l k. h l (append_right (child_literals i n) (literals (suc i) ns) l k)),
      )

-- the questions are of the children
pub literals_apt : (k i : ℕ) (ns : List Name) → i + length ns ≤ k → Each IsWordName ns → Each (λ (l : Literal Question). Apt k l.question) (literals i ns)
literals_apt k i [] h w l j = absurd j
literals_apt k i (n ∷ ns) h w l j = elim (In_append_cases (child_literals i n) (literals (suc i) ns) l j) [
  | inl m ↦
      let own = w n (inl refl) in
      child_each (λ (l : Literal Question). Apt k l.question) i n (λ v g. record { child = omega arith; word = own.avoids v g }) (λ v g. record { child = omega arith; word = own.requires v g }) l m
  | inr m ↦ literals_apt k (suc i) ns (omega arith) (λ x p. w x (inr p)) l m
]

module _ (k : ℕ) (αs : List (List ℕ)) (filled : (i : ℕ) → i < k → 1 ≤ length (block αs i)) (b : Box) (fine : Fine k b) (lies : Lies k αs b) where
  -- what is known of a literal in a box is true of what lies there
  literal_says : (l : Literal Question) → Apt k l.question → (literal_known (word_rules.known b) l ≡ Inside → LiteralHolds αs l) × (literal_known (word_rules.known b) l ≡ Outside → LiteralHolds αs l → ⊥)
  literal_says l a =
      let s = (word_meant k αs filled).says b l.question fine a lies in
      turned_says l.required (word_rules.known b l.question) (Holds αs l.question) s.inside s.outside

  -- a term that is inside holds
  pub inside_holds : (t : List (Literal Question)) → Each (λ (l : Literal Question). Apt k l.question) t → term_known (word_rules.known b) t ≡ Inside → Each (LiteralHolds αs) t
  inside_holds t a e l i = (literal_says l (a l i)).0 (each_inside (literal_known (word_rules.known b)) t e l i)

  -- a term that holds isn't refuted
  pub holds_stays : (t : List (Literal Question)) → Each (λ (l : Literal Question). Apt k l.question) t → Each (LiteralHolds αs) t → term_known (word_rules.known b) t ≡ Outside → ⊥
  holds_stays t a h e = let r = one_outside (literal_known (word_rules.known b)) t e in (literal_says r.0 (a r.0 r.1)).1 r.2 (h r.0 r.1)

-- a word that means the name of an equation meets its lists
mean_meets : (o : Option Equation) (σ : List ℕ) → MeansOf o σ → Meets (name_of_equation o).avoid (name_of_equation o).require σ
mean_meets None σ m = absurd m
mean_meets (Some e) σ m = m.meets

-- words that mean the names of children meet them
mean_covers_from : (S : System) (αs : List (List ℕ)) (i : ℕ) (cs : List ℕ) (βs : List (List ℕ)) → ((j : ℕ) → block βs j ≡ block αs (i + j)) → MeanAt S cs βs → Covers αs i (names_at S cs)
mean_covers_from S αs i [] βs e m = tt
mean_covers_from S αs i (c ∷ cs) [] e m = absurd m
mean_covers_from S αs i (c ∷ cs) (β ∷ βs) e m = (
  let n : i + 0 ≡ i = omega arith in
      subst (Meets (name_of_equation (slice_get S.equations c)).avoid (name_of_equation (slice_get S.equations c)).require) (e 0 ∙ ap (block αs) n) (mean_meets (slice_get S.equations c) β m.0),
  mean_covers_from S αs (suc i) cs βs (λ j. let n : i + suc j ≡ suc i + j = omega arith in e (suc j) ∙ ap (block αs) n) m.1,
)

pub mean_covers : (S : System) (cs : List ℕ) (αs : List (List ℕ)) → MeanAt S cs αs → Covers αs 0 (names_at S cs)
mean_covers S cs αs m = mean_covers_from S αs 0 cs αs (λ j. let n : j ≡ 0 + j = omega arith in ap (block αs) n) m
