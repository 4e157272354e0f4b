-- The walk begins at the box in which nothing is avoided or required.
use Rattle.std.proofs.Common.{◌≡◌, ℕ, suc, ◌<◌, inl, inr, List, [], ◌∷◌, ◌++◌, map, length, reverse, replicate, slice_get, cond, Bool, true, false, All, Option, Some, None, refl, sym, ap, ◌∙◌, subst, append-nil}
use Rattle.std.specs.List.{flat_map}
use Rattle.std.proofs.lemmas.List.Elements.{All-nil}
use Rattle.av_perm.specs.Members.{In}
use Rattle.av_perm.specs.Lists.{same, Pointwise}
use Rattle.av_perm.specs.Word.{is_perm}
use Rattle.av_perm.specs.Relations.{IsWord}
use Rattle.av_perm.specs.Class.{in_shortlex}
use Rattle.av_perm.proofs.Membership.{Each, In_map, In_append_cases, In_flat_map, all_each}
use Rattle.av_perm.proofs.ShortlexLists.{shortlex_In}
use Rattle.av_perm.proofs.ListLaws.{get_In}
use Rattle.av_perm.proofs.PermWords.{perms_words}
use Rattle.av_sys.specs.Names.{IsMadeOfWords}
use Rattle.av_sys.specs.declared.names.Name.{Name}
use Rattle.av_sys.specs.declared.terms.Term.{Term}
use Rattle.av_sys.specs.declared.terms.Term.TheVariants.{Point, Node}
use Rattle.av_sys.specs.declared.terms.Equation.{Equation}
use Rattle.av_sys.specs.declared.terms.System.{System}
use Rattle.av_split.specs.declared.cells.Cell.{Cell}
use Rattle.av_split.specs.Split.{Demand, questions_of}
use Rattle.av_split.specs.Boxes.{Question, Box, word_rules, demands}
use Rattle.av_split.specs.Marks.{box_of, free_mark}
use Rattle.av_split.specs.Cells.{AreDemandsOf, known_at}
use Rattle.av_split.specs.Walk.{AreRows}
use Rattle.av_split.proofs.WordRules.{Apt}
use Rattle.av_split.proofs.WordDemands.{demands_apt}
use Rattle.av_split.proofs.WaysBack.{some}
use Rattle.av_split.proofs.Cutting.{free_rows, free_box}
use Rattle.av_split.specs.declared.path.Path.{Path}
use Rattle.av_walk.specs.declared.looking.State.{State}
use Rattle.av_walk.specs.Walk.{Literal, Leaf, walk}
use Rattle.av_walk.specs.Leaves.{name_of_equation, names_at, names_of_root, asks, child_literals, literals, leaves_of}
use Rattle.av_walk.specs.Numbers.{IsLiteralOf, AreLiteralsOf, AreTermsOf}
use Rattle.av_split.specs.Paths.{parts_left}
use Rattle.av_walk.specs.Paths.{asked_of, IsAptLiteral, AreCuts, Inherits, IsPath, IsWalk, left_of}
use Rattle.av_walk.proofs.GenericWalk.{questions_with}

-- what a name asks is about words
asks_words : (r : Bool) (i : ℕ) (ws : List (List ℕ)) → Each IsWord ws → (l : Literal Question) → In l (map (asks r i) (in_shortlex ws)) → IsWord l.question.word
asks_words r i ws h l j = let w = In_map (asks r i) (in_shortlex ws) l j in subst (λ (m : Literal Question). IsWord m.question.word) (sym w.2) (h w.0 (shortlex_In ws w.0 w.1))

child_words : (i : ℕ) (n : Name) → IsMadeOfWords n → (l : Literal Question) → In l (child_literals i n) → IsWord l.question.word
child_words i n h l j = elim (In_append_cases (map (asks false i) (in_shortlex n.avoid)) (map (asks true i) (in_shortlex n.require)) l j) [
  | inl k ↦ asks_words false i n.avoid (perms_words n.avoid h.avoided) l k
  | inr k ↦ asks_words true i n.require (perms_words n.require h.required) l k
]

literal_words : (i : ℕ) (ns : List Name) → Each IsMadeOfWords ns → (l : Literal Question) → In l (literals i ns) → IsWord l.question.word
literal_words i [] h l j = absurd j
literal_words i (n ∷ ns) h l j = elim (In_append_cases (child_literals i n) (literals (suc i) ns) l j) [
  | inl k ↦ child_words i n (h n (inl refl)) l k
  | inr k ↦ literal_words (suc i) ns (λ m q. h m (inr q)) l k
]

-- the names of a term's children
module _ (S : System) (named : Each (λ (e : Equation). IsMadeOfWords e.name) S.equations) where
  equation_words : (o : Option Equation) → ((e : Equation) → o ≡ Some e → In e S.equations) → IsMadeOfWords (name_of_equation o)
  equation_words None h = record { avoided = All-nil (λ w. is_perm w ≡ true); required = All-nil (λ w. is_perm w ≡ true) }
  equation_words (Some e) h = named e (h e refl)

  names_words : (cs : List ℕ) → Each IsMadeOfWords (names_at S cs)
  names_words cs n i =
      let c = In_map (λ c. name_of_equation (slice_get S.equations c)) cs n i in
      subst IsMadeOfWords (sym c.2) (equation_words (slice_get S.equations c.0) (λ e q. get_In S.equations c.0 e q))

  root_words : (root : List ℕ) (ts : List Term) (ns : List Name) → In ns (names_of_root S root ts) → Each IsMadeOfWords ns
  root_words root [] ns i = absurd i
  root_words root (Point ∷ ts) ns i = root_words root ts ns i
  root_words root (Node π cs ∷ ts) ns i = by (same π root) i (root_words root ts ns)
    where
      by : (b : Bool) → In ns (cond b (names_at S cs ∷ names_of_root S root ts) (names_of_root S root ts)) → (In ns (names_of_root S root ts) → Each IsMadeOfWords ns) → Each IsMadeOfWords ns
      by true (inl e) deeper = subst (Each IsMadeOfWords) (sym e) (names_words cs)
      by true (inr j) deeper = deeper j
      by false j deeper = deeper j

-- an item of the second list has its partner
partner : {A B : Type 0} (R : A → B → Type 0) (xs : List A) (ys : List B) (y : B) → Pointwise R xs ys → In y ys → (x : A) × R x y
partner R [] [] y p i = absurd i
partner R [] (z ∷ ys) y p i = absurd p
partner R (x ∷ xs) [] y p i = absurd p
partner R (x ∷ xs) (z ∷ ys) y p (inl e) = (x, subst (R x) (sym e) p.0)
partner R (x ∷ xs) (z ∷ ys) y p (inr i) = partner R xs ys y p.1 i

-- the terms ask about words at children of the root
pub apt_literals : (S : System) (root : List ℕ) (e : Equation) (ps : List (List ℕ)) (ts : List (List (Literal Cell))) → All (λ (e : Equation). IsMadeOfWords e.name) S.equations → AreTermsOf (length root) ps ts (asked_of S root e)
    → (t : List (Literal Question)) → In t (asked_of S root e) → (l : Literal Question) → In l t → IsAptLiteral (length root) l
apt_literals S root e ps ts named terms t i l j = (child, word)
  where
    child : l.question.child < length root
    child =
        let u = partner (AreLiteralsOf (length root) ps) ts (asked_of S root e) t terms i in
        let m = partner (IsLiteralOf (length root) ps) u.0 t l u.1 j in
        subst (λ (q : Question). q.child < length root) m.1.question.question m.1.question.child

    word : IsWord l.question.word
    word =
        let ns = In_map (literals 0) (names_of_root S root e.terms) t i in
        literal_words 0 ns.0 (root_words S (all_each (λ (e : Equation). IsMadeOfWords e.name) S.equations named) root e.terms ns.0 ns.1) l (subst (In l) ns.2 j)

-- all questions are apt
pub apt_questions : (π : List ℕ) (A R : List (List ℕ)) (us : List (List (Literal Question))) → Each IsWord A → Each IsWord R
    → ((t : List (Literal Question)) → In t us → (l : Literal Question) → In l t → IsAptLiteral (length π) l)
    → Each (Apt (length π)) (questions_with (demands π A R) us)
apt_questions π A R us ga gr h q i = elim (In_append_cases (questions_of (demands π A R)) (flat_map (λ (t : List (Literal Question)). map (λ (l : Literal Question). l.question) t) us) q i) [
  | inl j ↦ demands_apt π A R ga gr q j
  | inr j ↦
      let t = In_flat_map (λ (t : List (Literal Question)). map (λ (l : Literal Question). l.question) t) us q j in
      let l = In_map (λ (l : Literal Question). l.question) t.0 q t.2 in
      let a = h t.0 t.1 l.0 l.1 in
      subst (Apt (length π)) (sym l.2) (record { child = a.0; word = a.1 })
]

-- at the start the path leads to that box, with no cut
pub starts : (S : System) (root : List ℕ) (e : Equation) (ps : List (List ℕ)) (ds : List (Demand Cell)) (ts : List (List (Literal Cell))) (p : Path State) → Each IsWord e.name.avoid → Each IsWord e.name.require → All (λ (e : Equation). IsMadeOfWords e.name) S.equations
    → AreDemandsOf (length root) ps ds (demands root e.name.avoid e.name.require) → AreTermsOf (length root) ps ts (asked_of S root e) → p.rows.items ≡ replicate (length root) (map free_mark ps) → p.turns.items ≡ []
    → IsWalk root e.name.avoid e.name.require (asked_of S root e) ps ds ts (Some p) × (left_of (demands root e.name.avoid e.name.require) (asked_of S root e) ps (Some p) ≡ leaves_of S root e)
starts S root e ps ds ts p ga gr named cells terms is t = (
  record {
    avoid = ga;
    require = gr;
    literals = apt_literals S root e ps ts named terms;
    cells = cells;
    terms = terms;
    path = λ q s. subst (IsPath (length root) ps ds ts) (some s) (record {
      marks = subst (AreRows (length root) ps) (sym is) (free_rows (length root) ps);
      known = subst (λ l. Inherits (known_at p.rows.items) ds ts (reverse l)) (sym t) tt;
      cuts = subst (λ l. AreCuts (length root) ps ds ts (reverse l) p.rows.items) (sym t) tt;
    });
  },
  ap (λ l. W (box_of ps p.rows.items) ++ flat_map W (parts_left ps (reverse l) p.rows.items)) t
      ∙ append-nil (W (box_of ps p.rows.items))
      ∙ ap W (ap (box_of ps) is ∙ free_box (length root) ps),
)
  where
    W : Box → List (Leaf Box)
    W = walk word_rules (demands root e.name.avoid e.name.require) (asked_of S root e)
