-- The leaves of a root and a name, where each ends without a flaw of its own: an inflation by blocks that meet the names of a
-- term meets the name, no blocks meet those of two terms, and the blocks of an inflation that meets the name meet those of a
-- term, or lie in a leaf that is bare.
use Rattle.std.proofs.Common.{◌≡◌, ℕ, ◌⊎◌, inl, inr, List, [], ◌∷◌, map, length, replicate, refl, sym, ap, ◌∙◌, subst, arith}
use Rattle.std.specs.List.{flat_map}
use Rattle.av_perm.specs.Members.{In}
use Rattle.av_perm.specs.Relations.{IsWord, AreBlocks, inflate}
use Rattle.av_perm.proofs.Membership.{Each, SomeIn, In_append_cases, In_map, map_In, In_flat_map}
use Rattle.av_sys.specs.declared.names.Name.{Name}
use Rattle.av_sys.specs.Names.{Meets}
use Rattle.av_name.specs.declared.constraints.Known.TheVariants.{Inside}
use Rattle.av_name.specs.Constraints.{free}
use Rattle.av_split.specs.Split.{Demand, demands_known, questions_of}
use Rattle.av_split.specs.Boxes.{Question, Box, word_rules, demands}
use Rattle.av_split.proofs.KnownFacts.{Met, Says, demands_say}
use Rattle.av_split.proofs.GenericSplit.{Apart}
use Rattle.av_split.proofs.WordRules.{Fine, Apt, Lies, Holds, word_law, word_meant}
use Rattle.av_split.proofs.WordDemands.{demands_apt, met_meets}
use Rattle.av_split.proofs.WordSplit.{start_fine, free_lies}
use Rattle.av_build.proofs.DraftsApart.{apart_same}
use Rattle.av_walk.specs.Walk.{Literal, term_known, bare, Leaf}
use Rattle.av_walk.specs.Leaves.{literals, leaves}
use Rattle.av_walk.proofs.GenericWalk.{questions_with}
use Rattle.av_check.specs.Laws.{IsWordName, PartLaw}
use Rattle.av_check.proofs.CellTreatments.{questions_in, Stays, IsSettledLeaf, IsFair}
use Rattle.av_check.proofs.GenericWalk.{IsLeaf, walk_leaf, leaf_settled, walk_covers, leaves_apart}
use Rattle.av_check.proofs.NameLiterals.{Covers, covers_hold, hold_covers, literals_apt, inside_holds, holds_stays}

-- no two have it where no two images have what follows from it
apart_back : {A B : Type 0} (P : A → Type 0) (R : B → Type 0) (f : A → B) (xs : List A) → ((x : A) → In x xs → P x → R (f x)) → Apart R (map f xs) → Apart P xs
apart_back P R f [] h a = tt
apart_back P R f (x ∷ xs) h a = (
  λ y i p q. a.0 (f y) (map_In f xs y i) (h x (inl refl) p) (h y (inr i) q),
  apart_back P R f xs (λ y i. h y (inr i)) a.1,
)

-- what holds of the questions of a name and of those of terms holds of all questions
pub all_questions : (P : Question → Type 0) (ds : List (Demand Question)) (nss : List (List Name)) → Each P (questions_of ds)
    → ((ns : List Name) → In ns nss → Each (λ (l : Literal Question). P l.question) (literals 0 ns)) → Each P (questions_with ds (map (literals 0) nss))
all_questions P ds nss own terms q i = elim (In_append_cases (questions_of ds) (flat_map (questions_in {Q = Question}) (map (literals 0) nss)) q i) [
  | inl j ↦ own q j
  | inr j ↦
      let r = In_flat_map (questions_in {Q = Question}) (map (literals 0) nss) q j in
      let s = In_map (literals 0) nss r.0 r.1 in
      let l = In_map (λ (l : Literal Question). l.question) r.0 q r.2 in
      subst P (sym l.2) (terms s.0 s.1 l.0 (subst (In l.0) s.2 l.1))
]

module _ (π : List ℕ) (n : Name) (nss : List (List Name)) (w : IsWord π) (own : IsWordName n) (sized : Each (λ ns. length ns ≡ length π) nss) (words : Each (λ ns. Each IsWordName ns) nss) where
  abbrev ds : List (Demand Question)
  ds = demands π n.avoid n.require

  abbrev ts : List (List (Literal Question))
  ts = map (literals 0) nss

  abbrev start : Box
  start = replicate (length π) free

  -- the questions of the name and of the terms are of the children
  own_apt : Each (Apt (length π)) (questions_of ds)
  own_apt = demands_apt π n.avoid n.require own.avoids own.requires

  term_apt : (ns : List Name) → In ns nss → Each (λ (l : Literal Question). Apt (length π) l.question) (literals 0 ns)
  term_apt ns i = literals_apt (length π) 0 ns (let e = sized ns i in omega arith) (words ns i)

  all_apt : Each (Apt (length π)) (questions_with ds ts)
  all_apt = all_questions (Apt (length π)) ds nss own_apt term_apt

  -- what is so of each leaf: its cell is fine
  each_leaf : Each (IsLeaf word_rules (Fine (length π)) (Apt (length π)) (word_law (length π)) ds ts all_apt) (leaves π n nss)
  each_leaf = walk_leaf word_rules (Fine (length π)) (Apt (length π)) (word_law (length π)) ds ts all_apt start (start_fine (length π))

  pub leaf_fine : (l : Leaf Box) → In l (leaves π n nss) → Fine (length π) l.cell
  leaf_fine l i = (each_leaf l i).fine

  -- one without a flaw of its own is settled
  pub settled : (l : Leaf Box) → In l (leaves π n nss) → IsFair l.ending → IsSettledLeaf (word_rules.known l.cell) ds ts l.ending
  settled l i fair = leaf_settled word_rules (Fine (length π)) (Apt (length π)) (word_law (length π)) ds ts all_apt l (each_leaf l i) fair

  module _ (αs : List (List ℕ)) (b : AreBlocks π αs) where
    -- blocks that meet the names of a term
    abbrev pub CoversTerm : List Name → Type 0
    CoversTerm ns = Covers αs 0 ns

    -- a leaf in which they lie
    pub record IsLeafOf (l : Leaf Box) : Type 0 where
      pub listed : In l (leaves π n nss)
      pub lies : Lies (length π) αs l.cell

    -- there is one
    pub some_leaf : (l : Leaf Box) × IsLeafOf l
    some_leaf =
        let r = walk_covers word_rules (Fine (length π)) (Apt (length π)) (word_law (length π)) ds ts all_apt (Lies (length π) αs) (Holds αs) (word_meant (length π) αs b.filled) start (start_fine (length π)) (free_lies (length π) αs) in
        (r.0, record { listed = r.1; lies = r.2 })

    -- they lie in no two
    pub one_leaf : Apart (λ (l : Leaf Box). Lies (length π) αs l.cell) (leaves π n nss)
    one_leaf = leaves_apart word_rules (Fine (length π)) (Apt (length π)) (word_law (length π)) ds ts all_apt (Lies (length π) αs) (Holds αs) (word_meant (length π) αs b.filled) start (start_fine (length π))

    module _ (l : Leaf Box) (leaf : IsLeafOf l) (fair : IsFair l.ending) where
      fine : Fine (length π) l.cell
      fine = leaf_fine l leaf.listed

      is_settled : IsSettledLeaf (word_rules.known l.cell) ds ts l.ending
      is_settled = settled l leaf.listed fair

      -- what is known of the demands in the cell is true of the inflation
      says : Says (demands_known (word_rules.known l.cell)) (Each (Met (Holds αs))) ds
      says = demands_say (word_rules.known l.cell) (Holds αs) ds (λ q i. (word_meant (length π) αs b.filled).says l.cell q fine (own_apt q i) leaf.lies)

      covers_stays : (ns : List Name) → In ns nss → CoversTerm ns → Stays (word_rules.known l.cell) (literals 0 ns)
      covers_stays ns i c = holds_stays (length π) αs b.filled l.cell fine leaf.lies (literals 0 ns) (term_apt ns i) (covers_hold αs 0 ns c)

      -- blocks that meet the names of a term make an inflation that meets the name
      pub term_sound : (ns : List Name) → In ns nss → CoversTerm ns → Meets n.avoid n.require (inflate π αs)
      term_sound ns i c = elim is_settled.demands [
        | inl k ↦ absurd (covers_stays ns i c (k.1 (literals 0 ns) (map_In (literals 0) nss ns i)))
        | inr k ↦ (met_meets π n.avoid n.require αs w b).0 (says.inside k)
      ]

      -- they don't meet those of two
      pub terms_apart : Apart CoversTerm nss
      terms_apart = apart_back CoversTerm (Stays (word_rules.known l.cell)) (literals 0) nss covers_stays is_settled.apart

      -- the blocks of an inflation that meets the name meet those of one, or the leaf is bare
      pub term_complete : Meets n.avoid n.require (inflate π αs) → SomeIn CoversTerm nss ⊎ (l.ending ≡ bare)
      term_complete m = elim is_settled.demands [
        | inl k ↦ absurd (says.outside k.0 ((met_meets π n.avoid n.require αs w b).1 m))
        | inr k ↦ elim (is_settled.served k) [
          | inl s ↦
              let r = In_map (literals 0) nss s.0 s.1 in
              let e : term_known (word_rules.known l.cell) (literals 0 r.0) ≡ Inside = ap (term_known (word_rules.known l.cell)) (sym r.2) ∙ s.2 in
              inl (r.0, r.1, hold_covers αs 0 r.0 (inside_holds (length π) αs b.filled l.cell fine leaf.lies (literals 0 r.0) (term_apt r.0 r.1) e))
          | inr e ↦ inr e
        ]
      ]

-- each list of blocks lies in one leaf, and in no two
pub part_law : PartLaw
part_law π n nss αs w own sized words b = record {
  some = let l = some_leaf π n nss w own sized words αs b in (l.0, l.1.listed, l.1.lies);
  once = λ i j l m e f x y. apart_same (λ (l : Leaf Box). Lies (length π) αs l.cell) (leaves π n nss) i j l m (one_leaf π n nss w own sized words αs b) e f x y;
}
