-- The items of a lister: what is left of the ordered list before and after a step.
use Rattle.std.proofs.Common.{◌≡◌, ℕ, zero, suc, ◌+◌, ◌-◌, ◌^◌, ◌<◌, ◌≤◌, Bool, true, false, cond, List, [], ◌∷◌, ◌++◌, map, drop, take, reverse, get_or, refl, sym, ◌∙◌, ap, ap₂, subst, arith, append_assoc}
use Rattle.std.proofs.lemmas.List.{drop_all}
use Rattle.std.proofs.lemmas.Grind.{reverse_onto}
use Rattle.av_perm.specs.Word.{is_perm}
use Rattle.av_perm.proofs.PermWords.{perm_to}
use Rattle.av_sys.specs.declared.terms.System.{System}
use Rattle.av_sys.specs.Terms.{IsWellFormed}
use Rattle.av_sys.specs.TreeLists.{members_at, count_at, members}
use Rattle.av_count.specs.Choices.{pairs}
use Rattle.av_count.specs.Tables.{Stands}
use Rattle.av_count.proofs.Choices.{append_nil}
use Rattle.av_count.proofs.Members.{count_members}
use Rattle.av_tree.proofs.TreeWords.{member_word, members_are}
use Rattle.av_list.specs.declared.vertex.Vertex.{Vertex}
use Rattle.av_list.specs.Items.{ranked, items_from}
use Rattle.av_list.specs.Remaining.{listed, completions, onto, later, left}
use Rattle.av_list.specs.Words.{word_of}
use Rattle.av_list.specs.Progress.{Progress}
use Rattle.av_list.specs.Derivations.{Derives}
use Rattle.av_list.specs.Listing.{IsListing}
use Rattle.av_list.proofs.NextEntry.{Rest, rest_from, next_entry}
use Rattle.av_list.proofs.WordLaws.{listed_words}

-- what is placed, in order
pub onto_reverse : (xs ys : List Vertex) → onto xs ys ≡ reverse xs ++ ys
onto_reverse [] ys = refl
onto_reverse (x ∷ xs) ys = onto_reverse xs (x ∷ ys) ∙ sym (ap (λ z. z ++ ys) (reverse_onto xs x []) ∙ append_assoc (reverse xs) (x ∷ []) ys)

-- what is placed, the last first, in order
pub placed_is : (xs : List Vertex) → onto xs [] ≡ reverse xs
placed_is xs = onto_reverse xs [] ∙ append_nil (reverse xs)

-- nothing more after each list
pairs_last : (xs : List (List Vertex)) → pairs (λ x y. x ++ y) xs ([] ∷ []) ≡ xs
pairs_last [] = refl
pairs_last (x ∷ xs) = ap₂ (λ a b. a ∷ b) (append_nil x) (pairs_last xs)

-- at the start all trees are left
pub left_start : (S : System) (n : ℕ) → left S [] (record { equation = 0; size = n } ∷ []) ≡ listed S 0 n
left_start S n =
    append_nil (map (onto []) (completions S (record { equation = 0; size = n } ∷ []))) ∙ same (completions S (record { equation = 0; size = n } ∷ [])) ∙ pairs_last (listed S 0 n)
  where
    same : (xs : List (List Vertex)) → map (onto []) xs ≡ xs
    same [] = refl
    same (x ∷ xs) = ap (λ z. x ∷ z) (same xs)

-- a map passes by what is dropped
map_drop : {X Y : Type 0} (f : X → Y) (k : ℕ) (xs : List X) → map f (drop k xs) ≡ drop k (map f xs)
map_drop f zero xs = refl
map_drop f (suc k) [] = refl
map_drop f (suc k) (x ∷ xs) = map_drop f k xs

-- the words of the trees from a rank on
words_from : (S : System) → IsWellFormed S → (n r : ℕ) (ts : List (List Vertex)) → ts ≡ drop r (listed S 0 n) → map (word_of S) ts ≡ drop r (members_at S 0 n)
words_from S w n r ts e = ap (map (word_of S)) e ∙ map_drop (word_of S) r (listed S 0 n) ∙ ap (drop r) (listed_words S w 0 n)

-- the word of the entry, and those after it
pub entry_rest : (S : System) → IsWellFormed S → (n r : ℕ) (placed : List Vertex) → left S placed [] ≡ drop r (listed S 0 n)
    → Rest (members_at S 0 n) r (word_of S (onto placed [])) (map (word_of S) (later S placed [])) []
entry_rest S w n r placed at =
    rest_from (members_at S 0 n) r (word_of S (onto placed [])) (map (word_of S) (later S placed [])) [] (sym (words_from S w n r (left S placed []) at))

-- an entry is one of the trees
pub entry_below : (S : System) → IsWellFormed S → (n r : ℕ) (placed : List Vertex) → left S placed [] ≡ drop r (listed S 0 n) → r < count_at S 0 n
entry_below S w n r placed at = omega (arith, (entry_rest S w n r placed at).below, count_members S 0 n)

-- so there are trees
pub entry_some : (S : System) → IsWellFormed S → (n r : ℕ) (placed : List Vertex) → left S placed [] ≡ drop r (listed S 0 n) → 0 < count_at S 0 n
entry_some S w n r placed at = let h = entry_below S w n r placed at in omega arith

-- and the word of an entry is a word
pub entry_word : (S : System) → IsWellFormed S → (n r : ℕ) (placed : List Vertex) → n ≤ 160 → left S placed [] ≡ drop r (listed S 0 n) → is_perm (word_of S (onto placed [])) ≡ true
entry_word S w n r placed most at =
    let x = member_word S w 0 n r (entry_below S w n r placed at) in
    subst (λ (v : List ℕ). is_perm v ≡ true) (entry_rest S w n r placed at).here (perm_to (get_or (members_at S 0 n) r []) x.word (omega (arith, x.long)))

-- items of words

-- no words, no items
pub items_none : (r : ℕ) → items_from r [] ≡ []
items_none r = by (2 ^ 128 - r)
  where
    by : (k : ℕ) → take {A = ℕ × List ℕ} k [] ≡ []
    by zero = refl
    by (suc k) = refl

-- past the last rank there are no items
pub none_from : (S : System) (n r : ℕ) → count_at S 0 n ≤ r → items_from r (drop r (members S n)) ≡ []
none_from S n r le =
    ap (items_from r) (ap (drop r) (sym (members_are S n)) ∙ drop_all r (members_at S 0 n) (omega (arith, count_members S 0 n))) ∙ items_none r

-- the first item, and those after it
items_next : (r s : ℕ) (w : List ℕ) (ws : List (List ℕ)) → r + 1 ≡ s → r < 2 ^ 128 → items_from r (w ∷ ws) ≡ (r, w) ∷ items_from s ws
items_next r s w ws e lt =
    let a : 2 ^ 128 - r ≡ suc (2 ^ 128 - s) = omega arith in
    ap (λ k. take k (ranked r (w ∷ ws))) a ∙ ap (λ z. (r, w) ∷ take (2 ^ 128 - s) (ranked z ws)) e

-- the item of rank 2 ^ 128 - 1 is the last
items_last : (r : ℕ) (w : List ℕ) (ws : List (List ℕ)) → r + 1 ≡ 2 ^ 128 → items_from r (w ∷ ws) ≡ (r, w) ∷ []
items_last r w ws e = let a : 2 ^ 128 - r ≡ 1 = omega arith in ap (λ k. take k (ranked r (w ∷ ws))) a

-- the items from an entry on
entry_items : (S : System) → IsWellFormed S → (n r : ℕ) (placed : List Vertex) → left S placed [] ≡ drop r (listed S 0 n)
    → items_from r (drop r (members S n)) ≡ items_from r (word_of S (onto placed []) ∷ map (word_of S) (later S placed []))
entry_items S w n r placed at = ap (items_from r) (ap (drop r) (sym (members_are S n)) ∙ sym (words_from S w n r (left S placed []) at))

-- where the entry has the last rank, it is the last item
pub last_item : (S : System) → IsWellFormed S → (n r : ℕ) (placed : List Vertex) → r + 1 ≡ 2 ^ 128 → left S placed [] ≡ drop r (listed S 0 n)
    → items_from r (drop r (members S n)) ≡ (r, word_of S (onto placed [])) ∷ []
last_item S w n r placed e at = entry_items S w n r placed at ∙ items_last r (word_of S (onto placed [])) (map (word_of S) (later S placed [])) e

-- the items before and after a step
pub next_items : (S : System) → IsWellFormed S → (n r s : ℕ) (placed : List Vertex) (more : Bool) → r + 1 ≡ s → r < 2 ^ 128 → left S placed [] ≡ drop r (listed S 0 n)
    → (more ≡ false → later S placed [] ≡ []) → items_from r (drop r (members S n)) ≡ (r, word_of S (onto placed [])) ∷ cond more (items_from s (drop s (members S n))) []
next_items S w n r s placed true e lt at none =
    let q : suc r ≡ s = omega arith in
    entry_items S w n r placed at ∙ items_next r s (word_of S (onto placed [])) (map (word_of S) (later S placed [])) e lt
    ∙ ap (λ z. (r, word_of S (onto placed [])) ∷ items_from s z)
    (sym (entry_rest S w n r placed at).next ∙ ap (λ k. drop k (members_at S 0 n)) q ∙ ap (drop s) (members_are S n))
next_items S w n r s placed false e lt at none =
    entry_items S w n r placed at ∙ items_next r s (word_of S (onto placed [])) (map (word_of S) (later S placed [])) e lt
    ∙ ap (λ z. (r, word_of S (onto placed [])) ∷ z) (ap (λ z. items_from s (map (word_of S) z)) (none refl) ∙ items_none s)

-- what a lister holds

-- at its start
pub begun : (S : System) (table : Stands) (n r : ℕ) (p : Progress) (more : Bool) → IsWellFormed S → table.system ≡ S → 1 ≤ n → n ≤ table.largest → n ≤ 160 → p.size ≡ n
    → (more ≡ true → left S p.placed [] ≡ drop r (listed S 0 n)) → (more ≡ true → p.due ≡ []) → (more ≡ true → Derives S n p.placed [])
    → IsListing S table p r more
begun S table n r p more w stands least most limit size at due derives = record {
  formed = w;
  stands = stands;
  least = omega arith;
  most = omega arith;
  limit = omega arith;
  placed = λ e. record {
    due = due e;
    derives = subst (λ z. Derives S z p.placed []) (sym size) (derives e);
    entry = subst (λ z. left S p.placed [] ≡ drop r (listed S 0 z)) (sym size) (at e);
  };
}

-- after a step
pub advanced : (S : System) (table : Stands) (p q : Progress) (r s : ℕ) (more : Bool) → IsListing S table p r true → r + 1 ≡ s → q.size ≡ p.size
    → (more ≡ true → left S q.placed [] ≡ later S p.placed []) → (more ≡ true → q.due ≡ []) → (more ≡ true → Derives S p.size q.placed []) → IsListing S table q s more
advanced S table p q r s more h e size same due derives =
    begun S table p.size s q more h.formed h.stands h.least h.most h.limit size
    (λ m. next_entry S p.size r s p.placed q.placed e (h.placed refl).entry (same m)) due derives

-- the items at the start
pub begun_items : (S : System) (n size r : ℕ) (more : Bool) → size ≡ n → (more ≡ false → count_at S 0 n ≤ r)
    → cond more (items_from r (drop r (members S size))) [] ≡ items_from r (drop r (members S n))
begun_items S n size r true e none = ap (λ z. items_from r (drop r (members S z))) e
begun_items S n size r false e none = sym (none_from S n r (none refl))
