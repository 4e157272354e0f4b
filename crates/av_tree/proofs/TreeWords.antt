-- The value of each derivation tree of a well-formed system is a word, as long as the tree has points.
use Rattle.std.specs.Option.{MatchOption}
use Rattle.std.proofs.Common.{◌≡◌, ℕ, zero, suc, ◌+◌, ◌<◌, ◌≤◌, true, false, List, [], ◌∷◌, ◌++◌, map, length, get_or, refl, sym, ap, ◌∙◌, subst, arith, true≢false, Option, Some, None, is_some, slice_get}
use Rattle.std.proofs.lemmas.Bool.{and_parts}
use Rattle.std.proofs.lemmas.List.{get_or-map}
use Rattle.std.proofs.lemmas.Option.{slice_get-get_or, slice_get_past}
use Rattle.av_perm.specs.Relations.{IsWord, AreBlocks}
use Rattle.av_perm.proofs.Membership.{In_at}
use Rattle.av_perm.proofs.Inflations.{lengths, length_inflate, inflation_word}
use Rattle.av_decomp.proofs.DecompositionTrees.{AllWords, one_word}
use Rattle.av_sys.specs.declared.terms.Term.{Term}
use Rattle.av_sys.specs.declared.terms.Term.TheVariants.{Point, Node}
use Rattle.av_sys.specs.declared.terms.System.{System}
use Rattle.av_sys.specs.Terms.{term_at, children_of, IsWellFormed}
use Rattle.av_sys.specs.Trees.{Tree, Trees, none, more, are_valid, IsTree, sizes, size, size_over, value, values, value_over}
use Rattle.av_sys.specs.TreeLists.{trees, members}
use Rattle.av_sys.proofs.TreeSizes.{first_valid, others_valid, node_size}
use Rattle.av_sys.proofs.TreesOnce.{trees_law}
use Rattle.av_count.specs.declared.count.Count.{Count}
use Rattle.av_count.specs.Counts.{capped}
use Rattle.av_sys.specs.TreeLists.{members_at, count_at}
use Rattle.av_count.proofs.Members.{count_members}
use Rattle.av_count.proofs.NodeForms.{node_form}

-- a word of a length
pub record IsWordOfLength (n : ℕ) (w : List ℕ) : Type 0 where
  pub word : IsWord w
  pub long : length w ≡ n

-- one value for each tree
pub length_values : (S : System) (us : List ℕ) (ts : Trees) → are_valid S us ts ≡ true → length (values S us ts) ≡ length us
unfolding are_valid values
length_values S [] none v = refl
length_values S [] (more t sub others) v = absurd (true≢false (sym v))
length_values S (u ∷ us) none v = absurd (true≢false (sym v))
length_values S (u ∷ us) (more t sub others) v = ap suc (length_values S us others (others_valid S u t us sub others v))

-- words with one for each entry of a root are its blocks
pub word_blocks : (root : List ℕ) (αs : List (List ℕ)) → length αs ≡ length root → AllWords αs → AreBlocks root αs
word_blocks root αs e f = record { count = e; words = λ i h. (f i (omega arith)).numbers; filled = λ i h. (f i (omega arith)).filled }

-- the word of a term over the words of subtrees
term_word : (S : System) → IsWellFormed S → (u t : ℕ) (o : Option Term) → term_at S u t ≡ o → (ts : Trees) → is_some o ≡ true → are_valid S (children_of o) ts ≡ true
    → AllWords (values S (children_of o) ts) → lengths (values S (children_of o) ts) ≡ sizes ts
    → IsWordOfLength (size_over ts (sizes ts)) (value_over o (values S (children_of o) ts))
unfolding are_valid
term_word S w u t None e ts some v f l = absurd (true≢false (sym some))
term_word S w u t (Some Point) e none some v f l = record { word = one_word; long = refl }
term_word S w u t (Some Point) e (more x sub others) some v f l = absurd (true≢false (sym v))
term_word S w u t (Some (Node root cs)) e ts some v f l =
    let g = node_form S u t root cs w e in
    let n = length_values S cs ts v ∙ sym g.long in
    record {
      word = inflation_word root (values S cs ts) g.word (word_blocks root (values S cs ts) n f);
      long = length_inflate root (values S cs ts) n ∙ l ∙ sym (node_size S cs ts (omega (arith, g.two)) v);
    }

-- so of the trees of a list
pub values_words : (S : System) → IsWellFormed S → (us : List ℕ) (ts : Trees) → are_valid S us ts ≡ true → AllWords (values S us ts) × (lengths (values S us ts) ≡ sizes ts)
unfolding are_valid values sizes
values_words S w [] none v = (λ i h. absurd (omega arith), refl)
values_words S w [] (more t sub others) v = absurd (true≢false (sym v))
values_words S w (u ∷ us) none v = absurd (true≢false (sym v))
values_words S w (u ∷ us) (more t sub others) v =
    let p = and_parts (is_some (term_at S u t)) (are_valid S (children_of (term_at S u t)) sub) (first_valid S u t us sub others v) in
    let q = values_words S w (children_of (term_at S u t)) sub p.1 in
    let x = term_word S w u t (term_at S u t) refl sub p.0 p.1 q.0 q.1 in
    let y = values_words S w us others (others_valid S u t us sub others v) in
    (all (value_over (term_at S u t) (values S (children_of (term_at S u t)) sub)) (values S us others) x.word y.0, omega (arith, x.long, y.1))
  where
    all : (a : List ℕ) (αs : List (List ℕ)) → IsWord a → AllWords αs → AllWords (a ∷ αs)
    all a αs x f zero h = x
    all a αs x f (suc i) h = f i (omega arith)

-- so of a tree
pub tree_word : (S : System) → IsWellFormed S → (u : ℕ) (T : Tree) → IsTree S u T → IsWordOfLength (size T) (value S u T)
tree_word S w u T v =
    let p = and_parts (is_some (term_at S u T.term)) (are_valid S (children_of (term_at S u T.term)) T.subtrees) v in
    let q = values_words S w (children_of (term_at S u T.term)) T.subtrees p.1 in
    term_word S w u T.term (term_at S u T.term) refl T.subtrees p.0 p.1 q.0 q.1

-- so of each word that is listed
pub member_word : (S : System) → IsWellFormed S → (u n r : ℕ) → r < count_at S u n → IsWordOfLength n (get_or (members_at S u n) r [])
unfolding members_at count_at
member_word S w u n r h =
    let d : Tree = record { term = 0; subtrees = none } in
    let T = get_or (trees S u n) r d in
    let f = ((trees_law S u n w).listed.members T).0 (In_at (trees S u n) r d h) in
    let x = tree_word S w u T f.tree in
    let e = get_or-map (value S u) (trees S u n) r d [] h in
    record { word = subst IsWord (sym e) x.word; long = ap (λ (v : List ℕ). length v) e ∙ x.long ∙ f.sized }

-- the words of equation 0
pub members_are : (S : System) (n : ℕ) → members_at S 0 n ≡ members S n
unfolding members_at members
members_are S n = refl

-- a word that is listed
pub word_listed : (S : System) (n r : ℕ) (w : List ℕ) → r < count_at S 0 n → w ≡ get_or (members_at S 0 n) r [] → Some w ≡ slice_get (members S n) r
word_listed S n r w h e =
    ap (λ (v : List ℕ). Some v) e ∙ sym (slice_get-get_or (members_at S 0 n) r [] (omega (arith, count_members S 0 n))) ∙ ap (λ (ws : List (List ℕ)). slice_get ws r) (members_are S n)

-- none is, past the count
pub none_listed : (S : System) (n r : ℕ) → count_at S 0 n ≤ r → None ≡ slice_get (members S n) r
none_listed S n r h =
    sym (slice_get_past (members_at S 0 n) r (omega (arith, count_members S 0 n))) ∙ ap (λ (ws : List (List ℕ)). slice_get ws r) (members_are S n)

-- what is left of a place past a count tells whether it is below it
past_count : (r x : ℕ) (o : Option ℕ) → MatchOption o (r < x) (λ left. left + x ≡ r) → (is_some o ≡ true → x ≤ r) × (is_some o ≡ false → r < x)
past_count r x None m = (λ e. absurd (true≢false (sym e)), λ e. m)
past_count r x (Some left) m = (λ e. omega arith, λ e. absurd (true≢false e))

-- so of the count of a table that stands for the system
pub past_members : (S T : System) (n r : ℕ) (count : Count) (o : Option ℕ) → T ≡ S → count ≡ capped (count_at T 0 n) → ((x : ℕ) → count ≡ capped x → MatchOption o (r < x) (λ left. left + x ≡ r))
    → (is_some o ≡ true → count_at S 0 n ≤ r) × (is_some o ≡ false → r < count_at S 0 n)
past_members S T n r count o q e f =
    past_count r (count_at S 0 n) o (subst (λ (Z : System). MatchOption o (r < count_at Z 0 n) (λ left. left + count_at Z 0 n ≡ r)) q (f (count_at T 0 n) e))

-- a word that isn't raised
not_raised : (xs : List ℕ) → map (λ x. x + 0) xs ≡ xs
not_raised [] = refl
not_raised (x ∷ xs) = let e : x + 0 ≡ x = omega arith in rw e (ap (λ (ys : List ℕ). x ∷ ys) (not_raised xs))

-- what was written after nothing, not raised
pub written_first : (items out old w : List ℕ) → items ≡ out → out ≡ old ++ map (λ x. x + 0) w → old ≡ [] → items ≡ w
written_first items out old w e f g = e ∙ f ∙ ap (λ (z : List ℕ). z ++ map (λ x. x + 0) w) g ∙ not_raised w
