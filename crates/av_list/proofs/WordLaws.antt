-- The word that a tree's vertices write is the tree's value.
use Rattle.std.proofs.Common.{◌≡◌, ℕ, suc, ◌+◌, Bool, true, false, ◌&&◌, cond, nat_lt, List, [], ◌∷◌, ◌++◌, map, length, refl, sym, ◌∙◌, ap, ap₂, arith, append_assoc, true≢false, inl, inr, get_or, Option, Some, None, is_some}
use Rattle.std.proofs.lemmas.Bool.{and_parts}
use Rattle.std.proofs.lemmas.List.{map-append}
use Rattle.av_perm.specs.Inflate.{joined, block, points_below, raised}
use Rattle.av_perm.proofs.Membership.{Each}
use Rattle.av_sys.specs.declared.terms.Term.{Term}
use Rattle.av_sys.specs.declared.terms.Term.TheVariants.{Point, Node}
use Rattle.av_sys.specs.declared.terms.System.{System}
use Rattle.av_sys.specs.Terms.{term_at, children_of, IsWellFormed}
use Rattle.av_sys.specs.Trees.{Tree, Trees, none, more, are_valid, IsTree, value, values, value_over}
use Rattle.av_sys.specs.TreeLists.{trees, members_at}
use Rattle.av_sys.proofs.TreeSizes.{sizes_of, first_valid, others_valid}
use Rattle.av_sys.proofs.TreesOnce.{trees_law}
use Rattle.av_count.proofs.Choices.{append_nil}
use Rattle.av_count.proofs.Members.{map_map}
use Rattle.av_count.proofs.NodeForms.{node_form}
use Rattle.av_tree.proofs.TreeWords.{tree_word, length_values}
use Rattle.av_list.specs.declared.vertex.Vertex.{Vertex}
use Rattle.av_list.specs.Remaining.{first_size, in_turn, preorders, preorder, listed}
use Rattle.av_list.specs.Words.{sizes_below, raises, own, raised_on, written, word_of}
use Rattle.av_list.proofs.Shapes.{preorders_sizes}

-- each word raised by a number of its own
abbrev pub raise_all : List ℕ → List (List ℕ) → List ℕ
raise_all [] bs = []
raise_all (p ∷ ps) [] = []
raise_all (p ∷ ps) (b ∷ bs) = map (λ x. x + p) b ++ raise_all ps bs

-- what lies below an entry, by the sizes
below_lower : (p : ℕ) (root : List ℕ) (bs : List (List ℕ)) → points_below p root bs ≡ sizes_below p root (map length bs)
below_lower p [] bs = refl
below_lower p (q ∷ root) [] = refl
below_lower p (q ∷ root) (b ∷ bs) = ap (λ z. cond {A = ℕ} (nat_lt q p) (length b) 0 + z) (below_lower p root bs)

-- raised at once, or in two steps
raise_twice : (raise low up : ℕ) (b : List ℕ) → up ≡ raise + low → map (λ x. x + up) b ≡ map (λ x. x + raise) (map (λ x. x + low) b)
raise_twice raise low up [] e = refl
raise_twice raise low up (x ∷ b) e = ap₂ (λ (p : ℕ) (q : List ℕ). p ∷ q) (omega arith) (raise_twice raise low up b e)

-- the blocks of an inflation, each raised
raised_blocks : (r : ℕ) (root : List ℕ) (all : List (List ℕ)) (parts : List ℕ) (bs : List (List ℕ)) → length bs ≡ length parts
    → raise_all (raises r root (map length all) parts) bs ≡ map (λ x. x + r) (joined (λ i. raised (points_below (get_or parts i 0) root all) (block bs i)) (length parts))
raised_blocks r root all [] bs e = refl
raised_blocks r root all (p ∷ parts) [] e = absurd (omega arith)
raised_blocks r root all (p ∷ parts) (b ∷ bs) e =
    ap₂ (λ a c. a ++ c) (raise_twice r (points_below p root all) (r + sizes_below p root (map length all)) b (ap (λ z. r + z) (sym (below_lower p root all)))) (raised_blocks r root all parts bs (omega arith))
    ∙ sym (map-append (λ x. x + r) (raised (points_below p root all) b) (joined (λ i. raised (points_below (get_or parts i 0) root all) (block bs i)) (length parts)))

-- a number for each child
pub length_raises : (r : ℕ) (root ns parts : List ℕ) → length (raises r root ns parts) ≡ length parts
length_raises r root ns [] = refl
length_raises r root ns (p ∷ parts) = ap suc (length_raises r root ns parts)

-- the values of trees are as long as the trees are large
values_long : (S : System) → IsWellFormed S → (us : List ℕ) (ts : Trees) → are_valid S us ts ≡ true → map length (values S us ts) ≡ sizes_of ts
unfolding are_valid values
values_long S w [] none v = refl
values_long S w [] (more t sub others) v = absurd (true≢false (sym v))
values_long S w (u ∷ us) none v = absurd (true≢false (sym v))
values_long S w (u ∷ us) (more t sub others) v =
    ap₂ (λ (a : ℕ) (b : List ℕ). a ∷ b) (tree_word S w u (record { term = t; subtrees = sub }) (first_valid S u t us sub others v)).long (values_long S w us others (others_valid S u t us sub others v))

-- what the trees below a term write, where they write their values
head_written : (S : System) → IsWellFormed S → (u t p : ℕ) (o : Option Term) (sub : Trees) (rs : List ℕ) (ys : List Vertex) → term_at S u t ≡ o → is_some o ≡ true
    → are_valid S (children_of o) sub ≡ true → map length (values S (children_of o) sub) ≡ sizes_of sub
    → ((ps rs : List ℕ) (ys : List Vertex) → length ps ≡ length (children_of o)
    → written S (ps ++ rs) (in_turn (preorders S (children_of o) sub) ++ ys) ≡ raise_all ps (values S (children_of o) sub) ++ written S rs ys)
    → own p o ++ written S (raised_on p (map first_size (preorders S (children_of o) sub)) o rs) (in_turn (preorders S (children_of o) sub) ++ ys)
    ≡ map (λ x. x + p) (value_over o (values S (children_of o) sub)) ++ written S rs ys
unfolding are_valid preorders
head_written S w u t p None sub rs ys e some v l h = absurd (true≢false (sym some))
head_written S w u t p (Some Point) none rs ys e some v l h = let q : p + 1 ≡ 1 + p = omega arith in ap (λ z. z ∷ written S rs ys) q
head_written S w u t p (Some Point) (more a b c) rs ys e some v l h = absurd (true≢false (sym v))
head_written S w u t p (Some (Node root cs)) sub rs ys e some v l h =
    let g = node_form S u t root cs w e in
    ap (λ z. written S (raises p root z root ++ rs) (in_turn (preorders S cs sub) ++ ys)) (preorders_sizes S cs sub v ∙ sym l)
    ∙ h (raises p root (map length (values S cs sub)) root) rs ys (length_raises p root (map length (values S cs sub)) root ∙ g.long)
    ∙ ap (λ z. z ++ written S rs ys) (raised_blocks p root (values S cs sub) root (values S cs sub) (length_values S cs sub v ∙ sym g.long))

-- trees one after another write their values, each raised
pub all_written : (S : System) → IsWellFormed S → (us : List ℕ) (ts : Trees) → are_valid S us ts ≡ true
    → (ps rs : List ℕ) (ys : List Vertex) → length ps ≡ length us
    → written S (ps ++ rs) (in_turn (preorders S us ts) ++ ys) ≡ raise_all ps (values S us ts) ++ written S rs ys
unfolding are_valid preorders values
all_written S w [] none v [] rs ys e = refl
all_written S w [] none v (p ∷ ps) rs ys e = absurd (omega arith)
all_written S w [] (more t sub others) v ps rs ys e = absurd (true≢false (sym v))
all_written S w (u ∷ us) none v ps rs ys e = absurd (true≢false (sym v))
all_written S w (u ∷ us) (more t sub others) v [] rs ys e = absurd (omega arith)
all_written S w (u ∷ us) (more t sub others) v (p ∷ ps) rs ys e =
    let h = and_parts (is_some (term_at S u t)) (are_valid S (children_of (term_at S u t)) sub) (first_valid S u t us sub others v) in
    let A = in_turn (preorders S (children_of (term_at S u t)) sub) in
    let B = in_turn (preorders S us others) in
    ap (λ z. own p (term_at S u t) ++ written S (raised_on p (map first_size (preorders S (children_of (term_at S u t)) sub)) (term_at S u t) (ps ++ rs)) z) (append_assoc A B ys)
    ∙ head_written S w u t p (term_at S u t) sub (ps ++ rs) (B ++ ys) refl h.0 h.1 (values_long S w (children_of (term_at S u t)) sub h.1)
    (λ qs ss zs f. all_written S w (children_of (term_at S u t)) sub h.1 qs ss zs f)
    ∙ ap (λ z. map (λ x. x + p) (value_over (term_at S u t) (values S (children_of (term_at S u t)) sub)) ++ z) (all_written S w us others (others_valid S u t us sub others v) ps rs ys (omega arith))
    ∙ sym (append_assoc (map (λ x. x + p) (value_over (term_at S u t) (values S (children_of (term_at S u t)) sub))) (raise_all ps (values S us others)) (written S rs ys))

-- raised by 0
raise_none : (xs : List ℕ) → map (λ x. x + 0) xs ≡ xs
raise_none [] = refl
raise_none (x ∷ xs) = let e : x + 0 ≡ x = omega arith in ap₂ (λ (a : ℕ) (b : List ℕ). a ∷ b) e (raise_none xs)

-- a last answer that is always true
and_true : (a b : Bool) → (a && b) ≡ true → (a && (b && true)) ≡ true
and_true true true e = refl
and_true true false e = e
and_true false b e = e

-- a tree's vertices write its value
tree_written : (S : System) → IsWellFormed S → (u : ℕ) (T : Tree) → IsTree S u T → word_of S (preorder S u T) ≡ value S u T
unfolding are_valid preorders values
tree_written S w u T v =
    ap (written S (0 ∷ [])) (sym (append_nil (preorder S u T)) ∙ ap (λ z. z ++ []) (sym (append_nil (preorder S u T))))
    ∙ all_written S w (u ∷ []) (more T.term T.subtrees none)
    (and_true (is_some (term_at S u T.term)) (are_valid S (children_of (term_at S u T.term)) T.subtrees) v) (0 ∷ []) [] [] refl
    ∙ append_nil (map (λ x. x + 0) (value S u T) ++ []) ∙ append_nil (map (λ x. x + 0) (value S u T)) ∙ raise_none (value S u T)

-- maps that are equal for each element
map_each : {X Y : Type 0} (f g : X → Y) (xs : List X) → Each (λ x. f x ≡ g x) xs → map f xs ≡ map g xs
map_each f g [] h = refl
map_each f g (x ∷ xs) h = ap₂ (λ a b. a ∷ b) (h x (inl refl)) (map_each f g xs (λ y i. h y (inr i)))

-- the trees in order write the members in order
pub listed_words : (S : System) → IsWellFormed S → (u n : ℕ) → map (word_of S) (listed S u n) ≡ members_at S u n
unfolding listed members_at
listed_words S w u n =
    map_map (word_of S) (preorder S u) (trees S u n)
    ∙ map_each (λ T. word_of S (preorder S u T)) (value S u) (trees S u n) (λ T i. tree_written S w u T (((trees_law S u n w).listed.members T).0 i).tree)
