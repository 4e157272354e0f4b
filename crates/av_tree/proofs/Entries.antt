-- The words of an equation by their places: the term, the choices for its children, and the inflation.
use Rattle.std.proofs.Common.{◌≡◌, ◌≢◌, ℕ, zero, suc, ◌+◌, ◌*◌, ◌-◌, ◌<◌, ◌≤◌, Bool, true, false, ◌==◌, cond, List, [], ◌∷◌, ◌++◌, length, flat_map, drop, refl, sym, ◌∙◌, ap, ap₂, subst, arith, get_or, length-append, Option, Some, ◌⊎◌, inl, inr, nat_lt}
use Rattle.std.proofs.lemmas.Bool.{lt-ltb, ltb-true}
use Rattle.av_perm.specs.Lists.{counting}
use Rattle.av_perm.specs.Inflate.{points_below, raised, joined, inflate}
use Rattle.av_perm.proofs.Inflations.{length_inflate, lengths_sum}
use Rattle.av_decomp.proofs.FormedTrees.{lifted, lifted_room, lifted_all}
use Rattle.av_sys.specs.declared.terms.Term.{Term}
use Rattle.av_sys.specs.declared.terms.Term.TheVariants.{Point, Node}
use Rattle.av_sys.specs.declared.terms.System.{System}
use Rattle.av_sys.specs.Terms.{term_at, terms_at, IsWellFormed}
use Rattle.av_count.specs.declared.count.Count.{Count}
use Rattle.av_count.specs.declared.count.Count.TheVariants.{Known}
use Rattle.av_count.specs.Counts.{capped}
use Rattle.av_count.specs.Choices.{ways, sum_from, choice_lists}
use Rattle.av_sys.specs.TreeLists.{members_at, count_at}
use Rattle.av_count.specs.Members.{term_words, term_ways}
use Rattle.av_count.proofs.Choices.{choices_grown, entry_counting, entry_map}
use Rattle.av_count.proofs.Members.{members_by_terms, length_words, length_term, length_from, sum_more, count_by_terms}
use Rattle.av_count.proofs.Filled.{same_or_not}
use Rattle.av_tree.specs.declared.choosing.Pick.{Pick}
use Rattle.av_tree.specs.Picks.{picked, Fitting, Chosen, Placed, RankedAt, picks_below}
use Rattle.av_tree.proofs.Picks.{drop_here}
use Rattle.av_tree.proofs.TreeWords.{member_word}

-- what lies below an entry of the root, by the sizes chosen
pub lower_below : (S : System) → IsWellFormed S → (p : ℕ) (root cs : List ℕ) (n : ℕ) (ps : List Pick) → length root ≡ length cs → Fitting (count_at S) cs n ps
    → points_below p root (picked (members_at S) cs ps) ≡ picks_below p root ps
lower_below S w p [] [] n ps e f = refl
lower_below S w p [] (c ∷ cs) n ps e f = absurd (omega arith)
lower_below S w p (q ∷ root) [] n ps e f = absurd (omega arith)
lower_below S w p (q ∷ root) (c ∷ cs) n [] e f = absurd f
lower_below S w p (q ∷ root) (c ∷ cs) n (k ∷ ps) e f =
    ap₂ (λ a b. cond {A = ℕ} (nat_lt q p) a 0 + b) (member_word S w c k.size k.rank f.2).long (lower_below S w p root cs (n - k.size) ps (omega arith) f.3)

-- a member for each child
pub length_picked : (S : System) (cs : List ℕ) (n : ℕ) (ps : List Pick) → Fitting (count_at S) cs n ps → length (picked (members_at S) cs ps) ≡ length cs
length_picked S [] n ps f = refl
length_picked S (c ∷ cs) n [] f = absurd f
length_picked S (c ∷ cs) n (k ∷ ps) f = let e = length_picked S cs (n - k.size) ps f.3 in omega arith

-- one choice among them
pub record Within (S : System) (c n : ℕ) (k : Pick) : Type 0 where
  pub least : 1 ≤ k.size
  pub most : k.size ≤ n
  pub rank : k.rank < count_at S c k.size

-- so of each choice that fits
pub fitting_at : (S : System) (cs : List ℕ) (n i : ℕ) (ps : List Pick) (d : Pick) → i < length cs → Fitting (count_at S) cs n ps
    → Within S (get_or cs i 0) n (get_or ps i d)
fitting_at S [] n i ps d lt f = absurd (omega arith)
fitting_at S (c ∷ cs) n i [] d lt f = absurd f
fitting_at S (c ∷ cs) n zero (k ∷ ps) d lt f = record { least = f.0; most = f.1; rank = f.2 }
fitting_at S (c ∷ cs) n (suc i) (k ∷ ps) d lt f = let r = fitting_at S cs (n - k.size) i ps d (omega arith) f.3 in record { least = r.least; most = omega (arith, r.most); rank = r.rank }

-- of two children or more each is smaller
pub fitting_less : (S : System) (cs : List ℕ) (n i : ℕ) (ps : List Pick) (d : Pick) → i < length cs → 2 ≤ length cs → Fitting (count_at S) cs n ps → (get_or ps i d).size < n
fitting_less S [] n i ps d lt two f = absurd (omega arith)
fitting_less S (c ∷ []) n i ps d lt two f = absurd (omega arith)
fitting_less S (c ∷ e ∷ cs) n i [] d lt two f = absurd f
fitting_less S (c ∷ e ∷ cs) n i (k ∷ []) d lt two f = absurd f.3
fitting_less S (c ∷ e ∷ cs) n zero (k ∷ j ∷ ps) d lt two f = let g = f.3 in let a = g.0 in let b = g.1 in omega (arith, f.0, f.1)
fitting_less S (c ∷ e ∷ cs) n (suc i) (k ∷ j ∷ ps) d lt two f =
    let r = fitting_at S (e ∷ cs) (n - k.size) i (j ∷ ps) d (omega arith) f.3 in omega (arith, f.0, f.1, r.most)

-- what lies below an entry, and the entry's own size, fit
pub lower_upto : (S : System) (p : ℕ) (root cs : List ℕ) (n : ℕ) (ps : List Pick) → length root ≡ length cs → Fitting (count_at S) cs n ps → picks_below p root ps ≤ n
lower_upto S p [] [] n ps e f = omega arith
lower_upto S p [] (c ∷ cs) n ps e f = absurd (omega arith)
lower_upto S p (q ∷ root) [] n ps e f = absurd (omega arith)
lower_upto S p (q ∷ root) (c ∷ cs) n [] e f = absurd f
lower_upto S p (q ∷ root) (c ∷ cs) n (k ∷ ps) e f = by (nat_lt q p) (lower_upto S p root cs (n - k.size) ps (omega arith) f.3)
  where
    by : (b : Bool) → picks_below p root ps ≤ n - k.size → cond {A = ℕ} b k.size 0 + picks_below p root ps ≤ n
    by true h = omega (arith, f.1)
    by false h = omega (arith, f.1)

-- what lies below an entry leaves room for its block
pub lower_fits : (S : System) (p : ℕ) (root cs : List ℕ) (n i : ℕ) (ps : List Pick) (d : Pick) → length root ≡ length cs → i < length cs → p ≡ get_or root i 0
    → Fitting (count_at S) cs n ps → picks_below p root ps + (get_or ps i d).size ≤ n
lower_fits S p [] [] n i ps d e lt q f = absurd (omega arith)
lower_fits S p [] (c ∷ cs) n i ps d e lt q f = absurd (omega arith)
lower_fits S p (r ∷ root) [] n i ps d e lt q f = absurd (omega arith)
lower_fits S p (r ∷ root) (c ∷ cs) n i [] d e lt q f = absurd f
lower_fits S p (r ∷ root) (c ∷ cs) n zero (k ∷ ps) d e lt q f = by (nat_lt r p) refl (lower_upto S p root cs (n - k.size) ps (omega arith) f.3)
  where
    by : (b : Bool) → nat_lt r p ≡ b → picks_below p root ps ≤ n - k.size → cond {A = ℕ} b k.size 0 + picks_below p root ps + k.size ≤ n
    by true h l = absurd (let m = ltb-true r p h in omega arith)
    by false h l = omega (arith, f.1)
lower_fits S p (r ∷ root) (c ∷ cs) n (suc i) (k ∷ ps) d e lt q f = by (nat_lt r p) (lower_fits S p root cs (n - k.size) i ps d (omega arith) (omega arith) q f.3)
  where
    by : (b : Bool) → picks_below p root ps + (get_or ps i d).size ≤ n - k.size → cond {A = ℕ} b k.size 0 + picks_below p root ps + (get_or ps i d).size ≤ n
    by true h = omega (arith, f.1)
    by false h = omega (arith, f.1)

-- the member of one child
pub picked_at : (V : ℕ → ℕ → List (List ℕ)) (f : ℕ → ℕ → ℕ) (cs : List ℕ) (n i : ℕ) (ps : List Pick) (d : Pick) → i < length cs → Fitting f cs n ps
    → get_or (picked V cs ps) i [] ≡ get_or (V (get_or cs i 0) (get_or ps i d).size) (get_or ps i d).rank []
picked_at V f [] n i ps d lt g = absurd (omega arith)
picked_at V f (c ∷ cs) n i [] d lt g = absurd g
picked_at V f (c ∷ cs) n zero (k ∷ ps) d lt g = refl
picked_at V f (c ∷ cs) n (suc i) (k ∷ ps) d lt g = picked_at V f cs (n - k.size) i ps d (omega arith) g.3

-- the member of a term at a place, by the choices
pub node_entry : (S : System) (n r q : ℕ) (root cs : List ℕ) (ps : List Pick) → r < term_ways S n (Some (Node root cs)) → Chosen S cs n 1 r q ps
    → get_or (term_words S n (Some (Node root cs))) r [] ≡ inflate root (picked (members_at S) cs ps)
node_entry S n r q root cs ps lt ch =
    entry_map (inflate root) (choice_lists (members_at S) cs n) r [] [] (let e = length_words S cs n in omega arith)
    ∙ ap (inflate root) (ap (λ z. get_or z r []) (choices_grown (members_at S) cs n) ∙ ch.entry ([] ∷ []) refl ∙ ap (λ z. get_or ([] ∷ []) z [] ++ picked (members_at S) cs ps) none)
  where
    none : q ≡ 0
    none = omega (arith, ch.within)

-- the member at a place, by its term
pub term_entry : (S : System) → IsWellFormed S → (u n t left r : ℕ) → t < length (terms_at S u) → left < term_ways S n (term_at S u t)
    → left + sum_from (λ j. term_ways S n (term_at S u j)) 0 t ≡ r → get_or (members_at S u n) r [] ≡ get_or (term_words S n (term_at S u t)) left []
term_entry S w u n t left r lt inside place =
    ap (λ z. get_or z r []) (members_by_terms S w u n)
    ∙ ap (λ z. get_or (flat_map (λ j. term_words S n (term_at S u j)) (counting 0 (length (terms_at S u)))) z []) (sym at)
    ∙ entry_counting (λ j. term_words S n (term_at S u j)) 0 t (length (terms_at S u)) left [] lt
    (subst (λ z. left < length (term_words S n (term_at S u z))) (sym there) (let e = length_term S n (term_at S u t) in omega arith))
    ∙ ap (λ z. get_or (term_words S n (term_at S u z)) left []) there
  where
    there : 0 + t ≡ t
    there = omega arith

    at : length (flat_map (λ j. term_words S n (term_at S u j)) (counting 0 t)) + left ≡ r
    at = let e = length_from (λ j. term_words S n (term_at S u j)) (λ j. term_ways S n (term_at S u j)) (λ j. length_term S n (term_at S u j)) 0 t in omega (arith, e, place)

-- a place among the trees of a node is one among the lists of its subtrees
pub within_here : (S T : System) (u t n left : ℕ) (root cs : List ℕ) → T ≡ S → term_at S u t ≡ Some (Node root cs)
    → left < term_ways S n (term_at S u t) → left < 1 * ways (count_at T) cs n
within_here S T u t n left root cs e h lt =
    let a : left < ways (count_at S) cs n = subst (λ o. left < term_ways S n o) h lt in
    let b : left < 1 * ways (count_at S) cs n = omega arith in
    subst (λ Z. left < 1 * ways (count_at Z) cs n) (sym e) b

-- the choices, at the system that the table stands for
pub chosen_here : (S T : System) (u t n left q : ℕ) (root cs : List ℕ) (ps : List Pick) → T ≡ S → term_at S u t ≡ Some (Node root cs)
    → left < term_ways S n (term_at S u t) → ((F : ℕ) → Known 1 ≡ capped F → left < F * ways (count_at T) cs n → Chosen T cs n F left q ps) → Chosen S cs n 1 left q ps
unfolding capped
chosen_here S T u t n left q root cs ps e h lt f =
    subst (λ Z. Chosen Z cs n 1 left q ps) e (f 1 refl (within_here S T u t n left root cs e h lt))

-- the count of 1
pub one_known : Known 1 ≡ capped 1
unfolding capped
one_known = refl

-- the word 1 is the only one of a point
point_words : (n left : ℕ) (b : Bool) → left < cond {A = ℕ} b 1 0 → get_or {A = List ℕ} (cond b ((1 ∷ []) ∷ []) []) left [] ≡ 1 ∷ []
point_words n zero true lt = refl
point_words n (suc left) true lt = absurd (omega arith)
point_words n left false lt = absurd (omega arith)

-- the word at a place among those of a point
pub point_entry : (S : System) (n left : ℕ) (o : Option Term) → o ≡ Some Point → left < term_ways S n o → get_or (term_words S n o) left [] ≡ 1 ∷ []
point_entry S n left o e lt =
    ap (λ z. get_or (term_words S n z) left []) e ∙ point_words n left (n == 1) (subst (λ z. left < term_ways S n z) e lt)

-- the word at a place among those of a node
pub node_member : (S : System) (n left q u t : ℕ) (root cs : List ℕ) (ps : List Pick) → term_at S u t ≡ Some (Node root cs) → left < term_ways S n (term_at S u t) → Chosen S cs n 1 left q ps
    → get_or (term_words S n (term_at S u t)) left [] ≡ inflate root (picked (members_at S) cs ps)
node_member S n left q u t root cs ps e lt ch =
    ap (λ z. get_or (term_words S n z) left []) e ∙ node_entry S n left q root cs ps (subst (λ z. left < term_ways S n z) e lt) ch

-- a smaller entry counts
pub smaller_counts : (x p s : ℕ) → x < p → s ≡ cond {A = ℕ} (nat_lt x p) s 0
smaller_counts x p s lt = let e : nat_lt x p ≡ true = lt-ltb x p lt in rw e refl

-- another one does not
pub other_uncounted : (x p s : ℕ) → p ≤ x → 0 ≡ cond {A = ℕ} (nat_lt x p) s 0
other_uncounted x p s le = by (nat_lt x p) refl
  where
    by : (b : Bool) → nat_lt x p ≡ b → 0 ≡ cond {A = ℕ} b s 0
    by true e = absurd (let m = ltb-true x p e in omega arith)
    by false e = refl

-- the sizes below an entry so far
pub lower_next : (p sum s j whole : ℕ) (root : List ℕ) (ps : List Pick) (d : Pick) → j < length root → j < length ps
    → sum + picks_below p (drop j root) (drop j ps) ≡ whole → s ≡ sum + cond {A = ℕ} (nat_lt (get_or root j 0) p) (get_or ps j d).size 0
    → s + picks_below p (drop (j + 1) root) (drop (j + 1) ps) ≡ whole
lower_next p sum s j whole root ps d lt lt2 h e =
    let g : picks_below p (drop j root) (drop j ps) ≡ cond {A = ℕ} (nat_lt (get_or root j 0) p) (get_or ps j d).size 0 + picks_below p (drop (j + 1) root) (drop (j + 1) ps) =
    ap₂ (λ a b. picks_below p a b) (drop_here root j 0 lt) (drop_here ps j d lt2) in
    omega arith

-- a shorter sum is no greater
sum_upto : (f : ℕ → ℕ) (a b : ℕ) → a ≤ b → sum_from f 0 a ≤ sum_from f 0 b
sum_upto f a zero h = let e : a ≡ 0 = omega arith in rw e (omega arith)
sum_upto f a (suc b) h = by (same_or_not a (suc b)) (sum_upto f a b)
  where
    by : ((a ≡ suc b) ⊎ (a ≢ suc b)) → (a ≤ b → sum_from f 0 a ≤ sum_from f 0 b) → sum_from f 0 a ≤ sum_from f 0 (suc b)
    by (inl e) r = rw e (omega arith)
    by (inr ne) r = let m = sum_more f 0 b in let l = r (omega arith) in rw m (omega arith)

-- a place among those of a term is below the whole count
sum_within : (f : ℕ → ℕ) (t len left : ℕ) → t < len → left < f t → left + sum_from f 0 t < sum_from f 0 len
sum_within f t len left lt h =
    let m = sum_more f 0 t in let u = sum_upto f (suc t) len lt in let z : 0 + t ≡ t = omega arith in let e = ap f z in omega arith

-- the place of a node by that of its choices
pub ranked_node : (S T : System) (u t n sum : ℕ) (root cs : List ℕ) (ps : List Pick) (inner result : Count) → IsWellFormed S → T ≡ S → t < length (terms_at S u)
    → term_at S u t ≡ Some (Node root cs) → (w : Placed T cs n 1 0 ps inner) → sum ≡ sum_from (λ j. term_ways S n (term_at S u j)) 0 t
    → result ≡ capped (sum + w.place) → RankedAt S u n (inflate root (picked (members_at S) cs ps)) result
ranked_node S T u t n sum root cs ps inner result formed stands lt e w before is =
    let f = λ (j : ℕ). term_ways S n (term_at S u j) in
    let a : w.place < 1 * ways (count_at S) cs n = subst (λ Z. w.place < 1 * ways (count_at Z) cs n) stands w.within in
    let b : w.place < term_ways S n (term_at S u t) = subst (λ o. w.place < term_ways S n o) (sym e) (omega arith) in
    let ch : Chosen S cs n 1 w.place 0 ps = subst (λ Z. Chosen Z cs n 1 w.place 0 ps) stands w.chosen in
    let at : w.place + sum_from f 0 t ≡ sum + w.place = omega arith in
    record {
      place = sum + w.place;
      is = is;
      within = subst (λ z. sum + w.place < z) (sym (count_by_terms S formed u n)) (let h = sum_within f t (length (terms_at S u)) w.place lt b in omega arith);
      entry = term_entry S formed u n t w.place (sum + w.place) lt b at ∙ node_member S n w.place 0 u t root cs ps e b ch;
    }

-- the place of a point
pub ranked_point : (S : System) (u t : ℕ) (count : Count) → IsWellFormed S → t < length (terms_at S u) → term_at S u t ≡ Some Point
    → count ≡ capped (sum_from (λ j. term_ways S 1 (term_at S u j)) 0 t) → RankedAt S u 1 (1 ∷ []) count
ranked_point S u t count formed lt e is =
    let f = λ (j : ℕ). term_ways S 1 (term_at S u j) in
    let one : 0 < term_ways S 1 (term_at S u t) = subst (λ o. 0 < term_ways S 1 o) (sym e) (omega arith) in
    record {
      place = sum_from f 0 t;
      is = is;
      within = subst (λ z. sum_from f 0 t < z) (sym (count_by_terms S formed u 1)) (let h = sum_within f t (length (terms_at S u)) 0 lt one in omega arith);
      entry = term_entry S formed u 1 t 0 (sum_from f 0 t) lt one (omega arith) ∙ point_entry S 1 0 (term_at S u t) e one;
    }

-- the next block finds room
pub room_left : (raise i n : ℕ) (root : List ℕ) (blocks : List (List ℕ)) (out old : List ℕ) → i < length blocks → length blocks ≡ length root
    → length (inflate root blocks) ≡ n → out ≡ old ++ joined (lifted raise root blocks) i → length out + length (get_or blocks i []) ≤ length old + n
room_left raise i n root blocks out old lt e l h =
    let k = ap (λ (v : List ℕ). length v) h ∙ length-append old (joined (lifted raise root blocks) i) in
    omega (arith, lifted_room raise root blocks i lt, length_inflate root blocks e, lengths_sum blocks, k, l)

-- all blocks stand
pub all_stand : (raise i : ℕ) (root : List ℕ) (blocks : List (List ℕ)) (out old : List ℕ) → i ≡ length root → out ≡ old ++ joined (lifted raise root blocks) i
    → out ≡ old ++ raised raise (inflate root blocks)
all_stand raise i root blocks out old e h =
    h ∙ ap (λ k. old ++ joined (lifted raise root blocks) k) e ∙ ap (λ (z : List ℕ). old ++ z) (lifted_all raise root blocks)
