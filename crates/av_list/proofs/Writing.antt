-- Writing the word of a tree's vertices, one vertex after another.
use Rattle.std.proofs.Common.{◌≡◌, ℕ, zero, suc, ◌+◌, ◌<◌, ◌≤◌, Bool, true, false, cond, nat_lt, List, [], ◌∷◌, ◌++◌, length, drop, reverse, get_or, refl, sym, ◌∙◌, ap, ap₂, subst, arith, append_assoc, length-append, ◌⊎◌, inl, inr, Some}
use Rattle.std.proofs.lemmas.Bool.{ltb-true}
use Rattle.std.proofs.lemmas.List.{reverse-append, reverse-reverse, length-reverse}
use Rattle.std.proofs.lemmas.Grind.{reverse_onto}
use Rattle.av_count.proofs.Choices.{append_nil}
use Rattle.av_sys.specs.declared.terms.Term.TheVariants.{Point, Node}
use Rattle.av_sys.specs.declared.terms.System.{System}
use Rattle.av_sys.specs.Terms.{term_at, children_of, IsWellFormed}
use Rattle.av_count.proofs.NodeForms.{NodeForm}
use Rattle.av_count.proofs.NodeForms.{node_form}
use Rattle.av_tree.proofs.Picks.{drop_here}
use Rattle.av_list.specs.declared.vertex.Vertex.{Vertex}
use Rattle.av_list.specs.declared.vertex.Due.{Due}
use Rattle.av_list.specs.Sizes.{sum_of}
use Rattle.av_list.specs.Vertices.{dues, dues_below, due}
use Rattle.av_list.specs.Remaining.{whole as whole_size}
use Rattle.av_list.specs.Words.{sizes_below, raises, own, raised_on, written, word_of}
use Rattle.av_list.specs.Derivations.{Sound, due_sizes, Completes, Fit, Writing}
use Rattle.av_list.proofs.Rooms.{below_load, sound_size, due_sizes_append}
use Rattle.av_list.proofs.WordLaws.{length_raises}

-- the sizes below an entry and its own are no more than all sizes
pub lower_own : (p : ℕ) (root ns : List ℕ) → length ns ≡ length root → sizes_below p root ns ≤ sum_of ns
lower_own p [] [] e = omega arith
lower_own p [] (n ∷ ns) e = absurd (omega arith)
lower_own p (q ∷ root) [] e = absurd (omega arith)
lower_own p (q ∷ root) (n ∷ ns) e = by (nat_lt q p) (lower_own p root ns (omega arith))
  where
    by : (b : Bool) → sizes_below p root ns ≤ sum_of ns → cond {A = ℕ} b n 0 + sizes_below p root ns ≤ n + sum_of ns
    by true h = omega arith
    by false h = omega arith

-- and where p is an entry of the root, with its own size
lower_fits : (p : ℕ) (root ns : List ℕ) (i : ℕ) → length ns ≡ length root → i < length root → p ≡ get_or root i 0 → sizes_below p root ns + get_or ns i 0 ≤ sum_of ns
lower_fits p [] ns i e lt q = absurd (omega arith)
lower_fits p (r ∷ root) [] i e lt q = absurd (omega arith)
lower_fits p (r ∷ root) (n ∷ ns) zero e lt q = by (nat_lt r p) refl (lower_own p root ns (omega arith))
  where
    by : (b : Bool) → nat_lt r p ≡ b → sizes_below p root ns ≤ sum_of ns → cond {A = ℕ} b n 0 + sizes_below p root ns + n ≤ n + sum_of ns
    by true h l = absurd (let m = ltb-true r p h in omega arith)
    by false h l = omega arith
lower_fits p (r ∷ root) (n ∷ ns) (suc i) e lt q = by (nat_lt r p) (lower_fits p root ns i (omega arith) (omega arith) q)
  where
    by : (b : Bool) → sizes_below p root ns + get_or ns i 0 ≤ sum_of ns → cond {A = ℕ} b n 0 + sizes_below p root ns + get_or ns i 0 ≤ n + sum_of ns
    by true h = omega arith
    by false h = omega arith

-- the children, each raised, lie within the size
fit_below : (n r : ℕ) (root ns : List ℕ) (rs : List ℕ) (rest : List Due) → Fit n rs rest → (parts cs ms : List ℕ) → length cs ≡ length parts → length ms ≡ length parts
    → ((i : ℕ) → i < length parts → r + sizes_below (get_or parts i 0) root ns + get_or ms i 0 ≤ n) → Fit n (raises r root ns parts ++ rs) (dues cs ms ++ rest)
fit_below n r root ns rs rest f [] [] ms e g h = f
fit_below n r root ns rs rest f [] (c ∷ cs) ms e g h = absurd (omega arith)
fit_below n r root ns rs rest f (p ∷ parts) [] ms e g h = absurd (omega arith)
fit_below n r root ns rs rest f (p ∷ parts) (c ∷ cs) [] e g h = absurd (omega arith)
fit_below n r root ns rs rest f (p ∷ parts) (c ∷ cs) (m ∷ ms) e g h =
    (h 0 (omega arith), fit_below n r root ns rs rest f parts cs ms (omega arith) (omega arith) (λ i lt. h (suc i) (omega arith)))

-- each due has a size of 1 at least
abbrev EachSized : List Due → Type 0
EachSized [] = Unit {0}
EachSized (d ∷ ds) = (1 ≤ d.size) × EachSized ds

-- so of those of the second part
sized_rest : (ds es : List Due) → EachSized (ds ++ es) → EachSized es
sized_rest [] es h = h
sized_rest (d ∷ ds) es h = sized_rest ds es h.1

-- what vertices complete has sizes of 1 at least
each_sized : (S : System) (xs : List Vertex) (ds : List Due) → Completes S ds xs → EachSized ds
each_sized S [] ds h = subst EachSized (sym h) tt
each_sized S (x ∷ xs) ds h =
    subst EachSized (sym h.1.1) (sound_size S x h.0, sized_rest (dues_below S x) h.1.0 (each_sized S xs (dues_below S x ++ h.1.0) h.1.2))

-- no more is due than the sizes sum to
least_room : (ds : List Due) → EachSized ds → length ds ≤ due_sizes ds
least_room [] h = omega arith
least_room (d ∷ ds) h = let r = least_room ds h.1 in omega (arith, h.0)

-- a number for each due
fit_long : (n : ℕ) (rs : List ℕ) (ds : List Due) → Fit n rs ds → length rs ≡ length ds
fit_long n [] ds h = rw h refl
fit_long n (r ∷ rs) [] h = absurd h
fit_long n (r ∷ rs) (d ∷ ds) h = ap suc (fit_long n rs ds h.1)

-- as many numbers wait as there is room for
pub writing_room : (S : System) (rs : List ℕ) (xs : List Vertex) (out w : List ℕ) → Writing S rs xs out w → length out + length rs ≤ 160
writing_room S rs xs out w h = let a = fit_long 160 rs h.waiting h.fit in let b = least_room h.waiting (each_sized S xs h.waiting h.completes) in omega (arith, h.room)

-- some number waits for a vertex
pub writing_some : (S : System) (x : Vertex) (xs : List Vertex) (out w : List ℕ) → Writing S [] (x ∷ xs) out w → ⊥
writing_some S x xs out w h = let e : [] ≡ due x ∷ h.completes.1.0 = sym h.fit ∙ h.completes.1.1 in cc

-- what the first vertex's due says of its number
pub record Top (S : System) (r : ℕ) (rs : List ℕ) (x : Vertex) (xs : List Vertex) (out w : List ℕ) : Type 0 where
  pub sound : Sound S x
  pub below : List Due
  pub completes : Completes S (dues_below S x ++ below) xs
  pub own : r + x.size ≤ 160
  pub fit : Fit 160 rs below
  pub room : length out + (x.size + due_sizes below) ≤ 160
  pub rest : out ++ written S (r ∷ rs) (x ∷ xs) ≡ w

-- the first number and the first due
pub writing_top : (S : System) (r : ℕ) (rs : List ℕ) (x : Vertex) (xs : List Vertex) (out w : List ℕ) → Writing S (r ∷ rs) (x ∷ xs) out w → Top S r rs x xs out w
writing_top S r rs x xs out w h = record {
  sound = h.completes.0;
  below = h.completes.1.0;
  completes = h.completes.1.2;
  own = f.0;
  fit = f.1;
  room = subst (λ ds. length out + due_sizes ds ≤ 160) h.completes.1.1 h.room;
  rest = h.rest;
}
  where
    f : Fit 160 (r ∷ rs) (due x ∷ h.completes.1.0)
    f = subst (Fit 160 (r ∷ rs)) h.completes.1.1 h.fit

-- a point is written
pub write_point : (S : System) → IsWellFormed S → (r : ℕ) (rs : List ℕ) (x : Vertex) (xs : List Vertex) (out w : List ℕ) → term_at S x.equation x.term ≡ Some Point → Top S r rs x xs out w
    → (x.size ≡ 1) × Writing S rs xs (out ++ (r + 1) ∷ []) w
write_point S f r rs x xs out w e h = (
  one,
  record {
    waiting = h.below;
    completes = subst (λ z. Completes S (z ++ h.below) xs) none h.completes;
    fit = h.fit;
    room = omega (arith, h.room, one, length-append out ((r + 1) ∷ []));
    rest = append_assoc out ((r + 1) ∷ []) (written S rs xs) ∙ ap (λ o. out ++ (own r o ++ written S (raised_on r x.sizes o rs) xs)) (sym e) ∙ h.rest;
  },
)
  where
    none : dues_below S x ≡ []
    none = ap (λ o. dues (children_of o) x.sizes) e

    one : x.size ≡ 1
    one = by (below_load S f x h.sound)
      where
        by : (((length (dues_below S x) ≡ 0) × (due_sizes (dues_below S x) ≡ 0) × (x.size ≡ 1)) ⊎ ((2 ≤ length (dues_below S x)) × (due_sizes (dues_below S x) ≡ x.size))) → x.size ≡ 1
        by (inl a) = a.2
        by (inr b) = absurd (let l : length (dues_below S x) ≡ 0 = ap length none in omega (arith, b.0))

-- a node's children are raised
pub write_node : (S : System) → IsWellFormed S → (r : ℕ) (rs : List ℕ) (x : Vertex) (xs : List Vertex) (out w : List ℕ) (root cs : List ℕ) → term_at S x.equation x.term ≡ Some (Node root cs) → Top S r rs x xs out w
    → (length x.sizes ≡ length root) × (r + sum_of x.sizes ≤ 160) × Writing S (raises r root x.sizes root ++ rs) xs out w
write_node S f r rs x xs out w root cs e h = (
  many,
  sum,
  record {
    waiting = dues_below S x ++ h.below;
    completes = h.completes;
    fit = subst (λ o. Fit 160 (raises r root x.sizes root ++ rs) (dues (children_of o) x.sizes ++ h.below)) (sym e)
        (fit_below 160 r root x.sizes rs h.below h.fit root cs x.sizes (sym g.long) many
        (λ i lt. let q = lower_fits (get_or root i 0) root x.sizes i many lt refl in omega (arith, sum)));
    room = let a = due_sizes_append (dues_below S x) h.below in omega (arith, h.room, whole);
    rest = ap (λ o. out ++ (own r o ++ written S (raised_on r x.sizes o rs) xs)) (sym e) ∙ h.rest;
  },
)
  where
    g : NodeForm (length S.equations) root cs
    g = node_form S x.equation x.term root cs f e

    many : length x.sizes ≡ length root
    many = h.sound.many ∙ ap (λ o. length (children_of o)) e ∙ sym g.long

    whole : due_sizes (dues_below S x) ≤ x.size
    whole = by (below_load S f x h.sound)
      where
        by : (((length (dues_below S x) ≡ 0) × (due_sizes (dues_below S x) ≡ 0) × (x.size ≡ 1)) ⊎ ((2 ≤ length (dues_below S x)) × (due_sizes (dues_below S x) ≡ x.size))) → due_sizes (dues_below S x) ≤ x.size
        by (inl a) = omega (arith, a.1)
        by (inr b) = omega (arith, b.1)

    sum : r + sum_of x.sizes ≤ 160
    sum = let u = upto x.sizes in omega (arith, h.own, h.sound.sum)
      where
        upto : (ns : List ℕ) → sum_of ns ≤ whole_size ns
        upto [] = omega arith
        upto (n ∷ ns) = omega arith

-- at the start nothing is written, and the whole tree is raised by 0
pub writing_start : (S : System) (n : ℕ) (xs : List Vertex) → n ≤ 160 → Completes S (record { equation = 0; size = n } ∷ []) xs → Writing S (0 ∷ []) xs [] (word_of S xs)
writing_start S n xs le h = record {
  waiting = record { equation = 0; size = n } ∷ [];
  completes = h;
  fit = (omega arith, refl);
  room = omega arith;
  rest = refl;
}

-- the sizes below an entry so far
pub lower_next : (p sum s j whole : ℕ) (root ns : List ℕ) → j < length root → j < length ns
    → sum + sizes_below p (drop j root) (drop j ns) ≡ whole → s ≡ sum + cond {A = ℕ} (nat_lt (get_or root j 0) p) (get_or ns j 0) 0
    → s + sizes_below p (drop (j + 1) root) (drop (j + 1) ns) ≡ whole
lower_next p sum s j whole root ns lt lt2 h e =
    let g : sizes_below p (drop j root) (drop j ns) ≡ cond {A = ℕ} (nat_lt (get_or root j 0) p) (get_or ns j 0) 0 + sizes_below p (drop (j + 1) root) (drop (j + 1) ns) =
    ap₂ (λ a b. sizes_below p a b) (drop_here root j 0 lt) (drop_here ns j 0 lt2) in
    omega arith

-- the last is the first in reverse
pop_reverse : {X : Type 0} (items new : List X) (r : X) → items ≡ new ++ r ∷ [] → reverse items ≡ r ∷ reverse new
pop_reverse items new r e = ap reverse e ∙ reverse-append new (r ∷ [])

-- a step at a point, where the numbers are kept with the next one last
pub step_point : (S : System) → IsWellFormed S → (r : ℕ) (items new : List ℕ) (x : Vertex) (xs : List Vertex) (out w : List ℕ) → items ≡ new ++ r ∷ [] → term_at S x.equation x.term ≡ Some Point
    → Writing S (reverse items) (x ∷ xs) out w → (r + 1 ≤ 160) × (length out + 1 ≤ 160) × Writing S (reverse new) xs (out ++ (r + 1) ∷ []) w
step_point S f r items new x xs out w e t h =
    let top = writing_top S r (reverse new) x xs out w (subst (λ z. Writing S z (x ∷ xs) out w) (pop_reverse items new r e) h) in
    let p = write_point S f r (reverse new) x xs out w t top in
    (omega (arith, p.0, top.own), omega (arith, p.0, top.room), p.1)

-- a step at a node
pub step_node : (S : System) → IsWellFormed S → (r : ℕ) (items new : List ℕ) (x : Vertex) (xs : List Vertex) (out w : List ℕ) (root cs : List ℕ) → items ≡ new ++ r ∷ [] → term_at S x.equation x.term ≡ Some (Node root cs)
    → Writing S (reverse items) (x ∷ xs) out w
    → (length x.sizes ≡ length root) × (r + sum_of x.sizes ≤ 160) × (length new + length root ≤ 160) × Writing S (reverse (new ++ reverse (raises r root x.sizes root))) xs out w
step_node S f r items new x xs out w root cs e t h =
    let top = writing_top S r (reverse new) x xs out w (subst (λ z. Writing S z (x ∷ xs) out w) (pop_reverse items new r e) h) in
    let p = write_node S f r (reverse new) x xs out w root cs t top in
    let q : raises r root x.sizes root ++ reverse new ≡ reverse (new ++ reverse (raises r root x.sizes root)) =
    sym (reverse-append new (reverse (raises r root x.sizes root)) ∙ ap (λ z. z ++ reverse new) (reverse-reverse (raises r root x.sizes root))) in
    let room = writing_room S (raises r root x.sizes root ++ reverse new) xs out w p.2 in
    let l = length-append (raises r root x.sizes root) (reverse new) in
    let m = length_raises r root x.sizes root in
    let k = length-reverse new in
    (p.0, p.1, omega arith, subst (λ z. Writing S z xs out w) q p.2)

-- some number waits
pub step_none : (S : System) (items : List ℕ) (x : Vertex) (xs : List Vertex) (out w : List ℕ) → items ≡ [] → Writing S (reverse items) (x ∷ xs) out w → ⊥
step_none S items x xs out w e h = writing_some S x xs out w (subst (λ z. Writing S (reverse z) (x ∷ xs) out w) e h)

-- at the end all is written
pub writing_end : (S : System) (rs : List ℕ) (out w : List ℕ) → Writing S rs [] out w → out ≡ w
writing_end S rs out w h = sym (append_nil out) ∙ ap (λ z. out ++ z) (sym (none rs)) ∙ h.rest
  where
    none : (rs : List ℕ) → written S rs [] ≡ []
    none [] = refl
    none (r ∷ rs) = refl

-- the numbers that raise the children from one on
pub raises_here : (r : ℕ) (root ns parts : List ℕ) (i : ℕ) → i < length parts → raises r root ns (drop i parts) ≡ (r + sizes_below (get_or parts i 0) root ns) ∷ raises r root ns (drop (i + 1) parts)
raises_here r root ns parts i lt = ap (raises r root ns) (drop_here parts i 0 lt)

-- one more, the first last
pub raises_more : (r : ℕ) (root ns old out : List ℕ) (i j : ℕ) (v : ℕ) → j ≡ i + 1 → i < length root → v ≡ sizes_below (get_or root i 0) root ns
    → out ≡ old ++ reverse (raises r root ns (drop j root)) → out ++ (r + v) ∷ [] ≡ old ++ reverse (raises r root ns (drop i root))
raises_more r root ns old out i j v e lt h q =
    ap₂ (λ a b. a ++ (r + b) ∷ []) q h
    ∙ append_assoc old (reverse (raises r root ns (drop j root))) ((r + sizes_below (get_or root i 0) root ns) ∷ [])
    ∙ ap (λ z. old ++ z) (ap (λ z. reverse (raises r root ns (drop z root)) ++ (r + sizes_below (get_or root i 0) root ns) ∷ []) e
    ∙ sym (ap reverse (raises_here r root ns root i lt) ∙ reverse_onto (raises r root ns (drop (i + 1) root)) (r + sizes_below (get_or root i 0) root ns) []))
