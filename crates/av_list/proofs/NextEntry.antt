-- The law of the lister: the step goes to the next entry of the ordered list.
use Rattle.std.proofs.Common.{◌≡◌, ℕ, zero, suc, ◌+◌, ◌<◌, List, [], ◌∷◌, length, drop, get_or, sym, ◌∙◌, ap, arith}
use Rattle.av_sys.specs.declared.terms.System.{System}
use Rattle.av_list.specs.declared.vertex.Vertex.{Vertex}
use Rattle.av_list.specs.Remaining.{listed, onto, later, left}

-- what is known of a list by what is left of it from a place on
pub record Rest {X : Type 0} (xs : List X) (r : ℕ) (y : X) (ys : List X) (d : X) : Type 0 where
  pub below : r < length xs
  pub here : get_or xs r d ≡ y
  pub next : drop (suc r) xs ≡ ys

-- what is left begins with the element at the place
pub rest_from : {X : Type 0} (xs : List X) (r : ℕ) (y : X) (ys : List X) (d : X) → drop r xs ≡ y ∷ ys → Rest xs r y ys d
rest_from [] zero y ys d e = absurd (let f : [] ≡ y ∷ ys = e in cc)
rest_from [] (suc r) y ys d e = absurd (let f : [] ≡ y ∷ ys = e in cc)
rest_from (x ∷ xs) zero y ys d e = record { below = omega arith; here = ap (λ zs. get_or zs 0 d) e; next = ap (drop 1) e }
rest_from (x ∷ xs) (suc r) y ys d e = let h = rest_from xs r y ys d e in record { below = omega (arith, h.below); here = h.here; next = h.next }

-- The step goes to the next entry of the ordered list: where the tree that is placed is entry r, and what is left after the step
-- is what came later than that tree, the tree that is placed then is entry r + 1.
--
-- The step takes vertices back from the last on, until one has a later choice with a tree, puts the first such in its place,
-- and takes first choices for all that is due from there on. Seen from a vertex, one of three things happens to its tree:
-- 1. A vertex below it moves. It lies in the last child that has a next tree, for no later vertex has another choice. That
--    child goes to its next tree, and the children after it, which are due again, begin with their first trees.
-- 2. No child has a next tree, and the vertex moves to the first further list of sizes for which each child has a tree
--    (`picked_same`). Then all children are due again, and begin with their first trees.
-- 3. No such list is left, and the vertex moves to the first later term that has a tree of the whole size, with its first
--    sizes (`picked_later`).
-- Where none of the three does, the tree is the last of its equation and size, and the vertex is taken back too (`back_step`).
pub next_entry : (S : System) (n r s : ℕ) (placed new : List Vertex) → r + 1 ≡ s → left S placed [] ≡ drop r (listed S 0 n)
    → left S new [] ≡ later S placed [] → left S new [] ≡ drop s (listed S 0 n)
next_entry S n r s placed new e at moved =
    let q : suc r ≡ s = omega arith in
    moved ∙ sym (rest_from (listed S 0 n) r (onto placed []) (later S placed []) [] (sym at)).next ∙ ap (λ k. drop k (listed S 0 n)) q
