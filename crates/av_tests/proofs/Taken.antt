-- A `for` over at most so many items: what was taken, and what is still to be taken, are the first items.
use Rattle.std.proofs.Common.{◌≡◌, ℕ, zero, suc, ◌+◌, ◌<◌, List, [], ◌∷◌, ◌++◌, take, sym, ◌∙◌, ap, arith, append_assoc}
use Rattle.av_count.proofs.Choices.{append_nil}

-- one more is taken
pub taken_more : {X : Type 0} (done xs ys all : List X) (x : X) (n m : ℕ) → done ++ take n xs ≡ all → xs ≡ x ∷ ys → m + 1 ≡ n → (done ++ x ∷ []) ++ take m ys ≡ all
taken_more done xs ys all x n m e f g =
    let k : n ≡ suc m = omega arith in
    append_assoc done (x ∷ []) (take m ys) ∙ sym (ap (λ z. done ++ take n z) f ∙ ap (λ j. done ++ take j (x ∷ ys)) k) ∙ e

-- no more are asked for, or none is left
pub taken_all : {X : Type 0} (done xs all : List X) (n : ℕ) → done ++ take n xs ≡ all → (0 < n → xs ≡ []) → done ≡ all
taken_all done xs all zero e f = sym (append_nil done) ∙ e
taken_all done xs all (suc n) e f = sym (append_nil done) ∙ sym (ap (λ z. done ++ take (suc n) z) (f (omega arith))) ∙ e
