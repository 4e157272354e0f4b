-- What is due below the vertex stands first, so it is last in the vector.
use Rattle.std.proofs.Common.{◌≡◌, ◌-◌, ◌≤◌, ℕ, zero, suc, List, [], ◌∷◌, length, take, drop, reverse, arith, sym, ◌∙◌, ap, refl}
use Rattle.std.proofs.lemmas.List.{reverse-append, length-reverse, take-append-drop, length-drop}
use Rattle.av_list.specs.Progress.{Progress}
use Rattle.av_list.proofs.derivation.Derivation.pop_vertex.Goals as goal
use Rattle.av_list.proofs.Steps.{drop_front}

-- all is dropped
drop_all : {X : Type 0} (xs : List X) (k : ℕ) → length xs ≤ k → drop k xs ≡ []
drop_all [] zero h = refl
drop_all [] (suc k) h = refl
drop_all (x ∷ xs) zero h = absurd (omega arith)
drop_all (x ∷ xs) (suc k) h = drop_all xs k (omega arith)

-- the first, in reverse
reverse_take : {X : Type 0} (xs : List X) (k : ℕ) → reverse (take (length xs - k) xs) ≡ drop k (reverse xs)
reverse_take xs k = by (length xs - k) refl
  where
    by : (m : ℕ) → length xs - k ≡ m → reverse (take m xs) ≡ drop k (reverse xs)
    by zero e = sym (drop_all (reverse xs) k (omega (arith, length-reverse xs)))
    by (suc m) e =
        sym (ap (drop k) (ap reverse (sym (take-append-drop (suc m) xs)) ∙ reverse-append (take (suc m) xs) (drop (suc m) xs))
        ∙ drop_front (reverse (drop (suc m) xs)) (reverse (take (suc m) xs)) k (omega (arith, length-reverse (drop (suc m) xs), length-drop (suc m) xs)))

pub returns-in-Some-clause-vertex : goal.returns-in-Some-clause-vertex
returns-in-Some-clause-vertex c =
    let d = c.self.inside.dues.items in
    let keep : c.saturating_sub-keep.result ≡ length d - length c.in-Some.vertex.sizes = omega (arith, c.saturating_sub-keep.ensures, c.len.ensures, c.len-in-Some.ensures) in (
      ap (λ (w : Progress). w.placed) (sym c.self.view_is) ∙ ap reverse c.in-Some.ensures.items ∙ reverse-append c.pop.new.self.items (c.in-Some.vertex ∷ []),
      ap reverse (c.truncate.ensures.items ∙ ap (λ k. take k d) keep) ∙ reverse_take d (length c.in-Some.vertex.sizes) ∙ ap (λ (w : Progress). drop (length c.in-Some.vertex.sizes) w.due) c.self.view_is,
    )
