-- The terms that may still have blocks in a box: the others tell nothing of it, there and in each part.
use Rattle.std.proofs.Common.{◌≡◌, inl, inr, List, [], ◌∷◌, ◌++◌, refl, sym, ap, ◌∙◌, subst}
use Rattle.av_perm.specs.Members.{In}
use Rattle.av_name.specs.declared.constraints.Known.{Known}
use Rattle.av_name.specs.declared.constraints.Known.TheVariants.{Outside}
use Rattle.av_split.specs.declared.cells.Cell.{Cell}
use Rattle.av_split.specs.Split.{at_open, first_open}
use Rattle.av_walk.specs.Walk.{Literal, literal_known, term_known, one_more, inside_count, next_of_terms}
use Rattle.av_walk.specs.Sifts.{literal_cell, AreAlive}

-- all are alive
pub alive_all : (f : List (Literal Cell) → Known) (ts : List (List (Literal Cell))) → AreAlive f ts ts
alive_all f [] = refl
alive_all f (t ∷ ts) = inl (ts, refl, alive_all f ts)

-- what is refuted stays so
pub alive_still : (f g : List (Literal Cell) → Known) (ts us : List (List (Literal Cell))) → ((t : List (Literal Cell)) → In t ts → f t ≡ Outside → g t ≡ Outside) → AreAlive f ts us → AreAlive g ts us
alive_still f g [] us h a = a
alive_still f g (t ∷ ts) us h (inl a) = inl (a.0, a.1, alive_still f g ts a.0 (λ s i. h s (inr i)) a.2)
alive_still f g (t ∷ ts) us h (inr a) = inr (h t (inl refl) a.0, alive_still f g ts us (λ s i. h s (inr i)) a.1)

-- the living of the living
pub alive_alive : (f : List (Literal Cell) → Known) (ts us vs : List (List (Literal Cell))) → AreAlive f ts us → AreAlive f us vs → AreAlive f ts vs
alive_alive f [] us vs a b = subst (λ (l : List (List (Literal Cell))). AreAlive f l vs) a b
alive_alive f (t ∷ ts) us vs (inr a) b = inr (a.0, alive_alive f ts us vs a.1 b)
alive_alive f (t ∷ ts) us vs (inl a) b = by (subst (λ (l : List (List (Literal Cell))). AreAlive f l vs) a.1 b) (λ ws d. alive_alive f ts a.0 ws a.2 d)
  where
    by : AreAlive f (t ∷ a.0) vs → ((ws : List (List (Literal Cell))) → AreAlive f a.0 ws → AreAlive f ts ws) → AreAlive f (t ∷ ts) vs
    by (inl d) deeper = inl (d.0, d.1, deeper d.0 d.2)
    by (inr d) deeper = inr (d.0, deeper vs d.1)

-- two lists together
pub alive_append : (f : List (Literal Cell) → Known) (ts us vs ws : List (List (Literal Cell))) → AreAlive f ts us → AreAlive f vs ws → AreAlive f (ts ++ vs) (us ++ ws)
alive_append f [] us vs ws a b = subst (λ (l : List (List (Literal Cell))). AreAlive f vs (l ++ ws)) (sym a) b
alive_append f (t ∷ ts) us vs ws (inl a) b = inl (a.0 ++ ws, ap (λ (l : List (List (Literal Cell))). l ++ ws) a.1, alive_append f ts a.0 vs ws a.2 b)
alive_append f (t ∷ ts) us vs ws (inr a) b = inr (a.0, alive_append f ts us vs ws a.1 b)

-- one that is refuted is left out
pub alive_without : (f : List (Literal Cell) → Known) (ts us vs : List (List (Literal Cell))) (t : List (Literal Cell)) → f t ≡ Outside → AreAlive f ts (us ++ t ∷ vs) → AreAlive f ts (us ++ vs)
alive_without f ts us vs t e a = alive_alive f ts (us ++ t ∷ vs) (us ++ vs) a (alive_append f us us (t ∷ vs) vs (alive_all f us) (inr (e, alive_all f vs)))

-- the living tell how many are inside
pub alive_count : (F : Cell → Known) (ts us : List (List (Literal Cell))) → AreAlive (term_known F) ts us → inside_count F ts ≡ inside_count F us
alive_count F [] us a = ap (inside_count F) (sym a)
alive_count F (t ∷ ts) us (inl a) = ap (one_more (term_known F t)) (alive_count F ts a.0 a.2) ∙ ap (inside_count F) (sym a.1)
alive_count F (t ∷ ts) us (inr a) = ap (λ k. one_more k (inside_count F ts)) a.0 ∙ alive_count F ts us a.1

-- and the first open question
pub alive_next : (F : Cell → Known) (ts us : List (List (Literal Cell))) → AreAlive (term_known F) ts us → next_of_terms F ts ≡ next_of_terms F us
alive_next F [] us a = ap (next_of_terms F) (sym a)
alive_next F (t ∷ ts) us (inl a) = ap (at_open (term_known F t) (first_open (literal_known F) literal_cell t)) (alive_next F ts a.0 a.2) ∙ ap (next_of_terms F) (sym a.1)
alive_next F (t ∷ ts) us (inr a) = ap (λ k. at_open k (first_open (literal_known F) literal_cell t) (next_of_terms F ts)) a.0 ∙ alive_next F ts us a.1
