-- The terms gone through, from the front.
use Rattle.std.proofs.Common.{◌≡◌, ℕ, ◌+◌, ◌<◌, ◌≤◌, min, List, [], ◌∷◌, ◌++◌, take, length, get_or, All, Option, Some, None, refl, sym, ap, ap₂, ◌∙◌, subst, arith, append_assoc, add-one}
use Rattle.std.proofs.Math.Seq.{take-suc}
use Rattle.std.proofs.lemmas.List.{map-append}
use Rattle.std.proofs.lemmas.List.Elements.{All-nil, All-cons, All-append}
use Rattle.av_name.specs.declared.constraints.Known.{Known}
use Rattle.av_split.specs.declared.cells.Cell.{Cell}
use Rattle.av_split.specs.declared.steps.Step.{Step}
use Rattle.av_split.specs.declared.steps.Step.TheVariants.{Holds, Fails, Asks}
use Rattle.av_split.specs.Split.{at_open, first_open}
use Rattle.av_split.specs.Cells.{IsStep, or_first, or_else}
use Rattle.av_walk.specs.declared.sifting.Sifted.{Sifted}
use Rattle.av_walk.specs.Walk.{Literal, literal_known, term_known, one_more, inside_count, next_of_terms}
use Rattle.av_walk.specs.Sifts.{literal_cell, picked, AreAlive, IsMore}
use Rattle.av_walk.proofs.Living.{alive_all, alive_without}

-- the terms before the rest told no more than what was found
pub record Sifts (F : Cell → Known) (ts : List (List (Literal Cell))) (numbers : List ℕ) (s : Sifted) (rest : List ℕ) : Type 0 where
  pub small : s.inside ≤ 2
  pub inside : min 2 (inside_count F (picked ts numbers)) ≡ min 2 (s.inside + inside_count F (picked ts rest))
  pub next : next_of_terms F (picked ts numbers) ≡ or_else s.next (next_of_terms F (picked ts rest))
  pub live : AreAlive (term_known F) (picked ts numbers) (picked ts s.live.items ++ picked ts rest)
  pub within : All (λ i. i < length ts) s.live.items

module _ (F : Cell → Known) (ts : List (List (Literal Cell))) (numbers : List ℕ) where
  -- at the start nothing was found
  pub sift_start : (s : Sifted) → s.inside ≡ 0 → s.next ≡ None → s.live.items ≡ [] → Sifts F ts numbers s numbers
  sift_start s a b c = record {
    small = omega arith;
    inside = let e : inside_count F (picked ts numbers) ≡ s.inside + inside_count F (picked ts numbers) = omega (arith, a) in ap (min 2) e;
    next = ap (λ o. or_else o (next_of_terms F (picked ts numbers))) (sym b);
    live = subst (λ l. AreAlive (term_known F) (picked ts numbers) (picked ts l ++ picked ts numbers)) (sym c) (alive_all (term_known F) (picked ts numbers));
    within = subst (All (λ i. i < length ts)) (sym c) (All-nil (λ i. i < length ts));
  }

  -- one more number among the living
  longer : (s new : Sifted) (i : ℕ) (rest : List ℕ) → new.live.items ≡ s.live.items ++ i ∷ [] → picked ts s.live.items ++ picked ts (i ∷ rest) ≡ picked ts new.live.items ++ picked ts rest
  longer s new i rest e =
      sym (append_assoc (picked ts s.live.items) (get_or ts i [] ∷ []) (picked ts rest))
      ∙ ap (λ (l : List (List (Literal Cell))). l ++ picked ts rest) (sym (map-append (λ i. get_or ts i []) s.live.items (i ∷ [])) ∙ ap (picked ts) (sym e))

  -- one more term
  pub sift_more : (old new : Sifted) (i : ℕ) (rest : List ℕ) (step : Step) → i < length ts → IsStep step (term_known F (get_or ts i [])) (first_open (literal_known F) literal_cell (get_or ts i [])) → IsMore old i step new
      → Sifts F ts numbers old (i ∷ rest) → Sifts F ts numbers new rest
  sift_more old new i rest Holds h k m s = record {
    small = omega (arith, m.0);
    inside =
        s.inside
        ∙ ap (λ known. min 2 (old.inside + one_more known (inside_count F (picked ts rest)))) k
        ∙ (let e = m.0 in let g = s.small in omega arith);
    next = s.next ∙ ap (λ known. or_else old.next (at_open known (first_open (literal_known F) literal_cell (get_or ts i [])) (next_of_terms F (picked ts rest)))) k ∙ ap (λ o. or_else o (next_of_terms F (picked ts rest))) (sym m.1);
    live = subst (AreAlive (term_known F) (picked ts numbers)) (longer old new i rest m.2) s.live;
    within = subst (All (λ i. i < length ts)) (sym m.2) (All-append (λ i. i < length ts) old.live.items (i ∷ []) s.within (All-cons (λ i. i < length ts) i [] h (All-nil (λ i. i < length ts))));
  }
  sift_more old new i rest Fails h k m s = record {
    small = omega (arith, m.0, s.small);
    inside =
        s.inside
        ∙ ap (λ known. min 2 (old.inside + one_more known (inside_count F (picked ts rest)))) k
        ∙ ap (λ n. min 2 (n + inside_count F (picked ts rest))) (sym m.0);
    next = s.next ∙ ap (λ known. or_else old.next (at_open known (first_open (literal_known F) literal_cell (get_or ts i [])) (next_of_terms F (picked ts rest)))) k ∙ ap (λ o. or_else o (next_of_terms F (picked ts rest))) (sym m.1);
    live = subst (λ l. AreAlive (term_known F) (picked ts numbers) (picked ts l ++ picked ts rest)) (sym m.2) (alive_without (term_known F) (picked ts numbers) (picked ts old.live.items) (picked ts rest) (get_or ts i []) k s.live);
    within = subst (All (λ i. i < length ts)) (sym m.2) s.within;
  }
  sift_more old new i rest (Asks cell) h k m s = record {
    small = omega (arith, m.0, s.small);
    inside =
        s.inside
        ∙ ap (λ known. min 2 (old.inside + one_more known (inside_count F (picked ts rest)))) k.0
        ∙ ap (λ n. min 2 (n + inside_count F (picked ts rest))) (sym m.0);
    next =
        s.next
        ∙ ap₂ (λ known o. or_else old.next (at_open known o (next_of_terms F (picked ts rest)))) k.0 k.1
        ∙ first old.next
        ∙ ap (λ o. or_else o (next_of_terms F (picked ts rest))) (sym m.1);
    live = subst (AreAlive (term_known F) (picked ts numbers)) (longer old new i rest m.2) s.live;
    within = subst (All (λ i. i < length ts)) (sym m.2) (All-append (λ i. i < length ts) old.live.items (i ∷ []) s.within (All-cons (λ i. i < length ts) i [] h (All-nil (λ i. i < length ts))));
  }
    where
      first : (o : Option Cell) → or_else o (Some cell) ≡ or_else (or_first o cell) (next_of_terms F (picked ts rest))
      first None = refl
      first (Some c) = refl

-- one more number of all
pub all_next : (ts : List (List (Literal Cell))) (i n : ℕ) (old new : List ℕ) → i < length ts → n ≡ i + 1 → new ≡ old ++ i ∷ [] → picked ts old ≡ take i ts → picked ts new ≡ take n ts
all_next ts i n old new h m e g =
    ap (picked ts) e
    ∙ map-append (λ i. get_or ts i []) old (i ∷ [])
    ∙ ap (λ (l : List (List (Literal Cell))). l ++ get_or ts i [] ∷ []) g
    ∙ sym (take-suc ts i [] h)
    ∙ ap (λ j. take j ts) (sym (m ∙ add-one i))
