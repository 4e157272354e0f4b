-- The lines of systems are read in one way.
use Rattle.std.proofs.Common.{◌≡◌, inl, inr, ℕ, suc, ◌+◌, ◌<◌, ◌^◌, List, [], ◌∷◌, ◌++◌, length, Option, Some, None, codes, refl, sym, ap, ap₂, subst, ◌∙◌, arith}
use Rattle.av_perm.specs.Members.{In}
use Rattle.av_sys.specs.declared.terms.Equation.{Equation}
use Rattle.av_sys.specs.declared.terms.System.{System}
use Rattle.av_sys.specs.Terms.{IsTermOf}
use Rattle.av_print.specs.Systems.{equation_text, terms_count}
use Rattle.av_check.specs.Claims.{IsOptional, HasText, TellsWords, TellsCounts, AreEquationLines, AreSystemLines}
use Rattle.av_check.specs.Reading.{FirstIs, IsPassed, IsSimplesLine, IsGapLine, IsEquationOf, IsWithoutRequired, TellsEquation, TakesCounts, TakesEquations, TakesSystem}
use Rattle.av_check.proofs.LineKinds.{require_letter, simples_letter, gap_letter, counts_letter, counts_once, equation_once}
use Rattle.av_check.proofs.Passing.{optional_passed, passed_once}
use Rattle.av_check.proofs.FirstLines.{regroup}

-- the lines of a system before others, in order, with what is passed
pub record AreOrdered (count terms : ℕ) (all left : List (List ℕ)) : Type 0 where
  pub simples : List (List ℕ)
  pub gap : List (List ℕ)
  pub counts : List ℕ
  pub in_order : all ≡ simples ++ (gap ++ (counts ∷ left))
  pub is_simples : IsPassed IsSimplesLine simples (gap ++ (counts ∷ left))
  pub is_gap : IsPassed IsGapLine gap (counts ∷ left)
  pub are_counts : TellsCounts count terms counts

-- lines before that of the counts are passed
pub ordered : (count terms : ℕ) (all left simples gap : List (List ℕ)) (counts : List ℕ) → all ≡ simples ++ (gap ++ (counts ∷ left)) → IsOptional IsSimplesLine simples
    → IsOptional IsGapLine gap → TellsCounts count terms counts → AreOrdered count terms all left
ordered count terms all left simples gap counts e s g k = record {
  simples = simples;
  gap = gap;
  counts = counts;
  in_order = e;
  is_simples = optional_passed IsSimplesLine simples _ s (no_simples gap g);
  is_gap = optional_passed IsGapLine gap _ g (λ h. let a = gap_letter counts h in let b = counts_letter count terms counts k in omega arith);
  are_counts = k;
}
  where
    no_simples : (gap : List (List ℕ)) → IsOptional IsGapLine gap → FirstIs IsSimplesLine (gap ++ (counts ∷ left)) → ⊥
    no_simples [] g h = let a = simples_letter counts h in let b = counts_letter count terms counts k in omega arith
    no_simples (l ∷ []) g h = let a = simples_letter l h in let b = gap_letter l g in omega arith
    no_simples (l ∷ m ∷ ls) g h = g

-- so are those of a system
pub system_ordered : (S : System) (terms : ℕ) (lines left : List (List ℕ)) (f : AreSystemLines S terms lines) → AreOrdered (length S.equations) terms (lines ++ left) (f.equations ++ left)
system_ordered S terms lines left f =
    ordered (length S.equations) terms (lines ++ left) (f.equations ++ left) f.simples f.gap f.counts
    (ap (λ (l : List (List ℕ)). l ++ left) f.in_order ∙ regroup f.simples f.gap (f.counts ∷ f.equations) left) f.is_simples f.is_gap f.are_counts

-- the counts that are read, and what is left
pub ordered_once : (x y m n : ℕ) (all left more : List (List ℕ)) → AreOrdered x y all left → AreOrdered m n all more → (x ≡ m) × (y ≡ n) × (left ≡ more)
ordered_once x y m n all left more o p =
    let s = passed_once IsSimplesLine o.simples p.simples _ _ o.is_simples p.is_simples (sym o.in_order ∙ p.in_order) in
    let g = passed_once IsGapLine o.gap p.gap _ _ o.is_gap p.is_gap s.1 in
    let h : p.counts ≡ o.counts = head_same o.counts p.counts _ _ g.1 in
    let k = counts_once x y m n o.counts o.are_counts (subst (TellsCounts m n) h p.are_counts) in
    (k.0, k.1, tail_same o.counts p.counts _ _ g.1)
  where
    head_same : (x y : List ℕ) (s t : List (List ℕ)) → x ∷ s ≡ y ∷ t → y ≡ x
    head_same x y s t e = cc

    tail_same : (x y : List ℕ) (s t : List (List ℕ)) → x ∷ s ≡ y ∷ t → s ≡ t
    tail_same x y s t e = cc

-- lines of which the first, after what is passed, isn't that of counts are those of no system
pub counts_stop : (simples gap x : List (List ℕ)) → IsPassed IsSimplesLine simples (gap ++ x) → IsPassed IsGapLine gap x
    → ((m n : ℕ) → FirstIs (TellsCounts m n) x → ⊥) → (m n : ℕ) (all left : List (List ℕ)) → AreOrdered m n all left → simples ++ (gap ++ x) ≡ all → ⊥
counts_stop simples gap x s g none m n all left o e =
    let a = passed_once IsSimplesLine simples o.simples (gap ++ x) _ s o.is_simples (e ∙ o.in_order) in
    let b = passed_once IsGapLine gap o.gap x _ g o.is_gap a.1 in
    none m n (subst (FirstIs (TellsCounts m n)) (sym b.1) o.are_counts)

-- the equations of a system are of so many
pub system_each : (S : System) (terms : ℕ) (lines : List (List ℕ)) → AreSystemLines S terms lines → (e : Equation) → In e S.equations → IsEquationOf (length S.equations) e
system_each S terms lines f e i = record { named = f.named e i; terms = λ t j. f.formed.terms e t i j }

-- equation lines of as many equations are read in one way
pub equations_once : (count u : ℕ) (ds es : List Equation) (ls ms x y : List (List ℕ)) → count < 2 ^ 32
    → ((e : Equation) → In e ds → IsEquationOf count e) → ((e : Equation) → In e es → IsEquationOf count e)
    → AreEquationLines u ds ls → AreEquationLines u es ms → length ds ≡ length es → ls ++ x ≡ ms ++ y → (ds ≡ es) × (x ≡ y)
equations_once count u [] [] [] [] x y few p q a b n e = (refl, e)
equations_once count u [] [] [] (m ∷ ms) x y few p q a b n e = absurd b
equations_once count u [] [] (l ∷ ls) ms x y few p q a b n e = absurd a
equations_once count u [] (g ∷ es) ls ms x y few p q a b n e = absurd (omega arith)
equations_once count u (d ∷ ds) [] ls ms x y few p q a b n e = absurd (omega arith)
equations_once count u (d ∷ ds) (g ∷ es) [] ms x y few p q a b n e = absurd a
equations_once count u (d ∷ ds) (g ∷ es) (l ∷ ls) [] x y few p q a b n e = absurd b
equations_once count u (d ∷ ds) (g ∷ es) (l ∷ ls) (m ∷ ms) x y few p q a b n e =
    let h : m ≡ l = cc in
    let same = equation_once count u l d g few (p d (inl refl)) (q g (inl refl)) a.0 (subst (λ k. HasText k (equation_text u g)) h b.0) in
    let r = equations_once count (suc u) ds es ls ms x y few (λ k i. p k (inr i)) (λ k i. q k (inr i)) a.1 b.1 (omega arith) cc in
    (ap₂ (λ (k : Equation) (ks : List Equation). k ∷ ks) same r.0, r.1)

-- after fewer lines the next is that of the next equation
pub equations_next : (u : ℕ) (es fs : List Equation) (ls ms x y : List (List ℕ)) → AreEquationLines u es ls → AreEquationLines u fs ms → length es < length fs
    → ls ++ x ≡ ms ++ y → (f : Equation) × In f fs × FirstIs (λ l. HasText l (equation_text (u + length es) f)) x
equations_next u es [] ls ms x y a b few e = absurd (omega arith)
equations_next u es (f ∷ fs) ls [] x y a b few e = absurd b
equations_next u [] (f ∷ fs) (l ∷ ls) (m ∷ ms) x y a b few e = absurd a
equations_next u [] (f ∷ fs) [] (m ∷ ms) x y a b few e =
    let zero : u ≡ u + 0 = omega arith in
    (f, inl refl, subst (λ n. FirstIs (λ l. HasText l (equation_text n f)) x) zero (subst (FirstIs (λ l. HasText l (equation_text u f))) (sym e) b.0))
equations_next u (d ∷ es) (f ∷ fs) [] (m ∷ ms) x y a b few e = absurd a
equations_next u (d ∷ es) (f ∷ fs) (l ∷ ls) (m ∷ ms) x y a b few e =
    let r = equations_next (suc u) es fs ls ms x y a.1 b.1 (omega arith) cc in
    let same : suc u + length es ≡ u + suc (length es) = omega arith in
    (r.0, inr r.1, subst (λ n. FirstIs (λ k. HasText k (equation_text n r.0)) x) same r.2)

-- the lines of systems are read in one way
pub system_once : (S T : System) (m n : ℕ) (ls ms x y : List (List ℕ)) → AreSystemLines S m ls → AreSystemLines T n ms → ls ++ x ≡ ms ++ y → (S ≡ T) × (m ≡ n) × (x ≡ y)
system_once S T m n ls ms x y f g e =
    let o = ordered_once (length S.equations) m (length T.equations) n (ls ++ x) _ _ (system_ordered S m ls x f)
    (subst (λ l. AreOrdered (length T.equations) n l (g.equations ++ y)) (sym e) (system_ordered T n ms y g)) in
    let r = equations_once (length S.equations) 0 S.equations T.equations f.equations g.equations x y f.formed.few (system_each S m ls f)
    (subst (λ k. (d : Equation) → In d T.equations → IsEquationOf k d) (sym o.0) (system_each T n ms g)) f.are_equations g.are_equations o.0 o.2 in
    (λ i. record { equations = r.0 i }, o.1, r.1)

-- lines that stop within the equations are those of no system
pub equation_stop : (count terms : ℕ) (simples gap : List (List ℕ)) (counts : List ℕ) (es : List Equation) (taken x : List (List ℕ)) → IsOptional IsSimplesLine simples
    → IsOptional IsGapLine gap → TellsCounts count terms counts → AreEquationLines 0 es taken → length es < count
    → ((e : Equation) → FirstIs (TellsEquation count (length es) e) x → ⊥)
    → (T : System) (n : ℕ) (ms y : List (List ℕ)) → AreSystemLines T n ms → simples ++ (gap ++ (counts ∷ (taken ++ x))) ≡ ms ++ y → ⊥
equation_stop count terms simples gap counts es taken x s g k are few none T n ms y f e =
    let o = ordered count terms (simples ++ (gap ++ (counts ∷ (taken ++ x)))) (taken ++ x) simples gap counts refl s g k in
    let p = ordered_once count terms (length T.equations) n _ _ _ o (subst (λ l. AreOrdered (length T.equations) n l (f.equations ++ y)) (sym e) (system_ordered T n ms y f)) in
    let r = equations_next 0 es T.equations taken f.equations x y are f.are_equations (omega (arith, p.0)) p.2 in
    let same : 0 + length es ≡ length es = omega arith in
    let is = subst (λ m. IsEquationOf m r.0) (sym p.0) (system_each T n ms f r.0 r.1) in
    none r.0 (tells x r.0 is (subst (λ m. FirstIs (λ l. HasText l (equation_text m r.0)) x) same r.2))
  where
    tells : (x : List (List ℕ)) (d : Equation) → IsEquationOf count d → FirstIs (λ l. HasText l (equation_text (length es) d)) x → FirstIs (TellsEquation count (length es) d) x
    tells [] d is h = h
    tells (l ∷ ls) d is h = record { equation = is; text = h }

-- no line of required words is the first of the lines of a system
pub without_required : (S : System) (terms : ℕ) (lines : List (List ℕ)) → AreSystemLines S terms lines → (needed : Option (List (List ℕ))) → IsWithoutRequired needed lines
without_required S terms lines f (Some ws) = tt
without_required S terms lines f None =
    λ ws h. by ws f.simples f.gap f.is_simples f.is_gap (subst (FirstIs (TellsWords (codes "require") ws)) f.in_order h)
  where
    by : (ws : List (List ℕ)) (simples gap : List (List ℕ)) → IsOptional IsSimplesLine simples → IsOptional IsGapLine gap
        → FirstIs (TellsWords (codes "require") ws) (simples ++ (gap ++ (f.counts ∷ f.equations))) → ⊥
    by ws (l ∷ m ∷ ls) gap s g h = s
    by ws (l ∷ []) gap s g h = let a = require_letter ws l h in let b = simples_letter l s in omega arith
    by ws [] (l ∷ m ∷ ls) s g h = g
    by ws [] (l ∷ []) s g h = let a = require_letter ws l h in let b = gap_letter l g in omega arith
    by ws [] [] s g h = let a = require_letter ws f.counts h in let b = counts_letter (length S.equations) terms f.counts f.are_counts in omega arith

-- a system whose lines were taken
pub record HasTaken (S : System) (terms : ℕ) (old new : List (List ℕ)) : Type 0 where
  pub taken : List (List ℕ)
  pub cut : old ≡ taken ++ new
  pub lines : AreSystemLines S terms taken

pub system_taken : (count terms : ℕ) (es : List Equation) (old mid new : List (List ℕ)) → TakesCounts count terms old mid → TakesEquations count es mid new → length es ≡ count
    → HasTaken (record { equations = es }) terms old new
system_taken count terms es old mid new c t all = record {
  taken = c.simples ++ (c.gap ++ (c.counts ∷ t.taken));
  cut = c.cut ∙ ap (λ (l : List (List ℕ)). c.simples ++ (c.gap ++ (c.counts ∷ l))) t.cut ∙ sym (regroup c.simples c.gap (c.counts ∷ t.taken) new);
  lines = record {
    simples = c.simples;
    gap = c.gap;
    counts = c.counts;
    equations = t.taken;
    in_order = refl;
    is_simples = c.is_simples;
    is_gap = c.is_gap;
    are_counts = subst (λ n. TellsCounts n terms c.counts) (sym all) c.are_counts;
    are_equations = t.lines;
    formed = record {
      some = omega (arith, all, c.are_counts.some);
      few = omega (arith, all, c.are_counts.few);
      terms = λ e s i j. subst (λ n. IsTermOf n s) (sym all) ((t.each e i).terms s j);
    };
    named = λ e i. (t.each e i).named;
  };
}

-- and after them the line that ends a claim
pub takes_system : (S : System) (terms : ℕ) (old new : List (List ℕ)) → HasTaken S terms old new → terms ≡ terms_count S.equations
    → FirstIs (λ line. line ≡ codes "end") new → TakesSystem S old
takes_system S terms old [] t e f = absurd f
takes_system S terms old (line ∷ others) t e f = record {
  taken = t.taken;
  others = others;
  cut = t.cut ∙ ap (λ (l : List ℕ). t.taken ++ l ∷ others) f;
  lines = subst (λ n. AreSystemLines S n t.taken) e t.lines;
}
