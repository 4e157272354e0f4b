-- Lines that are taken in turn.
use Rattle.std.proofs.Common.{◌≡◌, inl, inr, ℕ, suc, ◌+◌, ◌<◌, List, [], ◌∷◌, ◌++◌, length, Option, Some, None, codes, refl, sym, ap, subst, ◌∙◌, append_assoc, arith}
use Rattle.av_perm.proofs.Membership.{In_one, In_append_cases}
use Rattle.av_sys.specs.declared.terms.Equation.{Equation}
use Rattle.av_check.specs.declared.reading.announced.Counts.{Counts}
use Rattle.av_check.specs.Claims.{IsOptional, TellsWords, TellsRequired, TellsCounts, AreEquationLines}
use Rattle.av_check.specs.Reading.{FirstIs, IsPassed, Passes, TakesLine, IsEquationOf, TellsEquation, TellsTheseCounts, TakesEquations, StopsAtEquation, IsVersion, IsUnion, IsSimplesLine, IsGapLine, StopsAtBasis, IsWithoutRequired, TakesFirst, StopsAtCounts}

-- what was passed is at most one line of the kind
pub passed_optional : (P : List ℕ → Type 0) (passed left : List (List ℕ)) → IsPassed P passed left → IsOptional P passed
passed_optional P [] left p = tt
passed_optional P (l ∷ []) left p = p
passed_optional P (l ∷ m ∷ ls) left p = p

-- all lines are those that were passed and those that are left
pass_cut : {P : List ℕ → Type 0} {old mid new : List (List ℕ)} (p : Passes P old mid) → mid ≡ new → old ≡ p.passed ++ new
pass_cut {P} {old} {mid} {new} p e = p.cut ∙ ap (λ (l : List (List ℕ)). p.passed ++ l) e

-- the lines of two lists of equations, the second numbered from the end of the first on
pub lines_append : (u v : ℕ) (es fs : List Equation) (ls ms : List (List ℕ)) → v ≡ u + length es → AreEquationLines u es ls → AreEquationLines v fs ms
    → AreEquationLines u (es ++ fs) (ls ++ ms)
lines_append u v [] fs [] ms e are more = let same : v ≡ u = omega arith in subst (λ w. AreEquationLines w fs ms) same more
lines_append u v [] fs (l ∷ ls) ms e are more = absurd are
lines_append u v (x ∷ es) fs [] ms e are more = absurd are
lines_append u v (x ∷ es) fs (l ∷ ls) ms e are more = (are.0, lines_append (suc u) v es fs ls ms (omega arith) are.1 more)

-- one equation more
pub equations_more : (count number : ℕ) (es : List Equation) (e : Equation) (old mid new : List (List ℕ)) → number ≡ length es → TakesEquations count es old mid
    → TakesLine (TellsEquation count number) mid new (Some e) → TakesEquations count (es ++ e ∷ []) old new
equations_more count number es e old mid new is takes (line, cut, tells) = record {
  taken = takes.taken ++ line ∷ [];
  cut = takes.cut ∙ ap (λ (l : List (List ℕ)). takes.taken ++ l) cut ∙ sym (append_assoc takes.taken (line ∷ []) new);
  lines = lines_append 0 number es (e ∷ []) takes.taken (line ∷ []) (omega arith) takes.lines (tells.text, tt);
  each = λ x i. elim (In_append_cases es (e ∷ []) x i) [
    | inl a ↦ takes.each x a
    | inr b ↦ subst (IsEquationOf count) (sym (In_one x e b)) tells.equation
  ];
}

pub equations_stop : (count number : ℕ) (es : List Equation) (old mid new : List (List ℕ)) → number ≡ length es → number < count → TakesEquations count es old mid
    → TakesLine (TellsEquation count number) mid new None → StopsAtEquation count old new
equations_stop count number es old mid new is few takes none = record {
  list = es;
  takes = subst (λ (l : List (List ℕ)). TakesEquations count es old l) (sym none.0) takes;
  few = omega arith;
  none = λ e f. none.1 e (subst (λ n. FirstIs (TellsEquation count n e) mid) (sym is) (subst (FirstIs (TellsEquation count (length es) e)) none.0 f));
}

-- the first lines
pub stops_at_basis : (a b c d : List (List ℕ)) → Passes IsVersion a b → Passes IsUnion b c → TakesLine (TellsWords (codes "basis")) c d None → StopsAtBasis a d
stops_at_basis a b c d v u none = record {
  version = v.passed;
  union = u.passed;
  cut = pass_cut v (pass_cut u (sym none.0));
  is_version = subst (IsPassed IsVersion v.passed) (pass_cut u (sym none.0)) v.is;
  is_union = subst (IsPassed IsUnion u.passed) (sym none.0) u.is;
  none = λ ws f. none.1 ws (subst (FirstIs (TellsWords (codes "basis") ws)) none.0 f);
}

-- the lines of required words that were taken, and what is left
record TakesRequired (needed : Option (List (List ℕ))) (old new : List (List ℕ)) : Type 0 where
  taken : List (List ℕ)
  cut : old ≡ taken ++ new
  is : TellsRequired needed taken
  after : IsWithoutRequired needed new

required_taken : (needed : Option (List (List ℕ))) (old new : List (List ℕ)) → TakesLine (TellsWords (codes "require")) old new needed → TakesRequired needed old new
required_taken (Some ws) old new (line, cut, tells) = record { taken = line ∷ []; cut = cut; is = tells; after = tt }
required_taken None old new (same, none) = record {
  taken = [];
  cut = sym same;
  is = tt;
  after = λ ws f. none ws (subst (FirstIs (TellsWords (codes "require") ws)) same f);
}

pub takes_first : (ws : List (List ℕ)) (needed : Option (List (List ℕ))) (a b c d e : List (List ℕ)) → Passes IsVersion a b → Passes IsUnion b c
    → TakesLine (TellsWords (codes "basis")) c d (Some ws) → TakesLine (TellsWords (codes "require")) d e needed → TakesFirst (record { basis = ws; require = needed }) a e
takes_first ws needed a b c d e v u (line, cut, tells) more =
    let r = required_taken needed d e more in
    record {
      taken = v.passed ++ (u.passed ++ (line ∷ r.taken));
      cut = pass_cut v (pass_cut u (cut ∙ ap (λ (l : List (List ℕ)). line ∷ l) r.cut)) ∙ regroup v.passed u.passed (line ∷ r.taken) e;
      lines = record {
        version = v.passed;
        union = u.passed;
        basis = line;
        require = r.taken;
        in_order = refl;
        is_version = passed_optional IsVersion v.passed b v.is;
        is_union = passed_optional IsUnion u.passed c u.is;
        is_basis = tells;
        is_require = r.is;
      };
      after = r.after;
    }
  where
    regroup : (x y z w : List (List ℕ)) → x ++ (y ++ (z ++ w)) ≡ (x ++ (y ++ z)) ++ w
    regroup x y z w = sym (append_assoc x (y ++ z) w ∙ ap (λ (l : List (List ℕ)). x ++ l) (append_assoc y z w))

-- the lines before the equations
told_these : (x y : ℕ) (line : List ℕ) → TellsCounts x y line → (k : Counts) × TellsTheseCounts k line
told_these x y line t = (
  record { version = t.version; equations = x; terms = y },
  record { are = record { known = t.known; some = t.some; few = t.few }; text = t.text },
)

first_told : (x y : ℕ) (lines : List (List ℕ)) → FirstIs (TellsCounts x y) lines → (k : Counts) × FirstIs (TellsTheseCounts k) lines
first_told x y [] f = absurd f
first_told x y (l ∷ ls) f = told_these x y l f

pub stops_at_counts : (a b c d : List (List ℕ)) → Passes IsSimplesLine a b → Passes IsGapLine b c → TakesLine TellsTheseCounts c d None → StopsAtCounts a d
stops_at_counts a b c d s g none = record {
  simples = s.passed;
  gap = g.passed;
  cut = pass_cut s (pass_cut g (sym none.0));
  is_simples = subst (IsPassed IsSimplesLine s.passed) (pass_cut g (sym none.0)) s.is;
  is_gap = subst (IsPassed IsGapLine g.passed) (sym none.0) g.is;
  none = λ x y f. let t = first_told x y d f in none.1 t.0 (subst (FirstIs (TellsTheseCounts t.0)) none.0 t.1);
}
