-- The first lines of a claim can be followed by others up to its end.
use Rattle.std.proofs.Common.{◌≡◌, inl, inr, ℕ, zero, suc, ◌-◌, ◌≤◌, List, [], ◌∷◌, ◌++◌, length, Option, None, codes, refl, sym, ap, subst, ◌∙◌, append_assoc, arith}
use Rattle.std.specs.Fmt.{digits}
use Rattle.std.proofs.lemmas.List.{length-append}
use Rattle.av_perm.specs.Members.{In}
use Rattle.av_perm.proofs.Membership.{In_append_cases}
use Rattle.av_sys.specs.declared.names.Sign.TheVariants.{C}
use Rattle.av_sys.specs.declared.terms.Equation.{Equation}
use Rattle.av_sys.specs.declared.terms.System.{System}
use Rattle.av_sys.specs.Terms.{IsTermOf}
use Rattle.av_print.specs.Text.{joined_or_none, words_text}
use Rattle.av_print.specs.Systems.{number_text, terms_text, name_text, equation_text, counts_text}
use Rattle.av_check.specs.Claims.{HasText, IsOptional, TellsWords, TellsCounts, AreEquationLines, AreFirstLines, AreSystemLines, AreAsDemanded}
use Rattle.av_check.specs.Reading.{IsVersion, IsUnion, IsSimplesLine, IsGapLine, IsEquationOf}
use Rattle.av_check.proofs.Taking.{lines_append}
use Rattle.av_check.proofs.FirstLines.{regroup}

-- an equation of nothing, and its line
empty : Equation
empty = record { name = record { sign = C; avoid = []; require = [] }; terms = [] }

empty_line : ℕ → List ℕ
empty_line u = number_text u ++ codes " C avoid none require none = none"

empty_text : (u : ℕ) → HasText (empty_line u) (equation_text u empty)
unfolding empty empty_line equation_text name_text words_text joined_or_none terms_text
empty_text u = append_assoc (number_text u) (codes " C avoid none require none = none") (codes "\n")

empty_is : (count : ℕ) → IsEquationOf count empty
unfolding empty
empty_is count = record { named = record { avoided = λ w i. absurd i; required = λ w i. absurd i }; terms = λ t i. absurd i }

-- so many of them
empties : ℕ → List Equation
empties zero = []
empties (suc n) = empty ∷ empties n

empty_lines : ℕ → ℕ → List (List ℕ)
empty_lines u zero = []
empty_lines u (suc n) = empty_line u ∷ empty_lines (suc u) n

empties_lines : (u n : ℕ) → AreEquationLines u (empties n) (empty_lines u n)
unfolding empties empty_lines
empties_lines u zero = tt
empties_lines u (suc n) = (empty_text u, empties_lines (suc u) n)

length_empties : (n : ℕ) → length (empties n) ≡ n
unfolding empties
length_empties zero = refl
length_empties (suc n) = ap suc (length_empties n)

empties_are : (count n : ℕ) (e : Equation) → In e (empties n) → IsEquationOf count e
unfolding empties
empties_are count zero e i = absurd i
empties_are count (suc n) e (inl f) = subst (IsEquationOf count) (sym f) (empty_is count)
empties_are count (suc n) e (inr i) = empties_are count n e i

-- lines of a system as far as some of its equations, with those that complete it
pub record CanEnd (terms : ℕ) (lines : List (List ℕ)) : Type 0 where
  pub system : System
  pub others : List (List ℕ)
  pub are : AreSystemLines system terms (lines ++ others)

pub equations_can_end : (count terms : ℕ) (simples gap : List (List ℕ)) (counts : List ℕ) (es : List Equation) (taken : List (List ℕ)) → IsOptional IsSimplesLine simples
    → IsOptional IsGapLine gap → TellsCounts count terms counts → AreEquationLines 0 es taken → length es ≤ count → ((e : Equation) → In e es → IsEquationOf count e)
    → CanEnd terms (simples ++ (gap ++ (counts ∷ taken)))
equations_can_end count terms simples gap counts es taken s g k are few each = record {
  system = record { equations = all };
  others = empty_lines (length es) (count - length es);
  are = record {
    simples = simples;
    gap = gap;
    counts = counts;
    equations = taken ++ empty_lines (length es) (count - length es);
    in_order = regroup simples gap (counts ∷ taken) (empty_lines (length es) (count - length es));
    is_simples = s;
    is_gap = g;
    are_counts = subst (λ n. TellsCounts n terms counts) (sym many) k;
    are_equations = lines_append 0 (length es) es (empties (count - length es)) taken (empty_lines (length es) (count - length es)) (omega arith) are (empties_lines (length es) (count - length es));
    formed = record {
      some = omega (arith, many, k.some);
      few = omega (arith, many, k.few);
      terms = λ e t i j. subst (λ n. IsTermOf n t) (sym many) ((are_of e i).terms t j);
    };
    named = λ e i. (are_of e i).named;
  };
}
  where
    all : List Equation
    all = es ++ empties (count - length es)

    many : length all ≡ count
    many = omega (arith, length-append es (empties (count - length es)), length_empties (count - length es))

    are_of : (e : Equation) → In e all → IsEquationOf count e
    are_of e i = elim (In_append_cases es (empties (count - length es)) e i) [ inl a ↦ each e a | inr b ↦ empties_are count (count - length es) e b ]

-- lines of a claim before its system that can be followed by those of any
one_counts : List ℕ
one_counts = codes "system 1 equations 1 terms 0"

one_text : TellsCounts 1 0 one_counts
unfolding one_counts counts_text digits
one_text = record { version = 1; known = inl refl; some = omega arith; few = omega arith; text = refl }

pub counts_can_end : (simples gap : List (List ℕ)) → IsOptional IsSimplesLine simples → IsOptional IsGapLine gap → CanEnd 0 (simples ++ gap)
counts_can_end simples gap s g =
    let r = equations_can_end 1 0 simples gap one_counts [] [] s g one_text tt (omega arith) (λ e i. absurd i) in
    record {
      system = r.system;
      others = one_counts ∷ r.others;
      are = subst (AreSystemLines r.system 0) (join simples gap (one_counts ∷ []) r.others) r.are;
    }
  where
    join : (x y z w : List (List ℕ)) → (x ++ (y ++ z)) ++ w ≡ (x ++ y) ++ (z ++ w)
    join x y z w = regroup x y z w ∙ sym (append_assoc x y (z ++ w))

-- first lines and those of a system are as demanded
pub demanded_after : (basis : List (List ℕ)) (needed : Option (List (List ℕ))) (terms : ℕ) (first lines : List (List ℕ)) → AreFirstLines basis needed first
    → CanEnd terms lines → AreAsDemanded (first ++ lines)
demanded_after basis needed terms first lines f c = record {
  claim = record { basis = basis; require = needed; system = c.system };
  terms = terms;
  others = c.others;
  told = record {
    first = first;
    others = lines ++ c.others;
    in_order = append_assoc first lines c.others;
    are_first = f;
    are_others = c.are;
  };
}

-- so are the lines before that of the basis
none_basis : List ℕ
none_basis = codes "basis none"

none_text : TellsWords (codes "basis") [] none_basis
unfolding none_basis words_text joined_or_none
none_text = record { text = refl; few = omega arith; patterns = λ w i. absurd i }

pub demanded_first : (version union : List (List ℕ)) → IsOptional IsVersion version → IsOptional IsUnion union → AreAsDemanded (version ++ union)
demanded_first version union v u =
    let c = counts_can_end [] [] tt tt in
    let f : AreFirstLines [] None (version ++ (union ++ (none_basis ∷ []))) = record {
      version = version;
      union = union;
      basis = none_basis;
      require = [];
      in_order = refl;
      is_version = v;
      is_union = u;
      is_basis = none_text;
      is_require = tt;
    } in
    record {
      claim = record { basis = []; require = None; system = c.system };
      terms = 0;
      others = none_basis ∷ c.others;
      told = record {
        first = version ++ (union ++ (none_basis ∷ []));
        others = c.others;
        in_order = sym (join version union (none_basis ∷ []) c.others);
        are_first = f;
        are_others = c.are;
      };
    }
  where
    join : (x y z w : List (List ℕ)) → (x ++ (y ++ z)) ++ w ≡ (x ++ y) ++ (z ++ w)
    join x y z w = regroup x y z w ∙ sym (append_assoc x y (z ++ w))
