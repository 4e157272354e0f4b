-- The text of a list of equations, from those of the equations.
use Rattle.std.proofs.Common.{◌≡◌, ℕ, ◌+◌, ◌<◌, ◌≤◌, List, ◌++◌, length, drop, get_or, Option, add-one, drop-cons, sym, ap, ◌∙◌}
use Rattle.std.proofs.lemmas.List.{drop_all}
use Rattle.std.specs.Io.KnownBytes.{Appends}
use Rattle.av_sys.specs.declared.terms.Equation.{Equation}
use Rattle.av_print.specs.Systems.{equation_text, equations_text}
use Rattle.av_print.specs.Wrote.{AppendsPart}
use Rattle.av_print.proofs.Written.{AppendsUpTo, up_to_next, up_to_part_of, up_to_end}

-- the lines of the equations from number i on
abbrev pub lines_from : List Equation → ℕ → List ℕ
lines_from es i = equations_text i (drop i es)

-- they begin with that of equation i
line_first : (es : List Equation) (i : ℕ) (e : Equation) → i < length es → e ≡ get_or es i e → lines_from es i ≡ equation_text i e ++ lines_from es (i + 1)
unfolding equations_text
line_first es i e lt is =
    ap (equations_text i) (drop-cons es i e lt)
    ∙ ap (λ n. equation_text i (get_or es i e) ++ equations_text n (drop n es)) (sym (add-one i))
    ∙ ap (λ d. equation_text i d ++ lines_from es (i + 1)) (sym is)

-- a line was written
pub lines_turn : (es : List Equation) (i : ℕ) (e : Equation) (old mid new : Option (List ℕ)) (text : List ℕ) → i < length es → e ≡ get_or es i e
    → AppendsUpTo old mid text (lines_from es i) → Appends mid new (equation_text i e) → AppendsUpTo old new text (lines_from es (i + 1))
lines_turn es i e old mid new text lt is u a = up_to_next old mid new text (equation_text i e) _ (rw (line_first es i e lt is) at u) a

-- or a part of it
pub lines_fault : (es : List Equation) (i : ℕ) (e : Equation) (old mid new : Option (List ℕ)) (text : List ℕ) → i < length es → e ≡ get_or es i e
    → AppendsUpTo old mid text (lines_from es i) → AppendsPart mid new (equation_text i e) → AppendsPart old new text
lines_fault es i e old mid new text lt is u p = up_to_part_of old mid new text (equation_text i e) _ (rw (line_first es i e lt is) at u) p

-- none is left
pub lines_end : (es : List Equation) (i : ℕ) (old new : Option (List ℕ)) (text : List ℕ) → length es ≤ i → AppendsUpTo old new text (lines_from es i) → Appends old new text
unfolding equations_text
lines_end es i old new text ge u = up_to_end old new text (lines_from es i) u (ap (equations_text i) (drop_all i es ge))
