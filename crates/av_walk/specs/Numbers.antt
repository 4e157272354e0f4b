-- Literals and terms by number: their questions as cells of a table of children by patterns.
use Rattle.std.specs.Prelude.{◌≡◌, ◌<◌, ◌++◌, ℕ, List}
use Rattle.av_perm.specs.Lists.{Pointwise}
use Rattle.av_split.specs.declared.cells.Cell.{Cell}
use Rattle.av_split.specs.Boxes.{Question}
use Rattle.av_split.specs.Cells.{IsQuestionOf}
use Rattle.av_walk.specs.Walk.{Literal}

-- a literal with a cell, of `k` children and these patterns, for its question
pub record IsLiteralOf (k : ℕ) (ps : List (List ℕ)) (l : Literal Cell) (m : Literal Question) : Type 0 where
  pub required : l.required ≡ m.required
  pub question : IsQuestionOf k ps l.question m.question

-- so of each literal of a term
abbrev pub AreLiteralsOf : ℕ → List (List ℕ) → List (Literal Cell) → List (Literal Question) → Type 0
AreLiteralsOf k ps = Pointwise (IsLiteralOf k ps)

-- these are written after a term's literals, whatever those are; the child is one of `k`
abbrev pub AddsLiterals : ℕ → List (List ℕ) → List (List ℕ) → List (Literal Cell) → List (Literal Cell) → List (Literal Question) → Type 0
AddsLiterals child ps qs old new more = (k : ℕ) (before : List (Literal Question)) → child < k → AreLiteralsOf k ps old before → AreLiteralsOf k qs new (before ++ more)

-- so of each term
abbrev pub AreTermsOf : ℕ → List (List ℕ) → List (List (Literal Cell)) → List (List (Literal Question)) → Type 0
AreTermsOf k ps = Pointwise (AreLiteralsOf k ps)
