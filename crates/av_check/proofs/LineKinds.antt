-- The kinds of lines of a claim, told apart by their second byte, and what they tell.
use Rattle.std.proofs.Common.{◌≡◌, inl, inr, ℕ, ◌<◌, ◌^◌, List, [], ◌∷◌, ◌++◌, get_or, codes, refl, sym, ap, ◌∙◌, arith}
use Rattle.std.proofs.lemmas.List.{append_cancel_left, append_cancel_right}
use Rattle.av_perm.proofs.MinimalWords.{each_words}
use Rattle.av_sys.specs.declared.terms.Equation.{Equation}
use Rattle.av_print.specs.Text.{words_text}
use Rattle.av_print.specs.Systems.{equation_text, counts_text}
use Rattle.av_print.proofs.UniqueReading.{IsWritable, number_read}
use Rattle.av_print.proofs.ReadWords.{AreShortWords, FollowsWords, words_read}
use Rattle.av_print.proofs.ReadSystems.{IsEquation, some_term, equation_read}
use Rattle.av_check.specs.Claims.{HasText, ArePatterns, TellsWords, TellsCounts}
use Rattle.av_check.specs.Reading.{IsVersion, IsUnion, IsSimplesLine, IsGapLine, IsEquationOf}

-- the second byte of a line
abbrev pub letter : List ℕ → ℕ
letter line = get_or line 1 0

-- that of a line with a text of three bytes at least
text_letter : (line : List ℕ) (c d f : ℕ) (text : List ℕ) → HasText line (c ∷ d ∷ f ∷ text) → letter line ≡ d
text_letter [] c d f text e = cc
text_letter (x ∷ []) c d f text e = cc
text_letter (x ∷ y ∷ line) c d f text e = cc

pub version_letter : (line : List ℕ) → IsVersion line → letter line ≡ 101
version_letter line e = ap letter e

pub union_letter : (line : List ℕ) → IsUnion line → letter line ≡ 110
union_letter line b = ap letter b.1

pub basis_letter : (ws : List (List ℕ)) (line : List ℕ) → TellsWords (codes "basis") ws line → letter line ≡ 97
basis_letter ws line t = text_letter line 98 97 115 _ t.text

pub require_letter : (ws : List (List ℕ)) (line : List ℕ) → TellsWords (codes "require") ws line → letter line ≡ 101
require_letter ws line t = text_letter line 114 101 113 _ t.text

pub simples_letter : (line : List ℕ) → IsSimplesLine line → letter line ≡ 105
simples_letter line b = ap letter b.1

pub gap_letter : (line : List ℕ) → IsGapLine line → letter line ≡ 97
gap_letter line b = ap letter b.1

pub counts_letter : (x y : ℕ) (line : List ℕ) → TellsCounts x y line → letter line ≡ 121
unfolding counts_text
counts_letter x y line t = text_letter line 115 121 115 _ t.text

-- words of a claim are read in one way
patterns_short : (ws : List (List ℕ)) → ArePatterns ws → AreShortWords ws
patterns_short ws p = record { words = each_words ws (λ w i. (p w i).word); short = λ w i. omega (arith, (p w i).short) }

-- a text that may follow a list of words
after_words : List ℕ
after_words = codes " x"

follows : FollowsWords after_words
unfolding after_words
follows = record { rest = codes "x"; is = refl; stops = refl }

words_text_once : (ws vs : List (List ℕ)) → ArePatterns ws → ArePatterns vs → words_text ws ≡ words_text vs → ws ≡ vs
words_text_once ws vs p q e =
    (words_read.one ws vs after_words after_words (patterns_short ws p) (patterns_short vs q) follows follows (ap (λ (s : List ℕ). s ++ after_words) e)).0

-- one line tells one list
pub words_once : (key line : List ℕ) (ws vs : List (List ℕ)) → TellsWords key ws line → TellsWords key vs line → ws ≡ vs
words_once key line ws vs t s =
    words_text_once ws vs t.patterns s.patterns
    (append_cancel_right _ _ (codes "\n") (append_cancel_left (codes " ") _ _ (append_cancel_left key _ _ (sym t.text ∙ s.text))))

-- and one line the same counts
pub counts_once : (x y m n : ℕ) (line : List ℕ) → TellsCounts x y line → TellsCounts m n line → (x ≡ m) × (y ≡ n)
unfolding counts_text
counts_once x y m n line t s =
    let e = append_cancel_left (codes "system ") _ _ (sym t.text ∙ s.text) in
    let v = number_read.one t.version s.version _ _ (small t) (small s) refl refl e in
    let f = append_cancel_left (codes " equations ") _ _ v.1 in
    let a = number_read.one x m _ _ (omega (arith, t.few)) (omega (arith, s.few)) refl refl f in
    let g = append_cancel_left (codes " terms ") _ _ a.1 in
    let b = number_read.one y n (codes "\n") (codes "\n") (omega (arith, t.few)) (omega (arith, s.few)) refl refl g in
    (a.0, b.0)
  where
    small : {p q : ℕ} (r : TellsCounts p q line) → IsWritable r.version
    small r = elim r.known [ inl h ↦ omega arith | inr h ↦ omega arith ]

-- and one line the same equation of a number
equation_words : (count : ℕ) (e : Equation) → count < 2 ^ 32 → IsEquationOf count e → IsEquation e
equation_words count e few is = record {
  name = record { avoid = patterns_short e.name.avoid is.named.avoided; require = patterns_short e.name.require is.named.required };
  terms = λ t i. some_term count t few (is.terms t i);
}

pub equation_once : (count u : ℕ) (line : List ℕ) (d e : Equation) → count < 2 ^ 32 → IsEquationOf count d → IsEquationOf count e
    → HasText line (equation_text u d) → HasText line (equation_text u e) → d ≡ e
equation_once count u line d e few p q t s =
    ((equation_read u).one d e [] [] (equation_words count d few p) (equation_words count e few q) tt tt (ap (λ (l : List ℕ). l ++ []) (sym t ∙ s))).0
