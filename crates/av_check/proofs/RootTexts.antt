-- Roots by their texts.
use Rattle.std.proofs.Common.{◌≡◌, ◌⊎◌, inl, inr, ℕ, ◌<◌, ◌≤◌, List, [], ◌++◌, length, codes, refl, sym, ap, ◌∙◌, arith, append-nil}
use Rattle.std.specs.Char.{is_ascii_digit}
use Rattle.std.proofs.lemmas.Bool.{cases_lt}
use Rattle.std.proofs.lemmas.List.{append_cancel_left}
use Rattle.av_perm.specs.declared.limits.TheConstants.{MAX_ROOT_LENGTH}
use Rattle.av_sys.specs.Terms.{IsSystemRoot}
use Rattle.av_print.specs.Text.{word_text, root_text}
use Rattle.av_print.proofs.UniqueReading.{begins_apart}
use Rattle.av_print.proofs.ReadWords.{IsShortWord, word_begins, plain_root, bracketed_root, root_read}
use Rattle.av_print.proofs.ReadSystems.{system_root}
use Rattle.av_text.specs.Ranges.{IsPattern}
use Rattle.av_check.proofs.ReadAs.{SameReadings}

-- a pattern, and a root, are words that can be written
pub pattern_short : (w : List ℕ) → IsPattern w → IsShortWord w
pattern_short w p = record { word = p.word; short = omega (arith, p.short) }

root_short : (w : List ℕ) → IsSystemRoot w → length w ≤ MAX_ROOT_LENGTH
root_short w (inl e) = omega (arith, ap length e)
root_short w (inr (inl e)) = omega (arith, ap length e)
root_short w (inr (inr s)) = s.1

pub root_pattern : (w : List ℕ) → IsSystemRoot w → IsPattern w
root_pattern w is = record { word = (system_root w is).word; short = omega (arith, root_short w is) }

-- roots of one text are equal
pub root_once : (v w : List ℕ) → IsPattern v → IsPattern w → root_text v ≡ root_text w → v ≡ w
root_once v w p q e = (root_read.one v w (codes "[") (codes "[") (pattern_short v p) (pattern_short w q) refl refl (ap (λ (s : List ℕ). s ++ codes "[") e)).0

-- a word's text doesn't begin with an opening bracket
no_bracket : (w rest : List ℕ) → IsPattern w → word_text w ≡ codes "(" ++ rest → ⊥
no_bracket w rest p e =
    begins_apart is_ascii_digit (word_text w ++ []) (codes "(" ++ rest) (word_begins w [] (pattern_short w p)) refl (append-nil (word_text w) ∙ e)

-- a text after an opening bracket, as a root
pub bracketed_same : (token rest : List ℕ) → token ≡ codes "(" ++ rest
    → SameReadings (λ w. IsPattern w × (9 < length w)) IsPattern (λ w. word_text w ++ codes ")") rest root_text token
bracketed_same token rest is = record {
  to = λ w p e. (p.0, is ∙ ap (λ (s : List ℕ). codes "(" ++ s) e ∙ sym (bracketed_root w p.1));
  from = λ w p e. by w p e (cases_lt 9 (length w));
}
  where
    by : (w : List ℕ) → IsPattern w → token ≡ root_text w → (9 < length w) ⊎ (length w ≤ 9) → (IsPattern w × (9 < length w)) × (rest ≡ word_text w ++ codes ")")
    by w p e (inl long) = ((p, long), append_cancel_left (codes "(") _ _ (sym is ∙ e ∙ bracketed_root w long))
    by w p e (inr few) = absurd (no_bracket w rest p (sym (plain_root w few) ∙ sym e ∙ is))

-- a text without one
pub plain_same : (token : List ℕ) → ((rest : List ℕ) → token ≡ codes "(" ++ rest → ⊥)
    → SameReadings (λ w. IsPattern w × (length w ≤ 9)) IsPattern word_text token root_text token
plain_same token none = record {
  to = λ w p e. (p.0, e ∙ sym (plain_root w p.1));
  from = λ w p e. by w p e (cases_lt 9 (length w));
}
  where
    by : (w : List ℕ) → IsPattern w → token ≡ root_text w → (9 < length w) ⊎ (length w ≤ 9) → (IsPattern w × (length w ≤ 9)) × (token ≡ word_text w)
    by w p e (inl long) = absurd (none _ (e ∙ bracketed_root w long))
    by w p e (inr few) = ((p, few), e ∙ plain_root w few)
