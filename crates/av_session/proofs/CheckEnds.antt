-- How the texts due to claims end: only that of a yes ends in `check yes`.
use Rattle.std.proofs.Common.{◌≡◌, ℕ, ◌<◌, true, List, [], ◌∷◌, ◌++◌, length, Option, Some, codes, decimal, append_assoc, refl, sym, ap, ◌∙◌, true≢false, arith}
use Rattle.std.specs.Prelude.{reverse, slice_get}
use Rattle.std.specs.Char.{is_ascii_digit}
use Rattle.std.specs.List.{list_all}
use Rattle.std.proofs.lemmas.Bool.{and_parts}
use Rattle.std.proofs.lemmas.List.{reverse-append}
use Rattle.av_print.specs.Text.{◌⊹◌, root_text}
use Rattle.av_print.specs.Systems.{number_text}
use Rattle.av_print.proofs.UniqueReading.{IsWritable}
use Rattle.av_print.proofs.NumberTokens.{numeral_digits, numeral_filled}
use Rattle.av_check.specs.declared.verdict.Flaw.{Flaw}
use Rattle.av_check.specs.declared.verdict.Flaw.TheVariants.{Lost, Twice, Extra, Large}
use Rattle.av_check.specs.declared.verdict.Verdict.{Verdict}
use Rattle.av_check.specs.declared.verdict.Verdict.TheVariants as verdicts
use Rattle.av_session.specs.declared.subject.Subject.{Subject}
use Rattle.av_session.specs.Due.{header_text, settled_header, unsettled_text}
use Rattle.av_session.specs.Checked.{flaw_text, verdict_text, checked_text}

-- a list ends in another
pub record EndsIn (xs end : List ℕ) : Type 0 where
  pub front : List ℕ
  pub is : xs ≡ front ++ end

-- so it does with more before it
ends_after : (ys xs end : List ℕ) → EndsIn xs end → EndsIn (ys ++ xs) end
ends_after ys xs end e = record { front = ys ++ e.front; is = ap (λ l. ys ++ l) e.is ∙ sym (append_assoc ys e.front end) }

-- and what follows both
ends_then : (xs end ys : List ℕ) → EndsIn xs end → EndsIn (xs ++ ys) (end ++ ys)
ends_then xs end ys e = record { front = e.front; is = ap (λ l. l ++ ys) e.is ∙ append_assoc e.front end ys }

-- the last byte but one
before_last : List ℕ → Option ℕ
before_last xs = slice_get (reverse xs) 1

of_two : (xs : List ℕ) (a b : ℕ) → before_last (xs ++ a ∷ b ∷ []) ≡ Some a
unfolding before_last
of_two xs a b = rw (reverse-append xs (a ∷ b ∷ [])) refl

-- a text that ends in `check yes` ends in an `s` and a line feed
ends_alike : (xs before : List ℕ) (a : ℕ) → EndsIn xs (a ∷ 10 ∷ []) → xs ≡ before ++ codes "check yes\n" → a ≡ 115
ends_alike xs before a e is =
    let last : Some a ≡ Some 115 = sym (of_two e.front a 10) ∙ ap before_last (sym e.is ∙ is ∙ sym (append_assoc before (codes "check ye") (codes "s\n"))) ∙ of_two (before ++ codes "check ye") 115 10 in
    cc

-- the last byte of a verdict
abbrev last_of_flaw : Flaw → ℕ
last_of_flaw Lost = 116
last_of_flaw Twice = 101
last_of_flaw Extra = 97
last_of_flaw Large = 101

abbrev last_byte : Verdict → ℕ
last_byte verdicts.Yes = 115
last_byte (verdicts.Name u) = 101
last_byte (verdicts.Point u) = 116
last_byte (verdicts.Root u root) = 116
last_byte (verdicts.Cell u root k flaw) = last_of_flaw flaw

flaw_ends : (flaw : Flaw) → EndsIn (flaw_text flaw) (last_of_flaw flaw ∷ [])
flaw_ends Lost = record { front = codes "los"; is = refl }
flaw_ends Twice = record { front = codes "twic"; is = refl }
flaw_ends Extra = record { front = codes "extr"; is = refl }
flaw_ends Large = record { front = codes "larg"; is = refl }

verdict_ends : (v : Verdict) → EndsIn (verdict_text v) (last_byte v ∷ [])
unfolding verdict_text
verdict_ends verdicts.Yes = record { front = codes "ye"; is = refl }
verdict_ends (verdicts.Name u) = ends_after (codes "no ") _ _ (ends_after (number_text u) _ _ (record { front = codes " nam"; is = refl }))
verdict_ends (verdicts.Point u) = ends_after (codes "no ") _ _ (ends_after (number_text u) _ _ (record { front = codes " poin"; is = refl }))
verdict_ends (verdicts.Root u root) =
    ends_after (codes "no ") _ _ (ends_after (number_text u) _ _ (ends_after (codes " ") _ _ (ends_after (root_text root) _ _ (record { front = codes " roo"; is = refl }))))
verdict_ends (verdicts.Cell u root k flaw) =
    ends_after (codes "no ") _ _ (ends_after (number_text u) _ _ (ends_after (codes " ") _ _ (ends_after (root_text root) _ _
    (ends_after (codes " cell ") _ _ (ends_after (decimal k) _ _ (ends_after (codes " ") _ _ (flaw_ends flaw)))))))

-- only a yes ends in an `s`
flaw_no_s : (flaw : Flaw) → last_of_flaw flaw ≡ 115 → ⊥
flaw_no_s Lost e = omega arith
flaw_no_s Twice e = omega arith
flaw_no_s Extra e = omega arith
flaw_no_s Large e = omega arith

yes_by : (v : Verdict) → last_byte v ≡ 115 → v ≡ verdicts.Yes
yes_by verdicts.Yes e = refl
yes_by (verdicts.Name u) e = absurd (omega arith)
yes_by (verdicts.Point u) e = absurd (omega arith)
yes_by (verdicts.Root u root) e = absurd (omega arith)
yes_by (verdicts.Cell u root k flaw) e = absurd (flaw_no_s flaw e)

-- a text of a verdict that ends in `check yes` is that of a yes
pub yes_from : (subject : Subject) (g : ℕ) (v : Verdict) (before : List ℕ) → checked_text subject g v ≡ before ⊹ codes "check yes\n" → v ≡ verdicts.Yes
unfolding checked_text
yes_from subject g v before e =
    yes_by v (ends_alike _ before (last_byte v) (ends_after (settled_header subject g) _ _ (ends_after (codes "check ") _ _ (ends_then (verdict_text v) (last_byte v ∷ []) (codes "\n") (verdict_ends v)))) e)

-- a list of digits ends in one
record EndsInDigit (ds : List ℕ) : Type 0 where
  digit : ℕ
  last : EndsIn ds (digit ∷ [])
  is_digit : is_ascii_digit digit ≡ true

digits_end : (ds : List ℕ) → 0 < length ds → list_all is_ascii_digit ds ≡ true → EndsInDigit ds
digits_end [] some e = absurd (omega arith)
digits_end (d ∷ []) some e = record { digit = d; last = record { front = []; is = refl }; is_digit = (and_parts _ _ e).0 }
digits_end (d ∷ c ∷ ds) some e =
    let rest = digits_end (c ∷ ds) (omega arith) (and_parts (is_ascii_digit d) _ e).1 in
    record { digit = rest.digit; last = ends_after (d ∷ []) _ _ rest.last; is_digit = rest.is_digit }

-- and an `s` is none, so the text of a class that isn't settled doesn't end so
pub not_unsettled : (subject : Subject) (before : List ℕ) → IsWritable subject.found.limit → unsettled_text subject ≡ before ⊹ codes "check yes\n" → ⊥
unfolding unsettled_text
not_unsettled subject before small e =
    let d = digits_end (decimal subject.found.limit) (numeral_filled subject.found.limit small) (numeral_digits subject.found.limit) in
    let s : d.digit ≡ 115 = ends_alike _ before d.digit (ends_after (header_text subject) _ _ (ends_after (codes "unsettled ") _ _ (ends_then (decimal subject.found.limit) (d.digit ∷ []) (codes "\n") d.last))) e in
    let f : is_ascii_digit 115 ≡ true = rw s at d.is_digit in
    true≢false (sym f)
