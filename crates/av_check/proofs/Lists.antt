-- The tokens of a list of words.
use Rattle.std.proofs.Common.{◌≡◌, inl, inr, ℕ, ◌<◌, false, not, ◌==◌, List, [], ◌∷◌, ◌++◌, map, length, codes, Bor, refl, sym, ap, ◌∙◌, arith, eq-eqb, true≢false}
use Rattle.std.specs.Char.{is_ascii_digit}
use Rattle.std.specs.List.{join_with_byte}
use Rattle.std.proofs.lemmas.List.{length-map}
use Rattle.av_perm.specs.Members.{In}
use Rattle.av_perm.proofs.Membership.{In_map}
use Rattle.av_print.specs.Text.{joined_or_none, word_text, words_text}
use Rattle.av_print.proofs.UniqueReading.{Begins, begins_apart}
use Rattle.av_print.proofs.ReadWords.{word_begins}
use Rattle.av_check.specs.Claims.{ArePatterns}
use Rattle.av_check.specs.Reading.{list_tokens}
use Rattle.av_check.proofs.Loops.{bytes}
use Rattle.av_check.proofs.Joins.{join_items}
use Rattle.av_check.proofs.ReadAs.{SameReadings}
use Rattle.av_check.proofs.RootTexts.{pattern_short}

-- tokens of which there are some
pub some_tokens : (ts : List (Bor (List ℕ))) → false ≡ (length ts == 0) → bytes ts ≡ [] → ⊥
some_tokens ts some e = true≢false (sym (eq-eqb (length ts) 0 (sym (length-map ts (λ (t : Bor (List ℕ)). t.now)) ∙ ap length e)) ∙ sym some)

-- where there are some, and not `none` alone, they are those of the words of the list
pub list_same : (ts : List (Bor (List ℕ))) → (bytes ts ≡ codes "none" ∷ [] → ⊥) → (bytes ts ≡ [] → ⊥)
    → SameReadings ArePatterns ArePatterns (map word_text) (bytes ts) list_tokens (bytes ts)
list_same ts none some = record { to = λ ws p e. (p, to ws e); from = λ ws p e. (p, from ws e) }
  where
    to : (ws : List (List ℕ)) → bytes ts ≡ map word_text ws → bytes ts ≡ list_tokens ws
    to [] e = absurd (some e)
    to (w ∷ ws) e = e

    from : (ws : List (List ℕ)) → bytes ts ≡ list_tokens ws → bytes ts ≡ map word_text ws
    from [] e = absurd (none e)
    from (w ∷ ws) e = e

-- there is at least one token
pub list_some : (ws : List (List ℕ)) → 0 < length (list_tokens ws)
list_some [] = omega arith
list_some (w ∷ ws) = omega arith

-- joined with spaces they are the text of the list
pub list_joined : (ws : List (List ℕ)) → words_text ws ≡ join_with_byte 32 (list_tokens ws)
unfolding words_text joined_or_none
list_joined [] = refl
list_joined (w ∷ ws) = join_items word_text 32 (w ∷ ws)

-- a token that begins neither with a digit nor as `none` isn't one of them
pub list_lacks : (k : List ℕ) → (k ≡ codes "none" → ⊥) → Begins (λ c. not (is_ascii_digit c)) (k ++ []) → (ws : List (List ℕ)) → ArePatterns ws → In k (list_tokens ws) → ⊥
list_lacks k none begins [] p (inl e) = none e
list_lacks k none begins [] p (inr i) = i
list_lacks k none begins (w ∷ ws) p i =
    let m = In_map word_text (w ∷ ws) k i in
    begins_apart is_ascii_digit (word_text m.0 ++ []) (k ++ []) (word_begins m.0 [] (pattern_short m.0 (p m.0 m.1))) begins (ap (λ (s : List ℕ). s ++ []) (sym m.2))
