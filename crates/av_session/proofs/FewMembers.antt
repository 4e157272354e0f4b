-- Different words of one length, of at most 12 entries, are fewer than 2 ^ 64: read as numerals to the base 13 they are different
-- numbers below 13 ^ 12.
use Rattle.std.proofs.Common.{◌≡◌, ℕ, ◌+◌, ◌^◌, ◌<◌, ◌≤◌, List, [], length, get_or, ap, ◌∙◌, arith, Some, lit<}
use Rattle.std.proofs.Math.Nat.{pow-le-pow_right}
use Rattle.std.proofs.lemmas.Option.{slice_get-get_or}
use Rattle.av_perm.specs.Members.{In, Once, IsListOf}
use Rattle.av_perm.specs.Relations.{IsWord, InClassWithAt}
use Rattle.av_perm.proofs.Membership.{In_at}
use Rattle.av_perm.proofs.ListLaws.{once_place}
use Rattle.av_text.specs.declared.limits.TheConstants.{MAX_STATISTIC_LENGTH}
use Rattle.av_dist.proofs.Numerals.{AreDigits, few_by_digits}

-- a word of at most 12 entries is a list of digits to the base 13
word_digits : (n : ℕ) (w : List ℕ) → IsWord w → length w ≡ n → n ≤ MAX_STATISTIC_LENGTH → AreDigits (MAX_STATISTIC_LENGTH + 1) w
word_digits n w word long short s h = omega (arith, (word.numbers.within s h).1)

few_words : (ws : List (List ℕ)) (n : ℕ) → n ≤ MAX_STATISTIC_LENGTH → Once ws → ((w : List ℕ) → In w ws → IsWord w × (length w ≡ n)) → length ws < 2 ^ 64
few_words ws n short once words =
    let few =
    few_by_digits (MAX_STATISTIC_LENGTH + 1) n (length ws) (λ s. get_or ws s [])
    (λ s h. let k = words (get_or ws s []) (In_at ws s [] h) in record { long = k.1; digits = word_digits n (get_or ws s []) k.0 k.1 short })
    (λ s t l h same.
    let place : s ≡ t =
    once_place ws s t (get_or ws t []) once (slice_get-get_or ws s [] (omega arith) ∙ ap (λ (v : List ℕ). Some v) same) (slice_get-get_or ws t [] h) in
    omega arith) in
    let most = pow-le-pow_right {n = MAX_STATISTIC_LENGTH + 1} (omega arith) short in
    let longest : (MAX_STATISTIC_LENGTH + 1) ^ MAX_STATISTIC_LENGTH < 2 ^ 64 = lit< tt in
    omega (arith, few, most, longest)

-- so are the permutations of such a length that avoid a basis
pub few_members : (basis required ws : List (List ℕ)) (n : ℕ) → n ≤ MAX_STATISTIC_LENGTH → IsListOf (InClassWithAt basis required n) ws → length ws < 2 ^ 64
few_members basis required ws n short l = few_words ws n short l.once (λ w i. let c = (l.members w).0 i in (c.member.member.word, c.long))
