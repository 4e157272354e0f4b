-- Texts of words and numbers hold no line feed.
use Rattle.std.proofs.Common.{◌≡◌, ◌≢◌, inl, ℕ, zero, suc, ◌≤◌, Bool, true, not, ◌==◌, List, [], ◌∷◌, ◌++◌, length, flat_map, codes, decimal, refl, arith}
use Rattle.std.specs.Char.{is_ascii_digit}
use Rattle.std.specs.List.{list_all}
use Rattle.std.proofs.lemmas.Bool.Decides.{nat_tests}
use Rattle.av_perm.specs.Members.{In}
use Rattle.av_perm.specs.Gap.{simples}
use Rattle.av_perm.specs.Lists.{counting}
use Rattle.av_perm.proofs.Tests.{all_from}
use Rattle.av_print.specs.Text.{◌⊹◌, word_text, joined_or_none, words_text}
use Rattle.av_print.proofs.Tokens.{pass_wider, pass_joined, pass_both, is_token_byte}
use Rattle.av_print.proofs.NumberTokens.{numeral_digits, digit_in_token}
use Rattle.av_check.proofs.TokenLines.{list_pass}
use Rattle.av_session.specs.Due.{level_text}

-- a byte that stays in its line
abbrev pub stays : ℕ → Bool
stays c = not (c == 10)

token_stays : (c : ℕ) → is_token_byte c ≡ true → stays c ≡ true
token_stays c e = grind (arith, nat_tests)

-- such bytes are no line feeds
stays_none : (c : ℕ) → stays c ≡ true → c ≢ 10
stays_none c e f = grind (arith, nat_tests)

pub none_breaks : (t : List ℕ) → list_all stays t ≡ true → (b : ℕ) → In b t → b ≢ 10
none_breaks t e b i = stays_none b (all_from stays t e b i)

-- a numeral
pub decimal_stays : (n : ℕ) → list_all stays (decimal n) ≡ true
decimal_stays n = pass_wider is_ascii_digit stays (λ c e. token_stays c (digit_in_token c e)) (decimal n) (numeral_digits n)

-- a word, and a list of words
word_stays : (w : List ℕ) → list_all stays (word_text w) ≡ true
word_stays w = pass_wider is_token_byte stays token_stays (word_text w) (list_pass (w ∷ []) (word_text w) (inl refl))

pub words_stay : (ws : List (List ℕ)) → list_all stays (words_text ws) ≡ true
unfolding words_text joined_or_none
words_stay [] = refl
words_stay (w ∷ ws) = pass_joined stays word_text (codes " ") word_stays refl (w ∷ ws)

-- the numbers of simple words of some lengths
level_stays : (basis : List (List ℕ)) (m : ℕ) → list_all stays (level_text basis m) ≡ true
level_stays basis m =
    let count : List ℕ = decimal (length (simples basis m)) in
    pass_both stays (codes " ") (decimal m ⊹ codes ":" ⊹ count) refl
    (pass_both stays (decimal m) (codes ":" ⊹ count) (decimal_stays m) (pass_both stays (codes ":") count refl (decimal_stays (length (simples basis m)))))

levels_stay : (basis : List (List ℕ)) (ms : List ℕ) → list_all stays (flat_map (level_text basis) ms) ≡ true
levels_stay basis [] = refl
levels_stay basis (m ∷ ms) = pass_both stays (level_text basis m) (flat_map (level_text basis) ms) (level_stays basis m) (levels_stay basis ms)

-- those of at least one length begin with a space
pub record HasLevels (basis : List (List ℕ)) (ms : List ℕ) : Type 0 where
  pub rest : List ℕ
  pub is : flat_map (level_text basis) ms ≡ 32 ∷ rest
  pub stay : list_all stays rest ≡ true

pub levels_begin : (basis : List (List ℕ)) (k : ℕ) → 1 ≤ k → HasLevels basis (counting 4 k)
levels_begin basis zero h = absurd (omega arith)
levels_begin basis (suc k) h =
    let count : List ℕ = decimal (length (simples basis 4)) in
    record {
      rest = (decimal 4 ⊹ codes ":" ⊹ count) ++ flat_map (level_text basis) (counting 5 k);
      is = refl;
      stay = pass_both stays (decimal 4 ⊹ codes ":" ⊹ count) (flat_map (level_text basis) (counting 5 k))
          (pass_both stays (decimal 4) (codes ":" ⊹ count) (decimal_stays 4) (pass_both stays (codes ":") count refl (decimal_stays (length (simples basis 4)))))
          (levels_stay basis (counting 5 k));
    }
