-- Tokens with single spaces between them are the tokens of the line that they make.
use Rattle.std.proofs.Common.{◌≡◌, ℕ, Bool, true, false, ◌&&◌, List, [], ◌∷◌, ◌++◌, flat_map, filter, codes, nat_le, refl, ap, ◌∙◌, arith, All}
use Rattle.std.specs.List.{list_all, join_by, slice_split}
use Rattle.std.proofs.lemmas.Bool.{and_parts, and_from}
use Rattle.std.proofs.lemmas.Bool.Decides.{nat_tests}
use Rattle.std.proofs.lemmas.List.Elements.{All-nil, All-cons}
use Rattle.std.proofs.lemmas.List.Folds.{list_all-append}
use Rattle.std.proofs.lemmas.List.Splits.{slice_split_none, slice_split_at}
use Rattle.av_text.specs.Lines.{is_filled, is_allowed, is_blank, tokens}
use Rattle.av_print.specs.Text.{spaced}

-- bytes that pass a test pass a wider one
pub pass_wider : (p q : ℕ → Bool) → ((c : ℕ) → p c ≡ true → q c ≡ true) → (t : List ℕ) → list_all p t ≡ true → list_all q t ≡ true
pass_wider p q wider [] e = refl
pass_wider p q wider (c ∷ t) e =
    let b = and_parts (p c) (list_all p t) e in
    and_from (q c) (list_all q t) (wider c b.0) (pass_wider p q wider t b.1)

-- and none passes one that excludes it
pub pass_none : (p q : ℕ → Bool) → ((c : ℕ) → p c ≡ true → q c ≡ false) → (t : List ℕ) → list_all p t ≡ true → All (λ c. q c ≡ false) t
pass_none p q apart [] e = All-nil (λ c. q c ≡ false)
pass_none p q apart (c ∷ t) e =
    let b = and_parts (p c) (list_all p t) e in
    All-cons (λ d. q d ≡ false) c t (apart c b.0) (pass_none p q apart t b.1)

-- the bytes of two texts
pub pass_both : (p : ℕ → Bool) (s t : List ℕ) → list_all p s ≡ true → list_all p t ≡ true → list_all p (s ++ t) ≡ true
pass_both p s t e f = list_all-append p s t ∙ and_from (list_all p s) (list_all p t) e f

-- and those of joined texts
pub pass_joined : {X : Type 0} (p : ℕ → Bool) (text : X → List ℕ) (separator : List ℕ) → ((x : X) → list_all p (text x) ≡ true) → list_all p separator ≡ true
    → (xs : List X) → list_all p (join_by text separator xs) ≡ true
pass_joined p text separator item between [] = refl
pass_joined {X = X} p text separator item between (x ∷ xs) = pass_both p (text x) _ (item x) (others xs)
  where
    others : (ys : List X) → list_all p (flat_map (λ y. separator ++ text y) ys) ≡ true
    others [] = refl
    others (y ∷ ys) = pass_both p (separator ++ text y) _ (pass_both p separator (text y) between (item y)) (others ys)

-- a byte that may stand in a token
abbrev pub is_token_byte : ℕ → Bool
is_token_byte c = nat_le 33 c && nat_le c 126

-- one byte at least, and each may stand in a token
pub record IsToken (t : List ℕ) : Type 0 where
  pub filled : is_filled t ≡ true
  pub plain : list_all is_token_byte t ≡ true

-- each is a token
abbrev pub AreTokens : List (List ℕ) → Type 0
AreTokens [] = Unit {0}
AreTokens (t ∷ ts) = IsToken t × AreTokens ts

-- such a byte is allowed in a line, and parts no tokens
token_allowed : (c : ℕ) → is_token_byte c ≡ true → is_allowed c ≡ true
token_allowed c e = grind (arith, nat_tests)

token_solid : (c : ℕ) → is_token_byte c ≡ true → is_blank c ≡ false
token_solid c e = grind (arith, nat_tests)

-- a line of tokens holds allowed bytes alone
pub spaced_allowed : (ts : List (List ℕ)) → AreTokens ts → list_all is_allowed (spaced ts) ≡ true
spaced_allowed [] are = refl
spaced_allowed (t ∷ []) are = pass_wider is_token_byte is_allowed token_allowed t are.0.plain
spaced_allowed (t ∷ u ∷ ts) are =
    pass_both is_allowed t (codes " " ++ spaced (u ∷ ts)) (pass_wider is_token_byte is_allowed token_allowed t are.0.plain) (spaced_allowed (u ∷ ts) are.1)

-- a token stays
kept : (t : List ℕ) (ts : List (List ℕ)) → is_filled t ≡ true → filter is_filled (t ∷ ts) ≡ t ∷ filter is_filled ts
kept t ts e = rw e refl

-- the tokens of a line of tokens are these
pub spaced_tokens : (ts : List (List ℕ)) → AreTokens ts → tokens (spaced ts) ≡ ts
unfolding tokens
spaced_tokens [] are = refl
spaced_tokens (t ∷ []) are =
    ap (filter is_filled) (slice_split_none is_blank t (pass_none is_token_byte is_blank token_solid t are.0.plain)) ∙ kept t [] are.0.filled
spaced_tokens (t ∷ u ∷ ts) are =
    ap (filter is_filled) (slice_split_at is_blank t 32 (spaced (u ∷ ts)) (pass_none is_token_byte is_blank token_solid t are.0.plain) refl)
    ∙ kept t (slice_split is_blank (spaced (u ∷ ts))) are.0.filled ∙ ap (λ us. t ∷ us) (spaced_tokens (u ∷ ts) are.1)
