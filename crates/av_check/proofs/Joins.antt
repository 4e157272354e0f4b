-- Texts that are joined with a byte between each two, and cut at that byte.
use Rattle.std.proofs.Common.{◌≡◌, inl, inr, ℕ, ◌<◌, Bool, true, false, not, ◌==◌, List, [], ◌∷◌, ◌++◌, map, length, refl, sym, ap, ◌∙◌, append_assoc, append-nil, arith, eq-eqb}
use Rattle.std.specs.List.{list_all, join_by, slice_split, join_with_byte}
use Rattle.std.proofs.lemmas.Bool.Decides.{nat_tests}
use Rattle.std.proofs.lemmas.List.Splits.{slice_split_none, slice_split_at, join_with_byte-slice_split}
use Rattle.av_perm.proofs.Membership.{Each}
use Rattle.av_print.proofs.Tokens.{pass_none}

-- texts whose bytes pass a test
abbrev pub Pass : (ℕ → Bool) → List (List ℕ) → Type 0
Pass p ts = Each (λ t. list_all p t ≡ true) ts

-- one text before others
pub join_before : (c : ℕ) (t : List ℕ) (ts : List (List ℕ)) → 0 < length ts → join_with_byte c (t ∷ ts) ≡ t ++ c ∷ join_with_byte c ts
join_before c t [] some = absurd (omega arith)
join_before c t (u ∷ ts) some = refl

-- some texts before others
pub join_append : (c : ℕ) (ts us : List (List ℕ)) → 0 < length ts → 0 < length us → join_with_byte c (ts ++ us) ≡ join_with_byte c ts ++ c ∷ join_with_byte c us
join_append c [] us some others = absurd (omega arith)
join_append c (t ∷ []) us some others = join_before c t us others
join_append c (t ∷ u ∷ ts) us some others =
    ap (λ (s : List ℕ). t ++ c ∷ s) (join_append c (u ∷ ts) us (omega arith) others) ∙ sym (append_assoc t (c ∷ join_with_byte c (u ∷ ts)) (c ∷ join_with_byte c us))

-- the joined texts of items
pub join_items : {X : Type 0} (f : X → List ℕ) (c : ℕ) (xs : List X) → join_by f (c ∷ []) xs ≡ join_with_byte c (map f xs)
join_items f c [] = refl
join_items f c (x ∷ []) = append-nil (f x)
join_items f c (x ∷ y ∷ xs) = ap (λ (s : List ℕ). f x ++ c ∷ s) (join_items f c (y ∷ xs))

-- a byte other than this one
abbrev pub is_other : ℕ → ℕ → Bool
is_other c b = not (b == c)

other_apart : (c b : ℕ) → is_other c b ≡ true → (b == c) ≡ false
other_apart c b e = grind (arith, nat_tests)

-- texts without the byte are cut apart again
pub cut_joined : (c : ℕ) (ts : List (List ℕ)) → 0 < length ts → Pass (is_other c) ts → slice_split (λ b. b == c) (join_with_byte c ts) ≡ ts
cut_joined c [] some pass = absurd (omega arith)
cut_joined c (t ∷ []) some pass = slice_split_none (λ b. b == c) t (pass_none (is_other c) (λ b. b == c) (other_apart c) t (pass t (inl refl)))
cut_joined c (t ∷ u ∷ ts) some pass =
    slice_split_at (λ b. b == c) t c (join_with_byte c (u ∷ ts)) (pass_none (is_other c) (λ b. b == c) (other_apart c) t (pass t (inl refl))) (eq-eqb c c refl)
    ∙ ap (λ (s : List (List ℕ)). t ∷ s) (cut_joined c (u ∷ ts) (omega arith) (λ s i. pass s (inr i)))

-- the pieces of a text are some texts exactly where it is these joined
pub pieces_joined : (c : ℕ) (bs : List ℕ) (ts : List (List ℕ)) → slice_split (λ b. b == c) bs ≡ ts → bs ≡ join_with_byte c ts
pieces_joined c bs ts e = sym (join_with_byte-slice_split c bs) ∙ ap (join_with_byte c) e

pub joined_pieces : (c : ℕ) (bs : List ℕ) (ts : List (List ℕ)) → 0 < length ts → Pass (is_other c) ts
    → bs ≡ join_with_byte c ts → slice_split (λ b. b == c) bs ≡ ts
joined_pieces c bs ts some pass e = ap (slice_split (λ b. b == c)) e ∙ cut_joined c ts some pass
