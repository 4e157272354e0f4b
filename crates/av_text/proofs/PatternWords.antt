-- The words of a basis line, or of a line of required words, read one after another.
use Rattle.std.proofs.Common.{◌≡◌, ℕ, ◌+◌, ◌<◌, ◌≤◌, List, [], ◌∷◌, ◌++◌, length, map, drop, get_or, refl, sym, ap, ◌∙◌, Result, Ok, Err, append_assoc, append-nil, add-one, drop-cons, Bor}
use Rattle.std.proofs.lemmas.List.{drop_all}
use Rattle.av_text.specs.declared.kind.Kind.{Kind}
use Rattle.av_text.specs.Steps.{◌>>=◌}
use Rattle.av_perm.specs.declared.limits.TheConstants.{MAX_PATTERN_LENGTH}
use Rattle.av_text.specs.Words.{word_in}
use Rattle.av_text.specs.Read.{patterns}

-- the words that were read, in front of those that are read next
abbrev pub with_front : List (List ℕ) → Result (List (List ℕ)) Kind → Result (List (List ℕ)) Kind
with_front front read = read >>= (λ ws. Ok (front ++ ws))

-- one word more
front_cons : (front : List (List ℕ)) (w : List ℕ) (r : Result (List (List ℕ)) Kind)
    → with_front front (r >>= (λ ws. Ok (w ∷ ws))) ≡ with_front (front ++ w ∷ []) r
front_cons front w (Ok ws) = ap Ok (sym (append_assoc front (w ∷ []) ws))
front_cons front w (Err k) = refl

-- the next token is a word
front_word : (front : List (List ℕ)) (t : List ℕ) (ts : List (List ℕ)) (w : List ℕ) → word_in MAX_PATTERN_LENGTH t ≡ Ok w
    → with_front front (patterns (t ∷ ts)) ≡ with_front (front ++ w ∷ []) (patterns ts)
unfolding patterns
front_word front t ts w e = rw e (front_cons front w (patterns ts))

-- the next token is at fault
front_fault : (front : List (List ℕ)) (t : List ℕ) (ts : List (List ℕ)) (k : Kind) → word_in MAX_PATTERN_LENGTH t ≡ Err k
    → with_front front (patterns (t ∷ ts)) ≡ Err k
unfolding patterns
front_fault front t ts k e = rw e refl

-- no token is left
front_end : (front : List (List ℕ)) → with_front front (patterns []) ≡ Ok front
unfolding patterns
front_end front = ap Ok (append-nil front)

-- the bytes of the tokens from number i on
after_drop : (tokens : List (Bor (List ℕ))) (i : ℕ) (d : Bor (List ℕ)) → i < length tokens
    → map (λ t. t.now) (drop i tokens) ≡ (get_or tokens i d).now ∷ map (λ t. t.now) (drop (i + 1) tokens)
after_drop tokens i d lt =
    ap (map (λ t. t.now)) (drop-cons tokens i d lt) ∙ ap (λ n. (get_or tokens i d).now ∷ map (λ t. t.now) (drop n tokens)) (sym (add-one i))

-- a turn of the loop over the tokens, where r is what the whole line gives
pub pattern_turn : (front : List (List ℕ)) (tokens : List (Bor (List ℕ))) (i : ℕ) (d : Bor (List ℕ)) (w : List ℕ) (r : Result (List (List ℕ)) Kind) → i < length tokens
    → Ok w ≡ word_in MAX_PATTERN_LENGTH (get_or tokens i d).now
    → with_front front (patterns (map (λ t. t.now) (drop i tokens))) ≡ r
    → with_front (front ++ w ∷ []) (patterns (map (λ t. t.now) (drop (i + 1) tokens))) ≡ r
pattern_turn front tokens i d w r lt h inv =
    sym (front_word front _ _ w (sym h)) ∙ ap (λ ts. with_front front (patterns ts)) (sym (after_drop tokens i d lt)) ∙ inv

-- its exit at a token that is at fault
pub pattern_fault : (front : List (List ℕ)) (tokens : List (Bor (List ℕ))) (i : ℕ) (d : Bor (List ℕ)) (k : Kind) (r : Result (List (List ℕ)) Kind) → i < length tokens
    → Err k ≡ word_in MAX_PATTERN_LENGTH (get_or tokens i d).now
    → with_front front (patterns (map (λ t. t.now) (drop i tokens))) ≡ r
    → r ≡ Err k
pattern_fault front tokens i d k r lt h inv =
    sym inv ∙ ap (λ ts. with_front front (patterns ts)) (after_drop tokens i d lt) ∙ front_fault front _ _ k (sym h)

-- its end
pub pattern_end : (front : List (List ℕ)) (tokens : List (Bor (List ℕ))) (i : ℕ) (r : Result (List (List ℕ)) Kind) → length tokens ≤ i
    → with_front front (patterns (map (λ t. t.now) (drop i tokens))) ≡ r
    → r ≡ Ok front
pattern_end front tokens i r ge inv = sym inv ∙ ap (λ ts. with_front front (patterns (map (λ t. t.now) ts))) (drop_all i tokens ge) ∙ front_end front
