-- The tokens of an equation tell its number, its sign, its words and its terms.
use Rattle.std.proofs.Common.{◌≡◌, inl, inr, ℕ, ◌<◌, ◌^◌, List, [], ◌∷◌, ◌++◌, map, codes, refl, sym, ap, ap₂, subst, ◌∙◌, arith}
use Rattle.std.specs.Char.{is_ascii_digit}
use Rattle.std.proofs.lemmas.List.{append_cancel_left}
use Rattle.av_perm.specs.Members.{In}
use Rattle.av_perm.proofs.Membership.{append_right}
use Rattle.av_sys.specs.declared.names.Sign.{Sign}
use Rattle.av_sys.specs.declared.terms.Equation.{Equation}
use Rattle.av_print.specs.Text.{word_text}
use Rattle.av_print.specs.Systems.{number_text}
use Rattle.av_print.proofs.UniqueReading.{begins_apart, numeral_once}
use Rattle.av_print.proofs.ReadWords.{word_begins}
use Rattle.av_text.specs.Ranges.{IsPattern}
use Rattle.av_check.specs.Claims.{ArePatterns}
use Rattle.av_check.specs.Reading.{list_tokens, terms_tokens, made_tokens, named_tokens, IsSignedEquation, IsAvoidingEquation}
use Rattle.av_check.proofs.Lists.{list_lacks}
use Rattle.av_check.proofs.ReadAs.{SameReadings}
use Rattle.av_check.proofs.RootTexts.{pattern_short}
use Rattle.av_check.proofs.Spellings.{pattern_once}

-- one cut before the first token that is known
pub cut_once_at : (k : List ℕ) (a b c d : List (List ℕ)) → (In k a → ⊥) → (In k c → ⊥) → a ++ k ∷ b ≡ c ++ k ∷ d → (a ≡ c) × (b ≡ d)
cut_once_at k [] b [] d p q e = (refl, cc)
cut_once_at k [] b (y ∷ c) d p q e = absurd (q (inl cc))
cut_once_at k (x ∷ a) b [] d p q e = absurd (p (inl cc))
cut_once_at k (x ∷ a) b (y ∷ c) d p q e =
    let h : x ≡ y = cc in
    let r = cut_once_at k a b c d (λ i. p (inr i)) (λ i. q (inr i)) cc in
    (ap₂ (λ (s : List ℕ) (l : List (List ℕ)). s ∷ l) h r.0, r.1)

-- the tokens of a list of words are neither `=` nor `require`
pub no_equals : (ws : List (List ℕ)) → ArePatterns ws → In (codes "=") (list_tokens ws) → ⊥
no_equals ws p i = list_lacks (codes "=") (λ e. cc) refl ws p i

pub no_require : (ws : List (List ℕ)) → ArePatterns ws → In (codes "require") (list_tokens ws) → ⊥
no_require ws p i = list_lacks (codes "require") (λ e. cc) refl ws p i

-- lists of words with the same tokens are equal
list_once : (ws vs : List (List ℕ)) → ArePatterns ws → ArePatterns vs → list_tokens ws ≡ list_tokens vs → ws ≡ vs
list_once ws vs p q e = by ws vs p q e
  where
    none : (w : List ℕ) (ts : List (List ℕ)) → codes "none" ∷ [] ≡ word_text w ∷ ts → IsPattern w → ⊥
    none w ts f r = begins_apart is_ascii_digit (word_text w ++ []) (codes "none" ++ []) (word_begins w [] (pattern_short w r)) refl
        (ap (λ (s : List ℕ). s ++ []) (let h : word_text w ≡ codes "none" = cc in h))

    each : (us rs : List (List ℕ)) → ArePatterns us → ArePatterns rs → map word_text us ≡ map word_text rs → us ≡ rs
    each [] [] p q f = refl
    each [] (r ∷ rs) p q f = cc
    each (u ∷ us) [] p q f = cc
    each (u ∷ us) (r ∷ rs) p q f =
        ap₂ (λ (s : List ℕ) (l : List (List ℕ)). s ∷ l) (pattern_once u r (p u (inl refl)) (q r (inl refl)) cc) (each us rs (λ x i. p x (inr i)) (λ x i. q x (inr i)) cc)

    by : (us rs : List (List ℕ)) → ArePatterns us → ArePatterns rs → list_tokens us ≡ list_tokens rs → us ≡ rs
    by [] [] p q f = refl
    by [] (r ∷ rs) p q f = absurd (none r _ f (q r (inl refl)))
    by (u ∷ us) [] p q f = absurd (none u _ (sym f) (p u (inl refl)))
    by (u ∷ us) (r ∷ rs) p q f = each (u ∷ us) (r ∷ rs) p q f

-- an equation of a sign and avoided words, by the tokens after `require`
pub avoiding_same : (count : ℕ) (sign : Sign) (avoid tokens before after : List (List ℕ)) → ArePatterns avoid → before ≡ list_tokens avoid
    → tokens ≡ before ++ codes "require" ∷ after → (In (codes "require") before → ⊥)
    → SameReadings (IsAvoidingEquation count sign avoid) (IsSignedEquation count sign) made_tokens after named_tokens tokens
avoiding_same count sign avoid tokens before after are is cut lacks = record { to = λ e p f. to e p f; from = λ e p f. from e p f }
  where
    to : (e : Equation) → IsAvoidingEquation count sign avoid e → after ≡ made_tokens e → IsSignedEquation count sign e × (tokens ≡ named_tokens e)
    to e p f = (
      record {
        equation = record { named = record { avoided = subst ArePatterns (sym p.avoids) are; required = p.required }; terms = p.terms };
        signed = p.signed;
      },
      cut ∙ ap₂ (λ (a b : List (List ℕ)). a ++ codes "require" ∷ b) (is ∙ ap list_tokens (sym p.avoids)) f,
    )

    from : (e : Equation) → IsSignedEquation count sign e → tokens ≡ named_tokens e → IsAvoidingEquation count sign avoid e × (after ≡ made_tokens e)
    from e p f =
        let c = cut_once_at (codes "require") before after (list_tokens e.name.avoid) (made_tokens e) lacks (no_require e.name.avoid p.equation.named.avoided) (sym cut ∙ f) in (
          record {
            required = p.equation.named.required;
            terms = p.equation.terms;
            signed = p.signed;
            avoids = sym (list_once avoid e.name.avoid are p.equation.named.avoided (sym is ∙ c.0));
          },
          c.1,
        )

-- tokens without `require`, and such before which no list of words stands, are those of no equation
pub no_required : (count : ℕ) (sign : Sign) (tokens : List (List ℕ)) → (In (codes "require") tokens → ⊥)
    → (e : Equation) → IsSignedEquation count sign e → tokens ≡ named_tokens e → ⊥
no_required count sign tokens lacks e p f =
    lacks (subst (λ (l : List (List ℕ)). In (codes "require") l) (sym f) (append_right (list_tokens e.name.avoid) (codes "require" ∷ made_tokens e) (codes "require") (inl refl)))

pub no_avoided : (count : ℕ) (sign : Sign) (tokens before after : List (List ℕ)) → tokens ≡ before ++ codes "require" ∷ after → (In (codes "require") before → ⊥)
    → ((ws : List (List ℕ)) → ArePatterns ws → before ≡ list_tokens ws → ⊥) → (e : Equation) → IsSignedEquation count sign e → tokens ≡ named_tokens e → ⊥
no_avoided count sign tokens before after cut lacks none e p f =
    none e.name.avoid p.equation.named.avoided
    (cut_once_at (codes "require") before after (list_tokens e.name.avoid) (made_tokens e) lacks (no_require e.name.avoid p.equation.named.avoided) (sym cut ∙ f)).0

-- the required words and the terms of tokens that are cut at `=`
pub made_cut : (tokens before after : List (List ℕ)) (e : Equation) → tokens ≡ before ++ codes "=" ∷ after → (In (codes "=") before → ⊥) → ArePatterns e.name.require
    → tokens ≡ made_tokens e → (before ≡ list_tokens e.name.require) × (after ≡ terms_tokens e.terms)
made_cut tokens before after e cut lacks p f =
    cut_once_at (codes "=") before after (list_tokens e.name.require) (terms_tokens e.terms) lacks (no_equals e.name.require p) (sym cut ∙ f)

pub no_terms : (tokens : List (List ℕ)) (e : Equation) → (In (codes "=") tokens → ⊥) → tokens ≡ made_tokens e → ⊥
no_terms tokens e lacks f =
    lacks (subst (λ (l : List (List ℕ)). In (codes "=") l) (sym f) (append_right (list_tokens e.name.require) (codes "=" ∷ terms_tokens e.terms) (codes "=") (inl refl)))

-- numbers of equations with the same text are equal
pub number_text_once : (m n : ℕ) → m < 2 ^ 32 → n < 2 ^ 32 → number_text m ≡ number_text n → m ≡ n
unfolding number_text
number_text_once m n few less e = numeral_once m n (omega arith) (omega arith) (append_cancel_left (codes "E") _ _ e)
