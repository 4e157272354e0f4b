-- What a sieve passed over.
use Rattle.std.proofs.Common.{◌≡◌, ℕ, Bool, true, false, List, [], ◌∷◌, ◌++◌, refl, sym, ◌∙◌, ap, subst, append_assoc, Some, None}
use Rattle.av_count.proofs.Choices.{append_nil}
use Rattle.std.specs.Prelude.{filter}
use Rattle.av_list.specs.Sieving.{Passed, SkipsTo}

-- one item more
pub passed_more : (answers : List ℕ → Bool → Type 0) (xs : List (ℕ × List ℕ)) (r : ℕ) (w : List ℕ) → Passed answers xs → answers w false → Passed answers (xs ++ (r, w) ∷ [])
passed_more answers [] r w h a = (a, tt)
passed_more answers (x ∷ xs) r w h a = (h.0, passed_more answers xs r w h.1 a)

-- nothing is left
pub passed_all : (answers : List ℕ → Bool → Type 0) (old gone left : List (ℕ × List ℕ)) → old ≡ gone ++ left → left ≡ [] → Passed answers gone → Passed answers old
passed_all answers old gone left e f h = subst (Passed answers) (sym (e ∙ ap (λ z. gone ++ z) f ∙ append_nil gone)) h

-- the first of what was left is gone too
pub gone_more : (old gone left new : List (ℕ × List ℕ)) (r : ℕ) (w : List ℕ) → old ≡ gone ++ left → left ≡ (r, w) ∷ new → old ≡ (gone ++ (r, w) ∷ []) ++ new
gone_more old gone left new r w e f = e ∙ ap (λ z. gone ++ z) f ∙ sym (append_assoc gone ((r, w) ∷ []) new)

-- where the closure's answer is a test, what is left to give are the items that pass it

-- the items passed over do not pass the test
pass_front : (answers : List ℕ → Bool → Type 0) (p : List ℕ → Bool) → ((w : List ℕ) (b : Bool) → answers w b → b ≡ p w) → (gone left : List (ℕ × List ℕ)) → Passed answers gone
    → filter (λ (i : ℕ × List ℕ). p i.1) (gone ++ left) ≡ filter (λ (i : ℕ × List ℕ). p i.1) left
pass_front answers p told [] left h = refl
pass_front answers p told (x ∷ gone) left h = let e : p x.1 ≡ false = sym (told x.1 false h.0) in rw e (pass_front answers p told gone left h.1)

-- the next item given is the first that passes
pub sieve_next : (answers : List ℕ → Bool → Type 0) (p : List ℕ → Bool) → ((w : List ℕ) (b : Bool) → answers w b → b ≡ p w) → (old new : List (ℕ × List ℕ)) (x : ℕ × List ℕ) → SkipsTo answers old (Some x) new
    → filter (λ (i : ℕ × List ℕ). p i.1) old ≡ x ∷ filter (λ (i : ℕ × List ℕ). p i.1) new
sieve_next answers p told old new x s =
    let e : p x.1 ≡ true = sym (told x.1 true s.3) in
    ap (filter (λ (i : ℕ × List ℕ). p i.1)) s.1 ∙ pass_front answers p told s.0 (x ∷ new) s.2 ∙ rw e refl

-- after the last, none passes
pub sieve_last : (answers : List ℕ → Bool → Type 0) (p : List ℕ → Bool) → ((w : List ℕ) (b : Bool) → answers w b → b ≡ p w) → (old new : List (ℕ × List ℕ)) → SkipsTo answers old None new
    → (filter (λ (i : ℕ × List ℕ). p i.1) old ≡ []) × (new ≡ [])
sieve_last answers p told old new s = (ap (filter (λ (i : ℕ × List ℕ). p i.1)) (sym (append_nil old)) ∙ pass_front answers p told old [] s.1, s.0)
