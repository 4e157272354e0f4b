-- Bytes taken one part after another.
use Rattle.std.proofs.Common.{ℕ, ◌+◌, ◌≤◌, List, ◌++◌, length, Option, Some, None, append_assoc, length-append, sym, ap, ◌∙◌, arith}
use Rattle.std.specs.Io.KnownBytes.{Consumes}
use Rattle.av_session.specs.Taken.{TakesUpTo}

pub consumes_more : (old mid new : Option (List ℕ)) (s t : List ℕ) → Consumes old mid s → Consumes mid new t → Consumes old new (s ++ t)
consumes_more None mid new s t a b = tt
consumes_more (Some xs) None new s t a b = absurd a
consumes_more (Some xs) (Some ys) None s t a b = absurd b
consumes_more (Some xs) (Some ys) (Some zs) s t a b = a ∙ ap (λ l. s ++ l) b ∙ sym (append_assoc s t zs)

-- what was taken, and then at most so many more
pub takes_more : (most : ℕ) (old mid new : Option (List ℕ)) (s t : List ℕ) → Consumes old mid s → Consumes mid new t → length s + length t ≤ most → TakesUpTo most old new
takes_more most old mid new s t a b h = (s ++ t, omega (arith, length-append s t), consumes_more old mid new s t a b)
