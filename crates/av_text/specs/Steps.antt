-- Steps in order, of which the first that fails gives the answer. A `do` is written by these.
use Rattle.std.specs.Prelude.{Result, Ok, Err}

-- the first value, passed to the next step; or the first error
infixl 10 ◌>>=◌
abbrev pub ◌>>=◌ : {A B E : Type 0} → Result A E → (A → Result B E) → Result B E
(Ok a) >>= f = f a
(Err e) >>= f = Err e
