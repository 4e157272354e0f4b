-- What is known of a value that may be missing.
use Rattle.std.proofs.Common.{rules, Option, Some, None}
use Rattle.std.specs.Option.{MatchOption, IsSome}

-- what follows where there is none, and of the value where there is one
pub match_none : {X : Type 0} (o : Option X) (P Q : Type 0) (R : X → Type 0) → (P → Q) → MatchOption o P R → MatchOption o Q R
match_none None P Q R f m = f m
match_none (Some x) P Q R f m = m

-- there is a value, where that there is none can't be
pub match_some : {X : Type 0} (o : Option X) (P : Type 0) (R : X → Type 0) → (P → ⊥) → MatchOption o P R → IsSome o
match_some None P R f m = absurd (f m)
match_some (Some x) P R f m = search rules
