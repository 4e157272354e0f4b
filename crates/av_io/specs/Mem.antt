-- What the sources and sinks in memory are seen as.
use Rattle.std.specs.Prelude.{ℕ, List}

-- the bytes left, the most that a call gives, the numbers of the calls that fail, and how many calls were made
pub record MemSourceState : Type 0 where
  pub left : List ℕ
  pub give : ℕ
  pub fails : List ℕ
  pub calls : ℕ

-- the bytes held, the most that a call takes, the numbers of the calls that fail, how many calls were made, and the
-- wants of memory
pub record MemSinkState : Type 0 where
  pub held : List ℕ
  pub take : ℕ
  pub fails : List ℕ
  pub calls : ℕ
  pub wants : ℕ

-- the bytes held, and the wants of memory
pub record SureSinkState : Type 0 where
  pub held : List ℕ
  pub wants : ℕ
