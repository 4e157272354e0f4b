-- What a derivation stands for.
use Rattle.std.specs.Prelude.{ℕ, List}
use Rattle.av_list.specs.declared.vertex.Vertex.{Vertex}
use Rattle.av_list.specs.declared.vertex.Due.{Due}

-- the size of the whole tree, what is placed, the last first, and what is due, the next first
pub record Progress : Type 0 where
  pub size : ℕ
  pub placed : List Vertex
  pub due : List Due
