-- The law of the union of two classes.
use Rattle.av_union.proofs.Unions.{union_law}
use Rattle.av_union.proofs.laws.union_law.Goals as goal

pub returns : goal.returns
returns c = union_law
