-- Occurrences: all lists of places in order, sieved by whether their entries lie as the pattern.
use Rattle.av_perm.proofs.Occurrences.{occurrences_hold}
use Rattle.av_perm.proofs.laws.occurrences_law.Goals as goal

pub returns : goal.returns
returns c σ τ = occurrences_hold σ τ
