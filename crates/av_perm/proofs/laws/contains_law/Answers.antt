-- Containment: a first occurrence is found exactly where there is an occurrence.
use Rattle.av_perm.proofs.Occurrences.{contains_from, contains_to}
use Rattle.av_perm.proofs.laws.contains_law.Goals as goal

pub returns : goal.returns
returns c σ τ = (contains_from σ τ, contains_to σ τ)
