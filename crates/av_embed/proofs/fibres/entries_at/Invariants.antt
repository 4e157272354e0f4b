-- The entries so far are those at the places that were passed.
use Rattle.std.proofs.Common.{◌≡◌, ◌≤◌, length, take}
use Rattle.av_perm.specs.Fibre.{fibre}
use Rattle.av_embed.proofs.fibres.entries_at.Given as goal

abbrev pub invariant-loop-i : goal.invariant-loop-i
invariant-loop-i l = (l.entries.items ≡ fibre (take l.i l.pattern) (take l.i l.map) l.child) × (length l.entries.items ≤ l.i)
