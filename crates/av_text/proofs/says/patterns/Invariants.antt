-- The words that were read, in front of those that are read next, are those of the line.
use Rattle.std.proofs.Common.{◌≡◌, map, drop}
use Rattle.av_text.specs.Read.{patterns}
use Rattle.av_text.proofs.PatternWords.{with_front}
use Rattle.av_text.proofs.says.patterns.Given as goal

abbrev pub invariant-loop-token : goal.invariant-loop-token
invariant-loop-token l = with_front l.words (patterns (map (λ t. t.now) (drop l.token-index l.tokens))) ≡ patterns (map (λ t. t.now) l.tokens)
