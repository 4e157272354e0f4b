-- The pattern of different numbers is a word.
use Rattle.std.proofs.Common.{arith, take_all}
use Rattle.av_perm.specs.Pattern.{pattern_of}
use Rattle.av_perm.proofs.Patterns.{pattern_word, length_pattern}
use Rattle.av_perm.proofs.PermWords.{perm_to, distinct_apart}
use Rattle.av_perm.proofs.pattern.pattern_of.Goals as goal

pub from_word-requires : goal.from_word-requires
from_word-requires c =
    let long = length_pattern c.args.values.now in
    rw (c.loop-value.invariant, take_all c.loop-value.value-index c.args.values.now c.loop-value-test.false)
    (perm_to (pattern_of c.args.values.now)
    (record { numbers = pattern_word c.args.values.now (distinct_apart c.args.values.now c.requires.different); filled = omega arith })
    (omega arith))
