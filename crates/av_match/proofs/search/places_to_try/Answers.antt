-- Where nothing was narrowed, places are left for the rest of the pattern.
use Rattle.std.proofs.Common.{arith}
use Rattle.av_match.proofs.Completed.{room_left}
use Rattle.av_match.proofs.search.places_to_try.Goals as goal

pub returns-in-None-clause-kept : goal.returns-in-None-clause-kept
returns-in-None-clause-kept c = λ place rest goes.
    let left = room_left c.args.word.now c.args.pattern.now c.args.chosen.now c.args.from place rest c.requires.room goes in
    (goes.first, omega (arith, left))
