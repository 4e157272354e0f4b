-- The closure returns the statistic, which is small.
use Rattle.std.proofs.Common.{◌≡◌, arith}
use Rattle.av_perm.specs.Stat.{statistic_of}
use Rattle.av_stat.proofs.Listed.{statistic_few}
use Rattle.av_stat.proofs.stat.Stat.of.Goals as goal

pub returns-clause-value : goal.returns-clause-value
returns-clause-value g c = c.requires.statistic c.args.word.now c.asked.result c.asked.ensures.perm c.asked.ensures.value

pub returns-clause-few : goal.returns-clause-few
returns-clause-few g c =
    let value : c.asked.result ≡ statistic_of c.args.self.now.kind c.args.word.now =
    c.requires.statistic c.args.word.now c.asked.result c.asked.ensures.perm c.asked.ensures.value in
    omega (arith, value, statistic_few c.args.self.now.kind c.args.word.now c.asked.ensures.perm)
