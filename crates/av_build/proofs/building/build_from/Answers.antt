-- The required words have two entries or more, and what has grown from the name is what is to be built.
use Rattle.av_build.proofs.HeldWords.{top_entries}
use Rattle.av_build.proofs.Growth.{from_built}
use Rattle.av_build.proofs.building.build_from.Goals as goal

pub grow-requires-clause-long : goal.grow-requires-clause-long
grow-requires-clause-long c = top_entries c.args.name.now.require c.len-require.ensures.words c.requires.top

pub returns : goal.returns
returns c =
    from_built c.args.basis.now c.args.roots.now c.args.name.now c.args.limit c.grow.result c.len-avoid.ensures.words c.len-require.ensures.words
    c.requires.top c.requires.covers c.requires.roots c.requires.few c.grow.ensures
