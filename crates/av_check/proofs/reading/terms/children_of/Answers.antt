-- The numbers of children stand between commas.
use Rattle.std.proofs.Common.{ap, ◌∙◌}
use Rattle.av_check.proofs.Loops.{bytes}
use Rattle.av_check.proofs.ReadAs.{reads_ok_as}
use Rattle.av_check.proofs.Terms.{children_same}
use Rattle.av_check.proofs.reading.terms.children_of.Goals as goal

pub returns : goal.returns
returns c =
    reads_ok_as (children_same c.args.count c.args.text.now (bytes c.deref.result.now) (ap bytes c.deref.ensures.value ∙ c.in_ok-pieces.ensures))
    c.each_child.result c.each_child.ensures
