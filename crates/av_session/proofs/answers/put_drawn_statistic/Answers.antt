-- What is drawn from are the members, of which there are as many as the table says.
use Rattle.std.proofs.Common.{◌≡◌, length, sym, ◌∙◌, subst}
use Rattle.av_sys.specs.TreeLists.{members}
use Rattle.av_session.proofs.SeedDraws.{known_members}
use Rattle.av_session.proofs.answers.put_drawn_statistic.Goals as goal

pub invariant_of-urn-clause-all : goal.invariant_of-urn-clause-all
invariant_of-urn-clause-all g c =
    subst (λ S. c.in-Known.count ≡ length (members S c.args.n)) (c.requires.stands ∙ sym c.system.ensures.value)
    (known_members c.args.table.now.system c.args.n c.in-Known.count (sym c.member_count.ensures ∙ c.in-Known.is))
