-- It is the first of the later terms, at place 0.
use Rattle.av_list.proofs.choice.later_term.Goals as goal

pub returns-in-Some : goal.returns-in-Some
returns-in-Some c = (c.in-Some.pick.left, c.in-Some.ensures 1 c.of.ensures)
