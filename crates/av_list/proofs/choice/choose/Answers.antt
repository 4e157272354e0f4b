-- The vertex is the first of the term that was found.
use Rattle.std.proofs.Common.{◌≤◌, ◌*◌, ◌-◌, length, subst, sym}
use Rattle.av_sys.specs.Terms.{terms_at}
use Rattle.av_list.proofs.Choosing.{vertices_weigh, picked_from}
use Rattle.av_list.proofs.choice.choose.Goals as goal

pub returns-in-None : goal.returns-in-None
returns-in-None c F h =
    subst (λ z. F * z ≤ c.args.r) (sym (vertices_weigh c.args.system.now c.args.equation c.args.size c.args.least (length (terms_at c.args.system.now c.args.equation) - c.args.least))) (c.in-None.ensures F h)

pub first_of_term-requires-clause-term_number : goal.first_of_term-requires-clause-term_number
first_of_term-requires-clause-term_number c = let w = c.requires.counts in (c.in-Some.ensures w.0 w.1).high

pub first_of_term-requires-clause-within : goal.first_of_term-requires-clause-within
first_of_term-requires-clause-within c = let w = c.requires.counts in (w.0, w.1, (c.in-Some.ensures w.0 w.1).within)

pub returns-in-Some : goal.returns-in-Some
returns-in-Some c F h =
    let f = c.in-Some.ensures F h in
    picked_from c.args.system.now c.args.equation c.args.size F c.args.least c.args.r c.in-Some.cut.at c.in-Some.cut.left c.first_of_term.result.left c.first_of_term.result.vertex f (c.first_of_term.ensures F h f.within)
