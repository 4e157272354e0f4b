-- The first item was written, and some of the others.
use Rattle.std.proofs.Common.{arith, ◌<◌, length}
use Rattle.std.proofs.lemmas.List.{take_rest}
use Rattle.av_print.proofs.Written.{joined_part}
use Rattle.av_print.proofs.joined.JoinedText.put_on.Goals as goal

pub returns-in_ok-put_on-in-len1-up-clause-part : goal.returns-in_ok-put_on-in-len1-up-clause-part
returns-in_ok-put_on-in-len1-up-clause-part g c =
    let lt : 0 < length c.args.self.now.items.now = omega (arith, c.in-len1-up.len_at_least) in
    joined_part g.T.Text.text c.args.self.now.separator.now c.args.self.now.items.now c.first-item.result _ _ _ lt c.first-item.is c.in_ok-put_on-in-len1-up.ensures.whole
    (rw (take_rest c.args.self.now.items.now 1) at c.put_others.ensures.part)
