-- A root takes as many children as it has entries.
use Rattle.std.proofs.Common.{◌≡◌, sym, ◌∙◌, arith}
use Rattle.av_check.proofs.Terms.{not_as_many}
use Rattle.av_check.proofs.reading.terms.node_of.Goals as goal

pub returns-else-len : goal.returns-else-len
returns-else-len c =
    let r = c.in-Some.ensures in
    let k = rw c.in-Some-2.is at c.in_ok-children.ensures in
    not_as_many c.args.count c.args.root.now c.args.children.now c.in-Some.root c.in-Some-2.children r.0 r.1 k.0 k.1
    (λ e. let same : c.len.result ≡ c.len-2.result = c.len.ensures ∙ e ∙ sym c.len-2.ensures.value in omega arith)
