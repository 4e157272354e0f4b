-- The basis of a union is its own list of minimal words.
use Rattle.std.proofs.Common.{◌≡◌, IfOk, subst}
use Rattle.av_session.proofs.Systems.{union_reduced}
use Rattle.av_session.proofs.session.united_basis.Goals as goal

pub returns : goal.returns
returns c = subst (λ basis. IfOk c.unite.result (λ words. words ≡ basis)) (union_reduced c.args.first.now c.args.second.now) c.unite.ensures
