-- The minimal words of the basis are a basis, and the maximal required words are required words.
use Rattle.std.proofs.Common.{sym, subst}
use Rattle.std.specs.Prelude.{[], unwrap_or}
use Rattle.av_session.specs.Solved.{IsBasis, AreRequiredWords}
use Rattle.av_session.proofs.Systems.{basis_kept, required_are}
use Rattle.av_session.proofs.session.put_script.Goals as goal

pub solve-requires-clause-basis : goal.solve-requires-clause-basis
solve-requires-clause-basis g c = subst IsBasis (sym c.in_ok-basis.ensures) (basis_kept c.args.script.now c.requires.script)

pub solve-requires-clause-required : goal.solve-requires-clause-required
solve-requires-clause-required g c = subst (λ o. AreRequiredWords (unwrap_or o [])) (sym c.in_ok-require.ensures) (required_are c.args.script.now c.requires.script)
