-- Each option adds its own rule to those before.
use Rattle.std.proofs.Common.{◌∙◌, ap₂}
use Rattle.clap.specs.Simple.{with_rule}
use Rattle.av_session.proofs.command.command.Goals as goal

pub returns : goal.returns
returns c =
    let one = c.in_ok-one.ensures.shape c.option-simple.ensures.alone ∙ ap₂ with_rule c.bare_command.ensures c.option-simple.ensures.rule in
    let two = c.in_ok-two.ensures.shape c.option-size.ensures.alone ∙ ap₂ with_rule one c.option-size.ensures.rule in
    let three = c.in_ok-three.ensures.shape c.option-demo.ensures.alone ∙ ap₂ with_rule two c.option-demo.ensures.rule in
    c.in_ok-four.ensures.shape c.flag-check.ensures.alone ∙ ap₂ with_rule three c.flag-check.ensures.rule
