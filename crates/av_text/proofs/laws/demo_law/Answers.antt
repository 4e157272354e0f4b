-- The script of a number is read as that with its two queries, line by line.
use Rattle.av_text.proofs.DemoTexts.{demo_holds}
use Rattle.av_text.proofs.laws.demo_law.Goals as goal

pub returns : goal.returns
returns c = demo_holds
