-- The parts, one after another.
use Rattle.std.proofs.Common.{codes, decimal}
use Rattle.av_text.specs.Demo.{digits_text}
use Rattle.av_text.proofs.DemoWords.{joined_five}
use Rattle.av_text.proofs.demo.text_of.Goals as goal

pub returns : goal.returns
returns c =
    rw (c.in_ok-extend_from_slice-3.ensures.items, c.in_ok-extend_from_slice-2.ensures.items, c.in_ok-extend_from_slice.ensures.items, c.in_ok-push_digits.ensures, c.in_ok-text.ensures.items, c.as_bytes.ensures.value, c.format.ensures.text)
    (joined_five (codes "basis 24153 25314 31524 35142 41352 42513 246135 362514 415263 531642 ") (digits_text c.args.word.now) (codes "\ncounts 160\ndrawstat inv 40 ") (decimal c.args.g) (codes " 1000\n"))
