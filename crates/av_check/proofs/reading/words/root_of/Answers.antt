-- A root is a word that is one of a system, and no other word has its text.
use Rattle.std.proofs.Common.{sym, ap, ◌∙◌, true≢false}
use Rattle.av_sys.specs.Terms.{is_system_root}
use Rattle.av_sys.proofs.FormTests.{root_from, root_to}
use Rattle.av_check.proofs.RootTexts.{root_pattern, root_once}
use Rattle.av_check.proofs.reading.words.root_of.Goals as goal

pub returns-then-is_system_root : goal.returns-then-is_system_root
returns-then-is_system_root c = let w = c.in_ok-word.ensures in (root_from c.in_ok-word.word (sym c.if-is_system_root.ensures), w.1)

pub returns-else-is_system_root : goal.returns-else-is_system_root
returns-else-is_system_root c v p e =
    let w = c.in_ok-word.ensures in
    let same = root_once v c.in_ok-word.word (root_pattern v p) w.0 (sym e ∙ w.1) in
    true≢false (sym (root_to v p) ∙ ap is_system_root same ∙ sym c.if-is_system_root.ensures)
