-- A list of words is `none`, or else one word or more.
use Rattle.std.proofs.Common.{sym, true≢false}
use Rattle.av_check.proofs.ReadAs.{reads_ok_as}
use Rattle.av_check.proofs.Lists.{some_tokens, list_same}
use Rattle.av_check.proofs.reading.words.words_of.Goals as goal

pub returns-else-is_empty : goal.returns-else-is_empty
returns-else-is_empty c =
    reads_ok_as (list_same c.args.tokens.now (λ e. true≢false (sym (c.if-is_none.ensures.1 e))) (some_tokens c.args.tokens.now c.if-is_empty.ensures))
    c.each_word.result c.each_word.ensures
