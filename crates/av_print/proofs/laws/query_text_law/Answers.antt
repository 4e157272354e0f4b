-- The law of the texts of queries.
use Rattle.av_print.proofs.QueryTexts.{query_text_read}
use Rattle.av_print.proofs.laws.query_text_law.Goals as goal

pub returns : goal.returns
returns c = query_text_read
