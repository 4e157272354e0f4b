-- What clap finds, or its refusal, is what the words set.
use Rattle.std.proofs.Common.{◌∙◌, map, string_bytes, sym}
use Rattle.clap.specs.Matches.{found_of}
use Rattle.av_session.proofs.OptionLaw.{taken, refused, bytes_any, dashes_refused}
use Rattle.av_session.proofs.options.read_words.Goals as goal

pub returns-then-has_dashes-clause-said : goal.returns-then-has_dashes-clause-said
returns-then-has_dashes-clause-said c = dashes_refused (map string_bytes c.args.words.now) (sym (bytes_any string_bytes c.args.words.now) ∙ sym c.has_dashes.ensures ∙ c.if-has_dashes.true)

pub returns-in-Some-clause-said : goal.returns-in-Some-clause-said
returns-in-Some-clause-said c =
    taken (map string_bytes c.args.words.now) (found_of c.in-Ok.found) (sym (bytes_any string_bytes c.args.words.now) ∙ sym c.has_dashes.ensures ∙ c.if-has_dashes.false) c.in-Ok.ensures.kinds c.in-Ok.ensures.rows
    ∙ sym c.in-Some.ensures.said

pub returns-in-Ok-clause-said : goal.returns-in-Ok-clause-said
returns-in-Ok-clause-said c =
    taken (map string_bytes c.args.words.now) (found_of c.in-Ok.found) (sym (bytes_any string_bytes c.args.words.now) ∙ sym c.has_dashes.ensures ∙ c.if-has_dashes.false) c.in-Ok.ensures.kinds c.in-Ok.ensures.rows
    ∙ sym c.in-None.ensures.said

pub returns-clause-said : goal.returns-clause-said
returns-clause-said c =
    refused (map string_bytes c.args.words.now) c.refusal.result c.in-Err.error (sym (bytes_any string_bytes c.args.words.now) ∙ sym c.has_dashes.ensures ∙ c.if-has_dashes.false) c.refusal.ensures c.in-Err.ensures.kinds
