-- The canonical text of a query, read as a line, is that query.
use Rattle.std.proofs.Common.{◌≡◌, ◌-◌, ◌^◌, refl, arith, Ok}
use Rattle.av_perm.specs.declared.StatKind.{StatKind}
use Rattle.av_perm.specs.declared.StatKind.TheVariants as stat
use Rattle.av_perm.specs.declared.limits.TheConstants.{MAX_LENGTH, MAX_STATISTIC}
use Rattle.av_text.specs.declared.limits.TheConstants.{MAX_LISTED, MAX_DRAWN, MAX_STATISTIC_LENGTH, MAX_DISTRIBUTION_LENGTH}
use Rattle.av_text.specs.declared.queries.DistKind.{DistKind}
use Rattle.av_text.specs.declared.queries.DistKind.TheVariants as dist
use Rattle.av_text.specs.declared.queries.Query.{Query}
use Rattle.av_text.specs.declared.queries.Query.TheVariants as query
use Rattle.av_text.specs.declared.says.Says.TheVariants.{Asks}
use Rattle.av_text.specs.declared.says.Seen.{Seen}
use Rattle.av_text.specs.Queries.{form_named, statistic_name, statistic_named, statistic_in, stat_kind, dist_kind_name, dist_kind_named, dist_kind_in, query_with_one, query_with_two, query_with_three, query_with_four, query_with_five, query_with, query_of, IsInRange}
use Rattle.av_text.specs.Read.{tokens_said, line_said}
use Rattle.av_print.specs.Text.{query_tokens, query_text}
use Rattle.av_print.proofs.Tokens.{IsToken, AreTokens, spaced_allowed, spaced_tokens}
use Rattle.av_print.proofs.NumberTokens.{number_said, number_token}
use Rattle.av_print.proofs.WordTokens.{word_said, word_token}

-- the name of a statistic is a token, which names it
statistic_token : (t : StatKind) → IsToken (statistic_name t)
statistic_token stat.Inv = record { filled = refl; plain = refl }
statistic_token stat.Des = record { filled = refl; plain = refl }
statistic_token stat.Lrm = record { filled = refl; plain = refl }

statistic_said : (t : StatKind) → statistic_in (statistic_name t) ≡ Ok t
unfolding statistic_named
statistic_said stat.Inv = refl
statistic_said stat.Des = refl
statistic_said stat.Lrm = refl

dist_kind_said : (t : DistKind) → dist_kind_in (dist_kind_name t) ≡ Ok t
unfolding dist_kind_named
dist_kind_said dist.Inv = refl
dist_kind_said dist.Des = refl

-- the tokens of a query are tokens
tokens_are : (q : Query) → IsInRange q → AreTokens (query_tokens q)
unfolding query_tokens
tokens_are (query.Count n) r = (record { filled = refl; plain = refl }, (number_token n (omega arith), tt))
tokens_are (query.Counts n) r = (record { filled = refl; plain = refl }, (number_token n (omega arith), tt))
tokens_are (query.List n s k) r =
    (record { filled = refl; plain = refl }, (number_token n (omega arith), (record { filled = refl; plain = refl }, (number_token s (omega arith), (record { filled = refl; plain = refl }, (number_token k (omega arith), tt))))))
tokens_are (query.Unrank n s) r = (record { filled = refl; plain = refl }, (number_token n (omega arith), (number_token s (omega arith), tt)))
tokens_are (query.Rank w) r = (record { filled = refl; plain = refl }, (word_token w r, tt))
tokens_are (query.Tree w) r = (record { filled = refl; plain = refl }, (word_token w r, tt))
tokens_are (query.Draw n s k) r =
    (record { filled = refl; plain = refl }, (number_token n (omega arith), (number_token s (omega arith), (number_token k (omega arith), tt))))
tokens_are (query.DrawStat t n s k) r =
    (record { filled = refl; plain = refl }, (statistic_token t, (number_token n (omega arith), (number_token s (omega arith), (number_token k (omega arith), tt)))))
tokens_are (query.Stat t n) r = (record { filled = refl; plain = refl }, (statistic_token t, (number_token n (omega arith), tt)))
tokens_are (query.Pick t v n) r =
    (record { filled = refl; plain = refl }, (statistic_token t, (number_token v (omega arith), (number_token n (omega arith), tt))))
tokens_are (query.Dist t n) r = (record { filled = refl; plain = refl }, (statistic_token (stat_kind t), (number_token n (omega arith), tt)))

-- and read as those of a line they ask it
tokens_ask : (seen : Seen) (q : Query) → IsInRange q → tokens_said seen (query_tokens q) ≡ Ok (Asks q)
unfolding query_tokens tokens_said query_of form_named query_with query_with_one query_with_two query_with_three query_with_four query_with_five
tokens_ask seen (query.Count n) r = rw (number_said 1 MAX_LENGTH n r.0 r.1 (omega arith)) refl
tokens_ask seen (query.Counts n) r = rw (number_said 1 MAX_LENGTH n r.0 r.1 (omega arith)) refl
tokens_ask seen (query.List n s k) r =
    rw (number_said 1 MAX_LENGTH n r.0.0 r.0.1 (omega arith), number_said 0 (2 ^ 128 - 1) s (omega arith) (omega arith) (omega arith), number_said 1 MAX_LISTED k r.2.0 r.2.1 (omega arith)) refl
tokens_ask seen (query.Unrank n s) r =
    rw (number_said 1 MAX_LENGTH n r.0.0 r.0.1 (omega arith), number_said 0 (2 ^ 128 - 1) s (omega arith) (omega arith) (omega arith)) refl
tokens_ask seen (query.Rank w) r = rw (word_said w r) refl
tokens_ask seen (query.Tree w) r = rw (word_said w r) refl
tokens_ask seen (query.Draw n s k) r =
    rw (number_said 1 MAX_LENGTH n r.0.0 r.0.1 (omega arith), number_said 0 (2 ^ 64 - 1) s (omega arith) (omega arith) (omega arith), number_said 1 MAX_DRAWN k r.2.0 r.2.1 (omega arith)) refl
tokens_ask seen (query.DrawStat t n s k) r =
    rw (statistic_said t, number_said 1 MAX_LENGTH n r.0.0 r.0.1 (omega arith), number_said 0 (2 ^ 64 - 1) s (omega arith) (omega arith) (omega arith), number_said 1 MAX_DRAWN k r.2.0 r.2.1 (omega arith)) refl
tokens_ask seen (query.Stat t n) r = rw (statistic_said t, number_said 1 MAX_STATISTIC_LENGTH n r.0 r.1 (omega arith)) refl
tokens_ask seen (query.Pick t v n) r =
    rw (statistic_said t, number_said 0 MAX_STATISTIC v (omega arith) r.0 (omega arith), number_said 1 MAX_STATISTIC_LENGTH n r.1.0 r.1.1 (omega arith)) refl
tokens_ask seen (query.Dist t n) r = rw (dist_kind_said t, number_said 1 MAX_DISTRIBUTION_LENGTH n r.0 r.1 (omega arith)) refl

-- its canonical text, as a line, asks it
pub query_text_read : (seen : Seen) (q : Query) → IsInRange q → line_said seen (query_text q) ≡ Ok (Asks q)
unfolding query_text line_said
query_text_read seen q r =
    rw (spaced_allowed (query_tokens q) (tokens_are q r), spaced_tokens (query_tokens q) (tokens_are q r)) (tokens_ask seen q r)
