-- The rank of a word is its place among the members.
use Rattle.std.proofs.Common.{length, nat_le, subst, ◌∙◌}
use Rattle.std.proofs.lemmas.Bool.{and_parts}
use Rattle.av_perm.specs.declared.limits.TheConstants.{MAX_LENGTH}
use Rattle.av_perm.specs.Word.{is_word}
use Rattle.av_perm.proofs.WordTests.{word_from}
use Rattle.av_tree.specs.declared.ranking.Ranked.TheVariants.{At, Big, Stranger}
use Rattle.av_tree.specs.Ranks.{IsRanked}
use Rattle.av_session.proofs.Places.{ranked_place}
use Rattle.av_session.proofs.ranks.place_of.Goals as goal

pub returns-in-At : goal.returns-in-At
returns-in-At c =
    let w = c.args.word.now in
    ranked_place c.args.class.now w (At c.in-At.r) c.system.ensures.class (word_from w (and_parts (is_word w) (nat_le (length w) MAX_LENGTH) c.len-len.ensures.word).0).filled
    (subst (λ S. IsRanked S w (At c.in-At.r)) c.system.ensures.value c.in-At.ensures)

pub returns-in-Big : goal.returns-in-Big
returns-in-Big c =
    let w = c.args.word.now in
    ranked_place c.args.class.now w Big c.system.ensures.class (word_from w (and_parts (is_word w) (nat_le (length w) MAX_LENGTH) c.len-len.ensures.word).0).filled
    (subst (λ S. IsRanked S w Big) c.system.ensures.value c.in-Big.ensures)

pub returns-in-Stranger : goal.returns-in-Stranger
returns-in-Stranger c =
    let w = c.args.word.now in
    c.strange.ensures ∙ ranked_place c.args.class.now w Stranger c.system.ensures.class (word_from w (and_parts (is_word w) (nat_le (length w) MAX_LENGTH) c.len-len.ensures.word).0).filled
    (subst (λ S. IsRanked S w Stranger) c.system.ensures.value c.in-Stranger.ensures)
