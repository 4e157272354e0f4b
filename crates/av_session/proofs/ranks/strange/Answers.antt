-- A word that isn't of the class contains a word of its basis, or it lacks a required one.
use Rattle.std.proofs.Common.{◌≡◌, length, nat_le, true, Some, sym, ◌∙◌, ap, subst}
use Rattle.std.specs.List.{slice_get}
use Rattle.std.proofs.lemmas.Bool.{and_parts}
use Rattle.av_perm.specs.declared.limits.TheConstants.{MAX_LENGTH}
use Rattle.av_perm.specs.Word.{is_word}
use Rattle.av_perm.specs.Class.{avoids_all}
use Rattle.av_perm.proofs.WordTests.{word_from}
use Rattle.av_perm.proofs.Classes.{avoids_from}
use Rattle.av_match.specs.FirstBad.{IsFirstBad}
use Rattle.av_session.specs.declared.subject.Subject.{Subject}
use Rattle.av_session.specs.Classes.{required_of}
use Rattle.av_session.specs.Answers.{first_lacking}
use Rattle.av_session.proofs.Places.{first_bad_text, lacks_shown}
use Rattle.av_session.proofs.ClassAnswers.{none_lacking}
use Rattle.av_session.proofs.ranks.strange.Goals as goal

pub returns-in-Some : goal.returns-in-Some
returns-in-Some c =
    let basis = c.basis-basis.ensures ∙ ap (λ (s : Subject). s.found.basis) c.subject-subject.ensures in
    sym (first_bad_text c.args.word.now c.args.class.now.subject.found.basis (first_lacking c.args.word.now (required_of c.args.class.now.subject)) c.in-Some.bad c.get.result.now
    (subst (λ b. IsFirstBad c.args.word.now b c.in-Some.bad) basis c.in-Some.ensures)
    (subst (λ b. slice_get b c.in-Some.bad.index ≡ Some c.get.result.now) basis c.get.ensures))

pub unreachable-requires : goal.unreachable-requires
unreachable-requires c =
    let w = c.args.word.now in
    let basis = c.basis-basis.ensures ∙ ap (λ (s : Subject). s.found.basis) c.subject-subject.ensures in
    let required = c.required.ensures ∙ ap required_of c.subject-subject.ensures in
    let all : avoids_all c.args.class.now.subject.found.basis w ≡ true = subst (λ b. avoids_all b w ≡ true) basis c.in_default.ensures in
    c.requires (record {
      member = record {
        word = word_from w (and_parts (is_word w) (nat_le (length w) MAX_LENGTH) c.len-len.ensures.word).0;
        avoids = avoids_from c.args.class.now.subject.found.basis w all;
      };
      contains = none_lacking (required_of c.args.class.now.subject) w (sym (c.in-None.ensures ∙ ap (first_lacking w) required));
    })

pub returns : goal.returns
returns c =
    let w = c.args.word.now in
    let basis = c.basis-basis.ensures ∙ ap (λ (s : Subject). s.found.basis) c.subject-subject.ensures in
    let required = c.required.ensures ∙ ap required_of c.subject-subject.ensures in
    lacks_shown w c.args.class.now.subject.found.basis (required_of c.args.class.now.subject) c.in-Some-first_lacking.pattern.now
    (subst (λ b. avoids_all b w ≡ true) basis c.in_default.ensures) (c.in-Some-first_lacking.ensures ∙ ap (first_lacking w) required)
