-- The loop's place stands at its value, which is none of those before it.
use Rattle.std.proofs.Common.{ℕ, ◌<◌, ◌+◌, ◌-◌, ◌≢◌, inl, inr, length, ap, arith, ◌∙◌}
use Rattle.std.proofs.lemmas.Bool.{cases_eq}
use Rattle.std.proofs.lemmas.List.{length-set, get_or-set_other}
use Rattle.std.proofs.lemmas.Grind.{get_or-set_at}
use Rattle.av_perm.specs.Relations.{at}
use Rattle.av_perm.proofs.PermWords.{perm_word, perm_short}
use Rattle.av_match.proofs.narrow.inverse.Goals as goal

pub loop-i-preserved : goal.loop-i-preserved
loop-i-preserved c =
    let w = c.args.word.now in
    let i = c.loop-i.i in
    let g = (perm_word w c.requires).numbers in
    let short = perm_short w c.requires in
    let lt : i < length w = omega arith in
    let here = g.within i lt in
    let places = c.loop-i.places in
    record {
      long = length-set places (at w i - 1) (i + 1) ∙ c.loop-i.invariant.long;
      there = λ s h. elim (cases_eq s i) [
        | inl e ↦
            let f = ap (λ (k : ℕ). at w k - 1) e in
            omega (arith, get_or-set_at places (at w i - 1) (at w s - 1) (i + 1) 0 f (omega arith))
        | inr ne ↦
            let low : s < i = omega arith in
            let there = g.within s (omega arith) in
            let apart = g.apart s i low lt in
            let other : at w s - 1 ≢ at w i - 1 = λ e. apart (omega arith) in
            get_or-set_other places (at w i - 1) (at w s - 1) (i + 1) 0 other ∙ c.loop-i.invariant.there s low
      ];
    }
