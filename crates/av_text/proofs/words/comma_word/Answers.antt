-- Each turn goes over one part, which writes a number below 1000; where that is above 255 it is no entry of a word.
use Rattle.std.proofs.Common.{rules, tests, arith, lit<, sym, ap, ◌∙◌, ◌≡◌, ◌<◌, length, get_or, map}
use Rattle.std.specs.Str.Parse.{digits_value}
use Rattle.std.proofs.lemmas.List.{length-map}
use Rattle.std.proofs.lemmas.Simd.{map-map}
use Rattle.std.proofs.lemmas.Iterator.Consumers.{YieldsList-turn, YieldsList-end, YieldsList-at}
use Rattle.std.proofs.lemmas.Iterator.Splits.{YieldsList-from_slice_split}
use Rattle.av_text.specs.Words.{is_comma, comma_parts}
use Rattle.av_text.proofs.Shorts.{comma_short, part_short, part_too_high}
use Rattle.av_text.proofs.words.comma_word.Goals.{In-Some}
use Rattle.av_text.proofs.words.comma_word.Goals as goal

-- the part at a turn is the next one between the commas
part_at : (c : In-Some) → (length c.loop-part.yielded < length (comma_parts c.args.token.now)) × (c.in-Some.part.now ≡ get_or (comma_parts c.args.token.now) (length c.loop-part.yielded) c.in-Some.part.now)
part_at c =
    let split = c.split-part-items.ensures in
    YieldsList-turn
    (YieldsList-at c.into_iter-part-iterator.ensures.into_iter_gives
    (YieldsList-from_slice_split _ is_comma c.args.token.now split.rest split.done split.closure (λ x b q k. search (rules, tests))))
    c.loop-part.yielded _ c.loop-part.yielded_by _ _ c.in-Some.part c.in-Some.is c.next.ensures.steps

pub short_value-requires : goal.short_value-requires
short_value-requires c = part_short (comma_parts c.args.token.now) _ _ (comma_short _ c.requires.form) (part_at c)

pub returns-in_default : goal.returns-in_default
returns-in_default c =
    sym (part_too_high c.args.limit _ (comma_parts c.args.token.now) c.in-Some.part.now (omega arith) (omega (arith, c.in_default.ensures, c.short_value.ensures))
    (part_at (goal.at.returns-in_default c).In-Some))

pub push-requires : goal.push-requires
push-requires c =
    let at = part_at (goal.at.push-requires c).In-Some in
    let e = ap length c.loop-part.invariant in
    let m = length-map c.loop-part.yielded (λ p. digits_value 10 p.now) in
    (lit< tt, omega (arith, at.0))

pub returns : goal.returns
returns c =
    let split = c.split-part-items.ensures in
    let end =
    YieldsList-end
    (YieldsList-at c.into_iter-part-iterator.ensures.into_iter_gives
    (YieldsList-from_slice_split _ is_comma c.args.token.now split.rest split.done split.closure (λ x b q k. search (rules, tests))))
    c.loop-part.yielded _ c.loop-part.yielded_by _ _ c.in-None.is c.next.ensures.steps in
    let e : c.loop-part.entries.items ≡ map (digits_value 10) (comma_parts c.args.token.now) = c.loop-part.invariant ∙ sym (map-map (digits_value 10) (λ p. p.now) c.loop-part.yielded) ∙ ap (map (digits_value 10)) end.0 in
    cc
