-- The first occurrence goes on with the loop's place, or else with a later one.
use Rattle.std.proofs.Common.{◌≡◌, ℕ, ◌+◌, ◌<◌, ◌≤◌, List, [], ◌∷◌, ◌++◌, length, arith, sym, ◌∙◌, ap, subst, Some, None, rules, refl}
use Rattle.av_perm.proofs.ListLaws.{popped}
use Rattle.av_match.specs.Search.{GoesOn, IsBegun, IsWhole, completed, places_from}
use Rattle.av_match.proofs.Begun.{in_window}
use Rattle.av_match.proofs.Completed.{completed_whole, found_here, found_later, found_least, found_most, found_not}
use Rattle.av_match.proofs.search.+extend.Goals as goal
use Rattle.av_match.proofs.search.+extend.Goals.{then-window-x+then-x-window+else-extend, else-window-x, else-window-x-via-then-window-x+else-x-window, else-window-x-via-else-window-x}

pub returns-then-len-pattern-clause-found : goal.returns-then-len-pattern-clause-found
returns-then-len-pattern-clause-found t c =
    sym (completed_whole c.args.word.now c.args.pattern.now c.args.chosen.now.items (places_from c.args.word.now c.args.from) (omega (arith, c.len.ensures.value, c.if-len-pattern.true)) c.requires.begun)

pub extend-requires : goal.extend-requires
extend-requires t c =
    let w = c.args.word.now in
    let p = c.args.pattern.now in
    let cs = c.args.chosen.now.items in
    let place = c.loop-place.place in
    let pushed : c.push.new.self.items ≡ cs ++ place ∷ [] = c.push.ensures.items ∙ ap (λ (ds : List ℕ). ds ++ place ∷ []) c.loop-place.invariant.same in
    let long = ap length c.loop-place.invariant.same in
    let read = (in_window w c.fitting-window.result.least c.fitting-window.result.most place (omega arith)).1 (c.if-window-x.true, c.if-x-window.true) in
    let fits = c.fitting-window.ensures.begun place (omega arith) (omega arith) read.0 read.1 in
    let begun : IsBegun w p c.push.new.self.items = subst (λ (ds : List ℕ). IsBegun w p ds) (ap (λ (ds : List ℕ). ds ++ place ∷ []) c.as_slice.ensures.value ∙ sym pushed) fits in
    let short : length c.push.new.self.items ≤ length p = omega (arith, c.push.ensures.len, c.len.ensures.value) in
    search (rules, begun, short)

pub returns-then-extend-clause-found : goal.returns-then-extend-clause-found
returns-then-extend-clause-found t c =
    let w = c.args.word.now in
    let p = c.args.pattern.now in
    let cs = c.args.chosen.now.items in
    let place = c.loop-place.place in
    let pushed : c.push.new.self.items ≡ cs ++ place ∷ [] = c.push.ensures.items ∙ ap (λ (ds : List ℕ). ds ++ place ∷ []) c.loop-place.invariant.same in
    found_here w p cs place c.extend.new.chosen.items (omega arith) (omega (arith, c.len.ensures.value))
    (subst (λ (ds : List ℕ). Some c.extend.new.chosen.items ≡ completed w p ds (places_from w (place + 1))) pushed c.if-extend.ensures.found)
    ∙ c.loop-place.invariant.none

pub loop-place-init : goal.loop-place-init
loop-place-init t c =
    let w = c.args.word.now in
    let p = c.args.pattern.now in
    let cs = c.args.chosen.now.items in
    record {
      same = refl;
      none = found_least w p cs c.args.from c.places_to_try-span.result.least c.requires.begun c.requires.first c.places_to_try-span.ensures.first (omega (arith, c.len.ensures.value))
          (λ q rest goes. (c.places_to_try-span.ensures.kept q rest (subst (λ (ds : List ℕ). GoesOn w p ds c.args.from q rest) (sym c.as_slice-2.ensures.value) goes)).0);
    }

pub loop-place-preserved : goal.loop-place-preserved
loop-place-preserved t c =
    let w = c.args.word.now in
    let p = c.args.pattern.now in
    let cs = c.args.chosen.now.items in
    let place = c.loop-place.place in
    let last : place ≤ length w = omega arith in
    let short : length cs < length p = omega (arith, c.len.ensures.value) in
    elim c.if-window-x.branch [
      | then-window-x+then-x-window+else-extend u ↦
          let pushed : u.push.new.self.items ≡ cs ++ place ∷ [] = u.push.ensures.items ∙ ap (λ (ds : List ℕ). ds ++ place ∷ []) c.loop-place.invariant.same in
          record {
            same = ap (λ v. v.items) u.chosen-is ∙ popped cs u.extend.new.chosen.items u.pop.new.self.items place (u.if-extend.ensures.kept refl ∙ pushed) u.pop.ensures.rest;
            none = found_later w p cs place last short
                (subst (λ (ds : List ℕ). None ≡ completed w p ds (places_from w (place + 1))) pushed u.if-extend.ensures.found)
                ∙ c.loop-place.invariant.none;
          }
      | else-window-x u ↦ record {
        same = ap (λ v. v.items) u.chosen-is ∙ c.loop-place.invariant.same;
        none = found_not w p cs c.args.from place c.requires.begun (omega arith) (omega arith) last short (λ rest goes.
            let fits = c.fitting-window.ensures.whole place rest (subst (λ (ds : List ℕ). IsWhole w p (ds ++ place ∷ rest)) (sym c.as_slice.ensures.value) goes.whole) in
            let read = (in_window w c.fitting-window.result.least c.fitting-window.result.most place (omega arith)).0 fits in
            elim u.else-window-x.branch [
              | else-window-x-via-then-window-x+else-x-window v ↦ absurd (omega (arith, read.1, v.if-x-window.false))
              | else-window-x-via-else-window-x v ↦ absurd (omega (arith, read.0, v.if-window-x.false))
            ]) ∙ c.loop-place.invariant.none;
      }
    ]

pub returns-clause-found : goal.returns-clause-found
returns-clause-found t c =
    let w = c.args.word.now in
    let p = c.args.pattern.now in
    let cs = c.args.chosen.now.items in
    sym (found_most w p cs c.args.from c.loop-place.place c.places_to_try-span.result.most c.requires.begun (omega arith) (omega arith) (omega arith) (omega (arith, c.len.ensures.value))
    (λ q rest goes. (c.places_to_try-span.ensures.kept q rest (subst (λ (ds : List ℕ). GoesOn w p ds c.args.from q rest) (sym c.as_slice-2.ensures.value) goes)).1))
    ∙ c.loop-place.invariant.none
