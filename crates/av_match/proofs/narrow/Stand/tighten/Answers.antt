-- The spans that are lent come back as the passes leave them.
use Rattle.std.proofs.Common.{ℕ, ◌-◌, length, take, drop, ◌∙◌, ap}
use Rattle.av_match.proofs.Narrowing.{fit_same, refill_same, route_same}
use Rattle.av_match.proofs.narrow.Stand.tighten.Goals as goal

pub returns-clause-kept : goal.returns-clause-kept
returns-clause-kept c = λ x y routes fx fy.
    let lines = c.args.lines.now in
    let places = c.args.self.now.places.items in
    let values = c.args.self.now.values.items in
    let m = c.len-m.ensures.value in
    let given = c.as_mut_slice.ensures.value in
    let given2 = c.as_mut_slice-2.ensures.value in
    let a = c.if-not-tighten.ensures.kept y x
    (route_same lines.word (take (length places) lines.pattern) _ (length places) (length c.as_mut_slice.result.now) y x
    (ap (λ (k : ℕ). take k lines.pattern) m) (ap length given ∙ c.requires.values) routes.values)
    (fit_same values c.as_mut_slice.result.now y given fy)
    (fit_same places c.as_slice.result.now x c.as_slice.ensures.value fx) in
    let back = refill_same values c.tighten.new.main (c.if-not-tighten.ensures.long ∙ ap length given) in
    let b = c.tighten-2.ensures.kept x y
    (route_same c.args.word.now (take (length places - c.args.chosen) (drop c.args.chosen lines.places)) _ (length places) (length c.as_mut_slice-2.result.now) x y
    (ap (λ (k : ℕ). take (k - c.args.chosen) (drop c.args.chosen lines.places)) m) (ap length given2) routes.places)
    (fit_same places c.as_mut_slice-2.result.now x given2 fx)
    (fit_same c.tighten.new.main c.as_slice-2.result.now y (c.as_slice-2.ensures.value ∙ back) a.1) in
    let back2 = refill_same places c.tighten-2.new.main (c.tighten-2.ensures.long ∙ ap length given2) in
    (b.0, (fit_same c.tighten-2.new.main _ x back2 b.1, fit_same c.tighten.new.main _ y back a.1))
