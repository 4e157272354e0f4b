-- One number more, from the last child on.
use Rattle.std.proofs.Common.{◌≡◌, ◌<◌, ◌≤◌, ◌+◌, ◌-◌, ◌++◌, ℕ, List, length, drop, get_or, reverse, ◌∙◌, ap, arith, sym, length-append}
use Rattle.std.proofs.lemmas.List.{length-drop, length-reverse, drop_all}
use Rattle.av_count.proofs.Choices.{append_nil}
use Rattle.av_list.specs.Words.{raises}
use Rattle.av_list.proofs.Writing.{lower_own, raises_more}
use Rattle.av_list.proofs.WordLaws.{length_raises}
use Rattle.av_list.proofs.word.add_raises.Goals as goal

pub raise_of-requires-clause-most : goal.raise_of-requires-clause-most
raise_of-requires-clause-most c =
    let l = lower_own (get_or c.args.root.now (c.len-len.result - 1 - c.loop-k.k) 0) c.args.root.now c.args.sizes.now c.requires.many in omega (arith, c.requires.most)

pub overflow_add-raise : goal.overflow_add-raise
overflow_add-raise c =
    let l = lower_own (get_or c.args.root.now (c.len-len.result - 1 - c.loop-k.k) 0) c.args.root.now c.args.sizes.now c.requires.many in omega (arith, c.requires.most, c.raise_of.ensures)

-- there is room for one more number
room : (r : ℕ) (root ns old out : List ℕ) (k : ℕ) → k < length root → length old + length root ≤ 160 → out ≡ old ++ reverse (raises r root ns (drop (length root - k) root)) → length out < 160
room r root ns old out k lt le e =
    let a = ap length e in
    let b = length-append old (reverse (raises r root ns (drop (length root - k) root))) in
    let d = length-reverse (raises r root ns (drop (length root - k) root)) in
    let f = length_raises r root ns (drop (length root - k) root) in
    let g = length-drop (length root - k) root in
    omega arith

pub push-requires : goal.push-requires
push-requires c =
    let l = room c.args.raise c.args.root.now c.args.sizes.now c.args.out.now.items c.loop-k.out.items c.loop-k.k (omega (arith, c.loop-k-test.true, c.len-len.ensures, c.requires.many)) c.requires.room c.loop-k.invariant in
    (omega arith, omega (arith, l))

pub loop-k-init : goal.loop-k-init
loop-k-init c =
    sym (append_nil c.args.out.now.items)
    ∙ ap (λ z. c.args.out.now.items ++ reverse (raises c.args.raise c.args.root.now c.args.sizes.now z)) (sym (drop_all (length c.args.root.now - 0) c.args.root.now (omega arith)))

pub loop-k-preserved : goal.loop-k-preserved
loop-k-preserved c =
    let i = c.len-len.result - 1 - c.loop-k.k in
    let j : length c.args.root.now - (c.loop-k.k + 1) ≡ i = omega (arith, c.len-len.ensures, c.requires.many) in
    let k : length c.args.root.now - c.loop-k.k ≡ i + 1 = omega (arith, c.len-len.ensures, c.requires.many, c.loop-k-test.true) in
    let lt : i < length c.args.root.now = omega (arith, c.len-len.ensures, c.requires.many, c.loop-k-test.true) in
    c.push.ensures.items
    ∙ raises_more c.args.raise c.args.root.now c.args.sizes.now c.args.out.now.items c.loop-k.out.items i (length c.args.root.now - c.loop-k.k) c.raise_of.result k lt c.raise_of.ensures c.loop-k.invariant
    ∙ ap (λ z. c.args.out.now.items ++ reverse (raises c.args.raise c.args.root.now c.args.sizes.now (drop z c.args.root.now))) (sym j)

pub returns : goal.returns
returns c =
    let z : length c.args.root.now - c.loop-k.k ≡ 0 = omega (arith, c.len-len.ensures, c.requires.many, c.loop-k-test.false) in
    c.loop-k.invariant ∙ ap (λ z. c.args.out.now.items ++ reverse (raises c.args.raise c.args.root.now c.args.sizes.now (drop z c.args.root.now))) z
