-- The children after child i move on, or child i is raised and they begin again, or these sizes are the last.
use Rattle.std.proofs.Common.{◌≡◌, ◌<◌, ◌+◌, ◌-◌, length, drop, take, get_or, sym, subst, ap, arith, ◌∙◌, true≢false}
use Rattle.std.proofs.lemmas.List.{take-take}
use Rattle.av_count.specs.Choices.{ways, ahead}
use Rattle.av_sys.specs.TreeLists.{count_at}
use Rattle.av_list.specs.Sizes.{Begun, Firsts, weighed, weight, sizes_after}
use Rattle.av_list.proofs.SizeSteps.{sizes_at, inner_at, raise_at, ended_at, past_at}
use Rattle.av_list.proofs.sizes.+next_sizes.Goals as goal

pub returns-then-i-len : goal.returns-then-i-len
returns-then-i-len t c =
    let p = past_at (count_at c.args.node.now.table.now.system) c.args.node.now.children.now c.args.sizes.now c.args.i c.args.size (omega (arith, c.if-i-len.true, c.len-len.ensures)) c.requires.placed in
    record { moved = λ e. absurd (true≢false (sym e)); kept = λ e. p.0; ended = λ e. p.1 }

pub next_sizes-requires : goal.next_sizes-requires
next_sizes-requires t c =
    let less : c.args.i < length c.args.node.now.children.now = omega (arith, c.if-i-len.false, c.len-len.ensures, c.requires.i) in
    let k = sizes_at (count_at c.args.node.now.table.now.system) c.args.node.now.children.now c.args.sizes.now c.args.i c.args.size less c.requires.placed c.requires.sum c.requires.some in (
      omega (arith, c.decreases, less),
      (
        omega (arith, less),
        (
          omega (arith, c.requires.most),
          (omega (arith, c.requires.size), (c.requires.placed, (omega (arith, k.sum, c.get-own.ensures), k.some))),
        ),
      ),
    )

pub returns-then-next_sizes-clause-moved : goal.returns-then-next_sizes-clause-moved
returns-then-next_sizes-clause-moved t c e =
    let less : c.args.i < length c.args.node.now.children.now = omega (arith, c.if-i-len.false, c.len-len.ensures, c.requires.i) in
    let f = count_at c.args.node.now.table.now.system in
    let cs = c.args.node.now.children.now in
    let ms = c.args.sizes.now in
    let k = sizes_at f cs ms c.args.i c.args.size less c.requires.placed c.requires.sum c.requires.some in
    let h = c.next_sizes.ensures.moved c.if-next_sizes.true in
    inner_at f cs ms c.args.i c.args.size c.next_sizes.new.sizes h.0 less c.requires.placed k h.1
    (subst (λ z. Firsts (count_at c.args.node.now.table.now.system) (drop (c.args.i + 1) c.args.node.now.children.now) (c.args.size - z) 1 (sizes_after (drop (c.args.i + 1) c.args.sizes.now) (c.args.size - z)) 0 h.0 0) c.get-own.ensures h.2)

pub returns-clause-moved : goal.returns-clause-moved
returns-clause-moved t c e =
    let less : c.args.i < length c.args.node.now.children.now = omega (arith, c.if-i-len.false, c.len-len.ensures, c.requires.i) in
    let f = count_at c.args.node.now.table.now.system in
    let cs = c.args.node.now.children.now in
    let ms = c.args.sizes.now in
    let k = sizes_at f cs ms c.args.i c.args.size less c.requires.placed c.requires.sum c.requires.some in
    let none = c.next_sizes.ensures.ended c.if-next_sizes.false in
    let kept : c.truncate.new.self ≡ take c.args.i ms = c.truncate.ensures ∙ ap (take c.args.i) (c.next_sizes.ensures.kept c.if-next_sizes.false) ∙ take-take c.args.i (c.args.i + 1) ms (omega arith) in
    let b = c.begin_sizes.ensures.moved e in
    raise_at f cs ms c.args.i c.args.size c.begin_sizes.new.sizes less c.requires.placed k
    (subst (λ z. weighed (weight (count_at c.args.node.now.table.now.system) (drop (c.args.i + 1) c.args.node.now.children.now)) (sizes_after (drop (c.args.i + 1) c.args.sizes.now) (c.args.size - z)) ≡ 0) c.get-own.ensures none)
    (subst (λ z. Begun (count_at c.args.node.now.table.now.system) (get_or c.args.node.now.children.now c.args.i 0) (drop (c.args.i + 1) c.args.node.now.children.now) c.args.size (get_or c.args.sizes.now c.args.i 0 + 1) z c.begin_sizes.new.sizes) kept
    (subst (λ z. Begun (count_at c.args.node.now.table.now.system) (get_or c.args.node.now.children.now c.args.i 0) (drop (c.args.i + 1) c.args.node.now.children.now) c.args.size (z + 1) c.truncate.new.self c.begin_sizes.new.sizes) c.get-own.ensures b))

pub returns-clause-ended : goal.returns-clause-ended
returns-clause-ended t c e =
    let less : c.args.i < length c.args.node.now.children.now = omega (arith, c.if-i-len.false, c.len-len.ensures, c.requires.i) in
    let f = count_at c.args.node.now.table.now.system in
    let cs = c.args.node.now.children.now in
    let ms = c.args.sizes.now in
    let k = sizes_at f cs ms c.args.i c.args.size less c.requires.placed c.requires.sum c.requires.some in
    let none = c.next_sizes.ensures.ended c.if-next_sizes.false in
    ended_at f cs ms c.args.i c.args.size less c.requires.placed k
    (subst (λ z. weighed (weight (count_at c.args.node.now.table.now.system) (drop (c.args.i + 1) c.args.node.now.children.now)) (sizes_after (drop (c.args.i + 1) c.args.sizes.now) (c.args.size - z)) ≡ 0) c.get-own.ensures none)
    (subst (λ z.
    ahead (count_at c.args.node.now.table.now.system (get_or c.args.node.now.children.now c.args.i 0))
    (ways (count_at c.args.node.now.table.now.system) (drop (c.args.i + 1) c.args.node.now.children.now))
    c.args.size (z + 1) (c.args.size + 1 - (z + 1)) ≡ 0)
    c.get-own.ensures (c.begin_sizes.ensures.ended e))
