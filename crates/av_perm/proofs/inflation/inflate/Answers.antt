-- Each block finds room, and the inflation of words is a word.
use Rattle.std.proofs.Common.{◌≡◌, ℕ, ◌+◌, inl, inr, List, ◌++◌, length, get_or, add-one, ap, ◌∙◌, arith}
use Rattle.std.proofs.lemmas.Bool.{cases_eq}
use Rattle.av_perm.specs.Inflate.{joined, raised, points_below, block}
use Rattle.av_perm.proofs.InflationSteps.{joined_more, raise_few, block_room, block_is, inflation_perm}
use Rattle.av_perm.proofs.inflation.inflate.Goals as goal

pub push_raised-requires-clause-room : goal.push_raised-requires-clause-room
push_raised-requires-clause-room c =
    omega (
      arith,
      ap length c.loop-i.invariant.items,
      block_room c.args.root.now c.args.blocks.now c.loop-i.i (omega arith),
      ap (λ (a : List ℕ). length a) (block_is c.args.blocks.now c.loop-i.i c.index-blocks-i.result (omega arith) c.index-blocks-i.is),
      c.requires.few,
    )

pub push_raised-requires-clause-low : goal.push_raised-requires-clause-low
push_raised-requires-clause-low c =
    omega (
      arith,
      c.raise_of-raise.ensures,
      raise_few c.args.root.now c.args.blocks.now c.loop-i.i (omega arith) (omega arith),
      ap (λ (a : List ℕ). length a) (block_is c.args.blocks.now c.loop-i.i c.index-blocks-i.result (omega arith) c.index-blocks-i.is),
      c.requires.few,
    )

-- one more block, raised
appended : (π : List ℕ) (αs : List (List ℕ)) (i r : ℕ) (old new a : List ℕ) → old ≡ joined (λ k. raised (points_below (get_or π k 0) π αs) (block αs k)) i
    → new ≡ old ++ raised r a → r ≡ points_below (get_or π i 0) π αs → a ≡ block αs i → new ≡ joined (λ k. raised (points_below (get_or π k 0) π αs) (block αs k)) (i + 1)
appended π αs i r old new a eo en er ea =
    en ∙ rw (eo, er, ea, add-one i) (joined_more i (λ k. raised (points_below (get_or π k 0) π αs) (block αs k)))

pub loop-i-preserved : goal.loop-i-preserved
loop-i-preserved c =
    let here : c.index-blocks-i.result ≡ block c.args.blocks.now c.loop-i.i = block_is c.args.blocks.now c.loop-i.i c.index-blocks-i.result (omega arith) c.index-blocks-i.is in
    record {
      items = appended c.args.root.now c.args.blocks.now c.loop-i.i c.raise_of-raise.result c.loop-i.entries.items c.push_raised.new.entries.items c.index-blocks-i.result
          c.loop-i.invariant.items c.push_raised.ensures.items c.raise_of-raise.ensures here;
      words = λ k h. elim (cases_eq k c.loop-i.i) [
        | inl e ↦ rw (e, ← here) c.push_raised.ensures.block
        | inr ne ↦ c.loop-i.invariant.words k (omega arith)
      ];
    }

pub from_word-requires : goal.from_word-requires
from_word-requires c =
    let e : c.loop-i.i ≡ length c.args.root.now = omega arith in
    rw (c.loop-i.invariant.items, e)
    (inflation_perm c.args.root.now c.args.blocks.now c.len-i-end.ensures.word c.requires.count (λ i h. c.loop-i.invariant.words i (omega arith)) c.requires.few)
