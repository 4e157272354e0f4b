-- What was made is a word.
use Rattle.std.proofs.Common.{◌≡◌, map, true, ap, ◌∙◌, arith, take_all}
use Rattle.std.proofs.lemmas.Bool.{false≢true}
use Rattle.std.specs.List.{insert}
use Rattle.av_perm.specs.Word.{is_perm}
use Rattle.av_perm.proofs.PermWords.{perm_word, perm_to}
use Rattle.av_simple.specs.Extension.{raised_from, insert_point}
use Rattle.av_simple.proofs.Insertions.{inserted_word, inserted_length}
use Rattle.av_simple.proofs.extension.insert_point.Goals as goal

pub unreachable-requires : goal.unreachable-requires
unreachable-requires c =
    let w = c.args.word.now in
    let g = (perm_word c.args.word.now c.len-len.ensures.word).numbers in
    let high = c.requires.high in
    let few = c.requires.few in
    let n = inserted_length c.args.word.now g c.args.place c.args.entry c.requires.within c.requires.low (omega arith) in
    let made : c.as_slice.result.now ≡ insert_point c.args.word.now c.args.place c.args.entry =
    c.as_slice.ensures.value ∙ c.insert.ensures.items
    ∙ ap (λ l. insert l c.args.place c.args.entry) (c.loop-other.invariant ∙ ap (map (raised_from c.args.entry)) (take_all c.loop-other.other-index c.as_slice-other-items.result.now c.loop-other-test.false ∙ c.as_slice-other-items.ensures)) in
    let word = inserted_word c.args.word.now g c.args.place c.args.entry c.requires.within c.requires.low (omega arith) in
    let is : is_perm c.as_slice.result.now ≡ true =
    ap is_perm made ∙ perm_to (insert_point c.args.word.now c.args.place c.args.entry) (record { numbers = word; filled = omega (arith, n) }) (omega (arith, n, few)) in
    absurd (false≢true (c.in-Err.ensures.which.1 is))
