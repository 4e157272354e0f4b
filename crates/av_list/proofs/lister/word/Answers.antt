-- What is written is the word of the vertices in order.
use Rattle.std.proofs.Common.{◌≡◌, [], ◌∷◌, true, refl, subst, sym, ap, ◌∙◌}
use Rattle.std.specs.Result.{IfOk}
use Rattle.av_perm.specs.Word.{is_perm}
use Rattle.av_list.specs.Derivations.{Completes}
use Rattle.av_list.specs.Words.{word_of}
use Rattle.av_list.proofs.Rooms.{derives_completes}
use Rattle.av_list.proofs.Listings.{placed_is}
use Rattle.av_list.proofs.lister.word.Goals as goal

pub entries-written-requires-clause-completes : goal.entries-written-requires-clause-completes
entries-written-requires-clause-completes c =
    subst (λ n. Completes c.args.system.now (record { equation = 0; size = n } ∷ []) c.vertices.result.now) (sym c.size.ensures)
    (subst (λ z. Completes c.args.system.now (record { equation = 0; size = c.args.derivation.now.size } ∷ []) z) (placed_is c.args.derivation.now.placed ∙ sym c.vertices.ensures)
    (derives_completes c.args.system.now c.args.derivation.now.size c.args.derivation.now.placed [] [] c.requires.derives refl))

pub unwrap-requires : goal.unwrap-requires
unwrap-requires c =
    c.from_entries.ensures.which.1 (subst (λ z. is_perm z ≡ true) (ap (word_of c.args.system.now) (placed_is c.args.derivation.now.placed ∙ sym c.vertices.ensures) ∙ sym c.entries-written.ensures ∙ sym c.as_slice.ensures.value) c.requires.word)

pub returns : goal.returns
returns c =
    let w : c.unwrap.result ≡ c.as_slice.result.now = subst (λ o. IfOk o (λ word. word ≡ c.as_slice.result.now)) c.unwrap.ensures c.from_entries.ensures.word in
    w ∙ c.as_slice.ensures.value ∙ c.entries-written.ensures ∙ ap (word_of c.args.system.now) (c.vertices.ensures ∙ sym (placed_is c.args.derivation.now.placed))
