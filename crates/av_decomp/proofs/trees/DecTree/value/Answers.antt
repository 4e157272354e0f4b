-- The word of a tree is one that the type of words holds.
use Rattle.std.proofs.Common.{◌≡◌, ℕ, List, [], ◌++◌, true, IfOk, sym, ap, subst, ◌∙◌}
use Rattle.av_perm.specs.Word.{is_perm}
use Rattle.av_perm.specs.Relations.{raised}
use Rattle.av_perm.proofs.PermWords.{perm_to}
use Rattle.av_decomp.specs.Trees.{value}
use Rattle.av_decomp.proofs.FormedTrees.{formed_word, raised_none}
use Rattle.av_decomp.proofs.trees.DecTree.value.Goals as goal

-- what was written
written : (old new entries w : List ℕ) → old ≡ [] → new ≡ old ++ raised 0 w → entries ≡ new → entries ≡ w
written old new entries w eo en ee = ee ∙ en ∙ ap (λ (l : List ℕ). l ++ raised 0 w) eo ∙ raised_none w

pub unwrap-requires : goal.unwrap-requires
unwrap-requires c =
    let f = c.points-points.ensures.formed in
    let e = written c.new-entries.result.items c.push_value.new.entries.items c.as_slice.result.now (value c.args.self.now) c.new-entries.ensures c.push_value.ensures c.as_slice.ensures.value in
    c.from_entries.ensures.which.1 (subst (λ (w : List ℕ). is_perm w ≡ true) (sym e) (perm_to (value c.args.self.now) (formed_word c.args.self.now f) f.few))

pub returns : goal.returns
returns c =
    let e = written c.new-entries.result.items c.push_value.new.entries.items c.as_slice.result.now (value c.args.self.now) c.new-entries.ensures c.push_value.ensures c.as_slice.ensures.value in
    subst (λ r. IfOk r (λ (w : List ℕ). w ≡ c.as_slice.result.now)) c.unwrap.ensures c.from_entries.ensures.word ∙ e
