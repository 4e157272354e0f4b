-- The next word.
use Rattle.std.proofs.Common.{◌≡◌, ◌∙◌, ◌++◌, [], List, ℕ, map, drop, inl, refl, sym, ap, subst, arith, true, Result, append-nil}
use Rattle.std.specs.Bool.{if◌then◌else◌}
use Rattle.std.specs.List.{position, list_any, IsDistinct}
use Rattle.std.specs.Option.{is_some}
use Rattle.av_perm.specs.Lists.{same}
use Rattle.av_perm.specs.Class.{in_shortlex}
use Rattle.std.specs.BTreeSet.{insert_key}
use Rattle.std.specs.Result.{is_ok}
use Rattle.av_perm.specs.Word.{shortlex}
use Rattle.av_perm.specs.Members.{In}
use Rattle.av_perm.proofs.Membership.{append_right}
use Rattle.av_perm.proofs.ShortlexLists.{shortlex_In}
use Rattle.av_match.proofs.Gathered.{at_ok}
use Rattle.av_split.proofs.RowWalks.{sorted_next, numbers_next, numbered, ordered}
use Rattle.av_split.proofs.Numbered.{yielded_next}
use Rattle.av_split.proofs.patterns.Patterns.order.Goals as goal

-- what a push leaves at `Ok`
pushed_at : {T E A : Type 0} (r : Result T E) (new both old : A) → is_ok r ≡ true → new ≡ (if is_ok r then both else old) → new ≡ both
pushed_at r new both old e h = h ∙ ap (λ b. if b then both else old) e

pub loop-i-preserved : goal.loop-i-preserved
loop-i-preserved c =
    let inserted = at_ok _ c.insert.result (sym c.map_err.ensures.variant ∙ ap is_ok c.in_ok-map_err.was) c.insert.ensures.keys in
    sorted_next c.as_slice-words.result.now c.loop-i.sorted.keys c.insert.new.self.keys c.loop-i.i c.index-words-i.result (omega (arith, c.loop-i-test.true)) (omega (arith, c.loop-i-test.true, c.loop-i.auto.i)) c.index-words-i.is
    c.loop-i.invariant (inserted ∙ ap (insert_key shortlex c.loop-i.sorted.keys) c.copy.ensures)

pub loop-word-init : goal.loop-word-init
loop-word-init c = let zero_i : c.loop-i.i ≡ 0 = omega (arith, c.loop-i-test.false) in record {
  all = c.into_iter-word-iterator.ensures.into_iter_gives.0 ∙ c.loop-i.invariant ∙ ap (λ n. in_shortlex (drop n c.as_slice-words.result.now)) zero_i ∙ ap (λ (ws : List (List ℕ)). in_shortlex ws) (c.as_slice-words.ensures.keys ∙ c.self.view_is);
  words = ap (map _) c.new-order.ensures.items;
  within = λ i h. absurd (subst (In i) c.new-order.ensures.items h);
}

pub loop-word-preserved-in-Continue-branch-2 : goal.loop-word-preserved-in-Continue-branch-2
loop-word-preserved-in-Continue-branch-2 c =
    let r =
    numbers_next c.args.self.now c.loop-word.order.items c.push.new.self.items c.in-Some-get_index_of.i c.in-Some.word c.loop-word.yielded
    (ap (position (same c.in-Some.word)) (sym c.self.view_is) ∙ sym c.get_index_of.ensures.index ∙ c.in-Some-get_index_of.is)
    (pushed_at c.push.result c.push.new.self.items _ _ (sym c.map_err-in-Some-get_index_of.ensures.variant ∙ ap is_ok c.in_ok-map_err-2.was) c.push.ensures.items)
    c.loop-word.invariant.words c.loop-word.invariant.within
    in
    record {
      all = yielded_next c.loop-word.yielded c.loop-word.word-iterator c.next.new.self _ c.in-Some.word c.loop-word.invariant.all c.in-Some.ensures.steps;
      words = r.0;
      within = r.1;
    }

pub loop-word-preserved : goal.loop-word-preserved
loop-word-preserved c =
    absurd (numbered c.args.self.now c.in-Some.word (is_some c.get_index_of.result)
    (shortlex_In c.args.self.now c.in-Some.word (subst (In c.in-Some.word) c.loop-word.invariant.all (append_right c.loop-word.yielded c.loop-word.word-iterator c.in-Some.word (subst (In c.in-Some.word) (sym c.in-Some.ensures.steps) (inl refl)))))
    (c.get_index_of.ensures.found ∙ ap (list_any (same c.in-Some.word)) c.self.view_is) (ap is_some c.in_default.is))

pub returns : goal.returns
returns c =
    let ended : c.loop-word.word-iterator ≡ [] = (c.in-None.ensures.steps).0 in
    ordered c.args.self.now c.loop-word.order.items (subst (IsDistinct same) c.self.view_is c.as_slice-words.ensures.unique)
    (c.loop-word.invariant.words ∙ sym (append-nil c.loop-word.yielded) ∙ ap (λ (l : List (List ℕ)). c.loop-word.yielded ++ l) (sym ended) ∙ c.loop-word.invariant.all) c.loop-word.invariant.within
