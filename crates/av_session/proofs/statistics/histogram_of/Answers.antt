-- The members are few, and the words of the lister's items are all of them.
use Rattle.std.proofs.Common.{◌≡◌, ◌<◌, ◌^◌, ℕ, List, length, subst, sym, ap, ◌∙◌}
use Rattle.std.specs.Prelude.{IfOk}
use Rattle.av_perm.specs.declared.StatKind.{StatKind}
use Rattle.av_sys.specs.declared.terms.System.{System}
use Rattle.av_sys.specs.TreeLists.{members}
use Rattle.av_count.proofs.ClassMembers.{members_law}
use Rattle.av_list.specs.Items.{items_from}
use Rattle.av_bars.specs.declared.bars.Bar.{Bar}
use Rattle.av_bars.specs.Histograms.{bars}
use Rattle.av_stat.specs.Listed.{words_of}
use Rattle.av_session.specs.Classes.{required_of}
use Rattle.av_session.proofs.FewMembers.{few_members}
use Rattle.av_session.proofs.Picks.{words_of_items, few_items}
use Rattle.av_session.proofs.statistics.histogram_of.Goals as goal

pub histogram-requires-clause-few : goal.histogram-requires-clause-few
histogram-requires-clause-few c =
    let class = c.args.class.now in
    let all = (members_law class.system class.subject.found.basis (required_of class.subject) c.args.n c.system.ensures.class.form c.system.ensures.class.exact c.requires.least).listed in
    let few = few_items (members class.system c.args.n) (few_members class.subject.found.basis (required_of class.subject) (members class.system c.args.n) c.args.n c.requires.short all) in
    subst (λ (items : List (ℕ × List ℕ)). length items < 2 ^ 64) (sym (c.in_ok-lister.ensures ∙ ap (λ (S : System). items_from 0 (members S c.args.n)) c.system.ensures.value)) few

pub returns : goal.returns
returns c =
    let class = c.args.class.now in
    let all = (members_law class.system class.subject.found.basis (required_of class.subject) c.args.n c.system.ensures.class.form c.system.ensures.class.exact c.requires.least).listed in
    let whole = words_of_items (members class.system c.args.n) (few_members class.subject.found.basis (required_of class.subject) (members class.system c.args.n) c.args.n c.requires.short all) in
    let items = c.in_ok-lister.ensures ∙ ap (λ (S : System). items_from 0 (members S c.args.n)) c.system.ensures.value in
    let kind : c.new-stat.result.kind ≡ c.args.kind = c.new-stat.ensures.kind in
    subst (λ (ws : List (List ℕ)). IfOk c.histogram.result (λ (bs : List Bar). bs ≡ bars c.args.kind ws)) (ap words_of items ∙ whole)
    (subst (λ (k : StatKind). IfOk c.histogram.result (λ (bs : List Bar). bs ≡ bars k (words_of c.in_ok-lister.lister))) kind c.histogram.ensures)
