-- The word written is the one that is listed, and where the place is past the count there is none.
use Rattle.std.proofs.Common.{◌≡◌, [], List, ℕ, get_or, sym, ◌∙◌, subst, arith, true}
use Rattle.std.specs.Result.{IfOk}
use Rattle.av_perm.specs.Word.{is_perm}
use Rattle.av_perm.proofs.PermWords.{perm_to}
use Rattle.av_sys.specs.Terms.{IsWellFormed}
use Rattle.av_sys.specs.TreeLists.{members_at}
use Rattle.av_tree.proofs.TreeWords.{member_word, word_listed, none_listed, past_members, written_first}
use Rattle.av_tree.proofs.writing.unrank.Goals as goal

pub returns-then-is_some : goal.returns-then-is_some
returns-then-is_some c =
    none_listed c.args.system.now c.args.n c.args.r
    ((past_members c.args.system.now c.args.table.now.system c.args.n c.args.r c.get.result c.past.result c.requires.stands c.get.ensures c.past.ensures).0 (sym c.is_some.ensures ∙ c.if-is_some.true))

pub unwrap-requires : goal.unwrap-requires
unwrap-requires c =
    let below = (past_members c.args.system.now c.args.table.now.system c.args.n c.args.r c.get.result c.past.result c.requires.stands c.get.ensures c.past.ensures).1 (sym c.is_some.ensures ∙ c.if-is_some.false) in
    let x = member_word c.args.system.now (subst IsWellFormed c.requires.stands c.largest-largest.ensures.formed) 0 c.args.n c.args.r below in
    c.from_entries.ensures.which.1 (subst (λ (z : List ℕ). is_perm z ≡ true)
    (sym (written_first c.as_slice.result.now c.push_member.new.out.items c.new-out.result.items
    (get_or (members_at c.args.system.now 0 c.args.n) c.args.r []) c.as_slice.ensures.value c.push_member.ensures c.new-out.ensures))
    (perm_to (get_or (members_at c.args.system.now 0 c.args.n) c.args.r []) x.word (omega (arith, x.long, c.requires.most, c.largest-largest.ensures.value, c.largest-largest.ensures.most))))

pub returns : goal.returns
returns c =
    let below = (past_members c.args.system.now c.args.table.now.system c.args.n c.args.r c.get.result c.past.result c.requires.stands c.get.ensures c.past.ensures).1 (sym c.is_some.ensures ∙ c.if-is_some.false) in
    let w : c.unwrap.result ≡ c.as_slice.result.now = subst (λ o. IfOk o (λ word. word ≡ c.as_slice.result.now)) c.unwrap.ensures c.from_entries.ensures.word in
    word_listed c.args.system.now c.args.n c.args.r c.unwrap.result below (w ∙ written_first c.as_slice.result.now c.push_member.new.out.items c.new-out.result.items (get_or (members_at c.args.system.now 0 c.args.n) c.args.r []) c.as_slice.ensures.value c.push_member.ensures c.new-out.ensures)
