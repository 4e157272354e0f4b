-- The next name of the equations joins the others, and at the end there is none left.
use Rattle.std.proofs.Common.{◌≡◌, ℕ, ◌+◌, ◌-◌, ◌≤◌, [], length, All, slice_get, List, Some, refl, sym, ap, ◌∙◌, subst, arith}
use Rattle.av_perm.specs.declared.limits.TheConstants.{MAX_PATTERN_LENGTH}
use Rattle.av_perm.proofs.Membership.{In, In_at, each_all, all_each}
use Rattle.av_perm.proofs.ListLaws.{get_In}
use Rattle.av_perm.proofs.PermWords.{perms_words}
use Rattle.av_perm.specs.Word.{ArePerms}
use Rattle.av_sys.specs.declared.names.Name.{Name}
use Rattle.av_build.specs.Drafts.{drafts}
use Rattle.av_build.specs.Adding.{HasTerms}
use Rattle.av_build.proofs.ShortNames.{HasShortWords, IsShortOver}
use Rattle.av_build.proofs.Growth.{grown_first, grown_short, grown_next, grown_too_large, grown_whole}
use Rattle.av_build.proofs.building.grow.Goals as goal

-- the copy of the name with a number is the name that the numbering has there
name_read : (names : List Name) {i j : ℕ} {read copy : Name} → i ≡ j → slice_get names i ≡ Some read → copy ≡ read → slice_get names j ≡ Some copy
name_read names {i} {j} {read} {copy} e g f = ap (slice_get names) (sym e) ∙ g ∙ ap Some (sym f)

pub equations-init : goal.equations-init
equations-init c = grown_first c.args.roots.now c.args.name.now _ c.args.limit c.in_ok-names.names c.empty-equations.result c.requires.some c.in_ok-names.ensures c.in_ok-copy.ensures c.empty-equations.ensures

pub push_terms-requires-clause-sized : goal.push_terms-requires-clause-sized
push_terms-requires-clause-sized c k d h =
    let r = c.requires.roots _ (In_at c.args.roots.now k d h) in
    (omega (arith, r.0.long), r.1)

-- a name of such words of at most so many entries, the required ones of two or more
short_name : (name : Name) → ArePerms name.avoid → ArePerms name.require → All (λ w. 2 ≤ length w) name.require
    → All (λ w. length w ≤ MAX_PATTERN_LENGTH) name.avoid → All (λ w. length w ≤ MAX_PATTERN_LENGTH) name.require → IsShortOver [] MAX_PATTERN_LENGTH name
short_name name avoid require long short_avoid short_require = record {
  over = record {
    avoids = perms_words name.avoid avoid;
    requires = perms_words name.require require;
    long = all_each (λ w. 2 ≤ length w) name.require long;
    covers = λ b i. absurd i;
  };
  short = record {
    avoid = all_each (λ w. length w ≤ MAX_PATTERN_LENGTH) name.avoid short_avoid;
    require = all_each (λ w. length w ≤ MAX_PATTERN_LENGTH) name.require short_require;
  };
}

-- the words of the name that was found are no longer than those of the first
found_short : (c : goal.After-terms-1) → HasShortWords MAX_PATTERN_LENGTH c.in_ok-name.name
found_short c =
    grown_short c.args.roots.now c.args.name.now c.args.limit c.equations.names c.equations.equations c.equations.written
    c.equations.invariant [] MAX_PATTERN_LENGTH
    (short_name c.args.name.now c.len-avoid.ensures.words c.len-require.ensures.words c.requires.long c.requires.avoid c.requires.require)
    c.in_ok-name.name (subst (λ n. In n c.equations.names) (sym c.in_ok-name.ensures) (get_In c.equations.names _ c.get.result.now c.get.ensures))

pub push_terms-requires-clause-avoid : goal.push_terms-requires-clause-avoid
push_terms-requires-clause-avoid c = each_all (λ w. length w ≤ MAX_PATTERN_LENGTH) c.in_ok-name.name.avoid (found_short c).avoid

pub push_terms-requires-clause-require : goal.push_terms-requires-clause-require
push_terms-requires-clause-require c = each_all (λ w. length w ≤ MAX_PATTERN_LENGTH) c.in_ok-name.name.require (found_short c).require

pub returns-then-not-branch : goal.returns-then-not-branch
returns-then-not-branch c =
    grown_too_large c.args.roots.now c.args.name.now c.args.limit c.equations.names c.equations.equations c.equations.written c.equations.invariant c.in_ok-name.name
    (name_read c.equations.names c.len-in-equations-2.ensures.value c.get.ensures c.in_ok-name.ensures)
    (subst (HasTerms (c.args.limit - c.equations.written) c.equations.names (drafts c.args.roots.now c.in_ok-name.name) c.push_terms.new.names c.push_terms.new.terms) c.if-not-branch.true
    (c.in_ok-push_terms.ensures.adds.join c.equations.names [] (record { found = refl; numbers = c.empty-terms.ensures })))

pub equations-preserved : goal.equations-preserved
equations-preserved c =
    grown_next c.args.roots.now c.args.name.now c.args.limit c.equations.names c.equations.equations c.equations.written c.equations.invariant c.in_ok-name.name
    c.push_terms.new.names c.push_terms.new.terms c.push.new.self (c.equations.written + c.len-in-equations-3.result)
    (name_read c.equations.names c.len-in-equations-2.ensures.value c.get.ensures c.in_ok-name.ensures)
    (subst (HasTerms (c.args.limit - c.equations.written) c.equations.names (drafts c.args.roots.now c.in_ok-name.name) c.push_terms.new.names c.push_terms.new.terms) c.if-not-branch.false
    (c.in_ok-push_terms.ensures.adds.join c.equations.names [] (record { found = refl; numbers = c.empty-terms.ensures })))
    (c.in_ok-push_terms.ensures.within c.if-not-branch.false)
    c.in_ok-push.ensures.ok
    (ap (λ k. c.equations.written + k) c.len-in-equations-3.ensures)

pub returns : goal.returns
returns c = grown_whole c.args.roots.now c.args.name.now c.args.limit c.equations.names c.equations.equations c.equations.written c.equations.invariant (omega arith)
