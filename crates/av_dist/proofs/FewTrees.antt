-- No equation of a system whose names are right has more trees of a size m, of at most 24, than 25 ^ m. The trees have different
-- words of m entries for their values, and read as numerals to the base 25 these are different numbers below 25 ^ m.
use Rattle.std.proofs.Common.{◌≡◌, ◌≢◌, ℕ, ◌+◌, ◌<◌, ◌≤◌, length, get_or, ap, ◌∙◌, arith, Some}
use Rattle.std.proofs.lemmas.Option.{slice_get-get_or}
use Rattle.av_perm.proofs.Membership.{In_at}
use Rattle.av_perm.proofs.ListLaws.{once_place}
use Rattle.av_sys.specs.declared.terms.System.{System}
use Rattle.av_sys.specs.Terms.{IsWellFormed}
use Rattle.av_sys.specs.Trees.{Tree, none, value}
use Rattle.av_sys.specs.TreeLists.{trees, count_at}
use Rattle.av_sys.specs.Exact.{NamedUpTo}
use Rattle.av_sys.specs.Laws.{IsTreeOfSize}
use Rattle.av_sys.proofs.TreesOnce.{trees_law}
use Rattle.av_tree.proofs.TreeWords.{tree_word}
use Rattle.av_text.specs.declared.limits.TheConstants.{MAX_DISTRIBUTION_LENGTH}
use Rattle.av_dist.specs.Tables.{HasFewTrees}
use Rattle.av_dist.proofs.Numerals.{HasDigits, few_by_digits}

-- the trees of an equation of a size, by their places in the list of them
abbrev tree_at : System → ℕ → ℕ → ℕ → Tree
tree_at S u m s = get_or (trees S u m) s (record { term = 0; subtrees = none })

tree_is : (S : System) → IsWellFormed S → (u m s : ℕ) → s < length (trees S u m) → IsTreeOfSize S u m (tree_at S u m s)
tree_is S f u m s h = ((trees_law S u m f).listed.members (tree_at S u m s)).0 (In_at (trees S u m) s (record { term = 0; subtrees = none }) h)

-- the value of each is a word of this length, made of digits to the base 25
tree_digits : (S : System) → IsWellFormed S → (u m s : ℕ) → m ≤ MAX_DISTRIBUTION_LENGTH → s < length (trees S u m)
    → HasDigits (MAX_DISTRIBUTION_LENGTH + 1) m (value S u (tree_at S u m s))
tree_digits S f u m s few h =
    let t = tree_is S f u m s h in
    let w = tree_word S f u (tree_at S u m s) t.tree in
    let l = w.long ∙ t.sized in
    record { long = l; digits = λ r k. let b = (w.word.numbers.within r k).1 in omega arith }

-- two places have different values
values_apart : (S : System) → IsWellFormed S → (u m n s t : ℕ) → m ≤ n → NamedUpTo S n
    → s < t → t < length (trees S u m) → value S u (tree_at S u m s) ≢ value S u (tree_at S u m t)
values_apart S f u m n s t l names less within same =
    let d : Tree = record { term = 0; subtrees = none } in
    let p = tree_is S f u m s (omega arith) in
    let q = tree_is S f u m t within in
    let one = names.once u (tree_at S u m s) (tree_at S u m t) p.tree q.tree (omega (arith, p.sized)) (omega (arith, q.sized)) same in
    let place : s ≡ t =
    once_place (trees S u m) s t (tree_at S u m t) (trees_law S u m f).listed.once
    (slice_get-get_or (trees S u m) s d (omega arith) ∙ ap (λ (T : Tree). Some T) one) (slice_get-get_or (trees S u m) t d within) in
    omega arith

pub few_trees : (S : System) → IsWellFormed S → (n : ℕ) → n ≤ MAX_DISTRIBUTION_LENGTH → NamedUpTo S n → HasFewTrees S n
unfolding count_at
few_trees S f n few names u m l =
    few_by_digits (MAX_DISTRIBUTION_LENGTH + 1) m (length (trees S u m)) (λ s. value S u (tree_at S u m s))
    (λ s h. tree_digits S f u m s (omega arith) h)
    (λ s t less within. values_apart S f u m n s t l names less within)
