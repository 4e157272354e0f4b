-- The iterator counts what the definition counts.
use Rattle.std.proofs.Common.{◌≡◌, ℕ, ◌+◌, List, [], ◌∷◌, cond, nat_lt, count_by, rules, refl, ap, ◌∙◌}
use Rattle.std.proofs.lemmas.List.Sums.{sum_by-cons}
use Rattle.av_perm.specs.Pattern.{smaller}
use Rattle.av_perm.proofs.pattern.smaller.Goals as goal

smaller_counts : (v : ℕ) (xs : List ℕ) → count_by (λ x. nat_lt x v) xs ≡ smaller v xs
smaller_counts v [] = refl
smaller_counts v (x ∷ xs) = sum_by-cons (λ (y : ℕ). cond {A = ℕ} (nat_lt y v) 1 0) x xs ∙ ap (λ (n : ℕ). cond {A = ℕ} (nat_lt x v) 1 0 + n) (smaller_counts v xs)

pub returns-clause-count : goal.returns-clause-count
returns-clause-count c =
    let e : c.count.result ≡ count_by (λ x. nat_lt x c.args.value) c.args.values.now = search rules in
    e ∙ smaller_counts c.args.value c.args.values.now
