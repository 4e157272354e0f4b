-- The row of an equation: there is room for the numbers of all its terms, and added to a row of 0 they are the row.
use Rattle.std.proofs.Common.{◌≡◌, inl, inr, ℕ, zero, suc, cond, false, ◌+◌, ◌*◌, ◌<◌, ◌≤◌, ◌^◌, List, [], ◌∷◌, length, refl, sym, ap, ap₂, ◌∙◌, subst, arith, nat_eq, replicate}
use Rattle.std.proofs.lemmas.Bool.{cases_lt}
use Rattle.std.proofs.lemmas.List.{get_or_past, length-replicate}
use Rattle.std.proofs.lemmas.List.Sums.{count_by-le-length}
use Rattle.av_perm.specs.Relations.{at}
use Rattle.av_sys.specs.declared.terms.System.{System}
use Rattle.av_sys.specs.Terms.{terms_at, IsWellFormed}
use Rattle.av_text.specs.declared.limits.TheConstants.{MAX_DISTRIBUTION_LENGTH}
use Rattle.av_dist.specs.Kinds.{statistics_at}
use Rattle.av_dist.specs.Rows.{how_often, IsRowOf, HasRoomFor, Adds, width}
use Rattle.av_dist.specs.Tables.{Stands, HasFewTrees, most_words}
use Rattle.av_dist.proofs.HowOften.{how_often_cons}
use Rattle.av_dist.proofs.RowProducts.{at_zeros}
use Rattle.av_dist.proofs.FewWords.{one_few}
use Rattle.av_dist.proofs.MemberStatistics.{length_statistics, of_terms, statistics_by_terms, none_past}

-- a row of 0 has room for all
pub zeros_room : (s : Stands) (S : System) → s.system ≡ S → IsWellFormed S → (u n width : ℕ) (zeros : List ℕ)
    → n ≤ MAX_DISTRIBUTION_LENGTH → HasFewTrees S n → zeros ≡ replicate width 0 → HasRoomFor (how_often (of_terms s S u n (length (terms_at S u)))) zeros
zeros_room s S e f u n width zeros h few z v l =
    let xs = statistics_at s.kind S u n in
    let a : how_often xs v ≤ length xs = count_by-le-length (λ x. nat_eq x v) xs in
    let b = length_statistics s.kind S u n in
    let c = few u n (omega arith) in
    let d : 1 * most_words n ≤ most_words 24 = one_few 0 n h in
    let o : at zeros v ≡ 0 = ap (λ (r : List ℕ). at r v) z ∙ at_zeros width v in
    subst (λ (ys : List ℕ). at zeros v + how_often ys v < 2 ^ 128) (statistics_by_terms s S e f u n) (omega (a, b, c, d, o, arith))

-- the numbers of all terms, added to 0, are the row
pub zeros_row : (s : Stands) (S : System) → s.system ≡ S → IsWellFormed S → (u n : ℕ) (zeros new : List ℕ) → zeros ≡ replicate (width n) 0
    → Adds (how_often (of_terms s S u n (length (terms_at S u)))) zeros new → IsRowOf (statistics_at s.kind S u n) new
zeros_row s S e f u n zeros new z a v =
    let l : length zeros ≡ width n = ap (λ (r : List ℕ). length r) z ∙ length-replicate {A = ℕ} (width n) 0 in
    elim (cases_lt v (length zeros)) [
      | inl m ↦
          a.numbers v m
          ∙ ap₂ (λ x (ys : List ℕ). x + how_often ys v) (ap (λ (r : List ℕ). at r v) z ∙ at_zeros (width n) v) (sym (statistics_by_terms s S e f u n))
          ∙ omega arith
      | inr m ↦ get_or_past new v 0 (let e = a.long in omega arith) ∙ sym (none_past s.kind S f u n v (omega arith))
    ]

-- the row of the one number 0
pub one_row : IsRowOf (0 ∷ []) (1 ∷ [])
one_row zero = refl
one_row (suc v) = sym (how_often_cons (suc v) 0 [] ∙ ap (λ b. cond {A = ℕ} b 1 0 + 0) (other v))
  where
    other : (v : ℕ) → nat_eq 0 (suc v) ≡ false
    other v = grind arith
