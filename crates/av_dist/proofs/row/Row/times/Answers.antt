-- The product is added to a row of 0, and past its end there is nothing to add.
use Rattle.std.proofs.Common.{◌≡◌, inl, inr, ℕ, ◌+◌, List, length, arith, sym, ap, ap₂, ◌∙◌, replicate}
use Rattle.std.proofs.lemmas.Bool.{cases_lt}
use Rattle.std.proofs.lemmas.List.{length-replicate, get_or_past}
use Rattle.av_perm.specs.Relations.{at}
use Rattle.av_dist.specs.Rows.{product, Adds}
use Rattle.av_dist.proofs.RowProducts.{at_zeros, product_past}
use Rattle.av_dist.proofs.row.Row.times.Goals as goal

added_to_zeros : (f g new old : List ℕ) → old ≡ replicate (length f + length g) 0 → Adds (product (length f) 0 f g) old new
    → (v : ℕ) → at new v ≡ product (length f) 0 f g v
added_to_zeros f g new old e a v =
    let z = ap length e ∙ length-replicate {A = ℕ} (length f + length g) 0 in
    let o : at old v ≡ 0 = ap (λ (r : List ℕ). at r v) e ∙ at_zeros (length f + length g) v in
    let l = a.long in
    elim (cases_lt v (length old)) [
      | inl k ↦ a.numbers v k ∙ ap (λ n. n + product (length f) 0 f g v) o ∙ omega arith
      | inr k ↦ get_or_past new v 0 (omega arith) ∙ sym (product_past (length f) 0 f g v (omega arith))
    ]

pub returns : goal.returns
returns c =
    let f = c.args.self.now in
    let g = c.args.other.now in
    let e : c.in_ok-row.row ≡ replicate (length f + length g) 0 = c.in_ok-row.ensures ∙ ap₂ (λ a b. replicate (a + b) 0) c.len.ensures c.len-2.ensures in
    record {
      long = c.add_product.ensures.long ∙ ap length e ∙ length-replicate {A = ℕ} (length f + length g) 0;
      numbers = added_to_zeros f g c.add_product.new.self c.in_ok-row.row e c.add_product.ensures;
    }
