-- At place 0 the first size that leaves trees is the one.
use Rattle.std.proofs.Common.{◌≡◌, ◌<◌, ◌+◌, ◌*◌, ℕ, arith, ap, subst, ◌∙◌}
use Rattle.av_list.proofs.Products.{both_some, left_some}
use Rattle.av_list.proofs.sizes.first_size.Goals as goal

-- a product of three numbers above 0 is above 0
all_some : (F a b : ℕ) → 0 < F → 0 < a * b → 0 < F * a * b
all_some F a b p q = subst (λ z. 0 < z) (three F a b) (both_some F (a * b) p q)
  where
    three : (a b c : ℕ) → a * (b * c) ≡ a * b * c
    three a b c = omega arith

pub returns-in-Some : goal.returns-in-Some
returns-in-Some c F h lt = record {
  least = c.in-Some.ensures.low;
  most = c.in-Some.ensures.high;
  place = let e = c.in-Some.ensures.none in ap (λ z. 0 + F * z) e ∙ omega (arith, c.if-r-eq0.true);
  within = all_some F _ _ (left_some F _ c.args.r lt) c.in-Some.ensures.some;
}
