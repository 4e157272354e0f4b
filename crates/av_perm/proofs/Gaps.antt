-- The simple words of a class below a length, and the gap of a class.
use Rattle.std.proofs.Common.{◌≡◌, ℕ, suc, ◌-◌, ◌<◌, ◌≤◌, ◌↔◌, inl, inr, List, length, Bool, true, ◌&&◌, refl, sym, ◌∙◌, arith, lt-ltb, eq-eqb, le-ltb}
use Rattle.std.proofs.lemmas.Bool.{cases_lt, cases_Bool, and_parts, and_from}
use Rattle.std.specs.Cmp.Lexicographic.{slice_cmp}
use Rattle.std.specs.Ordering.{nat_cmp}
use Rattle.std.specs.declared.cmp.Ordering.TheVariants.{Less}
use Rattle.av_perm.specs.Members.{In, IsListOf, Ascending}
use Rattle.av_perm.specs.Lists.{counting, is_nil}
use Rattle.av_perm.specs.Word.{shortlex}
use Rattle.av_perm.specs.WordOrder.{shortlex_total}
use Rattle.av_perm.specs.Gap.{simples, gap, simples_below, IsSettled, IsUnsettled}
use Rattle.av_perm.specs.Laws.{IsSimpleBelow, IsGap, IsLeastGap, GapLaw}
use Rattle.av_perm.proofs.Membership.{In_flat_map, flat_map_In, In_counting, counting_In}
use Rattle.av_perm.proofs.Tests.{any_from, any_to, find_least, least_find, found_any}
use Rattle.av_perm.proofs.Ascending.{once_from_ascending, ascending_also, ascending_flat_map, ascending_counting, less_nat_cmp}
use Rattle.av_perm.proofs.SimpleWords.{simples_are, simples_ascending}
use Rattle.av_perm.proofs.ListLaws.{nil_none, none_nil}

-- shortlex order of words of one length, and of two
shortlex_same : (v w : List ℕ) → length v ≡ length w → slice_cmp nat_cmp v w ≡ Less → shortlex v w ≡ Less
shortlex_same v w e l = rw (e, le-ltb (length w) (length w) (omega arith), eq-eqb (length w) (length w) refl) l

-- a shorter word comes first
shortlex_shorter : (v w : List ℕ) → length v < length w → shortlex v w ≡ Less
shortlex_shorter v w h = rw (lt-ltb (length v) (length w) h) refl

-- the simple words of length below g
below_are : (basis : List (List ℕ)) (g : ℕ) (w : List ℕ) → In w (simples_below basis g) ↔ IsSimpleBelow basis g w
unfolding simples_below
below_are basis g w = (
  λ i.
      let r = In_flat_map (simples basis) (counting 4 (g - 4)) w i in
      let c = In_counting (g - 4) 4 r.0 r.1 in
      let s = (simples_are basis r.0 w).0 r.2 in
      record { simple = s.simple; member = s.member.member; short = omega (arith, s.member.long, c.0, c.1) },
  λ s.
      let l = s.simple.long in
      let h = s.short in
      flat_map_In (simples basis) (counting 4 (g - 4)) (length w) w (counting_In (g - 4) 4 (length w) l (omega arith))
      ((simples_are basis (length w) w).1 (record { simple = s.simple; member = record { member = s.member; long = refl } })),
)

-- they ascend
pub below_ascending : (basis : List (List ℕ)) (g : ℕ) → Ascending shortlex (simples_below basis g)
unfolding simples_below
below_ascending basis g =
    ascending_flat_map nat_cmp shortlex (simples basis) (counting 4 (g - 4)) (ascending_counting (g - 4) 4)
    (λ m i. ascending_also (slice_cmp nat_cmp) shortlex (simples basis m)
    (λ v w j k l. shortlex_same v w (((simples_are basis m v).0 j).member.long ∙ sym ((simples_are basis m w).0 k).member.long) l)
    (simples_ascending basis m))
    (λ m n v w l i j.
    let a = ((simples_are basis m v).0 i).member.long in
    let b = ((simples_are basis n w).0 j).member.long in
    let c = less_nat_cmp m n l in
    shortlex_shorter v w (omega arith))

-- each of them once
pub below_list : (basis : List (List ℕ)) (g : ℕ) → IsListOf (IsSimpleBelow basis g) (simples_below basis g)
below_list basis g = record {
  members = below_are basis g;
  once = once_from_ascending shortlex shortlex_total (simples_below basis g) (below_ascending basis g);
}

-- the test of a gap
abbrev opens : List (List ℕ) → ℕ → Bool
opens basis g = is_nil (simples basis g) && is_nil (simples basis (suc g))

-- where the test passes there is a gap
opens_gap : (basis : List (List ℕ)) (g : ℕ) → 4 ≤ g → opens basis g ≡ true → IsGap basis g
opens_gap basis g h e =
    let a = and_parts (is_nil (simples basis g)) (is_nil (simples basis (suc g))) e in
    record {
      high = h;
      none = λ w s. nil_none (simples basis g) a.0 w ((simples_are basis g w).1 s);
      none_next = λ w s. nil_none (simples basis (suc g)) a.1 w ((simples_are basis (suc g) w).1 s);
    }

-- at a gap the test passes
gap_opens : (basis : List (List ℕ)) (g : ℕ) → IsGap basis g → opens basis g ≡ true
gap_opens basis g p =
    and_from (is_nil (simples basis g)) (is_nil (simples basis (suc g)))
    (none_nil (simples basis g) (λ w i. p.none w ((simples_are basis g w).0 i)))
    (none_nil (simples basis (suc g)) (λ w i. p.none_next w ((simples_are basis (suc g) w).0 i)))

-- a class is settled with its least gap
settled : (basis : List (List ℕ)) (limit g : ℕ) → IsSettled basis limit g ↔ IsLeastGap basis limit g
unfolding gap
settled basis limit g = (
  λ e.
      let r = find_least (opens basis) (limit - 4) 4 g e in
      record {
        gap = opens_gap basis g r.low r.passes;
        within = omega (arith, r.low, r.high);
        least = λ h p. elim (cases_lt h g) [
          | inl l ↦ absurd (let t = gap_opens basis h p in let f = r.least h p.high l in cc)
          | inr l ↦ l
        ];
      },
  λ s.
      least_find (opens basis) (limit - 4) 4 g (record {
        low = s.gap.high;
        high = omega (arith, s.gap.high, s.within);
        passes = gap_opens basis g s.gap;
        least = λ k l m. elim (cases_Bool (opens basis k)) [
          | inl t ↦ absurd (let q = s.least k (opens_gap basis k l t) in omega arith)
          | inr f ↦ f
        ];
      }),
)

-- a class is unsettled where no gap is within the limit
unsettled : (basis : List (List ℕ)) (limit : ℕ) → IsUnsettled basis limit ↔ ((g : ℕ) → IsGap basis g → suc g ≤ limit → ⊥)
unfolding gap
unsettled basis limit =
    let f = found_any (opens basis) (counting 4 (limit - 4)) in (
      λ e g p h. f.0 e (any_to (opens basis) (counting 4 (limit - 4)) g (counting_In (limit - 4) 4 g p.high (omega (arith, p.high))) (gap_opens basis g p)),
      λ n. f.1 (λ t.
          let r = any_from (opens basis) (counting 4 (limit - 4)) t in
          let c = In_counting (limit - 4) 4 r.0 r.1 in
          n r.0 (opens_gap basis r.0 c.0 r.2) (omega (arith, c.0, c.1))),
    )

-- both together
pub gap_law : GapLaw
gap_law = record { settled = settled; unsettled = unsettled }
