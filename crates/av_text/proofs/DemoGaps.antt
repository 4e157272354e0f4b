-- The class of a demo script is settled.
use Rattle.std.proofs.Common.{◌≡◌, ℕ, suc, ◌≤◌, List, [], ◌∷◌, Option, Some, None, refl, arith}
use Rattle.av_perm.specs.Lists.{choices}
use Rattle.av_perm.specs.Members.{In}
use Rattle.av_perm.specs.Word.{arrangements}
use Rattle.av_perm.specs.Contain.{contains}
use Rattle.av_perm.specs.Simple.{is_simple}
use Rattle.av_perm.specs.Gap.{simples, gap, IsSettled}
use Rattle.av_perm.specs.Laws.{IsSimpleOf, IsGap}
use Rattle.av_perm.proofs.Gaps.{gap_law}
use Rattle.av_perm.proofs.Membership.{append_left}
use Rattle.av_text.specs.Demo.{ten_words, demo_word, demo_basis, HasGap}

-- the class of the ten words alone has gap 5
ten_gap : IsSettled ten_words 6 5
unfolding choices arrangements contains is_simple simples gap
ten_gap = refl

-- with more words to avoid a class has no more simple words
module _ (A B : List (List ℕ)) (more : (τ : List ℕ) → In τ A → In τ B) where
  fewer : (m : ℕ) (w : List ℕ) → IsSimpleOf B m w → IsSimpleOf A m w
  fewer m w s = record {
    simple = s.simple;
    member = record {
      member = record { word = s.member.member.word; avoids = λ τ i. s.member.member.avoids τ (more τ i) };
      long = s.member.long;
    };
  }

  gap_stays : (k : ℕ) → IsGap A k → IsGap B k
  unfolding fewer
  gap_stays k p = record { high = p.high; none = λ w s. p.none w (fewer k w s); none_next = λ w s. p.none_next w (fewer (suc k) w s) }

-- so its gap is at most 5
pub demo_gap : (g limit : ℕ) → 6 ≤ limit → HasGap (demo_basis g) limit
demo_gap g limit h = by (gap (demo_basis g) limit) refl
  where
    five : IsGap (demo_basis g) 5
    five = gap_stays ten_words (demo_basis g) (λ τ i. append_left ten_words (demo_word g ∷ []) τ i) 5 ((gap_law.settled ten_words 6 5).0 ten_gap).gap

    by : (o : Option ℕ) → gap (demo_basis g) limit ≡ o → HasGap (demo_basis g) limit
    by None e = absurd ((gap_law.unsettled (demo_basis g) limit).0 e 5 five (omega (arith, h)))
    by (Some k) e = let l = (gap_law.settled (demo_basis g) limit k).0 e in (k, l.least 5 five, l)
