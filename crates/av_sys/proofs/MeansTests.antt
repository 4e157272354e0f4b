-- The test of a name tests its meaning.
use Rattle.std.proofs.Common.{◌≡◌, ℕ, ◌↔◌, true, ◌&&◌, List, refl}
use Rattle.std.proofs.lemmas.Bool.{and_parts, and_from}
use Rattle.av_perm.specs.Class.{avoids_all, contains_all}
use Rattle.av_perm.specs.Relations.{IsWord}
use Rattle.av_perm.proofs.Classes.{avoids_from, avoids_to, requires_from, requires_to}
use Rattle.av_perm.proofs.Sums.{sum_law, skew_law}
use Rattle.av_sys.specs.declared.names.Sign.{Sign}
use Rattle.av_sys.specs.declared.names.Sign.TheVariants.{C, P, M}
use Rattle.av_sys.specs.Names.{IsSigned, meets_sign, MeansLaw}

-- the test of a sign tests what it asks
signed_is : (sign : Sign) (σ : List ℕ) → IsWord σ → (meets_sign sign σ ≡ true) ↔ IsSigned sign σ
signed_is C σ w = (λ e. tt, λ s. refl)
signed_is P σ w = sum_law σ w.numbers
signed_is M σ w = skew_law σ w.numbers

-- the test of a name tests its meaning
pub means_law : MeansLaw
means_law name σ w = (
  λ e.
      let a = and_parts (avoids_all name.avoid σ) (contains_all name.require σ && meets_sign name.sign σ) e in
      let b = and_parts (contains_all name.require σ) (meets_sign name.sign σ) a.1 in
      record {
        word = w;
        meets = record { avoids = avoids_from name.avoid σ a.0; contains = requires_from name.require σ b.0 };
        signed = (signed_is name.sign σ w).0 b.1;
      },
  λ m.
      and_from (avoids_all name.avoid σ) (contains_all name.require σ && meets_sign name.sign σ) (avoids_to name.avoid σ m.meets.avoids)
      (and_from (contains_all name.require σ) (meets_sign name.sign σ) (requires_to name.require σ m.meets.contains) ((signed_is name.sign σ w).1 m.signed)),
)
