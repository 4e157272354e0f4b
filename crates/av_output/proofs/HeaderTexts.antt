-- The header and the system of a class, as the text of a claim.
use Rattle.std.proofs.Common.{◌≡◌, ℕ, ◌-◌, ◌≤◌, true, List, ◌++◌, Option, Some, None, codes, decimal, append_assoc, refl, ap, ◌∙◌, arith}
use Rattle.av_perm.specs.Lists.{counting}
use Rattle.av_simple.specs.Searched.{Searched, gap_of, last_by, last_of}
use Rattle.av_print.specs.Text.{◌⊹◌, words_text}
use Rattle.av_print.specs.Systems.{system_text}
use Rattle.av_sys.specs.declared.terms.System.{System}
use Rattle.av_check.specs.ClaimLaws.{Shown, IsShown, IsUnbroken, passed_text, required_text, text_of_claim}
use Rattle.av_print.proofs.Tokens.{pass_both}
use Rattle.av_session.specs.declared.subject.United.{United}
use Rattle.av_session.specs.declared.subject.Subject.{Subject}
use Rattle.av_session.specs.Due.{levels_text, union_text, require_text, header_text, settled_header}
use Rattle.av_output.proofs.LineBytes.{stays, none_breaks, decimal_stays, words_stay, HasLevels, levels_begin}

-- the line of the two lists of a union, as a line that is passed over
union_rest : Option United → Option (List ℕ)
union_rest None = None
union_rest (Some lists) = Some (words_text lists.first ⊹ codes " with " ⊹ words_text lists.second)

union_is : (lists : Option United) → union_text lists ≡ passed_text (codes "union ") (union_rest lists)
unfolding union_rest
union_is None = refl
union_is (Some lists) = group (words_text lists.first) (words_text lists.second)
  where
    group : (f s : List ℕ) → codes "union " ++ (f ++ (codes " with " ++ (s ++ codes "\n"))) ≡ codes "union " ++ ((f ++ (codes " with " ++ s)) ++ codes "\n")
    group f s = simp append_assoc

union_unbroken : (lists : Option United) → IsUnbroken (union_rest lists)
unfolding union_rest
union_unbroken None = tt
union_unbroken (Some lists) =
    let second : List ℕ = codes " with " ⊹ words_text lists.second in
    none_breaks (words_text lists.first ⊹ second)
    (pass_both stays (words_text lists.first) second (words_stay lists.first) (pass_both stays (codes " with ") (words_text lists.second) refl (words_stay lists.second)))

-- the line of the required words
require_is : (required : Option (List (List ℕ))) → require_text required ≡ required_text required
require_is None = refl
require_is (Some ws) = refl

-- the line of the numbers of simple words, where a gap was found
levels_of : (found : Searched) (g : ℕ) → gap_of found ≡ Some g → 4 ≤ g → HasLevels found.basis (counting 4 (last_of found - 3))
levels_of found g e h = levels_begin found.basis (last_of found - 3) (omega (arith, ap (last_by found.limit) e))

-- what the header shows beside the claim
pub shown_of : Option United → List ℕ → ℕ → Shown
shown_of united levels g = record { version = true; union = union_rest united; simples = Some levels; gap = Some (decimal g) }

-- the header and the text of a system are the text of a claim, whatever follows
pub record IsClaimText (version : ℕ) (subject : Subject) (g : ℕ) (S : System) : Type 0 where
  pub shown : Shown
  pub unbroken : IsShown shown
  pub text : (others : List ℕ) → settled_header subject g ⊹ system_text version S ⊹ others
      ≡ text_of_claim version shown (record { basis = subject.found.basis; require = subject.require; system = S }) ⊹ others

-- each piece in its place
group_header : (a u b w n r s l k g d c o : List ℕ)
    → ((a ++ (u ++ (b ++ (w ++ (n ++ (r ++ (s ++ (l ++ k)))))))) ++ (g ++ (d ++ k))) ++ (c ++ o) ≡ (a ++ (u ++ (b ++ (w ++ (n ++ (r ++ ((s ++ (l ++ k)) ++ ((g ++ (d ++ k)) ++ c)))))))) ++ o
group_header a u b w n r s l k g d c o = simp append_assoc

pub header_is : (version : ℕ) (subject : Subject) (g : ℕ) (S : System) → gap_of subject.found ≡ Some g → 4 ≤ g → IsClaimText version subject g S
unfolding shown_of text_of_claim settled_header header_text
header_is version subject g S e h = record {
  shown = shown_of subject.united levels.rest g;
  unbroken = record {
    in_union = union_unbroken subject.united;
    in_simples = none_breaks levels.rest levels.stay;
    in_gap = none_breaks (decimal g) (decimal_stays g);
  };
  text = λ others.
      group_header (codes "permspec 1\n") (union_text subject.united) (codes "basis ") (words_text subject.found.basis) (codes "\n") (require_text subject.require)
      (codes "simples") (levels_text subject.found) (codes "\n") (codes "gap ") (decimal g) (system_text version S) others
      ∙ rw (union_is subject.united, require_is subject.require, levels.is) refl;
}
  where
    levels : HasLevels subject.found.basis (counting 4 (last_of subject.found - 3))
    levels = levels_of subject.found g e h
