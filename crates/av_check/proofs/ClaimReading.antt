-- A text is a claim in one way, or has one fault.
use Rattle.std.proofs.Common.{◌≡◌, ◌⊎◌, inl, inr, ℕ, zero, suc, ◌<◌, ◌≤◌, List, [], ◌∷◌, ◌++◌, length, Option, Some, None, codes, refl, sym, ap, subst, ◌∙◌, append_assoc, append-nil, arith}
use Rattle.std.proofs.lemmas.Bool.{cases_lt}
use Rattle.av_text.specs.declared.kind.Kind.{Kind}
use Rattle.av_text.specs.declared.kind.Kind.TheVariants.{TooLong, BadClaim}
use Rattle.av_text.specs.declared.limits.TheConstants.{MAX_PATTERNS}
use Rattle.av_text.specs.Lines.{script_lines}
use Rattle.av_print.specs.Systems.{terms_count}
use Rattle.av_check.specs.declared.claim.Claim.{Claim}
use Rattle.av_check.specs.declared.limits.TheConstants.{MAX_CLAIM_BYTES}
use Rattle.av_check.specs.Claims.{ArePatterns, TellsRequired, AreClaimLines, IsClaim, AreAsDemanded, IsFirstFault, IsFault, IsRefused}
use Rattle.av_check.specs.ClaimLaws.{IsWithinLimits, ClaimLaw}
use Rattle.av_check.specs.Verdicts.{words_or_none}
use Rattle.av_check.proofs.ClaimLines.{claim_once}
use Rattle.av_check.proofs.Demanded.{demanded_first}

-- a text is one claim
one : (bytes : List ℕ) (c d : Claim) → IsClaim bytes c → IsClaim bytes d → c ≡ d
one bytes c d is was =
    (claim_once c d (terms_count c.system.equations) (terms_count d.system.equations) is.front was.front (codes "end" ∷ is.others) (codes "end" ∷ was.others) is.told was.told
    (sym is.lines ∙ was.lines)).0

-- two places in a list: one lies before the other, or they are one
two_places : {X : Type 0} (a b u v : List X) (x y : X) → a ++ x ∷ u ≡ b ++ y ∷ v
    → ((r : List X) × (b ≡ a ++ x ∷ r)) ⊎ (((a ≡ b) × (x ≡ y)) ⊎ ((r : List X) × (a ≡ b ++ y ∷ r)))
two_places [] [] u v x y e = inr (inl (refl, cc))
two_places [] (z ∷ b) u v x y e = let h : x ≡ z = cc in inl (b, ap (λ k. k ∷ b) (sym h))
two_places (z ∷ a) [] u v x y e = let h : z ≡ y = cc in inr (inr (a, ap (λ k. k ∷ a) h))
two_places {X} (z ∷ a) (w ∷ b) u v x y e = by (two_places a b u v x y cc)
  where
    h : z ≡ w
    h = cc

    by : ((r : List X) × (b ≡ a ++ x ∷ r)) ⊎ (((a ≡ b) × (x ≡ y)) ⊎ ((r : List X) × (a ≡ b ++ y ∷ r)))
        → ((r : List X) × (w ∷ b ≡ z ∷ (a ++ x ∷ r))) ⊎ (((z ∷ a ≡ w ∷ b) × (x ≡ y)) ⊎ ((r : List X) × (z ∷ a ≡ w ∷ (b ++ y ∷ r))))
    by (inl (r, f)) = inl (r, cc)
    by (inr (inl (f, g))) = inr (inl (cc, g))
    by (inr (inr (r, f))) = inr (inr (r, cc))

-- the first of lines that are as demanded are so
demanded_front : (a b : List (List ℕ)) → AreAsDemanded (a ++ b) → AreAsDemanded a
demanded_front a b d = record {
  claim = d.claim;
  terms = d.terms;
  others = b ++ d.others;
  told = subst (AreClaimLines d.claim d.terms) (append_assoc a b d.others) d.told;
}

-- lines of a claim and of another that goes on after its end
none_after : (c : Claim) (n : ℕ) (front x : List (List ℕ)) (line : List ℕ) → AreClaimLines c n front → AreAsDemanded (front ++ line ∷ x) → ⊥
none_after c n front x line t d =
    let r = claim_once c d.claim n d.terms front ((front ++ line ∷ x) ++ d.others) (line ∷ (x ++ d.others)) [] t d.told
    (sym (append_assoc front (line ∷ x) d.others) ∙ sym (append-nil _)) in
    cc

-- a claim has no fault
no_first_fault : (lines : List (List ℕ)) (c : Claim) (front others : List (List ℕ)) (k : ℕ) → lines ≡ front ++ codes "end" ∷ others
    → AreClaimLines c (terms_count c.system.equations) front → IsFirstFault lines k → ⊥
no_first_fault lines c front others k cut t f = by (two_places front f.front others f.others (codes "end") f.line (sym cut ∙ f.in_order))
  where
    by : ((r : List (List ℕ)) × (f.front ≡ front ++ codes "end" ∷ r)) ⊎ (((front ≡ f.front) × (codes "end" ≡ f.line)) ⊎ ((r : List (List ℕ)) × (front ≡ f.front ++ f.line ∷ r))) → ⊥
    by (inl (r, e)) = none_after c (terms_count c.system.equations) front r (codes "end") t (subst AreAsDemanded e f.demanded)
    by (inr (inl (e, g))) = f.no_end (record { claim = c; told = subst (AreClaimLines c (terms_count c.system.equations)) e t; text = sym g })
    by (inr (inr (r, e))) = f.fault (record {
      claim = c;
      terms = terms_count c.system.equations;
      others = r;
      told = subst (AreClaimLines c (terms_count c.system.equations)) (e ∙ sym (append_assoc f.front (f.line ∷ []) r)) t;
    })

apart : (bytes : List ℕ) (c : Claim) (line : ℕ) (kind : Kind) → IsClaim bytes c → IsRefused bytes line kind → ⊥
apart bytes c line TooLong is r = let s = is.short in omega (arith, r.0)
apart bytes c zero BadClaim is r =
    none_after c (terms_count c.system.equations) is.front is.others (codes "end") is.told (subst AreAsDemanded is.lines r.1)
apart bytes c (suc line) BadClaim is r = no_first_fault (script_lines bytes) c is.front is.others line is.lines is.told r.1
apart bytes c line kind is r = absurd r

-- there is one fault
fault_once : (lines : List (List ℕ)) (l m : ℕ) → IsFault lines l → IsFault lines m → l ≡ m
fault_once lines zero zero f g = refl
fault_once lines zero (suc m) f g =
    absurd (g.fault (demanded_front (g.front ++ g.line ∷ []) g.others (subst AreAsDemanded (g.in_order ∙ sym (append_assoc g.front (g.line ∷ []) g.others)) f)))
fault_once lines (suc l) zero f g =
    absurd (f.fault (demanded_front (f.front ++ f.line ∷ []) f.others (subst AreAsDemanded (f.in_order ∙ sym (append_assoc f.front (f.line ∷ []) f.others)) g)))
fault_once lines (suc l) (suc m) f g = by (two_places f.front g.front f.others g.others f.line g.line (sym f.in_order ∙ g.in_order))
  where
    by : ((r : List (List ℕ)) × (g.front ≡ f.front ++ f.line ∷ r)) ⊎ (((f.front ≡ g.front) × (f.line ≡ g.line)) ⊎ ((r : List (List ℕ)) × (f.front ≡ g.front ++ g.line ∷ r))) → suc l ≡ suc m
    by (inl (r, e)) = absurd (f.fault (demanded_front (f.front ++ f.line ∷ []) r (subst AreAsDemanded (e ∙ sym (append_assoc f.front (f.line ∷ []) r)) g.demanded)))
    by (inr (inl (e, h))) = omega (arith, ap length e, f.before, g.before)
    by (inr (inr (r, e))) = absurd (g.fault (demanded_front (g.front ++ g.line ∷ []) r (subst AreAsDemanded (e ∙ sym (append_assoc g.front (g.line ∷ []) r)) f.demanded)))

-- the two kinds
refused_kinds : (bytes : List ℕ) (line : ℕ) (kind : Kind) → IsRefused bytes line kind
    → ((kind ≡ TooLong) × (MAX_CLAIM_BYTES < length bytes) × (line ≡ 0)) ⊎ ((kind ≡ BadClaim) × (length bytes ≤ MAX_CLAIM_BYTES) × IsFault (script_lines bytes) line)
refused_kinds bytes line TooLong r = inl (refl, r.0, r.1)
refused_kinds bytes line BadClaim r = inr (refl, r.0, r.1)
refused_kinds bytes line kind r = absurd r

one_fault : (bytes : List ℕ) (l m : ℕ) (j k : Kind) → IsRefused bytes l j → IsRefused bytes m k → (l ≡ m) × (j ≡ k)
one_fault bytes l m j k f g = by (refused_kinds bytes l j f) (refused_kinds bytes m k g)
  where
    by : ((j ≡ TooLong) × (MAX_CLAIM_BYTES < length bytes) × (l ≡ 0)) ⊎ ((j ≡ BadClaim) × (length bytes ≤ MAX_CLAIM_BYTES) × IsFault (script_lines bytes) l)
        → ((k ≡ TooLong) × (MAX_CLAIM_BYTES < length bytes) × (m ≡ 0)) ⊎ ((k ≡ BadClaim) × (length bytes ≤ MAX_CLAIM_BYTES) × IsFault (script_lines bytes) m)
        → (l ≡ m) × (j ≡ k)
    by (inl p) (inl q) = (p.2 ∙ sym q.2, p.0 ∙ sym q.0)
    by (inl p) (inr q) = absurd (omega (arith, p.1, q.1))
    by (inr p) (inl q) = absurd (omega (arith, p.1, q.1))
    by (inr p) (inr q) = (fault_once (script_lines bytes) l m p.2 q.2, p.0 ∙ sym q.0)

-- a claim is within the limits
few_required : (needed : Option (List (List ℕ))) (lines : List (List ℕ)) → TellsRequired needed lines → (length (words_or_none needed) ≤ MAX_PATTERNS) × ArePatterns (words_or_none needed)
few_required None lines t = (omega arith, λ w i. absurd i)
few_required (Some ws) [] t = absurd t
few_required (Some ws) (l ∷ []) t = (t.few, t.patterns)
few_required (Some ws) (l ∷ m ∷ ls) t = absurd t

limits : (bytes : List ℕ) (c : Claim) → IsClaim bytes c → IsWithinLimits c
limits bytes c is =
    let f = is.told.are_first in
    let s = is.told.are_others in
    let r = few_required c.require f.require f.is_require in
    record {
      few_words = f.is_basis.few;
      few_required = r.0;
      basis_words = f.is_basis.patterns;
      words_required = r.1;
      formed = s.formed;
      named = s.named;
      small = s.are_counts.few;
    }

-- a text whose first lines are as demanded: a line that isn't is the fault, or the one that ends the claim
from_front : (bytes : List ℕ) → length bytes ≤ MAX_CLAIM_BYTES → ((claim : Claim) → IsClaim bytes claim → ⊥) → ((line : ℕ) (kind : Kind) → IsRefused bytes line kind → ⊥)
    → (others front : List (List ℕ)) → script_lines bytes ≡ front ++ others → AreAsDemanded front → ⊥
from_front bytes short no_claim no_fault [] front e d = no_fault 0 BadClaim (short, subst AreAsDemanded (sym (append-nil front) ∙ sym e) d)
from_front bytes short no_claim no_fault (line ∷ others) front e d = no_fault (suc (length front)) BadClaim (
  short,
  record {
    front = front;
    line = line;
    others = others;
    in_order = e;
    before = refl;
    demanded = d;
    fault = from_front bytes short no_claim no_fault others (front ++ line ∷ []) (e ∙ sym (append_assoc front (line ∷ []) others));
    no_end = λ end. no_claim end.claim (record { short = short; front = front; others = others; lines = e ∙ ap (λ (l : List ℕ). front ++ l ∷ others) end.text; told = end.told });
  },
)

some : (bytes : List ℕ) → ((claim : Claim) → IsClaim bytes claim → ⊥) → ((line : ℕ) (kind : Kind) → IsRefused bytes line kind → ⊥) → ⊥
some bytes no_claim no_fault = elim (cases_lt MAX_CLAIM_BYTES (length bytes)) [
  | inl long ↦ no_fault 0 TooLong (long, refl)
  | inr short ↦ from_front bytes (omega (arith, short)) no_claim no_fault (script_lines bytes) [] refl (demanded_first [] [] tt tt)
]

pub claim_law : ClaimLaw
claim_law = record { one = one; apart = apart; one_fault = one_fault; some = some; limits = limits }
