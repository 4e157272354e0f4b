-- The loop over the names of a bare cell.
use Rattle.std.proofs.Common.{◌≡◌, ℕ, inl, inr, List, [], ◌∷◌, Bool, true, false, ◌||◌, cond, Option, Some, None, refl, sym, ap, ◌∙◌, subst}
use Rattle.std.specs.List.{list_any}
use Rattle.av_perm.specs.Members.{In}
use Rattle.av_sys.specs.declared.names.Sign.{Sign}
use Rattle.av_sys.specs.declared.names.Sign.TheVariants.{C}
use Rattle.av_sys.specs.declared.names.Constraint.{Constraint}
use Rattle.av_sys.specs.declared.names.Name.{Name}
use Rattle.av_build.specs.declared.limits.TheConstants.{MAX_SIZE}
use Rattle.av_build.specs.Drafts.{name_of, child_names}
use Rattle.av_build.proofs.RootedTerms.{later_names}
use Rattle.av_check.specs.declared.outcomes.Outcome.{Outcome}
use Rattle.av_check.specs.declared.outcomes.Outcome.TheVariants.{Dead, Alive, TooLarge}
use Rattle.av_check.specs.declared.verdict.Flaw.{Flaw}
use Rattle.av_check.specs.declared.verdict.Flaw.TheVariants.{Lost, Large}
use Rattle.av_check.specs.Verdicts.{is_dead, is_large, bare_flaw}
use Rattle.av_check.specs.Outcomes.{outcome_by, outcome, IsGrowable, flaw_from}

-- at first the flaw is that of all names
flaw_start : (simples : List (List ℕ)) (ns : List Name) → flaw_from Lost simples ns ≡ bare_flaw MAX_SIZE simples ns
flaw_start simples ns = by (list_any (is_dead MAX_SIZE simples) ns) (list_any (is_large MAX_SIZE simples) ns)
  where
    by : (d l : Bool) → cond d None (Some (cond l Large Lost)) ≡ cond d None (cond l (Some Large) (Some Lost))
    by true l = refl
    by false true = refl
    by false false = refl

-- a dead name leaves none, one that is too large leaves that flaw, and one that generates something changes nothing
dead_by : (d l : Bool) → outcome_by d l ≡ Dead → d ≡ true
dead_by true l e = refl
dead_by false true e = absurd (let z : TooLarge ≡ Dead = e in cc)
dead_by false false e = absurd (let z : Alive ≡ Dead = e in cc)

large_by : (d l : Bool) → outcome_by d l ≡ TooLarge → (d ≡ false) × (l ≡ true)
large_by true l e = absurd (let z : Dead ≡ TooLarge = e in cc)
large_by false true e = (refl, refl)
large_by false false e = absurd (let z : Alive ≡ TooLarge = e in cc)

alive_by : (d l : Bool) → outcome_by d l ≡ Alive → (d ≡ false) × (l ≡ false)
alive_by true l e = absurd (let z : Dead ≡ Alive = e in cc)
alive_by false true e = absurd (let z : TooLarge ≡ Alive = e in cc)
alive_by false false e = (refl, refl)

module _ (simples : List (List ℕ)) (flaw : Flaw) (n : Name) (ns : List Name) where
  abbrev flaw_with : Bool → Bool → Option Flaw
  flaw_with d l = cond (d || list_any (is_dead MAX_SIZE simples) ns) None (Some (cond (l || list_any (is_large MAX_SIZE simples) ns) Large flaw))

  -- what each outcome makes of the flaw
  pub flaw_dead : outcome simples n ≡ Dead → flaw_from flaw simples (n ∷ ns) ≡ None
  flaw_dead e = ap (λ d. flaw_with d (is_large MAX_SIZE simples n)) (dead_by (is_dead MAX_SIZE simples n) (is_large MAX_SIZE simples n) e)

  pub flaw_large : outcome simples n ≡ TooLarge → flaw_from flaw simples (n ∷ ns) ≡ flaw_from Large simples ns
  flaw_large e =
      let p = large_by (is_dead MAX_SIZE simples n) (is_large MAX_SIZE simples n) e in
      ap (λ d. flaw_with d (is_large MAX_SIZE simples n)) p.0 ∙ ap (flaw_with false) p.1 ∙ same (list_any (is_dead MAX_SIZE simples) ns) (list_any (is_large MAX_SIZE simples) ns)
    where
      same : (d l : Bool) → cond d None (Some Large) ≡ cond d None (Some (cond l Large Large))
      same true l = refl
      same false true = refl
      same false false = refl

  pub flaw_alive : outcome simples n ≡ Alive → flaw_from flaw simples (n ∷ ns) ≡ flaw_from flaw simples ns
  flaw_alive e =
      let p = alive_by (is_dead MAX_SIZE simples n) (is_large MAX_SIZE simples n) e in
      ap (λ d. flaw_with d (is_large MAX_SIZE simples n)) p.0 ∙ ap (flaw_with false) p.1

-- the names of the children that are left, of which the next is the first
pub record IsGoing (basis simples : List (List ℕ)) (all : List Name) (sign : Sign) (flaw : Flaw) (left : List Constraint) : Type 0 where
  pub left_flaw : flaw_from flaw simples (child_names sign left) ≡ bare_flaw MAX_SIZE simples all
  pub names : (n : Name) → In n (child_names sign left) → IsGrowable basis n

module _ (basis simples : List (List ℕ)) (all : List Name) where
  -- at first all are left
  pub going_first : (sign : Sign) (left cell : List Constraint) → left ≡ cell → child_names sign cell ≡ all → ((n : Name) → In n all → IsGrowable basis n) → IsGoing basis simples all sign Lost left
  going_first sign left cell e s h =
      let is : child_names sign left ≡ all = ap (child_names sign) e ∙ s in
      record { left_flaw = ap (flaw_from Lost simples) is ∙ flaw_start simples all; names = λ n i. h n (subst (In n) is i) }

  module _ (sign : Sign) (flaw : Flaw) (c : Constraint) (left rest : List Constraint) (next : left ≡ c ∷ rest) (g : IsGoing basis simples all sign flaw left) where
    first_left : child_names sign left ≡ name_of sign c ∷ child_names C rest
    first_left = ap (child_names sign) next ∙ ap (λ ns. name_of sign c ∷ ns) (later_names rest)

    -- the next can be grown
    pub going_growable : IsGrowable basis (name_of sign c)
    going_growable = g.names (name_of sign c) (subst (In (name_of sign c)) (sym first_left) (inl refl))

    -- a dead one ends the loop
    pub going_dead : (o : Outcome) → o ≡ outcome simples (name_of sign c) → o ≡ Dead → None ≡ bare_flaw MAX_SIZE simples all
    going_dead o is e = sym (flaw_dead simples flaw (name_of sign c) (child_names C rest) (sym is ∙ e)) ∙ sym (ap (flaw_from flaw simples) first_left) ∙ g.left_flaw

    later : (other : Flaw) → flaw_from flaw simples (name_of sign c ∷ child_names C rest) ≡ flaw_from other simples (child_names C rest) → IsGoing basis simples all C other rest
    later other e = record {
      left_flaw = sym e ∙ sym (ap (flaw_from flaw simples) first_left) ∙ g.left_flaw;
      names = λ n i. g.names n (subst (In n) (sym first_left) (inr i));
    }

    -- the others go on
    pub going_large : (o : Outcome) → o ≡ outcome simples (name_of sign c) → o ≡ TooLarge → IsGoing basis simples all C Large rest
    going_large o is e = later Large (flaw_large simples flaw (name_of sign c) (child_names C rest) (sym is ∙ e))

    pub going_alive : (o : Outcome) → o ≡ outcome simples (name_of sign c) → o ≡ Alive → IsGoing basis simples all C flaw rest
    going_alive o is e = later flaw (flaw_alive simples flaw (name_of sign c) (child_names C rest) (sym is ∙ e))

  -- at the end the flaw is that
  pub going_last : (sign : Sign) (flaw : Flaw) (left : List Constraint) → left ≡ [] → IsGoing basis simples all sign flaw left → Some flaw ≡ bare_flaw MAX_SIZE simples all
  going_last sign flaw left e g = sym (ap (λ l. flaw_from flaw simples (child_names sign l)) e) ∙ g.left_flaw
