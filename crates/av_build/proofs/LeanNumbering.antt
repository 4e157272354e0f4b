-- There is one list of the equations that are kept, so one lean system.
use Rattle.std.proofs.Common.{◌≡◌, ℕ, zero, suc, ◌+◌, ◌<◌, ◌⊎◌, inl, inr, List, [], ◌∷◌, length, slice_get, flat_map, take, drop, Option, Some, None, refl, sym, ap, ap₂, ◌∙◌, subst, arith}
use Rattle.std.proofs.lemmas.Bool.{cases_eq}
use Rattle.std.proofs.lemmas.Grind.{flat_map-append}
use Rattle.std.proofs.lemmas.List.{take_all, take-append-drop}
use Rattle.av_perm.specs.Members.{In}
use Rattle.av_perm.proofs.Membership.{flat_map_In}
use Rattle.av_perm.proofs.ListLaws.{once_place}
use Rattle.av_sys.specs.declared.terms.System.{System}
use Rattle.av_build.specs.Lean.{used, with_numbers, kept, lean_over, IsNumbering}
use Rattle.av_build.specs.LeanLaws.{IsLeanLaw}
use Rattle.av_build.proofs.Growing.{In_get}
use Rattle.av_build.proofs.FoundNumbers.{IsLonger, all_longer, longer_get, all_In, numbers_append}
use Rattle.av_build.proofs.KeptEquations.{kept_numbering, numbering_first, numbering_once}

-- lists with the same elements at the first places begin alike
take_same : (j : ℕ) (f g : List ℕ) → ((i : ℕ) → i < j → slice_get f i ≡ slice_get g i) → take j f ≡ take j g
take_same zero f g h = refl
take_same (suc j) [] [] h = refl
take_same (suc j) [] (y ∷ g) h = absurd (let z : None ≡ Some y = h 0 (omega arith) in cc)
take_same (suc j) (x ∷ f) [] h = absurd (let z : Some x ≡ None = h 0 (omega arith) in cc)
take_same (suc j) (x ∷ f) (y ∷ g) h =
    ap₂ (λ (z : ℕ) (zs : List ℕ). z ∷ zs) (some_one x y (h 0 (omega arith))) (take_same j f g (λ i l. h (suc i) (omega arith)))
  where
    some_one : (x y : ℕ) → Some x ≡ Some y → x ≡ y
    some_one x y e = cc

-- an element at one of the first places is one of the first elements
In_take : (j : ℕ) (f : List ℕ) (i x : ℕ) → i < j → slice_get f i ≡ Some x → In x (take j f)
In_take j [] i x l e = absurd (let z : None ≡ Some x = e in cc)
In_take zero (y ∷ f) i x l e = absurd (omega arith)
In_take (suc j) (y ∷ f) zero x l e = let z : Some y ≡ Some x = e in inl (let s : y ≡ x = cc in sym s)
In_take (suc j) (y ∷ f) (suc i) x l e = inr (In_take j f i x (omega arith) e)

module _ (S : System) where
  -- what is found from equation 0 on once the equations of the list were gone through
  abbrev found_by : List ℕ → List ℕ
  found_by us = with_numbers (0 ∷ []) (flat_map (used S) us)

  -- the list begins with what its first j equations have found
  begins : (f : List ℕ) (j : ℕ) → IsNumbering S f → IsLonger (found_by (take j f)) (flat_map (used S) (drop j f)) f
  begins f j n = subst (IsLonger (found_by (take j f)) (flat_map (used S) (drop j f))) (sym whole) (all_longer (found_by (take j f)) (flat_map (used S) (drop j f)))
    where
      whole : f ≡ with_numbers (found_by (take j f)) (flat_map (used S) (drop j f))
      whole =
          n.appear
          ∙ ap (with_numbers (0 ∷ [])) (ap (flat_map (used S)) (sym (take-append-drop j f)) ∙ flat_map-append (used S) (take j f) (drop j f))
          ∙ numbers_append (0 ∷ []) (flat_map (used S) (take j f)) (flat_map (used S) (drop j f))

  -- two such lists that begin alike have the same next number
  next_same : (f g : List ℕ) (j u : ℕ) → IsNumbering S f → IsNumbering S g → 0 < j → take j f ≡ take j g → slice_get f j ≡ Some u → slice_get g j ≡ Some u
  next_same f g j u n m h e q =
      let r = n.reached j u h q in
      let i = In_get (found_by (take j f)) u (all_In (0 ∷ []) (flat_map (used S) (take j f)) u (flat_map_In (used S) (take j f) r.user u (In_take j f r.place r.user r.before r.at_place) r.uses)) in
      let place : i.0 ≡ j = once_place f i.0 j u (numbering_once S f n) (longer_get (found_by (take j f)) (flat_map (used S) (drop j f)) f (begins f j n) i.0 u i.1) q in
      longer_get (found_by (take j g)) (flat_map (used S) (drop j g)) g (begins g j m) j u
      (subst (λ l. slice_get (found_by l) j ≡ Some u) e (subst (λ k. slice_get (found_by (take j f)) k ≡ Some u) place i.1))

  -- so they have the same number at each place
  place_same : (f g : List ℕ) (j : ℕ) → IsNumbering S f → IsNumbering S g → ((i : ℕ) → i < j → slice_get f i ≡ slice_get g i) → slice_get f j ≡ slice_get g j
  place_same f g zero n m h = numbering_first S f n ∙ sym (numbering_first S g m)
  place_same f g (suc j) n m h = by (slice_get f (suc j)) (slice_get g (suc j)) refl refl
    where
      alike : take (suc j) f ≡ take (suc j) g
      alike = take_same (suc j) f g h

      by : (a b : Option ℕ) → slice_get f (suc j) ≡ a → slice_get g (suc j) ≡ b → a ≡ b
      by None None p q = refl
      by None (Some u) p q = sym p ∙ next_same g f (suc j) u m n (omega arith) (sym alike) q
      by (Some u) b p q = sym (next_same f g (suc j) u n m (omega arith) alike p) ∙ q

  places_same : (f g : List ℕ) → IsNumbering S f → IsNumbering S g → (j i : ℕ) → i < j → slice_get f i ≡ slice_get g i
  places_same f g n m zero i l = absurd (omega arith)
  places_same f g n m (suc j) i l = by (places_same f g n m j) (cases_eq i j)
    where
      by : ((i : ℕ) → i < j → slice_get f i ≡ slice_get g i) → (i ≡ j) ⊎ (i ≡ j → ⊥) → slice_get f i ≡ slice_get g i
      by h (inl e) = subst (λ k. slice_get f k ≡ slice_get g k) (sym e) (place_same f g j n m h)
      by h (inr ne) = h i (omega arith)

  -- and are equal
  numbering_one : (f g : List ℕ) → IsNumbering S f → IsNumbering S g → f ≡ g
  numbering_one f g n m =
      sym (take_all (length f + length g) f (omega arith))
      ∙ take_same (length f + length g) f g (places_same f g n m (length f + length g))
      ∙ take_all (length f + length g) g (omega arith)

-- so there is one lean system
pub is_lean_law : IsLeanLaw
is_lean_law S R form = (
  λ l. l.equations ∙ ap (lean_over S) (numbering_one S l.found (kept S) l.numbering (kept_numbering S form.some)),
  λ e. record { found = kept S; numbering = kept_numbering S form.some; equations = e },
)
