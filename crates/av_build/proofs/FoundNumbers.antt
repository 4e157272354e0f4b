-- Numbers that join those found, each once and in order of first appearance, and their places among these.
use Rattle.std.proofs.Common.{◌≡◌, ℕ, suc, ◌+◌, ◌≤◌, ◌<◌, ◌⊎◌, inl, inr, List, [], ◌∷◌, ◌++◌, length, slice_get, nat_eq, eq-eqb, eqb-true, Bool, true, false, if◌then◌else◌, Some, refl, sym, ap, ◌∙◌, subst, arith, true≢false, append_assoc, length-append}
use Rattle.std.specs.List.{list_any}
use Rattle.std.proofs.lemmas.List.{append-nil}
use Rattle.std.proofs.lemmas.Option.{slice_get_within}
use Rattle.av_perm.specs.Members.{In, Once}
use Rattle.av_perm.proofs.Membership.{Each, In_one, In_append_cases, append_left, append_right}
use Rattle.av_perm.proofs.NoRepeats.{once_append}
use Rattle.av_perm.proofs.Tests.{any_from, any_to}
use Rattle.av_build.specs.Lean.{with_number, with_numbers, place_of}
use Rattle.av_build.proofs.ListPlaces.{get_longer, get_shorter, get_extra}

-- the new list begins with the old one, and then has only numbers of the third list
pub record IsLonger (old cs new : List ℕ) : Type 0 where
  pub extra : List ℕ
  pub is : new ≡ old ++ extra
  pub from : Each (λ c. In c cs) extra

-- one more number joins at the end
with_longer : (found : List ℕ) (c : ℕ) → IsLonger found (c ∷ []) (with_number found c)
with_longer found c = by (list_any (nat_eq c) found)
  where
    by : (b : Bool) → IsLonger found (c ∷ []) (if b then found else found ++ c ∷ [])
    by true = record { extra = []; is = sym (append-nil found); from = λ d i. absurd i }
    by false = record { extra = c ∷ []; is = refl; from = λ d i. i }

-- and so do more
pub all_longer : (found cs : List ℕ) → IsLonger found cs (with_numbers found cs)
all_longer found [] = record { extra = []; is = sym (append-nil found); from = λ d i. i }
all_longer found (c ∷ cs) =
    let a = with_longer found c in
    let b = all_longer (with_number found c) cs in
    record {
      extra = a.extra ++ b.extra;
      is = b.is ∙ ap (λ l. l ++ b.extra) a.is ∙ append_assoc found a.extra b.extra;
      from = λ d i. elim (In_append_cases a.extra b.extra d i) [ inl j ↦ inl (In_one d c (a.from d j)) | inr j ↦ inr (b.from d j) ];
    }

-- so there are no fewer
pub longer_length : (old cs new : List ℕ) → IsLonger old cs new → length old ≤ length new
longer_length old cs new l = omega (arith, ap length l.is, length-append old l.extra)

-- those of the old list are in the new one
pub longer_In : (old cs new : List ℕ) → IsLonger old cs new → (c : ℕ) → In c old → In c new
longer_In old cs new l c i = subst (In c) (sym l.is) (append_left old l.extra c i)

-- at the same places
pub longer_get : (old cs new : List ℕ) → IsLonger old cs new → (i c : ℕ) → slice_get old i ≡ Some c → slice_get new i ≡ Some c
longer_get old cs new l i c e = ap (λ x. slice_get x i) l.is ∙ get_longer old l.extra i c e

-- at these places there is nothing else
pub longer_old : (old cs new : List ℕ) → IsLonger old cs new → (i c : ℕ) → i < length old → slice_get new i ≡ Some c → slice_get old i ≡ Some c
longer_old old cs new l i c h e = get_shorter old l.extra i c h (ap (λ x. slice_get x i) (sym l.is) ∙ e)

-- and past them there are numbers that joined
pub longer_new : (old cs new : List ℕ) → IsLonger old cs new → (i c : ℕ) → length old ≤ i → slice_get new i ≡ Some c → In c cs
longer_new old cs new l i c h e = l.from c (get_extra old l.extra i c h (ap (λ x. slice_get x i) (sym l.is) ∙ e))

-- the number is found then
with_In : (found : List ℕ) (c : ℕ) → In c (with_number found c)
with_In found c = by (list_any (nat_eq c) found) refl
  where
    by : (b : Bool) → list_any (nat_eq c) found ≡ b → In c (if b then found else found ++ c ∷ [])
    by true e = let r = any_from (nat_eq c) found e in subst (λ x. In x found) (sym (eqb-true c r.0 r.2)) r.1
    by false e = append_right found (c ∷ []) c (inl refl)

-- and so are more
pub all_In : (found cs : List ℕ) (c : ℕ) → In c cs → In c (with_numbers found cs)
all_In found [] c i = absurd i
all_In found (d ∷ cs) c (inl e) =
    longer_In (with_number found d) cs (with_numbers (with_number found d) cs) (all_longer (with_number found d) cs) c
    (subst (λ x. In x (with_number found d)) (sym e) (with_In found d))
all_In found (d ∷ cs) c (inr i) = all_In (with_number found d) cs c i

-- what is found was found before, or is the number
with_from : (found : List ℕ) (d c : ℕ) → In c (with_number found d) → In c found ⊎ (c ≡ d)
with_from found d c i = by (list_any (nat_eq d) found) i
  where
    by : (b : Bool) → In c (if b then found else found ++ d ∷ []) → In c found ⊎ (c ≡ d)
    by true j = inl j
    by false j = elim (In_append_cases found (d ∷ []) c j) [ inl k ↦ inl k | inr k ↦ inr (In_one c d k) ]

-- or one of them
pub found_from : (found cs : List ℕ) (c : ℕ) → In c (with_numbers found cs) → In c found ⊎ In c cs
found_from found [] c i = inl i
found_from found (d ∷ cs) c i = elim (found_from (with_number found d) cs c i) [
  | inl j ↦ elim (with_from found d c j) [ inl k ↦ inl k | inr e ↦ inr (inl e) ]
  | inr j ↦ inr (inr j)
]

-- different numbers stay different when one more is found
with_once : (found : List ℕ) (c : ℕ) → Once found → Once (with_number found c)
with_once found c o = by (list_any (nat_eq c) found) refl
  where
    by : (b : Bool) → list_any (nat_eq c) found ≡ b → Once (if b then found else found ++ c ∷ [])
    by true e = o
    by false e = once_append found (c ∷ []) o (λ i. i, tt) other
      where
        other : (z : ℕ) → In z found → In z (c ∷ []) → ⊥
        other z i j = true≢false (sym (any_to (nat_eq c) found c (subst (λ x. In x found) (In_one z c j) i) (eq-eqb c c refl)) ∙ e)

-- and when more are
pub all_once : (found cs : List ℕ) → Once found → Once (with_numbers found cs)
all_once found [] o = o
all_once found (c ∷ cs) o = all_once (with_number found c) cs (with_once found c o)

-- numbers that join in turn
pub numbers_append : (found cs ds : List ℕ) → with_numbers found (cs ++ ds) ≡ with_numbers (with_numbers found cs) ds
numbers_append found [] ds = refl
numbers_append found (c ∷ cs) ds = numbers_append (with_number found c) cs ds

-- the place of a number that was found
pub place_at : (found : List ℕ) (c : ℕ) → In c found → slice_get found (place_of found c) ≡ Some c
place_at [] c i = absurd i
place_at (d ∷ found) c i = by (nat_eq c d) refl i (place_at found c)
  where
    by : (b : Bool) → nat_eq c d ≡ b → In c (d ∷ found) → (In c found → slice_get found (place_of found c) ≡ Some c)
        → slice_get (d ∷ found) (place_of (d ∷ found) c) ≡ Some c
    by true e i f = rw e (ap (λ (x : ℕ). Some x) (sym (eqb-true c d e)))
    by false e (inl q) f = absurd (true≢false (sym (eq-eqb c d q) ∙ e))
    by false e (inr j) f = rw e (let q : suc (place_of found c) ≡ 1 + place_of found c = omega arith in subst (λ k. slice_get (d ∷ found) k ≡ Some c) q (f j))

-- it is one of the list
pub place_within : (found : List ℕ) (c : ℕ) → In c found → place_of found c < length found
place_within found c i = slice_get_within found (place_of found c) c (place_at found c i)
