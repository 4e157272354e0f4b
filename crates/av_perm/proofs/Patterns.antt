-- The pattern of a list of numbers: the word in its relative order.
use Rattle.std.proofs.Common.{◌≡◌, ℕ, zero, suc, ◌+◌, ◌-◌, ◌<◌, ◌≤◌, inl, inr, ◌↔◌, List, [], ◌∷◌, length, refl, cond, ltb, lt-ltb, sym, ap, ◌∙◌, subst, ap₂, arith}
use Rattle.std.proofs.lemmas.Bool.{cases_lt, le-ltb}
use Rattle.std.proofs.lemmas.List.{get_or-map, length-map, ext_get_or}
use Rattle.av_perm.specs.Members.{In}
use Rattle.av_perm.specs.Relations.{at, IsOneToLength, SameOrder, raised, smaller, pattern_of}
use Rattle.av_perm.proofs.Membership.{In_at}
use Rattle.av_perm.proofs.NoRepeats.{IsApart}
use Rattle.av_perm.proofs.Pigeons.{hits}

-- a higher bound lets more numbers lie below it
pub cond_mono : (x u v m : ℕ) → u ≤ v → cond (ltb x u) m 0 ≤ cond (ltb x v) m 0
cond_mono x u v m h = elim (cases_lt x u) [
  | inl l ↦ let a : cond (ltb x u) m 0 ≡ m = ap (λ b. cond b m 0) (lt-ltb x u l) in let b : cond (ltb x v) m 0 ≡ m = ap (λ b. cond b m 0) (lt-ltb x v (omega arith)) in omega arith
  | inr l ↦ let a : cond (ltb x u) m 0 ≡ 0 = ap (λ b. cond b m 0) (le-ltb x u l) in omega arith
]

-- more entries lie below a higher number, and strictly more where it passes an entry
pub smaller_mono : (w : List ℕ) (u v : ℕ) → u ≤ v → smaller u w ≤ smaller v w
smaller_mono [] u v h = omega arith
smaller_mono (x ∷ w) u v h = let k = smaller_mono w u v h in let c = cond_mono x u v 1 h in omega arith

-- strictly more entries lie below a higher number where it passes one
pub smaller_more : (w : List ℕ) (u v : ℕ) → In u w → u < v → smaller u w < smaller v w
smaller_more [] u v i h = absurd i
smaller_more (x ∷ w) u v (inl e) h =
    let a : cond {A = ℕ} (ltb x u) 1 0 ≡ 0 = ap (λ b. cond {A = ℕ} b 1 0) (le-ltb x u (omega arith)) in
    let b : cond {A = ℕ} (ltb x v) 1 0 ≡ 1 = ap (λ b. cond {A = ℕ} b 1 0) (lt-ltb x v (omega arith)) in
    let k = smaller_mono w u v (omega arith) in
    omega arith
smaller_more (x ∷ w) u v (inr i) h = let k = smaller_more w u v i h in let c = cond_mono x u v 1 (omega arith) in omega arith

-- the pattern lies as the numbers lie
pub length_pattern : (w : List ℕ) → length (pattern_of w) ≡ length w
length_pattern w = length-map w (λ v. suc (smaller v w))

-- an entry of the pattern
pub pattern_at : (w : List ℕ) (s : ℕ) → s < length w → at (pattern_of w) s ≡ suc (smaller (at w s) w)
pattern_at w s h = get_or-map (λ v. suc (smaller v w)) w s 0 0 h

-- entries of the pattern lie as those of the numbers
pub pattern_alike : (w : List ℕ) (s t : ℕ) → s < length w → t < length w → (at (pattern_of w) s < at (pattern_of w) t) ↔ (at w s < at w t)
pattern_alike w s t hs ht =
    let a = pattern_at w s hs in
    let b = pattern_at w t ht in (
      λ l. elim (cases_lt (at w s) (at w t)) [ inl k ↦ k | inr k ↦ let m = smaller_mono w (at w t) (at w s) k in absurd (omega arith) ],
      λ l. let m = smaller_more w (at w s) (at w t) (In_at w s 0 hs) l in omega arith,
    )

-- the pattern is in the same relative order as the numbers
pub pattern_order : (w : List ℕ) → SameOrder (pattern_of w) w
pattern_order w = record { count = length_pattern w; alike = λ s t h k. pattern_alike w s t (omega (arith, length_pattern w)) (omega (arith, length_pattern w)) }

-- a word has each of the numbers 1 to its length
pub word_hits : (w : List ℕ) (v : ℕ) → IsOneToLength w → 1 ≤ v → v ≤ length w → (s : ℕ) × (s < length w) × (at w s ≡ v)
word_hits w v i h k =
    let r = hits (length w) (λ s. at w s - 1) (v - 1)
    (λ s l. let b = i.within s l in omega arith)
    (λ s t l o. let a = i.apart s t l o in let b = i.within s (omega arith) in let c = i.within t o in λ e. a (omega arith))
    (omega arith) in
    let b = i.within r.0 r.1 in
    (r.0, r.1, omega arith)

-- at most all entries lie below a number
pub smaller_le : (v : ℕ) (w : List ℕ) → smaller v w ≤ length w
smaller_le v [] = omega arith
smaller_le v (x ∷ w) = let k = smaller_le v w in elim (cases_lt x v) [
  | inl l ↦ let a : cond {A = ℕ} (ltb x v) 1 0 ≡ 1 = ap (λ b. cond {A = ℕ} b 1 0) (lt-ltb x v l) in omega arith
  | inr l ↦ let a : cond {A = ℕ} (ltb x v) 1 0 ≡ 0 = ap (λ b. cond {A = ℕ} b 1 0) (le-ltb x v l) in omega arith
]

-- d numbers on, at least d more entries of a word lie below
smaller_chain : (w : List ℕ) (d v : ℕ) → IsOneToLength w → 1 ≤ v → v + d ≤ suc (length w) → smaller v w + d ≤ smaller (v + d) w
smaller_chain w zero v i h k = smaller_none w v
  where
    smaller_none : (w : List ℕ) (v : ℕ) → smaller v w + 0 ≤ smaller (v + 0) w
    smaller_none w v = let e : v + 0 ≡ v = omega arith in let g : smaller (v + 0) w ≡ smaller v w = ap (λ n. smaller n w) e in omega arith
smaller_chain w (suc d) v i h k =
    let r = smaller_chain w d v i h (omega arith) in
    let s = word_hits w (v + d) i (omega arith) (omega arith) in
    let m = smaller_more w (v + d) (suc (v + d)) (subst (λ n. In n w) s.2 (In_at w s.0 0 s.1)) (omega arith) in
    let e : v + suc d ≡ suc (v + d) = omega arith in
    let g : smaller (v + suc d) w ≡ smaller (suc (v + d)) w = ap (λ n. smaller n w) e in
    omega arith

-- an entry of a word is one more than how many entries are below it
pub word_smaller : (w : List ℕ) (v : ℕ) → IsOneToLength w → 1 ≤ v → v ≤ length w → suc (smaller v w) ≡ v
word_smaller w v i h k =
    let a = smaller_chain w (v - 1) 1 i (omega arith) (omega arith) in
    let b = smaller_chain w (suc (length w) - v) v i h (omega arith) in
    let c = smaller_le (v + (suc (length w) - v)) w in
    let e : 1 + (v - 1) ≡ v = omega arith in
    let g : smaller (1 + (v - 1)) w ≡ smaller v w = ap (λ n. smaller n w) e in
    omega arith

-- a word is its own pattern
pub word_pattern : (w : List ℕ) → IsOneToLength w → pattern_of w ≡ w
word_pattern w i = ext_get_or 0 (pattern_of w) w (length_pattern w) (λ s h.
    let l : s < length w = omega (arith, length_pattern w) in
    let b = i.within s l in
    pattern_at w s l ∙ word_smaller w (at w s) i b.0 b.1)

-- lists whose entries lie alike have one pattern
smaller_same : (a b : ℕ) (xs ys : List ℕ) → length xs ≡ length ys → ((s : ℕ) → s < length xs → (at xs s < a) ↔ (at ys s < b)) → smaller a xs ≡ smaller b ys
smaller_same a b [] [] e h = refl
smaller_same a b [] (y ∷ ys) e h = absurd (omega arith)
smaller_same a b (x ∷ xs) [] e h = absurd (omega arith)
smaller_same a b (x ∷ xs) (y ∷ ys) e h =
    let r = smaller_same a b xs ys (omega arith) (λ s l. h (suc s) (omega arith)) in
    let g = h 0 (omega arith) in
    elim (cases_lt x a) [
      | inl l ↦ ap₂ (λ (m n : ℕ). m + n) (ap (λ b. cond {A = ℕ} b 1 0) (lt-ltb x a l) ∙ sym (ap (λ b. cond {A = ℕ} b 1 0) (lt-ltb y b (g.0 l)))) r
      | inr l ↦ ap₂ (λ (m n : ℕ). m + n) (ap (λ b. cond {A = ℕ} b 1 0) (le-ltb x a l) ∙ sym (ap (λ b. cond {A = ℕ} b 1 0) (le-ltb y b (elim (cases_lt y b) [ inl m ↦ let k = g.1 m in absurd (omega arith) | inr m ↦ m ])))) r
    ]

-- numbers in the same relative order have one pattern
pub pattern_same : (xs ys : List ℕ) → SameOrder xs ys → pattern_of xs ≡ pattern_of ys
pattern_same xs ys o =
    ext_get_or 0 (pattern_of xs) (pattern_of ys) (length_pattern xs ∙ o.count ∙ sym (length_pattern ys)) (λ s l.
    let k : s < length xs = omega (arith, length_pattern xs) in
    pattern_at xs s k ∙ ap suc (smaller_same (at xs s) (at ys s) xs ys o.count (λ t m. o.alike t s m k)) ∙ sym (pattern_at ys s (omega (arith, o.count))))

-- the pattern of different numbers is a word
pub pattern_word : (w : List ℕ) → IsApart w → IsOneToLength (pattern_of w)
pattern_word w a =
    let n = length_pattern w in
    record {
      within = λ s h.
          let l : s < length w = omega arith in
          let m = smaller_more w (at w s) (suc (at w s)) (In_at w s 0 l) (omega arith) in
          let k = smaller_le (suc (at w s)) w in
          let e = pattern_at w s l in
          (omega arith, omega arith);
      apart = λ s t h k e.
          let l : t < length w = omega arith in
          let g = pattern_alike w s t (omega arith) l in
          let g' = pattern_alike w t s l (omega arith) in
          elim (cases_lt (at w s) (at w t)) [
            | inl m ↦ let q = g.1 m in omega arith
            | inr m ↦ a s t h l (elim (cases_lt (at w t) (at w s)) [ inl o ↦ let q = g'.1 o in absurd (omega arith) | inr o ↦ omega arith ])
          ];
    }

-- two words in the same relative order are equal
pub order_equal : (v w : List ℕ) → IsOneToLength v → IsOneToLength w → SameOrder v w → v ≡ w
order_equal v w i j o = sym (word_pattern v i) ∙ pattern_same v w o ∙ word_pattern w j

-- raised numbers have the same pattern
pub pattern_raised : (o : ℕ) (a : List ℕ) → pattern_of (raised o a) ≡ pattern_of a
pattern_raised o a =
    let n = length-map a (λ v. v + o) in
    pattern_same (raised o a) a (record {
      count = n;
      alike = λ s t hs ht.
          let x = get_or-map (λ v. v + o) a s 0 0 (omega arith) in
          let y = get_or-map (λ v. v + o) a t 0 0 (omega arith) in
          (λ l. omega arith, λ l. omega arith);
    })

-- the pattern of a raised word is the word
pub raised_pattern : (o : ℕ) (a : List ℕ) → IsOneToLength a → pattern_of (raised o a) ≡ a
raised_pattern o a w = pattern_raised o a ∙ word_pattern a w
