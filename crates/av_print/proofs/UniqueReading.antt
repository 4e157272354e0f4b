-- Texts that are read in one way: a value's text, with what follows it, comes from no other value.
use Rattle.std.proofs.Common.{◌≡◌, ℕ, zero, suc, ◌+◌, ◌/◌, ◌%◌, ◌<◌, ◌^◌, inl, inr, Bool, true, false, cond, not, ◌==◌, List, [], ◌∷◌, ◌++◌, length, flat_map, decimal, nat_le, refl, sym, ap, subst, ◌∙◌, true≢false, append_assoc, arith, le-leb, lt-ltb, eq-eqb}
use Rattle.std.specs.Char.{is_ascii_digit}
use Rattle.std.specs.Fmt.{digit_glyph, digits_onto, digits}
use Rattle.std.specs.List.{join_by}
use Rattle.std.specs.Str.Parse.{digits_value}
use Rattle.std.proofs.lemmas.Bool.{and_from}
use Rattle.std.proofs.lemmas.Fmt.{decimal_is_IsNumeral_wide}
use Rattle.std.proofs.lemmas.List.{append_cancel_left}
use Rattle.av_perm.proofs.Membership.{Each}

-- the text begins with a byte of this kind
abbrev pub Begins : (ℕ → Bool) → List ℕ → Type 0
Begins p [] = ⊥
Begins p (c ∷ cs) = p c ≡ true

-- no byte of the text is of this kind
abbrev pub Free : (ℕ → Bool) → List ℕ → Type 0
Free p [] = Unit {0}
Free p (c ∷ cs) = (p c ≡ false) × Free p cs

-- a text that begins with that of a value of P and goes on with a text of F does so in one way
pub record IsReadOff {X : Type 0} (P : X → Type 0) (F : List ℕ → Type 0) (text : X → List ℕ) : Type 0 where
  pub one : (x y : X) (u v : List ℕ) → P x → P y → F u → F v → text x ++ u ≡ text y ++ v → (x ≡ y) × (u ≡ v)

-- any text
abbrev pub Any : List ℕ → Type 0
Any u = Unit {0}

-- no text begins with a byte for which a test fails and with one for which it passes
begins_not : (p : ℕ → Bool) (c : ℕ) (u v : List ℕ) → p c ≡ false → Begins p v → c ∷ u ≡ v → ⊥
begins_not p c u v n b e = true≢false (sym (subst (Begins p) (sym e) b) ∙ n)

-- no text begins with a byte of a kind and with one that isn't
pub begins_apart : (p : ℕ → Bool) (s t : List ℕ) → Begins p s → Begins (λ c. not (p c)) t → s ≡ t → ⊥
begins_apart p [] t b n e = b
begins_apart p (c ∷ s) t b n e = begins_not (λ d. not (p d)) c s t (ap not b) n e

-- what begins with a byte of a kind begins with one of a wider kind
pub begins_wider : (p q : ℕ → Bool) → ((c : ℕ) → p c ≡ true → q c ≡ true) → (u : List ℕ) → Begins p u → Begins q u
begins_wider p q wider [] b = b
begins_wider p q wider (c ∷ u) b = wider c b

-- equal texts have equal first bytes and equal rests
first_byte : (c d : ℕ) (u v : List ℕ) → c ∷ u ≡ d ∷ v → c ≡ d
first_byte c d u v e = cc

after_first : (c d : ℕ) (u v : List ℕ) → c ∷ u ≡ d ∷ v → u ≡ v
after_first c d u v e = cc

-- texts with different first bytes differ
pub bytes_apart : (c d : ℕ) (u v : List ℕ) → c ∷ u ≡ d ∷ v → (c == d) ≡ false → ⊥
bytes_apart c d u v e n = true≢false (sym (eq-eqb c d (first_byte c d u v e)) ∙ n)

-- a text has one cut before the first byte of a kind
pub cut_once : (p : ℕ → Bool) (s t u v : List ℕ) → Free p s → Free p t → Begins p u → Begins p v → s ++ u ≡ t ++ v → (s ≡ t) × (u ≡ v)
cut_once p [] [] u v fs ft bu bv e = (refl, e)
cut_once p [] (d ∷ t) u v fs ft bu bv e = absurd (begins_not p d (t ++ v) u ft.0 bu (sym e))
cut_once p (c ∷ s) [] u v fs ft bu bv e = absurd (begins_not p c (s ++ u) v fs.0 bv e)
cut_once p (c ∷ s) (d ∷ t) u v fs ft bu bv e =
    let h : c ≡ d = first_byte c d (s ++ u) (t ++ v) e in
    let r = cut_once p s t u v fs.1 ft.1 bu bv (after_first c d (s ++ u) (t ++ v) e) in
    (λ i. h i ∷ r.0 i, r.1)

-- two texts without a byte of a kind make one
pub free_append : (p : ℕ → Bool) (s t : List ℕ) → Free p s → Free p t → Free p (s ++ t)
free_append p [] t fs ft = ft
free_append p (c ∷ s) t fs ft = (fs.0, free_append p s t fs.1 ft)

-- no digit
abbrev pub is_no_digit : ℕ → Bool
is_no_digit c = not (is_ascii_digit c)

-- the byte of a digit is one
digit_byte : (d : ℕ) → d < 10 → is_no_digit (digit_glyph false d) ≡ false
digit_byte d small =
    rw (lt-ltb d 10 small) (ap not (and_from (nat_le 48 (48 + d)) (nat_le (48 + d) 57) (le-leb 48 (48 + d) (omega arith)) (le-leb (48 + d) 57 (omega arith))))

-- digits before digits are digits
digits_free : (k n : ℕ) (acc : List ℕ) → Free is_no_digit acc → Free is_no_digit (digits_onto k 10 false n acc)
digits_free zero n acc f = f
digits_free (suc k) n acc f =
    let small : n % 10 < 10 = omega arith in
    let more : Free is_no_digit (digit_glyph false (n % 10) ∷ acc) = (digit_byte (n % 10) small, f) in
    either (n / 10 == 0) _ _ more (digits_free k (n / 10) _ more)
  where
    either : (b : Bool) (s t : List ℕ) → Free is_no_digit s → Free is_no_digit t → Free is_no_digit (cond b s t)
    either true s t p q = p
    either false s t p q = q

-- a numeral is made of digits
pub numeral_free : (n : ℕ) → Free is_no_digit (decimal n)
unfolding digits
numeral_free n = digits_free 64 n [] tt

-- a number with at most as many digits as a numeral can have
abbrev pub IsWritable : ℕ → Type 0
IsWritable n = n < 10 ^ 64

-- such numbers have different numerals
pub numeral_once : (m n : ℕ) → IsWritable m → IsWritable n → decimal m ≡ decimal n → m ≡ n
numeral_once m n sm sn e = sym (decimal_is_IsNumeral_wide m sm).1 ∙ ap (digits_value 10) e ∙ (decimal_is_IsNumeral_wide n sn).1

-- a number is read off before a byte that is no digit
pub number_read : IsReadOff IsWritable (Begins is_no_digit) decimal
number_read = record {
  one = λ m n u v sm sn bu bv e.
      let c = cut_once is_no_digit (decimal m) (decimal n) u v (numeral_free m) (numeral_free n) bu bv e in
      (numeral_once m n sm sn c.0, c.1);
}

-- a numeral begins with a digit
pub number_begins : (n : ℕ) (u : List ℕ) → IsWritable n → Begins is_ascii_digit (decimal n ++ u)
number_begins n u small = first (decimal n) u (decimal_is_IsNumeral_wide n small).0.0 (numeral_free n)
  where
    digit : (b : Bool) → not b ≡ false → b ≡ true
    digit true e = refl
    digit false e = sym e

    first : (ds u : List ℕ) → 0 < length ds → Free is_no_digit ds → Begins is_ascii_digit (ds ++ u)
    first [] u some f = absurd (omega arith)
    first (d ∷ ds) u some f = digit (is_ascii_digit d) f.0

-- items, each of which is read off before texts of E, stand with a separator between each two before texts of F
pub record AreSeparated {X : Type 0} (P : X → Type 0) (E F : List ℕ → Type 0) (text : X → List ℕ) (separator : List ℕ) : Type 0 where
  pub item : IsReadOff P E text
  pub next : (x : X) (u : List ℕ) → P x → E (separator ++ (text x ++ u))
  pub last : (u : List ℕ) → F u → E u
  pub apart : (x : X) (u v : List ℕ) → P x → F v → separator ++ (text x ++ u) ≡ v → ⊥

-- at least one item, and each is one of P
pub record AreSome {X : Type 0} (P : X → Type 0) (xs : List X) : Type 0 where
  pub some : 0 < length xs
  pub each : Each P xs

-- an item after a separator, the items after it and what follows
group_others : (s t others u : List ℕ) → ((s ++ t) ++ others) ++ u ≡ s ++ (t ++ (others ++ u))
group_others s t others u = simp append_assoc

module _ {X : Type 0} (P : X → Type 0) (E F : List ℕ → Type 0) (text : X → List ℕ) (separator : List ℕ) (are : AreSeparated P E F text separator) where
  -- the items after the first
  others : List X → List ℕ
  others xs = flat_map (λ y. separator ++ text y) xs

  -- what stands after an item may follow one
  follow : (xs : List X) (u : List ℕ) → Each P xs → F u → E (others xs ++ u)
  unfolding others
  follow [] u ps f = are.last u f
  follow (x ∷ xs) u ps f = subst E (sym (group_others separator (text x) (others xs) u)) (are.next x (others xs ++ u) (ps x (inl refl)))

  -- the items after the first are read off
  others_read : (xs ys : List X) (u v : List ℕ) → Each P xs → Each P ys → F u → F v → others xs ++ u ≡ others ys ++ v → (xs ≡ ys) × (u ≡ v)
  unfolding others
  others_read [] [] u v ps qs fu fv e = (refl, e)
  others_read [] (y ∷ ys) u v ps qs fu fv e =
      absurd (are.apart y (others ys ++ v) u (qs y (inl refl)) fu (sym (e ∙ group_others separator (text y) (others ys) v)))
  others_read (x ∷ xs) [] u v ps qs fu fv e =
      absurd (are.apart x (others xs ++ u) v (ps x (inl refl)) fv (sym (group_others separator (text x) (others xs) u) ∙ e))
  others_read (x ∷ xs) (y ∷ ys) u v ps qs fu fv e =
      let rest = append_cancel_left separator _ _ (sym (group_others separator (text x) (others xs) u) ∙ e ∙ group_others separator (text y) (others ys) v) in
      let first = are.item.one x y (others xs ++ u) (others ys ++ v) (ps x (inl refl)) (qs y (inl refl))
      (follow xs u (λ z i. ps z (inr i)) fu) (follow ys v (λ z i. qs z (inr i)) fv) rest in
      let more = others_read xs ys u v (λ z i. ps z (inr i)) (λ z i. qs z (inr i)) fu fv first.1 in
      (λ i. first.0 i ∷ more.0 i, more.1)

  -- and so are all items
  pub joined_read : IsReadOff (AreSome P) F (join_by text separator)
  unfolding others
  joined_read = record { one = λ xs ys u v ps qs fu fv e. both xs ys u v ps.some qs.some ps.each qs.each fu fv e }
    where
      both : (xs ys : List X) (u v : List ℕ) → 0 < length xs → 0 < length ys → Each P xs → Each P ys → F u → F v
          → join_by text separator xs ++ u ≡ join_by text separator ys ++ v → (xs ≡ ys) × (u ≡ v)
      both [] ys u v sx sy ps qs fu fv e = absurd (omega arith)
      both (x ∷ xs) [] u v sx sy ps qs fu fv e = absurd (omega arith)
      both (x ∷ xs) (y ∷ ys) u v sx sy ps qs fu fv e =
          let first = are.item.one x y (others xs ++ u) (others ys ++ v) (ps x (inl refl)) (qs y (inl refl))
          (follow xs u (λ z i. ps z (inr i)) fu) (follow ys v (λ z i. qs z (inr i)) fv)
          (sym (append_assoc (text x) (others xs) u) ∙ e ∙ append_assoc (text y) (others ys) v) in
          let more = others_read xs ys u v (λ z i. ps z (inr i)) (λ z i. qs z (inr i)) fu fv first.1 in
          (λ i. first.0 i ∷ more.0 i, more.1)

-- items are separated where the separator begins with a byte that ends an item, and no list ends before such a byte
pub separated : {X : Type 0} (P : X → Type 0) (p q : ℕ → Bool) (text : X → List ℕ) (separator : List ℕ) → IsReadOff P (Begins p) text
    → ((u : List ℕ) → Begins p (separator ++ u)) → ((u : List ℕ) → Begins (λ c. not (q c)) (separator ++ u)) → ((c : ℕ) → q c ≡ true → p c ≡ true)
    → AreSeparated P (Begins p) (Begins q) text separator
separated P p q text separator item ends goes_on wider = record {
  item = item;
  next = λ x u px. ends (text x ++ u);
  last = λ u b. begins_wider q p wider u b;
  apart = λ x u v px b e. begins_apart q v (separator ++ (text x ++ u)) b (goes_on (text x ++ u)) (sym e);
}
