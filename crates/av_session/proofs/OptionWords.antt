-- Words by how they begin, and the names before their `=`.
use Rattle.std.proofs.Common.{◌≡◌, ◌≢◌, ◌⊎◌, ℕ, suc, ◌+◌, [], ◌∷◌, ◌++◌, Bool, true, false, ◌==◌, nat_lt, length, take, drop, Some, None, codes, refl, sym, subst, ap, ◌∙◌, arith, inl, inr}
use Rattle.std.specs.List.{list_any, position_or_len}
use Rattle.std.proofs.lemmas.Bool.Decides.{eqb_tells}
use Rattle.std.proofs.lemmas.Slice.Eq.{bytes_eq-Decides}
use Rattle.clap.specs.Walk.{Text}
use Rattle.av_perm.specs.Lists.{same}
use Rattle.av_session.specs.declared.options.Chosen.{Chosen}
use Rattle.av_session.specs.Options.{is_equals, name_and_value, choose, is_check}

-- a word by how it begins: with no hyphen, with one, with two
pub data Begins : Text → Type 0 where
  empty : Begins []
  plain : (y : ℕ) (ys : Text) → (y == 45) ≡ false → Begins (y ∷ ys)
  hyphen : Begins (45 ∷ [])
  short : (z : ℕ) (zs : Text) → (z == 45) ≡ false → Begins (45 ∷ z ∷ zs)
  hyphens : Begins (45 ∷ 45 ∷ [])
  long : (x : ℕ) (xs : Text) → Begins (45 ∷ 45 ∷ x ∷ xs)

pub begins : (word : Text) → Begins word
begins [] = empty
begins (y ∷ ys) = by (eqb_tells y 45)
  where
    second : (zs : Text) → Begins (45 ∷ zs)
    second [] = hyphen
    second (z ∷ zs) = by (eqb_tells z 45)
      where
        third : (xs : Text) → Begins (45 ∷ 45 ∷ xs)
        third [] = hyphens
        third (x ∷ xs) = long x xs

        by : ((z == 45) ≡ true) × (z ≡ 45) ⊎ ((z == 45) ≡ false) × (z ≢ 45) → Begins (45 ∷ z ∷ zs)
        by (inl p) = subst (λ n. Begins (45 ∷ n ∷ zs)) (sym p.1) (third zs)
        by (inr p) = short z zs p.0

    by : ((y == 45) ≡ true) × (y ≡ 45) ⊎ ((y == 45) ≡ false) × (y ≢ 45) → Begins (y ∷ ys)
    by (inl p) = subst (λ n. Begins (n ∷ ys)) (sym p.1) (second ys)
    by (inr p) = plain y ys p.0

-- what stands before the first `=`, and after it
abbrev pub before : Text → Text
before word = take (position_or_len is_equals word) word

abbrev pub after : Text → Text
after word = drop (position_or_len is_equals word + 1) word

none_before : (n : ℕ) → nat_lt 0 (suc n) ≡ true
none_before n = grind arith

one_more : (m n : ℕ) → nat_lt (1 + m) (suc n) ≡ nat_lt m n
one_more m n = grind arith

take_more : (n x : ℕ) (xs : Text) → take (1 + n) (x ∷ xs) ≡ x ∷ take n xs
take_more n x xs = let e : 1 + n ≡ suc n = omega arith in rw e refl

drop_more : (n x : ℕ) (xs : Text) → drop (1 + n + 1) (x ∷ xs) ≡ drop (n + 1) xs
drop_more n x xs = let e : 1 + n + 1 ≡ suc (n + 1) = omega arith in rw e refl

pub before_long : (x : ℕ) (xs : Text) → before (45 ∷ 45 ∷ x ∷ xs) ≡ 45 ∷ 45 ∷ before (x ∷ xs)
before_long x xs = take_more (position_or_len is_equals (45 ∷ x ∷ xs)) 45 (45 ∷ x ∷ xs) ∙ ap (λ l. 45 ∷ l) (take_more (position_or_len is_equals (x ∷ xs)) 45 (x ∷ xs))

-- the place of the first `=` is within the word where there is one
place_within : (word : Text) → nat_lt (position_or_len is_equals word) (length word) ≡ list_any is_equals word
place_within [] = refl
place_within (x ∷ xs) = by (x == 61) refl (place_within xs)
  where
    by : (b : Bool) → (x == 61) ≡ b → nat_lt (position_or_len is_equals xs) (length xs) ≡ list_any is_equals xs → nat_lt (position_or_len is_equals (x ∷ xs)) (length (x ∷ xs)) ≡ list_any is_equals (x ∷ xs)
    by true e ih = rw (e, none_before (length xs)) refl
    by false e ih = rw (e, one_more (position_or_len is_equals xs) (length xs)) ih

-- a word with `=` is what stands before it, the `=`, and what stands after it
parted : (word : Text) → list_any is_equals word ≡ true → word ≡ before word ++ 61 ∷ after word
parted [] e = absurd (let f : false ≡ true = e in cc)
parted (x ∷ xs) e = by (eqb_tells x 61) (parted xs)
  where
    by : ((x == 61) ≡ true) × (x ≡ 61) ⊎ ((x == 61) ≡ false) × (x ≢ 61) → (list_any is_equals xs ≡ true → xs ≡ before xs ++ 61 ∷ after xs) → x ∷ xs ≡ before (x ∷ xs) ++ 61 ∷ after (x ∷ xs)
    by (inl p) ih = rw p.1 refl
    by (inr p) ih = rw (p.0, take_more (position_or_len is_equals xs) x xs, drop_more (position_or_len is_equals xs) x xs) (ap (λ l. x ∷ l) (ih (rw p.0 at e)))

-- one without is what stands before it
whole : (word : Text) → list_any is_equals word ≡ false → before word ≡ word
whole [] e = refl
whole (x ∷ xs) e = by (x == 61) refl (whole xs)
  where
    by : (b : Bool) → (x == 61) ≡ b → (list_any is_equals xs ≡ false → before xs ≡ xs) → before (x ∷ xs) ≡ x ∷ xs
    by true f ih = absurd (let g : true ≡ false = rw f at e in cc)
    by false f ih = rw (f, take_more (position_or_len is_equals xs) x xs) (ap (λ l. x ∷ l) (ih (rw f at e)))

-- a word with `=`, or without
abbrev pub IsCut : Text → Type 0
IsCut word = (name_and_value word ≡ None) × (before word ≡ word) ⊎ (name_and_value word ≡ Some (before word, after word)) × (word ≡ before word ++ 61 ∷ after word)

pub cut_of : (word : Text) → IsCut word
unfolding name_and_value
cut_of word = by (list_any is_equals word) refl
  where
    by : (b : Bool) → list_any is_equals word ≡ b → IsCut word
    by true e = inr (rw (place_within word, e) refl, parted word e)
    by false e = inl (rw (place_within word, e) refl, whole word e)

-- the options that take a value
pub data Which : Type 0 where
  simple : Which
  size : Which
  demo : Which

abbrev pub name : Which → Text
name simple = codes "max-simple"
name size = codes "max-size"
name demo = codes "demo"

abbrev pub dashed : Which → Text
dashed simple = codes "--max-simple"
dashed size = codes "--max-size"
dashed demo = codes "--demo"

-- a text is no option's name
abbrev pub IsStrange : Text → Type 0
IsStrange text = (same text (codes "--max-simple") ≡ false) × (same text (codes "--max-size") ≡ false) × (same text (codes "--demo") ≡ false) × (same text (codes "--check") ≡ false)

-- a text is the name of an option that takes a value, or that of the one that takes none, or no option's
abbrev pub IsNamed : Text → Type 0
IsNamed text = ((k : Which) × (text ≡ dashed k)) ⊎ ((text ≡ codes "--check") ⊎ IsStrange text)

pub named : (text : Text) → IsNamed text
named text = by (same text (codes "--max-simple")) (same text (codes "--max-size")) (same text (codes "--demo")) (same text (codes "--check")) refl refl refl refl
  where
    by : (a b c d : Bool) → same text (codes "--max-simple") ≡ a → same text (codes "--max-size") ≡ b → same text (codes "--demo") ≡ c → same text (codes "--check") ≡ d → IsNamed text
    by true b c d e f g h = inl (simple, (bytes_eq-Decides text (codes "--max-simple")).0 e)
    by false true c d e f g h = inl (size, (bytes_eq-Decides text (codes "--max-size")).0 f)
    by false false true d e f g h = inl (demo, (bytes_eq-Decides text (codes "--demo")).0 g)
    by false false false true e f g h = inr (inl ((bytes_eq-Decides text (codes "--check")).0 h))
    by false false false false e f g h = inr (inr (e, f, g, h))

-- the name of an option with a value isn't that of the one without
pub with_value : (k : Which) → is_check (dashed k) ≡ false
with_value simple = refl
with_value size = refl
with_value demo = refl

pub strange_chooses : (text value : Text) (chosen : Chosen) → IsStrange text → choose chosen text value ≡ None
unfolding choose
strange_chooses text value chosen s = rw (s.0, s.1, s.2) refl
