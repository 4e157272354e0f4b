-- Words, roots and lists of words are read in one way.
use Rattle.std.proofs.Common.{◌≡◌, ◌⊎◌, inl, inr, ℕ, ◌+◌, ◌^◌, ◌<◌, ◌≤◌, Bool, true, false, not, ◌==◌, ◌||◌, List, [], ◌∷◌, ◌++◌, length, get_or, flat_map, codes, decimal, cond, refl, sym, ap, subst, ◌∙◌, append_assoc, arith, le-leb, true≢false}
use Rattle.std.specs.Char.{is_ascii_digit}
use Rattle.std.specs.List.{join_by}
use Rattle.std.proofs.lemmas.Bool.{cases_lt, lt-leb}
use Rattle.std.proofs.lemmas.Fmt.{decimal_digit}
use Rattle.std.proofs.lemmas.List.{append_cancel_left}
use Rattle.av_perm.specs.Members.{In}
use Rattle.av_perm.specs.Word.{ArePerms}
use Rattle.av_perm.specs.Relations.{IsWord, AreWords}
use Rattle.av_perm.proofs.Membership.{Each, at_In}
use Rattle.av_perm.proofs.MinimalWords.{words_each}
use Rattle.av_perm.proofs.PermWords.{perm_word, perm_short}
use Rattle.av_text.specs.Words.{is_comma}
use Rattle.av_print.specs.Text.{joined_or_none, word_text, words_text, root_text}
use Rattle.av_print.proofs.UniqueReading.{Begins, Free, Any, IsReadOff, AreSome, AreSeparated, IsWritable, begins_apart, begins_wider, cut_once, free_append, is_no_digit, numeral_free, number_read, number_begins, joined_read, separated}

-- a word whose entries can be written
pub record IsShortWord (w : List ℕ) : Type 0 where
  pub word : IsWord w
  pub short : IsWritable (length w)

-- words of fewer than 10 ^ 64 entries: a numeral has at most 64 digits, so longer words can have one text
pub record AreShortWords (ws : List (List ℕ)) : Type 0 where
  pub words : AreWords ws
  pub short : (w : List ℕ) → In w ws → length w < 10 ^ 64

-- the words that the type `Words` holds are such words
pub perms_short : (ws : List (List ℕ)) → ArePerms ws → AreShortWords ws
perms_short ws all = record {
  words = λ i h. perm_word (get_or ws i []) (all i [] h);
  short = λ w i. let s = at_In ws w [] i in omega (arith, perm_short (get_or ws s.0 []) (all s.0 [] s.1), ap length s.2);
}

-- short words, as elements
pub short_each : (ws : List (List ℕ)) → AreShortWords ws → Each IsShortWord ws
short_each ws are w i = record { word = words_each ws are.words w i; short = are.short w i }

-- an entry is at most the length
pub entry_least : (w : List ℕ) → IsWord w → (n : ℕ) → In n w → n ≤ length w
entry_least w word n i =
    let s = at_In w n 0 i in
    let within = word.numbers.within s.0 s.1 in
    omega (arith, s.2, within.1)

-- so it can be written
pub entries_writable : (w : List ℕ) → IsShortWord w → Each IsWritable w
entries_writable w p n i = omega (arith, entry_least w p.word n i, p.short)

-- neither a digit nor a comma
abbrev pub is_no_word_byte : ℕ → Bool
is_no_word_byte c = not (is_ascii_digit c || is_comma c)

-- it is no digit
pub no_digit_from : (c : ℕ) → is_no_word_byte c ≡ true → is_no_digit c ≡ true
no_digit_from c = by (is_ascii_digit c) (is_comma c)
  where
    by : (a b : Bool) → not (a || b) ≡ true → not a ≡ true
    by true b e = e
    by false b e = refl

-- entries of one digit, one after another
pub digits_separated : AreSeparated (λ n. n < 10) Any (Begins is_no_digit) decimal []
digits_separated = record {
  item = record { one = λ m n u v sm sn fu fv e. one m n u v sm sn e };
  next = λ n u small. tt;
  last = λ u b. tt;
  apart = λ n u v small b e. begins_apart is_ascii_digit (decimal n ++ u) v (number_begins n u (omega arith)) b e;
}
  where
    one : (m n : ℕ) (u v : List ℕ) → m < 10 → n < 10 → decimal m ++ u ≡ decimal n ++ v → (m ≡ n) × (u ≡ v)
    one m n u v sm sn e =
        let q : (48 + m) ∷ u ≡ (48 + n) ∷ v = sym (ap (λ (t : List ℕ). t ++ u) (decimal_digit m sm)) ∙ e ∙ ap (λ (t : List ℕ). t ++ v) (decimal_digit n sn) in
        let first : 48 + m ≡ 48 + n = cc in
        (omega arith, cc)

-- entries joined by commas
pub entries_separated : AreSeparated IsWritable (Begins is_no_digit) (Begins is_no_word_byte) decimal (codes ",")
entries_separated = separated _ is_no_digit is_no_word_byte decimal (codes ",") number_read (λ u. refl) (λ u. refl) no_digit_from

-- the two forms of a word's text
pub short_form : (w : List ℕ) → length w ≤ 9 → word_text w ≡ join_by decimal [] w
unfolding word_text
short_form w le = ap (λ (b : Bool). cond b (join_by decimal [] w) (join_by decimal (codes ",") w)) (le-leb (length w) 9 le)

pub long_form : (w : List ℕ) → 9 < length w → word_text w ≡ join_by decimal (codes ",") w
unfolding word_text
long_form w lt = ap (λ (b : Bool). cond b (join_by decimal [] w) (join_by decimal (codes ",") w)) (lt-leb (length w) 9 lt)

-- no byte of a short form is but a digit
pub short_free : (w : List ℕ) → Free is_no_digit (join_by decimal [] w)
short_free [] = tt
short_free (n ∷ w) = free_append is_no_digit (decimal n) _ (numeral_free n) (others w)
  where
    others : (w : List ℕ) → Free is_no_digit (flat_map (λ m. [] ++ decimal m) w)
    others [] = tt
    others (m ∷ w) = free_append is_no_digit (decimal m) _ (numeral_free m) (others w)

-- a short form is no long one
pub forms_apart : (x y u v : List ℕ) → 9 < length y → Begins is_no_word_byte u → join_by decimal [] x ++ u ≡ join_by decimal (codes ",") y ++ v → ⊥
forms_apart x [] u v lt b e = omega arith
forms_apart x (m ∷ []) u v lt b e = omega arith
forms_apart x (m ∷ n ∷ y) u v lt b e =
    let rest : List ℕ = (decimal n ++ flat_map (λ k. codes "," ++ decimal k) y) ++ v in
    let c = cut_once is_no_digit (join_by decimal [] x) (decimal m) u (codes "," ++ rest) (short_free x) (numeral_free m) (begins_wider is_no_word_byte is_no_digit no_digit_from u b) refl
    (e ∙ append_assoc (decimal m) _ v) in
    begins_apart is_no_word_byte u (codes "," ++ rest) b refl c.1

-- a word is read off before a byte that is neither a digit nor a comma
pub word_read : IsReadOff IsShortWord (Begins is_no_word_byte) word_text
word_read = record { one = λ x y u v px py bu bv e. by x y u v px py bu bv e (cases_lt 9 (length x)) (cases_lt 9 (length y)) }
  where
    digits_of : (w : List ℕ) → IsShortWord w → length w ≤ 9 → AreSome (λ n. n < 10) w
    digits_of w p le = record { some = omega (arith, p.word.filled); each = λ n i. omega (arith, entry_least w p.word n i) }

    entries_of : (w : List ℕ) → IsShortWord w → AreSome IsWritable w
    entries_of w p = record { some = omega (arith, p.word.filled); each = entries_writable w p }

    by : (x y u v : List ℕ) → IsShortWord x → IsShortWord y → Begins is_no_word_byte u → Begins is_no_word_byte v → word_text x ++ u ≡ word_text y ++ v
        → (9 < length x) ⊎ (length x ≤ 9) → (9 < length y) ⊎ (length y ≤ 9) → (x ≡ y) × (u ≡ v)
    by x y u v px py bu bv e (inl lx) (inl ly) =
        (joined_read _ _ _ decimal (codes ",") entries_separated).one x y u v (entries_of x px) (entries_of y py) bu bv (rw (long_form x lx, long_form y ly) at e)
    by x y u v px py bu bv e (inl lx) (inr sy) = absurd (forms_apart y x v u lx bv (rw (short_form y sy, long_form x lx) at (sym e)))
    by x y u v px py bu bv e (inr sx) (inl ly) = absurd (forms_apart x y u v ly bu (rw (short_form x sx, long_form y ly) at e))
    by x y u v px py bu bv e (inr sx) (inr sy) =
        (joined_read _ _ _ decimal [] digits_separated).one x y u v (digits_of x px sx) (digits_of y py sy)
        (begins_wider is_no_word_byte is_no_digit no_digit_from u bu) (begins_wider is_no_word_byte is_no_digit no_digit_from v bv) (rw (short_form x sx, short_form y sy) at e)

-- a word begins with a digit
pub word_begins : (w u : List ℕ) → IsShortWord w → Begins is_ascii_digit (word_text w ++ u)
word_begins w u p = by (cases_lt 9 (length w))
  where
    joined : (s v u : List ℕ) → 0 < length v → Each IsWritable v → Begins is_ascii_digit (join_by decimal s v ++ u)
    joined s [] u some small = absurd (omega arith)
    joined s (n ∷ v) u some small = subst (Begins is_ascii_digit) (sym (append_assoc (decimal n) _ u)) (number_begins n _ (small n (inl refl)))

    by : (9 < length w) ⊎ (length w ≤ 9) → Begins is_ascii_digit (word_text w ++ u)
    by (inl l) = rw (long_form w l) (joined (codes ",") w u (omega (arith, p.word.filled)) (entries_writable w p))
    by (inr s) = rw (short_form w s) (joined [] w u (omega (arith, p.word.filled)) (entries_writable w p))

-- what follows a list of words: a space, and then no digit
pub record FollowsWords (u : List ℕ) : Type 0 where
  pub rest : List ℕ
  pub is : u ≡ codes " " ++ rest
  pub stops : Begins is_no_digit rest

-- words are separated by spaces
pub words_separated : AreSeparated IsShortWord (Begins is_no_word_byte) FollowsWords word_text (codes " ")
words_separated = record {
  item = word_read;
  next = λ w u p. refl;
  last = λ u f. subst (Begins is_no_word_byte) (sym f.is) refl;
  apart = λ w u v p f e.
      begins_apart is_ascii_digit (word_text w ++ u) f.rest (word_begins w u p) f.stops (append_cancel_left (codes " ") _ _ (e ∙ f.is));
}

-- a list of words begins with a digit, and an empty one with no digit
pub none_apart : (w : List ℕ) (ws : List (List ℕ)) (u v : List ℕ) → IsShortWord w → codes "none" ++ u ≡ join_by word_text (codes " ") (w ∷ ws) ++ v → ⊥
none_apart w ws u v p e = begins_apart is_ascii_digit _ (codes "none" ++ u) (word_begins w (flat_map (λ x. codes " " ++ word_text x) ws ++ v) p) refl
    (sym (e ∙ append_assoc (word_text w) _ v))

-- a list of words is read off
pub words_read : IsReadOff AreShortWords FollowsWords words_text
unfolding joined_or_none words_text
words_read = record { one = λ ws vs u v p q f g e. by ws vs u v (short_each ws p) (short_each vs q) f g e }
  where
    by : (ws vs : List (List ℕ)) (u v : List ℕ) → Each IsShortWord ws → Each IsShortWord vs → FollowsWords u → FollowsWords v
        → words_text ws ++ u ≡ words_text vs ++ v → (ws ≡ vs) × (u ≡ v)
    by [] [] u v p q f g e = (refl, append_cancel_left (codes "none") u v e)
    by [] (x ∷ vs) u v p q f g e = absurd (none_apart x vs u v (q x (inl refl)) e)
    by (w ∷ ws) [] u v p q f g e = absurd (none_apart w ws v u (p w (inl refl)) (sym e))
    by (w ∷ ws) (x ∷ vs) u v p q f g e =
        (joined_read _ _ _ word_text (codes " ") words_separated).one (w ∷ ws) (x ∷ vs) u v
        (record { some = omega arith; each = p }) (record { some = omega arith; each = q }) f g e

-- the two forms of a root's text
pub plain_root : (π : List ℕ) → length π ≤ 9 → root_text π ≡ word_text π
unfolding root_text
plain_root π le = ap (λ (b : Bool). cond b (word_text π) (codes "(" ++ (word_text π ++ codes ")"))) (le-leb (length π) 9 le)

pub bracketed_root : (π : List ℕ) → 9 < length π → root_text π ≡ codes "(" ++ (word_text π ++ codes ")")
unfolding root_text
bracketed_root π lt = ap (λ (b : Bool). cond b (word_text π) (codes "(" ++ (word_text π ++ codes ")"))) (lt-leb (length π) 9 lt)

-- with what follows
pub bracketed_before : (π u : List ℕ) → 9 < length π → root_text π ++ u ≡ codes "(" ++ (word_text π ++ (codes ")" ++ u))
bracketed_before π u lt = ap (λ (s : List ℕ). s ++ u) (bracketed_root π lt) ∙ ap (λ (s : List ℕ). codes "(" ++ s) (append_assoc (word_text π) (codes ")") u)

pub plain_before : (π u : List ℕ) → length π ≤ 9 → root_text π ++ u ≡ word_text π ++ u
plain_before π u le = ap (λ (s : List ℕ). s ++ u) (plain_root π le)

-- a root is read off before a byte that is neither a digit nor a comma
pub root_read : IsReadOff IsShortWord (Begins is_no_word_byte) root_text
root_read = record { one = λ x y u v px py bu bv e. by x y u v px py bu bv e (cases_lt 9 (length x)) (cases_lt 9 (length y)) }
  where
    apart : (x y u v : List ℕ) → IsShortWord x → word_text x ++ u ≡ codes "(" ++ v → ⊥
    apart x y u v p e = begins_apart is_ascii_digit (word_text x ++ u) (codes "(" ++ v) (word_begins x u p) refl e

    by : (x y u v : List ℕ) → IsShortWord x → IsShortWord y → Begins is_no_word_byte u → Begins is_no_word_byte v → root_text x ++ u ≡ root_text y ++ v
        → (9 < length x) ⊎ (length x ≤ 9) → (9 < length y) ⊎ (length y ≤ 9) → (x ≡ y) × (u ≡ v)
    by x y u v px py bu bv e (inl lx) (inl ly) =
        let inside = append_cancel_left (codes "(") _ _ (sym (bracketed_before x u lx) ∙ e ∙ bracketed_before y v ly) in
        let r = word_read.one x y (codes ")" ++ u) (codes ")" ++ v) px py refl refl inside in
        (r.0, append_cancel_left (codes ")") u v r.1)
    by x y u v px py bu bv e (inl lx) (inr sy) = absurd (apart y x v _ py (sym (plain_before y v sy) ∙ sym e ∙ bracketed_before x u lx))
    by x y u v px py bu bv e (inr sx) (inl ly) = absurd (apart x y u _ px (sym (plain_before x u sx) ∙ e ∙ bracketed_before y v ly))
    by x y u v px py bu bv e (inr sx) (inr sy) = word_read.one x y u v px py bu bv (sym (plain_before x u sx) ∙ e ∙ plain_before y v sy)

-- an opening bracket
abbrev pub is_opening : ℕ → Bool
is_opening c = c == 40

-- a digit or an opening bracket
abbrev pub is_root_byte : ℕ → Bool
is_root_byte c = is_ascii_digit c || is_opening c

-- a root begins with one
pub root_begins : (π u : List ℕ) → IsShortWord π → Begins is_root_byte (root_text π ++ u)
root_begins π u p = by (cases_lt 9 (length π))
  where
    either : (a b : Bool) → a ≡ true → (a || b) ≡ true
    either true b e = refl
    either false b e = absurd (true≢false (sym e))

    by : (9 < length π) ⊎ (length π ≤ 9) → Begins is_root_byte (root_text π ++ u)
    by (inl l) = subst (Begins is_root_byte) (sym (bracketed_before π u l)) refl
    by (inr s) = subst (Begins is_root_byte) (sym (plain_before π u s)) (begins_wider is_ascii_digit is_root_byte (λ c e. either (is_ascii_digit c) (is_opening c) e) _ (word_begins π u p))
