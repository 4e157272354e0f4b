-- Terms, names, equations and systems are read in one way.
use Rattle.std.proofs.Common.{◌≡◌, inl, inr, ℕ, suc, ◌<◌, ◌^◌, Bool, true, ◌==◌, ◌||◌, List, [], ◌∷◌, ◌++◌, length, flat_map, codes, decimal, refl, sym, ap, subst, ◌∙◌, append_assoc, arith, eqb-true}
use Rattle.std.specs.Fmt.{digits}
use Rattle.std.specs.List.{join_by}
use Rattle.std.proofs.lemmas.Bool.{or_cases}
use Rattle.std.proofs.lemmas.List.{append_cancel_left}
use Rattle.av_perm.specs.Relations.{IsWord, sum_root, skew_root}
use Rattle.av_perm.proofs.Membership.{Each, at_In}
use Rattle.av_perm.proofs.WordTests.{word_from}
use Rattle.av_sys.specs.declared.names.Sign.{Sign}
use Rattle.av_sys.specs.declared.names.Sign.TheVariants.{C, P, M}
use Rattle.av_sys.specs.declared.names.Name.{Name}
use Rattle.av_sys.specs.declared.terms.Term.{Term}
use Rattle.av_sys.specs.declared.terms.Term.TheVariants.{Point, Node}
use Rattle.av_sys.specs.declared.terms.Equation.{Equation}
use Rattle.av_sys.specs.declared.terms.System.{System}
use Rattle.av_sys.specs.Names.{IsMadeOfWords}
use Rattle.av_sys.specs.Terms.{IsSystemRoot, IsTermOf, IsWellFormed, AreNamedByWords}
use Rattle.av_text.specs.Lines.{is_line_feed}
use Rattle.av_print.specs.Text.{word_text, words_text, root_text}
use Rattle.av_print.specs.Systems.{number_text, children_text, term_text, terms_text, sign_text, name_text, equation_text, equations_text, terms_count, counts_text, system_text}
use Rattle.av_print.specs.Laws.{SystemTextLaw}
use Rattle.av_print.proofs.UniqueReading.{Begins, Any, IsReadOff, AreSome, AreSeparated, IsWritable, begins_apart, begins_wider, bytes_apart, cut_once, is_no_digit, numeral_free, number_read, joined_read, separated, numeral_once}
use Rattle.av_print.proofs.ReadWords.{AreShortWords, perms_short, IsShortWord, FollowsWords, is_no_word_byte, is_root_byte, root_read, root_begins, words_read}

-- the number of an equation is read off before a byte that is no digit
pub number_text_read : IsReadOff IsWritable (Begins is_no_digit) number_text
unfolding number_text
number_text_read = record { one = λ m n u v sm sn bu bv e. number_read.one m n u v sm sn bu bv (append_cancel_left (codes "E") _ _ e) }

-- a closing square bracket
abbrev pub is_closing : ℕ → Bool
is_closing c = c == 93

-- it is no digit
pub closing_is_no_digit : (c : ℕ) → is_closing c ≡ true → is_no_digit c ≡ true
closing_is_no_digit c e = subst (λ d. is_no_digit d ≡ true) (sym (eqb-true c 93 e)) refl

-- children are read off before it
pub children_read : IsReadOff (AreSome IsWritable) (Begins is_closing) children_text
unfolding children_text
children_read = joined_read _ _ _ number_text (codes ",") (separated _ is_no_digit is_closing number_text (codes ",") number_text_read (λ u. refl) (λ u. refl) closing_is_no_digit)

-- the roots of systems are words
pub system_root : (π : List ℕ) → IsSystemRoot π → IsShortWord π
system_root π (inl e) = record { word = subst IsWord (sym e) (word_from sum_root refl); short = omega (arith, ap length e) }
system_root π (inr (inl e)) = record { word = subst IsWord (sym e) (word_from skew_root refl); short = omega (arith, ap length e) }
system_root π (inr (inr simple)) = record { word = record { numbers = simple.0.numbers; filled = omega (arith, simple.0.long) }; short = omega (arith, simple.1) }

-- the terms of a system of fewer than 2 ^ 32 equations
abbrev pub IsSomeTerm : Term → Type 0
IsSomeTerm t = IsTermOf (2 ^ 32) t

-- so are those of a well-formed system
pub some_term : (n : ℕ) (t : Term) → n < 2 ^ 32 → IsTermOf n t → IsSomeTerm t
some_term n Point few is = tt
some_term n (Node root children) few is = record { rooted = is.rooted; count = is.count; numbers = λ c i. omega (arith, is.numbers c i) }

-- a node has children
pub node_children : (root children : List ℕ) → IsSomeTerm (Node root children) → AreSome IsWritable children
node_children root children is = record {
  some = omega (arith, is.count, (system_root root is.rooted).word.filled);
  each = λ c i. omega (arith, is.numbers c i);
}

-- a space
abbrev pub is_space : ℕ → Bool
is_space c = c == 32

-- a space or a line feed
abbrev pub ends_term : ℕ → Bool
ends_term c = is_space c || is_line_feed c

-- it is neither a digit nor a comma
pub end_is_no_word_byte : (c : ℕ) → ends_term c ≡ true → is_no_word_byte c ≡ true
end_is_no_word_byte c e = elim (or_cases (is_space c) (is_line_feed c) e) [
  | inl s ↦ subst (λ d. is_no_word_byte d ≡ true) (sym (eqb-true c 32 s)) refl
  | inr s ↦ subst (λ d. is_no_word_byte d ≡ true) (sym (eqb-true c 10 s)) refl
]

-- a node's text, with what follows
pub node_before : (root children u : List ℕ) → term_text (Node root children) ++ u ≡ root_text root ++ (codes "[" ++ (children_text children ++ (codes "]" ++ u)))
unfolding term_text
node_before root children u =
    append_assoc (root_text root) (codes "[" ++ (children_text children ++ codes "]")) u
    ∙ ap (λ (s : List ℕ). root_text root ++ (codes "[" ++ s)) (append_assoc (children_text children) (codes "]") u)

-- the point's text is that of the word 1 as a root
pub point_before : (u : List ℕ) → term_text Point ++ u ≡ root_text (1 ∷ []) ++ u
unfolding digits word_text root_text term_text
point_before u = refl

-- the point as a root
pub point_word : IsShortWord (1 ∷ [])
point_word = record { word = word_from (1 ∷ []) refl; short = omega arith }

-- a point's text is not that of a node
pub point_is_no_node : (root children u v : List ℕ) → IsSomeTerm (Node root children) → Begins ends_term u → term_text Point ++ u ≡ term_text (Node root children) ++ v → ⊥
point_is_no_node root children u v is b e =
    let r = root_read.one (1 ∷ []) root u _ point_word (system_root root is.rooted) (begins_wider ends_term is_no_word_byte end_is_no_word_byte u b) refl
    (sym (point_before u) ∙ e ∙ node_before root children v) in
    begins_apart ends_term u (codes "[" ++ _) b refl r.1

-- a term is read off before a space or a line feed
pub term_read : IsReadOff IsSomeTerm (Begins ends_term) term_text
term_read = record { one = λ t s u v p q b c e. by t s u v p q b c e }
  where
    by : (t s : Term) (u v : List ℕ) → IsSomeTerm t → IsSomeTerm s → Begins ends_term u → Begins ends_term v → term_text t ++ u ≡ term_text s ++ v → (t ≡ s) × (u ≡ v)
    by Point Point u v p q b c e = (refl, append_cancel_left (term_text Point) u v e)
    by Point (Node root children) u v p q b c e = absurd (point_is_no_node root children u v q b e)
    by (Node root children) Point u v p q b c e = absurd (point_is_no_node root children v u p c (sym e))
    by (Node root children) (Node other others) u v p q b c e =
        let r = root_read.one root other _ _ (system_root root p.rooted) (system_root other q.rooted) refl refl
        (sym (node_before root children u) ∙ e ∙ node_before other others v) in
        let k = children_read.one children others (codes "]" ++ u) (codes "]" ++ v) (node_children root children p) (node_children other others q) refl refl (append_cancel_left (codes "[") _ _ r.1) in
        (λ i. Node (r.0 i) (k.0 i), append_cancel_left (codes "]") u v k.1)

-- a term begins with a digit or a bracket
pub term_begins : (t : Term) (u : List ℕ) → IsSomeTerm t → Begins is_root_byte (term_text t ++ u)
term_begins Point u p = subst (Begins is_root_byte) (sym (point_before u)) (root_begins (1 ∷ []) u point_word)
term_begins (Node root children) u p = subst (Begins is_root_byte) (sym (node_before root children u)) (root_begins root _ (system_root root p.rooted))

-- a line feed ends a term
pub feed_ends_term : (c : ℕ) → is_line_feed c ≡ true → ends_term c ≡ true
feed_ends_term c e = subst (λ d. ends_term d ≡ true) (sym (eqb-true c 10 e)) refl

-- terms are read off before a line feed
pub terms_read : IsReadOff (Each IsSomeTerm) (Begins is_line_feed) terms_text
unfolding terms_text
terms_read = record { one = λ ts ss u v p q b c e. by ts ss u v p q b c e }
  where
    between : AreSeparated IsSomeTerm (Begins ends_term) (Begins is_line_feed) term_text (codes " | ")
    between = separated _ ends_term is_line_feed term_text (codes " | ") term_read (λ u. refl) (λ u. refl) feed_ends_term

    apart : (t : Term) (ts : List Term) (u v : List ℕ) → IsSomeTerm t → codes "none" ++ u ≡ join_by term_text (codes " | ") (t ∷ ts) ++ v → ⊥
    apart t ts u v p e = begins_apart is_root_byte _ (codes "none" ++ u) (term_begins t (flat_map (λ x. codes " | " ++ term_text x) ts ++ v) p) refl (sym (e ∙ append_assoc (term_text t) _ v))

    by : (ts ss : List Term) (u v : List ℕ) → Each IsSomeTerm ts → Each IsSomeTerm ss → Begins is_line_feed u → Begins is_line_feed v → terms_text ts ++ u ≡ terms_text ss ++ v → (ts ≡ ss) × (u ≡ v)
    by [] [] u v p q b c e = (refl, append_cancel_left (codes "none") u v e)
    by [] (s ∷ ss) u v p q b c e = absurd (apart s ss u v (q s (inl refl)) e)
    by (t ∷ ts) [] u v p q b c e = absurd (apart t ts v u (p t (inl refl)) (sym e))
    by (t ∷ ts) (s ∷ ss) u v p q b c e =
        (joined_read _ _ _ term_text (codes " | ") between).one (t ∷ ts) (s ∷ ss) u v (record { some = omega arith; each = p }) (record { some = omega arith; each = q }) b c e

-- a sign is read off
pub sign_read : IsReadOff (λ (s : Sign). Unit {0}) Any sign_text
sign_read = record { one = λ s r u v p q f g e. by s r u v e }
  where
    by : (s r : Sign) (u v : List ℕ) → sign_text s ++ u ≡ sign_text r ++ v → (s ≡ r) × (u ≡ v)
    by C C u v e = (refl, append_cancel_left (codes "C") u v e)
    by C P u v e = absurd (bytes_apart _ _ u v e refl)
    by C M u v e = absurd (bytes_apart _ _ u v e refl)
    by P C u v e = absurd (bytes_apart _ _ u v e refl)
    by P P u v e = (refl, append_cancel_left (codes "P") u v e)
    by P M u v e = absurd (bytes_apart _ _ u v e refl)
    by M C u v e = absurd (bytes_apart _ _ u v e refl)
    by M P u v e = absurd (bytes_apart _ _ u v e refl)
    by M M u v e = (refl, append_cancel_left (codes "M") u v e)

-- the words of a name are words
pub record IsNamedByWords (n : Name) : Type 0 where
  pub avoid : AreShortWords n.avoid
  pub require : AreShortWords n.require

-- texts in turn, with what follows them
pub group_of_five : (a b c d e u : List ℕ) → (a ++ (b ++ (c ++ (d ++ e)))) ++ u ≡ a ++ (b ++ (c ++ (d ++ (e ++ u))))
group_of_five a b c d e u = simp append_assoc

-- a name's text, with what follows
pub name_before : (n : Name) (u : List ℕ) → name_text n ++ u ≡ sign_text n.sign ++ (codes " avoid " ++ (words_text n.avoid ++ (codes " require " ++ (words_text n.require ++ u))))
unfolding name_text
name_before n u = group_of_five (sign_text n.sign) (codes " avoid ") (words_text n.avoid) (codes " require ") (words_text n.require) u

-- a name is read off
pub name_read : IsReadOff IsNamedByWords FollowsWords name_text
name_read = record {
  one = λ n m u v p q f g e.
      let s = sign_read.one n.sign m.sign _ _ tt tt tt tt (sym (name_before n u) ∙ e ∙ name_before m v) in
      let a = words_read.one n.avoid m.avoid _ _ p.avoid q.avoid (record { rest = _; is = refl; stops = refl }) (record { rest = _; is = refl; stops = refl })
      (append_cancel_left (codes " avoid ") _ _ s.1) in
      let r = words_read.one n.require m.require u v p.require q.require f g (append_cancel_left (codes " require ") _ _ a.1) in
      (λ i. record { sign = s.0 i; avoid = a.0 i; require = r.0 i }, r.1);
}

-- an equation that can be read
pub record IsEquation (e : Equation) : Type 0 where
  pub name : IsNamedByWords e.name
  pub terms : Each IsSomeTerm e.terms

-- one text more
pub group_of_six : (a b c d e f u : List ℕ) → (a ++ (b ++ (c ++ (d ++ (e ++ f))))) ++ u ≡ a ++ (b ++ (c ++ (d ++ (e ++ (f ++ u)))))
group_of_six a b c d e f u = simp append_assoc

-- the line of an equation, with what follows
pub equation_before : (k : ℕ) (e : Equation) (u : List ℕ) → equation_text k e ++ u ≡ number_text k ++ (codes " " ++ (name_text e.name ++ (codes " = " ++ (terms_text e.terms ++ (codes "\n" ++ u)))))
unfolding equation_text
equation_before k e u = group_of_six (number_text k) (codes " ") (name_text e.name) (codes " = ") (terms_text e.terms) (codes "\n") u

-- the line of an equation with a known number is read off
pub equation_read : (k : ℕ) → IsReadOff IsEquation Any (equation_text k)
equation_read k = record {
  one = λ d e u v p q f g is.
      let line = append_cancel_left (codes " ") _ _ (append_cancel_left (number_text k) _ _ (sym (equation_before k d u) ∙ is ∙ equation_before k e v)) in
      let n = name_read.one d.name e.name _ _ p.name q.name (record { rest = _; is = refl; stops = refl }) (record { rest = _; is = refl; stops = refl }) line in
      let t = terms_read.one d.terms e.terms (codes "\n" ++ u) (codes "\n" ++ v) p.terms q.terms refl refl (append_cancel_left (codes " = ") _ _ n.1) in
      (λ i. record { name = n.0 i; terms = t.0 i }, append_cancel_left (codes "\n") u v t.1);
}

-- the first byte of the number of an equation
abbrev pub begins_number : ℕ → Bool
begins_number c = c == 69

-- the line of an equation begins with it
pub equation_begins : (k : ℕ) (e : Equation) (u : List ℕ) → Begins begins_number (equation_text k e ++ u)
unfolding number_text equation_text
equation_begins k e u = refl

-- no line of an equation begins the last line
pub line_is_no_end : (k : ℕ) (e : Equation) (u : List ℕ) → equation_text k e ++ u ≡ codes "end\n" → ⊥
line_is_no_end k e u is = begins_apart begins_number _ (codes "end\n") (equation_begins k e u) refl is

-- the lines of equations, with the last line
pub lines_before : (k : ℕ) (e : Equation) (es : List Equation) → equations_text k (e ∷ es) ++ codes "end\n" ≡ equation_text k e ++ (equations_text (suc k) es ++ codes "end\n")
unfolding equations_text
lines_before k e es = append_assoc (equation_text k e) (equations_text (suc k) es) (codes "end\n")

-- equations that are numbered from k on are read off before the last line
pub equations_read : (k : ℕ) (ds es : List Equation) → Each IsEquation ds → Each IsEquation es → equations_text k ds ++ codes "end\n" ≡ equations_text k es ++ codes "end\n" → ds ≡ es
unfolding equations_text
equations_read k [] [] p q is = refl
equations_read k [] (e ∷ es) p q is = absurd (line_is_no_end k e _ (sym (is ∙ lines_before k e es)))
equations_read k (d ∷ ds) [] p q is = absurd (line_is_no_end k d _ (sym (lines_before k d ds) ∙ is))
equations_read k (d ∷ ds) (e ∷ es) p q is =
    let first = (equation_read k).one d e _ _ (p d (inl refl)) (q e (inl refl)) tt tt (sym (lines_before k d ds) ∙ is ∙ lines_before k e es) in
    let rest = equations_read (suc k) ds es (λ x i. p x (inr i)) (λ x i. q x (inr i)) first.1 in
    (λ i. first.0 i ∷ rest i)

-- seven texts before another
pub group_of_seven : (a b c d e f g u : List ℕ) → (a ++ (b ++ (c ++ (d ++ (e ++ (f ++ g)))))) ++ u ≡ a ++ (b ++ (c ++ (d ++ (e ++ (f ++ (g ++ u))))))
group_of_seven a b c d e f g u = simp append_assoc

-- the first line, with what follows
pub counts_before : (x m n : ℕ) (u : List ℕ)
    → counts_text x m n ++ u ≡ codes "system " ++ (decimal x ++ (codes " equations " ++ (decimal m ++ (codes " terms " ++ (decimal n ++ (codes "\n" ++ u))))))
unfolding counts_text
counts_before x m n u = group_of_seven (codes "system ") (decimal x) (codes " equations ") (decimal m) (codes " terms ") (decimal n) (codes "\n") u

-- the version, and what follows the first line, are known
pub after_counts : (x m n y k l : ℕ) (u v : List ℕ) → counts_text x m n ++ u ≡ counts_text y k l ++ v → (decimal x ≡ decimal y) × (u ≡ v)
after_counts x m n y k l u v e =
    let whole = append_cancel_left (codes "system ") _ _ (sym (counts_before x m n u) ∙ e ∙ counts_before y k l v) in
    let version = cut_once is_no_digit (decimal x) (decimal y) (codes " equations " ++ (decimal m ++ (codes " terms " ++ (decimal n ++ (codes "\n" ++ u)))))
    (codes " equations " ++ (decimal k ++ (codes " terms " ++ (decimal l ++ (codes "\n" ++ v))))) (numeral_free x) (numeral_free y) refl refl whole in
    let after = append_cancel_left (codes " equations ") _ _ version.1 in
    let equations = cut_once is_no_digit (decimal m) (decimal k) (codes " terms " ++ (decimal n ++ (codes "\n" ++ u))) (codes " terms " ++ (decimal l ++ (codes "\n" ++ v))) (numeral_free m) (numeral_free k) refl refl after in
    let terms = cut_once is_no_digit (decimal n) (decimal l) (codes "\n" ++ u) (codes "\n" ++ v) (numeral_free n) (numeral_free l) refl refl (append_cancel_left (codes " terms ") _ _ equations.1) in
    (version.0, append_cancel_left (codes "\n") u v terms.1)

-- the equations of a system can be read
pub system_equations : (S : System) → IsWellFormed S → AreNamedByWords S → Each IsEquation S.equations
system_equations S formed named e i =
    let s = at_In S.equations e e i in
    let words : IsMadeOfWords e.name = subst (λ (x : Equation). IsMadeOfWords x.name) s.2 (named s.0 e s.1) in
    record {
      name = record { avoid = perms_short e.name.avoid words.avoided; require = perms_short e.name.require words.required };
      terms = λ t j. some_term (length S.equations) t formed.few (formed.terms e t i j);
    }

-- two different pairs of a version and a system have different texts
pub system_text_once : SystemTextLaw
unfolding system_text
system_text_once m n S T small_m small_n formed_S formed_T named_S named_T e =
    let rest = after_counts m (length S.equations) (terms_count S.equations) n (length T.equations) (terms_count T.equations) _ _ e in
    let same = equations_read 0 S.equations T.equations (system_equations S formed_S named_S) (system_equations T formed_T named_T) rest.1 in
    (numeral_once m n (omega arith) (omega arith) rest.0, λ i. record { equations = same i })
