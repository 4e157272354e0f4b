-- The test for well-formed systems tests them.
use Rattle.std.proofs.Common.{◌≡◌, inl, inr, ℕ, ◌≤◌, ◌^◌, true, ◌&&◌, ◌||◌, List, length, nat_eq, nat_le, nat_lt, refl, ap, eq-eqb, eqb-true, lt-ltb, arith}
use Rattle.std.specs.List.{list_all}
use Rattle.std.proofs.lemmas.Bool.{and_parts, and_from, or_cases, or_right, ltb-true, le-leb, leb-true}
use Rattle.av_perm.specs.declared.limits.TheConstants.{MAX_ROOT_LENGTH}
use Rattle.av_perm.specs.Lists.{same}
use Rattle.av_perm.specs.Word.{is_word}
use Rattle.av_perm.specs.WordOrder.{word_same}
use Rattle.av_perm.specs.Simple.{is_simple}
use Rattle.av_perm.specs.Relations.{IsWord, IsSimple, sum_root, skew_root}
use Rattle.av_perm.proofs.Tests.{all_from, all_to}
use Rattle.av_perm.proofs.SimpleWords.{simple_law}
use Rattle.av_perm.proofs.WordTests.{word_from, word_to}
use Rattle.av_sys.specs.declared.terms.Term.{Term}
use Rattle.av_sys.specs.declared.terms.Term.TheVariants.{Point, Node}
use Rattle.av_sys.specs.declared.terms.System.{System}
use Rattle.av_sys.specs.Terms.{IsSystemRoot, IsTermOf, IsWellFormed, is_system_root, is_term_of, are_terms_of, well_formed}
use Rattle.av_sys.specs.Laws.{WellFormedLaw}

-- the test of a simple root
simple_from : (w : List ℕ) → (nat_le (length w) MAX_ROOT_LENGTH && (is_word w && is_simple w)) ≡ true → IsSimple w × (length w ≤ MAX_ROOT_LENGTH)
simple_from w e =
    let a = and_parts (nat_le (length w) MAX_ROOT_LENGTH) (is_word w && is_simple w) e in
    let b = and_parts (is_word w) (is_simple w) a.1 in
    ((simple_law w (word_from w b.0).numbers).0 b.1, leb-true (length w) MAX_ROOT_LENGTH a.0)

simple_to : (w : List ℕ) → IsSimple w → length w ≤ MAX_ROOT_LENGTH → (nat_le (length w) MAX_ROOT_LENGTH && (is_word w && is_simple w)) ≡ true
simple_to w s h =
    and_from (nat_le (length w) MAX_ROOT_LENGTH) (is_word w && is_simple w) (le-leb (length w) MAX_ROOT_LENGTH h)
    (and_from (is_word w) (is_simple w) (word_to w word) ((simple_law w s.numbers).1 s))
  where
    word : IsWord w
    word = record { numbers = s.numbers; filled = omega (arith, s.long) }

-- the test of a root
pub root_from : (w : List ℕ) → is_system_root w ≡ true → IsSystemRoot w
root_from w e = elim (or_cases (same w sum_root) (same w skew_root || (nat_le (length w) MAX_ROOT_LENGTH && (is_word w && is_simple w))) e) [
  | inl h ↦ inl (word_same w sum_root h)
  | inr h ↦ elim (or_cases (same w skew_root) (nat_le (length w) MAX_ROOT_LENGTH && (is_word w && is_simple w)) h) [
    | inl k ↦ inr (inl (word_same w skew_root k))
    | inr k ↦ inr (inr (simple_from w k))
  ]
]

pub root_to : (w : List ℕ) → IsSystemRoot w → is_system_root w ≡ true
root_to w (inl e) = ap is_system_root e
root_to w (inr (inl e)) = ap is_system_root e
root_to w (inr (inr s)) =
    or_right (same w sum_root) (same w skew_root || (nat_le (length w) MAX_ROOT_LENGTH && (is_word w && is_simple w)))
    (or_right (same w skew_root) (nat_le (length w) MAX_ROOT_LENGTH && (is_word w && is_simple w)) (simple_to w s.0 s.1))

-- the test of a term
term_from : (n : ℕ) (t : Term) → is_term_of n t ≡ true → IsTermOf n t
term_from n Point e = tt
term_from n (Node root children) e =
    let a = and_parts (is_system_root root) (nat_eq (length children) (length root) && list_all (λ c. nat_lt c n) children) e in
    let b = and_parts (nat_eq (length children) (length root)) (list_all (λ c. nat_lt c n) children) a.1 in
    record {
      rooted = root_from root a.0;
      count = eqb-true (length children) (length root) b.0;
      numbers = λ c i. ltb-true c n (all_from (λ c. nat_lt c n) children b.1 c i);
    }

term_to : (n : ℕ) (t : Term) → IsTermOf n t → is_term_of n t ≡ true
term_to n Point h = refl
term_to n (Node root children) h =
    and_from (is_system_root root) (nat_eq (length children) (length root) && list_all (λ c. nat_lt c n) children) (root_to root h.rooted)
    (and_from (nat_eq (length children) (length root)) (list_all (λ c. nat_lt c n) children) (eq-eqb (length children) (length root) h.count)
    (all_to (λ c. nat_lt c n) children (λ c i. lt-ltb c n (h.numbers c i))))

-- the test of a system
form_from : (S : System) → well_formed S ≡ true → IsWellFormed S
unfolding well_formed
form_from S e =
    let n : ℕ = length S.equations in
    let a = and_parts (nat_le 1 n) (nat_lt n (2 ^ 32) && list_all (λ e. are_terms_of n e.terms) S.equations) e in
    let b = and_parts (nat_lt n (2 ^ 32)) (list_all (λ e. are_terms_of n e.terms) S.equations) a.1 in
    record {
      some = leb-true 1 n a.0;
      few = ltb-true n (2 ^ 32) b.0;
      terms = λ e t i j. term_from n t (all_from (is_term_of n) e.terms (all_from (λ e. are_terms_of n e.terms) S.equations b.1 e i) t j);
    }

form_to : (S : System) → IsWellFormed S → well_formed S ≡ true
unfolding well_formed
form_to S h =
    let n : ℕ = length S.equations in
    and_from (nat_le 1 n) (nat_lt n (2 ^ 32) && list_all (λ e. are_terms_of n e.terms) S.equations) (le-leb 1 n h.some)
    (and_from (nat_lt n (2 ^ 32)) (list_all (λ e. are_terms_of n e.terms) S.equations) (lt-ltb n (2 ^ 32) h.few)
    (all_to (λ e. are_terms_of n e.terms) S.equations (λ e i. all_to (is_term_of n) e.terms (λ t j. term_to n t (h.terms e t i j)))))

pub well_formed_law : WellFormedLaw
well_formed_law S = (form_from S, form_to S)
