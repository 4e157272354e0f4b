-- Worked values of the definitions, by computation.
use Rattle.std.proofs.Common.{◌≡◌, ℕ, List, [], ◌∷◌, ◌++◌, refl, true, false, length, map}
use Rattle.std.specs.Prelude.{Some, None}
use Rattle.std.specs.declared.cmp.Ordering.TheVariants.{Less, Greater}
use Rattle.av_perm.specs.Lists.{choices, all_lists, products, size_lists, counting}
use Rattle.av_perm.specs.Word.{arrangements, words, is_word, fault_place, shortlex}
use Rattle.av_perm.specs.Contain.{occurrences, contains, first_occurrence}
use Rattle.av_perm.specs.Class.{minimal, maximal, top, class_at, class_with_at, in_shortlex}
use Rattle.av_perm.specs.Pattern.{pattern_of}
use Rattle.av_perm.specs.Inflate.{inflate}
use Rattle.av_perm.specs.Simple.{is_simple, is_sum_indecomposable, is_skew_indecomposable}
use Rattle.av_perm.specs.Gap.{simples, gap, simples_below, IsSettled, IsUnsettled}
use Rattle.av_perm.specs.Stat.{inversions, descents, left_to_right_maxima}

-- opens every definition at once
abbrev opened : Unit {0}
unfolding choices all_lists products size_lists arrangements fault_place occurrences contains first_occurrence is_simple is_sum_indecomposable is_skew_indecomposable simples gap simples_below
opened = tt

-- short words by name
abbrev w1 : List ℕ
w1 = 1 ∷ []

abbrev w12 : List ℕ
w12 = 1 ∷ 2 ∷ []

abbrev w21 : List ℕ
w21 = 2 ∷ 1 ∷ []

abbrev w123 : List ℕ
w123 = 1 ∷ 2 ∷ 3 ∷ []

abbrev w132 : List ℕ
w132 = 1 ∷ 3 ∷ 2 ∷ []

abbrev w213 : List ℕ
w213 = 2 ∷ 1 ∷ 3 ∷ []

abbrev w231 : List ℕ
w231 = 2 ∷ 3 ∷ 1 ∷ []

abbrev w312 : List ℕ
w312 = 3 ∷ 1 ∷ 2 ∷ []

abbrev w321 : List ℕ
w321 = 3 ∷ 2 ∷ 1 ∷ []

abbrev w2143 : List ℕ
w2143 = 2 ∷ 1 ∷ 4 ∷ 3 ∷ []

abbrev w2413 : List ℕ
w2413 = 2 ∷ 4 ∷ 1 ∷ 3 ∷ []

abbrev w3142 : List ℕ
w3142 = 3 ∷ 1 ∷ 4 ∷ 2 ∷ []

abbrev w24153 : List ℕ
w24153 = 2 ∷ 4 ∷ 1 ∷ 5 ∷ 3 ∷ []

abbrev w25314 : List ℕ
w25314 = 2 ∷ 5 ∷ 3 ∷ 1 ∷ 4 ∷ []

abbrev w31524 : List ℕ
w31524 = 3 ∷ 1 ∷ 5 ∷ 2 ∷ 4 ∷ []

abbrev w35142 : List ℕ
w35142 = 3 ∷ 5 ∷ 1 ∷ 4 ∷ 2 ∷ []

abbrev w41352 : List ℕ
w41352 = 4 ∷ 1 ∷ 3 ∷ 5 ∷ 2 ∷ []

abbrev w42513 : List ℕ
w42513 = 4 ∷ 2 ∷ 5 ∷ 1 ∷ 3 ∷ []

-- the simple words of length 5, and those of length 6 that contain none of them
abbrev fives : List (List ℕ)
fives = w24153 ∷ w25314 ∷ w31524 ∷ w35142 ∷ w41352 ∷ w42513 ∷ []

abbrev sixes : List (List ℕ)
sixes = (2 ∷ 4 ∷ 6 ∷ 1 ∷ 3 ∷ 5 ∷ []) ∷ (3 ∷ 6 ∷ 2 ∷ 5 ∷ 1 ∷ 4 ∷ []) ∷ (4 ∷ 1 ∷ 5 ∷ 2 ∷ 6 ∷ 3 ∷ []) ∷ (5 ∷ 3 ∷ 1 ∷ 6 ∷ 4 ∷ 2 ∷ []) ∷ []

-- words, and the place of the first fault
word_2413 : is_word w2413 ≡ true
word_2413 = refl

no_word_1224 : is_word (1 ∷ 2 ∷ 2 ∷ 4 ∷ []) ≡ false
no_word_1224 = refl

no_word_empty : is_word [] ≡ false
no_word_empty = refl

fault_1224 : fault_place (1 ∷ 2 ∷ 2 ∷ 4 ∷ []) ≡ 3
unfolding opened
fault_1224 = refl

fault_103 : fault_place (1 ∷ 0 ∷ 3 ∷ []) ≡ 2
unfolding opened
fault_103 = refl

fault_14 : fault_place (1 ∷ 4 ∷ 4 ∷ []) ≡ 2
unfolding opened
fault_14 = refl

fault_empty : fault_place [] ≡ 1
unfolding opened
fault_empty = refl

-- the words of a length, and shortlex order
words_3 : words 3 ≡ w123 ∷ w132 ∷ w213 ∷ w231 ∷ w312 ∷ w321 ∷ []
unfolding opened
words_3 = refl

words_4 : length (words 4) ≡ 24
unfolding opened
words_4 = refl

shorter_first : shortlex w21 w123 ≡ Less
shorter_first = refl

then_by_entries : shortlex w213 w132 ≡ Greater
then_by_entries = refl

in_order : in_shortlex (w213 ∷ w12 ∷ w132 ∷ w12 ∷ []) ≡ w12 ∷ w132 ∷ w213 ∷ []
in_order = refl

-- patterns and inflations
pattern_of_gaps : pattern_of (30 ∷ 10 ∷ 40 ∷ 20 ∷ []) ≡ w3142
pattern_of_gaps = refl

inflation_2413 : inflate w2413 (w1 ∷ w1 ∷ w1 ∷ w312 ∷ []) ≡ 2 ∷ 6 ∷ 1 ∷ 5 ∷ 3 ∷ 4 ∷ []
inflation_2413 = refl

sum_213_21 : inflate w12 (w213 ∷ w21 ∷ []) ≡ 2 ∷ 1 ∷ 3 ∷ 5 ∷ 4 ∷ []
sum_213_21 = refl

skew_sum_12_1 : inflate w21 (w12 ∷ w1 ∷ []) ≡ w231
skew_sum_12_1 = refl

-- containment
occurrences_21 : occurrences w2143 w21 ≡ (1 ∷ 2 ∷ []) ∷ (3 ∷ 4 ∷ []) ∷ []
unfolding opened
occurrences_21 = refl

first_132 : first_occurrence w2143 w132 ≡ Some (1 ∷ 3 ∷ 4 ∷ [])
unfolding opened
first_132 = refl

first_132_itself : first_occurrence w132 w132 ≡ Some (1 ∷ 2 ∷ 3 ∷ [])
unfolding opened
first_132_itself = refl

no_12_in_321 : first_occurrence w321 w12 ≡ None
unfolding opened
no_12_in_321 = refl

contains_2413 : contains w24153 w2413 ≡ true
unfolding opened
contains_2413 = refl

avoids_3142 : contains w2413 w3142 ≡ false
unfolding opened
avoids_3142 = refl

-- classes
minimal_12 : minimal (w12 ∷ w12 ∷ w132 ∷ []) ≡ w12 ∷ []
unfolding opened
minimal_12 = refl

minimal_both : minimal (w213 ∷ w132 ∷ w2143 ∷ []) ≡ w132 ∷ w213 ∷ []
unfolding opened
minimal_both = refl

maximal_longest : maximal (w12 ∷ w213 ∷ w132 ∷ w2143 ∷ []) ≡ w2143 ∷ []
unfolding opened
maximal_longest = refl

top_without_1 : top (w1 ∷ w1 ∷ []) ≡ []
unfolding opened
top_without_1 = refl

top_longest : top (w1 ∷ w12 ∷ w213 ∷ w132 ∷ []) ≡ w132 ∷ w213 ∷ []
unfolding opened
top_longest = refl

class_132_at_3 : class_at (w132 ∷ []) 3 ≡ w123 ∷ w213 ∷ w231 ∷ w312 ∷ w321 ∷ []
unfolding opened
class_132_at_3 = refl

class_132_with_21 : class_with_at (w132 ∷ []) (w21 ∷ []) 3 ≡ w213 ∷ w231 ∷ w312 ∷ w321 ∷ []
unfolding opened
class_132_with_21 = refl

counts_132_with_21 : map (λ n. length (class_with_at (w132 ∷ []) (w21 ∷ []) n)) (counting 1 5) ≡ 0 ∷ 1 ∷ 4 ∷ 13 ∷ 41 ∷ []
unfolding opened
counts_132_with_21 = refl

counts_132 : map (λ n. length (class_at (w132 ∷ []) n)) (counting 1 5) ≡ 1 ∷ 2 ∷ 5 ∷ 14 ∷ 42 ∷ []
unfolding opened
counts_132 = refl

counts_three : map (λ n. length (class_at (w2143 ∷ w2413 ∷ w3142 ∷ []) n)) (counting 1 5) ≡ 1 ∷ 2 ∷ 6 ∷ 21 ∷ 79 ∷ []
unfolding opened
counts_three = refl

-- simple words, sums and skew sums
simples_4 : simples [] 4 ≡ w2413 ∷ w3142 ∷ []
unfolding opened
simples_4 = refl

simples_5 : simples [] 5 ≡ fives
unfolding opened
simples_5 = refl

sum_decomposable : is_sum_indecomposable w213 ≡ false
unfolding opened
sum_decomposable = refl

sum_indecomposable : is_sum_indecomposable w231 ≡ true
unfolding opened
sum_indecomposable = refl

skew_decomposable : is_skew_indecomposable w231 ≡ false
unfolding opened
skew_decomposable = refl

skew_indecomposable : is_skew_indecomposable w2413 ≡ true
unfolding opened
skew_indecomposable = refl

-- gaps
gap_132 : IsSettled (w132 ∷ []) 5 4
unfolding opened
gap_132 = refl

gap_1 : IsSettled (w1 ∷ []) 5 4
unfolding opened
gap_1 = refl

gap_three : IsSettled (w2143 ∷ w2413 ∷ w3142 ∷ []) 5 4
unfolding opened
gap_three = refl

gap_ten : IsSettled (fives ++ sixes) 6 5
unfolding opened
gap_ten = refl

unsettled_ten : IsUnsettled (fives ++ sixes) 5
unfolding opened
unsettled_ten = refl

-- one length without simple words isn't enough
unsettled_fives : IsUnsettled fives 6
unfolding opened
unsettled_fives = refl

simples_of_fives : simples fives 6 ≡ sixes
unfolding opened
simples_of_fives = refl

simples_below_5 : simples_below (fives ++ sixes) 5 ≡ w2413 ∷ w3142 ∷ []
unfolding opened
simples_below_5 = refl

-- statistics
inversions_231 : inversions w231 ≡ 2
inversions_231 = refl

inversions_321 : inversions w321 ≡ 3
inversions_321 = refl

descents_2143 : descents w2143 ≡ 2
descents_2143 = refl

descents_6 : descents (2 ∷ 6 ∷ 1 ∷ 4 ∷ 5 ∷ 3 ∷ []) ≡ 2
descents_6 = refl

maxima_6 : left_to_right_maxima (2 ∷ 6 ∷ 1 ∷ 4 ∷ 5 ∷ 3 ∷ []) ≡ 2
maxima_6 = refl

maxima_123 : left_to_right_maxima w123 ≡ 3
maxima_123 = refl
