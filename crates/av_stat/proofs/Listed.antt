-- A statistic is small, and the items of a lister come one after another.
use Rattle.std.proofs.Common.{◌≡◌, ℕ, ◌+◌, ◌<◌, ◌≤◌, ◌^◌, true, List, [], ◌∷◌, ◌++◌, length, sym, ap, ◌∙◌, arith, append_assoc, append-nil}
use Rattle.std.proofs.lemmas.List.{length-append, length-map, map-append}
use Rattle.av_perm.specs.Stat.{statistic_of, left_to_right_maxima}
use Rattle.av_perm.specs.Word.{is_perm}
use Rattle.av_perm.specs.declared.StatKind.{StatKind}
use Rattle.av_perm.specs.declared.StatKind.TheVariants.{Inv, Des, Lrm}
use Rattle.av_perm.proofs.PermWords.{perm_short}
use Rattle.av_perm.proofs.StatCounts.{inversions_few, descents_few, maxima_few}
use Rattle.av_bars.specs.Histograms.{how_many}
use Rattle.av_bars.proofs.Counted.{how_many_few}
use Rattle.av_stat.specs.Listed.{words_of}

-- the statistic of a word of at most 160 entries
pub statistic_few : (kind : StatKind) (w : List ℕ) → is_perm w ≡ true → statistic_of kind w ≤ 12720
statistic_few Inv w h = inversions_few w (perm_short w h)
statistic_few Des w h = omega (arith, descents_few w, perm_short w h)
statistic_few Lrm w h = let m : left_to_right_maxima w ≤ length w = maxima_few w (length w) in omega (arith, m, perm_short w h)

-- the words of items, and of one more
pub words_more : (items : List (ℕ × List ℕ)) (i : ℕ × List ℕ) → words_of (items ++ i ∷ []) ≡ words_of items ++ i.1 ∷ []
words_more items i = map-append (λ (j : ℕ × List ℕ). j.1) items (i ∷ [])

-- the items that came, with the next one, and those that are left
pub turn : (done left rest all : List (ℕ × List ℕ)) (i : ℕ × List ℕ) → done ++ left ≡ all → left ≡ i ∷ rest → (done ++ i ∷ []) ++ rest ≡ all
turn done left rest all i e f = append_assoc done (i ∷ []) rest ∙ ap (λ (z : List (ℕ × List ℕ)). done ++ z) (sym f) ∙ e

-- one more than those among them that have a value fits
pub room : (kind : StatKind) (done left rest all : List (ℕ × List ℕ)) (i : ℕ × List ℕ) (v : ℕ) → done ++ left ≡ all → left ≡ i ∷ rest → length all < 2 ^ 64
    → how_many kind (words_of done) v + 1 < 2 ^ 64
room kind done left rest all i v e f few =
    omega (arith, how_many_few kind (words_of done) v, length-map done (λ (j : ℕ × List ℕ). j.1), length-append done left, ap length e, ap length f, few)

-- all came
pub all_came : (done left all : List (ℕ × List ℕ)) → done ++ left ≡ all → left ≡ [] → done ≡ all
all_came done left all e f = sym (append-nil done) ∙ ap (λ (z : List (ℕ × List ℕ)). done ++ z) (sym f) ∙ e
