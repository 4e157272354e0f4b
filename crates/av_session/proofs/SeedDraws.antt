-- The draws of a seed, one after another: their lines, and what a statistic says of them.
use Rattle.std.proofs.Common.{◌≡◌, ℕ, suc, ◌+◌, ◌-◌, ◌^◌, ◌<◌, ◌≤◌, min, max, List, [], ◌∷◌, ◌++◌, length, map, flat_map, fold, sum, get_or, slice_get, nat_lt, Bool, true, false, Option, Some, None, refl, sym, ap, ◌∙◌, subst, arith, add-one}
use Rattle.std.specs.Io.KnownBytes.{Appends}
use Rattle.std.proofs.lemmas.List.Sums.{sum_by-cons}
use Rattle.std.proofs.lemmas.Option.{slice_get-get_or}
use Rattle.av_perm.specs.Lists.{counting}
use Rattle.av_perm.specs.Stat.{statistic_of}
use Rattle.av_perm.specs.declared.StatKind.{StatKind}
use Rattle.av_sys.specs.declared.terms.System.{System}
use Rattle.av_sys.specs.TreeLists.{members, count_of}
use Rattle.av_count.specs.declared.count.Count.TheVariants.{Known, Over}
use Rattle.av_count.specs.Counts.{capped}
use Rattle.av_count.proofs.ClassMembers.{count_members_of}
use Rattle.av_print.specs.Text.{ranked_text}
use Rattle.av_print.specs.Wrote.{AppendsPart}
use Rattle.av_print.proofs.Written.{AppendsUpTo, up_to_part_of, up_to_next, up_to_end}
use Rattle.av_session.specs.declared.draws.Summary.{Summary}
use Rattle.av_session.specs.Answers.{row_text, draws_text}
use Rattle.av_session.specs.Drawing.{draw, draws, drawn_values, least_of, greatest_of, summary_text}
use Rattle.av_session.specs.Shown.{summary_shown}

-- a count that is known is the number of the members
known_is : (n c : ℕ) → capped n ≡ Known c → n ≡ c
unfolding capped
known_is n c e = by (nat_lt n (2 ^ 128)) refl e
  where
    by : (b : Bool) → nat_lt n (2 ^ 128) ≡ b → capped n ≡ Known c → n ≡ c
    by true h f = let g : Known n ≡ Known c = rw h at f in cc
    by false h f = absurd (let g : Over ≡ Known c = rw h at f in cc)

pub known_members : (S : System) (n c : ℕ) → capped (count_of S n) ≡ Known c → c ≡ length (members S n)
known_members S n c e = sym (known_is (count_of S n) c e) ∙ count_members_of S n

-- the word at a place that is there
pub word_there : (ws : List (List ℕ)) (r : ℕ) (w : List ℕ) → r < length ws → slice_get ws r ≡ Some w → w ≡ get_or ws r []
word_there ws r w h e = let f : Some w ≡ Some (get_or ws r []) = sym e ∙ slice_get-get_or ws r [] h in cc

pub none_there : (ws : List (List ℕ)) (r : ℕ) → r < length ws → slice_get ws r ≡ None → ⊥
none_there ws r h e = let f : None ≡ Some (get_or ws r []) = sym e ∙ slice_get-get_or ws r [] h in cc

-- the lines from draw d on, of k draws
abbrev pub rows_left : List (List ℕ) → ℕ → ℕ → ℕ → List ℕ
rows_left ws seed d k = flat_map row_text (map (draw ws seed) (counting d (k - d)))

-- the next line is the first of them
next_left : (ws : List (List ℕ)) (seed d k r : ℕ) (w : List ℕ) (old mid : Option (List ℕ)) (text : List ℕ) → d < k → r ≡ (draw ws seed d).0 → w ≡ (draw ws seed d).1
    → AppendsUpTo old mid text (rows_left ws seed d k) → AppendsUpTo old mid text (ranked_text r w ++ rows_left ws seed (d + 1) k)
next_left ws seed d k r w old mid text h e f u =
    let n : k - d ≡ suc (k - (d + 1)) = omega arith in
    let first : rows_left ws seed d k ≡ row_text (draw ws seed d) ++ rows_left ws seed (d + 1) k =
    ap (λ j. flat_map row_text (map (draw ws seed) (counting d j))) n
    ∙ ap (λ i. row_text (draw ws seed d) ++ flat_map row_text (map (draw ws seed) (counting i (k - (d + 1))))) (sym (add-one d)) in
    let row : row_text (draw ws seed d) ≡ ranked_text r w = ap (λ x. ranked_text x (draw ws seed d).1) (sym e) ∙ ap (ranked_text r) (sym f) in
    subst (AppendsUpTo old mid text) (first ∙ ap (λ s. s ++ rows_left ws seed (d + 1) k) row) u

pub draws_turn : (ws : List (List ℕ)) (seed d k r : ℕ) (w : List ℕ) (old mid new : Option (List ℕ)) (text : List ℕ) → d < k → r ≡ (draw ws seed d).0 → w ≡ (draw ws seed d).1
    → AppendsUpTo old mid text (rows_left ws seed d k) → Appends mid new (ranked_text r w) → AppendsUpTo old new text (rows_left ws seed (d + 1) k)
draws_turn ws seed d k r w old mid new text h e f u a =
    up_to_next old mid new text (ranked_text r w) (rows_left ws seed (d + 1) k) (next_left ws seed d k r w old mid text h e f u) a

pub draws_fault : (ws : List (List ℕ)) (seed d k r : ℕ) (w : List ℕ) (old mid new : Option (List ℕ)) (text : List ℕ) → d < k → r ≡ (draw ws seed d).0 → w ≡ (draw ws seed d).1
    → AppendsUpTo old mid text (rows_left ws seed d k) → AppendsPart mid new (ranked_text r w) → AppendsPart old new text
draws_fault ws seed d k r w old mid new text h e f u p =
    up_to_part_of old mid new text (ranked_text r w) (rows_left ws seed (d + 1) k) (next_left ws seed d k r w old mid text h e f u) p

pub draws_end : (ws : List (List ℕ)) (seed d k : ℕ) (old new : Option (List ℕ)) (text : List ℕ) → k ≤ d → AppendsUpTo old new text (rows_left ws seed d k) → Appends old new text
draws_end ws seed d k old new text h u =
    let n : k - d ≡ 0 = omega arith in up_to_end old new text (rows_left ws seed d k) u (ap (λ j. flat_map row_text (map (draw ws seed) (counting d j))) n)

-- all lines are those from draw 0 on
pub draws_all : (S : System) (n seed k : ℕ) → draws_text S n seed k ≡ rows_left (members S n) seed 0 k
unfolding draws_text
draws_all S n seed k = let e : k ≡ k - 0 = omega arith in ap (λ j. flat_map row_text (map (draw (members S n) seed) (counting 0 j))) e

-- the values from draw d on, of k draws
abbrev pub values_left : StatKind → List (List ℕ) → ℕ → ℕ → ℕ → List ℕ
values_left t ws seed d k = drawn_values t (map (draw ws seed) (counting d (k - d)))

values_next : (t : StatKind) (ws : List (List ℕ)) (seed d k : ℕ) → d < k → values_left t ws seed d k ≡ statistic_of t (draw ws seed d).1 ∷ values_left t ws seed (d + 1) k
values_next t ws seed d k h =
    let n : k - d ≡ suc (k - (d + 1)) = omega arith in
    ap (λ j. drawn_values t (map (draw ws seed) (counting d j))) n
    ∙ ap (λ i. statistic_of t (draw ws seed d).1 ∷ drawn_values t (map (draw ws seed) (counting i (k - (d + 1))))) (sym (add-one d))

values_all : (t : StatKind) (ws : List (List ℕ)) (seed k : ℕ) → drawn_values t (draws ws seed k) ≡ values_left t ws seed 0 k
values_all t ws seed k = let e : k ≡ k - 0 = omega arith in ap (λ j. drawn_values t (map (draw ws seed) (counting 0 j))) e

-- a summary of all numbers but those that are left
pub record IsSummaryBefore (all left : List ℕ) (s : Summary) : Type 0 where
  pub least : fold min s.least left ≡ least_of all
  pub most : fold max s.most left ≡ greatest_of all
  pub total : s.total + sum left ≡ sum all

-- that of the first value
pub summary_first : (t : StatKind) (ws : List (List ℕ)) (seed k v : ℕ) (s : Summary) → 1 ≤ k → v ≡ statistic_of t (draw ws seed 0).1 → s ≡ record { least = v; most = v; total = v }
    → IsSummaryBefore (drawn_values t (draws ws seed k)) (values_left t ws seed 1 k) s
summary_first t ws seed k v s h e f =
    let all : drawn_values t (draws ws seed k) ≡ v ∷ values_left t ws seed 1 k =
    values_all t ws seed k ∙ values_next t ws seed 0 k (omega arith) ∙ ap (λ x. x ∷ values_left t ws seed 1 k) (sym e) in
    rw (all, f) (record { least = refl; most = refl; total = sym (sum_by-cons (λ x. x) v (values_left t ws seed 1 k)) })

-- one value more
with_next : (all left : List ℕ) (v : ℕ) (s r : Summary) → r.least ≡ min s.least v → r.most ≡ max s.most v → r.total ≡ s.total + v
    → IsSummaryBefore all (v ∷ left) s → IsSummaryBefore all left r
with_next all left v s r least most total is = record {
  least = ap (λ x. fold min x left) least ∙ is.least;
  most = ap (λ x. fold max x left) most ∙ is.most;
  total = omega (arith, sum_by-cons (λ x. x) v left, is.total, total);
}

pub summary_next : (t : StatKind) (ws : List (List ℕ)) (seed d k v : ℕ) (all : List ℕ) (s r : Summary) → d < k → v ≡ statistic_of t (draw ws seed d).1
    → r.least ≡ min s.least v → r.most ≡ max s.most v → r.total ≡ s.total + v
    → IsSummaryBefore all (values_left t ws seed d k) s → IsSummaryBefore all (values_left t ws seed (d + 1) k) r
summary_next t ws seed d k v all s r h e least most total is =
    with_next all (values_left t ws seed (d + 1) k) v s r least most total
    (subst (λ xs. IsSummaryBefore all xs s) (values_next t ws seed d k h ∙ ap (λ x. x ∷ values_left t ws seed (d + 1) k) (sym e)) is)

-- of all values
of_none_left : (all : List ℕ) (s : Summary) → IsSummaryBefore all [] s → summary_shown s ≡ summary_text all
unfolding summary_text
of_none_left all s is = let total : s.total ≡ sum all = omega (arith, is.total) in rw (is.least, is.most, total) refl

pub summary_end : (t : StatKind) (ws : List (List ℕ)) (seed d k : ℕ) (all : List ℕ) (s : Summary) → k ≤ d → IsSummaryBefore all (values_left t ws seed d k) s → summary_shown s ≡ summary_text all
summary_end t ws seed d k all s h is =
    let n : k - d ≡ 0 = omega arith in
    of_none_left all s (subst (λ j. IsSummaryBefore all (drawn_values t (map (draw ws seed) (counting d j))) s) n is)
