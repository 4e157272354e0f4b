-- The statistics of the members of an equation are those of its terms in turn, and each is below the width of the row.
use Rattle.std.proofs.Common.{◌≡◌, ℕ, zero, suc, ◌+◌, ◌-◌, ◌*◌, ◌/◌, ◌<◌, ◌≤◌, List, [], ◌∷◌, map, length, cond, true, false, Bool, refl, sym, ap, ◌∙◌, subst, arith, flat_map, nat_lt, nat_eq, count_by, ◌==◌, Option, Some, None}
use Rattle.std.proofs.lemmas.List.{length-map}
use Rattle.std.proofs.lemmas.List.Sums.{length-filter}
use Rattle.av_perm.specs.Lists.{counting}
use Rattle.av_perm.specs.Members.{In}
use Rattle.av_perm.specs.Stat.{descents}
use Rattle.av_perm.specs.Inflate.{inflate}
use Rattle.av_perm.proofs.Membership.{In_map, at_In}
use Rattle.av_perm.proofs.ListLaws.{map_flat_map}
use Rattle.av_perm.proofs.StatCounts.{pairs_of, inversions_within}
use Rattle.av_sys.specs.declared.terms.Term.{Term}
use Rattle.av_sys.specs.declared.terms.Term.TheVariants.{Point, Node}
use Rattle.av_sys.specs.declared.terms.System.{System}
use Rattle.av_sys.specs.Terms.{terms_at, term_at, IsWellFormed}
use Rattle.av_sys.specs.TreeLists.{members_at, count_at}
use Rattle.av_text.specs.declared.queries.DistKind.{DistKind}
use Rattle.av_text.specs.declared.queries.DistKind.TheVariants.{Inv, Des}
use Rattle.av_count.specs.Members.{term_words}
use Rattle.av_count.specs.Choices.{choice_lists}
use Rattle.av_count.proofs.Choices.{choices_grown, flat_map_same}
use Rattle.av_count.proofs.Members.{map_map, members_by_terms, count_members}
use Rattle.av_count.proofs.NodeForms.{node_form}
use Rattle.av_bars.specs.Histograms.{how_many}
use Rattle.av_tree.proofs.TreeWords.{IsWordOfLength, member_word}
use Rattle.av_dist.specs.Kinds.{statistic_by, statistics_at}
use Rattle.av_dist.specs.Crossing.{added}
use Rattle.av_dist.specs.Distributions.{number_with}
use Rattle.av_dist.specs.Rows.{how_often, width}
use Rattle.av_dist.specs.Totals.{totals, term_statistics}
use Rattle.av_dist.specs.Tables.{Stands}
use Rattle.av_dist.proofs.HowOften.{count_cons, how_often_cons, how_often_above}
use Rattle.av_dist.proofs.NodeWords.{choices_totals}

-- as many as members
pub length_statistics : (k : DistKind) (S : System) (u n : ℕ) → length (statistics_at k S u n) ≡ count_at S u n
unfolding statistics_at
length_statistics k S u n = length-map (members_at S u n) (statistic_by k) ∙ count_members S u n

-- how many members have a value is how often it stands among their statistics
pub number_often : (k : DistKind) (S : System) (u n v : ℕ) → number_with k S u n v ≡ how_often (statistics_at k S u n) v
unfolding statistics_at how_many
number_often k S u n v = length-filter (λ w. nat_eq (statistic_by k w) v) (members_at S u n) ∙ mapped (statistic_by k) (members_at S u n)
  where
    mapped : (f : List ℕ → ℕ) (ws : List (List ℕ)) → count_by (λ w. nat_eq (f w) v) ws ≡ how_often (map f ws) v
    mapped f [] = refl
    mapped f (w ∷ ws) =
        count_cons (λ w. nat_eq (f w) v) w ws ∙ ap (λ n. cond {A = ℕ} (nat_eq (f w) v) 1 0 + n) (mapped f ws) ∙ sym (how_often_cons v (f w) (map f ws))

-- a member of an equation of a size is a word of this length
pub member_is : (S : System) → IsWellFormed S → (u n : ℕ) (w : List ℕ) → In w (members_at S u n) → IsWordOfLength n w
member_is S f u n w i =
    let r = at_In (members_at S u n) w [] i in
    subst (IsWordOfLength n) r.2 (member_word S f u n r.0 (let e = count_members S u n in let l = r.1 in omega arith))

-- the statistics of a point, and of a node
point_statistics : (k : DistKind) (b : Bool) → map (statistic_by k) (cond b ((1 ∷ []) ∷ []) []) ≡ cond b (0 ∷ []) []
point_statistics Inv true = refl
point_statistics Inv false = refl
point_statistics Des true = refl
point_statistics Des false = refl

node_words : (k : DistKind) (S : System) → IsWellFormed S → (u t n : ℕ) (root cs : List ℕ) → term_at S u t ≡ Some (Node root cs)
    → map (statistic_by k) (map (inflate root) (choice_lists (members_at S) cs n)) ≡ totals (added k root) (statistics_at k S) cs [] (0 ∷ []) n
unfolding statistics_at
node_words k S f u t n root cs e =
    let g = node_form S u t root cs f e in
    map_map (statistic_by k) (inflate root) (choice_lists (members_at S) cs n)
    ∙ ap (map (λ p. statistic_by k (inflate root p))) (choices_grown (members_at S) cs n)
    ∙ choices_totals k root (members_at S) g.word (member_is S f) cs n (sym g.long)

term_statistics_are : (k : DistKind) (S : System) (l : ℕ) → IsWellFormed S → (u t n : ℕ) (o : Option Term) → term_at S u t ≡ o
    → map (statistic_by k) (term_words S n o) ≡ term_statistics (record { system = S; kind = k; largest = l }) n o
term_statistics_are k S l f u t n None e = refl
term_statistics_are k S l f u t n (Some Point) e = point_statistics k (n == 1)
term_statistics_are k S l f u t n (Some (Node root cs)) e = node_words k S f u t n root cs e

-- the statistics of the words of the first k terms of an equation of a system, which a table stands for
abbrev pub of_terms : Stands → System → ℕ → ℕ → ℕ → List ℕ
of_terms s S u n k = flat_map (λ t. term_statistics s n (term_at S u t)) (counting 0 k)

-- those of all its members
pub statistics_by_terms : (s : Stands) (S : System) → s.system ≡ S → IsWellFormed S → (u n : ℕ)
    → statistics_at s.kind S u n ≡ of_terms s S u n (length (terms_at S u))
unfolding statistics_at
statistics_by_terms s S e =
    subst (λ (Z : System). IsWellFormed Z → (u n : ℕ) → statistics_at s.kind Z u n ≡ of_terms s Z u n (length (terms_at Z u))) e (own s)
  where
    own : (s : Stands) → IsWellFormed s.system → (u n : ℕ) → statistics_at s.kind s.system u n ≡ of_terms s s.system u n (length (terms_at s.system u))
    own s f u n =
        ap (map (statistic_by s.kind)) (members_by_terms s.system f u n)
        ∙ map_flat_map (statistic_by s.kind) (λ t. term_words s.system n (term_at s.system u t)) (counting 0 (length (terms_at s.system u)))
        ∙ flat_map_same _ _ (counting 0 (length (terms_at s.system u))) (λ t. term_statistics_are s.kind s.system s.largest f u t n (term_at s.system u t) refl)

pairs_double : (n : ℕ) → 2 * pairs_of (suc n) ≡ suc n * n
unfolding pairs_of
pairs_double zero = omega arith
pairs_double (suc n) = step n (n + pairs_of n) (pairs_double n)
  where
    step : (n t : ℕ) → 2 * t ≡ suc n * n → 2 * (suc n + t) ≡ suc (suc n) * suc n
    step n t h = omega arith

pairs_width : (n : ℕ) → pairs_of n + 1 ≡ width n
unfolding pairs_of
pairs_width zero = refl
pairs_width (suc n) =
    let e : suc n - 1 ≡ n = omega arith in
    let h : 2 * (n + pairs_of n) ≡ suc n * (suc n - 1) = pairs_double n ∙ ap (λ j. suc n * j) (sym e) in
    half (n + pairs_of n) (suc n * (suc n - 1)) h
  where
    half : (p m : ℕ) → 2 * p ≡ m → p + 1 ≡ m / 2 + 1
    half p m h = omega arith

-- the statistics of a word are at most the number of pairs of its places
descents_within : (w : List ℕ) → descents w ≤ pairs_of (length w)
unfolding pairs_of
descents_within [] = omega arith
descents_within (x ∷ []) = omega arith
descents_within (x ∷ y ∷ w) = let h = descents_within (y ∷ w) in let s = small (nat_lt y x) in omega arith
  where
    small : (b : Bool) → cond {A = ℕ} b 1 0 ≤ 1
    small true = omega arith
    small false = omega arith

statistic_within : (k : DistKind) (w : List ℕ) → statistic_by k w < width (length w)
statistic_within Inv w = omega (arith, inversions_within w, pairs_width (length w))
statistic_within Des w = omega (arith, descents_within w, pairs_width (length w))

-- so no value from the width on stands among the statistics
pub none_past : (k : DistKind) (S : System) → IsWellFormed S → (u n v : ℕ) → width n ≤ v → how_often (statistics_at k S u n) v ≡ 0
unfolding statistics_at
none_past k S f u n v h = how_often_above v (map (statistic_by k) (members_at S u n)) (λ x i.
    let r = In_map (statistic_by k) (members_at S u n) x i in
    let m = (member_is S f u n r.0 r.1).long in
    let s : statistic_by k r.0 < width n = subst (λ j. statistic_by k r.0 < width j) m (statistic_within k r.0) in
    let e = r.2 in
    omega (s, e, h, arith))
