-- What a script is about: the minimal words of its basis and the maximal of its required words make its class.
use Rattle.std.proofs.Common.{◌≡◌, ℕ, suc, ◌≤◌, ◌↔◌, ◌⊎◌, inl, inr, sym, subst, List, [], Ok, All, Option, Some, None, unwrap_or, refl, ap, arith}
use Rattle.std.specs.Option.{option_map}
use Rattle.std.proofs.lemmas.List.Elements.{All-get_or}
use Rattle.av_perm.specs.Members.{IsListOf}
use Rattle.av_perm.specs.Class.{minimal, top}
use Rattle.av_perm.specs.Gap.{simples, IsSettled, IsUnsettled}
use Rattle.av_perm.specs.Relations.{IsWord, Contains, InClass, InClassAt, InClassWith, AreWords}
use Rattle.av_perm.specs.Laws.{IsSimpleOf, IsGap, IsLeastGap}
use Rattle.av_perm.proofs.MinimalWords.{minimal_list, each_words}
use Rattle.av_perm.proofs.Classes.{minimal_holds}
use Rattle.av_perm.proofs.Membership.{Each}
use Rattle.av_perm.proofs.TopWords.{top_list, contains_top}
use Rattle.av_perm.proofs.SimpleWords.{simples_list}
use Rattle.av_perm.proofs.Gaps.{gap_law}
use Rattle.av_text.specs.declared.script.Script.{Script}
use Rattle.av_text.specs.Read.{read}
use Rattle.av_text.specs.Ranges.{IsPattern, KeepsLimits, united, required}
use Rattle.av_text.proofs.Kept.{read_kept}
use Rattle.av_union.specs.Union.{IsMinimalInBoth, union}
use Rattle.av_union.specs.Laws.{AvoidsEach}
use Rattle.av_union.proofs.Unions.{union_law}
use Rattle.av_decomp.proofs.DecompositionTrees.{tree_law}
use Rattle.av_session.specs.declared.options.Options.{Options}
use Rattle.av_build.specs.Canonical.{grown_size}
use Rattle.av_session.specs.Solved.{basis_with, basis_of, lists_of, grown_to}
use Rattle.av_session.specs.Runs.{AvoidsLine, IsOfScript, IsAbout, HasCases}
use Rattle.av_session.proofs.SolvedClasses.{done_to, done_from, too_large_to, too_large_from, unsettled_to, unsettled_from}

-- the words of a basis line are words
pub are_words : (ws : List (List ℕ)) → All IsPattern ws → AreWords ws
are_words ws all i h = (All-get_or IsPattern ws i [] h all).word

-- of two bases that make the same class
module _ (A B : List (List ℕ)) (same : (σ : List ℕ) → InClass A σ ↔ InClass B σ) where
  at_from : (n : ℕ) (w : List ℕ) → InClassAt A n w → InClassAt B n w
  at_from n w c = record { member = (same w).0 c.member; long = c.long }

  at_to : (n : ℕ) (w : List ℕ) → InClassAt B n w → InClassAt A n w
  at_to n w c = record { member = (same w).1 c.member; long = c.long }

  simple_from : (m : ℕ) (w : List ℕ) → IsSimpleOf A m w → IsSimpleOf B m w
  unfolding at_from
  simple_from m w s = record { simple = s.simple; member = at_from m w s.member }

  simple_to : (m : ℕ) (w : List ℕ) → IsSimpleOf B m w → IsSimpleOf A m w
  unfolding at_to
  simple_to m w s = record { simple = s.simple; member = at_to m w s.member }

  gap_from : (g : ℕ) → IsGap A g → IsGap B g
  unfolding simple_to
  gap_from g p = record { high = p.high; none = λ w s. p.none w (simple_to g w s); none_next = λ w s. p.none_next w (simple_to (suc g) w s) }

  gap_to : (g : ℕ) → IsGap B g → IsGap A g
  unfolding simple_from
  gap_to g p = record { high = p.high; none = λ w s. p.none w (simple_from g w s); none_next = λ w s. p.none_next w (simple_from (suc g) w s) }

  pub simple_same : (m : ℕ) → IsListOf (IsSimpleOf B m) (simples A m)
  unfolding simple_from simple_to
  simple_same m =
      let l = simples_list A m in
      record { members = λ w. (λ i. simple_from m w ((l.members w).0 i), λ s. (l.members w).1 (simple_to m w s)); once = l.once }

  pub settled_same : (limit g : ℕ) → IsSettled A limit g ↔ IsLeastGap B limit g
  unfolding gap_from gap_to
  settled_same limit g =
      let l = gap_law.settled A limit g in (
        λ s. let p = l.0 s in record { gap = gap_from g p.gap; within = p.within; least = λ h q. p.least h (gap_to h q) },
        λ p. l.1 (record { gap = gap_to g p.gap; within = p.within; least = λ h q. p.least h (gap_from h q) }),
      )

  pub unsettled_same : (limit : ℕ) → IsUnsettled A limit ↔ ((g : ℕ) → IsGap B g → suc g ≤ limit → ⊥)
  unfolding gap_from gap_to
  unsettled_same limit =
      let l = gap_law.unsettled A limit in (
        λ u g p h. l.0 u g (gap_to g p) h,
        λ f. l.1 (λ g p h. f g (gap_from g p) h),
      )

-- the required words of a script are words
pub required_are_words : (script : Script) → KeepsLimits script → AreWords (required script)
required_are_words script k = are_words (required script) k.required.words

-- the basis of a union of two lists of words is a list of words
union_words : (first second : List (List ℕ)) → AreWords first → AreWords second → AreWords (union first second)
union_words first second f g =
    each_words (union first second) (λ w i. (((union_law first second f g).listed.members w).0 i).both.word)

-- so the basis that two lists give is one, where there is a second or not
with_words : (first : List (List ℕ)) (second : Option (List (List ℕ))) → AreWords first → AreWords (unwrap_or second []) → AreWords (basis_with first second)
with_words first None f g = f
with_words first (Some second) f g = union_words first second f g

-- and the basis of a script
pub basis_are_words : (script : Script) → KeepsLimits script → AreWords (basis_of script)
basis_are_words script k = with_words script.basis script.union_with (are_words script.basis k.basis.words) (are_words (united script) k.second.words)

-- the basis of a union has the minimal ones of the words that contain a word of each list
overlaid_by : (first : List (List ℕ)) (o : Option (List (List ℕ))) (second : List (List ℕ)) → AreWords first → AreWords (unwrap_or o []) → o ≡ Some second
    → IsListOf (IsMinimalInBoth first second) (basis_with first o)
overlaid_by first o second f g is =
    subst (λ p. AreWords (unwrap_or p []) → IsListOf (IsMinimalInBoth first second) (basis_with first p)) (sym is) (λ h. (union_law first second f h).listed) g

-- a word avoids the basis that two lists give exactly where it avoids each of the one or each of the other
either_by : (first : List (List ℕ)) (o : Option (List (List ℕ))) (σ : List ℕ) → AreWords first → AreWords (unwrap_or o []) → IsWord σ
    → AvoidsEach σ (basis_with first o) ↔ (AvoidsEach σ first ⊎ AvoidsLine o σ)
either_by first None σ f g word = (λ a. inl a, λ a. elim a [ inl h ↦ h | inr h ↦ absurd h ])
either_by first (Some second) σ f g word = (union_law first second f g).avoided σ word

-- so it is of a script's basis
either : (script : Script) → KeepsLimits script → (σ : List ℕ) → IsWord σ
    → AvoidsEach σ (basis_of script) ↔ (AvoidsEach σ script.basis ⊎ AvoidsLine script.union_with σ)
either script k σ word = either_by script.basis script.union_with σ (are_words script.basis k.basis.words) (are_words (united script) k.second.words) word

-- the class of the basis and the required words is that of the script
of_script : (script : Script) → KeepsLimits script → (σ : List ℕ) → InClassWith (basis_of script) (required script) σ ↔ IsOfScript script σ
of_script script k σ = (
  λ c. record { word = c.member.word; avoids = (either script k σ c.member.word).0 c.member.avoids; contains = c.contains },
  λ c. record { member = record { word = c.word; avoids = (either script k σ c.word).1 c.avoids }; contains = c.contains },
)

-- the minimal words of the basis and the maximal required ones make the same class
pub class_same : (script : Script) → KeepsLimits script → (σ : List ℕ)
    → InClassWith (minimal (basis_of script)) (top (required script)) σ ↔ InClassWith (basis_of script) (required script) σ
class_same script k σ =
    let same = (minimal_holds (basis_of script)).same_class (basis_are_words script k) σ in
    let tops : IsWord σ → Each (Contains σ) (top (required script)) ↔ Each (Contains σ) (required script) =
    λ w. contains_top (required script) σ (required_are_words script k) w in (
      λ c. record { member = same.0 c.member; contains = (tops c.member.word).0 c.contains },
      λ c. record { member = same.1 c.member; contains = (tops c.member.word).1 c.contains },
    )

pub about : (bytes : List ℕ) (script : Script) → read bytes ≡ Ok script → IsAbout script
about bytes script e =
    let k = read_kept bytes script e in
    let same = (minimal_holds (basis_of script)).same_class (basis_are_words script k) in
    record {
      words = are_words script.basis k.basis.words;
      united_words = are_words (united script) k.second.words;
      required_words = required_are_words script k;
      basis_words = basis_are_words script k;
      alone = λ none. ap (basis_with script.basis) none;
      overlaid = λ second is. overlaid_by script.basis script.union_with second (are_words script.basis k.basis.words) (are_words (united script) k.second.words) is;
      either = λ σ word. either script k σ word;
      class = of_script script k;
      first_words = minimal_list script.basis;
      second_words = minimal_list (united script);
      same_first = (minimal_holds script.basis).same_class (are_words script.basis k.basis.words);
      same_second = (minimal_holds (united script)).same_class (are_words (united script) k.second.words);
      minimal_words = minimal_list (basis_of script);
      same_basis = same;
      maximal_words = top_list (required script);
      same_class = class_same script k;
      simple_words = simple_same (minimal (basis_of script)) (basis_of script) same;
      gap = settled_same (minimal (basis_of script)) (basis_of script) same;
      no_gap = unsettled_same (minimal (basis_of script)) (basis_of script) same;
      tree = tree_law;
    }

-- the required words of a script, reduced, where it has a line of them or not
pub reduced_required : (o : Option (List (List ℕ))) → unwrap_or (option_map top o) [] ≡ top (unwrap_or o [])
reduced_required None = refl
reduced_required (Some ws) = refl

-- the three cases of a class
pub cases : (o : Options) (bytes : List ℕ) (script : Script) → read bytes ≡ Ok script → HasCases o script
cases o bytes script e =
    let basis : List (List ℕ) = minimal (basis_of script) in
    let require : Option (List (List ℕ)) = option_map top script.require in
    let same = (minimal_holds (basis_of script)).same_class (basis_are_words script (read_kept bytes script e)) in
    let settled = settled_same (minimal (basis_of script)) (basis_of script) same o.max_simple in
    let unsettled = unsettled_same (minimal (basis_of script)) (basis_of script) same o.max_simple in
    let size_same : (g : ℕ) → grown_size (grown_to (minimal (basis_of script)) (unwrap_or (option_map top script.require) []) g o.max_size) ≡ grown_size (grown_to (minimal (basis_of script)) (top (required script)) g o.max_size) =
    λ g. ap (λ ws. grown_size (grown_to (minimal (basis_of script)) ws g o.max_size)) (reduced_required script.require) in
    record {
      settled = (
        λ d. let p = done_from o (lists_of script) basis require script.format d in (p.0, (settled p.0).0 p.1, let q = size_same p.0 in let l = p.2 in omega arith),
        λ p. done_to o (lists_of script) basis require script.format p.0 ((settled p.0).1 p.1) (let q = size_same p.0 in let l = p.2 in omega arith),
      );
      too_large = (
        λ d. let p = too_large_from o (lists_of script) basis require script.format d in (p.0, (settled p.0).0 p.1, let q = size_same p.0 in let l = p.2 in omega arith),
        λ p. too_large_to o (lists_of script) basis require script.format p.0 ((settled p.0).1 p.1) (let q = size_same p.0 in let l = p.2 in omega arith),
      );
      unsettled = (
        λ d. unsettled.0 (unsettled_from o (lists_of script) basis require script.format d),
        λ none. unsettled_to o (lists_of script) basis require script.format (unsettled.1 none),
      );
    }
