-- What unranking and ranking mean for the class that a system describes.
use Rattle.std.proofs.Common.{◌≡◌, ℕ, ◌<◌, inl, inr, List, [], length, get_or, refl, sym, ◌∙◌, subst, arith, Some, None, slice_get}
use Rattle.std.proofs.lemmas.Bool.{cases_lt}
use Rattle.std.proofs.lemmas.List.{length-map}
use Rattle.std.proofs.lemmas.Option.{slice_get_within, slice_get_past, slice_get-get_or}
use Rattle.av_perm.specs.Relations.{InClassWith}
use Rattle.av_perm.specs.Class.{class_with_at}
use Rattle.av_perm.proofs.ListLaws.{once_place, get_In}
use Rattle.av_sys.specs.declared.terms.System.{System}
use Rattle.av_sys.specs.Terms.{IsWellFormed}
use Rattle.av_sys.specs.Trees.{value}
use Rattle.av_sys.specs.TreeLists.{trees, members, members_at, count_of, count_at}
use Rattle.av_sys.specs.Exact.{Exact}
use Rattle.av_count.specs.Laws.{HasMembers}
use Rattle.av_count.proofs.ClassMembers.{members_law}
use Rattle.av_tree.specs.declared.ranking.Ranked.{Ranked}
use Rattle.av_tree.specs.declared.ranking.Ranked.TheVariants.{At, Big, Stranger}
use Rattle.av_tree.specs.Ranks.{IsPlaceOf}
use Rattle.av_tree.specs.Laws.{UnrankLaw, StandsAt, IsRankIn, RankLaw, StrangerLaw}
use Rattle.av_tree.proofs.Ranks.{listed_tree, place_listed}

-- there are as many words in the list as in the class
members_count : (S : System) (basis required : List (List ℕ)) (n : ℕ) → HasMembers S basis required n → length (members S n) ≡ length (class_with_at basis required n)
unfolding members members_at count_of count_at
members_count S basis required n h = length-map (trees S 0 n) (value S 0) ∙ h.counted

-- what stands at a place of the list is of the class
pub unrank_law : UnrankLaw
unrank_law S basis required n r formed exact one =
    let h = members_law S basis required n formed exact one in
    let k = members_count S basis required n h in
    record {
      member = λ w e. (h.listed.members w).0 (get_In (members S n) r w e);
      past = (
        λ e. elim (cases_lt r (length (members S n))) [
          | inl l ↦ absurd (no_end (members S n) r l e)
          | inr l ↦ omega arith
        ],
        λ l. slice_get_past (members S n) r (omega arith),
      );
    }
  where
    no_end : (ws : List (List ℕ)) (s : ℕ) → s < length ws → slice_get ws s ≡ None → ⊥
    no_end ws s l e = let f : None ≡ Some (get_or ws s []) = sym e ∙ slice_get-get_or ws s [] l in cc

-- a word at its place
stands : (S : System) (basis required : List (List ℕ)) (w : List ℕ) (r : ℕ) → IsWellFormed S → Exact S basis required → IsPlaceOf S w r → StandsAt S basis required w r
stands S basis required w r formed exact p =
    let t = listed_tree S formed (length w) r p.tree p.listed in
    let c : InClassWith basis required w = subst (InClassWith basis required) p.is (exact.sound p.tree t.tree).member in
    let h = members_law S basis required (length w) formed exact c.member.word.filled in
    let l = place_listed S w r p in
    record {
      member = c;
      below = omega (arith, members_count S basis required (length w) h, slice_get_within (members S (length w)) r w l);
      listed = l;
      only = λ s e. once_place (members S (length w)) s r w h.listed.once e l;
    }

-- no tree has the value of a word that isn't of the class, and each word of the class is the value of one
pub rank_law : RankLaw
rank_law S basis required w (At r) formed exact h = (h.0, stands S basis required w r formed exact h.1)
rank_law S basis required w Big formed exact h = (h.0, h.1, stands S basis required w h.0 formed exact h.2)
rank_law S basis required w Stranger formed exact h = λ c. let t = exact.complete w c in h t.0 t.1 t.3

pub stranger_law : StrangerLaw
stranger_law S basis required w answer formed exact h = (
  λ e. subst (IsRankIn S basis required w) e (rank_law S basis required w answer formed exact h),
  λ f. by answer (rank_law S basis required w answer formed exact h) f,
)
  where
    by : (answer : Ranked) → IsRankIn S basis required w answer → (InClassWith basis required w → ⊥) → answer ≡ Stranger
    by (At r) k f = absurd (f k.1.member)
    by Big k f = absurd (f k.2.member)
    by Stranger k f = refl
