-- What the search keeps: by one partial overlay, by each of its choices, and by each word of the first list.
use Rattle.std.proofs.Common.{◌≡◌, ℕ, suc, ◌+◌, ◌≤◌, ◌⊎◌, inl, inr, false, nat_lt, Some, List, [], ◌∷◌, ◌++◌, length, take, sym, ap, ◌∙◌, subst, arith, true≢false}
use Rattle.std.specs.List.{list_all, list_any, slice_get}
use Rattle.std.specs.BTreeSet.{insert_key}
use Rattle.std.proofs.Math.Seq.{take-suc}
use Rattle.std.proofs.lemmas.Bool.{cases_lt, cases_Bool}
use Rattle.std.proofs.lemmas.List.{take_all}
use Rattle.std.proofs.lemmas.Option.{slice_get_within, get_or_from_slice_get}
use Rattle.av_perm.specs.Word.{shortlex}
use Rattle.av_perm.specs.Contain.{contains}
use Rattle.av_perm.specs.Class.{insert_word}
use Rattle.av_perm.specs.Relations.{IsWord, AreWords, Contains}
use Rattle.av_perm.proofs.Membership.{In, In_append_cases, In_one}
use Rattle.av_perm.proofs.Containment.{contains_trans}
use Rattle.av_perm.proofs.ShortlexLists.{insert_In, insert_new, insert_old, insert_ascending}
use Rattle.av_perm.proofs.ListLaws.{get_In, length_snoc}
use Rattle.av_match.proofs.Gathered.{insert_same}
use Rattle.av_union.specs.declared.choices.Choice.{Choice}
use Rattle.av_union.specs.Union.{ContainsSome, InBoth, IsMinimalInBoth, union}
use Rattle.av_union.specs.Choices.{IsChoice, place_of, word_after, choices}
use Rattle.av_union.specs.Growth.{ArePlacesOf, GrowsTo, places_after, begins_at}
use Rattle.av_union.specs.Gather.{GrowsNothing, AreMinimal, Adds, Keeps, HasGrown, HasGrownBy, Gathers, GathersBy}
use Rattle.av_union.proofs.Covers.{minimal_covered_by}
use Rattle.av_union.proofs.Unions.{some_from, some_to, is_union}
use Rattle.av_union.proofs.WordsAfter.{word_after_contains, word_after_few}
use Rattle.av_union.proofs.Growth.{begun_occurs, grown_whole, start_grows, next_step}
use Rattle.av_union.proofs.GrownWords.{before_to, begins_occurs}
use Rattle.av_union.proofs.ChoiceLists.{choices_In}

-- ---- adding

-- where nothing changes nothing is added
pub adds_none : (F G ks : List (List ℕ)) → Adds F G ks ks
adds_none F G ks = record { kept = λ v i. i; minimal = λ m. m }

-- what two steps add
pub adds_join : (F G a b c : List (List ℕ)) → Adds F G a b → Adds F G b c → Adds F G a c
adds_join F G a b c x y = record { kept = λ v i. y.kept v (x.kept v i); minimal = λ m. y.minimal (x.minimal m) }

-- a minimal word is put into the set
pub keeps_one : (F G : List (List ℕ)) (w u : List ℕ) (old new : List (List ℕ)) → IsMinimalInBoth F G w → u ≡ w → new ≡ insert_key shortlex old u → Keeps F G w old new
keeps_one F G w u old new m c e =
    let f : new ≡ insert_word w old = e ∙ ap (insert_key shortlex old) c ∙ insert_same w old in
    subst (λ (ks : List (List ℕ)). Keeps F G w old ks) (sym f) (record {
      adds = record {
        kept = λ v i. insert_old w old v i;
        minimal = λ a. record {
          ascending = insert_ascending w old a.ascending;
          minimal = λ v i. elim (insert_In w old v i) [ inl q ↦ subst (λ (z : List ℕ). IsMinimalInBoth F G z) (sym q) m | inr j ↦ a.minimal v j ];
        };
      };
      whole = λ k. insert_new w old;
    })

-- another isn't
pub keeps_none : (F G : List (List ℕ)) (w : List ℕ) (ks : List (List ℕ)) → (IsMinimalInBoth F G w → ⊥) → Keeps F G w ks ks
keeps_none F G w ks n = record { adds = adds_none F G ks; whole = λ m. absurd (n m) }

-- ---- one partial overlay

-- one from which nothing grows adds nothing
pub gathers_nothing : (E F G : List (List ℕ)) (w q : List ℕ) (ks : List (List ℕ)) → GrowsNothing E F G w q → Gathers E F G w q ks ks
gathers_nothing E F G w q ks d = record { adds = adds_none F G ks; whole = λ W g s i k. absurd (d W g s i k) }

-- one that contains a word of each list adds at most itself
pub gathers_word : (E F G : List (List ℕ)) (w q : List ℕ) (old new : List (List ℕ)) → InBoth F G w → Keeps F G w old new → Gathers E F G w q old new
gathers_word E F G w q old new b k = record {
  adds = k.adds;
  whole = λ W g s i c.
      let e : w ≡ W = s.minimal.least w b (c.0, c.1.1.inner) in
      subst (λ (v : List ℕ). In v new) e (k.whole (subst (λ (v : List ℕ). IsMinimalInBoth F G v) (sym e) s.minimal));
}

-- what its choices gone through add
abbrev pub HasGrownByEach : List (List ℕ) → List (List ℕ) → List (List ℕ) → List ℕ → List ℕ → List Choice → List (List ℕ) → Type 0
HasGrownByEach E F G w q cs ks = (c : Choice) → In c cs → HasGrownBy E F G w q c ks

-- one choice more
pub each_more : (E F G : List (List ℕ)) (w q : List ℕ) (cs : List Choice) (c : Choice) (old new : List (List ℕ)) → HasGrownByEach E F G w q cs old
    → GathersBy E F G w q c old new → HasGrownByEach E F G w q (cs ++ c ∷ []) new
each_more E F G w q cs c old new h a d i = elim (In_append_cases cs (c ∷ []) d i) [
  | inl j ↦ λ b W g s k grows. a.adds.kept W (h d j b W g s k grows)
  | inr j ↦ subst (λ e. HasGrownBy E F G w q e new) (sym (In_one d c j)) a.whole
]

-- one that contains no word of the second list adds what its choices add
pub gathers_choices : (E F G : List (List ℕ)) (w q : List ℕ) (cs : List Choice) (old new : List (List ℕ)) → IsWord w → ArePlacesOf w q
    → list_any (λ v. contains w v) G ≡ false → Adds F G old new → cs ≡ choices (length w) → HasGrownByEach E F G w q cs new → Gathers E F G w q old new
gathers_choices E F G w q cs old new word placed none a all each = record {
  adds = a;
  whole = λ W g s i c. elim (cases_lt (length q) (length g)) [
    | inl l ↦
        let k = next_step g w q W c word placed l in
        each k.0 (subst (λ (l : List Choice). In k.0 l) (sym all) (choices_In (length w) k.0 k.1.choice)) k.1.before W g s i k.1.grows
    | inr l ↦ absurd (true≢false (sym (some_to w G (g, i, grown_whole g w q W c.0 c.1.0 c.1.1 placed l)) ∙ none))
  ];
}

-- ---- one choice

-- nothing is added where its place doesn't come after the others
pub by_nothing : (E F G : List (List ℕ)) (w q : List ℕ) (c : Choice) (ks : List (List ℕ)) → list_all (λ j. nat_lt j (place_of c)) q ≡ false → GathersBy E F G w q c ks ks
by_nothing E F G w q c ks fails = record { adds = adds_none F G ks; whole = λ b. absurd (true≢false (sym (before_to q c b) ∙ fails)) }

-- or where no word of the second list begins so
pub by_no_pattern : (E F G : List (List ℕ)) (w q u p : List ℕ) (c : Choice) (ks : List (List ℕ)) → ArePlacesOf u p → u ≡ word_after w c → p ≡ places_after q c
    → ((g : List ℕ) → In g G → begins_at u p g ≡ false) → GathersBy E F G w q c ks ks
by_no_pattern E F G w q u p c ks placed e f n = record {
  adds = adds_none F G ks;
  whole = λ b. subst (λ (v : List ℕ). HasGrown E F G v (places_after q c) ks) e (subst (λ (v : List ℕ). HasGrown E F G u v ks) f (λ W g s i k.
      absurd (true≢false (sym (begins_occurs u p g k.1.1.short (begun_occurs g u p W k.0 k.1.0 k.1.1 placed)) ∙ n g i))));
}

-- else what the partial overlay adds that has the entry
pub by_grown : (E F G : List (List ℕ)) (w q u p : List ℕ) (c : Choice) (old new : List (List ℕ)) → u ≡ word_after w c → p ≡ places_after q c → Gathers E F G u p old new
    → GathersBy E F G w q c old new
by_grown E F G w q u p c old new e f g = record {
  adds = g.adds;
  whole = λ b. subst (λ (v : List ℕ). HasGrown E F G v (places_after q c) new) e (subst (λ (v : List ℕ). HasGrown E F G u v new) f g.whole);
}

-- it contains a word of the first list still
pub still_holds : (F : List (List ℕ)) (w u : List ℕ) (c : Choice) → IsChoice (length w) c → u ≡ word_after w c → ContainsSome w F → ContainsSome u F
still_holds F w u c h e f =
    subst (λ (v : List ℕ). ContainsSome v F) (sym e) (f.0, f.1, contains_trans (word_after w c) w f.0 (word_after_contains w c h) f.2)

-- it has at most one entry more, and one place more
pub still_few : (n : ℕ) (w q u p : List ℕ) (c : Choice) → IsChoice (length w) c → u ≡ word_after w c → p ≡ places_after q c → length w ≤ n + length q
    → (length u ≤ n + length p) × (length p ≡ suc (length q))
still_few n w q u p c h e f few =
    let long : length p ≡ suc (length q) = ap length f ∙ length_snoc q (place_of c) in
    (omega (arith, ap length e, word_after_few w c h), long)

-- ---- all words of the first list

-- the words kept are of the basis, and are all those that contain one of the first words gone through
pub record Reaches (F G : List (List ℕ)) (i : ℕ) (ks : List (List ℕ)) : Type 0 where
  pub minimal : AreMinimal F G ks
  pub whole : (W v : List ℕ) → IsMinimalInBoth F G W → In v (take i F) → Contains W v → In W ks

-- a word contains some of a list or none
some_decided : (W : List ℕ) (E : List (List ℕ)) → ContainsSome W E ⊎ (ContainsSome W E → ⊥)
some_decided W E = elim (cases_Bool (list_any (λ v. contains W v) E)) [
  | inl e ↦ inl (some_from W E e)
  | inr e ↦ inr (λ c. true≢false (sym (some_to W E c) ∙ e))
]

-- one more word is gone through
pub reaches_more : (E F G : List (List ℕ)) (f u q : List ℕ) (i : ℕ) (old new : List (List ℕ)) → AreWords F → slice_get F i ≡ Some f → u ≡ f → q ≡ [] → E ≡ take i F
    → Reaches F G i old → Gathers E F G u q old new → Reaches F G (i + 1) new
reaches_more E F G f u q i old new words at_i e none early r g = record {
  minimal = g.adds.minimal r.minimal;
  whole = λ W v m j c. elim (In_append_cases (take i F) (f ∷ []) v (subst (λ (l : List (List ℕ)). In v l) front j)) [
    | inl k ↦ old_one W v m k c
    | inr k ↦ new_one W m (subst (λ (x : List ℕ). Contains W x) (In_one v f k) c)
  ];
}
  where
    front : take (i + 1) F ≡ take i F ++ f ∷ []
    front =
        let n : i + 1 ≡ suc i = omega arith in
        ap (λ k. take k F) n ∙ take-suc F i [] (slice_get_within F i f at_i) ∙ ap (λ (y : List ℕ). take i F ++ y ∷ []) (get_or_from_slice_get F i f [] at_i)

    old_one : (W v : List ℕ) → IsMinimalInBoth F G W → In v (take i F) → Contains W v → In W new
    old_one W v m j c = g.adds.kept W (r.whole W v m j c)

    new_one : (W : List ℕ) → IsMinimalInBoth F G W → Contains W f → In W new
    new_one W m c = elim (some_decided W (take i F)) [
      | inl s ↦ old_one W s.0 m s.1 s.2
      | inr n ↦
          let k = minimal_covered_by F G W f words m (get_In F i f at_i) c in
          let from_f : GrowsTo k.0 u [] W = subst (λ (x : List ℕ). GrowsTo k.0 x [] W) (sym e) (start_grows f k.0 W k.2) in
          let grows : GrowsTo k.0 u q W = subst (λ (p : List ℕ). GrowsTo k.0 u p W) (sym none) from_f in
          g.whole W k.0 (record { minimal = m; later = λ v j d. n (v, subst (λ (x : List (List ℕ)). In v x) early j, d) }) k.1 grows
    ]

-- when all are gone through, the words kept are the union
pub reaches_all : (F G ks : List (List ℕ)) (i : ℕ) → AreWords F → length F ≤ i → Reaches F G i ks → ks ≡ union F G
reaches_all F G ks i words h r =
    is_union F G ks words r.minimal.ascending r.minimal.minimal
    (λ w m. let f = m.both.has_first in r.whole w f.0 m (subst (λ (x : List (List ℕ)). In f.0 x) (sym (take_all i F h)) f.1) f.2)

-- with no word in the second list the union has none
pub union_none : (F G ks : List (List ℕ)) → AreWords F → ks ≡ [] → length G ≡ 0 → ks ≡ union F G
union_none F G ks words n e = n ∙ is_union F G [] words tt (λ w i. absurd i) (λ w m. let g = m.both.has_second in absurd (none G g.0 e g.1))
  where
    none : (G : List (List ℕ)) (v : List ℕ) → length G ≡ 0 → In v G → ⊥
    none [] v e i = i
    none (x ∷ G) v e i = omega arith
