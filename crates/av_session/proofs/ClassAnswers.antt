-- The answers about the members of a settled class are those of the class.
use Rattle.std.proofs.Common.{◌≡◌, ◌↔◌, ℕ, ◌<◌, ◌≤◌, inl, inr, List, [], ◌∷◌, map, length, get_or, find, slice_get, Bool, true, false, not, is_some, Option, Some, None, refl, sym, ap, ◌∙◌, subst, arith}
use Rattle.std.proofs.lemmas.Bool.{cases_Bool, not_from_false}
use Rattle.std.proofs.lemmas.List.{length-map}
use Rattle.std.proofs.lemmas.Nat.{mod_below}
use Rattle.std.proofs.lemmas.Option.{slice_get-get_or}
use Rattle.av_perm.specs.Members.{In, IsListOf}
use Rattle.av_perm.specs.Contain.{contains, first_occurrence}
use Rattle.av_perm.specs.Relations.{IsWord, Contains, InClass, InClassWith, InClassWithAt}
use Rattle.av_perm.proofs.Membership.{Each, at_In}
use Rattle.av_perm.proofs.Occurrences.{contains_from, contains_to, occurrence_found}
use Rattle.av_perm.proofs.Tests.{not_from}
use Rattle.av_perm.proofs.ListLaws.{once_place, get_In}
use Rattle.av_match.proofs.Completed.{contains_first}
use Rattle.av_sys.specs.Terms.{IsWellFormed}
use Rattle.av_sys.specs.Trees.{value}
use Rattle.av_sys.specs.TreeLists.{trees, members, members_at, count_of, count_at}
use Rattle.av_sys.specs.Exact.{Exact}
use Rattle.av_count.proofs.ClassMembers.{members_law}
use Rattle.av_text.specs.declared.queries.DistKind.{DistKind}
use Rattle.av_text.specs.Queries.{stat_kind}
use Rattle.av_bars.specs.Laws.{pair_of}
use Rattle.av_dist.specs.Distributions.{dist}
use Rattle.av_draw.specs.Drawn.{drawn, drawn_number}
use Rattle.av_session.specs.Classes.{Class, required_of}
use Rattle.av_session.specs.Answers.{place_among, first_lacking}
use Rattle.av_session.specs.Drawing.{draw}
use Rattle.av_session.specs.Runs.{HasBad, HasLack, IsDrawnMember, HasBars, HasAnswers}
use Rattle.av_session.proofs.Places.{placed, no_place}
use Rattle.av_session.proofs.Picks.{are_picked, has_bars, has_distribution}
use Rattle.av_session.proofs.Summaries.{is_summary}

-- what is found passes the test
found_passes : (p : List ℕ → Bool) (xs : List (List ℕ)) (x : List ℕ) → find p xs ≡ Some x → p x ≡ true
found_passes p [] x e = absurd (let f : None ≡ Some x = e in cc)
found_passes p (y ∷ ys) x e = by (p y) refl e (found_passes p ys x)
  where
    by : (b : Bool) → p y ≡ b → find p (y ∷ ys) ≡ Some x → (find p ys ≡ Some x → p x ≡ true) → p x ≡ true
    by true h f more = let g : Some y ≡ Some x = rw h at f in let s : y ≡ x = cc in subst (λ z. p z ≡ true) s h
    by false h f more = more (rw h at f)

-- and is one of the list
found_in : (p : List ℕ → Bool) (xs : List (List ℕ)) (x : List ℕ) → find p xs ≡ Some x → In x xs
found_in p [] x e = absurd (let f : None ≡ Some x = e in cc)
found_in p (y ∷ ys) x e = by (p y) refl e (found_in p ys x)
  where
    by : (b : Bool) → p y ≡ b → find p (y ∷ ys) ≡ Some x → (find p ys ≡ Some x → In x ys) → In x (y ∷ ys)
    by true h f more = let g : Some y ≡ Some x = rw h at f in inl (let s : x ≡ y = cc in s)
    by false h f more = inr (more (rw h at f))

-- where none is found, none passes
none_passes : (p : List ℕ → Bool) (xs : List (List ℕ)) → find p xs ≡ None → Each (λ x. p x ≡ true → ⊥) xs
none_passes p [] e x i = absurd i
none_passes p (y ∷ ys) e x i = by (p y) refl e i (none_passes p ys)
  where
    by : (b : Bool) → p y ≡ b → find p (y ∷ ys) ≡ None → In x (y ∷ ys) → (find p ys ≡ None → Each (λ x. p x ≡ true → ⊥) ys) → p x ≡ true → ⊥
    by true h f j more q = let g : Some y ≡ None = rw h at f in cc
    by false h f (inl s) more q = let g = subst (λ z. p z ≡ true) s q in cc
    by false h f (inr j) more q = more (rw h at f) x j q

-- where none fails it, each passes
none_fails : (p : List ℕ → Bool) (xs : List (List ℕ)) → find (λ x. not (p x)) xs ≡ None → Each (λ x. p x ≡ true) xs
none_fails p xs e x i = elim (cases_Bool (p x)) [ inl t ↦ t | inr f ↦ absurd (none_passes (λ y. not (p y)) xs e x i (not_from_false (p x) f)) ]

-- a word that contains a word of the basis contains a first one
has_bad : (basis : List (List ℕ)) (σ : List ℕ) → IsWord σ → (InClass basis σ → ⊥) → HasBad basis σ
has_bad basis σ word strange = by (find (contains σ) basis) refl
  where
    at_first : (b : List ℕ) (f : Option (List ℕ)) → find (contains σ) basis ≡ Some b → first_occurrence σ b ≡ f → HasBad basis σ
    at_first b None e o = absurd (
        let t = found_passes (contains σ) basis b e in
        let u = contains_first σ b ∙ ap is_some o in
        cc
        )
    at_first b (Some ps) e o = record { pattern = b; first = e; places = ps; given = o; occurs = occurrence_found σ b ps o }

    by : (f : Option (List ℕ)) → find (contains σ) basis ≡ f → HasBad basis σ
    by None e = absurd (strange (record { word = word; avoids = λ b i c. none_passes (contains σ) basis e b i (contains_to σ b c) }))
    by (Some b) e = at_first b (first_occurrence σ b) e refl

-- where no required word is found that the word lacks, it contains each
pub none_lacking : (required : List (List ℕ)) (σ : List ℕ) → first_lacking σ required ≡ None → Each (Contains σ) required
none_lacking required σ e q i = contains_from σ q (none_fails (contains σ) required e q i)

-- one that lacks a required word lacks a first one
has_lack : (required : List (List ℕ)) (σ : List ℕ) → (Each (Contains σ) required → ⊥) → HasLack required σ
has_lack required σ lacking = by (first_lacking σ required) refl
  where
    by : (f : Option (List ℕ)) → first_lacking σ required ≡ f → HasLack required σ
    by None e = absurd (lacking (none_lacking required σ e))
    by (Some q) e = record {
      pattern = q;
      first = e;
      avoids = λ k. not_from (contains σ q) (found_passes (λ x. not (contains σ x)) required q e) (contains_to σ q k);
    }

-- where a word avoids the basis, none of its words is found in it
none_found : (basis : List (List ℕ)) (σ : List ℕ) → InClass basis σ → find (contains σ) basis ≡ None
none_found basis σ c = by (find (contains σ) basis) refl
  where
    by : (f : Option (List ℕ)) → find (contains σ) basis ≡ f → f ≡ None
    by None e = refl
    by (Some b) e = absurd (c.avoids b (found_in (contains σ) basis b e) (contains_from σ b (found_passes (contains σ) basis b e)))

module _
    (basis required : List (List ℕ))
    (class : Class)
    (form : IsWellFormed class.system)
    (exact : Exact class.system basis required)
    (same : (σ : List ℕ) → InClass class.subject.found.basis σ ↔ InClass basis σ)
    (all : (σ : List ℕ) → IsWord σ → Each (Contains σ) (required_of class.subject) → Each (Contains σ) required)
  where
    listed_all : (n : ℕ) → 1 ≤ n → IsListOf (InClassWithAt basis required n) (members class.system n)
    listed_all n h = (members_law class.system basis required n form exact h).listed

    as_many : (n : ℕ) → count_of class.system n ≡ length (members class.system n)
    unfolding members members_at count_of count_at
    as_many n = sym (length-map (trees class.system 0 n) (value class.system 0))

    ranked_one : (σ : List ℕ) → InClassWith basis required σ → (r : ℕ) × (place_among class.system σ ≡ Some r) × (slice_get (members class.system (length σ)) r ≡ Some σ)
    ranked_one σ c =
        let l = listed_all (length σ) c.member.word.filled in
        let p = at_In (members class.system (length σ)) σ [] ((l.members σ).1 (record { member = c; long = refl })) in
        let here : slice_get (members class.system (length σ)) p.0 ≡ Some σ = slice_get-get_or (members class.system (length σ)) p.0 [] p.1 ∙ ap (λ (x : List ℕ). Some x) p.2 in
        (p.0, placed class.system σ p.0 here (λ s q. once_place (members class.system (length σ)) s p.0 σ l.once q here), here)

    strange_none : (σ : List ℕ) → IsWord σ → (InClassWith basis required σ → ⊥) → place_among class.system σ ≡ None
    strange_none σ word strange =
        let l = listed_all (length σ) word.filled in
        no_place class.system σ (λ s q. strange ((l.members σ).0 (get_In (members class.system (length σ)) s σ q)).member)

    lacking_one : (σ : List ℕ) → InClass basis σ → (InClassWith basis required σ → ⊥)
        → (find (contains σ) class.subject.found.basis ≡ None) × HasLack (required_of class.subject) σ
    lacking_one σ c strange = (
      none_found class.subject.found.basis σ ((same σ).1 c),
      has_lack (required_of class.subject) σ (λ h. strange (record { member = c; contains = all σ c.word h })),
    )

    drawn_one : (n seed d : ℕ) → 1 ≤ n → 1 ≤ count_of class.system n → IsDrawnMember basis required class n (draw (members class.system n) seed d)
    drawn_one n seed d h some =
        let ws = members class.system n in
        let r = drawn seed d (length ws) in
        let below : r < length ws = mod_below (drawn_number seed d) (length ws) (omega (arith, as_many n)) in
        let here : slice_get ws r ≡ Some (get_or ws r []) = slice_get-get_or ws r [] below in
        record {
          below = omega (arith, as_many n, below);
          there = here;
          member = ((listed_all n h).members (get_or ws r [])).0 (get_In ws r (get_or ws r []) here);
        }

    distributed_all : (k : DistKind) (n : ℕ) → 1 ≤ n → HasBars basis required (stat_kind k) n (map pair_of (dist k class.system n))
    unfolding dist
    distributed_all k n h = has_distribution basis required (members class.system n) k n (listed_all n h)

    pub has_answers : HasAnswers basis required class
    has_answers = record {
      listed = listed_all;
      counted = as_many;
      ranked = ranked_one;
      strange = strange_none;
      bad = λ σ word strange. has_bad class.subject.found.basis σ word (λ c. strange ((same σ).0 c));
      lacking = lacking_one;
      drawn = drawn_one;
      summed = is_summary;
      barred = λ t n h. has_bars basis required (members class.system n) t n (listed_all n h);
      distributed = distributed_all;
      picked_all = λ t v n. are_picked t v (members class.system n);
    }
