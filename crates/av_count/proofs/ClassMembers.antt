-- The words of the trees of an exact system are those of the class, each once.
use Rattle.std.proofs.Common.{◌≡◌, ℕ, ◌<◌, ◌≤◌, inl, inr, List, [], ◌∷◌, map, length, get_or, refl, sym, ap, ◌∙◌, subst, arith, Some}
use Rattle.std.proofs.lemmas.List.{length-map}
use Rattle.std.proofs.lemmas.Option.{slice_get-get_or}
use Rattle.av_perm.specs.Members.{Once, IsListOf}
use Rattle.av_perm.specs.Class.{class_with_at}
use Rattle.av_perm.specs.Relations.{InClassWithAt}
use Rattle.av_perm.proofs.Membership.{In, In_at, at_In, In_map, map_In}
use Rattle.av_perm.proofs.Pigeons.{pigeons_by}
use Rattle.av_perm.proofs.WordLists.{class_with_list}
use Rattle.av_perm.proofs.ListLaws.{once_place}
use Rattle.av_sys.specs.declared.terms.System.{System}
use Rattle.av_sys.specs.Terms.{IsWellFormed}
use Rattle.av_sys.specs.Trees.{size, value}
use Rattle.av_sys.specs.TreeLists.{trees, members, members_at, count_of, count_at}
use Rattle.av_sys.specs.Exact.{Exact}
use Rattle.av_sys.specs.Laws.{IsTreeOfSize}
use Rattle.av_sys.proofs.TreesOnce.{trees_law}
use Rattle.av_count.specs.Laws.{MembersLaw}

-- a list without repeats whose elements are all in another is no longer
once_shorter : (xs ys : List (List ℕ)) → Once xs → ((x : List ℕ) → In x xs → In x ys) → length xs ≤ length ys
once_shorter xs ys o f =
    pigeons_by (length ys) (length xs) (λ s y. (s < length xs) × (get_or xs s [] ≡ get_or ys y []))
    (λ s h. let r = at_In ys (get_or xs s []) [] (f (get_or xs s []) (In_at xs s [] h)) in (r.0, r.1, (h, sym r.2)))
    (λ s t y a b. once_place xs s t (get_or xs t []) o (slice_get-get_or xs s [] a.0 ∙ ap (λ (v : List ℕ). Some v) (a.1 ∙ sym b.1)) (slice_get-get_or xs t [] b.0))

-- two lists of the same things, each once, are as long
once_as_long : (P : List ℕ → Type 0) (xs ys : List (List ℕ)) → IsListOf P xs → IsListOf P ys → length xs ≡ length ys
once_as_long P xs ys a b =
    let h = once_shorter xs ys a.once (λ x i. (b.members x).1 ((a.members x).0 i)) in
    let k = once_shorter ys xs b.once (λ x i. (a.members x).1 ((b.members x).0 i)) in
    omega arith

-- a map that tells the elements of a list apart keeps them single
once_map_on : {A B : Type 0} (f : A → B) (xs : List A) → ((x y : A) → In x xs → In y xs → f x ≡ f y → x ≡ y) → Once xs → Once (map f xs)
once_map_on f [] k o = tt
once_map_on f (x ∷ xs) k o = (
  λ i. let r = In_map f xs (f x) i in o.0 (subst (λ y. In y xs) (sym (k x r.0 (inl refl) (inr r.1) r.2)) r.1),
  once_map_on f xs (λ y z i j e. k y z (inr i) (inr j) e) o.1,
)

-- the words of the trees are those of the class
members_listed : (S : System) (basis required : List (List ℕ)) (n : ℕ) → IsWellFormed S → Exact S basis required → IsListOf (InClassWithAt basis required n) (members S n)
unfolding members members_at
members_listed S basis required n w h =
    let l = (trees_law S 0 n w).listed in
    record {
      members = λ σ. (
        λ i.
            let r = In_map (value S 0) (trees S 0 n) σ i in
            let f = (l.members r.0).0 r.1 in
            let x = h.sound r.0 f.tree in
            subst (λ k. InClassWithAt basis required k σ) f.sized (subst (InClassWithAt basis required (size r.0)) (sym r.2) x),
        λ c.
            let r = h.complete σ c.member in
            let t : IsTreeOfSize S 0 n r.0 = record { tree = r.1; sized = r.2 ∙ c.long } in
            subst (λ v. In v (map (value S 0) (trees S 0 n))) r.3 (map_In (value S 0) (trees S 0 n) r.0 ((l.members r.0).1 t)),
      );
      once = once_map_on (value S 0) (trees S 0 n)
          (λ T U i j e.
          let a = (l.members T).0 i in
          let b = (l.members U).0 j in
          h.once T U a.tree b.tree e)
          l.once;
    }

-- there are as many trees as words
pub count_members_of : (S : System) (n : ℕ) → count_of S n ≡ length (members S n)
unfolding members members_at count_of count_at
count_members_of S n = sym (length-map (trees S 0 n) (value S 0))

-- so the law of counts
pub members_law : MembersLaw
members_law S basis required n w h one =
    let l = members_listed S basis required n w h in
    record { listed = l; counted = count_members_of S n ∙ once_as_long (InClassWithAt basis required n) (members S n) (class_with_at basis required n) l (class_with_list basis required n one) }
