-- Rows and lists of words made one pattern after another.
use Rattle.std.proofs.Common.{◌≡◌, ℕ, zero, suc, ◌+◌, ◌<◌, inl, inr, List, [], ◌∷◌, ◌++◌, length, get_or, set, map, filter, take, drop, cond, ◌-◌, ◌≤◌, Bool, true, false, Some, refl, sym, ap, ap₂, ◌∙◌, subst, arith, add-one, drop-cons, take-suc, append-nil}
use Rattle.std.specs.List.{flat_map, list_any, position, IsDistinct, AllByRecursion}
use Rattle.std.specs.BTreeSet.{insert_key}
use Rattle.std.proofs.lemmas.Grind.{flat_map-append}
use Rattle.std.proofs.lemmas.List.Quantifiers.{position-Some}
use Rattle.std.proofs.lemmas.Bool.{cases_eq}
use Rattle.std.proofs.lemmas.List.{length-set, get_or-set_same, get_or-set_other, map-append}
use Rattle.av_perm.specs.Members.{In, Ascending}
use Rattle.av_perm.specs.Word.{shortlex}
use Rattle.av_perm.specs.Lists.{same}
use Rattle.av_perm.specs.WordOrder.{shortlex_total, word_same}
use Rattle.std.specs.declared.cmp.Ordering.TheVariants.{Less}
use Rattle.av_match.proofs.Gathered.{insert_same}
use Rattle.av_perm.specs.Class.{in_shortlex, insert_word}
use Rattle.av_perm.proofs.Membership.{In_at, In_filter, filter_In, In_map, map_In, In_append_cases, In_one}
use Rattle.av_perm.proofs.Tests.{any_to, same_refl}
use Rattle.av_perm.proofs.Ascending.{ascending_same}
use Rattle.av_perm.proofs.ShortlexLists.{shortlex_ascending, In_shortlex}
use Rattle.av_split.specs.declared.rows.Mark.{Mark}
use Rattle.av_split.specs.Marks.{unmarked, is_named, named, named_at, IsOrder}
use Rattle.av_split.proofs.MarkedRows.{has_In, In_has}

-- the marks before number `i` are the next ones, and the others the old ones
pub record Changed (next : ℕ → Mark) (old : List Mark) (i : ℕ) (row : List Mark) : Type 0 where
  pub size : length row ≡ length old
  pub before : (j : ℕ) → j < i → get_or row j unmarked ≡ next j
  pub after : (j : ℕ) → i ≤ j → get_or row j unmarked ≡ get_or old j unmarked

pub changed_next : (next : ℕ → Mark) (old row new : List Mark) (i n : ℕ) (m : Mark) → Changed next old i row → i < length old → m ≡ next i → new ≡ set row i m → n ≡ i + 1 → Changed next old n new
changed_next next old row new i n m c h t e q = record {
  size = ap length e ∙ length-set row i m ∙ c.size;
  before = λ j l. elim (cases_eq j i) [
    | inl s ↦ at j ∙ ap (λ k. get_or (set row i m) k unmarked) s ∙ get_or-set_same row i m unmarked (let z = c.size in omega arith) ∙ t ∙ ap next (sym s)
    | inr d ↦ at j ∙ get_or-set_other row i j m unmarked d ∙ c.before j (omega (arith, q, d))
  ];
  after = λ j l. at j ∙ get_or-set_other row i j m unmarked (λ s. let z : j ≡ i = s in absurd (omega (arith, q, z))) ∙ c.after j (omega (arith, q));
}
  where
    at : (j : ℕ) → get_or new j unmarked ≡ get_or (set row i m) j unmarked
    at j = ap (λ (l : List Mark). get_or l j unmarked) e

-- some of ascending words ascend
pub some_ascend : {A : Type 0} (f : A → List ℕ) (t : A → Bool) (xs : List A) → Ascending shortlex (map f xs) → Ascending shortlex (map f (filter t xs))
some_ascend f t [] a = tt
some_ascend {A = A} f t (x ∷ xs) a = by (t x) (some_ascend f t xs a.1) (λ y i. a.0 y (let r = In_map f (filter t xs) y i in subst (λ z. In z (map f xs)) (sym r.2) (map_In f xs r.0 (In_filter t xs r.0 r.1).0)))
  where
    by : (b : Bool) → Ascending shortlex (map f (filter t xs)) → ((y : List ℕ) → In y (map f (filter t xs)) → shortlex (f x) y ≡ Less) → Ascending shortlex (map f (cond b (x ∷ filter t xs) (filter t xs)))
    by true r h = (h, r)
    by false r h = r

-- the words of a constraint, by the order of the patterns
pub named_ordered : (ps : List (List ℕ)) (order : List ℕ) (r : Bool) (row : List Mark) → IsOrder ps order → length row ≡ length ps
    → map (λ i. get_or ps i []) (filter (λ i. is_named r (get_or row i unmarked)) order) ≡ in_shortlex (named r ps row)
named_ordered ps order r row o s =
    ascending_same shortlex shortlex_total (map (λ i. get_or ps i []) (filter (λ i. is_named r (get_or row i unmarked)) order)) (in_shortlex (named r ps row))
    (some_ascend (λ i. get_or ps i []) (λ i. is_named r (get_or row i unmarked)) order (subst (Ascending shortlex) (sym o.words) (shortlex_ascending ps))) (shortlex_ascending (named r ps row))
    (λ w i.
    let m = In_map (λ i. get_or ps i []) (filter (λ i. is_named r (get_or row i unmarked)) order) w i in
    let k = In_filter (λ i. is_named r (get_or row i unmarked)) order m.0 m.1 in
    has_In r ps row w s (record { place = m.0; there = o.within m.0 k.0; mark = k.1; word = m.2 }))
    (λ w i.
    let h = In_has r ps row w i in
    subst (λ v. In v (map (λ i. get_or ps i []) (filter (λ i. is_named r (get_or row i unmarked)) order))) (sym h.word)
    (map_In (λ i. get_or ps i []) (filter (λ i. is_named r (get_or row i unmarked)) order) h.place
    (filter_In (λ i. is_named r (get_or row i unmarked)) order h.place (o.all h.place h.there) h.mark)))

-- the same, one pattern after another
pub map_filter : {A B : Type 0} (f : A → B) (t : A → Bool) (xs : List A) → flat_map (λ x. cond (t x) (f x ∷ []) []) xs ≡ map f (filter t xs)
map_filter f t [] = refl
map_filter f t (x ∷ xs) = by (t x) (map_filter f t xs)
  where
    by : (b : Bool) → flat_map (λ x. cond (t x) (f x ∷ []) []) xs ≡ map f (filter t xs) → cond b (f x ∷ []) [] ++ flat_map (λ x. cond (t x) (f x ∷ []) []) xs ≡ map f (cond b (x ∷ filter t xs) (filter t xs))
    by true e = ap (λ l. f x ∷ l) e
    by false e = e

pub named_in_order : (ps : List (List ℕ)) (order : List ℕ) (r : Bool) (row : List Mark) → IsOrder ps order → length row ≡ length ps → flat_map (named_at ps r row) order ≡ in_shortlex (named r ps row)
named_in_order ps order r row o s = map_filter (λ i. get_or ps i []) (λ i. is_named r (get_or row i unmarked)) order ∙ named_ordered ps order r row o s

-- one more item of a list gone through
pub flat_next : {A B : Type 0} (f : A → List B) (xs : List A) (i n : ℕ) (x d : A) (old new : List B) → i < length xs → get_or xs i d ≡ x → n ≡ i + 1 → old ≡ flat_map f (take i xs) → new ≡ old ++ f x → new ≡ flat_map f (take n xs)
flat_next f xs i n x d old new h e q o more =
    more
    ∙ ap (λ (l : List _). l ++ f x) o
    ∙ ap (λ l. flat_map f (take i xs) ++ l) (sym (append-nil (f x)))
    ∙ sym (flat_map-append f (take i xs) (x ∷ []))
    ∙ ap (λ y. flat_map f (take i xs ++ y ∷ [])) (sym e)
    ∙ ap (flat_map f) (sym (take-suc xs i d h))
    ∙ ap (λ m. flat_map f (take m xs)) (sym (add-one i) ∙ sym q)

-- one more word in the set, from the last on
pub sorted_next : (ws old new : List (List ℕ)) (i : ℕ) (w : List ℕ) → 0 < i → i - 1 < length ws → w ≡ get_or ws (i - 1) w → old ≡ in_shortlex (drop i ws) → new ≡ insert_key shortlex old w
    → new ≡ in_shortlex (drop (i - 1) ws)
sorted_next ws old new i w h l e o n =
    n ∙ insert_same w old ∙ ap (insert_word w) o
    ∙ ap (λ zs. in_shortlex zs) (ap₂ (λ (v : List ℕ) (m : ℕ). v ∷ drop m ws) e back ∙ sym (drop-cons ws (i - 1) w l))
  where
    back : i ≡ suc (i - 1)
    back = omega arith

-- one more number
pub numbers_next : (ps : List (List ℕ)) (old new : List ℕ) (i : ℕ) (w : List ℕ) (yielded : List (List ℕ)) → position (same w) ps ≡ Some i → new ≡ old ++ i ∷ []
    → map (λ i. get_or ps i []) old ≡ yielded → ((j : ℕ) → In j old → j < length ps) → (map (λ i. get_or ps i []) new ≡ yielded ++ w ∷ []) × ((j : ℕ) → In j new → j < length ps)
numbers_next ps old new i w yielded p more e g =
    let f = position-Some (same w) ps i [] p in (
      ap (λ l. map (λ i. get_or ps i []) l) more ∙ map-append (λ i. get_or ps i []) old (i ∷ []) ∙ ap₂ (λ (l : List (List ℕ)) (v : List ℕ). l ++ v ∷ []) e (sym (word_same w (get_or ps i []) f.1)),
      λ j k. elim (In_append_cases old (i ∷ []) j (subst (In j) more k)) [ inl q ↦ g j q | inr q ↦ subst (λ n. n < length ps) (sym (In_one j i q)) f.0 ],
    )

-- a word of the list has a number
pub numbered : (ps : List (List ℕ)) (w : List ℕ) (b : Bool) → In w ps → b ≡ list_any (same w) ps → b ≡ false → ⊥
numbered ps w b i e f = let t = any_to (same w) ps w i (same_refl w) in let q : true ≡ false = sym t ∙ sym e ∙ f in cc

-- what holds of all by recursion holds of each
pub each_of : {A : Type 0} (P : A → Type 0) (xs : List A) (x : A) → AllByRecursion P xs → In x xs → P x
each_of P [] x a i = absurd i
each_of P (y ∷ xs) x a (inl e) = subst P (sym e) a.0
each_of P (y ∷ xs) x a (inr i) = each_of P xs x a.1 i

-- words that the test tells apart
pub never_same : (u v : List ℕ) → same u v ≡ false → u ≡ v → ⊥
never_same u v f q = let t : same u v ≡ true = subst (λ z. same u z ≡ true) q (same_refl u) in let r : true ≡ false = sym t ∙ f in cc

-- different words have different numbers
pub distinct_same : (ps : List (List ℕ)) (i j : ℕ) → IsDistinct same ps → i < length ps → j < length ps → get_or ps i [] ≡ get_or ps j [] → i ≡ j
unfolding IsDistinct
distinct_same [] i j d h k e = absurd (omega arith)
distinct_same (w ∷ ps) zero zero d h k e = refl
distinct_same (w ∷ ps) zero (suc j) d h k e = absurd (never_same w (get_or ps j []) (each_of (λ y. same w y ≡ false) ps (get_or ps j []) d.0 (In_at ps j [] (omega arith))) e)
distinct_same (w ∷ ps) (suc i) zero d h k e = absurd (never_same w (get_or ps i []) (each_of (λ y. same w y ≡ false) ps (get_or ps i []) d.0 (In_at ps i [] (omega arith))) (sym e))
distinct_same (w ∷ ps) (suc i) (suc j) d h k e = ap suc (distinct_same ps i j d.1 (omega arith) (omega arith) e)

-- the numbers of the words in order
pub ordered : (ps : List (List ℕ)) (order : List ℕ) → IsDistinct same ps → map (λ i. get_or ps i []) order ≡ in_shortlex ps → ((j : ℕ) → In j order → j < length ps) → IsOrder ps order
ordered ps order d e g = record {
  words = e;
  within = g;
  all = λ i h.
      let r = In_map (λ i. get_or ps i []) order (get_or ps i []) (subst (In (get_or ps i [])) (sym e) (In_shortlex ps (get_or ps i []) (In_at ps i [] h))) in
      subst (λ j. In j order) (sym (distinct_same ps i r.0 d h (g r.0 r.1) r.2)) r.1;
}
