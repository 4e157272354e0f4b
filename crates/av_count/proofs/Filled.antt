-- Rows after a write.
use Rattle.std.proofs.Common.{◌≡◌, ◌<◌, ◌≤◌, ◌+◌, ◌≢◌, ◌⊎◌, inl, inr, ℕ, zero, suc, List, [], ◌∷◌, length, get_or, set, refl, sym, ◌∙◌, ap, subst, arith, Bool, true, false, ◌==◌, eqb-true, replicate, drop, slice_get, Some, Option, cond, ◌++◌, ◌-◌}
use Rattle.std.proofs.Math.ListN.{length-set, get_or-append}
use Rattle.std.proofs.Math.Seq.{get_or-append_seam}
use Rattle.std.proofs.lemmas.List.{get_or-set_same, get_or-set_other, get_or-replicate, length-replicate}
use Rattle.std.proofs.lemmas.Option.{get_or_from_slice_get, slice_get_within}
use Rattle.av_sys.specs.declared.terms.Term.{Term}
use Rattle.av_sys.specs.declared.terms.Term.TheVariants.{Point, Node}
use Rattle.av_sys.specs.declared.terms.System.{System}
use Rattle.av_sys.specs.Terms.{term_at, children_of}
use Rattle.av_sys.specs.TreeLists.{count_at}
use Rattle.av_count.specs.declared.count.Count.{Count}
use Rattle.av_count.specs.declared.count.Count.TheVariants.{Known, Over}
use Rattle.av_count.specs.declared.links.Rest.{Rest}
use Rattle.av_count.specs.declared.links.Rest.TheVariants.{Last, More}
use Rattle.av_count.specs.declared.links.Link.{Link}
use Rattle.av_count.specs.declared.layout.Layout.{Layout}
use Rattle.av_count.specs.Counts.{capped}
use Rattle.av_count.specs.Choices.{ways, ahead, sum_from}
use Rattle.av_count.specs.Members.{term_ways}
use Rattle.av_count.specs.Links.{IsRest, IsLinkOf, AreNumbers}
use Rattle.av_count.specs.Tables.{RowHolds, CountsHold, LinkHolds, RestsHold, IsFilled, cell}
use Rattle.av_count.proofs.Members.{ways_one, ways_cons, ways_two, ways_none, count_none, sum_more}

-- equal or not
pub same_or_not : (a b : ℕ) → (a ≡ b) ⊎ (a ≢ b)
same_or_not zero zero = inl refl
same_or_not zero (suc b) = inr (λ e. absurd (omega arith))
same_or_not (suc a) zero = inr (λ e. absurd (omega arith))
same_or_not (suc a) (suc b) = by (same_or_not a b)
  where
    by : ((a ≡ b) ⊎ (a ≢ b)) → (suc a ≡ suc b) ⊎ (suc a ≢ suc b)
    by (inl e) = inl (omega arith)
    by (inr h) = inr (λ e. h (omega arith))

-- a fact of each element, after a write of an element that has it
pub set_each : {X : Type 0} (P : ℕ → X → Type 0) (xs : List X) (u n : ℕ) (y d : X) → u < length xs
    → P u y → ((k : ℕ) → k < n → k ≢ u → P k (get_or xs k d)) → (k : ℕ) → k < n → P k (get_or (set xs u y) k d)
set_each P xs u n y d lt p h k k_lt = by (same_or_not k u)
  where
    by : ((k ≡ u) ⊎ (k ≢ u)) → P k (get_or (set xs u y) k d)
    by (inl e) = subst (λ j. P j (get_or (set xs u y) j d)) (sym e) (subst (λ z. P u z) (sym (get_or-set_same xs u y d lt)) p)
    by (inr ne) = subst (λ z. P k z) (sym (get_or-set_other xs u k y d ne)) (h k k_lt ne)

-- a row holds one size more, once that is written
pub row_put : (N : ℕ → ℕ) (w s : ℕ) (row : List Count) (x : Count) → RowHolds N w s row → s < w → x ≡ capped (N s) → RowHolds N w (s + 1) (set row s x)
row_put N w s row x h lt e = record {
  long = length-set row s x ∙ h.long;
  cells = set_each (λ k c. c ≡ capped (N k)) row s (s + 1) x Over (omega (arith, h.long)) e (λ k k_lt ne. h.cells k (omega arith));
}

-- the number for the children from i on, by the size of child i
pub tail_next : (f : ℕ → ℕ → ℕ) (cs : List ℕ) (i n c : ℕ) → i < length cs → get_or cs i 0 ≡ c → ways f (drop i cs) n ≡ ahead (f c) (ways f (drop (i + 1) cs)) n 1 n
tail_next f [] i n c lt g = absurd (omega arith)
tail_next f (x ∷ cs) zero n c lt g = rw g (ways_cons f c cs n)
tail_next f (x ∷ cs) (suc i) n c lt g = let e : suc i + 1 ≡ suc (i + 1) = omega arith in rw e (tail_next f cs i n c (omega arith) g)

-- the number of a child that was read
pub child_is : (cs : List ℕ) (i c : ℕ) → slice_get cs i ≡ Some c → get_or cs i 0 ≡ c
child_is cs i c e = get_or_from_slice_get cs i c 0 e

-- the children of a node
pub children_is : (S : System) (u t : ℕ) (root cs : List ℕ) → term_at S u t ≡ Some (Node root cs) → children_of (term_at S u t) ≡ cs
children_is S u t root cs e = rw e refl

-- rows of nothing but 0 hold below size 1
pub row_zero : (N : ℕ → ℕ) (w : ℕ) → 1 ≤ w → N 0 ≡ 0 → RowHolds N w 1 (replicate w (Known 0))
unfolding capped
row_zero N w h e = record {
  long = length-replicate w (Known 0);
  cells = λ k lt. let z : k ≡ 0 = omega arith in let m : k < w = omega arith in get_or-replicate w k (Known 0) Over m ∙ zero_at k z;
}
  where
    zero_at : (k : ℕ) → k ≡ 0 → Known 0 ≡ capped (N k)
    zero_at k z = rw (z, e) refl

-- a point is a tree of size 1
pub point_one : (S : System) (n : ℕ) (o : Option Term) → o ≡ Some Point → n ≡ 1 → Known 1 ≡ capped (term_ways S n o)
unfolding capped
point_one S n o e one = rw (e, one) refl

-- and of no other
pub point_none : (S : System) (n : ℕ) (o : Option Term) → o ≡ Some Point → (n ≡ 1 → ⊥) → Known 0 ≡ capped (term_ways S n o)
unfolding capped
point_none S n o e other = rw e (by (n == 1) refl)
  where
    by : (b : Bool) → (n == 1) ≡ b → Known 0 ≡ capped (cond {A = ℕ} b 1 0)
    by true q = absurd (other (eqb-true n 1 q))
    by false q = refl

-- rows of nothing but 0 hold below size 1
pub counts_zero : (S : System) (w : ℕ) → 1 ≤ w → CountsHold S w 1 (replicate (length S.equations) (replicate w (Known 0)))
counts_zero S w h = record {
  long = length-replicate (length S.equations) (replicate w (Known 0));
  rows = λ u lt. subst (RowHolds (count_at S u) w 1) (sym (get_or-replicate (length S.equations) u (replicate w (Known 0)) [] lt)) (row_zero (count_at S u) w h (count_none S u));
}

-- one more at the end
pub push_each : {X : Type 0} (P : ℕ → X → Type 0) (xs : List X) (n : ℕ) (y d : X) → length xs ≡ n → P n y → ((k : ℕ) → k < n → P k (get_or xs k d))
    → (k : ℕ) → k < n + 1 → P k (get_or (xs ++ y ∷ []) k d)
push_each P xs n y d e p h k lt = by (same_or_not k n)
  where
    by : ((k ≡ n) ⊎ (k ≢ n)) → P k (get_or (xs ++ y ∷ []) k d)
    by (inl q) = subst (λ j. P j (get_or (xs ++ y ∷ []) j d)) (sym q) (subst (λ z. P n (get_or (xs ++ y ∷ []) z d)) e (subst (P n) (sym (get_or-append_seam xs y [] d)) p))
    by (inr ne) = let m : k < length xs = omega arith in subst (P k) (sym (get_or-append xs (y ∷ []) d k m)) (h k (omega arith))

-- one term more in the sum
pub total_more : (f : ℕ → ℕ) (t : ℕ) → sum_from f 0 t + f t ≡ sum_from f 0 (t + 1)
total_more f t = let e : 0 + t ≡ t = omega arith in let h : suc t ≡ t + 1 = omega arith in rw (← h, sum_more f 0 t, e) refl

-- a link's row after a write
pub link_put : (S : System) (links : List Link) (w s i : ℕ) (row : List Count) (x : Count) → LinkHolds S links w s i row → s < w
    → ((cs : List ℕ) → AreNumbers (length S.equations) cs → IsRest links cs (More i) → x ≡ capped (ways (count_at S) cs s)) → LinkHolds S links w (s + 1) i (set row s x)
link_put S links w s i row x h lt e = record {
  long = length-set row s x ∙ h.long;
  cells = λ cs n r. (row_put (ways (count_at S) cs) w s row x (record { long = h.long; cells = h.cells cs n r }) lt (e cs n r)).cells;
}

-- a link's row that holds sizes holds fewer
pub link_less : (S : System) (links : List Link) (w s t i : ℕ) (row : List Count) → s ≤ t → LinkHolds S links w t i row → LinkHolds S links w s i row
link_less S links w s t i row le h = record { long = h.long; cells = λ cs n r k lt. h.cells cs n r k (omega arith) }

-- all rows of links after a write
pub rests_put : (S : System) (links : List Link) (w s i : ℕ) (rests : List (List Count)) (row : List Count) → RestsHold S links w s rests
    → i < length links → LinkHolds S links w (s + 1) i row → RestsHold S links w s (set rests i row)
rests_put S links w s i rests row h lt e = record {
  long = length-set rests i row ∙ h.long;
  rows = set_each (λ k r. LinkHolds S links w s k r) rests i (length links) row [] (omega (arith, h.long)) (link_less S links w s (s + 1) i row (omega arith) e) (λ k k_lt ne. h.rows k k_lt);
}

-- one link more is counted
pub rests_done : (S : System) (links : List Link) (w s i : ℕ) (rests : List (List Count)) (row : List Count) → RestsHold S links w s rests
    → i < length links → ((k : ℕ) → k < i → LinkHolds S links w (s + 1) k (get_or rests k [])) → LinkHolds S links w (s + 1) i row
    → (k : ℕ) → k < i + 1 → LinkHolds S links w (s + 1) k (get_or (set rests i row) k [])
rests_done S links w s i rests row h lt d e =
    set_each (λ k r. LinkHolds S links w (s + 1) k r) rests i (i + 1) row [] (omega (arith, h.long)) e (λ k k_lt ne. d k (omega arith))

-- rows of nothing but 0 hold below size 1
pub rests_zero : (S : System) (links : List Link) (w : ℕ) → 1 ≤ w → RestsHold S links w 1 (replicate (length links) (replicate w (Known 0)))
rests_zero S links w h = record {
  long = length-replicate (length links) (replicate w (Known 0));
  rows = λ i lt. subst (LinkHolds S links w 1 i) (sym (get_or-replicate (length links) i (replicate w (Known 0)) [] lt))
      (record { long = length-replicate w (Known 0); cells = λ cs n r. (row_zero (ways (count_at S) cs) w h (ways_none (count_at S) cs (some cs _ r))).cells });
}
  where
    some : (cs : List ℕ) (r : Rest) → IsRest links cs r → 1 ≤ length cs
    some [] r h = absurd h
    some (c ∷ cs) r h = omega arith

-- the row of a rest
abbrev pub row_of : List (List Count) → List (List Count) → Rest → List Count
row_of counts rests (Last e) = get_or counts e []
row_of counts rests (More i) = get_or rests i []

-- it holds the numbers for the children that the rest stands for
pub rest_row : (g : Layout) (s : ℕ) (counts rests : List (List Count)) → IsFilled g s counts rests
    → (cs : List ℕ) → AreNumbers (length g.of.value.equations) cs → (r : Rest) → IsRest g.links cs r → RowHolds (ways (count_at g.of.value) cs) (g.largest + 1) s (row_of counts rests r)
rest_row g s counts rests h [] n r d = absurd d
rest_row g s counts rests h (c ∷ cs) n (Last e) d =
    subst (λ ds. RowHolds (ways (count_at g.of.value) (c ∷ ds)) (g.largest + 1) s (get_or counts e [])) (sym d.1)
    (subst (λ u. RowHolds (ways (count_at g.of.value) (c ∷ [])) (g.largest + 1) s (get_or counts u [])) (sym d.0)
    (let r = h.counted.rows c (n c (inl refl)) in
    record { long = r.long; cells = λ k lt. r.cells k lt ∙ ap capped (sym (ways_one (count_at g.of.value) c k (count_none g.of.value c))) }))
rest_row g s counts rests h (c ∷ cs) n (More i) d =
    let r = h.rows.rows i (slice_get_within g.links i d.0 d.1) in record { long = r.long; cells = r.cells (c ∷ cs) n d }

-- the lists for a child and others, by the size of the child
pair_ways : (f : ℕ → ℕ → ℕ) (c : ℕ) (cs : List ℕ) (n : ℕ) → 1 ≤ length cs → ways f (c ∷ cs) n ≡ ahead (f c) (ways f cs) n 1 (n - 1)
pair_ways f c cs zero h = ways_cons f c cs zero
pair_ways f c cs (suc n) h = let e : suc n - 1 ≡ n = omega arith in rw e (ways_two f c cs n h)

-- pairs counted by two rows are the lists for the children of a link
pub node_is : (g : Layout) (s : ℕ) (counts rests : List (List Count)) (l : Link) (row others : List Count) (x : Count) → IsFilled g s counts rests
    → row ≡ get_or counts l.first [] → others ≡ row_of counts rests l.rest
    → ((f h : ℕ → ℕ) → ((m : ℕ) → m < s → cell row m ≡ capped (f m)) → ((m : ℕ) → m < s → cell others m ≡ capped (h m)) → x ≡ capped (ahead f h s 1 (s - 1)))
    → (cs : List ℕ) → AreNumbers (length g.of.value.equations) cs → IsLinkOf g.links cs l → x ≡ capped (ways (count_at g.of.value) cs s)
node_is g s counts rests l row others x h e k pairs [] n d = absurd d
node_is g s counts rests l row others x h e k pairs (c ∷ cs) n d =
    let first = subst (RowHolds (count_at g.of.value c) (g.largest + 1) s) (sym (e ∙ ap (λ u. get_or counts u []) d.0)) (h.counted.rows c (n c (inl refl))) in
    let rest = subst (RowHolds (ways (count_at g.of.value) cs) (g.largest + 1) s) (sym k) (rest_row g s counts rests h cs (λ y i. n y (inr i)) l.rest d.1) in
    pairs (count_at g.of.value c) (ways (count_at g.of.value) cs) first.cells rest.cells ∙ ap capped (sym (pair_ways (count_at g.of.value) c cs s (some cs l.rest d.1)))
  where
    some : (cs : List ℕ) (r : Rest) → IsRest g.links cs r → 1 ≤ length cs
    some [] r d = absurd d
    some (y ∷ ys) r d = omega arith

-- a rest in a table of so many rows for equations and for links
abbrev pub IsRestWithin : ℕ → ℕ → Rest → Type 0
IsRestWithin equations links (Last e) = e < equations
IsRestWithin equations links (More i) = i < links

-- the rows of a node's children
pub record NodeRows (g : Layout) (counts rests : List (List Count)) (l : Link) : Type 0 where
  pub first : l.first < length counts
  pub first_long : length (get_or counts l.first []) ≡ g.largest + 1
  pub within : IsRestWithin (length counts) (length rests) l.rest
  pub rest_long : length (row_of counts rests l.rest) ≡ g.largest + 1

-- a rest for some children has a row
pub rest_within : (g : Layout) (s : ℕ) (counts rests : List (List Count)) → IsFilled g s counts rests → (cs : List ℕ) → AreNumbers (length g.of.value.equations) cs
    → (r : Rest) → IsRest g.links cs r → IsRestWithin (length counts) (length rests) r
rest_within g s counts rests h [] n r d = absurd d
rest_within g s counts rests h (c ∷ cs) n (Last e) d = let k = subst (λ x. x < length g.of.value.equations) (sym d.0) (n c (inl refl)) in omega (arith, k, h.counted.long)
rest_within g s counts rests h (c ∷ cs) n (More i) d = omega (arith, slice_get_within g.links i d.0 d.1, h.rows.long)

-- so do all children of a node
pub node_rows : (g : Layout) (s : ℕ) (counts rests : List (List Count)) → IsFilled g s counts rests → (l : Link) (cs : List ℕ) → AreNumbers (length g.of.value.equations) cs
    → IsLinkOf g.links cs l → NodeRows g counts rests l
node_rows g s counts rests h l [] n d = absurd d
node_rows g s counts rests h l (c ∷ cs) n d =
    let k = subst (λ x. x < length g.of.value.equations) (sym d.0) (n c (inl refl)) in
    record {
      first = omega (arith, k, h.counted.long);
      first_long = (h.counted.rows l.first k).long;
      within = rest_within g s counts rests h cs (λ y i. n y (inr i)) l.rest d.1;
      rest_long = (rest_row g s counts rests h cs (λ y i. n y (inr i)) l.rest d.1).long;
    }

-- the row of the last child, and of others
pub last_row : (counts rests : List (List Count)) (r : Rest) (e : ℕ) (row : List Count) → r ≡ Last e → row ≡ get_or counts e [] → row ≡ row_of counts rests r
last_row counts rests r e row q h = h ∙ sym (ap (row_of counts rests) q)

pub more_row : (counts rests : List (List Count)) (r : Rest) (i : ℕ) (row : List Count) → r ≡ More i → row ≡ get_or rests i [] → row ≡ row_of counts rests r
more_row counts rests r i row q h = h ∙ sym (ap (row_of counts rests) q)

-- the place of a row
pub last_place : (m n : ℕ) (r : Rest) (e : ℕ) → r ≡ Last e → IsRestWithin m n r → e < m
last_place m n r e q h = subst (IsRestWithin m n) q h

pub more_place : (m n : ℕ) (r : Rest) (i : ℕ) → r ≡ More i → IsRestWithin m n r → i < n
more_place m n r i q h = subst (IsRestWithin m n) q h

-- rows of nothing but 0 hold below size 1
pub filled_zero : (g : Layout) (counts rests : List (List Count)) → counts ≡ replicate (length g.of.value.equations) (replicate (g.largest + 1) (Known 0))
    → rests ≡ replicate (length g.links) (replicate (g.largest + 1) (Known 0)) → IsFilled g 1 counts rests
filled_zero g counts rests a b = record {
  counted = subst (CountsHold g.of.value (g.largest + 1) 1) (sym a) (counts_zero g.of.value (g.largest + 1) (omega arith));
  rows = subst (RestsHold g.of.value g.links (g.largest + 1) 1) (sym b) (rests_zero g.of.value g.links (g.largest + 1) (omega arith));
}

-- the row for the children of a link from one on
pub record TailRow (g : Layout) (s : ℕ) (counts rests : List (List Count)) (child : ℕ) (cs : List ℕ) (r : Rest) : Type 0 where
  pub within : IsRestWithin (length counts) (length rests) r
  pub holds : RowHolds (ways (count_at g.of.value) (drop (child - 1) cs)) (g.largest + 1) s (row_of counts rests r)
