-- The statistics of the words of a node are the totals over the sizes of its blocks.
use Rattle.std.proofs.Common.{◌≡◌, ℕ, zero, suc, ◌+◌, ◌-◌, ◌<◌, inl, inr, List, [], ◌∷◌, ◌++◌, map, length, refl, sym, ap, ap₂, ◌∙◌, subst, arith, sum_by}
use Rattle.std.proofs.lemmas.List.{length-map, map-append, length_push}
use Rattle.std.proofs.lemmas.List.Sums.{sum_by_push}
use Rattle.av_perm.specs.Lists.{counting, size_lists}
use Rattle.av_perm.specs.Members.{In}
use Rattle.av_perm.specs.Relations.{IsWord, AreBlocks, inflate, block}
use Rattle.av_perm.proofs.Membership.{In_map, In_flat_map}
use Rattle.av_perm.proofs.ListLaws.{map_flat_map}
use Rattle.av_text.specs.declared.queries.DistKind.{DistKind}
use Rattle.av_text.specs.declared.queries.DistKind.TheVariants.{Inv, Des}
use Rattle.av_count.specs.Choices.{grown, pairs, snoc}
use Rattle.av_count.proofs.Choices.{grown_end, grown_step, flat_map_same}
use Rattle.av_count.proofs.Members.{map_map}
use Rattle.av_tree.proofs.TreeWords.{IsWordOfLength}
use Rattle.av_dist.specs.Kinds.{statistic_by}
use Rattle.av_dist.specs.Crossing.{added}
use Rattle.av_dist.specs.Totals.{sums, totals}
use Rattle.av_dist.proofs.InflationInversions.{inversions_are}
use Rattle.av_dist.proofs.InflationDescents.{descents_are}

-- the statistic of an inflation is that of its blocks and what the root adds
inflation_statistic : (k : DistKind) (π : List ℕ) (αs : List (List ℕ)) → IsWord π → AreBlocks π αs
    → statistic_by k (inflate π αs) ≡ added k π (map length αs) + sum_by (statistic_by k) αs
inflation_statistic Inv π αs w b = omega (arith, inversions_are π αs w b)
inflation_statistic Des π αs w b = omega (arith, descents_are π αs w b)

-- words of these sizes
record WordsOf (ms : List ℕ) (p : List (List ℕ)) : Type 0 where
  sized : map length p ≡ ms
  words : (i : ℕ) → i < length p → IsWord (block p i)

no_words : WordsOf [] []
no_words = record { sized = refl; words = λ i h. absurd (omega arith) }

-- one word more
words_more : (ms : List ℕ) (m : ℕ) (p : List (List ℕ)) (w : List ℕ) → WordsOf ms p → IsWordOfLength m w → WordsOf (ms ++ m ∷ []) (snoc p w)
words_more ms m p w h x = record {
  sized = map-append length p (w ∷ []) ∙ ap₂ (λ a b. a ++ b ∷ []) h.sized x.long;
  words = last p w h.words x.word;
}
  where
    last : (p : List (List ℕ)) (w : List ℕ) → ((i : ℕ) → i < length p → IsWord (block p i)) → IsWord w
        → (i : ℕ) → i < length (p ++ w ∷ []) → IsWord (block (p ++ w ∷ []) i)
    last [] w f x zero h = x
    last [] w f x (suc i) h = absurd (omega arith)
    last (a ∷ p) w f x zero h = f 0 (omega arith)
    last (a ∷ p) w f x (suc i) h = last p w (λ j k. f (suc j) (omega arith)) x i (omega arith)

-- one for each entry of a root are its blocks
words_blocks : (π ms : List ℕ) (p : List (List ℕ)) → length ms ≡ length π → WordsOf ms p → AreBlocks π p
words_blocks π ms p e h =
    let l : length p ≡ length π = sym (length-map p (λ (a : List ℕ). length a)) ∙ ap length h.sized ∙ e in
    record { count = l; words = λ i k. (h.words i (omega arith)).numbers; filled = λ i k. (h.words i (omega arith)).filled }

-- the sums of the statistics of lists of words, with one word more
sums_snoc : (f : List ℕ → ℕ) (ps : List (List (List ℕ))) (ws : List (List ℕ)) → map (sum_by f) (pairs snoc ps ws) ≡ sums (map (sum_by f) ps) (map f ws)
sums_snoc f [] ws = refl
sums_snoc f (p ∷ ps) ws = map-append (sum_by f) (map (snoc p) ws) (pairs snoc ps ws) ∙ ap₂ (λ a b. a ++ b) (one f p ws) (sums_snoc f ps ws)
  where
    one : (f : List ℕ → ℕ) (p : List (List ℕ)) (ws : List (List ℕ)) → map (sum_by f) (map (snoc p) ws) ≡ map (λ y. sum_by f p + y) (map f ws)
    one f p [] = refl
    one f p (w ∷ ws) = ap₂ (λ a (zs : List ℕ). a ∷ zs) (sum_by_push f p w) (one f p ws)

-- maps that agree on the elements of a list
map_on : {X : Type 0} (f g : X → ℕ) (xs : List X) → ((x : X) → In x xs → f x ≡ g x) → map f xs ≡ map g xs
map_on f g [] h = refl
map_on f g (x ∷ xs) h = ap₂ (λ a (zs : List ℕ). a ∷ zs) (h x (inl refl)) (map_on f g xs (λ y i. h y (inr i)))

-- the statistics of the inflations of lists of words that grow child by child, where `V` has the words of a child and its size
grown_totals : (k : DistKind) (π : List ℕ) (V : ℕ → ℕ → List (List ℕ)) → IsWord π → ((c m : ℕ) (w : List ℕ) → In w (V c m) → IsWordOfLength m w)
    → (cs ms : List ℕ) (ps : List (List (List ℕ))) (n : ℕ) → length ms + length cs ≡ length π → ((p : List (List ℕ)) → In p ps → WordsOf ms p)
    → map (λ p. statistic_by k (inflate π p)) (grown V ps cs n)
    ≡ totals (added k π) (λ c m. map (statistic_by k) (V c m)) cs ms (map (sum_by (statistic_by k)) ps) n
unfolding totals size_lists
grown_totals k π V w v [] ms ps zero e h =
    ap (map (λ p. statistic_by k (inflate π p))) (grown_end V ps)
    ∙ map_on (λ p. statistic_by k (inflate π p)) (λ p. added k π ms + sum_by (statistic_by k) p) ps whole
    ∙ sym (map_map (λ x. added k π ms + x) (sum_by (statistic_by k)) ps)
  where
    whole : (p : List (List ℕ)) → In p ps → statistic_by k (inflate π p) ≡ added k π ms + sum_by (statistic_by k) p
    whole p i =
        let q = h p i in
        inflation_statistic k π p w (words_blocks π ms p (omega arith) q) ∙ ap (λ ns. added k π ns + sum_by (statistic_by k) p) q.sized
grown_totals k π V w v [] ms ps (suc n) e h = refl
grown_totals k π V w v (c ∷ cs) ms ps n e h =
    ap (map (λ p. statistic_by k (inflate π p))) (grown_step V ps c cs n)
    ∙ map_flat_map (λ p. statistic_by k (inflate π p)) (λ m. grown V (pairs snoc ps (V c m)) cs (n - m)) (counting 1 n)
    ∙ flat_map_same _ _ (counting 1 n) (λ m.
    grown_totals k π V w v cs (ms ++ m ∷ []) (pairs snoc ps (V c m)) (n - m) (let l = length_push ms m in omega arith) (more m)
    ∙ ap (λ xs. totals (added k π) (λ c m. map (statistic_by k) (V c m)) cs (ms ++ m ∷ []) xs (n - m)) (sums_snoc (statistic_by k) ps (V c m)))
  where
    more : (m : ℕ) (q : List (List ℕ)) → In q (pairs snoc ps (V c m)) → WordsOf (ms ++ m ∷ []) q
    more m q i =
        let r = In_flat_map (λ p. map (snoc p) (V c m)) ps q i in
        let s = In_map (snoc r.0) (V c m) q r.2 in
        subst (WordsOf (ms ++ m ∷ [])) (sym s.2) (words_more ms m r.0 s.0 (h r.0 r.1) (v c m s.0 s.1))

-- so of all of them
pub choices_totals : (k : DistKind) (π : List ℕ) (V : ℕ → ℕ → List (List ℕ)) → IsWord π
    → ((c m : ℕ) (w : List ℕ) → In w (V c m) → IsWordOfLength m w) → (cs : List ℕ) (n : ℕ) → length cs ≡ length π
    → map (λ p. statistic_by k (inflate π p)) (grown V ([] ∷ []) cs n) ≡ totals (added k π) (λ c m. map (statistic_by k) (V c m)) cs [] (0 ∷ []) n
choices_totals k π V w v cs n e = grown_totals k π V w v cs [] ([] ∷ []) n (omega arith) none
  where
    none : (p : List (List ℕ)) → In p ([] ∷ []) → WordsOf [] p
    none p (inl e) = subst (WordsOf []) (sym e) no_words
    none p (inr i) = absurd i
