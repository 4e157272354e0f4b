-- The root and the blocks that are computed are those of the decomposition.
use Rattle.std.proofs.Common.{◌≡◌, ℕ, zero, suc, ◌+◌, ◌-◌, ◌<◌, ◌≤◌, inl, inr, ◌↔◌, List, [], ◌∷◌, ◌++◌, map, length, take, drop, flat_map, Bool, true, ◌&&◌, ◌||◌, refl, sym, ap, ap₂, ◌∙◌, subst, arith}
use Rattle.std.specs.List.{sum}
use Rattle.std.proofs.Math.Seq.{take-append_seam, drop-append_seam}
use Rattle.std.proofs.lemmas.Bool.{cases_eq, and_parts, and_from, or_cases, or_left, or_right}
use Rattle.std.proofs.lemmas.List.{get_or-map, length-map, length-drop}
use Rattle.std.proofs.lemmas.List.Sums.{sum_by-cons, sum-map}
use Rattle.av_perm.specs.Lists.{same, counting, size_lists}
use Rattle.av_perm.specs.Members.{In, Once}
use Rattle.av_perm.specs.WordOrder.{word_same}
use Rattle.av_perm.specs.Relations.{at, IsOneToLength, AreBlocks, block, joined, inflate, pattern_of, sum_root, skew_root}
use Rattle.av_perm.specs.Simple.{is_simple, is_sum_indecomposable, is_skew_indecomposable}
use Rattle.av_perm.specs.Decompose.{Decomposes, IsRoot}
use Rattle.av_perm.specs.Parts.{Parts, pieces_of, first, parts_of, is_canonical, parts, PartsLaw}
use Rattle.av_perm.proofs.Membership.{Each, In_at, at_In, In_map, map_In, In_flat_map, flat_map_In, counting_In}
use Rattle.av_perm.proofs.Tests.{same_refl, finds}
use Rattle.av_perm.proofs.NoRepeats.{once_from_apart, apart_from_once}
use Rattle.av_perm.proofs.GeneratedLists.{sizes_from, sizes_to}
use Rattle.av_perm.proofs.Patterns.{length_pattern, pattern_word, pattern_same, word_pattern, raised_pattern}
use Rattle.av_perm.proofs.Inflations.{raise_of, lifted, block_order, length_inflate, lengths_least, lengths_sum}
use Rattle.av_perm.proofs.SimpleWords.{simple_law}
use Rattle.av_perm.proofs.Sums.{sum_law, skew_law}
use Rattle.av_perm.proofs.RootWords.{root_word}
use Rattle.av_perm.proofs.SomeDecomposition.{some_decomposition}

-- pieces one after another
abbrev listed : (ℕ → List ℕ) → ℕ → List (List ℕ)
listed F zero = []
listed F (suc n) = F 0 ∷ listed (λ i. F (suc i)) n

-- joined pieces cut at their lengths
pieces_of_joined : (αs : List (List ℕ)) (F : ℕ → List ℕ) → ((i : ℕ) → i < length αs → length (F i) ≡ length (block αs i))
    → pieces_of (joined F (length αs)) (map length αs) ≡ listed F (length αs)
pieces_of_joined [] F h = refl
pieces_of_joined (a ∷ αs) F h =
    let e : length a ≡ length (F 0) = sym (h 0 (omega arith)) in
    ap₂ (λ (p : List ℕ) (ps : List (List ℕ)). p ∷ ps)
    (ap (λ (n : ℕ). take n (F 0 ++ joined (λ i. F (suc i)) (length αs))) e ∙ take-append_seam (F 0) (joined (λ i. F (suc i)) (length αs)))
    (ap (λ (w : List ℕ). pieces_of w (map length αs)) (ap (λ (n : ℕ). drop n (F 0 ++ joined (λ i. F (suc i)) (length αs))) e ∙ drop-append_seam (F 0) (joined (λ i. F (suc i)) (length αs)))
    ∙ pieces_of_joined αs (λ i. F (suc i)) (λ i l. h (suc i) (omega arith)))

-- how many pieces there are
length_listed : (F : ℕ → List ℕ) (n : ℕ) → length (listed F n) ≡ n
length_listed F zero = refl
length_listed F (suc n) = ap suc (length_listed (λ i. F (suc i)) n)

-- piece i
listed_at : (F : ℕ → List ℕ) (n i : ℕ) → i < n → block (listed F n) i ≡ F i
listed_at F zero i h = absurd (omega arith)
listed_at F (suc n) zero h = refl
listed_at F (suc n) (suc i) h = listed_at (λ i. F (suc i)) n i (omega arith)

-- the patterns of the pieces are the blocks
patterns_back : (αs : List (List ℕ)) (F : ℕ → List ℕ) → ((i : ℕ) → i < length αs → pattern_of (F i) ≡ block αs i) → map pattern_of (listed F (length αs)) ≡ αs
patterns_back [] F h = refl
patterns_back (a ∷ αs) F h = ap₂ (λ (p : List ℕ) (ps : List (List ℕ)). p ∷ ps) (h 0 (omega arith)) (patterns_back αs (λ i. F (suc i)) (λ i l. h (suc i) (omega arith)))

-- the first entry is in the word
first_In : (w : List ℕ) → 1 ≤ length w → In (first w) w
first_In [] h = absurd (omega arith)
first_In (x ∷ w) h = inl refl

-- the pieces of an inflation give its root and blocks
pieces_back : (π : List ℕ) (αs : List (List ℕ)) → IsOneToLength π → AreBlocks π αs → parts_of (pieces_of (inflate π αs) (map length αs)) ≡ record { root = π; blocks = αs }
pieces_back π αs w b =
    ap parts_of pieces ∙ ap₂ (λ (r : List ℕ) (bs : List (List ℕ)). let p : Parts = record { root = r; blocks = bs } in p) root blocks
  where
    F : ℕ → List ℕ
    F i = lifted π αs i

    long : (i : ℕ) → length (lifted π αs i) ≡ length (block αs i)
    long i = length-map (block αs i) (λ (v : ℕ). v + raise_of π αs i)

    pieces : pieces_of (inflate π αs) (map length αs) ≡ listed (lifted π αs) (length αs)
    pieces = ap (λ (n : ℕ). pieces_of (joined (lifted π αs) n) (map length αs)) (sym b.count) ∙ pieces_of_joined αs (lifted π αs) (λ i l. long i)

    blocks : map pattern_of (listed (lifted π αs) (length αs)) ≡ αs
    blocks = patterns_back αs (lifted π αs) (λ i l. raised_pattern (raise_of π αs i) (block αs i) (b.words i (omega (arith, b.count))))

    heads : List ℕ
    heads = map first (listed (lifted π αs) (length αs))

    n : length (map first (listed (lifted π αs) (length αs))) ≡ length π
    n = length-map (listed (lifted π αs) (length αs)) first ∙ length_listed (lifted π αs) (length αs) ∙ b.count

    stands : (s : ℕ) → s < length π → In (at (map first (listed (lifted π αs) (length αs))) s) (lifted π αs s)
    stands s h =
        let k = length_listed (lifted π αs) (length αs) in
        let e = get_or-map first (listed (lifted π αs) (length αs)) s [] 0 (omega (arith, b.count)) in
        let f = listed_at (lifted π αs) (length αs) s (omega (arith, b.count)) in
        subst (λ v. In v (lifted π αs s)) (sym (e ∙ ap first f)) (first_In (lifted π αs s) (omega (arith, long s, b.filled s h)))

    root : pattern_of (map first (listed (lifted π αs) (length αs))) ≡ π
    root = pattern_same (map first (listed (lifted π αs) (length αs))) π (record { count = n; alike = λ s t h k. order s t (omega (arith, h, n)) (omega (arith, k, n)) }) ∙ word_pattern π w
      where
        order : (s t : ℕ) → s < length π → t < length π
            → (at (map first (listed (lifted π αs) (length αs))) s < at (map first (listed (lifted π αs) (length αs))) t) ↔ (at π s < at π t)
        order s t h k = elim (cases_eq s t) [
          | inl e ↦ let x = ap (at π) e in let y = ap (at (map first (listed (lifted π αs) (length αs)))) e in (λ l. absurd (omega arith), λ l. absurd (omega arith))
          | inr ne ↦ block_order π αs s t (at (map first (listed (lifted π αs) (length αs))) s) (at (map first (listed (lifted π αs) (length αs))) t) w b h k ne (stands s h) (stands t k)
        ]

-- a root of a decomposition is canonical
canonical_to : (π : List ℕ) (αs : List (List ℕ)) → AreBlocks π αs → IsRoot π (block αs 0) → is_canonical (record { root = π; blocks = αs }) ≡ true
canonical_to π αs b (inl r) =
    or_left (same π sum_root && is_sum_indecomposable (block αs 0)) ((same π skew_root && is_skew_indecomposable (block αs 0)) || is_simple π)
    (and_from (same π sum_root) (is_sum_indecomposable (block αs 0)) (ap (λ p. same p sum_root) r.0 ∙ same_refl sum_root) ((sum_law (block αs 0) (b.words 0 (let l = ap length r.0 in omega arith))).1 r.1))
canonical_to π αs b (inr (inl r)) =
    or_right (same π sum_root && is_sum_indecomposable (block αs 0)) ((same π skew_root && is_skew_indecomposable (block αs 0)) || is_simple π)
    (or_left (same π skew_root && is_skew_indecomposable (block αs 0)) (is_simple π)
    (and_from (same π skew_root) (is_skew_indecomposable (block αs 0)) (ap (λ p. same p skew_root) r.0 ∙ same_refl skew_root) ((skew_law (block αs 0) (b.words 0 (let l = ap length r.0 in omega arith))).1 r.1)))
canonical_to π αs b (inr (inr p)) =
    or_right (same π sum_root && is_sum_indecomposable (block αs 0)) ((same π skew_root && is_skew_indecomposable (block αs 0)) || is_simple π)
    (or_right (same π skew_root && is_skew_indecomposable (block αs 0)) (is_simple π) ((simple_law π p.numbers).1 p))

-- pieces of a word
in_take : (x : ℕ) (w : List ℕ) (n : ℕ) → In x (take n w) → In x w
in_take x [] zero i = absurd i
in_take x [] (suc n) i = absurd i
in_take x (y ∷ w) zero i = absurd i
in_take x (y ∷ w) (suc n) (inl e) = inl e
in_take x (y ∷ w) (suc n) (inr i) = inr (in_take x w n i)

-- what is in the rest is in the word
in_drop : (x : ℕ) (w : List ℕ) (n : ℕ) → In x (drop n w) → In x w
in_drop x w zero i = i
in_drop x [] (suc n) i = absurd i
in_drop x (y ∷ w) (suc n) i = inr (in_drop x w n i)

-- the first entries come once where all do
once_take : (w : List ℕ) (n : ℕ) → Once w → Once (take n w)
once_take [] zero d = tt
once_take [] (suc n) d = tt
once_take (x ∷ w) zero d = tt
once_take (x ∷ w) (suc n) d = (λ i. d.0 (in_take x w n i), once_take w n d.1)

-- the rest comes once where all do
once_drop : (w : List ℕ) (n : ℕ) → Once w → Once (drop n w)
once_drop w zero d = d
once_drop [] (suc n) d = tt
once_drop (x ∷ w) (suc n) d = once_drop w n d.1

-- each piece has distinct entries, and so have the first entries
record Cut (w : List ℕ) (ls : List ℕ) : Type 0 where
  count : length (pieces_of w ls) ≡ length ls
  pieces : (p : List ℕ) → In p (pieces_of w ls) → Once p × (1 ≤ length p)
  heads : Once (map first (pieces_of w ls))
  inside : (x : ℕ) → In x (map first (pieces_of w ls)) → In x w

-- a word cut at sizes of at least 1 that make its length
cut_facts : (ls w : List ℕ) → Once w → Each (λ n. 1 ≤ n) ls → sum ls ≡ length w → Cut w ls
cut_facts [] w d h e = record { count = refl; pieces = λ p i. absurd i; heads = tt; inside = λ x i. absurd i }
cut_facts (n ∷ ls) [] d h e = let l = h n (inl refl) in let s = sum_by-cons (λ (x : ℕ). x) n ls in absurd (omega arith)
cut_facts (zero ∷ ls) (x ∷ w) d h e = let l = h 0 (inl refl) in absurd (omega arith)
cut_facts (suc n ∷ ls) (x ∷ w) d h e =
    let r = cut_facts ls (drop n w) (once_drop w n d.1) (λ m i. h m (inr i)) (omega (arith, length-drop n w, sum_by-cons (λ (x : ℕ). x) (suc n) ls)) in
    record {
      count = ap suc r.count;
      pieces = λ p i. piece r.pieces p i;
      heads = (λ i. d.0 (in_drop x w n (r.inside x i)), r.heads);
      inside = λ y i. within r.inside y i;
    }
  where
    piece : ((p : List ℕ) → In p (pieces_of (drop n w) ls) → Once p × (1 ≤ length p)) → (p : List ℕ) → In p ((x ∷ take n w) ∷ pieces_of (drop n w) ls)
        → Once p × (1 ≤ length p)
    piece f p (inl q) = subst (λ (l : List ℕ). Once l × (1 ≤ length l)) (sym q) ((λ i. d.0 (in_take x w n i), once_take w n d.1), omega arith)
    piece f p (inr i) = f p i

    within : ((y : ℕ) → In y (map first (pieces_of (drop n w) ls)) → In y (drop n w)) → (y : ℕ) → In y (x ∷ map first (pieces_of (drop n w) ls)) → In y (x ∷ w)
    within f y (inl q) = inl q
    within f y (inr i) = inr (in_drop y w n (f y i))

-- a canonical root is a root of a decomposition
canonical_from : (p : Parts) → IsOneToLength p.root → ((i : ℕ) → i < length p.root → IsOneToLength (block p.blocks i)) → is_canonical p ≡ true
    → IsRoot p.root (block p.blocks 0)
canonical_from p w b e = elim (or_cases (same p.root sum_root && is_sum_indecomposable (block p.blocks 0)) ((same p.root skew_root && is_skew_indecomposable (block p.blocks 0)) || is_simple p.root) e) [
  | inl h ↦ let q = and_parts (same p.root sum_root) (is_sum_indecomposable (block p.blocks 0)) h in let r = word_same p.root sum_root q.0 in inl (r, (sum_law (block p.blocks 0) (b 0 (let l = ap length r in omega arith))).0 q.1)
  | inr h ↦ elim (or_cases (same p.root skew_root && is_skew_indecomposable (block p.blocks 0)) (is_simple p.root) h) [
    | inl k ↦ let q = and_parts (same p.root skew_root) (is_skew_indecomposable (block p.blocks 0)) k in let r = word_same p.root skew_root q.0 in inr (inl (r, (skew_law (block p.blocks 0) (b 0 (let l = ap length r in omega arith))).0 q.1))
    | inr k ↦ inr (inr ((simple_law p.root w).0 k))
  ]
]

-- the parts inflate to the word from a canonical root
abbrev test : List ℕ → Parts → Bool
test w p = same w (inflate p.root p.blocks) && is_canonical p

-- parts that pass are a decomposition
sound : (w : List ℕ) → IsOneToLength w → (ls : List ℕ) → Each (λ n. 1 ≤ n) ls → sum ls ≡ length w → test w (parts_of (pieces_of w ls)) ≡ true
    → Decomposes w (parts_of (pieces_of w ls)).root (parts_of (pieces_of w ls)).blocks
sound w g ls h e t =
    let c = cut_facts ls w (once_from_apart w g.apart) h e in
    let q = and_parts (same w (inflate (parts_of (pieces_of w ls)).root (parts_of (pieces_of w ls)).blocks)) (is_canonical (parts_of (pieces_of w ls))) t in
    let b = length-map (pieces_of w ls) pattern_of in
    let r = length_pattern (map first (pieces_of w ls)) ∙ length-map (pieces_of w ls) first in
    let words : (i : ℕ) → i < length (pieces_of w ls) → IsOneToLength (block (map pattern_of (pieces_of w ls)) i) × (1 ≤ length (block (map pattern_of (pieces_of w ls)) i)) = λ i l.
    let x = get_or-map pattern_of (pieces_of w ls) i [] [] l in
    let y = c.pieces (block (pieces_of w ls) i) (In_at (pieces_of w ls) i [] l) in
    subst (λ (v : List ℕ). IsOneToLength v × (1 ≤ length v)) (sym x) (pattern_word (block (pieces_of w ls) i) (apart_from_once (block (pieces_of w ls) i) y.0), omega (arith, length_pattern (block (pieces_of w ls) i), y.1)) in
    record {
      blocks = record { count = omega arith; words = λ i l. (words i (omega arith)).0; filled = λ i l. (words i (omega arith)).1 };
      value = sym (word_same w (inflate (parts_of (pieces_of w ls)).root (parts_of (pieces_of w ls)).blocks) q.0);
      root = canonical_from (parts_of (pieces_of w ls)) (pattern_word (map first (pieces_of w ls)) (apart_from_once (map first (pieces_of w ls)) c.heads)) (λ i l. (words i (omega arith)).0) q.1;
    }

-- the lengths of words are at least 1
positive : (αs : List (List ℕ)) → ((i : ℕ) → i < length αs → 1 ≤ length (block αs i)) → Each (λ m. 1 ≤ m) (map length αs)
positive αs h m i =
    let r = In_map (λ (a : List ℕ). length a) αs m i in
    let s = at_In αs r.0 [] r.1 in
    let q = ap (λ (a : List ℕ). length a) s.2 in
    omega (arith, h s.0 s.1, r.2)

-- a root has two entries or more
root_two : (π α : List ℕ) → IsRoot π α → 2 ≤ length π
root_two π α (inl r) = let l = ap length r.0 in omega arith
root_two π α (inr (inl r)) = let l = ap length r.0 in omega arith
root_two π α (inr (inr p)) = let l = p.long in omega arith

-- the ways to cut the word into two pieces or more
abbrev ways : List ℕ → List (List ℕ)
ways w = flat_map (λ k. size_lists k (length w)) (counting 2 (length w - 1))

-- the parts of one way
abbrev made : List ℕ → List ℕ → Parts
made w lengths = parts_of (pieces_of w lengths)

-- parts of a way that pass are a decomposition
passing : (w : List ℕ) → IsOneToLength w → (p : Parts) → In p (map (made w) (ways w)) → test w p ≡ true → Decomposes w p.root p.blocks
passing w g p i t = let m = In_map (made w) (ways w) p i in by p m.0 m.1 m.2 t
  where
    by : (p : Parts) (ls : List ℕ) → In ls (ways w) → p ≡ made w ls → test w p ≡ true → Decomposes w p.root p.blocks
    by p ls j e t =
        let q = In_flat_map (λ k. size_lists k (length w)) (counting 2 (length w - 1)) ls j in
        let z = sizes_from q.0 (length w) ls q.2 in
        subst (λ (p : Parts). Decomposes w p.root p.blocks) (sym e) (sound w g ls z.some z.whole (subst (λ p. test w p ≡ true) e t))

-- the lengths of the blocks of a decomposition are one of the ways
way_of : (w π : List ℕ) (αs : List (List ℕ)) → Decomposes w π αs → In (map length αs) (ways w)
way_of w π αs d =
    let b = d.blocks in
    let n : sum (map length αs) ≡ length w = sum-map length αs ∙ sym (lengths_sum αs) ∙ sym (length_inflate π αs b.count) ∙ ap length d.value in
    let k = length-map αs (λ (a : List ℕ). length a) in
    let some : (i : ℕ) → i < length αs → 1 ≤ length (block αs i) = λ i l. b.filled i (omega (arith, b.count)) in
    let two = root_two π (block αs 0) d.root in
    let few = lengths_least αs some in
    flat_map_In (λ k. size_lists k (length w)) (counting 2 (length w - 1)) (length (map length αs)) (map length αs)
    (counting_In (length w - 1) 2 (length (map length αs)) (omega (arith, b.count)) (omega (arith, b.count, lengths_sum αs, sum-map (λ (a : List ℕ). length a) αs)))
    (subst (λ m. In (map length αs) (size_lists (length (map length αs)) m)) n (sizes_to (map length αs) (positive αs some)))

-- and its parts pass
way_passes : (w π : List ℕ) (αs : List (List ℕ)) → Decomposes w π αs → test w (made w (map length αs)) ≡ true
way_passes w π αs d = subst (λ p. test w p ≡ true) (sym same_parts) (and_from (same w (inflate π αs)) (is_canonical (record { root = π; blocks = αs }))
    (ap (same w) d.value ∙ same_refl w) (canonical_to π αs d.blocks d.root))
  where
    same_parts : made w (map length αs) ≡ record { root = π; blocks = αs }
    same_parts = ap (λ v. made v (map length αs)) (sym d.value) ∙ pieces_back π αs (root_word π (block αs 0) d.root) d.blocks

-- the parts that are found are those of the decomposition
pub parts_law : PartsLaw
unfolding parts
parts_law w g h =
    let s = some_decomposition w g.numbers h in
    let f = finds (test w) (map (made w) (ways w)) (made w (map length s.1))
    (map_In (made w) (ways w) (map length s.1) (way_of w s.0 s.1 s.2)) (way_passes w s.0 s.1 s.2) in
    (f.0, f.1, passing w g.numbers f.0 f.2 f.3)
