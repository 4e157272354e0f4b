-- A word with a simple quotient is an inflation of a simple root.
use Rattle.std.proofs.Common.{◌≡◌, ℕ, ◌<◌, inr, ◌↔◌, List, length, sym, ap, ◌∙◌, arith}
use Rattle.av_perm.specs.Relations.{at, IsOneToLength, pattern_of, IsSimple}
use Rattle.av_perm.specs.Decompose.{Decomposes}
use Rattle.av_perm.proofs.NoRepeats.{IsApart}
use Rattle.av_perm.proofs.Patterns.{length_pattern, pattern_alike, pattern_word}
use Rattle.av_perm.proofs.InflatedPatterns.{Sends}
use Rattle.av_perm.proofs.BlockMaps.{Onto, blocks_of, blocks_are, embedding_value}
use Rattle.av_perm.proofs.Listings.{listed, listed_length, listed_at}
use Rattle.av_perm.proofs.BlockIntervals.{one_place, interval_block}
use Rattle.av_perm.proofs.SimpleQuotients.{SimpleQuotient}

-- the entries at the places of the children
abbrev chosen : (σ : List ℕ) → SimpleQuotient (length σ) (at σ) → List ℕ
chosen σ l = listed (λ i. at σ (l.place i)) l.size

-- the root: the word that lies as these
abbrev root_of : (σ : List ℕ) → SimpleQuotient (length σ) (at σ) → List ℕ
root_of σ l = pattern_of (chosen σ l)

-- the map: the children of the places
abbrev map_to : (σ : List ℕ) → SimpleQuotient (length σ) (at σ) → List ℕ
map_to σ l = listed l.child (length σ)

module _ (σ : List ℕ) (w : IsOneToLength σ) (l : SimpleQuotient (length σ) (at σ)) where
  -- one entry is chosen for each child
  chosen_length : length (chosen σ l) ≡ l.size
  chosen_length = listed_length (λ i. at σ (l.place i)) l.size

  -- the chosen entries differ
  chosen_apart : IsApart (chosen σ l)
  chosen_apart i j h k q =
      let n = chosen_length in
      let x = listed_at (λ i. at σ (l.place i)) l.size i 0 (omega arith) in
      let y = listed_at (λ i. at σ (l.place i)) l.size j 0 (omega arith) in
      let p = one_place (length σ) (at σ) w.apart (l.place i) (l.place j) (l.places i (omega arith)) (l.places j (omega arith)) (sym x ∙ q ∙ y) in
      let e : i ≡ j = sym (l.back i (omega arith)) ∙ ap l.child p ∙ l.back j (omega arith) in
      omega arith

  -- the root has a place for each child
  root_length : length (root_of σ l) ≡ l.size
  root_length = length_pattern (chosen σ l) ∙ chosen_length

  -- the root lies as the chosen entries
  root_order : (i j : ℕ) → i < l.size → j < l.size → (at (root_of σ l) i < at (root_of σ l) j) ↔ (at σ (l.place i) < at σ (l.place j))
  root_order i j hi hj =
      let n = chosen_length in
      let x = pattern_alike (chosen σ l) i j (omega arith) (omega arith) in
      let y = listed_at (λ i. at σ (l.place i)) l.size i 0 hi in
      let z = listed_at (λ i. at σ (l.place i)) l.size j 0 hj in
      (λ q. let r = x.0 q in omega arith, λ q. x.1 (omega arith))

  -- the root is a word
  root_numbers : IsOneToLength (root_of σ l)
  root_numbers = pattern_word (chosen σ l) chosen_apart

  -- the root is simple
  root_simple : IsSimple (root_of σ l)
  root_simple =
      let n = root_length in
      record {
        numbers = root_numbers;
        long = omega (arith, l.long);
        bare = λ a m two h i.
            let room = i.0 in
            l.bare a m (record {
              two = two;
              less = omega arith;
              fits = omega arith;
              block = λ s t u hs ks ht kt hu out lo hi.
                  interval_block (root_of σ l) a m root_numbers i s t u hs ks ht kt (omega arith) out
                  ((root_order s u (omega arith) hu).1 lo) ((root_order u t hu (omega arith)).1 hi);
            });
      }

  -- the map sends a place to its child
  map_at : (s : ℕ) → s < length σ → at (map_to σ l) s ≡ l.child s
  map_at s h = listed_at l.child (length σ) s 0 h

  -- the map sends the word to the root
  root_sends : Sends (root_of σ l) σ (map_to σ l)
  root_sends =
      let n = listed_length l.child (length σ) in
      record {
        count = n;
        children = λ s h. let x = l.children s (omega arith) in omega (arith, map_at s (omega arith), root_length);
        rising = λ s t h k. let x = l.rising s t h (omega arith) in omega (arith, map_at s (omega arith), map_at t (omega arith));
        across = λ s t hs ht ne.
            let a = map_at s (omega arith) in
            let b = map_at t (omega arith) in
            let x = l.across s t (omega arith) (omega arith) (λ q. ne (a ∙ q ∙ sym b)) in
            let y = root_order (l.child s) (l.child t) (l.children s (omega arith)) (l.children t (omega arith)) in
            let a' = ap (at (root_of σ l)) a in
            let b' = ap (at (root_of σ l)) b in
            (λ q. let z = y.1 (x.0 q) in omega arith, λ q. x.1 (y.0 (omega arith)));
      }

  -- the map reaches each place of the root
  root_onto : Onto (length (root_of σ l)) (map_to σ l)
  root_onto i h =
      let hi : i < l.size = omega (arith, root_length) in
      let r = l.places i hi in
      (l.place i, omega (arith, listed_length l.child (length σ)), map_at (l.place i) r ∙ l.back i hi)

  -- so the root and the patterns of what goes to each child decompose the word
  pub quotient_decomposes : (π : List ℕ) × (αs : List (List ℕ)) × Decomposes σ π αs
  quotient_decomposes = (
    root_of σ l,
    blocks_of σ (map_to σ l) (length (root_of σ l)),
    record {
      blocks = blocks_are σ (root_of σ l) (map_to σ l) w root_sends root_onto;
      value = embedding_value σ (root_of σ l) (map_to σ l) w root_sends;
      root = inr (inr root_simple);
    },
  )
