-- Steps along the lists of sizes: the first size, the sizes after it.
use Rattle.std.proofs.Common.{◌≡◌, ℕ, zero, suc, ◌+◌, ◌*◌, ◌-◌, ◌<◌, ◌≤◌, List, [], ◌∷◌, ◌++◌, map, length, flat_map, drop, take, get_or, refl, sym, ◌∙◌, ap, ap₂, subst, arith, append_assoc}
use Rattle.std.proofs.lemmas.Grind.{flat_map-append}
use Rattle.av_perm.specs.Lists.{counting, before_each, size_lists}
use Rattle.av_count.specs.Choices.{ways, ahead}
use Rattle.av_count.proofs.Choices.{append_nil}
use Rattle.av_count.proofs.Members.{ahead_more, before_map, no_ahead}
use Rattle.av_tree.proofs.Picks.{drop_here, drop_past, ways_past}
use Rattle.std.proofs.lemmas.List.{take_more, take_all, length-drop}
use Rattle.av_list.specs.Sizes.{sum_of, weight, sizes_after, weighed, Skips, Firsts, Raised, Begun}
use Rattle.av_list.proofs.Skips.{weighed_append, weighed_times, skip_none, skip_on, skip_more, skip_whole, skip_map, skip_free, skip_nothing}
use Rattle.av_list.proofs.Products.{both_some, left_some, right_some}

-- lists of sizes that begin with m
pub weighed_before : (f : ℕ → ℕ → ℕ) (c m : ℕ) (cs : List ℕ) (rs : List (List ℕ)) → weighed (weight f (c ∷ cs)) (before_each m rs) ≡ f c m * weighed (weight f cs) rs
weighed_before f c m cs rs = ap (weighed (weight f (c ∷ cs))) (before_map m rs) ∙ weighed_times (weight f (c ∷ cs)) (weight f cs) (λ r. m ∷ r) (f c m) (λ r. refl) rs

-- lists of sizes whose first is one of k numbers from lo on
abbrev pub blocks : ℕ → ℕ → ℕ → ℕ → List (List ℕ)
blocks k n lo count = flat_map (λ j. before_each j (size_lists k (n - j))) (counting lo count)

-- what the lists with some first sizes weigh
weighed_blocks : (f : ℕ → ℕ → ℕ) (c n : ℕ) (cs : List ℕ) → ((m : ℕ) → weighed (weight f cs) (size_lists (length cs) m) ≡ ways f cs m)
    → (lo k : ℕ) → weighed (weight f (c ∷ cs)) (blocks (length cs) n lo k) ≡ ahead (f c) (ways f cs) n lo k
weighed_blocks f c n cs h lo zero = refl
weighed_blocks f c n cs h lo (suc k) =
    weighed_append (weight f (c ∷ cs)) (before_each lo (size_lists (length cs) (n - lo))) (blocks (length cs) n (suc lo) k)
    ∙ ap₂ (λ a b. a + b) (weighed_before f c lo cs (size_lists (length cs) (n - lo)) ∙ ap (λ z. f c lo * z) (h (n - lo))) (weighed_blocks f c n cs h (suc lo) k)

-- all lists of sizes weigh what there are ways
pub weighed_sizes : (f : ℕ → ℕ → ℕ) (cs : List ℕ) (n : ℕ) → weighed (weight f cs) (size_lists (length cs) n) ≡ ways f cs n
unfolding size_lists ways
weighed_sizes f [] zero = refl
weighed_sizes f [] (suc n) = refl
weighed_sizes f (c ∷ cs) n = weighed_blocks f c n cs (weighed_sizes f cs) 1 n

-- a run of numbers in two parts
pub counting_more : (lo a b : ℕ) → counting lo (a + b) ≡ counting lo a ++ counting (lo + a) b
counting_more lo zero b = let e : 0 + b ≡ b = omega arith in let f : lo + 0 ≡ lo = omega arith in rw (e, f) refl
counting_more lo (suc a) b =
    let e : suc a + b ≡ suc (a + b) = omega arith in let f : lo + suc a ≡ suc lo + a = omega arith in
    rw (e, f) (ap (λ z. lo ∷ z) (counting_more (suc lo) a b))

-- the sizes from lo on, past those below m
to_block : (f : ℕ → ℕ → ℕ) (c n F : ℕ) (cs : List ℕ) (lo m r s : ℕ) → lo ≤ m → m ≤ n → s + F * ahead (f c) (ways f cs) n lo (m - lo) ≡ r
    → Skips (weight f (c ∷ cs)) F (blocks (length cs) n lo (suc n - lo)) (before_each m (size_lists (length cs) (n - m)) ++ blocks (length cs) n (suc m) (n - m)) r s
to_block f c n F cs lo m r s low high e =
    subst (λ z. Skips (weight f (c ∷ cs)) F z (blocks (length cs) n m (suc (n - m))) r s) (sym cut)
    (skip_whole (weight f (c ∷ cs)) F (blocks (length cs) n lo (m - lo)) (blocks (length cs) n m (suc (n - m))) r s
    (ap (λ z. s + F * z) (weighed_blocks f c n cs (weighed_sizes f cs) lo (m - lo)) ∙ e))
  where
    h : ℕ → List (List ℕ)
    h j = before_each j (size_lists (length cs) (n - j))

    count : suc n - lo ≡ (m - lo) + suc (n - m)
    count = omega arith

    there : lo + (m - lo) ≡ m
    there = omega arith

    cut : blocks (length cs) n lo (suc n - lo) ≡ blocks (length cs) n lo (m - lo) ++ blocks (length cs) n m (suc (n - m))
    cut = ap (λ z. blocks (length cs) n lo z) count
        ∙ ap (flat_map (λ j. before_each j (size_lists (length cs) (n - j)))) (counting_more lo (m - lo) (suc (n - m)) ∙ ap (λ z. counting lo (m - lo) ++ counting z (suc (n - m))) there)
        ∙ flat_map-append (λ j. before_each j (size_lists (length cs) (n - j))) (counting lo (m - lo)) (counting m (suc (n - m)))

-- within the lists that begin with m
in_block : (f : ℕ → ℕ → ℕ) (c m F : ℕ) (cs : List ℕ) (xs ys : List (List ℕ)) (r s : ℕ) → Skips (weight f cs) (F * f c m) xs ys r s
    → Skips (weight f (c ∷ cs)) F (before_each m xs) (before_each m ys) r s
in_block f c m F cs xs ys r s a =
    subst (λ z. Skips (weight f (c ∷ cs)) F z (before_each m ys) r s) (sym (before_map m xs))
    (subst (λ z. Skips (weight f (c ∷ cs)) F (map (λ x. m ∷ x) xs) z r s) (sym (before_map m ys))
    (skip_map (weight f (c ∷ cs)) (weight f cs) (λ x. m ∷ x) F (f c m) xs ys r s (λ x. refl) a))

-- the first size and the first lists of the others, from the sizes lo on
first_from : (f : ℕ → ℕ → ℕ) (c : ℕ) (cs : List ℕ) (n F lo m r s left : ℕ) (ns : List ℕ) → lo ≤ m → m ≤ n
    → s + F * ahead (f c) (ways f cs) n lo (m - lo) ≡ r
    → Firsts f cs (n - m) (F * f c m) (size_lists (length cs) (n - m)) s ns left
    → Firsts f (c ∷ cs) n F (blocks (length cs) n lo (suc n - lo)) r (m ∷ ns) left
first_from f c cs n F lo m r s left ns low high e h = record {
  many = omega (arith, h.many);
  sum = omega (arith, h.sum);
  skips =
      skip_on (weight f (c ∷ cs)) F (blocks (length cs) n lo (suc n - lo)) (before_each m (size_lists (length cs) (n - m)) ++ blocks (length cs) n (suc m) (n - m)) ((m ∷ ns) ∷ sizes_after (m ∷ ns) n) r s left
      (to_block f c n F cs lo m r s low high e)
      (subst (λ z. Skips (weight f (c ∷ cs)) F (before_each m (size_lists (length cs) (n - m)) ++ blocks (length cs) n (suc m) (n - m)) ((m ∷ ns) ∷ (before_each m (sizes_after ns (n - m)) ++ blocks z n (suc m) (n - m))) s left) (sym h.many)
      (skip_more (weight f (c ∷ cs)) F (before_each m (size_lists (length cs) (n - m))) (before_each m (ns ∷ sizes_after ns (n - m))) (blocks (length cs) n (suc m) (n - m)) s left
      (in_block f c m F cs (size_lists (length cs) (n - m)) (ns ∷ sizes_after ns (n - m)) s left h.skips)));
  within = subst (λ z. left < z) (three F (f c m) (weight f cs ns)) h.within;
}
  where
    three : (a b c : ℕ) → a * b * c ≡ a * (b * c)
    three a b c = omega arith

-- the first sizes of all
pub first_step : (f : ℕ → ℕ → ℕ) (c : ℕ) (cs : List ℕ) (n F m r s left : ℕ) (ns : List ℕ) → 1 ≤ m → m ≤ n
    → s + F * ahead (f c) (ways f cs) n 1 (m - 1) ≡ r
    → Firsts f cs (n - m) (F * f c m) (size_lists (length cs) (n - m)) s ns left
    → Firsts f (c ∷ cs) n F (size_lists (length (c ∷ cs)) n) r (m ∷ ns) left
unfolding size_lists
first_step f c cs n F m r s left ns low high e h =
    subst (λ z. Firsts f (c ∷ cs) n F (blocks (length cs) n 1 z) r (m ∷ ns) left) count (first_from f c cs n F 1 m r s left ns low high e h)
  where
    count : suc n - 1 ≡ n
    count = omega arith

-- no child is left
pub first_end : (f : ℕ → ℕ → ℕ) (n F r : ℕ) → r < F * ways f [] n → Firsts f [] n F (size_lists 0 n) r [] r
unfolding size_lists ways
first_end f zero F r lt = record { many = refl; sum = refl; skips = skip_none (weight f []) F ([] ∷ []) r; within = lt }
first_end f (suc n) F r lt = absurd (omega arith)

-- the children after the first move on
pub next_inner : (f : ℕ → ℕ → ℕ) (c m n : ℕ) (cs ms ns : List ℕ) → length ms ≡ length cs → m ≤ n → 0 < f c m
    → Firsts f cs (n - m) 1 (sizes_after ms (n - m)) 0 ns 0 → Firsts f (c ∷ cs) n 1 (sizes_after (m ∷ ms) n) 0 (m ∷ ns) 0
next_inner f c m n cs ms ns e le some h = record {
  many = omega (arith, h.many);
  sum = omega (arith, h.sum);
  skips =
      subst (λ z. Skips (weight f (c ∷ cs)) 1 (before_each m (sizes_after ms (n - m)) ++ blocks (length ms) n (suc m) (n - m)) ((m ∷ ns) ∷ (before_each m (sizes_after ns (n - m)) ++ blocks z n (suc m) (n - m))) 0 0) (e ∙ sym h.many)
      (skip_more (weight f (c ∷ cs)) 1 (before_each m (sizes_after ms (n - m))) (before_each m (ns ∷ sizes_after ns (n - m))) (blocks (length ms) n (suc m) (n - m)) 0 0
      (in_block f c m 1 cs (sizes_after ms (n - m)) (ns ∷ sizes_after ns (n - m)) 0 0
      (skip_free (weight f cs) 1 (1 * f c m) (sizes_after ms (n - m)) (ns ∷ sizes_after ns (n - m)) 0 (omega arith) h.skips)));
  within = positive (f c m) (weight f cs ns) some (omega (arith, h.within));
}
  where
    positive : (a b : ℕ) → 0 < a → 0 < b → 0 < 1 * (a * b)
    positive zero b p q = absurd (omega arith)
    positive (suc a) zero p q = absurd (omega arith)
    positive (suc a) (suc b) p q = omega arith

-- where nothing is left below a size, it weighs nothing
inner_nothing : (f : ℕ → ℕ → ℕ) (c m n : ℕ) (cs ms : List ℕ) → weighed (weight f cs) (sizes_after ms (n - m)) ≡ 0 → weighed (weight f (c ∷ cs)) (before_each m (sizes_after ms (n - m))) ≡ 0
inner_nothing f c m n cs ms e = weighed_before f c m cs (sizes_after ms (n - m)) ∙ ap (λ z. f c m * z) e ∙ omega arith

-- the first child's size is raised, the others begin again
pub next_raise : (f : ℕ → ℕ → ℕ) (c m n at left : ℕ) (cs ms ns : List ℕ) → length ms ≡ length cs
    → weighed (weight f cs) (sizes_after ms (n - m)) ≡ 0 → Raised (f c) (ways f cs) n (m + 1) at
    → Firsts f cs (n - at) 1 (size_lists (length cs) (n - at)) 0 ns left → Firsts f (c ∷ cs) n 1 (sizes_after (m ∷ ms) n) 0 (at ∷ ns) 0
next_raise f c m n at left cs ms ns e none up h = record {
  many = whole.many;
  sum = whole.sum;
  skips =
      skip_on (weight f (c ∷ cs)) 1 (before_each m (sizes_after ms (n - m)) ++ blocks (length ms) n (suc m) (n - m)) (blocks (length ms) n (suc m) (n - m)) ((at ∷ ns) ∷ sizes_after (at ∷ ns) n) 0 0 0
      (skip_whole (weight f (c ∷ cs)) 1 (before_each m (sizes_after ms (n - m))) (blocks (length ms) n (suc m) (n - m)) 0 0 (ap (λ z. 0 + 1 * z) (inner_nothing f c m n cs ms none)))
      (subst (λ z. Skips (weight f (c ∷ cs)) 1 z ((at ∷ ns) ∷ sizes_after (at ∷ ns) n) 0 0) same whole.skips);
  within = whole.within;
}
  where
    zero_left : left ≡ 0
    zero_left = skip_nothing (weight f cs) 1 (size_lists (length cs) (n - at)) (ns ∷ sizes_after ns (n - at)) left h.skips

    positive : (a b : ℕ) → 0 < a * b → 0 < 1 * a
    positive zero b p = absurd (omega arith)
    positive (suc a) b p = omega arith

    inner : Firsts f cs (n - at) (1 * f c at) (size_lists (length cs) (n - at)) 0 ns 0
    inner = record {
      many = h.many;
      sum = h.sum;
      skips = skip_free (weight f cs) 1 (1 * f c at) (size_lists (length cs) (n - at)) (ns ∷ sizes_after ns (n - at)) left (omega arith) h.skips;
      within = both_some (1 * f c at) (weight f cs ns) (positive (f c at) (ways f cs (n - at)) up.some) (omega (arith, h.within));
    }

    whole : Firsts f (c ∷ cs) n 1 (blocks (length cs) n (m + 1) (suc n - (m + 1))) 0 (at ∷ ns) 0
    whole = first_from f c cs n 1 (m + 1) at 0 0 0 ns up.low up.high (ap (λ z. 0 + 1 * z) up.none) inner

    same : blocks (length cs) n (m + 1) (suc n - (m + 1)) ≡ blocks (length ms) n (suc m) (n - m)
    same = let a : m + 1 ≡ suc m = omega arith in let b : suc n - suc m ≡ n - m = omega arith in rw (e, a, b) refl

-- no size can be raised
pub next_ended : (f : ℕ → ℕ → ℕ) (c m n : ℕ) (cs ms : List ℕ) → length ms ≡ length cs → m ≤ n
    → weighed (weight f cs) (sizes_after ms (n - m)) ≡ 0 → ahead (f c) (ways f cs) n (m + 1) (n + 1 - (m + 1)) ≡ 0
    → weighed (weight f (c ∷ cs)) (sizes_after (m ∷ ms) n) ≡ 0
next_ended f c m n cs ms e le none last =
    weighed_append (weight f (c ∷ cs)) (before_each m (sizes_after ms (n - m))) (blocks (length ms) n (suc m) (n - m))
    ∙ ap₂ (λ a b. a + b) (inner_nothing f c m n cs ms none)
    (ap (λ z. weighed (weight f (c ∷ cs)) (blocks z n (suc m) (n - m))) e ∙ weighed_blocks f c n cs (weighed_sizes f cs) (suc m) (n - m) ∙ rest)
  where
    rest : ahead (f c) (ways f cs) n (suc m) (n - m) ≡ 0
    rest = let a : m + 1 ≡ suc m = omega arith in let b : n + 1 - (m + 1) ≡ n - m = omega arith in rw (← a, ← b) last

-- the same at child i of a list of children

-- the first sizes from child i on
pub first_at : (f : ℕ → ℕ → ℕ) (cs : List ℕ) (i c n F r s m left : ℕ) (old pushed new ns : List ℕ) → i < length cs → get_or cs i 0 ≡ c → 1 ≤ m → m ≤ n
    → s + F * ahead (f (get_or cs i 0)) (ways f (drop (i + 1) cs)) n 1 (m - 1) ≡ r → pushed ≡ old ++ m ∷ [] → new ≡ pushed ++ ns
    → Firsts f (drop (i + 1) cs) (n - m) (F * f c m) (size_lists (length (drop (i + 1) cs)) (n - m)) s ns left
    → (ns : List ℕ) × (new ≡ old ++ ns) × Firsts f (drop i cs) n F (size_lists (length (drop i cs)) n) r ns left
first_at f cs i c n F r s m left old pushed new ns lt e low high place p q h = (
  m ∷ ns,
  q ∙ ap (λ z. z ++ ns) p ∙ append_assoc old (m ∷ []) ns,
  subst (λ z. Firsts f z n F (size_lists (length z) n) r (m ∷ ns) left) (sym (drop_here cs i 0 lt))
      (first_step f (get_or cs i 0) (drop (i + 1) cs) n F m r s left ns low high place
      (subst (λ z. Firsts f (drop (i + 1) cs) (n - m) (F * f z m) (size_lists (length (drop (i + 1) cs)) (n - m)) s ns left) (sym e) h)),
)

-- past the last child there is one list alone
pub none_at : (f : ℕ → ℕ → ℕ) (cs : List ℕ) (i n F r : ℕ) (old : List ℕ) → length cs ≤ i → r < F * ways f (drop i cs) n
    → (ns : List ℕ) × (old ≡ old ++ ns) × Firsts f (drop i cs) n F (size_lists (length (drop i cs)) n) r ns r
none_at f cs i n F r old le lt =
    let e = drop_past cs i le in
    ([], sym (append_nil old), subst (λ z. Firsts f z n F (size_lists (length z) n) r [] r) (sym e) (first_end f n F r (subst (λ z. r < F * ways f z n) e lt)))

-- what is known of the sizes from child i on
pub record SizesAt (f : ℕ → ℕ → ℕ) (cs ms : List ℕ) (i n : ℕ) : Type 0 where
  pub fits : get_or ms i 0 ≤ n
  pub sum : sum_of (drop (i + 1) ms) ≡ n - get_or ms i 0
  pub own : 0 < f (get_or cs i 0) (get_or ms i 0)
  pub some : 0 < weight f (drop (i + 1) cs) (drop (i + 1) ms)
  pub long : length (drop (i + 1) ms) ≡ length (drop (i + 1) cs)

-- what holds at child i
pub sizes_at : (f : ℕ → ℕ → ℕ) (cs ms : List ℕ) (i n : ℕ) → i < length cs → length ms ≡ length cs → sum_of (drop i ms) ≡ n → 0 < weight f (drop i cs) (drop i ms) → SizesAt f cs ms i n
sizes_at f cs ms i n lt e sum some = record {
  fits = omega (arith, first);
  sum = omega (arith, first);
  own = left_some (f (get_or cs i 0) (get_or ms i 0)) (weight f (drop (i + 1) cs) (drop (i + 1) ms)) 0 each;
  some = right_some (f (get_or cs i 0) (get_or ms i 0)) (weight f (drop (i + 1) cs) (drop (i + 1) ms)) 0 each;
  long = omega (arith, length-drop (i + 1) ms, length-drop (i + 1) cs);
}
  where
    first : get_or ms i 0 + sum_of (drop (i + 1) ms) ≡ n
    first = ap sum_of (sym (drop_here ms i 0 (omega arith))) ∙ sum

    each : 0 < f (get_or cs i 0) (get_or ms i 0) * weight f (drop (i + 1) cs) (drop (i + 1) ms)
    each = subst (λ z. 0 < weight f z (get_or ms i 0 ∷ drop (i + 1) ms)) (drop_here cs i 0 lt) (subst (λ z. 0 < weight f (drop i cs) z) (drop_here ms i 0 (omega arith)) some)

-- the children after child i move on
pub inner_at : (f : ℕ → ℕ → ℕ) (cs ms : List ℕ) (i n : ℕ) (new ns : List ℕ) → i < length cs → length ms ≡ length cs → SizesAt f cs ms i n
    → new ≡ take (i + 1) ms ++ ns → Firsts f (drop (i + 1) cs) (n - get_or ms i 0) 1 (sizes_after (drop (i + 1) ms) (n - get_or ms i 0)) 0 ns 0
    → (ns : List ℕ) × (new ≡ take i ms ++ ns) × Firsts f (drop i cs) n 1 (sizes_after (drop i ms) n) 0 ns 0
inner_at f cs ms i n new ns lt e k q h = (
  get_or ms i 0 ∷ ns,
  q ∙ ap (λ z. z ++ ns) (take_more ms i 0 (omega arith)) ∙ append_assoc (take i ms) (get_or ms i 0 ∷ []) ns,
  subst (λ z. Firsts f z n 1 (sizes_after (drop i ms) n) 0 (get_or ms i 0 ∷ ns) 0) (sym (drop_here cs i 0 lt))
      (subst (λ z. Firsts f (get_or cs i 0 ∷ drop (i + 1) cs) n 1 (sizes_after z n) 0 (get_or ms i 0 ∷ ns) 0) (sym (drop_here ms i 0 (omega arith)))
      (next_inner f (get_or cs i 0) (get_or ms i 0) n (drop (i + 1) cs) (drop (i + 1) ms) ns k.long k.fits k.own h)),
)

-- child i is raised
pub raise_at : (f : ℕ → ℕ → ℕ) (cs ms : List ℕ) (i n : ℕ) (new : List ℕ) → i < length cs → length ms ≡ length cs → SizesAt f cs ms i n
    → weighed (weight f (drop (i + 1) cs)) (sizes_after (drop (i + 1) ms) (n - get_or ms i 0)) ≡ 0
    → Begun f (get_or cs i 0) (drop (i + 1) cs) n (get_or ms i 0 + 1) (take i ms) new
    → (ns : List ℕ) × (new ≡ take i ms ++ ns) × Firsts f (drop i cs) n 1 (sizes_after (drop i ms) n) 0 ns 0
raise_at f cs ms i n new lt e k none h = (
  h.at ∷ h.ns,
  h.added,
  subst (λ z. Firsts f z n 1 (sizes_after (drop i ms) n) 0 (h.at ∷ h.ns) 0) (sym (drop_here cs i 0 lt))
      (subst (λ z. Firsts f (get_or cs i 0 ∷ drop (i + 1) cs) n 1 (sizes_after z n) 0 (h.at ∷ h.ns) 0) (sym (drop_here ms i 0 (omega arith)))
      (next_raise f (get_or cs i 0) (get_or ms i 0) n h.at h.left (drop (i + 1) cs) (drop (i + 1) ms) h.ns k.long none h.raised h.firsts)),
)

-- neither moves
pub ended_at : (f : ℕ → ℕ → ℕ) (cs ms : List ℕ) (i n : ℕ) → i < length cs → length ms ≡ length cs → SizesAt f cs ms i n
    → weighed (weight f (drop (i + 1) cs)) (sizes_after (drop (i + 1) ms) (n - get_or ms i 0)) ≡ 0
    → ahead (f (get_or cs i 0)) (ways f (drop (i + 1) cs)) n (get_or ms i 0 + 1) (n + 1 - (get_or ms i 0 + 1)) ≡ 0
    → weighed (weight f (drop i cs)) (sizes_after (drop i ms) n) ≡ 0
ended_at f cs ms i n lt e k none last =
    ap₂ (λ a b. weighed (weight f a) (sizes_after b n)) (drop_here cs i 0 lt) (drop_here ms i 0 (omega arith))
    ∙ next_ended f (get_or cs i 0) (get_or ms i 0) n (drop (i + 1) cs) (drop (i + 1) ms) k.long k.fits none last

-- past the last child nothing moves
pub past_at : (f : ℕ → ℕ → ℕ) (cs ms : List ℕ) (i n : ℕ) → length cs ≤ i → length ms ≡ length cs → (ms ≡ take i ms) × (weighed (weight f (drop i cs)) (sizes_after (drop i ms) n) ≡ 0)
past_at f cs ms i n le e =
    (sym (take_all i ms (omega arith)), ap (λ z. weighed (weight f (drop i cs)) (sizes_after z n)) (drop_past ms i (omega arith)))

-- one more size without lists
pub ahead_none : (f g : ℕ → ℕ) (n least at : ℕ) → least ≤ at → ahead f g n least (at - least) ≡ 0 → (0 < f at * g (n - at) → ⊥) → ahead f g n least (at + 1 - least) ≡ 0
ahead_none f g n least at low e none =
    let k : at + 1 - least ≡ suc (at - least) = omega arith in
    let m : least + (at - least) ≡ at = omega arith in
    let z : f at * g (n - at) ≡ 0 = nothing (f at * g (n - at)) none in
    ap (ahead f g n least) k ∙ ahead_more f g n least (at - least) ∙ ap₂ (λ a b. a + b) e (ap (λ j. f j * g (n - j)) m ∙ z)
  where
    nothing : (a : ℕ) → (0 < a → ⊥) → a ≡ 0
    nothing zero h = refl
    nothing (suc a) h = absurd (h (omega arith))

-- the last child takes all that is left
pub last_none : (f : ℕ → ℕ → ℕ) (cs : List ℕ) (i c n least : ℕ) → length cs ≤ i + 1 → least ≤ n → ahead (f c) (ways f (drop (i + 1) cs)) n least (n - least) ≡ 0
last_none f cs i c n least le low = no_ahead (f c) (ways f (drop (i + 1) cs)) n least (n - least) (omega arith) (λ j one. ways_past f cs (i + 1) j le one)

-- no size is left
pub ahead_past : (f g : ℕ → ℕ) (n least : ℕ) → n < least → ahead f g n least (n + 1 - least) ≡ 0
ahead_past f g n least lt = let e : n + 1 - least ≡ 0 = omega arith in rw e refl
