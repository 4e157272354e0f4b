-- The place of a choice among those of a node.
use Rattle.std.proofs.Common.{◌≡◌, ◌≢◌, ℕ, zero, suc, ◌+◌, ◌*◌, ◌-◌, ◌/◌, ◌%◌, ◌<◌, ◌≤◌, List, [], ◌∷◌, length, drop, refl, sym, ◌∙◌, ap, subst, arith, get_or, ◌⊎◌, inl, inr, slice_get, Some}
use Rattle.std.proofs.lemmas.Nat.{div-mul-add, mod-mul-add}
use Rattle.std.proofs.Math.Nat.{mul-le-mul_left, mul-le-mul_right}
use Rattle.av_sys.specs.declared.terms.System.{System}
use Rattle.av_tree.specs.declared.choosing.Pick.{Pick}
use Rattle.av_tree.specs.declared.placing.Found.{Found}
use Rattle.av_tree.specs.Founds.{Alike}
use Rattle.av_count.specs.Choices.{ways, ahead}
use Rattle.av_sys.specs.TreeLists.{count_at}
use Rattle.av_tree.specs.Picks.{Fitting, Chosen, Placed}
use Rattle.av_count.specs.declared.count.Count.{Count}
use Rattle.av_count.specs.declared.count.Count.TheVariants.{Known}
use Rattle.av_count.specs.Counts.{capped}
use Rattle.av_count.proofs.Members.{ahead_more, ways_cons}
use Rattle.av_count.proofs.Filled.{child_is, same_or_not}
use Rattle.av_tree.proofs.Picks.{chosen_end, chosen_step, drop_past, drop_here}

-- a place below a product is below no product with 0
pub positive : (F T q : ℕ) → q < F * T → 0 < T
positive F zero q h = absurd (omega arith)
positive F (suc T) q h = omega arith

-- fewer sizes make no greater sum
ahead_upto : (f g : ℕ → ℕ) (n s k : ℕ) → s ≤ k → ahead f g n 1 s ≤ ahead f g n 1 k
ahead_upto f g n s zero h = let e : s ≡ 0 = omega arith in rw e (omega arith)
ahead_upto f g n s (suc k) h = by (same_or_not s (suc k)) (ahead_upto f g n s k)
  where
    by : ((s ≡ suc k) ⊎ (s ≢ suc k)) → (s ≤ k → ahead f g n 1 s ≤ ahead f g n 1 k) → ahead f g n 1 s ≤ ahead f g n 1 (suc k)
    by (inl e) r = rw e (omega arith)
    by (inr ne) r = let m = ahead_more f g n 1 k in let l = r (omega arith) in rw m (omega arith)

-- the lists of smaller sizes and those of this size are among all
ahead_part : (f g : ℕ → ℕ) (n s : ℕ) → 1 ≤ s → s ≤ n → ahead f g n 1 (s - 1) + f s * g (n - s) ≤ ahead f g n 1 n
ahead_part f g n zero one le = absurd (omega arith)
ahead_part f g n (suc k) one le =
    let a : suc k - 1 ≡ k = omega arith in
    let z : 1 + k ≡ suc k = omega arith in
    let m : ahead f g n 1 (suc k) ≡ ahead f g n 1 k + f (suc k) * g (n - suc k) = ahead_more f g n 1 k ∙ ap (λ j. ahead f g n 1 k + f j * g (n - j)) z in
    let u = ahead_upto f g n (suc k) n le in
    rw (a, ← m) u

-- quotient and remainder of a number that was made of them
back : (q t x r : ℕ) → q ≡ x * t + r → r < t → (q / t ≡ x) × (q % t ≡ r)
back q t x r e lt = (ap (λ z. z / t) e ∙ div-mul-add x t r lt, ap (λ z. z % t) e ∙ mod-mul-add x t r lt)

-- a place among those of a size is below the whole number
inside_all : (F a b w all left : ℕ) → a + b * w ≤ all → left < F * b * w → F * a + left < F * all
inside_all F a b w all left h lt = let m = mul-le-mul_left F h in omega (arith, m)

-- the place of a choice in front of others
placed_front : (S : System) (c : ℕ) (cs : List ℕ) (n F x : ℕ) (k : Pick) (ps : List Pick) (inner result : Count)
    → 1 ≤ k.size → k.size ≤ n → k.rank < count_at S c k.size
    → (w : Placed S cs (n - k.size) (F * count_at S c k.size) (x * count_at S c k.size + k.rank) ps inner)
    → result ≡ capped (F * ahead (count_at S c) (ways (count_at S) cs) n 1 (k.size - 1) + w.place)
    → Placed S (c ∷ cs) n F x (k ∷ ps) result
placed_front S c cs n F x k ps inner result one le rank w is =
    let T = count_at S c k.size in
    let r = F * ahead (count_at S c) (ways (count_at S) cs) n 1 (k.size - 1) + w.place in
    let b = back (x * T + k.rank) T x k.rank refl rank in
    let st : Chosen S (c ∷ cs) n F r ((x * T + k.rank) / T) (record { size = k.size; rank = (x * T + k.rank) % T } ∷ ps) =
    chosen_step S c cs n F r w.place k.size (x * T + k.rank) ps one le (swap w.place (F * ahead (count_at S c) (ways (count_at S) cs) n 1 (k.size - 1))) w.within w.chosen in
    record {
      place = r;
      is = is;
      within = subst (λ z. r < F * z) (sym (ways_cons (count_at S) c cs n))
          (inside_all F (ahead (count_at S c) (ways (count_at S) cs) n 1 (k.size - 1)) T (ways (count_at S) cs (n - k.size))
          (ahead (count_at S c) (ways (count_at S) cs) n 1 n) w.place (ahead_part (count_at S c) (ways (count_at S) cs) n k.size one le) w.within);
      chosen = subst (λ z. Chosen S (c ∷ cs) n F r z (k ∷ ps)) b.0 (subst (λ z. Chosen S (c ∷ cs) n F r ((x * T + k.rank) / T) (record { size = k.size; rank = z } ∷ ps)) b.1 st);
    }
  where
    swap : (a b : ℕ) → a + b ≡ b + a
    swap a b = omega arith

-- the choice for child i, as it was found
pub record Here (S : System) (c : ℕ) (cs : List ℕ) (n : ℕ) (f : Found) (fs : List Found) (ps : List Pick) : Type 0 where
  pub own : ℕ
  pub later : List Pick
  pub is : ps ≡ record { size = f.size; rank = own } ∷ later
  pub counted : f.rank ≡ capped own
  pub least : 1 ≤ f.size
  pub most : f.size ≤ n
  pub below : own < count_at S c f.size
  pub rest : Fitting (count_at S) cs (n - f.size) later
  pub alike : Alike fs later

-- what was found of the first child
here_front : (S : System) (c : ℕ) (cs : List ℕ) (n : ℕ) (f : Found) (fs : List Found) (ps : List Pick) → Fitting (count_at S) (c ∷ cs) n ps → Alike (f ∷ fs) ps → Here S c cs n f fs ps
here_front S c cs n f fs [] h g = absurd h
here_front S c cs n f fs (k ∷ ps) h g =
    let e = sym g.0 in
    record {
      own = k.rank;
      later = ps;
      is = ap (λ z. record { size = z; rank = k.rank } ∷ ps) e;
      counted = g.1;
      least = omega (arith, g.0, h.0);
      most = omega (arith, g.0, h.1);
      below = subst (λ z. k.rank < count_at S c z) e h.2;
      rest = subst (λ z. Fitting (count_at S) cs (n - z) ps) e h.3;
      alike = g.2;
    }

-- nothing found
abbrev pub none : Found
none = record { size = 0; rank = Known 0 }

-- what was found of child i
pub here_at : {S : System} (cs : List ℕ) {i c n : ℕ} (founds : List Found) → i < length cs → i < length founds → slice_get cs i ≡ Some c
    → (f : (ps : List Pick) × Fitting (count_at S) (drop i cs) n ps × Alike (drop i founds) ps)
    → Here S c (drop (i + 1) cs) n (get_or founds i none) (drop (i + 1) founds) f.0
here_at {S} cs {i} {c} {n} founds lt lt2 e (ps, h, g) =
    here_front S c (drop (i + 1) cs) n (get_or founds i none) (drop (i + 1) founds) ps
    (subst (λ z. Fitting (count_at S) z n ps) (drop_here cs i 0 lt ∙ ap (λ z. z ∷ drop (i + 1) cs) (child_is cs i c e)) h)
    (subst (λ z. Alike z ps) (drop_here founds i none lt2) g)

-- the place of what was found of child i in front of the rest
pub placed_found : (S : System) (cs : List ℕ) (i c n F x : ℕ) (f : Found) (fs : List Found) (ps : List Pick) (inner result : Count) → i < length cs
    → slice_get cs i ≡ Some c → (h : Here S c (drop (i + 1) cs) n f fs ps)
    → (w : Placed S (drop (i + 1) cs) (n - f.size) (F * count_at S c f.size) (x * count_at S c f.size + h.own) h.later inner)
    → result ≡ capped (F * ahead (count_at S (get_or cs i 0)) (ways (count_at S) (drop (i + 1) cs)) n 1 (f.size - 1) + w.place)
    → Placed S (drop i cs) n F x ps result
placed_found S cs i c n F x f fs ps inner result lt e h w is =
    let q = child_is cs i c e in
    subst (λ z. Placed S z n F x ps result) (sym (drop_here cs i 0 lt ∙ ap (λ z. z ∷ drop (i + 1) cs) q))
    (subst (λ z. Placed S (c ∷ drop (i + 1) cs) n F x z result) (sym h.is)
    (placed_front S c (drop (i + 1) cs) n F x (record { size = f.size; rank = h.own }) h.later inner result h.least h.most h.below w
    (subst (λ z. result ≡ capped (F * ahead (count_at S z) (ways (count_at S) (drop (i + 1) cs)) n 1 (f.size - 1) + w.place)) q is)))

-- with no child left, the place is that in front
at_end : (S : System) (n F x : ℕ) (ps : List Pick) (q : Count) → q ≡ capped x → x < F → n ≡ 0 → Placed S [] n F x ps q
unfolding ways
at_end S n F x ps q e lt z =
    let w : x < F * ways (count_at S) [] n = rw z (omega arith) in
    record { place = x; is = e; within = w; chosen = chosen_end S n F x ps w }

-- so past the last child
pub placed_end : (S : System) (cs : List ℕ) (i n F x : ℕ) (ps : List Pick) (q : Count) → length cs ≤ i → Fitting (count_at S) (drop i cs) n ps
    → q ≡ capped x → x < F → Placed S (drop i cs) n F x ps q
placed_end S cs i n F x ps q le f e lt =
    subst (λ z. Placed S z n F x ps q) (sym (drop_past cs i le))
    (at_end S n F x ps q e lt (subst (λ z. Fitting (count_at S) z n ps) (drop_past cs i le) f))

-- a place made of two is below the product of the counts
pub rank_below : (F T x r : ℕ) → x < F → r < T → x * T + r < F * T
rank_below F T x r lt lt2 = let m : suc x * T ≤ F * T = mul-le-mul_right T lt in omega (arith, m)
