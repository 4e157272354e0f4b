-- The nodes of a search for overlays: what they have left, and how many turns they take, before and after a choice.
use Rattle.std.proofs.Common.{◌≡◌, ℕ, zero, suc, ◌+◌, ◌-◌, ◌<◌, ◌≤◌, inl, inr, ◌↔◌, true, false, cond, List, [], ◌∷◌, ◌++◌, length, refl, sym, ap, ◌∙◌, subst, arith, append_assoc, append-nil}
use Rattle.std.specs.List.{flat_map}
use Rattle.std.proofs.lemmas.List.{length-append}
use Rattle.std.proofs.lemmas.List.Sums.{sum_by-cons}
use Rattle.av_perm.specs.Members.{In}
use Rattle.av_perm.specs.Relations.{IsWord}
use Rattle.av_perm.proofs.ListLaws.{length_snoc}
use Rattle.av_union.specs.declared.limits.TheConstants.{MAX_OVERLAY_LENGTH}
use Rattle.av_union.specs.declared.choices.Choice.{Choice}
use Rattle.av_union.specs.declared.partials.Partial.{Partial}
use Rattle.av_union.specs.declared.overlays.Node.{Node}
use Rattle.av_union.specs.Union.{IsCovered}
use Rattle.av_union.specs.Choices.{IsChoice, place_of, word_after, choices}
use Rattle.av_union.specs.Growth.{places_after, may_grow, grown, grown_by, overlays}
use Rattle.av_union.specs.Partials.{Takes}
use Rattle.av_union.specs.Nodes.{grown_among, lacking, node_left, nodes_left, IsNode, AreNodes, cost, node_cost, nodes_cost, TakesChoice}
use Rattle.av_union.proofs.ChoiceLists.{In_choices}
use Rattle.av_union.proofs.WordsAfter.{word_after_few}
use Rattle.av_union.proofs.GrownWords.{begins_from, may_from, overlays_law}

-- ---- a node on top of the others

-- what a node on top has left comes first
left_top : (τ : List ℕ) (xs : List Node) (y : Node) → nodes_left τ (xs ++ y ∷ []) ≡ node_left τ y ++ nodes_left τ xs
left_top τ [] y = sym (append-nil (node_left τ y))
left_top τ (x ∷ xs) y = ap (λ (l : List (List ℕ)). l ++ node_left τ x) (left_top τ xs y) ∙ append_assoc (node_left τ y) (nodes_left τ xs) (node_left τ x)

-- its turns add up with theirs
cost_top : (τ : List ℕ) (xs : List Node) (y : Node) → nodes_cost τ (xs ++ y ∷ []) ≡ node_cost τ y + nodes_cost τ xs
cost_top τ [] y = refl
cost_top τ (x ∷ xs) y = omega (arith, cost_top τ xs y)

-- they are nodes together
nodes_top : (τ : List ℕ) (d : ℕ) (xs : List Node) (y : Node) → AreNodes τ d xs → IsNode τ (d + length xs) y → AreNodes τ d (xs ++ y ∷ [])
nodes_top τ d [] y a n = (subst (λ k. IsNode τ k y) (omega arith) n, tt)
nodes_top τ d (x ∷ xs) y a n = (a.0, nodes_top τ (suc d) xs y a.1 (subst (λ k. IsNode τ k y) (omega arith) n))

-- and apart
nodes_below : (τ : List ℕ) (d : ℕ) (xs : List Node) (y : Node) → AreNodes τ d (xs ++ y ∷ []) → AreNodes τ d xs × IsNode τ (d + length xs) y
nodes_below τ d [] y a = (tt, subst (λ k. IsNode τ k y) (omega arith) a.0)
nodes_below τ d (x ∷ xs) y a = let r = nodes_below τ (suc d) xs y a.1 in ((a.0, r.0), subst (λ k. IsNode τ k y) (omega arith) r.1)

-- ---- turns

-- the turns of a choice
abbrev cost_by : ℕ → List ℕ → List ℕ → List ℕ → Choice → ℕ
cost_by n τ w q c = suc (cond (may_grow τ w q c) (cost n τ (word_after w c) (places_after q c) (choices (length (word_after w c)))) 0)

-- the first choice's turns are so many fewer
cost_next : (n : ℕ) (τ w q : List ℕ) (c : Choice) (cs : List Choice) → cost (suc n) τ w q (c ∷ cs) ≡ cost_by n τ w q c + cost (suc n) τ w q cs
unfolding cost
cost_next n τ w q c cs = let e = sum_by-cons (cost_by n τ w q) c cs in omega (arith, e)

-- a node takes a turn at least
cost_some : (n : ℕ) (τ w q : List ℕ) (cs : List Choice) → 1 ≤ cost n τ w q cs
unfolding cost
cost_some zero τ w q cs = omega arith
cost_some (suc n) τ w q cs = omega arith

-- ---- a node that takes its next choice

-- the node after it
abbrev pub IsRest : Node → Choice → Node → Type 0
IsRest x c y = (y.partial ≡ x.partial) × (x.choices ≡ c ∷ y.choices)

-- it is a node still
rest_node : (τ : List ℕ) (d : ℕ) (x y : Node) (c : Choice) → IsNode τ d x → IsRest x c y → IsNode τ d y
rest_node τ d x y c n r = record {
  places = ap (λ (z : Partial). length z.places.items) r.0 ∙ n.places;
  within = n.within;
  few = omega (arith, ap (λ (z : Partial). length z.word) r.0, n.few);
  choices_in = λ k i. subst (λ (z : Partial). IsChoice (length z.word) k) (sym r.0) (n.choices_in k (subst (λ (l : List Choice). In k l) (sym r.1) (inr i)));
}

-- what it has left but for that choice
rest_left : (τ : List ℕ) (n : ℕ) (x y : Node) (c : Choice) → IsRest x c y → lacking τ x ≡ suc n
    → node_left τ x ≡ grown_by n τ x.partial.word x.partial.places.items c ++ node_left τ y
rest_left τ n x y c r e =
    let w = x.partial.word in
    let q = x.partial.places.items in
    ap (λ k. grown_among k τ w q x.choices) e ∙ ap (λ (l : List Choice). flat_map (grown_by n τ w q) l) r.1
    ∙ ap (λ k. grown_by n τ w q c ++ grown_among k τ w q y.choices) (sym e)
    ∙ ap (λ (z : Partial). grown_by n τ w q c ++ grown_among (length τ - length z.places.items) τ z.word z.places.items y.choices) (sym r.0)

-- and the turns that it takes
rest_cost : (τ : List ℕ) (n : ℕ) (x y : Node) (c : Choice) → IsRest x c y → lacking τ x ≡ suc n
    → node_cost τ x ≡ cost_by n τ x.partial.word x.partial.places.items c + node_cost τ y
rest_cost τ n x y c r e =
    let w = x.partial.word in
    let q = x.partial.places.items in
    ap (λ k. cost k τ w q x.choices) e ∙ ap (λ (l : List Choice). cost (suc n) τ w q l) r.1 ∙ cost_next n τ w q c y.choices
    ∙ ap (λ k. cost_by n τ w q c + cost k τ w q y.choices) (sym e)
    ∙ ap (λ (z : Partial). cost_by n τ w q c + cost (length τ - length z.places.items) τ z.word z.places.items y.choices) (sym r.0)

-- a node without a choice left is dropped
pub takes_none : (τ : List ℕ) (x : Node) (old : List Node) → AreNodes τ 0 old → IsNode τ (length old) x → length old < length τ → x.choices ≡ [] → TakesChoice τ x old old
takes_none τ x old a n h none =
    let w = x.partial.word in
    let q = x.partial.places.items in
    let m = length τ - suc (length old) in
    let e : lacking τ x ≡ suc m = omega (arith, n.places) in
    let nothing : node_left τ x ≡ [] = ap (λ k. grown_among k τ w q x.choices) e ∙ ap (λ (l : List Choice). flat_map (grown_by m τ w q) l) none in
    record {
      nodes = a;
      left = ap (λ (l : List (List ℕ)). l ++ nodes_left τ old) (sym nothing);
      less = omega (arith, cost_some (lacking τ x) τ w q x.choices);
    }

-- the pattern may not go on by the choice: the node alone goes back
pub takes_one : (τ : List ℕ) (x y : Node) (c : Choice) (old new : List Node) → AreNodes τ 0 old → IsNode τ (length old) x → length old < length τ → IsRest x c y
    → may_grow τ x.partial.word x.partial.places.items c ≡ false → new ≡ old ++ y ∷ [] → TakesChoice τ x old new
takes_one τ x y c old new a n h r fails is =
    let w = x.partial.word in
    let q = x.partial.places.items in
    let m = length τ - suc (length old) in
    let e : lacking τ x ≡ suc m = omega (arith, n.places) in
    let left : node_left τ x ≡ node_left τ y = rest_left τ m x y c r e
    ∙ ap (λ b. cond b (grown m τ (word_after w c) (places_after q c)) [] ++ node_left τ y) fails in
    let cost_is : node_cost τ x ≡ 1 + node_cost τ y = rest_cost τ m x y c r e
    ∙ ap (λ b. suc (cond b (cost m τ (word_after w c) (places_after q c) (choices (length (word_after w c)))) 0) + node_cost τ y) fails in
    subst (λ (l : List Node). TakesChoice τ x old l) (sym is) (record {
      nodes = nodes_top τ 0 old y a (subst (λ k. IsNode τ k y) (omega arith) (rest_node τ (length old) x y c n r));
      left = left_top τ old y ∙ ap (λ (l : List (List ℕ)). l ++ nodes_left τ old) (sym left);
      less = omega (arith, cost_is, cost_top τ old y);
    })

-- the node of what grows by the choice
abbrev pub IsNodeOf : List ℕ → Node → Choice → Node → Type 0
IsNodeOf τ x c z = (may_grow τ x.partial.word x.partial.places.items c ≡ true) × Takes x.partial c z.partial × (z.choices ≡ choices (length z.partial.word))

-- it is a node of one place more
grown_node : (τ : List ℕ) (d : ℕ) (x z : Node) (c : Choice) → IsNode τ d x → IsChoice (length x.partial.word) c → IsNodeOf τ x c z → IsNode τ (suc d) z
grown_node τ d x z c n h g =
    let w = x.partial.word in
    let q = x.partial.places.items in
    let k = may_from τ w q c g.0 in
    let short = (begins_from (word_after w c) (places_after q c) τ k.1).0 in
    let long = length_snoc q (place_of c) in
    record {
      places = ap length g.1.places ∙ long ∙ ap suc n.places;
      within = omega (arith, n.places);
      few = omega (arith, ap length g.1.word, word_after_few w c h, n.few);
      choices_in = λ b i. In_choices (length z.partial.word) b (subst (λ (l : List Choice). In b l) g.2 i);
    }

-- all that it gives is what grows by the choice
grown_left : (n : ℕ) (τ w q u p : List ℕ) (cs : List Choice) (k : ℕ) → k ≡ n → u ≡ w → p ≡ q → cs ≡ choices (length u) → grown_among k τ u p cs ≡ grown n τ w q
unfolding grown
grown_left zero τ w q u p cs k e f g h = ap (λ i. grown_among i τ u p cs) e ∙ ap (λ (v : List ℕ). v ∷ []) f
grown_left (suc n) τ w q u p cs k e f g h =
    ap (λ i. grown_among i τ u p cs) e ∙ ap (λ (l : List Choice). flat_map (grown_by n τ u p) l) h
    ∙ ap (λ (v : List ℕ). flat_map (grown_by n τ v p) (choices (length v))) f ∙ ap (λ (v : List ℕ). flat_map (grown_by n τ w v) (choices (length w))) g

-- and the turns that it takes
grown_cost : (n : ℕ) (τ w q u p : List ℕ) (cs : List Choice) (k : ℕ) → k ≡ n → u ≡ w → p ≡ q → cs ≡ choices (length u) → cost k τ u p cs ≡ cost n τ w q (choices (length w))
grown_cost n τ w q u p cs k e f g h =
    ap (λ i. cost i τ u p cs) e ∙ ap (λ (l : List Choice). cost n τ u p l) h
    ∙ ap (λ (v : List ℕ). cost n τ v p (choices (length v))) f ∙ ap (λ (v : List ℕ). cost n τ w v (choices (length w))) g

-- the node goes back, and the node of what grows by the choice goes on top
pub takes_two : (τ : List ℕ) (x y z : Node) (c : Choice) (old mid new : List Node) → AreNodes τ 0 old → IsNode τ (length old) x → length old < length τ → IsRest x c y
    → IsNodeOf τ x c z → mid ≡ old ++ y ∷ [] → new ≡ mid ++ z ∷ [] → TakesChoice τ x old new
takes_two τ x y z c old mid new a n h r g im is =
    let w = x.partial.word in
    let q = x.partial.places.items in
    let u = word_after w c in
    let p = places_after q c in
    let m = length τ - suc (length old) in
    let e : lacking τ x ≡ suc m = omega (arith, n.places) in
    let ez : lacking τ z ≡ m = omega (arith, ap length g.1.places, length_snoc q (place_of c), n.places) in
    let top = grown_left m τ u p z.partial.word z.partial.places.items z.choices (lacking τ z) ez g.1.word g.1.places g.2 in
    let top_cost = grown_cost m τ u p z.partial.word z.partial.places.items z.choices (lacking τ z) ez g.1.word g.1.places g.2 in
    let left : node_left τ x ≡ node_left τ z ++ node_left τ y = rest_left τ m x y c r e
    ∙ ap (λ b. cond b (grown m τ u p) [] ++ node_left τ y) g.0 ∙ ap (λ (l : List (List ℕ)). l ++ node_left τ y) (sym top) in
    let cost_is : node_cost τ x ≡ suc (cost m τ u p (choices (length u))) + node_cost τ y = rest_cost τ m x y c r e
    ∙ ap (λ b. suc (cond b (cost m τ u p (choices (length u))) 0) + node_cost τ y) g.0 in
    let both : new ≡ (old ++ y ∷ []) ++ z ∷ [] = is ∙ ap (λ (l : List Node). l ++ z ∷ []) im in
    let long : length (old ++ y ∷ []) ≡ suc (length old) = omega (arith, length-append old (y ∷ [])) in
    let choice = n.choices_in c (subst (λ (l : List Choice). In c l) (sym r.1) (inl refl)) in
    let first = nodes_top τ 0 old y a (subst (λ k. IsNode τ k y) (omega arith) (rest_node τ (length old) x y c n r)) in
    subst (λ (l : List Node). TakesChoice τ x old l) (sym both) (record {
      nodes = nodes_top τ 0 (old ++ y ∷ []) z first (subst (λ k. IsNode τ k z) (omega arith) (grown_node τ (length old) x z c n choice g));
      left = left_top τ (old ++ y ∷ []) z ∙ ap (λ (l : List (List ℕ)). node_left τ z ++ l) (left_top τ old y)
          ∙ sym (append_assoc (node_left τ z) (node_left τ y) (nodes_left τ old)) ∙ ap (λ (l : List (List ℕ)). l ++ nodes_left τ old) (sym left);
      less = omega (arith, cost_is, top_cost, cost_top τ old y, cost_top τ (old ++ y ∷ []) z);
    })

-- ---- the nodes taken off

-- a node that lacks no entry gives its word
pub whole_next : (τ : List ℕ) (xs old new : List Node) (x : Node) → xs ≡ new ++ x ∷ [] → length x.partial.places.items ≡ length τ → nodes_left τ xs ≡ nodes_left τ old
    → nodes_left τ old ≡ x.partial.word ∷ nodes_left τ new
whole_next τ xs old new x e h same =
    let none : lacking τ x ≡ 0 = omega arith in
    sym same ∙ ap (nodes_left τ) e ∙ left_top τ new x ∙ ap (λ k. grown_among k τ x.partial.word x.partial.places.items x.choices ++ nodes_left τ new) none

-- the others are nodes, and it is one of so many places
pub nodes_popped : (τ : List ℕ) (xs new : List Node) (x : Node) → xs ≡ new ++ x ∷ [] → AreNodes τ 0 xs → AreNodes τ 0 new × IsNode τ (length new) x
nodes_popped τ xs new x e a =
    let b = nodes_below τ 0 new x (subst (λ (l : List Node). AreNodes τ 0 l) e a) in
    (b.0, subst (λ k. IsNode τ k x) (omega arith) b.1)

-- what is taken off takes its turns with it
pub cost_popped : (τ : List ℕ) (xs new : List Node) (x : Node) → xs ≡ new ++ x ∷ [] → nodes_cost τ xs ≡ node_cost τ x + nodes_cost τ new
cost_popped τ xs new x e = ap (nodes_cost τ) e ∙ cost_top τ new x

-- and what it has left
pub left_popped : (τ : List ℕ) (xs new : List Node) (x : Node) → xs ≡ new ++ x ∷ [] → node_left τ x ++ nodes_left τ new ≡ nodes_left τ xs
left_popped τ xs new x e = sym (left_top τ new x) ∙ sym (ap (nodes_left τ) e)

-- ---- the first node

-- the node of a word with no place chosen stands alone
pub record IsFirst (σ : List ℕ) (x : Node) (xs : List Node) : Type 0 where
  pub word : x.partial.word ≡ σ
  pub places : x.partial.places.items ≡ []
  pub all : x.choices ≡ choices (length x.partial.word)
  pub alone : xs ≡ [] ++ x ∷ []

-- as the code makes it
pub first_of : (σ : List ℕ) (p : Partial) (x : Node) (ns xs : List Node) → p.word ≡ σ → p.places.items ≡ [] → x.partial ≡ p → x.choices ≡ choices (length p.word)
    → ns ≡ [] → xs ≡ ns ++ x ∷ [] → IsFirst σ x xs
first_of σ p x ns xs e f g h none is = record {
  word = ap (λ (z : Partial). z.word) g ∙ e;
  places = ap (λ (z : Partial). z.places.items) g ∙ f;
  all = h ∙ ap (λ (z : Partial). choices (length z.word)) (sym g);
  alone = is ∙ ap (λ (l : List Node). l ++ x ∷ []) none;
}

-- it has the overlays left
first_left : (σ τ : List ℕ) (x : Node) (xs : List Node) → IsFirst σ x xs → nodes_left τ xs ≡ overlays σ τ
first_left σ τ x xs f =
    let n : lacking τ x ≡ length τ = omega (arith, ap length f.places) in
    ap (nodes_left τ) f.alone ∙ grown_left (length τ) τ σ [] x.partial.word x.partial.places.items x.choices (lacking τ x) n f.word f.places f.all

-- so exactly the covered words
pub first_covered : (σ τ w : List ℕ) (x : Node) (xs : List Node) → IsWord σ → IsFirst σ x xs → In w (nodes_left τ xs) ↔ IsCovered σ τ w
first_covered σ τ w x xs word f = subst (λ (l : List (List ℕ)). In w l ↔ IsCovered σ τ w) (sym (first_left σ τ x xs f)) (overlays_law σ τ w word)

-- and it is a node
pub first_node : (σ τ : List ℕ) (x : Node) (xs : List Node) → length σ ≤ MAX_OVERLAY_LENGTH → IsFirst σ x xs → AreNodes τ 0 xs
first_node σ τ x xs few f = subst (λ (l : List Node). AreNodes τ 0 l) (sym f.alone) (
  record {
    places = ap length f.places;
    within = omega arith;
    few = omega (arith, ap length f.word);
    choices_in = λ c i. In_choices (length x.partial.word) c (subst (λ (l : List Choice). In c l) f.all i);
  },
  tt,
)
