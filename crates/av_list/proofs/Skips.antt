-- Steps along a list past elements that are taken off a number.
use Rattle.std.proofs.Common.{◌≡◌, ℕ, zero, suc, ◌+◌, ◌*◌, ◌≤◌, List, [], ◌∷◌, ◌++◌, map, refl, sym, ◌∙◌, ap, ap₂, arith, append_assoc}
use Rattle.std.proofs.lemmas.List.{map-append}
use Rattle.av_list.specs.Sizes.{weighed, Skips}

-- the weight of a concatenation
pub weighed_append : {X : Type 0} (w : X → ℕ) (xs ys : List X) → weighed w (xs ++ ys) ≡ weighed w xs + weighed w ys
weighed_append w [] ys = omega arith
weighed_append w (x ∷ xs) ys = omega (arith, weighed_append w xs ys)

-- what weighs c times as much, element for element
pub weighed_times : {X Y : Type 0} (w : Y → ℕ) (v : X → ℕ) (g : X → Y) (c : ℕ) → ((x : X) → w (g x) ≡ c * v x) → (xs : List X) → weighed w (map g xs) ≡ c * weighed v xs
weighed_times w v g c e [] = omega arith
weighed_times w v g c e (x ∷ xs) = ap₂ (λ a b. a + b) (e x) (weighed_times w v g c e xs) ∙ out c (v x) (weighed v xs)
  where
    out : (c a b : ℕ) → c * a + c * b ≡ c * (a + b)
    out c a b = omega arith

-- nothing is passed
pub skip_none : {X : Type 0} (w : X → ℕ) (F : ℕ) (xs : List X) (r : ℕ) → Skips w F xs xs r r
skip_none w F xs r = record { front = []; is = refl; place = omega arith }

-- one step after another
pub skip_on : {X : Type 0} (w : X → ℕ) (F : ℕ) (xs ys zs : List X) (r s t : ℕ) → Skips w F xs ys r s → Skips w F ys zs s t → Skips w F xs zs r t
skip_on w F xs ys zs r s t a b = record {
  front = a.front ++ b.front;
  is = a.is ∙ ap (λ z. a.front ++ z) b.is ∙ sym (append_assoc a.front b.front zs);
  place = all F (weighed w (a.front ++ b.front)) (weighed w a.front) (weighed w b.front) (weighed_append w a.front b.front) a.place b.place;
}
  where
    all : (F m a b : ℕ) → m ≡ a + b → s + F * a ≡ r → t + F * b ≡ s → t + F * m ≡ r
    all F m a b e f g = let h : F * m ≡ F * a + F * b = rw e (omega arith) in omega arith

-- what derives after both changes nothing
pub skip_more : {X : Type 0} (w : X → ℕ) (F : ℕ) (xs ys zs : List X) (r s : ℕ) → Skips w F xs ys r s → Skips w F (xs ++ zs) (ys ++ zs) r s
skip_more w F xs ys zs r s a = record {
  front = a.front;
  is = ap (λ z. z ++ zs) a.is ∙ append_assoc a.front ys zs;
  place = a.place;
}

-- a whole list is passed
pub skip_whole : {X : Type 0} (w : X → ℕ) (F : ℕ) (xs ys : List X) (r s : ℕ) → s + F * weighed w xs ≡ r → Skips w F (xs ++ ys) ys r s
skip_whole w F xs ys r s e = record { front = xs; is = refl; place = e }

-- along a map whose elements weigh c times as much
pub skip_map : {X Y : Type 0} (w : Y → ℕ) (v : X → ℕ) (g : X → Y) (F c : ℕ) (xs ys : List X) (r s : ℕ) → ((x : X) → w (g x) ≡ c * v x)
    → Skips v (F * c) xs ys r s → Skips w F (map g xs) (map g ys) r s
skip_map w v g F c xs ys r s e a = record {
  front = map g a.front;
  is = ap (map g) a.is ∙ map-append g a.front ys;
  place = ap (λ z. s + F * z) (weighed_times w v g c e a.front) ∙ three F c (weighed v a.front) s ∙ a.place;
}
  where
    three : (F c m s : ℕ) → s + F * (c * m) ≡ s + F * c * m
    three F c m s = omega arith

-- what is passed at no cost weighs nothing, so how often it counts is free
pub skip_free : {X : Type 0} (w : X → ℕ) (F G : ℕ) (xs ys : List X) (s : ℕ) → 1 ≤ F → Skips w F xs ys 0 s → Skips w G xs ys 0 0
skip_free w F G xs ys s one a = record {
  front = a.front;
  is = a.is;
  place = let e : weighed w a.front ≡ 0 = nothing F (weighed w a.front) one a.place in rw e (omega arith);
}
  where
    nothing : (F m : ℕ) → 1 ≤ F → s + F * m ≡ 0 → m ≡ 0
    nothing zero m h e = absurd (omega arith)
    nothing (suc F) zero h e = refl
    nothing (suc F) (suc m) h e = absurd (let p = some F m in omega arith)
      where
        some : (a b : ℕ) → 1 ≤ suc a * suc b
        some a b = omega arith

-- at no cost nothing is left
pub skip_nothing : {X : Type 0} (w : X → ℕ) (F : ℕ) (xs ys : List X) (s : ℕ) → Skips w F xs ys 0 s → s ≡ 0
skip_nothing w F xs ys s a = omega (arith, a.place)
