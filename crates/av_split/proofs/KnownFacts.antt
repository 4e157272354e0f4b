-- What is known of questions, and so of demands, is true of what lies in the box.
use Rattle.std.proofs.Common.{◌≡◌, ◌⊎◌, inl, inr, List, [], ◌∷◌, Bool, true, false, refl, ap, ◌∙◌, arith}
use Rattle.std.specs.List.{flat_map}
use Rattle.av_perm.specs.Members.{In}
use Rattle.av_perm.proofs.Membership.{Each, SomeIn, flat_map_In}
use Rattle.av_name.specs.declared.constraints.Known.{Known}
use Rattle.av_name.specs.declared.constraints.Known.TheVariants.{Inside, Outside, Open}
use Rattle.av_split.specs.Split.{both, either, turned, all_of, some_of, Demand, demand_known, demands_known, questions_of}

-- Known facts are true
pub both_inside : (x y : Known) → both x y ≡ Inside → (x ≡ Inside) × (y ≡ Inside)
both_inside x y e = grind arith

pub both_outside : (x y : Known) → both x y ≡ Outside → (x ≡ Outside) ⊎ (y ≡ Outside)
both_outside x y e = grind arith

pub both_open : (x y : Known) → both x y ≡ Open → (x ≡ Open) ⊎ ((x ≡ Inside) × (y ≡ Open))
both_open x y e = grind arith

pub either_inside : (x y : Known) → either x y ≡ Inside → (x ≡ Inside) ⊎ (y ≡ Inside)
either_inside x y e = grind arith

pub either_outside : (x y : Known) → either x y ≡ Outside → (x ≡ Outside) × (y ≡ Outside)
either_outside x y e = grind arith

pub either_open : (x y : Known) → either x y ≡ Open → (x ≡ Open) ⊎ ((x ≡ Outside) × (y ≡ Open))
either_open x y e = grind arith

pub both_out : (k : Known) → both k Outside ≡ Outside
both_out k = grind arith

pub either_in : (k : Known) → either k Inside ≡ Inside
either_in k = grind arith

-- what is known of all, or of some, is known of each, or of one
pub each_inside : {A : Type 0} (f : A → Known) (xs : List A) → all_of f xs ≡ Inside → Each (λ x. f x ≡ Inside) xs
each_inside f [] e x i = absurd i
each_inside f (y ∷ xs) e x (inl q) = ap f q ∙ (both_inside (f y) (all_of f xs) e).0
each_inside f (y ∷ xs) e x (inr i) = each_inside f xs (both_inside (f y) (all_of f xs) e).1 x i

pub each_outside : {A : Type 0} (f : A → Known) (xs : List A) → some_of f xs ≡ Outside → Each (λ x. f x ≡ Outside) xs
each_outside f [] e x i = absurd i
each_outside f (y ∷ xs) e x (inl q) = ap f q ∙ (either_outside (f y) (some_of f xs) e).0
each_outside f (y ∷ xs) e x (inr i) = each_outside f xs (either_outside (f y) (some_of f xs) e).1 x i

pub one_outside : {A : Type 0} (f : A → Known) (xs : List A) → all_of f xs ≡ Outside → SomeIn (λ x. f x ≡ Outside) xs
one_outside f [] e = absurd (cc)
one_outside f (y ∷ xs) e = elim (both_outside (f y) (all_of f xs) e) [
  | inl q ↦ (y, inl refl, q)
  | inr q ↦ let r = one_outside f xs q in (r.0, inr r.1, r.2)
]

pub one_inside : {A : Type 0} (f : A → Known) (xs : List A) → some_of f xs ≡ Inside → SomeIn (λ x. f x ≡ Inside) xs
one_inside f [] e = absurd (cc)
one_inside f (y ∷ xs) e = elim (either_inside (f y) (some_of f xs) e) [
  | inl q ↦ (y, inl refl, q)
  | inr q ↦ let r = one_inside f xs q in (r.0, inr r.1, r.2)
]

-- `f` says no more of the items than is true
pub record Says {A : Type 0} (f : A → Known) (P : A → Type 0) (x : A) : Type 0 where
  pub inside : f x ≡ Inside → P x
  pub outside : f x ≡ Outside → P x → ⊥

pub all_says : {A : Type 0} (f : A → Known) (P : A → Type 0) (xs : List A) → Each (Says f P) xs → Says (all_of f) (Each P) xs
all_says f P xs s = record {
  inside = λ e x i. (s x i).inside (each_inside f xs e x i);
  outside = λ e h. let r = one_outside f xs e in (s r.0 r.1).outside r.2 (h r.0 r.1);
}

pub some_says : {A : Type 0} (f : A → Known) (P : A → Type 0) (xs : List A) → Each (Says f P) xs → Says (some_of f) (SomeIn P) xs
some_says f P xs s = record {
  inside = λ e. let r = one_inside f xs e in (r.0, r.1, (s r.0 r.1).inside r.2);
  outside = λ e h. (s h.0 h.1).outside (each_outside f xs e h.0 h.1) h.2;
}

abbrev pub MetIf : Bool → Type 0 → Type 0
MetIf true X = X
MetIf false X = X → ⊥

-- a demand is met where the questions that hold are those of `H`
abbrev pub Met : {Q : Type 0} → (Q → Type 0) → Demand Q → Type 0
Met H d = MetIf d.required (SomeIn (Each H) d.embeddings)

pub turned_says : (w : Bool) (k : Known) (X : Type 0) → (k ≡ Inside → X) → (k ≡ Outside → X → ⊥) → (turned w k ≡ Inside → MetIf w X) × (turned w k ≡ Outside → MetIf w X → ⊥)
turned_says true k X i o = (i, o)
turned_says false Inside X i o = (λ e. absurd (cc), λ e h. h (i refl))
turned_says false Outside X i o = (λ e. o refl, λ e. absurd (cc))
turned_says false Open X i o = (λ e. absurd (cc), λ e. absurd (cc))

pub demand_says : {Q : Type 0} (f : Q → Known) (H : Q → Type 0) (d : Demand Q) → ((m : List Q) → In m d.embeddings → Each (Says f H) m) → Says (demand_known f) (Met H) d
demand_says {Q = Q} f H d s =
    let a = some_says (all_of f) (Each H) d.embeddings (λ (m : List Q) i. all_says f H m (s m i)) in
    let t = turned_says d.required (some_of (all_of f) d.embeddings) (SomeIn (Each H) d.embeddings) a.inside a.outside in
    record { inside = t.0; outside = t.1 }

pub question_In : {Q : Type 0} (ds : List (Demand Q)) (d : Demand Q) (m : List Q) (q : Q) → In d ds → In m d.embeddings → In q m → In q (questions_of ds)
question_In {Q = Q} ds d m q i j k = flat_map_In (λ (d : Demand Q). flat_map (λ (m : List Q). m) d.embeddings) ds d q i (flat_map_In (λ (m : List Q). m) d.embeddings m q j k)

pub demands_say : {Q : Type 0} (f : Q → Known) (H : Q → Type 0) (ds : List (Demand Q)) → Each (Says f H) (questions_of ds) → Says (demands_known f) (Each (Met H)) ds
demands_say {Q = Q} f H ds s = all_says (demand_known f) (Met H) ds (λ (d : Demand Q) i. demand_says f H d (λ m j q k. s q (question_In ds d m q i j k)))

pub unflipped : (k : Known) → turned false k ≡ Inside → k ≡ Outside
unflipped k e = grind arith
