-- The demands of a name, word by word: they are met where the inflation meets the name.
use Rattle.std.proofs.Common.{◌≡◌, ℕ, zero, suc, ◌<◌, ◌≤◌, ◌⊎◌, inl, inr, ◌↔◌, List, [], ◌∷◌, map, length, true, false, refl, sym, ap, subst, arith}
use Rattle.std.specs.List.{flat_map}
use Rattle.av_perm.specs.Members.{In}
use Rattle.av_perm.specs.Relations.{Contains, IsWord, AreBlocks, inflate, joined, pattern_of}
use Rattle.av_perm.proofs.Membership.{Each, SomeIn, In_append_cases, In_map, map_In, In_joined, In_flat_map, append_left, append_right}
use Rattle.av_perm.proofs.Containment.{pattern_law}
use Rattle.av_perm.proofs.NoRepeats.{once_from_apart}
use Rattle.av_perm.proofs.Fibres.{fibre_once}
use Rattle.av_embed.specs.Embed.{fibre, embeddings}
use Rattle.av_embed.proofs.EmbeddingLaw.{embedding_law}
use Rattle.av_embed.proofs.EmbeddingList.{embedding_from, embedding_to}
use Rattle.av_sys.specs.Names.{Meets}
use Rattle.av_split.specs.Split.{Demand, questions_of}
use Rattle.av_split.specs.Boxes.{Question, ask, questions, demand, demands}
use Rattle.av_split.proofs.KnownFacts.{Met}
use Rattle.av_split.proofs.WordRules.{Apt, Holds}

-- an element of one of the lists that are joined
pub joined_In : {A : Type 0} (n : ℕ) (F : ℕ → List A) (i : ℕ) (x : A) → i < n → In x (F i) → In x (joined F n)
joined_In zero F i x h k = absurd (omega arith)
joined_In (suc n) F zero x h k = append_left (F 0) (joined (λ j. F (suc j)) n) x k
joined_In (suc n) F (suc i) x h k = append_right (F 0) (joined (λ j. F (suc j)) n) x (joined_In n (λ j. F (suc j)) i x (omega arith) k)

-- a fibre that is not empty is asked for
pub ask_In : (i : ℕ) (l : List ℕ) → (l ≡ [] → ⊥) → In (record { child = i; word = pattern_of l }) (ask i l)
ask_In i [] h = absurd (h refl)
ask_In i (x ∷ l) h = inl refl

-- and nothing else
pub In_ask : (i : ℕ) (l : List ℕ) (q : Question) → In q (ask i l) → (q ≡ record { child = i; word = pattern_of l }) × (l ≡ [] → ⊥)
In_ask i [] q h = absurd h
In_ask i (x ∷ l) q (inl e) = (e, λ k. cc)
In_ask i (x ∷ l) q (inr h) = absurd h

-- the pattern of a fibre that is not empty is a word
pub fibre_word : (γ e : List ℕ) (i : ℕ) → IsWord γ → (fibre γ e i ≡ [] → ⊥) → IsWord (pattern_of (fibre γ e i))
fibre_word γ e i w n = ((pattern_law).pattern (fibre γ e i) (some (fibre γ e i) n) (fibre_once γ e i (once_from_apart γ w.numbers.apart))).word
  where
    some : (l : List ℕ) → (l ≡ [] → ⊥) → 1 ≤ length l
    some [] n = absurd (n refl)
    some (x ∷ l) n = omega arith

-- the questions of an embedding are of the children
pub questions_apt : (π γ e : List ℕ) (q : Question) → IsWord γ → In q (questions π γ e) → Apt (length π) q
questions_apt π γ e q w i =
    let r = In_joined (λ j. ask j (fibre γ e (suc j))) (length π) q i in
    let a = In_ask r.0 (fibre γ e (suc r.0)) q r.2 in
    subst (Apt (length π)) (sym a.0) (record { child = r.1; word = fibre_word γ e (suc r.0) w a.1 })

-- the questions of some embedding hold exactly where the inflation contains the word
pub some_contains : (π γ : List ℕ) (αs : List (List ℕ)) → IsWord π → AreBlocks π αs → SomeIn (Each (Holds αs)) (map (questions π γ) (embeddings π γ)) ↔ Contains (inflate π αs) γ
some_contains π γ αs w b = (
  λ s.
      let m = In_map (questions π γ) (embeddings π γ) s.0 s.1 in
      (embedding_law π γ αs w.numbers b).1 (
        m.0,
        embedding_from π γ m.0 m.1,
        λ i l ne. s.2 (record { child = i; word = pattern_of (fibre γ m.0 (suc i)) })
            (subst (In (record { child = i; word = pattern_of (fibre γ m.0 (suc i)) })) (sym m.2)
            (joined_In (length π) (λ j. ask j (fibre γ m.0 (suc j))) i (record { child = i; word = pattern_of (fibre γ m.0 (suc i)) }) l (ask_In i (fibre γ m.0 (suc i)) ne))),
      ),
  λ c.
      let r = (embedding_law π γ αs w.numbers b).0 c in (
        questions π γ r.0,
        map_In (questions π γ) (embeddings π γ) r.0 (embedding_to π γ r.0 r.1),
        λ q i.
            let j = In_joined (λ j. ask j (fibre γ r.0 (suc j))) (length π) q i in
            let a = In_ask j.0 (fibre γ r.0 (suc j.0)) q j.2 in
            subst (Holds αs) (sym a.0) (r.2 j.0 j.1 a.1),
      ),
)

-- what holds of each question of each embedding of each word of a name holds of each question of the name
pub demands_each : (P : Question → Type 0) (π : List ℕ) (A R : List (List ℕ)) → ((γ e : List ℕ) → In γ A ⊎ In γ R → Each P (questions π γ e)) → Each P (questions_of (demands π A R))
demands_each P π A R h q i =
    let d = In_flat_map (λ (d : Demand Question). flat_map (λ (m : List Question). m) d.embeddings) (demands π A R) q i in
    let m = In_flat_map (λ (m : List Question). m) (d.0).embeddings q d.2 in
    of_demand d.0 m.0 (elim (In_append_cases (map (demand π false) A) (map (demand π true) R) d.0 d.1) [
      | inl j ↦ let g = In_map (demand π false) A d.0 j in (g.0, inl g.1, ap (λ (e : Demand Question). e.embeddings) g.2)
      | inr j ↦ let g = In_map (demand π true) R d.0 j in (g.0, inr g.1, ap (λ (e : Demand Question). e.embeddings) g.2)
    ]) m.1 m.2
  where
    of_demand : (d : Demand Question) (m : List Question) → (γ : List ℕ) × (In γ A ⊎ In γ R) × (d.embeddings ≡ map (questions π γ) (embeddings π γ)) → In m d.embeddings → In q m → P q
    of_demand d m g i j =
        let e = In_map (questions π g.0) (embeddings π g.0) m (subst (In m) g.2 i) in
        h g.0 e.0 g.1 q (subst (In q) e.2 j)

-- the questions of a name are of the children
pub demands_apt : (π : List ℕ) (A R : List (List ℕ)) → Each IsWord A → Each IsWord R → Each (Apt (length π)) (questions_of (demands π A R))
demands_apt π A R ga gr = demands_each (Apt (length π)) π A R (λ γ e o q i. questions_apt π γ e q (word γ o) i)
  where
    word : (γ : List ℕ) → In γ A ⊎ In γ R → IsWord γ
    word γ (inl j) = ga γ j
    word γ (inr j) = gr γ j

-- the demands are met where the inflation meets the name
pub met_meets : (π : List ℕ) (A R : List (List ℕ)) (αs : List (List ℕ)) → IsWord π → AreBlocks π αs → Each (Met (Holds αs)) (demands π A R) ↔ Meets A R (inflate π αs)
met_meets π A R αs w b = (
  λ m. record {
    avoids = λ a i c. m (demand π false a) (append_left (map (demand π false) A) (map (demand π true) R) (demand π false a) (map_In (demand π false) A a i)) ((some_contains π a αs w b).1 c);
    contains = λ r i. (some_contains π r αs w b).0 (m (demand π true r) (append_right (map (demand π false) A) (map (demand π true) R) (demand π true r) (map_In (demand π true) R r i)));
  },
  λ g d i. elim (In_append_cases (map (demand π false) A) (map (demand π true) R) d i) [
    | inl j ↦ let r = In_map (demand π false) A d j in subst (Met (Holds αs)) (sym r.2) (λ s. g.avoids r.0 r.1 ((some_contains π r.0 αs w b).0 s))
    | inr j ↦ let r = In_map (demand π true) R d j in subst (Met (Holds αs)) (sym r.2) ((some_contains π r.0 αs w b).1 (g.contains r.0 r.1))
  ],
)
