-- Tokens that are read one after another, or cut at the first that is known.
use Rattle.std.proofs.Common.{◌≡◌, ℕ, ◌+◌, ◌-◌, ◌<◌, ◌≤◌, inl, inr, List, [], ◌∷◌, ◌++◌, map, length, get_or, take, drop, Bor, refl, sym, ap, subst, ◌∙◌, arith}
use Rattle.std.proofs.lemmas.List.{take-append-drop, take_rest, take_all, drop_more, map-append, map_push, map_more}
use Rattle.av_perm.specs.Members.{In}
use Rattle.av_perm.proofs.Membership.{Each, In_at, In_one, In_append_cases, In_map, map_In}

-- the bytes of tokens
abbrev pub bytes : List (Bor (List ℕ)) → List (List ℕ)
bytes ts = map (λ t. t.now) ts

-- the tokens before one and after it
pub cut_here : (ts : List (Bor (List ℕ))) (i : ℕ) (d : Bor (List ℕ)) (k : List ℕ) → i < length ts → (get_or ts i d).now ≡ k
    → bytes ts ≡ bytes (take i ts) ++ k ∷ bytes (take (length ts - (i + 1)) (drop (i + 1) ts))
cut_here ts i d k lt e =
    ap bytes (sym (take-append-drop i ts) ∙ ap (λ (l : List (Bor (List ℕ))). take i ts ++ l) (drop_more ts i d lt))
    ∙ map-append (λ (t : Bor (List ℕ)). t.now) (take i ts) (get_or ts i d ∷ drop (i + 1) ts)
    ∙ ap (λ (t : List ℕ). bytes (take i ts) ++ t ∷ bytes (drop (i + 1) ts)) e
    ∙ ap (λ (l : List (Bor (List ℕ))). bytes (take i ts) ++ k ∷ bytes l) (sym (take_rest ts (i + 1)))

-- one more token that isn't the one that is known
pub none_more : (ts : List (Bor (List ℕ))) (i : ℕ) (d : Bor (List ℕ)) (k : List ℕ) → i < length ts → ((get_or ts i d).now ≡ k → ⊥)
    → (In k (bytes (take i ts)) → ⊥) → In k (bytes (take (i + 1) ts)) → ⊥
none_more ts i d k lt ne none h =
    elim (In_append_cases (bytes (take i ts)) ((get_or ts i d).now ∷ []) k (subst (λ (l : List (List ℕ)). In k l) (map_more (λ (t : Bor (List ℕ)). t.now) ts i d lt) h)) [
      | inl a ↦ none a
      | inr b ↦ ne (sym (In_one k (get_or ts i d).now b))
    ]

-- the first tokens, so many, are the texts of these values
pub record HaveRead {V : Type 0} (P : V → Type 0) (text : V → List ℕ) (done : List V) (ts : List (Bor (List ℕ))) (i : ℕ) : Type 0 where
  pub each : Each P done
  pub same : map text done ≡ bytes (take i ts)

-- one value more
pub read_more : {V : Type 0} {P : V → Type 0} {text : V → List ℕ} {done : List V} {ts : List (Bor (List ℕ))} {i : ℕ} (d : Bor (List ℕ)) (v : V) → i < length ts
    → P v → (get_or ts i d).now ≡ text v → HaveRead P text done ts i → HaveRead P text (done ++ v ∷ []) ts (i + 1)
read_more {V} {P} {text} {done} {ts} {i} d v lt p e have = record {
  each = λ x j. elim (In_append_cases done (v ∷ []) x j) [ inl a ↦ have.each x a | inr b ↦ subst P (sym (In_one x v b)) p ];
  same =
      map_push text done v ∙ ap (λ (l : List (List ℕ)). l ++ text v ∷ []) have.same ∙ ap (λ (t : List ℕ). bytes (take i ts) ++ t ∷ []) (sym e)
      ∙ sym (map_more (λ (t : Bor (List ℕ)). t.now) ts i d lt);
}

-- all of them
pub read_all : {V : Type 0} {P : V → Type 0} {text : V → List ℕ} {done : List V} {ts : List (Bor (List ℕ))} {i : ℕ} → length ts ≤ i → HaveRead P text done ts i
    → Each P done × (bytes ts ≡ map text done)
read_all {V} {P} {text} {done} {ts} {i} ge have = (have.each, sym (have.same ∙ ap bytes (take_all i ts ge)))

-- a token that is the text of no value is none of the texts of values
pub read_none : {V : Type 0} {P : V → Type 0} {text : V → List ℕ} (ts : List (Bor (List ℕ))) (i : ℕ) (d : Bor (List ℕ)) → i < length ts
    → ((v : V) → P v → (get_or ts i d).now ≡ text v → ⊥) → (vs : List V) → Each P vs → bytes ts ≡ map text vs → ⊥
read_none {V} {P} {text} ts i d lt none vs each e =
    let m = In_map text vs (get_or ts i d).now (subst (λ (l : List (List ℕ)). In (get_or ts i d).now l) e (map_In (λ (t : Bor (List ℕ)). t.now) ts (get_or ts i d) (In_at ts i d lt))) in
    none m.0 (each m.0 m.1) m.2

-- the first two tokens, and the others
pub first_two : (ts : List (Bor (List ℕ))) (d : Bor (List ℕ)) → 2 ≤ length ts → bytes ts ≡ (get_or ts 0 d).now ∷ (get_or ts 1 d).now ∷ bytes (take (length ts - 2) (drop 2 ts))
first_two ts d some =
    ap bytes (drop_more ts 0 d (omega arith)) ∙ ap (λ (l : List (Bor (List ℕ))). (get_or ts 0 d).now ∷ bytes l) (drop_more ts 1 d (omega arith))
    ∙ ap (λ (l : List (Bor (List ℕ))). (get_or ts 0 d).now ∷ (get_or ts 1 d).now ∷ bytes l) (sym (take_rest ts 2))

-- six tokens
pub all_six : (ts : List (Bor (List ℕ))) (d : Bor (List ℕ)) → length ts ≡ 6
    → bytes ts ≡ (get_or ts 0 d).now ∷ (get_or ts 1 d).now ∷ (get_or ts 2 d).now ∷ (get_or ts 3 d).now ∷ (get_or ts 4 d).now ∷ (get_or ts 5 d).now ∷ []
all_six (a ∷ b ∷ c ∷ e ∷ f ∷ g ∷ []) d six = refl
all_six [] d six = absurd (omega arith)
all_six (a ∷ []) d six = absurd (omega arith)
all_six (a ∷ b ∷ []) d six = absurd (omega arith)
all_six (a ∷ b ∷ c ∷ []) d six = absurd (omega arith)
all_six (a ∷ b ∷ c ∷ e ∷ []) d six = absurd (omega arith)
all_six (a ∷ b ∷ c ∷ e ∷ f ∷ []) d six = absurd (omega arith)
all_six (a ∷ b ∷ c ∷ e ∷ f ∷ g ∷ h ∷ ts) d six = absurd (omega arith)
