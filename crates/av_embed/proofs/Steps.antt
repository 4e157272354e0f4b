-- The steps of a search through the embeddings.
use Rattle.std.proofs.Common.{◌≡◌, ℕ, suc, ◌+◌, ◌<◌, ◌≤◌, List, [], ◌∷◌, ◌++◌, length, take, add-one, ap, ◌∙◌, subst, arith}
use Rattle.std.specs.Ordering.{nat_cmp, is_gt}
use Rattle.std.specs.Cmp.Lexicographic.{slice_cmp}
use Rattle.std.proofs.lemmas.Cmp.{nat_list_cmp_total}
use Rattle.av_perm.proofs.ListLaws.{length_snoc}
use Rattle.av_embed.specs.Embed.{IsEmbedding, embeddings}
use Rattle.av_embed.specs.Left.{embeddings_from, embeddings_after, IsBegun}
use Rattle.av_embed.proofs.EmbeddingList.{embedding_from, embedding_to, embeddings_ascending}
use Rattle.av_embed.proofs.Points.{from_point, point_skipped, point_deeper, point_back, point_next, point_first, point_past, filter_same, filter_all, filter_none, ascending_cut}
use Rattle.av_embed.proofs.Begun.{front_begun, whole_begun}

-- points before which the same embeddings come
same_from : (π γ p q : List ℕ) → ((e : List ℕ) → IsEmbedding π γ e → from_point p e ≡ from_point q e) → embeddings_from π γ p ≡ embeddings_from π γ q
unfolding embeddings_from
same_from π γ p q h = filter_same (from_point p) (from_point q) (embeddings π γ) (λ e i. h e (embedding_from π γ e i))

-- no embedding begins with these children and the child c
pub child_skipped : (π γ e : List ℕ) (c : ℕ) → length e < length γ → (IsBegun π γ (e ++ c ∷ []) → ⊥)
    → embeddings_from π γ (e ++ c ∷ []) ≡ embeddings_from π γ (e ++ (c + 1) ∷ [])
child_skipped π γ e c h unbegun =
    rw add-one (same_from π γ (e ++ c ∷ []) (e ++ suc c ∷ []) (λ f m.
    point_skipped f e c (omega (arith, m.count)) (λ q.
    unbegun (let n = length_snoc e c in subst (λ (g : List ℕ). IsEmbedding π (take (length (e ++ c ∷ [])) γ) g) (ap (λ k. take k f) n ∙ q) (front_begun π γ f (length (e ++ c ∷ [])) m (omega (arith, m.count)))))))

-- the next child is at least c
pub child_deeper : (π γ e : List ℕ) (c : ℕ) → length (e ++ c ∷ []) < length γ
    → embeddings_from π γ (e ++ c ∷ []) ≡ embeddings_from π γ ((e ++ c ∷ []) ++ c ∷ [])
child_deeper π γ e c h =
    same_from π γ (e ++ c ∷ []) ((e ++ c ∷ []) ++ c ∷ []) (λ f m. point_deeper f e c (omega (arith, m.count, length_snoc e c)) m.rising)

-- the next child is at most that of the root's last entry
pub child_back : (π γ e : List ℕ) (c : ℕ) → length (e ++ c ∷ []) < length γ
    → embeddings_from π γ ((e ++ c ∷ []) ++ (length π + 1) ∷ []) ≡ embeddings_from π γ (e ++ (c + 1) ∷ [])
child_back π γ e c h =
    let a : length π + 1 ≡ suc (length π) = omega arith in
    let b : c + 1 ≡ suc c = omega arith in
    rw (a, b) (same_from π γ ((e ++ c ∷ []) ++ suc (length π) ∷ []) (e ++ suc c ∷ []) (λ f m.
    point_back f e c (length π) (omega (arith, m.count, length_snoc e c)) (λ s l. (m.children s l).1)))

-- an embedding comes first of those that don't come before it
pub embedding_first : (π γ e : List ℕ) → IsEmbedding π γ e → embeddings_from π γ e ≡ e ∷ embeddings_after π γ e
unfolding embeddings_from embeddings_after
embedding_first π γ e m = ascending_cut (slice_cmp nat_cmp) nat_list_cmp_total e (embeddings π γ) (embeddings_ascending π γ) (embedding_to π γ e m)

-- those that come after it go on with the next child at the last place, or come later
pub embedding_next : (π γ e : List ℕ) (c : ℕ) → length (e ++ c ∷ []) ≡ length γ
    → embeddings_after π γ (e ++ c ∷ []) ≡ embeddings_from π γ (e ++ (c + 1) ∷ [])
unfolding embeddings_from embeddings_after
embedding_next π γ e c h =
    rw add-one (filter_same (λ f. is_gt (slice_cmp nat_cmp f (e ++ c ∷ []))) (from_point (e ++ suc c ∷ [])) (embeddings π γ) (λ f i.
    point_next f e c (omega (arith, (embedding_from π γ f i).count, length_snoc e c))))

-- all come from child 1 on
pub embeddings_all : (π γ : List ℕ) → 1 ≤ length γ → embeddings_from π γ (1 ∷ []) ≡ embeddings π γ
unfolding embeddings_from
embeddings_all π γ h = filter_all (from_point (1 ∷ [])) (embeddings π γ) (λ e i.
    let m = embedding_from π γ e i in
    point_first e (omega (arith, m.count)) (m.children 0 (omega (arith, m.count))).0)

-- none comes past the last child
pub embeddings_none : (π γ : List ℕ) → 1 ≤ length γ → embeddings_from π γ ((length π + 1) ∷ []) ≡ []
unfolding embeddings_from
embeddings_none π γ h =
    rw add-one (filter_none (from_point (suc (length π) ∷ [])) (embeddings π γ) (λ e i.
    let m = embedding_from π γ e i in
    point_past e (length π) (omega (arith, m.count)) (m.children 0 (omega (arith, m.count))).1))

-- children with a child c that may follow them
module _ (π γ e : List ℕ) (c : ℕ) where
  -- they embed all places
  pub found_here : (p : List ℕ) → embeddings_from π γ p ≡ embeddings_from π γ (e ++ c ∷ []) → IsBegun π γ (e ++ c ∷ []) → length (e ++ c ∷ []) ≡ length γ
      → embeddings_from π γ p ≡ (e ++ c ∷ []) ∷ embeddings_after π γ (e ++ c ∷ [])
  found_here p h b n = h ∙ embedding_first π γ (e ++ c ∷ []) (whole_begun π γ (e ++ c ∷ []) b n)

  -- they go on to an embedding
  pub found_deeper : (p f : List ℕ) → embeddings_from π γ p ≡ embeddings_from π γ (e ++ c ∷ []) → length (e ++ c ∷ []) < length γ
      → embeddings_from π γ ((e ++ c ∷ []) ++ c ∷ []) ≡ f ∷ embeddings_after π γ f → embeddings_from π γ p ≡ f ∷ embeddings_after π γ f
  found_deeper p f h n k = h ∙ child_deeper π γ e c n ∙ k

  -- they go on to none
  pub missed_deeper : length (e ++ c ∷ []) < length γ
      → embeddings_from π γ ((e ++ c ∷ []) ++ c ∷ []) ≡ embeddings_from π γ ((e ++ c ∷ []) ++ (length π + 1) ∷ [])
      → embeddings_from π γ (e ++ c ∷ []) ≡ embeddings_from π γ (e ++ (c + 1) ∷ [])
  missed_deeper n k = child_deeper π γ e c n ∙ k ∙ child_back π γ e c n
