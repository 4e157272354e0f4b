-- What a word avoids, its blocks avoid.
use Rattle.std.proofs.Common.{◌≡◌, ℕ, ◌+◌, ◌-◌, ◌<◌, ◌≤◌, true, not, ◌&&◌, List, length, take, drop, Some, slice_get, sym, ap, ◌∙◌, subst, arith}
use Rattle.std.proofs.lemmas.Bool.{and_parts}
use Rattle.std.proofs.lemmas.List.{length-map, length-take-le, length-drop, get_or-take, get_or-drop}
use Rattle.av_perm.specs.Lists.{counting}
use Rattle.av_perm.specs.Class.{avoids_all, contains_all}
use Rattle.av_perm.specs.Contain.{contains}
use Rattle.av_perm.specs.Relations.{at, IsWord, IsOccurrence, Contains, pattern_of}
use Rattle.av_perm.proofs.Containment.{contains_trans, contains_pattern}
use Rattle.av_perm.proofs.Occurrences.{contains_from, contains_to}
use Rattle.av_perm.proofs.RisingLists.{length_counting, counting_at}
use Rattle.av_perm.proofs.Tests.{all_from, all_to, not_from, not_to}
use Rattle.av_interval.specs.declared.spans.Span.{Span}
use Rattle.av_interval.specs.Intervals.{Tiles}
use Rattle.av_decomp.specs.Blocks.{block_at, blocks_at}
use Rattle.av_decomp.proofs.Decompositions.{block_of_span}
use Rattle.av_decomp.proofs.SpanNumbers.{span_at, span_within}
use Rattle.av_sys.specs.declared.terms.Equation.{Equation}
use Rattle.av_sys.specs.declared.terms.System.{System}
use Rattle.av_sys.specs.Names.{Means, meets_sign}
use Rattle.av_sys.specs.Exact.{MeansAt, MeansOf}
use Rattle.av_sys.proofs.MeansTests.{means_law}
use Rattle.av_tree.specs.Tops.{AllAvoid}

-- a word contains the pattern of any of its entries that follow one another
stretch_contained : (w : List ℕ) (a m : ℕ) → a + m ≤ length w → Contains w (pattern_of (take m (drop a w)))
stretch_contained w a m h = (contains_pattern w (take m (drop a w))).1 (counting a m, stretch)
  where
    long : length (take m (drop a w)) ≡ m
    long = length-take-le m (drop a w) (omega (arith, length-drop a w))

    entry_of : (s : ℕ) → s < m → at (take m (drop a w)) s ≡ at w (at (counting a m) s)
    entry_of s l = get_or-take m (drop a w) s 0 l ∙ get_or-drop a w s 0 ∙ ap (at w) (sym (counting_at m a s l))

    stretch : IsOccurrence w (take m (drop a w)) (counting a m)
    stretch =
        let n = length_counting m a in
        record {
          count = n ∙ sym long;
          placed = λ s l. omega (arith, counting_at m a s (omega arith));
          rising = λ s t l k. omega (arith, counting_at m a s (omega arith), counting_at m a t (omega arith));
          alike = λ s t l k.
              let x = entry_of s (omega (arith, long)) in
              let y = entry_of t (omega (arith, long)) in
              (λ z. omega arith, λ z. omega arith);
        }

-- so what the word avoids, such a pattern avoids
avoids_part : (w β : List ℕ) (known : List (List ℕ)) → Contains w β → avoids_all known w ≡ true → avoids_all known β ≡ true
avoids_part w β known c avoided = all_to (λ b. not (contains β b)) known (λ b i.
    not_to (contains β b) (λ e. not_from (contains w b) (all_from (λ b. not (contains w b)) known avoided b i) (contains_to w b (contains_trans w β b c (contains_from β b e)))))

-- and so do the blocks at spans
pub blocks_avoid : (w : List ℕ) (known : List (List ℕ)) (spans : List Span) (αs : List (List ℕ)) → Tiles 1 (length w) spans → avoids_all known w ≡ true → αs ≡ blocks_at w spans → AllAvoid known αs
blocks_avoid w known spans αs cover avoided e = subst (AllAvoid known) (sym e) (λ i h.
    let l : i < length spans = omega (arith, length-map spans (block_at w)) in
    let b = span_within spans 1 (length w) i cover l in
    subst (λ β. avoids_all known β ≡ true) (sym (block_of_span w spans i l))
    (avoids_part w (block_at w (span_at spans i)) known
    (stretch_contained w ((span_at spans i).first - 1) ((span_at spans i).last - ((span_at spans i).first - 1)) (omega (arith, b))) avoided))

-- a word that means a name avoids the name's avoided words
pub means_avoids : (S : System) (u : ℕ) (w : List ℕ) (e : Equation) → slice_get S.equations u ≡ Some e → IsWord w → MeansAt S u w → avoids_all e.name.avoid w ≡ true
means_avoids S u w e q g m =
    let n : Means e.name w = subst (λ o. MeansOf o w) q m in
    (and_parts (avoids_all e.name.avoid w) (contains_all e.name.require w && meets_sign e.name.sign w) ((means_law e.name w g).1 n)).0
