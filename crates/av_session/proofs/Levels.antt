-- The numbers of simple words, length by length.
use Rattle.std.proofs.Common.{◌≡◌, ℕ, suc, ◌+◌, ◌-◌, ◌≤◌, List, ◌++◌, flat_map, sym, ap, ◌∙◌, arith, add-one}
use Rattle.std.specs.Io.KnownBytes.{Appends}
use Rattle.std.specs.declared.option.Option.{Option}
use Rattle.av_perm.specs.Lists.{counting}
use Rattle.av_print.specs.Wrote.{AppendsPart}
use Rattle.av_print.proofs.Written.{AppendsUpTo, up_to_part_of, up_to_next, up_to_end}

-- the texts of the lengths from m to last
abbrev pub texts_from : (ℕ → List ℕ) → ℕ → ℕ → List ℕ
texts_from f m last = flat_map f (counting m (last + 1 - m))

first_text : (f : ℕ → List ℕ) (m last : ℕ) → m ≤ last → texts_from f m last ≡ f m ++ texts_from f (m + 1) last
first_text f m last h =
    let n : last + 1 - m ≡ suc (last + 1 - (m + 1)) = omega arith in
    ap (λ k. flat_map f (counting m k)) n ∙ ap (λ k. f m ++ flat_map f (counting k (last + 1 - (m + 1)))) (sym (add-one m))

pub text_turn : (f : ℕ → List ℕ) (m last : ℕ) (old mid new : Option (List ℕ)) (text : List ℕ) → m ≤ last → AppendsUpTo old mid text (texts_from f m last) → Appends mid new (f m)
    → AppendsUpTo old new text (texts_from f (m + 1) last)
text_turn f m last old mid new text h u a = up_to_next old mid new text (f m) (texts_from f (m + 1) last) (rw (first_text f m last h) at u) a

pub text_fault : (f : ℕ → List ℕ) (m last : ℕ) (old mid new : Option (List ℕ)) (text : List ℕ) → m ≤ last → AppendsUpTo old mid text (texts_from f m last) → AppendsPart mid new (f m)
    → AppendsPart old new text
text_fault f m last old mid new text h u p = up_to_part_of old mid new text (f m) (texts_from f (m + 1) last) (rw (first_text f m last h) at u) p

pub text_end : (f : ℕ → List ℕ) (m last : ℕ) (old new : Option (List ℕ)) (text : List ℕ) → last + 1 ≤ m → AppendsUpTo old new text (texts_from f m last) → Appends old new text
text_end f m last old new text h u = let n : last + 1 - m ≡ 0 = omega arith in up_to_end old new text (texts_from f m last) u (ap (λ k. flat_map f (counting m k)) n)

-- the lengths from 1 to n
pub texts_one : (f : ℕ → List ℕ) (n : ℕ) → flat_map f (counting 1 n) ≡ texts_from f 1 n
texts_one f n = let e : n ≡ n + 1 - 1 = omega arith in ap (λ k. flat_map f (counting 1 k)) e
