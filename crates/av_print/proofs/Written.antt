-- Texts written one after another.
use Rattle.std.proofs.Common.{◌≡◌, ℕ, ◌+◌, ◌<◌, List, [], ◌∷◌, ◌++◌, length, take, drop, get_or, flat_map, Option, append_assoc, append-nil, add-one, drop-cons, sym, ap, ◌∙◌, refl, arith}
use Rattle.std.proofs.KnownBytes.{Appends-nil, Appends-trans, Appends-kept}
use Rattle.std.proofs.lemmas.List.{take-append-drop}
use Rattle.std.specs.Io.KnownBytes.{Appends, Keeps}
use Rattle.std.specs.List.{join_by}
use Rattle.av_print.specs.Wrote.{AppendsPart}

-- the bytes held grew by all of the text but the rest
pub record AppendsUpTo (old new : Option (List ℕ)) (text rest : List ℕ) : Type 0 where
  pub part : List ℕ
  pub cut : text ≡ part ++ rest
  pub grows : Appends old new part

-- the whole text is a part of it
pub part_whole : (old new : Option (List ℕ)) (t : List ℕ) → Appends old new t → AppendsPart old new t
part_whole old new t a = record { part = t; rest = []; cut = sym (append-nil t); grows = a }

-- a part of the first text is a part of both
pub part_more : (old new : Option (List ℕ)) (s t : List ℕ) → AppendsPart old new s → AppendsPart old new (s ++ t)
part_more old new s t p = record {
  part = p.part;
  rest = p.rest ++ t;
  cut = ap (λ x. x ++ t) p.cut ∙ append_assoc p.part p.rest t;
  grows = p.grows;
}

-- the first text and a part of the second are a part of both
pub part_step : (old mid new : Option (List ℕ)) (s t : List ℕ) → Appends old mid s → AppendsPart mid new t → AppendsPart old new (s ++ t)
part_step old mid new s t a p = record {
  part = s ++ p.part;
  rest = p.rest;
  cut = ap (λ x. s ++ x) p.cut ∙ sym (append_assoc s p.part p.rest);
  grows = Appends-trans old mid new s p.part a p.grows;
}

-- a loop begins with all of the text to be written
pub up_to_start : (held : Option (List ℕ)) (text : List ℕ) → AppendsUpTo held held text text
up_to_start held text = record { part = []; cut = refl; grows = Appends-nil held }

-- a text that was next was written
pub up_to_next : (old mid new : Option (List ℕ)) (text s rest : List ℕ) → AppendsUpTo old mid text (s ++ rest) → Appends mid new s → AppendsUpTo old new text rest
up_to_next old mid new text s rest u a = record {
  part = u.part ++ s;
  cut = u.cut ∙ sym (append_assoc u.part s rest);
  grows = Appends-trans old mid new u.part s u.grows a;
}

-- the first n bytes of the rest were written
pub up_to_step : (old mid new : Option (List ℕ)) (text rest : List ℕ) (n : ℕ) → AppendsUpTo old mid text rest → Appends mid new (take n rest) → AppendsUpTo old new text (drop n rest)
up_to_step old mid new text rest n u a =
    up_to_next old mid new text (take n rest) (drop n rest) (rw (← take-append-drop n rest) at u) a

-- nothing is left to be written
pub up_to_end : (old new : Option (List ℕ)) (text rest : List ℕ) → AppendsUpTo old new text rest → rest ≡ [] → Appends old new text
up_to_end old new text rest u e =
    let whole : text ≡ u.part = u.cut ∙ ap (λ x. u.part ++ x) e ∙ append-nil u.part in
    rw whole u.grows

-- what was written so far is a part of the text
pub up_to_part : (old new : Option (List ℕ)) (text rest : List ℕ) → AppendsUpTo old new text rest → AppendsPart old new text
up_to_part old new text rest u = record { part = u.part; rest = rest; cut = u.cut; grows = u.grows }

-- it is so where a last call wrote nothing
pub up_to_kept : (old mid new : Option (List ℕ)) (text rest : List ℕ) → AppendsUpTo old mid text rest → Keeps mid new → AppendsPart old new text
up_to_kept old mid new text rest u k = record {
  part = u.part;
  rest = rest;
  cut = u.cut;
  grows = Appends-kept old mid new u.part u.grows k;
}

-- it is so where a last call wrote a part of the next text
pub up_to_part_of : (old mid new : Option (List ℕ)) (text s rest : List ℕ) → AppendsUpTo old mid text (s ++ rest) → AppendsPart mid new s → AppendsPart old new text
up_to_part_of old mid new text s rest u p =
    let whole : text ≡ (u.part ++ s) ++ rest = u.cut ∙ sym (append_assoc u.part s rest) in
    rw whole (part_more old new (u.part ++ s) rest (part_step old mid new u.part s u.grows p))

-- the texts of the items from an index on begin with that of the item there
pub items_from : {X : Type 0} (f : X → List ℕ) (xs : List X) (i : ℕ) (x : X) → i < length xs → x ≡ get_or xs i x
    → flat_map f (drop i xs) ≡ f x ++ flat_map f (drop (i + 1) xs)
items_from f xs i x lt e =
    ap (flat_map f) (drop-cons xs i x lt) ∙ ap (λ n. f (get_or xs i x) ++ flat_map f (drop n xs)) (sym (add-one i))
    ∙ ap (λ y. f y ++ flat_map f (drop (i + 1) xs)) (sym e)

-- a turn of a loop that writes the text of each item
pub items_turn : {X : Type 0} (f : X → List ℕ) (xs : List X) (i : ℕ) (x : X) (old mid new : Option (List ℕ)) (text : List ℕ) → i < length xs → x ≡ get_or xs i x
    → AppendsUpTo old mid text (flat_map f (drop i xs)) → Appends mid new (f x) → AppendsUpTo old new text (flat_map f (drop (i + 1) xs))
items_turn f xs i x old mid new text lt e u a = up_to_next old mid new text (f x) _ (rw (items_from f xs i x lt e) at u) a

-- its exit at a fault
pub items_fault : {X : Type 0} (f : X → List ℕ) (xs : List X) (i : ℕ) (x : X) (old mid new : Option (List ℕ)) (text : List ℕ) → i < length xs → x ≡ get_or xs i x
    → AppendsUpTo old mid text (flat_map f (drop i xs)) → AppendsPart mid new (f x) → AppendsPart old new text
items_fault f xs i x old mid new text lt e u p = up_to_part_of old mid new text (f x) _ (rw (items_from f xs i x lt e) at u) p

-- the first item and a part of the others are a part of the joined texts
pub joined_part : {X : Type 0} (f : X → List ℕ) (sep : List ℕ) (xs : List X) (x : X) (old mid new : Option (List ℕ)) → 0 < length xs → x ≡ get_or xs 0 x
    → Appends old mid (f x) → AppendsPart mid new (flat_map (λ y. sep ++ f y) (drop 1 xs)) → AppendsPart old new (join_by f sep xs)
joined_part f sep [] x old mid new lt e a p = absurd (omega arith)
joined_part f sep (y ∷ ys) x old mid new lt e a p =
    part_step old mid new (f y) (flat_map (λ z. sep ++ f z) ys) (rw (← e) a) p

pub ruleset written = (Appends-trans, part_whole, part_more, part_step, up_to_start, up_to_step, up_to_end, up_to_kept, up_to_part)
