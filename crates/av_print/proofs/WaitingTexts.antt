-- Texts that are gathered before they are written: the bytes that wait are the next of the text.
use Rattle.std.proofs.Common.{◌≡◌, ℕ, ◌+◌, ◌<◌, List, [], ◌++◌, length, drop, get_or, flat_map, Option, append_assoc, refl, sym, ap, ◌∙◌, subst}
use Rattle.std.specs.Io.KnownBytes.{Appends}
use Rattle.std.proofs.KnownBytes.{Appends-nil}
use Rattle.av_io.specs.Passed.{PassesOn}
use Rattle.av_print.specs.Wrote.{AppendsPart}
use Rattle.av_print.proofs.Written.{AppendsUpTo, items_from, up_to_next}

-- nothing was written yet
pub part_none : (held : Option (List ℕ)) (text : List ℕ) → AppendsPart held held text
part_none held text = record { part = []; rest = text; cut = refl; grows = Appends-nil held }

-- what went on of a text that waited is a part of it
pub part_passed : (old new : Option (List ℕ)) (text waited waiting : List ℕ) → waited ≡ text → PassesOn old new waited waiting → AppendsPart old new text
part_passed old new text waited waiting e p = record { part = p.part; rest = waiting; cut = sym e ∙ p.cut; grows = p.grows }

-- a text that was next waits now
pub up_to_gathered : (old now : Option (List ℕ)) (text waited s rest waiting : List ℕ) → AppendsUpTo old now text (waited ++ (s ++ rest)) → waiting ≡ waited ++ s → AppendsUpTo old now text (waiting ++ rest)
up_to_gathered old now text waited s rest waiting u e =
    subst (AppendsUpTo old now text) (sym (append_assoc waited s rest) ∙ ap (λ l. l ++ rest) (sym e)) u

-- bytes that waited went on
pub up_to_passed : (old mid new : Option (List ℕ)) (text waited waiting rest : List ℕ) → AppendsUpTo old mid text (waited ++ rest) → PassesOn mid new waited waiting → AppendsUpTo old new text (waiting ++ rest)
up_to_passed old mid new text waited waiting rest u p =
    up_to_next old mid new text p.part (waiting ++ rest) (subst (AppendsUpTo old mid text) (ap (λ l. l ++ rest) p.cut ∙ append_assoc p.part waiting rest) u) p.grows

-- a turn of a loop that gathers the text of each item
pub gathered_turn : {X : Type 0} (f : X → List ℕ) (xs : List X) (i : ℕ) (x : X) (old mid new : Option (List ℕ)) (text waited gathered waiting : List ℕ) → i < length xs → x ≡ get_or xs i x
    → AppendsUpTo old mid text (waited ++ flat_map f (drop i xs)) → gathered ≡ waited ++ f x → PassesOn mid new gathered waiting
    → AppendsUpTo old new text (waiting ++ flat_map f (drop (i + 1) xs))
gathered_turn f xs i x old mid new text waited gathered waiting lt e u g p =
    up_to_passed old mid new text gathered waiting _ (up_to_gathered old mid text waited (f x) _ gathered (subst (λ l. AppendsUpTo old mid text (waited ++ l)) (items_from f xs i x lt e) u) g) p

-- a text was gathered after two others
pub two_then : (old new : Option (List ℕ)) (waited s t rest : List ℕ) → waited ≡ s ++ t → Appends old new (waited ++ rest) → Appends old new (s ++ (t ++ rest))
two_then old new waited s t rest e a = subst (Appends old new) (ap (λ l. l ++ rest) e ∙ append_assoc s t rest) a

-- and a part of it
pub two_then_part : (old new : Option (List ℕ)) (waited s t rest : List ℕ) → waited ≡ s ++ t → AppendsPart old new (waited ++ rest) → AppendsPart old new (s ++ (t ++ rest))
two_then_part old new waited s t rest e a = subst (AppendsPart old new) (ap (λ l. l ++ rest) e ∙ append_assoc s t rest) a

pub ruleset waiting = (part_none, part_passed, two_then, two_then_part)
