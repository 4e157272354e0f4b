-- Texts that wait, one after another, and the lines of a list among them.
use Rattle.std.proofs.Common.{◌≡◌, ℕ, zero, suc, ◌+◌, ◌<◌, List, [], ◌∷◌, ◌++◌, length, take, drop, get_or, flat_map, Bool, Option, Some, None, refl, sym, ap, ◌∙◌, subst, arith, append_assoc, append-nil}
use Rattle.std.proofs.KnownBytes.{Appends-trans}
use Rattle.av_io.specs.Passed.{PassesOn}
use Rattle.av_sys.specs.declared.terms.System.{System}
use Rattle.av_sys.specs.TreeLists.{members}
use Rattle.av_list.specs.Items.{items_from}
use Rattle.av_list.specs.Sieving.{SkipsTo}
use Rattle.av_list.proofs.Sieved.{sieve_next, sieve_last}
use Rattle.av_print.specs.Wrote.{AppendsPart}
use Rattle.av_print.proofs.Written.{AppendsUpTo, items_from as texts_from, part_more, part_step, up_to_part_of, up_to_start}
use Rattle.av_print.proofs.WaitingTexts.{up_to_gathered, up_to_passed}
use Rattle.av_session.specs.Answers.{row_text, rows_text, Tells, kept_text}

-- a second text after a first
pub passes_then : (old mid new : Option (List ℕ)) (waited s between t waiting : List ℕ) → PassesOn old mid (waited ++ s) between → PassesOn mid new (between ++ t) waiting → PassesOn old new (waited ++ (s ++ t)) waiting
passes_then old mid new waited s between t waiting p q = record {
  part = p.part ++ q.part;
  cut = sym (append_assoc waited s t) ∙ ap (λ l. l ++ t) p.cut ∙ append_assoc p.part between t ∙ ap (λ l. p.part ++ l) q.cut
      ∙ sym (append_assoc p.part q.part waiting);
  grows = Appends-trans old mid new p.part q.part p.grows q.grows;
}

-- a part of a first text
pub first_part : (old new : Option (List ℕ)) (waited s t : List ℕ) → AppendsPart old new (waited ++ s) → AppendsPart old new (waited ++ (s ++ t))
first_part old new waited s t p = subst (AppendsPart old new) (append_assoc waited s t) (part_more old new (waited ++ s) t p)

-- a first text, and a part of a second
pub then_part : (old mid new : Option (List ℕ)) (waited s between t : List ℕ) → PassesOn old mid (waited ++ s) between → AppendsPart mid new (between ++ t) → AppendsPart old new (waited ++ (s ++ t))
then_part old mid new waited s between t p q =
    subst (AppendsPart old new) (sym (append_assoc p.part between t) ∙ ap (λ l. l ++ t) (sym p.cut) ∙ append_assoc waited s t)
    (part_step old mid new p.part (between ++ t) p.grows q)

-- the text of the next item of a list waits, or goes on
pub next_waits : (old mid new : Option (List ℕ)) (text waited s rest waiting : List ℕ) → AppendsUpTo old mid text (waited ++ (s ++ rest)) → PassesOn mid new (waited ++ s) waiting
    → AppendsUpTo old new text (waiting ++ rest)
next_waits old mid new text waited s rest waiting u p =
    up_to_passed old mid new text (waited ++ s) waiting rest (up_to_gathered old mid text waited s rest (waited ++ s) u refl) p

-- a part of it goes on
pub next_fails : (old mid new : Option (List ℕ)) (text waited s rest : List ℕ) → AppendsUpTo old mid text (waited ++ (s ++ rest)) → AppendsPart mid new (waited ++ s) → AppendsPart old new text
next_fails old mid new text waited s rest u p = up_to_part_of old mid new text (waited ++ s) rest (up_to_gathered old mid text waited s rest (waited ++ s) u refl) p

-- a turn of a loop over items with texts
pub item_waits : {X : Type 0} (f : X → List ℕ) (xs : List X) (i : ℕ) (x : X) (old mid new : Option (List ℕ)) (text waited waiting : List ℕ) → i < length xs → x ≡ get_or xs i x
    → AppendsUpTo old mid text (waited ++ flat_map f (drop i xs)) → PassesOn mid new (waited ++ f x) waiting → AppendsUpTo old new text (waiting ++ flat_map f (drop (i + 1) xs))
item_waits f xs i x old mid new text waited waiting lt e u p =
    next_waits old mid new text waited (f x) _ waiting (subst (λ l. AppendsUpTo old mid text (waited ++ l)) (texts_from f xs i x lt e) u) p

pub item_fails : {X : Type 0} (f : X → List ℕ) (xs : List X) (i : ℕ) (x : X) (old mid new : Option (List ℕ)) (text waited : List ℕ) → i < length xs → x ≡ get_or xs i x
    → AppendsUpTo old mid text (waited ++ flat_map f (drop i xs)) → AppendsPart mid new (waited ++ f x) → AppendsPart old new text
item_fails f xs i x old mid new text waited lt e u p =
    next_fails old mid new text waited (f x) _ (subst (λ l. AppendsUpTo old mid text (waited ++ l)) (texts_from f xs i x lt e) u) p

-- the lines of the next n items of a list
abbrev pub lines_of : ℕ → List (ℕ × List ℕ) → List ℕ
lines_of n items = flat_map row_text (take n items)

-- the lines of a list are those of its items
pub lines_all : (S : System) (n r k : ℕ) → rows_text S n r k ≡ lines_of k (items_from r (drop r (members S n)))
unfolding rows_text
lines_all S n r k = refl

-- a loop begins with all lines of a list
pub lines_start : (S : System) (n r k m : ℕ) (items : List (ℕ × List ℕ)) (held : Option (List ℕ)) (waited : List ℕ) → items ≡ items_from r (drop r (members S n)) → m ≡ k
    → AppendsUpTo held held (waited ++ rows_text S n r k) (waited ++ lines_of m items)
lines_start S n r k m items held waited e f =
    subst (λ l. AppendsUpTo held held (waited ++ rows_text S n r k) (waited ++ l)) (lines_all S n r k ∙ sym (ap (lines_of k) e) ∙ ap (λ j. lines_of j items) (sym f))
    (up_to_start held (waited ++ rows_text S n r k))

-- the first of them
lines_next : (items after : List (ℕ × List ℕ)) (row : ℕ × List ℕ) (n m : ℕ) → items ≡ row ∷ after → m + 1 ≡ n → lines_of n items ≡ row_text row ++ lines_of m after
lines_next items after row n m e f = let k : n ≡ suc m = omega arith in ap (lines_of n) e ∙ ap (λ j. lines_of j (row ∷ after)) k

pub line_waits : (items after : List (ℕ × List ℕ)) (row : ℕ × List ℕ) (n m : ℕ) (old mid new : Option (List ℕ)) (text waited waiting : List ℕ) → items ≡ row ∷ after → m + 1 ≡ n
    → AppendsUpTo old mid text (waited ++ lines_of n items) → PassesOn mid new (waited ++ row_text row) waiting → AppendsUpTo old new text (waiting ++ lines_of m after)
line_waits items after row n m old mid new text waited waiting e f u p =
    next_waits old mid new text waited (row_text row) (lines_of m after) waiting
    (subst (λ l. AppendsUpTo old mid text (waited ++ l)) (lines_next items after row n m e f) u) p

pub line_fails : (items after : List (ℕ × List ℕ)) (row : ℕ × List ℕ) (n m : ℕ) (old mid new : Option (List ℕ)) (text waited : List ℕ) → items ≡ row ∷ after → m + 1 ≡ n
    → AppendsUpTo old mid text (waited ++ lines_of n items) → AppendsPart mid new (waited ++ row_text row) → AppendsPart old new text
line_fails items after row n m old mid new text waited e f u p =
    next_fails old mid new text waited (row_text row) (lines_of m after)
    (subst (λ l. AppendsUpTo old mid text (waited ++ l)) (lines_next items after row n m e f) u) p

-- no line is left where none is asked for, or no item is left
pub lines_none : (items : List (ℕ × List ℕ)) (n : ℕ) → (0 < n → items ≡ []) → lines_of n items ≡ []
lines_none items zero e = refl
lines_none items (suc n) e = ap (lines_of (suc n)) (e (omega arith))

-- the lines of the items that a sieve gives: the first of them
kept_next : (answers : List ℕ → Bool → Type 0) (p : List ℕ → Bool) (items after : List (ℕ × List ℕ)) (row : ℕ × List ℕ) → Tells answers p → SkipsTo answers items (Some row) after
    → kept_text p items ≡ row_text row ++ kept_text p after
unfolding kept_text
kept_next answers p items after row told s = ap (flat_map row_text) (sieve_next answers p told items after row s)

pub kept_waits : (answers : List ℕ → Bool → Type 0) (p : List ℕ → Bool) (items after : List (ℕ × List ℕ)) (row : ℕ × List ℕ) (old mid new : Option (List ℕ)) (text waited waiting : List ℕ) → Tells answers p
    → SkipsTo answers items (Some row) after → AppendsUpTo old mid text (waited ++ kept_text p items) → PassesOn mid new (waited ++ row_text row) waiting → AppendsUpTo old new text (waiting ++ kept_text p after)
kept_waits answers p items after row old mid new text waited waiting told s u q =
    next_waits old mid new text waited (row_text row) (kept_text p after) waiting
    (subst (λ l. AppendsUpTo old mid text (waited ++ l)) (kept_next answers p items after row told s) u) q

pub kept_fails : (answers : List ℕ → Bool → Type 0) (p : List ℕ → Bool) (items after : List (ℕ × List ℕ)) (row : ℕ × List ℕ) (old mid new : Option (List ℕ)) (text waited : List ℕ) → Tells answers p
    → SkipsTo answers items (Some row) after → AppendsUpTo old mid text (waited ++ kept_text p items) → AppendsPart mid new (waited ++ row_text row) → AppendsPart old new text
kept_fails answers p items after row old mid new text waited told s u q =
    next_fails old mid new text waited (row_text row) (kept_text p after)
    (subst (λ l. AppendsUpTo old mid text (waited ++ l)) (kept_next answers p items after row told s) u) q

-- no line is left after the last
pub kept_none : (answers : List ℕ → Bool → Type 0) (p : List ℕ → Bool) (items after : List (ℕ × List ℕ)) → Tells answers p → SkipsTo answers items None after → kept_text p items ≡ []
unfolding kept_text
kept_none answers p items after told s = ap (flat_map row_text) (sieve_last answers p told items after s).0

-- what was passed on is all but what waits
pub passed_to : (old new : Option (List ℕ)) (text waiting rest : List ℕ) → AppendsUpTo old new text (waiting ++ rest) → rest ≡ [] → PassesOn old new text waiting
passed_to old new text waiting rest u e = record { part = u.part; cut = u.cut ∙ ap (λ l. u.part ++ (waiting ++ l)) e ∙ ap (λ l. u.part ++ l) (append-nil waiting); grows = u.grows }

-- the parts of the answer of `list`: its first line, its lines, and its end

pub first_line_fails : (old new : Option (List ℕ)) (waited name sign lines end : List ℕ) → AppendsPart old new (waited ++ (name ++ sign)) → AppendsPart old new (waited ++ (name ++ (sign ++ (lines ++ end))))
first_line_fails old new waited name sign lines end p =
    subst (λ l. AppendsPart old new (waited ++ l)) (append_assoc name sign (lines ++ end)) (first_part old new waited (name ++ sign) (lines ++ end) p)

pub lines_fail : (old mid new : Option (List ℕ)) (waited name sign between lines end : List ℕ) → PassesOn old mid (waited ++ (name ++ sign)) between → AppendsPart mid new (between ++ lines)
    → AppendsPart old new (waited ++ (name ++ (sign ++ (lines ++ end))))
lines_fail old mid new waited name sign between lines end p q =
    subst (λ l. AppendsPart old new (waited ++ l)) (append_assoc name sign (lines ++ end))
    (then_part old mid new waited (name ++ sign) between (lines ++ end) p (first_part mid new between lines end q))

pub end_fails : (old mid late new : Option (List ℕ)) (waited name sign between lines after end : List ℕ) → PassesOn old mid (waited ++ (name ++ sign)) between → PassesOn mid late (between ++ lines) after
    → AppendsPart late new (after ++ end) → AppendsPart old new (waited ++ (name ++ (sign ++ (lines ++ end))))
end_fails old mid late new waited name sign between lines after end p q r =
    subst (λ l. AppendsPart old new (waited ++ l)) (append_assoc name sign (lines ++ end))
    (then_part old mid new waited (name ++ sign) between (lines ++ end) p (then_part mid late new between lines after end q r))

pub list_waits : (old mid late new : Option (List ℕ)) (waited name sign between lines after end waiting : List ℕ) → PassesOn old mid (waited ++ (name ++ sign)) between
    → PassesOn mid late (between ++ lines) after → PassesOn late new (after ++ end) waiting → PassesOn old new (waited ++ (name ++ (sign ++ (lines ++ end)))) waiting
list_waits old mid late new waited name sign between lines after end waiting p q r =
    subst (λ l. PassesOn old new (waited ++ l) waiting) (append_assoc name sign (lines ++ end))
    (passes_then old mid new waited (name ++ sign) between (lines ++ end) waiting p (passes_then mid late new between lines after end waiting q r))
