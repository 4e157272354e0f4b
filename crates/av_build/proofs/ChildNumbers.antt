-- The names of the children of a box, numbered one after another.
use Rattle.std.proofs.Common.{◌≡◌, ℕ, List, [], ◌∷◌, ◌++◌, map, sym, ap, ◌∙◌, append_assoc, append-nil}
use Rattle.av_sys.specs.declared.names.Name.{Name}
use Rattle.av_build.specs.Canonical.{with_name, with_names, number_of}
use Rattle.av_build.proofs.Numbers.{number_after}
use Rattle.av_build.proofs.PartialSteps.{with_names_next, next_child}

-- of all names those up to some have their numbers, and these are left
pub record AreNumbered (all left old names : List Name) (children : List ℕ) : Type 0 where
  pub done : List Name
  pub whole : done ++ left ≡ all
  pub found : names ≡ with_names old done
  pub numbers : children ≡ map (number_of names) done

-- one more
pub numbered_next : (all left old names next : List Name) (n : Name) (children more : List ℕ) (k : ℕ) → AreNumbered all (n ∷ left) old names children → next ≡ with_name names n
    → k ≡ number_of names n → more ≡ children ++ k ∷ [] → AreNumbered all left old next more
numbered_next all left old names next n children more k a f h m = record {
  done = a.done ++ n ∷ [];
  whole = append_assoc a.done (n ∷ []) left ∙ a.whole;
  found = new ∙ sym (with_names_next old a.done n);
  numbers = m ∙ ap (λ l. l ++ k ∷ []) (a.numbers ∙ ap (λ l. map (number_of l) a.done) a.found)
      ∙ ap (λ j. map (number_of (with_names old a.done)) a.done ++ j ∷ []) (h ∙ number_after names n ∙ ap (λ l. number_of (with_name l n) n) a.found)
      ∙ sym (next_child old a.done n)
      ∙ ap (λ l. map (number_of l) (a.done ++ n ∷ [])) (with_names_next old a.done n ∙ sym new);
}
  where
    new : next ≡ with_name (with_names old a.done) n
    new = f ∙ ap (λ l. with_name l n) a.found

-- at the end all have them
pub all_numbered : (all left old names : List Name) (children : List ℕ) → left ≡ [] → AreNumbered all left old names children → (names ≡ with_names old all) × (children ≡ map (number_of names) all)
all_numbered all left old names children e a = (a.found ∙ ap (with_names old) whole, a.numbers ∙ ap (map (number_of names)) whole)
  where
    whole : a.done ≡ all
    whole = sym (append-nil a.done) ∙ ap (λ l. a.done ++ l) (sym e) ∙ a.whole
