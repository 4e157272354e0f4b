-- What the terms of a root ask, by number, as the list of patterns grows.
use Rattle.std.proofs.Common.{◌≡◌, ℕ, zero, suc, ◌+◌, ◌<◌, List, [], ◌∷◌, ◌++◌, map, take, length, get_or, slice_get, cond, Bool, true, false, Some, refl, sym, ap, ap₂, ◌∙◌, subst, arith, append_assoc, append-nil}
use Rattle.std.proofs.lemmas.List.{map-append, length-take, length-map}
use Rattle.std.specs.declared.cmp.Ordering.TheVariants.{Less}
use Rattle.av_perm.specs.Lists.{same, Extends}
use Rattle.av_perm.specs.Word.{shortlex}
use Rattle.av_perm.specs.Class.{insert_by, insert_word, in_shortlex}
use Rattle.av_perm.proofs.Pointwise.{pointwise_more, pointwise_snoc}
use Rattle.av_sys.specs.declared.names.Name.{Name}
use Rattle.av_sys.specs.declared.terms.Term.{Term}
use Rattle.av_sys.specs.declared.terms.Term.TheVariants.{Point, Node}
use Rattle.av_sys.specs.declared.terms.Equation.{Equation}
use Rattle.av_sys.specs.declared.terms.System.{System}
use Rattle.av_split.specs.declared.cells.Cell.{Cell}
use Rattle.av_split.specs.Boxes.{Question}
use Rattle.av_split.proofs.Numbered.{question_more, take_more}
use Rattle.av_walk.specs.Walk.{Literal}
use Rattle.av_walk.specs.Leaves.{name_of_equation, names_at, names_of_root, asks, child_literals, literals}
use Rattle.av_walk.specs.Numbers.{IsLiteralOf, AreLiteralsOf, AreTermsOf}

-- words that ascend are in shortlex order
pub ascending_is : (ws : List (List ℕ)) → ((i : ℕ) → suc i < length ws → shortlex (get_or ws i []) (get_or ws (suc i) []) ≡ Less) → in_shortlex ws ≡ ws
ascending_is [] h = refl
ascending_is (w ∷ []) h = refl
ascending_is (w ∷ v ∷ ws) h = ap (insert_word w) (ascending_is (v ∷ ws) (λ i l. h (suc i) (omega arith))) ∙ ap (λ o. insert_by o w v ws (insert_word w ws)) (h 0 (omega arith))

-- literals, terms and lists of them stay as the list grows
literal_more : (k : ℕ) (ps qs : List (List ℕ)) → Extends ps qs → (l : Literal Cell) (m : Literal Question) → IsLiteralOf k ps l m → IsLiteralOf k qs l m
literal_more k ps qs e l m i = record { required = i.required; question = question_more k ps qs e l.question m.question i.question }

pub literals_more : (k : ℕ) (ps qs : List (List ℕ)) → Extends ps qs → (t : List (Literal Cell)) (u : List (Literal Question)) → AreLiteralsOf k ps t u → AreLiteralsOf k qs t u
literals_more k ps qs e = pointwise_more (IsLiteralOf k ps) (IsLiteralOf k qs) (literal_more k ps qs e)

pub terms_more : (k : ℕ) (ps qs : List (List ℕ)) → Extends ps qs → (ts : List (List (Literal Cell))) (us : List (List (Literal Question))) → AreTermsOf k ps ts us → AreTermsOf k qs ts us
terms_more k ps qs e = pointwise_more (AreLiteralsOf k ps) (AreLiteralsOf k qs) (literals_more k ps qs e)

-- what is asked of the next word
pub word_next : (r : Bool) (child k : ℕ) (ps qs : List (List ℕ)) (old new : List (Literal Cell)) (before : List (Literal Question)) (xs ys : List (List ℕ)) (i n : ℕ) (w : List ℕ) (p : ℕ)
    → Extends ps qs → i < length xs → w ≡ get_or xs i w → xs ≡ ys → n ≡ i + 1 → child < k → p < length qs → get_or qs p [] ≡ w → new ≡ old ++ record { required = r; question = record { child = child; pattern = p } } ∷ []
    → AreLiteralsOf k ps old (before ++ map (asks r child) (take i ys)) → AreLiteralsOf k qs new (before ++ map (asks r child) (take n ys))
word_next r child k ps qs old new before xs ys i n w p x h e q m c g is more a =
    subst (λ z. AreLiteralsOf k qs z (before ++ map (asks r child) (take n ys))) (sym more)
    (subst (AreLiteralsOf k qs (old ++ literal ∷ [])) (sym longer)
    (pointwise_snoc (IsLiteralOf k qs) old (before ++ map (asks r child) (take i ys)) literal (asks r child w) (literals_more k ps qs x old (before ++ map (asks r child) (take i ys)) a)
    (record { required = refl; question = record { child = c; pattern = g; question = ap (λ v. record { child = child; word = v }) is } })))
  where
    literal : Literal Cell
    literal = record { required = r; question = record { child = child; pattern = p } }

    longer : before ++ map (asks r child) (take n ys) ≡ (before ++ map (asks r child) (take i ys)) ++ asks r child w ∷ []
    longer =
        ap (λ zs. before ++ map (asks r child) zs) (take_more xs ys i n w h e q m)
        ∙ ap (λ (zs : List (Literal Question)). before ++ zs) (map-append (asks r child) (take i ys) (w ∷ []))
        ∙ sym (append_assoc before (map (asks r child) (take i ys)) (asks r child w ∷ []))

-- what names ask, one by one
literals_snoc : (j : ℕ) (ns : List Name) (n : Name) → literals j (ns ++ n ∷ []) ≡ literals j ns ++ child_literals (j + length ns) n
literals_snoc j [] n = let e : j + 0 ≡ j = omega arith in append-nil (child_literals j n) ∙ ap (λ i. child_literals i n) (sym e)
literals_snoc j (m ∷ ns) n =
    let e : suc j + length ns ≡ j + suc (length ns) = omega arith in
    ap (λ (l : List (Literal Question)). child_literals j m ++ l) (literals_snoc (suc j) ns n ∙ ap (λ i. literals (suc j) ns ++ child_literals i n) e)
    ∙ sym (append_assoc (child_literals j m) (literals (suc j) ns) (child_literals (j + suc (length ns)) n))

-- what the next child is asked
pub child_next : (S : System) (cs : List ℕ) (i n c : ℕ) (e : Equation) → i < length cs → slice_get cs i ≡ Some c → slice_get S.equations c ≡ Some e → n ≡ i + 1
    → literals 0 (names_at S (take n cs)) ≡ literals 0 (names_at S (take i cs)) ++ child_literals i e.name
child_next S cs i n c e h g s m =
    ap (λ l. literals 0 (names_at S l)) (take_more cs cs i n c h (sym (at cs i c g)) refl m)
    ∙ ap (literals 0) (map-append name (take i cs) (c ∷ []))
    ∙ literals_snoc 0 (names_at S (take i cs)) (name c)
    ∙ ap₂ (λ (j : ℕ) (x : Name). literals 0 (names_at S (take i cs)) ++ child_literals j x) long (ap name_of_equation s)
  where
    name : ℕ → Name
    name c = name_of_equation (slice_get S.equations c)

    at : (cs : List ℕ) (i c : ℕ) → slice_get cs i ≡ Some c → get_or cs i c ≡ c
    at [] i c g = absurd (cc)
    at (d ∷ cs) zero c g = cc
    at (d ∷ cs) (suc i) c g = at cs i c g

    long : 0 + length (names_at S (take i cs)) ≡ i
    long = omega (arith, length-map (take i cs) name, length-take i cs, h)

-- the names of the terms of a root, one by one
pub names_snoc : (S : System) (root : List ℕ) (ts : List Term) (t : Term) → names_of_root S root (ts ++ t ∷ []) ≡ names_of_root S root ts ++ names_of_root S root (t ∷ [])
names_snoc S root [] t = refl
names_snoc S root (Point ∷ ts) t = names_snoc S root ts t
names_snoc S root (Node π cs ∷ ts) t = by (same π root) (names_snoc S root ts t)
  where
    by : (b : Bool) → names_of_root S root (ts ++ t ∷ []) ≡ names_of_root S root ts ++ names_of_root S root (t ∷ [])
        → cond b (names_at S cs ∷ names_of_root S root (ts ++ t ∷ [])) (names_of_root S root (ts ++ t ∷ [])) ≡ cond b (names_at S cs ∷ names_of_root S root ts) (names_of_root S root ts) ++ names_of_root S root (t ∷ [])
    by true e = ap (λ (l : List (List Name)). names_at S cs ∷ l) e
    by false e = e

-- what the terms ask, once the next one is gone through
pub term_next : (S : System) (root : List ℕ) (k : ℕ) (ps : List (List ℕ)) (new : List (List (Literal Cell))) (xs ys : List Term) (i n : ℕ) (t : Term) → i < length xs → t ≡ get_or xs i t → xs ≡ ys → n ≡ i + 1
    → AreTermsOf k ps new (map (literals 0) (names_of_root S root (take i ys)) ++ map (literals 0) (names_of_root S root (t ∷ []))) → AreTermsOf k ps new (map (literals 0) (names_of_root S root (take n ys)))
term_next S root k ps new xs ys i n t h e q m a =
    subst (AreTermsOf k ps new) (sym (
    ap (λ l. map (literals 0) (names_of_root S root l)) (take_more xs ys i n t h e q m)
    ∙ ap (map (literals 0)) (names_snoc S root (take i ys) t)
    ∙ map-append (literals 0) (names_of_root S root (take i ys)) (names_of_root S root (t ∷ []))
    )) a

-- a term with the root
pub term_with : (S : System) (root π : List ℕ) (cs : List ℕ) (k : ℕ) (ps qs : List (List ℕ)) (old new : List (List (Literal Cell))) (t : List (Literal Cell)) (before : List (List (Literal Question))) → Extends ps qs → same π root ≡ true → new ≡ old ++ t ∷ []
    → AreLiteralsOf k qs t (literals 0 (names_at S cs)) → AreTermsOf k ps old before → AreTermsOf k qs new (before ++ map (literals 0) (names_of_root S root (Node π cs ∷ [])))
term_with S root π cs k ps qs old new t before x e more i a =
    subst (λ b. AreTermsOf k qs new (before ++ map (literals 0) (cond b (names_at S cs ∷ []) []))) (sym e)
    (subst (λ l. AreTermsOf k qs l (before ++ literals 0 (names_at S cs) ∷ [])) (sym more) (pointwise_snoc (AreLiteralsOf k qs) old before t (literals 0 (names_at S cs)) (terms_more k ps qs x old before a) i))
