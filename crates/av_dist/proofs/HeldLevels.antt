-- What tables hold with one row more, and with one size more.
use Rattle.std.proofs.Common.{◌≡◌, ℕ, zero, suc, ◌+◌, ◌<◌, List, [], ◌∷◌, ◌++◌, length, get_or, refl, sym, ap, subst, arith}
use Rattle.std.proofs.lemmas.List.{length_push}
use Rattle.av_sys.specs.declared.terms.System.{System}
use Rattle.av_text.specs.declared.queries.DistKind.{DistKind}
use Rattle.av_dist.specs.Kinds.{statistics_at}
use Rattle.av_dist.specs.Rows.{IsRowOf, width}
use Rattle.av_dist.specs.Tables.{LevelHolds, LevelsHold}

-- what holds of each element of a list and its index holds with one element more
push_all : {A : Type 0} (P : ℕ → A → Type 0) (d : A) (xs : List A) (x : A) → ((u : ℕ) → u < length xs → P u (get_or xs u d)) → P (length xs) x
    → (u : ℕ) → u < length (xs ++ x ∷ []) → P u (get_or (xs ++ x ∷ []) u d)
push_all P d [] x f p zero h = p
push_all P d [] x f p (suc u) h = absurd (omega arith)
push_all P d (y ∷ ys) x f p zero h = f 0 (omega arith)
push_all P d (y ∷ ys) x f p (suc u) h = push_all (λ v. P (suc v)) d ys x (λ v k. f (suc v) (omega arith)) p u (omega arith)

-- a row of the right width, with the numbers of an equation
pub record IsRightRow (k : DistKind) (S : System) (n u : ℕ) (row : List ℕ) : Type 0 where
  pub wide : length row ≡ width n
  pub held : IsRowOf (statistics_at k S u n) row

-- such rows of the first m equations
pub record LevelUpTo (k : DistKind) (S : System) (n m : ℕ) (rows : List (List ℕ)) : Type 0 where
  pub long : length rows ≡ m
  pub right : (u : ℕ) → u < length rows → IsRightRow k S n u (get_or rows u [])

pub no_rows : (k : DistKind) (S : System) (n : ℕ) (rows : List (List ℕ)) → rows ≡ [] → LevelUpTo k S n 0 rows
no_rows k S n rows e = subst (λ (r : List (List ℕ)). LevelUpTo k S n 0 r) (sym e) (record { long = refl; right = λ u h. absurd (omega arith) })

pub row_more : (k : DistKind) (S : System) (n m : ℕ) (rows new : List (List ℕ)) (row : List ℕ) → LevelUpTo k S n m rows → length row ≡ width n
    → IsRowOf (statistics_at k S m n) row → new ≡ rows ++ row ∷ [] → LevelUpTo k S n (m + 1) new
row_more k S n m rows new row a w r e =
    let l = a.long in
    subst (λ (z : List (List ℕ)). LevelUpTo k S n (m + 1) z) (sym e) (record {
      long = let q = length_push rows row in omega arith;
      right = push_all (λ u z. IsRightRow k S n u z) [] rows row a.right (subst (λ j. IsRightRow k S n j row) (sym l) (record { wide = w; held = r }));
    })

pub all_rows : (k : DistKind) (S : System) (n m : ℕ) (rows : List (List ℕ)) → LevelUpTo k S n m rows → m ≡ length S.equations → LevelHolds k S n rows
all_rows k S n m rows a e =
    let l = a.long in
    record { long = omega arith; wide = λ u h. (a.right u (omega arith)).wide; rows_of = λ u h. (a.right u (omega arith)).held }

-- no sizes, and one size more
pub no_levels : (k : DistKind) (S : System) (levels : List (List (List ℕ))) → levels ≡ [] → LevelsHold k S levels
no_levels k S levels e j h = absurd (let l = ap (λ (z : List (List (List ℕ))). length z) e in omega arith)

pub level_more : (k : DistKind) (S : System) (levels new : List (List (List ℕ))) (level : List (List ℕ)) → LevelsHold k S levels
    → LevelHolds k S (length levels + 1) level → new ≡ levels ++ level ∷ [] → LevelsHold k S new
level_more k S levels new level a b e =
    let s : length levels + 1 ≡ suc (length levels) = omega arith in
    subst (λ (z : List (List (List ℕ))). LevelsHold k S z) (sym e)
    (push_all (λ u z. LevelHolds k S (suc u) z) [] levels level a (subst (λ i. LevelHolds k S i level) s b))
