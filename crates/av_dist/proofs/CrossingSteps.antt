-- What inversions of a root add, from one place on.
use Rattle.std.proofs.Common.{◌≡◌, ℕ, suc, ◌+◌, ◌*◌, ◌<◌, ◌≤◌, List, ◌∷◌, length, drop, cond, ap, ap₂, ◌∙◌, arith, nat_lt, get_or}
use Rattle.std.proofs.Math.Seq.{drop-cons}
use Rattle.std.proofs.lemmas.List.{drop_all}
use Rattle.av_dist.specs.Crossing.{lesser, crossing}

-- the list from a place on
pub from_place : (w : List ℕ) (j : ℕ) → j < length w → drop j w ≡ get_or w j 0 ∷ drop (j + 1) w
from_place w j h = let e : suc j ≡ j + 1 = omega arith in drop-cons w j 0 h ∙ ap (λ i. get_or w j 0 ∷ drop i w) e

pub lesser_step : (x : ℕ) (w ns : List ℕ) (j : ℕ) → j < length w → j < length ns
    → lesser x (drop j w) (drop j ns) ≡ cond (nat_lt (get_or w j 0) x) (get_or ns j 0) 0 + lesser x (drop (j + 1) w) (drop (j + 1) ns)
lesser_step x w ns j h k = ap₂ (lesser x) (from_place w j h) (from_place ns j k)

pub lesser_end : (x : ℕ) (w ns : List ℕ) (j : ℕ) → length w ≤ j → lesser x (drop j w) (drop j ns) ≡ 0
lesser_end x w ns j h = ap (λ (v : List ℕ). lesser x v (drop j ns)) (drop_all j w h)

pub crossing_step : (w ns : List ℕ) (j : ℕ) → j < length w → j < length ns
    → crossing (drop j w) (drop j ns) ≡ get_or ns j 0 * lesser (get_or w j 0) (drop (j + 1) w) (drop (j + 1) ns) + crossing (drop (j + 1) w) (drop (j + 1) ns)
crossing_step w ns j h k = ap₂ crossing (from_place w j h) (from_place ns j k)

pub crossing_end : (w ns : List ℕ) (j : ℕ) → length w ≤ j → crossing (drop j w) (drop j ns) ≡ 0
crossing_end w ns j h = ap (λ (v : List ℕ). crossing v (drop j ns)) (drop_all j w h)
