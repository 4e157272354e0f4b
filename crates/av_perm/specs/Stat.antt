-- Statistics of words.
use Rattle.std.specs.Prelude.{ℕ, ◌+◌, ◌-◌, Bool, cond, List, [], ◌∷◌, nat_lt, count_by}
use Rattle.std.specs.List.{list_all}
use Rattle.av_perm.specs.Lists.{counting}
use Rattle.av_perm.specs.Word.{entry, places}
use Rattle.av_perm.specs.declared.StatKind.{StatKind}
use Rattle.av_perm.specs.declared.StatKind.TheVariants.{Inv, Des, Lrm}

-- inversions: pairs of places s < t with the greater entry at s
abbrev pub inversions : List ℕ → ℕ
inversions [] = 0
inversions (x ∷ xs) = count_by (λ y. nat_lt y x) xs + inversions xs

-- descents: places whose entry is greater than the next
abbrev pub descents : List ℕ → ℕ
descents [] = 0
descents (x ∷ []) = 0
descents (x ∷ y ∷ xs) = cond (nat_lt y x) 1 0 + descents (y ∷ xs)

-- the entry at a place is greater than each entry before it
abbrev pub is_left_to_right_maximum : List ℕ → ℕ → Bool
is_left_to_right_maximum w s = list_all (λ r. nat_lt (entry w r) (entry w s)) (counting 1 (s - 1))

-- how many places hold such an entry
abbrev pub left_to_right_maxima : List ℕ → ℕ
left_to_right_maxima w = count_by (is_left_to_right_maximum w) (places w)

-- the statistic of a kind
abbrev pub statistic_of : StatKind → List ℕ → ℕ
statistic_of Inv w = inversions w
statistic_of Des w = descents w
statistic_of Lrm w = left_to_right_maxima w
