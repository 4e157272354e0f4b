-- The words of a list that its type holds.
use Rattle.std.proofs.Common.{◌≡◌, ℕ, ◌≤◌, List, length, All, subst}
use Rattle.av_perm.specs.Class.{top}
use Rattle.av_perm.specs.Relations.{AreWords}
use Rattle.av_perm.specs.Word.{ArePerms}
use Rattle.av_perm.proofs.MinimalWords.{each_words}
use Rattle.av_perm.proofs.TopWords.{top_long}
use Rattle.av_perm.proofs.Membership.{each_all}
use Rattle.av_perm.proofs.PermWords.{perms_words}

-- they are words
pub are_words : (ws : List (List ℕ)) → ArePerms ws → AreWords ws
are_words ws perms = each_words ws (perms_words ws perms)

-- where they are the maximal ones but for the word 1 they have two entries or more
pub top_entries : (required : List (List ℕ)) → ArePerms required → top required ≡ required → All (λ w. 2 ≤ length w) required
top_entries required perms e = subst (λ ws. All (λ w. 2 ≤ length w) ws) e (each_all (λ w. 2 ≤ length w) (top required) (top_long required (are_words required perms)))
