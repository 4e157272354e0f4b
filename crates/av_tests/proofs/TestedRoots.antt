-- Words that pass tests as roots are roots.
use Rattle.std.proofs.Common.{◌≡◌, ℕ, List, length, true, ◌&&◌, nat_le}
use Rattle.std.specs.List.{list_all}
use Rattle.std.proofs.lemmas.Bool.{and_parts, leb-true}
use Rattle.av_perm.specs.declared.limits.TheConstants.{MAX_ROOT_LENGTH}
use Rattle.av_perm.specs.Word.{ArePerms}
use Rattle.av_perm.specs.Simple.{is_simple}
use Rattle.av_perm.proofs.Tests.{all_from}
use Rattle.av_perm.proofs.SimpleWords.{simple_law}
use Rattle.av_perm.proofs.PermWords.{perms_words}
use Rattle.av_build.specs.Laws.{AreRoots}

-- simple words of at most MAX_ROOT_LENGTH entries are roots
pub tested_roots : (ws : List (List ℕ)) → ArePerms ws → list_all (λ w. is_simple w && nat_le (length w) MAX_ROOT_LENGTH) ws ≡ true → AreRoots ws
tested_roots ws perms h w i =
    let t = and_parts _ _ (all_from (λ w. is_simple w && nat_le (length w) MAX_ROOT_LENGTH) ws h w i) in
    ((simple_law w (perms_words ws perms w i).numbers).0 t.0, leb-true (length w) MAX_ROOT_LENGTH t.1)
