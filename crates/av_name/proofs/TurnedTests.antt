-- Two tests, made in the other order than they are written.
use Rattle.std.proofs.Common.{◌≡◌, Bool, true, false, ◌&&◌}

-- where the first holds, the other decides
pub decides : (a b r : Bool) → r ≡ b → a ≡ true → r ≡ (b && a)
decides true true r q e = q
decides true false r q e = q
decides false b r q e = absurd cc

-- where it fails, both fail
pub fails : (a b r : Bool) → r ≡ false → a ≡ false → r ≡ (b && a)
fails false true r q e = q
fails false false r q e = q
fails true b r q e = absurd cc
