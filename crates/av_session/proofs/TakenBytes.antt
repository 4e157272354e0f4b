-- What is so of the bytes that were taken, of those that may be known, and of the statuses that are left.
use Rattle.std.proofs.Common.{◌≡◌, ℕ, ◌<◌, ◌≤◌, ◌⊎◌, inl, inr, List, [], ◌++◌, length, Option, Some, None, IfSome, refl}
use Rattle.std.specs.Io.KnownBytes.{IsAtEnd}
use Rattle.av_session.specs.declared.status.Status.{Status}
use Rattle.av_session.specs.declared.status.Status.TheVariants as status
use Rattle.av_session.specs.Taken.{TakesAll}
use Rattle.av_session.specs.Runs.{ReadsWhole}

-- what is so of any bytes is so of those that are known
pub of_known : (P : List ℕ → Type 0) (known : Option (List ℕ)) → ((bytes : List ℕ) → P bytes) → IfSome known P
of_known P None h = tt
of_known P (Some bytes) h = h bytes

-- what is so of the bytes that were taken is so of all bytes of the source, if nothing after the most that are taken could
-- change it
pub of_all : (P : List ℕ → Type 0) (most : ℕ) (old new : Option (List ℕ)) (taken : List ℕ) → TakesAll most old new taken
    → ((all left : List ℕ) → all ≡ taken ++ left → length taken ≤ most → (length taken < most → left ≡ []) → P all) → IfSome old P
of_all P most None new taken t h = tt
of_all P most (Some all) None taken t h = absurd t.0
of_all P most (Some all) (Some left) taken t h = h all left t.0 t.1 t.2

-- what was read, by the status, where Done comes at the end of the source only
pub read_by : (most : ℕ) (s : Status) (old new : Option (List ℕ)) (taken : List ℕ) → TakesAll most old new taken → (s ≡ status.Done → IsAtEnd new) → ReadsWhole most s old new
read_by most status.Done old new taken t end = ((taken, t), end refl)
read_by most status.Memory old new taken t end = tt
read_by most status.Words old new taken t end = tt
read_by most status.ReadFault old new taken t end = tt
read_by most status.WriteFault old new taken t end = tt
read_by most status.Refused old new taken t end = (taken, t)
read_by most status.Unsettled old new taken t end = (taken, t)
read_by most status.TooLarge old new taken t end = (taken, t)

-- no status but Done and Memory is left, where the others don't fit
pub two_left : (F : Status → Type 0) (s : Status) → F s → (s ≡ status.Words → ⊥) → (s ≡ status.ReadFault → ⊥) → (s ≡ status.WriteFault → ⊥)
    → (F status.Refused → ⊥) → (F status.Unsettled → ⊥) → (F status.TooLarge → ⊥) → (s ≡ status.Done) ⊎ (s ≡ status.Memory)
two_left F status.Done f words read write refused unsettled large = inl refl
two_left F status.Memory f words read write refused unsettled large = inr refl
two_left F status.Words f words read write refused unsettled large = absurd (words refl)
two_left F status.ReadFault f words read write refused unsettled large = absurd (read refl)
two_left F status.WriteFault f words read write refused unsettled large = absurd (write refl)
two_left F status.Refused f words read write refused unsettled large = absurd (refused f)
two_left F status.Unsettled f words read write refused unsettled large = absurd (unsettled f)
two_left F status.TooLarge f words read write refused unsettled large = absurd (large f)
