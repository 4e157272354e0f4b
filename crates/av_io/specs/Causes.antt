-- When a source or a sink may answer an error.
use Rattle.std.specs.Prelude.{◌≡◌, ℕ, ◌+◌, ◌-◌, ◌^◌, ◌≤◌, min, Result, OnErr, IsErrOf}
use Rattle.av_io.specs.declared.traits.SinkFault.{SinkFault}
use Rattle.av_io.specs.declared.traits.SinkFault.TheVariants as fault

-- a count of 64 bits after one more, which stays at its last value
abbrev pub one_more : ℕ → ℕ
one_more count = min (count + 1) (2 ^ 64 - 1)

-- a count rose, or stands at its last value
abbrev pub Rose : ℕ → ℕ → Type 0
Rose before now = one_more before ≤ now

-- the count of faults of a source never falls, and rose where the call failed
pub record HasCause {T E : Type 0} (before now : ℕ) (result : Result T E) : Type 0 where
  pub later : before ≤ now
  pub failed : OnErr result (Rose before now)

-- the counts of a sink never fall: that of faults rose where the call failed, that of wants where memory was wanting
pub record HasSinkCause {T : Type 0} (faults faults' wants wants' : ℕ) (result : Result T SinkFault) : Type 0 where
  pub later : faults ≤ faults'
  pub wants_later : wants ≤ wants'
  pub failed : IsErrOf result fault.Failed → Rose faults faults'
  pub memory : IsErrOf result fault.Memory → Rose wants wants'
  pub memory_only : IsErrOf result fault.Memory → faults' ≡ faults
