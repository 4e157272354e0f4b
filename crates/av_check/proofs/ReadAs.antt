-- What is read of one text, as what is read of another.
use Rattle.std.proofs.Common.{◌≡◌, Option, Some, None, Result, Ok, Err, IfOk}
use Rattle.av_check.specs.Reading.{Reads}

-- the values that have the one text are those that have the other
pub record SameReadings {V T S : Type 0} (P Q : V → Type 0) (text : V → T) (t : T) (other : V → S) (s : S) : Type 0 where
  pub to : (v : V) → P v → t ≡ text v → Q v × (s ≡ other v)
  pub from : (v : V) → Q v → s ≡ other v → P v × (t ≡ text v)

pub reads_as : {V T S : Type 0} {P Q : V → Type 0} {text : V → T} {t : T} {other : V → S} {s : S} → SameReadings P Q text t other s
    → (r : Option V) → Reads P text t r → Reads Q other s r
reads_as same (Some v) h = same.to v h.0 h.1
reads_as same None h = λ v q e. let f = same.from v q e in h v f.0 f.1

-- the same, unless memory is wanting
pub reads_ok_as : {V T S E : Type 0} {P Q : V → Type 0} {text : V → T} {t : T} {other : V → S} {s : S} → SameReadings P Q text t other s
    → (r : Result (Option V) E) → IfOk r (Reads P text t) → IfOk r (Reads Q other s)
reads_ok_as same (Ok r) h = reads_as same r h
reads_ok_as same (Err e) h = tt
