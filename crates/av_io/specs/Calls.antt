-- Calls that are numbered from 1 on, some of which fail.
use Rattle.std.specs.Prelude.{ℕ, zero, suc, ◌+◌, ◌-◌, ◌^◌, ◌==◌, ◌&&◌, Bool, List, nat_lt, if◌then◌else◌}
use Rattle.std.specs.List.{list_any}

-- whether the number of a call is among those that fail
abbrev pub fails_at : List ℕ → ℕ → Bool
fails_at fails call = list_any (λ c. c == call) fails

-- whether the next call fails: from 2 ^ 64 - 1 calls on none does
abbrev pub fails_next : List ℕ → ℕ → Bool
fails_next fails calls = nat_lt calls (2 ^ 64 - 1) && fails_at fails (calls + 1)

-- how many of the calls with the numbers from 1 to this one fail
abbrev pub faults_in : List ℕ → ℕ → ℕ
faults_in fails zero = 0
faults_in fails (suc n) = faults_in fails n + (if fails_at fails (suc n) then 1 else 0)
