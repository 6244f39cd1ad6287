use Rattle.std.specs.Prelude.{◌≡◌, ℕ, ◌+◌, ◌-◌, ◌^◌, ◌≤◌, min, List, Option, None, Result, OnOk, OnErr}

-- what is known of a source or a sink: the bytes left or held, where it tells them, and its faults so far
pub record Told : Type 0 where
  pub bytes : Option (List ℕ)
  pub faults : ℕ

-- one that tells no bytes
abbrev pub untold : ℕ → Told
untold count = record { bytes = None; faults = count }

-- a count one higher, or the last one, 2^64 - 1, at which it stands
abbrev pub raised : ℕ → ℕ
raised count = min (count + 1) (2 ^ 64 - 1)

-- the count of faults rose, or stands at 2^64 - 1
abbrev pub Rose : Told → Told → Type 0
Rose before now = raised before.faults ≤ now.faults

-- the count of faults is as it was
abbrev pub Calm : Told → Told → Type 0
Calm before now = now.faults ≡ before.faults

-- no fault can be blamed on the count
abbrev pub Quiet : Told → Told → Type 0
Quiet before now = ¬ Rose before now

-- the count never falls, Ok leaves it, and an Err comes only where it rose
pub record HasCause {T E : Type 0} (before now : Told) (result : Result T E) : Type 0 where
  pub later : before.faults ≤ now.faults
  pub ok : OnOk result (Calm before now)
  pub err : OnErr result (Rose before now)
