-- The causes of faults in a dump's records, and the fields that they share: this project's profile.
use Rattle.std.specs.Prelude.{ℕ, Bool, nat_lt, nat_eq}
use Rattle.pic_fields.specs.Causes.{cause_number}
use Rattle.pic_fields.specs.declared.cause.Cause.TheVariants.{WrongTag, WrongStep, StrongValue, OutOfRange, WrongEnergy, WrongEnd}
use Rattle.pic_fields.specs.Parser.{Parser, checked}
use Rattle.pic_fields.specs.Number.{u32_at}

-- the causes, but for those of any format: 9, that the end of the input cuts a field, and 10, a byte
-- behind the end record
abbrev pub wrong_tag : ℕ
wrong_tag = cause_number WrongTag

abbrev pub wrong_step : ℕ
wrong_step = cause_number WrongStep

abbrev pub strong_value : ℕ
strong_value = cause_number StrongValue

abbrev pub out_of_range : ℕ
out_of_range = cause_number OutOfRange

abbrev pub wrong_energy : ℕ
wrong_energy = cause_number WrongEnergy

abbrev pub wrong_end : ℕ
wrong_end = cause_number WrongEnd

-- a number below another
abbrev pub is_below : ℕ → ℕ → Bool
is_below n i = nat_lt i n

unfoldable pub below : ℕ → ℕ → Parser ℕ
below cause n = checked cause (is_below n) u32_at

-- the step that has to stand there
unfoldable pub the_step : ℕ → Parser ℕ
the_step step = checked wrong_step (nat_eq step) u32_at
