-- The numbers of the causes for which bytes aren't of a dump: this project's profile.
use Rattle.std.specs.Prelude.{ℕ}
use Rattle.pic_fields.specs.declared.cause.Cause.{Cause}
use Rattle.pic_fields.specs.declared.cause.Cause.TheVariants.{WrongLetter, OutOfLimits, WrongTag, WrongStep, StrongValue}
use Rattle.pic_fields.specs.declared.cause.Cause.TheVariants.{OutOfRange, WrongEnergy, WrongEnd, CutShort, TooMany}

abbrev pub cause_number : Cause → ℕ
cause_number WrongLetter = 1
cause_number OutOfLimits = 2
cause_number WrongTag = 3
cause_number WrongStep = 4
cause_number StrongValue = 5
cause_number OutOfRange = 6
cause_number WrongEnergy = 7
cause_number WrongEnd = 8
cause_number CutShort = 9
cause_number TooMany = 10
