-- The definition of the push, computed on worked rows.
use Rattle.std.specs.Prelude.{◌≡◌, ℤ, pos, negsuc, Result, Ok, Err, refl}
use Rattle.pic_num.specs.declared.axis.Axis.TheVariants.{X}
use Rattle.pic_num.specs.declared.motion.What.TheVariants.{Far}
use Rattle.pic_num.specs.First.{first_of}
use Rattle.pic_num.specs.Multiplier.{Multiplier}
use Rattle.pic_num.specs.Rounding.{rounded, scaled}
use Rattle.pic_num.specs.Space.{Spot}
use Rattle.pic_num.specs.Push.{Shift, Halting, pushed, turned, half_turned, cross, dot, first_above}

abbrev none : Spot
none = record { x = pos 0; y = pos 0; z = pos 0 }

abbrev no_kick : Multiplier
no_kick = record { n = pos 0; k = 0 }

abbrev whole : Multiplier
whole = record { n = pos 1; k = 0 }

abbrev along_x : ℤ → Spot
along_x v = record { x = v; y = pos 0; z = pos 0 }

-- a velocity of one cell is the greatest that a side of 4096 sub-cells allows
abbrev drifting : ℤ → Result Shift Halting
drifting v = pushed 4096 (along_x v) none none no_kick no_kick

quarter_turn : pushed 4096 (along_x (pos 1000)) none (record { x = pos 0; y = pos 0; z = pos 1048576 }) no_kick whole
    ≡ Ok (record { v = record { x = pos 0; y = negsuc 999; z = pos 0 }; d = none })
unfolding pushed turned half_turned cross dot first_above first_of scaled rounded
quarter_turn = refl

least_turn : pushed 4096 (along_x (pos 1000)) none (record { x = pos 0; y = pos 0; z = pos 1 }) no_kick whole
    ≡ Ok (record { v = along_x (pos 1000); d = none })
unfolding pushed turned half_turned cross dot first_above first_of scaled rounded
least_turn = refl

greatest_move : drifting (pos 16779263) ≡ Ok (record { v = along_x (pos 16779263); d = along_x (pos 4096) })
unfolding pushed turned half_turned cross dot first_above first_of scaled rounded
greatest_move = refl

too_far : drifting (pos 16779264) ≡ Err (record { what = Far; axis = X; value = pos 4097 })
unfolding pushed turned half_turned cross dot first_above first_of scaled rounded
too_far = refl

least_move : drifting (negsuc 16779263) ≡ Ok (record { v = along_x (negsuc 16779263); d = along_x (negsuc 4095) })
unfolding pushed turned half_turned cross dot first_above first_of scaled rounded
least_move = refl

too_far_back : drifting (negsuc 16779264) ≡ Err (record { what = Far; axis = X; value = negsuc 4096 })
unfolding pushed turned half_turned cross dot first_above first_of scaled rounded
too_far_back = refl

-- with 256 sub-cells along a cell
greatest_move_in_a_small_cell : pushed 256 (along_x (pos 1050623)) none none no_kick no_kick
    ≡ Ok (record { v = along_x (pos 1050623); d = along_x (pos 256) })
unfolding pushed turned half_turned cross dot first_above first_of scaled rounded
greatest_move_in_a_small_cell = refl

too_far_in_a_small_cell : pushed 256 (along_x (pos 1050624)) none none no_kick no_kick
    ≡ Err (record { what = Far; axis = X; value = pos 257 })
unfolding pushed turned half_turned cross dot first_above first_of scaled rounded
too_far_in_a_small_cell = refl
