use Rattle.std.proofs.Common.{◌≡◌, pos, ◌-◌, ◌∙◌, to_z, of_z}
use Rattle.std.proofs.Math.IntN.{◌-ℤ◌}
use Rattle.std.proofs.lemmas.Int.{to_z-of_z}
use mir.Syntax.{w32}
use Rattle.pic_num.specs.Velocity.{too_fast}
use Rattle.pic_record.specs.FrameFields.{speed_at}
use Rattle.pic_record.proofs.frame_reader.read_speed.Goals as goal

pub returns : goal.returns
unfolding speed_at
returns g c =
    let low : to_z w32 (of_z w32 c.slowest-low.result) ≡ pos 0 -ℤ pos (too_fast c.args.side) =
    to_z-of_z w32 c.slowest-low.result (record { sfits = c.slowest-low.type_inv }) ∙ c.slowest-low.ensures in
    let high : to_z w32 (of_z w32 c.fastest-high.result) ≡ pos (too_fast c.args.side - 1) =
    to_z-of_z w32 c.fastest-high.result (record { sfits = c.fastest-high.type_inv }) ∙ c.fastest-high.ensures in
    rw (low, high) at c.read_between.ensures.reads
