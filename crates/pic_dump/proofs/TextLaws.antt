-- Each record of a dump has a byte at least.
use Rattle.std.proofs.Common.{ℕ, ◌<◌, List, length, arith}
use Rattle.pic_num.specs.declared.motion.Particle.{Particle}
use Rattle.pic_grid.specs.declared.stop.EndMark.{EndMark}
use Rattle.pic_grid.specs.declared.stop.EndMark.TheVariants.{Done, Stopped}
use Rattle.pic_grid.specs.declared.stop.Stop.TheVariants.{Field as FieldStop, Push}
use Rattle.pic_grid.specs.Lattice.{Field}
use Rattle.pic_energy.specs.declared.amounts.Energies.{Energies}
use Rattle.pic_header.specs.Header.{HeaderView}
use Rattle.pic_header.specs.HeaderText.{header_bytes, front_bytes, mark_bytes}
use Rattle.pic_record.specs.RecordText.{frame_bytes, start_bytes, end_bytes, done_bytes, field_stop_bytes, push_stop_bytes}

pub header_some : (h : HeaderView) → 0 < length (header_bytes h)
unfolding header_bytes front_bytes mark_bytes
header_some h = omega arith

pub frame_some : (step : ℕ) (e b : Field) (particles : List Particle) (energies : Energies) → 0 < length (frame_bytes step e b particles energies)
unfolding frame_bytes start_bytes
frame_some step e b particles energies = omega arith

pub end_some : (end : EndMark) → 0 < length (end_bytes end)
unfolding end_bytes done_bytes field_stop_bytes push_stop_bytes
end_some (Done steps) = omega arith
end_some (Stopped step (FieldStop phase bound axis cell value)) = omega arith
end_some (Stopped step (Push id what axis value)) = omega arith
