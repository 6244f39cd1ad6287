-- A part of a list, read behind its first elements.
use Rattle.std.specs.Prelude.{◌≡◌, ℕ, ◌+◌, ◌*◌, List, length, take, drop, Result}
use Rattle.pic_io.specs.Told.{Told}
use Rattle.pic_num.specs.declared.motion.Particle.{Particle}
use Rattle.pic_energy.specs.Energies.{IsOfKinds}
use Rattle.pic_fields.specs.declared.read_stop.ReadStop.{ReadStop}
use Rattle.pic_fields.specs.Parser.{Parser}
use Rattle.pic_fields.specs.Pieces.{each_behind}
use Rattle.pic_fields.specs.Reads.{Reads, always}
use Rattle.pic_record.specs.Firsts.{FirstAre}
use Rattle.pic_record.specs.FrameFields.{IsBoxed}
use Rattle.pic_record.specs.Layout.{LayoutView}

-- so many elements, of so many bytes each, were read behind the first ones, which stay
pub record ReadsPart {A B : Type 0} (f : List A → Parser A) (bytes first count place : ℕ)
    (before now : Told) (old new : List A) (result : Result B ReadStop) : Type 0 where
  pub reads :
      Reads (always (drop first (take (first + count) new))) (each_behind (take first old) count f)
      place (place + bytes * count) before now result
  pub whole : length new ≡ length old
  pub front : take first new ≡ take first old

-- each of the first n particles is of a species and lies in the box
pub record FirstAreHeld (l : LayoutView) (n : ℕ) (particles : List Particle) : Type 0 where
  pub species : FirstAre (IsOfKinds l.kinds) n particles
  pub places : FirstAre (IsBoxed l.side l.cells) n particles
