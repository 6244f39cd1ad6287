-- The states that the frames of a dump are of.
use Rattle.pic_header.specs.Header.{HeaderView}
use Rattle.pic_record.specs.FrameFields.{FrameView, frame_of}
use Rattle.pic_record.specs.Layout.{layout_of}
use Rattle.pic_step.specs.SerialStep.{World}
use Rattle.pic_states.specs.Frames.{energies_in}

-- the frame of a state
abbrev pub frame_in : World → FrameView
frame_in w = frame_of w.step w.e w.b w.particles (energies_in w)

-- the state that a frame is of, under the header of its dump
abbrev pub world_in : HeaderView → FrameView → World
world_in h f = record {
  step = f.step;
  side = h.side;
  cells = h.cells;
  filter = h.filter;
  loops = h.loops;
  scales = h.scales;
  kinds = (layout_of h).kinds;
  e = f.e;
  b = f.b;
  particles = f.particles;
}
