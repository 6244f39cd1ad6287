-- What a snapshot shows of a state where the probes of its run look.
use Rattle.std.specs.Prelude.{◌≡◌, All, slice_index_or}
use Rattle.pic_num.specs.NoParticle.{no_particle}
use Rattle.pic_num.specs.Space.{triple}
use Rattle.pic_grid.specs.declared.snapshot.Snapshot.{Snapshot}
use Rattle.pic_grid.specs.Lattice.{Field, value_at}
use Rattle.pic_devices.specs.declared.place.Place.{Place}
use Rattle.pic_devices.specs.declared.probes.Probes.{Probes}
use Rattle.pic_step.specs.SerialStep.{World, e_of, b_of}

-- two fields have one value at a place
abbrev pub HaveSameAt : Field → Field → Place → Type 0
HaveSameAt f g p = value_at f p.axis (triple p.cell) ≡ value_at g p.axis (triple p.cell)

-- the values of E and of B at each place, and the particle of each identity
pub record Shows (probes : Probes) (to : Snapshot) (w : World) : Type 0 where
  pub e : All (HaveSameAt to.e (e_of w)) probes.places
  pub b : All (HaveSameAt to.b (b_of w)) probes.places
  pub tracers : All (λ id. slice_index_or to.particles.items id no_particle
      ≡ slice_index_or w.particles id no_particle) probes.ids
