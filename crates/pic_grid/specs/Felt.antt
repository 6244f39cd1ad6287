-- The push of particles by two lattices of force values.
use Rattle.std.specs.Prelude.{List}
use Rattle.pic_num.specs.declared.motion.Kind.{Kind}
use Rattle.pic_grid.specs.Lattice.{Field, value_at}
use Rattle.pic_grid.specs.PushPhase.{Surroundings}

-- what particles of these kinds feel
abbrev pub felt : List Kind → Field → Field → Surroundings
felt kinds e b =
    record { side = e.side; cells = e.cells; kinds = kinds; of_e = value_at e; of_b = value_at b }
