use Rattle.std.proofs.Common.{refl}
use Rattle.pic_load.specs.Generator.{generator}
use Rattle.pic_load.proofs.LoadLaws.{filled_by}
use Rattle.pic_load.proofs.loading.load_species.Goals as goal

pub returns-in-Lattice-clause-value : goal.returns-in-Lattice-clause-value
returns-in-Lattice-clause-value c =
    rw (filled_by c.args.terms.grid c.args.earlier.now c.args.particles.now.items c.args.species.now _ c.args.species.now.count c.in-Lattice.is refl)
    (rw c.cells-cells.ensures at c.load_lattice.ensures.value)

pub returns-in-Random-clause-value : goal.returns-in-Random-clause-value
unfolding generator
returns-in-Random-clause-value c =
    rw (filled_by c.args.terms.grid c.args.earlier.now c.args.particles.now.items c.args.species.now _ c.args.species.now.count c.in-Random.is refl)
    (rw (c.new-rng.ensures, c.cells-cells.ensures) at c.load_random.ensures.value)

pub returns-in-Pair-clause-value : goal.returns-in-Pair-clause-value
unfolding generator
returns-in-Pair-clause-value c =
    rw (filled_by c.args.terms.grid c.args.earlier.now c.args.particles.now.items c.args.species.now _ c.args.species.now.count c.in-Pair.is refl)
    (rw (c.new-own.ensures, c.particles_of-start.ensures) at c.load_pair.ensures.value)

pub returns-in-Displace-clause-value : goal.returns-in-Displace-clause-value
returns-in-Displace-clause-value c =
    rw (filled_by c.args.terms.grid c.args.earlier.now c.args.particles.now.items c.args.species.now _ c.args.species.now.count c.in-Displace.is refl)
    (rw (c.cells-cells.ensures, c.particles_of-from.ensures) at c.load_displaced.ensures.value)

pub returns-in-Points-clause-value : goal.returns-in-Points-clause-value
returns-in-Points-clause-value c =
    let count = rw c.in-Points.is at c.requires.filled.count in
    rw (filled_by c.args.terms.grid c.args.earlier.now c.args.particles.now.items c.args.species.now _ _ c.in-Points.is count)
    (rw c.as_slice.ensures at c.load_points.ensures.value)
