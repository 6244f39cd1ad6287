use Rattle.std.proofs.Common.{Ok, ap, sym, refl}
use Rattle.std.proofs.lemmas.Int.{to_z-of_z}
use mir.Syntax.{w32}
use Rattle.pic_walk.specs.Walk.{need}
use Rattle.pic_walk.proofs.WalkLaws.{goes_on, exits}
use Rattle.pic_deck.specs.Fill.{species_fill}
use Rattle.pic_deck.proofs.fill_reader.read_fill.Goals as goal

pub returns-in_err-source-clause-walks : goal.returns-in_err-source-clause-walks
unfolding species_fill
returns-in_err-source-clause-walks c = exits _ _ c.from_residual.ensures.1 (rw c.version.ensures at c.in_err-source.ensures)

pub returns-in_err-value-clause-walks : goal.returns-in_err-value-clause-walks
unfolding species_fill need
returns-in_err-value-clause-walks c =
    goes_on _ _ _ (rw c.version.ensures at c.in_ok-source.ensures.answer)
    (exits _ _ c.from_residual-in_err-value.ensures.1 (rw c.key.ensures at c.in_err-value.ensures))

pub returns-in_err-read_points-in-Points-clause-walks : goal.returns-in_err-read_points-in-Points-clause-walks
unfolding species_fill need
returns-in_err-read_points-in-Points-clause-walks c =
    goes_on _ _ _ (rw c.version.ensures at c.in_ok-source.ensures.answer)
    (goes_on _ _ _ (rw c.key.ensures at c.in_ok-value.ensures.answer) (rw c.in-Points.is
    (exits _ _ c.from_residual-in_err-read_points-in-Points.ensures.1
    (rw (c.new-address.ensures.path, c.key-2.ensures, c.in-Points.is, c.cells.ensures) at c.in_err-read_points-in-Points.ensures.walks))))

pub returns-in_err-read_lattice-in-Lattice-clause-walks : goal.returns-in_err-read_lattice-in-Lattice-clause-walks
unfolding species_fill need
returns-in_err-read_lattice-in-Lattice-clause-walks c =
    goes_on _ _ _ (rw c.version.ensures at c.in_ok-source.ensures.answer)
    (goes_on _ _ _ (rw c.key.ensures at c.in_ok-value.ensures.answer) (rw c.in-Lattice.is
    (exits _ _ c.from_residual-in_err-read_lattice-in-Lattice.ensures.1
    (rw (c.new-address.ensures.path, c.key-2.ensures, c.in-Lattice.is) at c.in_err-read_lattice-in-Lattice.ensures.walks))))

pub returns-in_err-read_random-in-Random-clause-walks : goal.returns-in_err-read_random-in-Random-clause-walks
unfolding species_fill need
returns-in_err-read_random-in-Random-clause-walks c =
    goes_on _ _ _ (rw c.version.ensures at c.in_ok-source.ensures.answer)
    (goes_on _ _ _ (rw c.key.ensures at c.in_ok-value.ensures.answer) (rw c.in-Random.is
    (exits _ _ c.from_residual-in_err-read_random-in-Random.ensures.1
    (rw (c.new-address.ensures.path, c.key-2.ensures, c.in-Random.is) at c.in_err-read_random-in-Random.ensures.walks))))

pub returns-in_err-read_pair-in-Pair-clause-walks : goal.returns-in_err-read_pair-in-Pair-clause-walks
unfolding species_fill need
returns-in_err-read_pair-in-Pair-clause-walks c =
    goes_on _ _ _ (rw c.version.ensures at c.in_ok-source.ensures.answer)
    (goes_on _ _ _ (rw c.key.ensures at c.in_ok-value.ensures.answer) (rw c.in-Pair.is
    (exits _ _ c.from_residual-in_err-read_pair-in-Pair.ensures.1
    (rw (c.new-address.ensures.path, c.key-2.ensures, c.in-Pair.is) at c.in_err-read_pair-in-Pair.ensures.walks))))

pub returns-in_err-displaced-in-Displace-clause-walks : goal.returns-in_err-displaced-in-Displace-clause-walks
unfolding species_fill need
returns-in_err-displaced-in-Displace-clause-walks c =
    goes_on _ _ _ (rw c.version.ensures at c.in_ok-source.ensures.answer)
    (goes_on _ _ _ (rw c.key.ensures at c.in_ok-value.ensures.answer) (rw c.in-Displace.is
    (exits _ _ c.from_residual-in_err-displaced-in-Displace.ensures.1
    (rw (to_z-of_z w32 c.args.charge c.ranges.charge) at c.in_err-displaced-in-Displace.ensures.walks))))

pub returns-in_ok-read_points-in-Points-clause-walks : goal.returns-in_ok-read_points-in-Points-clause-walks
unfolding species_fill need
returns-in_ok-read_points-in-Points-clause-walks c =
    goes_on _ _ _ (rw c.version.ensures at c.in_ok-source.ensures.answer)
    (goes_on _ _ _ (rw c.key.ensures at c.in_ok-value.ensures.answer) (rw c.in-Points.is
    (goes_on _ _ _ (rw (c.new-address.ensures.path, c.key-2.ensures, c.in-Points.is, c.cells.ensures) at c.in_ok-read_points-in-Points.ensures.walks.answer)
    (record { answer = refl }))))

pub returns-in_ok-read_lattice-in-Lattice-clause-walks : goal.returns-in_ok-read_lattice-in-Lattice-clause-walks
unfolding species_fill need
returns-in_ok-read_lattice-in-Lattice-clause-walks c =
    goes_on _ _ _ (rw c.version.ensures at c.in_ok-source.ensures.answer)
    (goes_on _ _ _ (rw c.key.ensures at c.in_ok-value.ensures.answer) (rw c.in-Lattice.is
    (goes_on _ _ _ (rw (c.new-address.ensures.path, c.key-2.ensures, c.in-Lattice.is) at c.in_ok-read_lattice-in-Lattice.ensures.walks.answer)
    (record { answer = ap Ok (sym c.at_sites.ensures) }))))

pub returns-in_ok-read_random-in-Random-clause-walks : goal.returns-in_ok-read_random-in-Random-clause-walks
unfolding species_fill need
returns-in_ok-read_random-in-Random-clause-walks c =
    goes_on _ _ _ (rw c.version.ensures at c.in_ok-source.ensures.answer)
    (goes_on _ _ _ (rw c.key.ensures at c.in_ok-value.ensures.answer) (rw c.in-Random.is
    (goes_on _ _ _ (rw (c.new-address.ensures.path, c.key-2.ensures, c.in-Random.is) at c.in_ok-read_random-in-Random.ensures.walks.answer)
    (record { answer = ap Ok (sym c.at_random.ensures) }))))

pub returns-in_ok-read_pair-in-Pair-clause-walks : goal.returns-in_ok-read_pair-in-Pair-clause-walks
unfolding species_fill need
returns-in_ok-read_pair-in-Pair-clause-walks c =
    goes_on _ _ _ (rw c.version.ensures at c.in_ok-source.ensures.answer)
    (goes_on _ _ _ (rw c.key.ensures at c.in_ok-value.ensures.answer) (rw c.in-Pair.is
    (goes_on _ _ _ (rw (c.new-address.ensures.path, c.key-2.ensures, c.in-Pair.is) at c.in_ok-read_pair-in-Pair.ensures.walks.answer)
    (record { answer = ap Ok (sym c.in_pairs.ensures) }))))

pub returns-in_ok-displaced-in-Displace-clause-walks : goal.returns-in_ok-displaced-in-Displace-clause-walks
unfolding species_fill need
returns-in_ok-displaced-in-Displace-clause-walks c =
    goes_on _ _ _ (rw c.version.ensures at c.in_ok-source.ensures.answer)
    (goes_on _ _ _ (rw c.key.ensures at c.in_ok-value.ensures.answer) (rw c.in-Displace.is
    (goes_on _ _ _ (rw (to_z-of_z w32 c.args.charge c.ranges.charge) at c.in_ok-displaced-in-Displace.ensures.walks.answer)
    (record { answer = ap Ok (sym c.beside_others.ensures) }))))
