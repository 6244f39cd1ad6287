use Rattle.pic_deck.specs.Keys.{one_species}
use Rattle.pic_walk.proofs.WalkLaws.{goes_on, exits}
use Rattle.pic_deck.proofs.species_reader.read_species.Goals as goal

pub returns-in_err-table-clause-walks : goal.returns-in_err-table-clause-walks
unfolding one_species
returns-in_err-table-clause-walks c =
    exits _ _ c.from_residual-in_err-table.ensures.1
    (rw (c.as_str.ensures, c.in_ok-path.ensures, c.species_keys-keys.ensures, c.version.ensures) at c.in_err-table.ensures)

pub returns-clause-walks : goal.returns-clause-walks
unfolding one_species
returns-clause-walks c =
    goes_on _ _ _ (rw (c.as_str.ensures, c.in_ok-path.ensures, c.species_keys-keys.ensures, c.version.ensures) at c.in_ok-table.ensures.answer)
    (rw (c.as_str-2.ensures, c.in_ok-path.ensures) at c.species_in.ensures.walks)
