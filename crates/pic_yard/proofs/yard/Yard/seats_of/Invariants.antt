use Rattle.pic_yard.proofs.Turns.{AreMade}
use Rattle.pic_yard.proofs.yard.Yard.seats_of.Given as goal

abbrev pub invariant-loop : goal.invariant-loop
invariant-loop l = AreMade l.self l.seats l.counter l.row.items
