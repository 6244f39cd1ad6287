use Rattle.std.proofs.Common.{◌<◌, Ok, ap, sym, arith}
use Rattle.std.proofs.lemmas.List.Elements.{All-nil}
use Rattle.pic_walk.specs.Walk.{optional}
use Rattle.pic_walk.proofs.TableLaws.{key_at-top}
use Rattle.pic_walk.proofs.WalkLaws.{given_some, given_none}
use Rattle.pic_devices.specs.Probes.{IsPlace}
use Rattle.pic_devices.proofs.probe_reader.optional_probes.Goals as goal

pub returns-in-Some-clause-walks : goal.returns-in-Some-clause-walks
unfolding optional
returns-in-Some-clause-walks c = given_some _ _ _ _ _ (sym c.in-Some.ensures) (rw key_at-top c.read_probes.ensures.walks)

pub returns-in-None-clause-walks : goal.returns-in-None-clause-walks
unfolding optional
returns-in-None-clause-walks c = given_none _ _ _ _ (sym c.in-None.ensures) (record { answer = ap Ok (sym c.none.ensures) })

pub returns-in-None-clause-limits : goal.returns-in-None-clause-limits
returns-in-None-clause-limits c =
    rw c.none.ensures (record {
      few_places = omega arith;
      places = All-nil (IsPlace c.args.cells.n);
      few_ids = omega arith;
      ids = All-nil (λ i. i < c.args.particles);
    })
