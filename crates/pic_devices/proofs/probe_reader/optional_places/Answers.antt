use Rattle.std.proofs.Common.{Ok, ap, sym, ◌∙◌}
use Rattle.pic_walk.specs.Walk.{optional}
use Rattle.pic_walk.proofs.WalkLaws.{given_some, given_none}
use Rattle.pic_devices.proofs.probe_reader.optional_places.Goals as goal

pub returns-in-Some-clause-walks : goal.returns-in-Some-clause-walks
unfolding optional
returns-in-Some-clause-walks c =
    given_some _ _ _ _ _ (sym c.in-Some.ensures) (rw c.new.ensures.path at c.read_places.ensures.walks)

pub returns-in-None-clause-walks : goal.returns-in-None-clause-walks
unfolding optional
returns-in-None-clause-walks c =
    given_none _ _ _ _ (sym c.in-None.ensures) (record { answer = ap Ok (sym (c.from_vec.ensures ∙ c.new-in-None.ensures.items)) })
