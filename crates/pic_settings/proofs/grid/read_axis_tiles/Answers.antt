use Rattle.std.proofs.Common.{sym, rules}
use Rattle.std.proofs.lemmas.Int.{to_z-of_z}
use mir.Syntax.{w64}
use mir.Val.{SFits}
use Rattle.pic_walk.specs.Walk.{number}
use Rattle.pic_walk.proofs.WalkLaws.{goes_on, refuses, there, lacks, then_err}
use Rattle.pic_settings.specs.Keys.{axis_tiles}
use Rattle.pic_settings.proofs.grid.read_axis_tiles.Goals as goal

pub returns-in-Some-clause-walks : goal.returns-in-Some-clause-walks
unfolding axis_tiles number
returns-in-Some-clause-walks c =
    let fits : SFits w64 c.in-Some.tiles = search rules in
    goes_on _ _ _ (there _ _ _ (sym c.in-Some.ensures)) (rw (to_z-of_z w64 _ fits) at c.check_axis_tiles.ensures.walks)

pub returns-in-None-clause-walks : goal.returns-in-None-clause-walks
unfolding axis_tiles number
returns-in-None-clause-walks c = refuses _ _ _ c.kind_fault.ensures (then_err _ _ _ (lacks _ _ (sym c.in-None.ensures)))
