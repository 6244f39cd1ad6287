use Rattle.std.proofs.Common.{◌≡◌, drop}
use Rattle.toml.specs.View.{table_view}
use Rattle.pic_walk.specs.FillKind.{only}
use Rattle.pic_walk.proofs.fill_kind.find_fill_kind.Given as goal

abbrev pub invariant-loop-i : goal.invariant-loop-i
invariant-loop-i l = only l.path (table_view l.table) l.all ≡ only l.path (table_view l.table) (drop l.i l.all)
