use Rattle.std.proofs.Common.{refl, arith}
use Rattle.std.proofs.lemmas.Int.{ints}
use Rattle.pic_settings.specs.Keys.{settings}
use Rattle.pic_walk.proofs.WalkLaws.{goes_on, exits}
use Rattle.pic_settings.proofs.settings.read_settings.Goals as goal

pub returns-in_err-version-clause-walks : goal.returns-in_err-version-clause-walks
unfolding settings
returns-in_err-version-clause-walks c =
    exits _ _ c.from_residual.ensures.1 (rw c.from_to-versions.ensures at c.in_err-version.ensures.walks)

pub returns-in_err-cells-clause-walks : goal.returns-in_err-cells-clause-walks
unfolding settings
returns-in_err-cells-clause-walks c =
    goes_on _ _ _ (rw c.from_to-versions.ensures at c.in_ok-version.ensures.walks.answer)
    (exits _ _ c.from_residual-in_err-cells.ensures.1 c.in_err-cells.ensures.walks)

pub returns-in_err-course-clause-walks : goal.returns-in_err-course-clause-walks
unfolding settings
returns-in_err-course-clause-walks c =
    goes_on _ _ _ (rw c.from_to-versions.ensures at c.in_ok-version.ensures.walks.answer)
    (goes_on _ _ _ c.in_ok-cells.ensures.walks.answer (exits _ _ c.from_residual-in_err-course.ensures.1 c.in_err-course.ensures.walks))

pub returns-in_err-scales-clause-walks : goal.returns-in_err-scales-clause-walks
unfolding settings
returns-in_err-scales-clause-walks c =
    goes_on _ _ _ (rw c.from_to-versions.ensures at c.in_ok-version.ensures.walks.answer)
    (goes_on _ _ _ c.in_ok-cells.ensures.walks.answer (goes_on _ _ _ c.in_ok-course.ensures.walks.answer
    (exits _ _ c.from_residual-in_err-scales.ensures.1 c.in_err-scales.ensures)))

pub returns-clause-walks : goal.returns-clause-walks
unfolding settings
returns-clause-walks c =
    goes_on _ _ _ (rw c.from_to-versions.ensures at c.in_ok-version.ensures.walks.answer)
    (goes_on _ _ _ c.in_ok-cells.ensures.walks.answer (goes_on _ _ _ c.in_ok-course.ensures.walks.answer
    (goes_on _ _ _ c.in_ok-scales.ensures.answer (record { answer = refl }))))

pub returns-clause-limits : goal.returns-clause-limits
returns-clause-limits c =
    let inside = rw c.from_to-versions.ensures at c.in_ok-version.ensures.bounds in
    record {
      version = record { least = omega (arith, ints, inside.low); most = omega (arith, ints, inside.high) };
      cells = c.in_ok-cells.ensures.cells;
      allowed = c.in_ok-cells.ensures.allowed;
      tiles = c.in_ok-cells.ensures.tiled;
      steps = c.in_ok-course.ensures.steps;
      every_low = c.in_ok-course.ensures.every_low;
      every_high = c.in_ok-course.ensures.every_high;
      filter = c.in_ok-course.ensures.filter;
    }
