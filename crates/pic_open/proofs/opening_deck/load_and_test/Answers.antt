use Rattle.std.proofs.Common.{length, Err, sym, ap, refl, subst, ◌∙◌}
use Rattle.std.proofs.lemmas.Result.{err_from_is_err_and}
use Rattle.pic_devices.specs.Probes.{AreProbes}
use Rattle.pic_load.specs.Loading.{loaded, AreLoaded}
use Rattle.pic_step.specs.SerialStep.{World}
use Rattle.pic_step.specs.Start.{begun}
use Rattle.pic_open.specs.Starting.{displaced_start}
use Rattle.pic_open.proofs.OpenedLaws.{ready, broken, not_loaded, probes_fit}
use Rattle.pic_open.proofs.opening_deck.load_and_test.Goals as goal

pub returns-in_err-start : goal.returns-in_err-start
returns-in_err-start c =
    let exit = err_from_is_err_and c.from_residual.result c.from_residual.ensures.1 in
    rw (exit.1 ∙ ap Err exit.2) (not_loaded c.args.deck c.in_err-start.field-0.0 c.in_err-start.ensures)

pub find_break-requires-clause-start : goal.find_break-requires-clause-start
find_break-requires-clause-start c =
    let own = ap (λ (w : World). w.particles) c.in_ok-start.ensures.start in
    c.in_ok-start.ensures.start ∙ ap (displaced_start c.args.deck) (sym own)

pub returns-in_err-find_break : goal.returns-in_err-find_break
returns-in_err-find_break c =
    let exit = err_from_is_err_and c.from_residual-in_err-find_break.result c.from_residual-in_err-find_break.ensures.1 in
    rw (exit.1 ∙ ap Err exit.2) tt

pub returns-in-None : goal.returns-in-None
returns-in-None c =
    let d = c.args.deck in
    let is = c.in_ok-start.ensures in
    let are = subst (AreLoaded d) (ap (λ (w : World). w.particles) is.start) is.particles in
    let found = rw c.in-None.is at c.in_ok-find_break.ensures in
    ready (record { deck = d; start = c.in_ok-start.start }) is.fit is.start is.tiles (found.sound refl) is.cut
    (subst (λ (w : World). AreProbes w.cells (length w.particles) d.probes) (sym is.start) (probes_fit d (loaded d) c.version-limits.ensures.limits are))
    (sym found.value)

pub returns-in-Some : goal.returns-in-Some
returns-in-Some c =
    let is = c.in_ok-start.ensures in
    let found = rw c.in-Some.is at c.in_ok-find_break.ensures in
    broken c.args.deck (begun c.in_ok-start.start) c.in-Some.at is.fit is.start (sym found.value)
