use Rattle.std.proofs.Common.{◌≡◌, List, Ok, Err, refl, sym, ap, subst, ◌∙◌}
use Rattle.std.proofs.lemmas.Result.{err_from_is_err_and}
use Rattle.pic_num.specs.declared.motion.Particle.{Particle}
use Rattle.pic_grid.specs.Lattice.{Field}
use Rattle.pic_deck.specs.Deck.{DeckView, IsWithinLimits}
use Rattle.pic_load.specs.Loading.{loaded, AreLoaded}
use Rattle.pic_displace.specs.Displace.{displaced_allowed, BecomesDisplaced}
use Rattle.pic_step.specs.SerialRun.{start_of}
use Rattle.pic_step.specs.SerialStep.{World, e_of}
use Rattle.pic_step.specs.Sound.{IsSafe}
use Rattle.pic_open.specs.Starting.{displaced_start}
use Rattle.pic_open.proofs.DisplacedLaws.{displaced_safe, begun_initial, begun_displaced, cut_displaced}
use Rattle.pic_open.proofs.OpenedLaws.{not_displaced}
use Rattle.pic_open.proofs.opening_deck.load_displaced.Goals as goal

pub returns-in_err-particles : goal.returns-in_err-particles
returns-in_err-particles c =
    let exit = err_from_is_err_and c.from_residual.result c.from_residual.ensures.1 in
    rw (exit.1 ∙ ap Err exit.2) tt

pub returns-in_err-start : goal.returns-in_err-start
returns-in_err-start c =
    let exit = err_from_is_err_and c.from_residual-in_err-start.result c.from_residual-in_err-start.ensures.1 in
    rw (exit.1 ∙ ap Err exit.2) tt

pub displace-requires-clause-loaded : goal.displace-requires-clause-loaded
displace-requires-clause-loaded c =
    c.deref.ensures.value ∙ ap (λ (w : World). w.particles) c.in_ok-start.ensures.start ∙ c.in_ok-particles.ensures.value

pub displace-requires-clause-limits : goal.displace-requires-clause-limits
displace-requires-clause-limits c =
    let same = c.deref.ensures.value ∙ ap (λ (w : World). w.particles) c.in_ok-start.ensures.start in
    subst (AreLoaded c.args.deck.now) (sym same) c.in_ok-particles.ensures.limits

pub displace-requires-clause-e : goal.displace-requires-clause-e
displace-requires-clause-e c =
    begun_initial c.in_ok-start.start c.args.deck.now c.in_ok-particles.particles.items c.in_ok-start.ensures.cut c.in_ok-start.ensures.start

pub returns-in_err-displace : goal.returns-in_err-displace
returns-in_err-displace c =
    let same = c.deref.ensures.value ∙ ap (λ (w : World). w.particles) c.in_ok-start.ensures.start ∙ c.in_ok-particles.ensures.value in
    let exit = err_from_is_err_and c.from_residual-in_err-displace.result c.from_residual-in_err-displace.ensures.1 in
    rw (exit.1 ∙ ap Err exit.2)
    (not_displaced c.in_err-displace.field-0.0 c.args.deck.now c.deref.result.now c.in_ok-start.start.e c.displace.new.e
    same c.in_err-displace.ensures.displaces)

-- what displacing its species made of the start, of the particles that the deck loads
becomes : (d : DeckView) (particles : List Particle) (old new : Field) → particles ≡ loaded d → BecomesDisplaced d particles old new
    → BecomesDisplaced d (loaded d) old new
becomes d particles old new same = subst (λ (ps : List Particle). BecomesDisplaced d ps old new) same

allowed : (d : DeckView) (particles : List Particle) → particles ≡ loaded d → displaced_allowed d particles ≡ Ok tt → displaced_allowed d (loaded d) ≡ Ok tt
allowed d particles same = subst (λ (ps : List Particle). displaced_allowed d ps ≡ Ok tt) same

-- the start's E is safe
safe : (d : DeckView) (w : World) → IsWithinLimits d → AreLoaded d (loaded d) → displaced_allowed d (loaded d) ≡ Ok tt → w ≡ displaced_start d (loaded d)
    → IsSafe d.scales.e_force (e_of w)
safe d w limits are fit is = subst (λ (v : World). IsSafe d.scales.e_force (e_of v)) (sym is) (displaced_safe d limits are fit)

pub returns : goal.returns
returns c =
    let same = c.deref.ensures.value ∙ ap (λ (w : World). w.particles) c.in_ok-start.ensures.start ∙ c.in_ok-particles.ensures.value in
    let d = c.args.deck.now in
    let are = subst (AreLoaded d) c.in_ok-particles.ensures.value c.in_ok-particles.ensures.limits in
    let whole = c.in_ok-start.ensures.start ∙ ap (start_of d) c.in_ok-particles.ensures.value in
    let fit = allowed d c.deref.result.now same c.in_ok-displace.ensures.displaces.1 in
    let start =
    begun_displaced c.in_ok-start.start d (loaded d) c.displace.new.e whole
    (becomes d c.deref.result.now c.in_ok-start.start.e c.displace.new.e same c.in_ok-displace.ensures.displaces.0) in
    record {
      fit = fit;
      start = start;
      tiles = rw c.in_ok-start.ensures.map refl;
      cut = cut_displaced c.in_ok-start.start d c.deref.result.now c.displace.new.e c.in_ok-start.ensures.cut
          (c.in_ok-start.ensures.start ∙ ap (start_of d) (sym (c.deref.ensures.value ∙ ap (λ (w : World). w.particles) c.in_ok-start.ensures.start)))
          c.in_ok-displace.ensures.displaces.0;
      particles = subst (AreLoaded d) (sym (ap (λ (w : World). w.particles) c.in_ok-start.ensures.start)) c.in_ok-particles.ensures.limits;
      safe = safe d _ c.version-limits.ensures.limits are fit start;
    }
