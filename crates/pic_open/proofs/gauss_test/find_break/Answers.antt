use Rattle.std.proofs.Common.{◌≡◌, ◌^◌, ℤ, pos, List, get_or, sym, ap, ◌∙◌, subst}
use Rattle.std.specs.Prelude.{All}
use Rattle.pic_num.specs.declared.axis.Axis.{Axis}
use Rattle.pic_num.specs.declared.motion.Kind.{Kind}
use Rattle.pic_num.specs.Sizes.{IsAtMost}
use Rattle.pic_num.specs.Space.{Triple}
use Rattle.pic_block.specs.Cells.{Grid, IsWithin, place_of}
use Rattle.pic_grid.specs.Differences.{div_e}
use Rattle.pic_grid.specs.Lattice.{value_at}
use Rattle.pic_grid.specs.Species.{IsKind}
use Rattle.pic_grid.specs.PushPhase.{CanShare}
use Rattle.pic_charge.specs.Charge.{rho_of}
use Rattle.pic_charge.specs.ChargeRoom.{RoomView}
use Rattle.pic_charge.specs.Gauss.{first_break}
use Rattle.pic_charge.proofs.ChargeLaws.{all_charged}
use Rattle.pic_deck.specs.Deck.{deck_grid}
use Rattle.pic_step.specs.declared.start.Start.{Start}
use Rattle.pic_step.specs.Kept.{AreCut}
use Rattle.pic_step.specs.SerialStep.{World, e_of}
use Rattle.pic_step.specs.SerialRun.{kinds_of}
use Rattle.pic_step.specs.Sound.{IsSafe, IsSound}
use Rattle.pic_step.specs.Start.{begun}
use Rattle.pic_open.specs.Starting.{state_break}
use Rattle.pic_step.proofs.StartLaws.{are_kinds}
use Rattle.pic_open.proofs.StartLaws.{shares_are, sound_start}
use Rattle.pic_open.proofs.gauss_test.find_break.Goals as goal

pub find_break-requires-clause-limits : goal.find_break-requires-clause-limits
find_break-requires-clause-limits c =
    let d = c.args.deck.now in
    let kinds = c.as_slice-kinds.ensures.value ∙ ap (λ (w : World). w.kinds) c.requires.start in
    all_charged c.as_slice-kinds.result.now (subst (λ (ks : List Kind). All IsKind ks) (sym kinds) (are_kinds d c.cells-cells.ensures.limits.heads).limits)

pub find_break-requires-clause-placed : goal.find_break-requires-clause-placed
find_break-requires-clause-placed c =
    let d = c.args.deck.now in
    let ps = c.args.start.now.particles.items in
    let kinds = c.as_slice-kinds.ensures.value ∙ ap (λ (w : World). w.kinds) c.requires.start in
    let cells : c.cells-cells.result ≡ deck_grid d = c.cells-cells.ensures.value in
    subst (λ (r : RoomView). All (CanShare r.grid.side r.grid.n c.as_slice-kinds.result.now) c.deref.result.now) (sym c.in_ok-room.ensures)
    (subst (λ ps. All (CanShare c.cells-cells.result.side c.cells-cells.result.n c.as_slice-kinds.result.now) ps) (sym c.deref.ensures.value)
    (subst (λ (ks : List Kind). All (CanShare c.cells-cells.result.side c.cells-cells.result.n ks) ps) (sym kinds)
    (subst (λ (g : Grid). All (CanShare g.side g.n (kinds_of d)) ps) (sym cells) (shares_are d ps c.requires.loaded))))

-- E of a start has the values of the state's
e_values : (start : Start) → AreCut start.setup.map start.e start.b → value_at start.e ≡ value_at (e_of (begun start))
e_values start cut = λ i a p. get_or start.e.values (place_of (cut.of_e.cells i) a p) (pos 0)

pub find_break-requires-clause-most : goal.find_break-requires-clause-most
find_break-requires-clause-most c =
    let cells : c.cells-cells.result ≡ deck_grid c.args.deck.now = c.cells-cells.ensures.value in
    let n = ap (λ (g : Grid). g.n) cells ∙ sym (ap (λ (w : World). w.cells) c.requires.start) in
    λ a p within. subst (λ (f : Axis → Triple → ℤ). IsAtMost (f a p) (2 ^ 90)) (sym (e_values c.args.start.now c.requires.cut))
    (let bounded = c.requires.safe.bounded a p
    (subst (IsWithin p) n (subst (λ (r : RoomView). IsWithin p r.grid.n) c.in_ok-room.ensures within)) in bounded.value)

pub returns-clause-value : goal.returns-clause-value
unfolding state_break
returns-clause-value c =
    let w = begun c.args.start.now in
    let kinds : c.as_slice-kinds.result.now ≡ w.kinds = c.as_slice-kinds.ensures.value in
    let particles : c.deref.result.now ≡ w.particles = c.deref.ensures.value in
    let g = c.cells-cells.result in
    let e = value_at c.args.start.now.e in
    let same : e ≡ value_at (e_of w) = e_values c.args.start.now c.requires.cut in
    let n : g.n ≡ w.cells = ap (λ (h : Grid). h.n) c.cells-cells.ensures.value ∙ sym (ap (λ (v : World). v.cells) c.requires.start) in
    let side : g.side ≡ w.side = ap (λ (h : Grid). h.side) c.cells-cells.ensures.value ∙ sym (ap (λ (v : World). v.side) c.requires.start) in
    c.find_break.ensures.value
    ∙ ap (λ (r : RoomView). first_break r.grid.n (div_e r.grid.n e) (rho_of r.grid.side r.filter r.grid.n c.as_slice-kinds.result.now c.deref.result.now))
    c.in_ok-room.ensures
    ∙ (λ i. first_break (n i) (div_e (n i) (same i)) (rho_of (side i) w.filter (n i) (kinds i) (particles i)))

pub returns-clause-sound : goal.returns-clause-sound
returns-clause-sound c none =
    let d = c.args.deck.now in
    let is = c.requires.start in
    let whole = sym (ap state_break is) ∙ sym (returns-clause-value c) ∙ none in
    let safe = subst (λ (w : World). IsSafe d.scales.e_force (e_of w)) is c.requires.safe in
    subst IsSound (sym is) (sound_start d c.args.start.now.particles.items c.cells-cells.ensures.limits c.requires.loaded safe whole)
