use Rattle.std.proofs.Common.{◌≡◌, ◌<◌, List, length, All, sym, ap, ◌∙◌, subst}
use Rattle.std.proofs.lemmas.List.{with_items_is}
use Rattle.pic_tile.specs.InOrder.{written}
use Rattle.pic_tile.specs.Totals.{together}
use Rattle.pic_tile.proofs.InOrderLaws.{length-written}
use Rattle.pic_tile.specs.CoreState.{all_particles}
use Rattle.pic_tile.specs.Held.{chains_of}
use Rattle.pic_tile.specs.Tile.{TileValue}
use Rattle.pic_tile.specs.Tiling.{IsMap}
use Rattle.pic_step.specs.Sound.{IsSound}
use Rattle.pic_step.specs.StateView.{StateView}
use Rattle.pic_step.proofs.KeptLaws.{can_write, written_is}
use Rattle.pic_step.proofs.state.State.fill.Goals as goal
use Rattle.pic_step.proofs.state.State.fill.Goals.{After-deref_mut, After-tiles-tiles}

-- the map of the state's tiles
of_map : (c : After-tiles-tiles) → IsMap c.self.inside.plasma.frame.map
of_map c = subst IsMap c.map-map.ensures.value c.tiles-tiles.ensures.limits

-- the list has as many particles
as_many : (c : After-deref_mut) → length c.deref_mut.result.now ≡ length (all_particles c.self.inside.plasma.tiles.items)
as_many c = ap length c.deref_mut.ensures.value ∙ c.requires.count ∙ ap (λ (v : StateView). length v.world.particles) (sym c.self.view_is)

pub write_tiles-requires : goal.write_tiles-requires
write_tiles-requires c =
    let k = c.self.inside in
    let at = goal.at.write_tiles-requires c in
    let n = length c.deref_mut.result.now in
    subst (λ (ts : List TileValue). All (λ x. x.id < n) (together (chains_of ts))) (sym c.deref.ensures.value)
    (can_write k.step k.loops k.scales k.e k.b k.plasma (of_map at.After-tiles-tiles) c.self.invariant n (as_many at.After-deref_mut))

pub returns-clause-particles : goal.returns-clause-particles
returns-clause-particles c =
    let k = c.self.inside in
    let at = goal.at.returns-clause-particles c in
    let old = c.deref_mut.result.now in
    let new = c.write_tiles.new.to in
    let long : length new ≡ length old = ap length c.write_tiles.ensures ∙ length-written (together (chains_of c.deref.result.now)) old in
    with_items_is c.args.to.now.particles new (long ∙ c.deref_mut.ensures.len)
    ∙ c.write_tiles.ensures
    ∙ ap (λ (ts : List TileValue). written (together (chains_of ts)) old) c.deref.ensures.value
    ∙ written_is k.step k.loops k.scales k.e k.b k.plasma (of_map at.After-tiles-tiles) c.self.invariant old (as_many at.After-deref_mut)
    ∙ ap (λ (v : StateView). v.world.particles) c.self.view_is

-- the fields of the state have its cells
cells_are : (c : After-tiles-tiles) → (c.self.inside.e.cells ≡ c.args.self.now.world.cells) × (c.self.inside.b.cells ≡ c.args.self.now.world.cells)
cells_are c =
    let cut = c.self.invariant.cut in
    let world = ap (λ (v : StateView). v.world.cells) c.self.view_is in
    (cut.of_e.cells ∙ world, cut.of_b.cells ∙ world)

pub copy_from-requires : goal.copy_from-requires
copy_from-requires c = c.requires.e_cells ∙ sym (cells_are (goal.at.copy_from-requires c).After-tiles-tiles).0

pub copy_from-requires-2 : goal.copy_from-requires-2
copy_from-requires-2 c = c.requires.b_cells ∙ sym (cells_are (goal.at.copy_from-requires-2 c).After-tiles-tiles).1

pub returns-clause-sound : goal.returns-clause-sound
returns-clause-sound c = subst (λ (v : StateView). IsSound v.world) c.self.view_is c.self.invariant.sound

pub returns-clause-e : goal.returns-clause-e
returns-clause-e c =
    let to = c.args.to.now.e in
    let cells = (cells_are (goal.at.returns-clause-e c).After-tiles-tiles).0 ∙ sym c.requires.e_cells in
    c.copy_from.ensures ∙ (λ i. record { cells = cells i; side = to.side; parts = to.parts; values = (c.self.view_is i).world.e })

pub returns-clause-b : goal.returns-clause-b
returns-clause-b c =
    let to = c.args.to.now.b in
    let cells = (cells_are (goal.at.returns-clause-b c).After-tiles-tiles).1 ∙ sym c.requires.b_cells in
    c.copy_from-2.ensures ∙ (λ i. record { cells = cells i; side = to.side; parts = to.parts; values = (c.self.view_is i).world.b })
