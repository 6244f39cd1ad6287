use Rattle.std.proofs.Common.{◌≡◌, ℕ, ◌<◌, List, length, IsSome, refl, sym, ap, ◌∙◌, subst, arith}
use Rattle.std.specs.Option.{IfSome}
use Rattle.std.specs.Vec.{with_items}
use Rattle.std.proofs.lemmas.List.{with_items_is}
use Rattle.std.proofs.Math.IntN.{pos}
use Rattle.pic_num.specs.declared.axis.Axis.{Axis}
use Rattle.pic_num.specs.Space.{Triple}
use Rattle.pic_block.specs.Block.{BlockValues}
use Rattle.pic_block.specs.Cells.{IsWithin, count_of}
use Rattle.pic_grid.specs.declared.stop.Phase.TheVariants.{Electric}
use Rattle.pic_grid.specs.Lattice.{Field, IsParts, EachAtMost, value_at, field_of}
use Rattle.pic_grid.specs.Parts.{joined}
use Rattle.pic_filter.specs.Smoothing.{filtered, filter_in, most_to_smooth}
use Rattle.pic_filter.proofs.FilteredLaws.{filtered_same}
use Rattle.pic_filter.proofs.SameLaws.{AreSame}
use Rattle.pic_field.specs.FieldPhases.{full_of, no_drive}
use Rattle.pic_tile.specs.CoreState.{all_particles}
use Rattle.pic_tile.specs.Directions.{here}
use Rattle.pic_tile.specs.Tile.{TileValue, parcel_at, tile_in}
use Rattle.pic_tile.specs.Tiling.{Tiling, IsMap, cells_of, grid_of_tiling}
use Rattle.pic_advance.specs.Current.{LiesOn}
use Rattle.pic_advance.proofs.TakenLaws.{HasBlocks, has_blocks, given_back}
use Rattle.pic_step.specs.TileFlux.{AreSwapped, AreSpent, flux_in}
use Rattle.pic_advance.proofs.SamePhaseLaws.{advances_same}
use Rattle.pic_step.proofs.PlasmaLaws.{parts_of_map, particles_kept, ready_again}
use Rattle.pic_step.proofs.SwapLaws.{flux_zones, flux_is, flux_small, still_there, swapped_back}
use Rattle.pic_step.proofs.plasma.Plasma.advance_e.Given.{Over}
use Rattle.pic_step.proofs.plasma.Plasma.advance_e.Goals as goal
use Rattle.pic_step.proofs.plasma.Plasma.advance_e.Goals.{After-swap_each_flux, After-of_blocks-flux}
use Rattle.pic_step.proofs.plasma.Plasma.advance_e.Goals.{After-drive_e-e, After-into_blocks-spare, After-swap_each_flux-2}

-- the flux moves out of the tiles
out : (g : Over) (c : After-swap_each_flux g)
    → AreSwapped c.args.self.tiles.items c.swap_each_flux.new.tiles c.args.self.spare.items c.swap_each_flux.new.blocks
out g c =
    let new = c.swap_each_flux.new in
    subst (λ (bs : List BlockValues). AreSwapped c.args.self.tiles.items new.tiles bs new.blocks) c.deref_mut-2.ensures.value
    (subst (λ (ts : List TileValue). AreSwapped ts new.tiles c.deref_mut-2.result.now new.blocks) c.deref_mut.ensures.value c.swap_each_flux.ensures)

map_is : (g : Over) (c : After-swap_each_flux g) → IsMap c.args.self.frame.map
map_is g c = subst IsMap c.map-map.ensures.value c.tiles-parts.ensures.limits

-- and is the lattice of the current
current_is : (g : Over) (c : After-of_blocks-flux g) → length c.swap_each_flux.new.blocks ≡ length c.args.self.spare.items
    → c.of_blocks-flux.result ≡ joined (grid_of_tiling c.args.self.frame.map) c.args.self.frame.map.tiles c.swap_each_flux.new.blocks
current_is g c beside =
    let p = c.args.self in
    let map = c.map-map.ensures.value in
    let cells = c.cells-cells.ensures ∙ ap grid_of_tiling map in
    let parts = c.tiles-parts.ensures.value ∙ ap (λ (m : Tiling). m.tiles) map in
    let items = given_back p.spare.len c.swap_each_flux.new.blocks p.spare.items p.spare.ok.0 beside in
    c.of_blocks-flux.ensures ∙ (λ i. joined (cells i) (parts i) (items i))

pub swap_each_flux-requires-clause-long : goal.swap_each_flux-requires-clause-long
swap_each_flux-requires-clause-long g c =
    let flux = c.requires.flux in
    ap (λ (bs : List BlockValues). length bs) c.deref_mut-2.ensures.value ∙ flux.spare ∙ sym flux.received.numbered.count
    ∙ sym (ap (λ (ts : List TileValue). length ts) c.deref_mut.ensures.value)

pub swap_each_flux-requires-clause-there : goal.swap_each_flux-requires-clause-there
swap_each_flux-requires-clause-there g c =
    let had = c.requires.flux.received in
    subst (λ (ts : List TileValue). (i : ℕ) → i < length ts → IsSome (parcel_at (tile_in ts i) here)) (sym c.deref_mut.ensures.value) (λ i below.
    let count = had.numbered.count in
    (had.ready i (omega (arith, below, count))).whole here (omega arith))

pub of_blocks-flux-requires-clause-parts : goal.of_blocks-flux-requires-clause-parts
of_blocks-flux-requires-clause-parts g c = rw (c.cells-cells.ensures, c.tiles-parts.ensures.value) (parts_of_map _ c.tiles-parts.ensures.limits)

pub of_blocks-flux-requires-clause-zones : goal.of_blocks-flux-requires-clause-zones
of_blocks-flux-requires-clause-zones g c =
    let p = c.args.self in
    let at = (goal.at.of_blocks-flux-requires-clause-zones g c).After-swap_each_flux in
    let js = c.swap_each_flux.new.blocks in
    let items = given_back p.spare.len js p.spare.items p.spare.ok.0 (out g at).beside in
    rw (items, c.cells-cells.ensures, c.tiles-parts.ensures.value, c.map-map.ensures.value)
    (flux_zones p.frame.map p.tiles.items c.swap_each_flux.new.tiles p.spare.items js (map_is g at) c.requires.flux.received (out g at) c.requires.flux.spare)

pub drive_e-e-requires-clause-cells : goal.drive_e-e-requires-clause-cells
drive_e-e-requires-clause-cells g c κs within = c.requires.e_cells ∙ sym c.requires.b_cells

pub drive_e-e-requires-clause-b_small : goal.drive_e-e-requires-clause-b_small
drive_e-e-requires-clause-b_small g c κs within = c.requires.b_small

pub drive_e-e-requires-clause-e_small : goal.drive_e-e-requires-clause-e_small
drive_e-e-requires-clause-e_small g c κs within = c.requires.e_small

pub drive_e-e-requires-clause-flux : goal.drive_e-e-requires-clause-flux
drive_e-e-requires-clause-flux g c κs within =
    let at = goal.at.drive_e-e-requires-clause-flux g c in
    ap (λ (f : Field). f.cells) (current_is g at.After-of_blocks-flux (out g at.After-swap_each_flux).beside) ∙ sym c.requires.b_cells

pub drive_e-e-requires-clause-smooth : goal.drive_e-e-requires-clause-smooth
drive_e-e-requires-clause-smooth g c κs within =
    let at = goal.at.drive_e-e-requires-clause-smooth g c in
    let is = current_is g at.After-of_blocks-flux (out g at.After-swap_each_flux).beside in
    subst (λ (t : Triple). IfSome c.args.self.smooth (LiesOn c.args.b.now.cells t)) (sym (ap (λ (f : Field). f.parts) is))
    (subst (λ (n : Triple). IfSome c.args.self.smooth (LiesOn n c.args.self.frame.map.tiles)) (sym c.requires.b_cells) c.requires.flux.smooth)

pub drive_e-e-requires-clause-flux_small : goal.drive_e-e-requires-clause-flux_small
drive_e-e-requires-clause-flux_small g c κs within =
    let p = c.args.self in
    let at = goal.at.drive_e-e-requires-clause-flux_small g c in
    let one = out g at.After-swap_each_flux in
    let small = flux_small p.frame.map p.tiles.items c.swap_each_flux.new.tiles p.spare.items c.swap_each_flux.new.blocks (map_is g at.After-swap_each_flux)
    c.requires.flux.received one c.requires.flux.spare c.args.self.frame.map.side in
    subst (EachAtMost most_to_smooth) (sym (current_is g at.After-of_blocks-flux one.beside)) (record {
      at_most = λ a q inside. let h = small.at_most a q inside in record { size = omega (arith, h.size) };
    })

-- the tiles are those of the list
tiles_out : (g : Over) (c : After-swap_each_flux g) → (with_items c.args.self.tiles c.swap_each_flux.new.tiles).items ≡ c.swap_each_flux.new.tiles
tiles_out g c = with_items_is c.args.self.tiles c.swap_each_flux.new.tiles ((out g c).long ∙ sym c.args.self.tiles.ok.0)

-- the blocks that come back are zeros over the tiles,
abbrev blank : Tiling → Field
blank m = field_of m.side (cells_of m) m.tiles (λ a p. pos 0)

blank_is : (g : Over) (c : After-drive_e-e g)
    → c.of_blocks-flux.result ≡ joined (grid_of_tiling c.args.self.frame.map) c.args.self.frame.map.tiles c.swap_each_flux.new.blocks
    → c.drive_e-e.result.1.flux ≡ blank c.args.self.frame.map
blank_is g c is =
    c.drive_e-e.ensures.cleared
    ∙ (λ i. field_of (ap (λ (f : Field). f.side) is i) (ap (λ (f : Field). f.cells) is i) (ap (λ (f : Field). f.parts) is i) (λ a p. pos 0))

has_back : (g : Over) (c : After-into_blocks-spare g) → IsMap c.args.self.frame.map → c.drive_e-e.result.1.flux ≡ blank c.args.self.frame.map
    → HasBlocks (cells_of c.args.self.frame.map) c.drive_e-e.result.1.flux c.into_blocks-spare.result.items
has_back g c map is =
    let m = c.args.self.frame.map in
    let flux = c.drive_e-e.result.1.flux in
    has_blocks (cells_of m) flux c.into_blocks-spare.result.items (ap (λ (f : Field). f.cells) is) map.cells
    (subst (λ (f : Field). IsParts f.cells f.parts) (sym is) (parts_of_map m map))
    c.into_blocks-spare.ensures.zones c.into_blocks-spare.ensures.values

back_count : (g : Over) (c : After-into_blocks-spare g) → c.drive_e-e.result.1.flux ≡ blank c.args.self.frame.map
    → HasBlocks (cells_of c.args.self.frame.map) c.drive_e-e.result.1.flux c.into_blocks-spare.result.items
    → length c.into_blocks-spare.result.items ≡ count_of c.args.self.frame.map.tiles
back_count g c is h = h.zones.count ∙ ap (λ (f : Field). count_of f.parts) is

pub swap_each_flux-requires-2-clause-long : goal.swap_each_flux-requires-2-clause-long
swap_each_flux-requires-2-clause-long g c =
    let at = goal.at.swap_each_flux-requires-2-clause-long g c in
    let one = out g at.After-swap_each_flux in
    let is = blank_is g at.After-drive_e-e (current_is g at.After-of_blocks-flux one.beside) in
    let h = has_back g at.After-into_blocks-spare (map_is g at.After-swap_each_flux) is in
    ap (λ (bs : List BlockValues). length bs) c.deref_mut-4.ensures.value ∙ back_count g at.After-into_blocks-spare is h
    ∙ sym c.requires.flux.received.numbered.count ∙ sym one.long
    ∙ sym (ap (λ (ts : List TileValue). length ts) (c.deref_mut-3.ensures.value ∙ tiles_out g at.After-swap_each_flux))

pub swap_each_flux-requires-2-clause-there : goal.swap_each_flux-requires-2-clause-there
swap_each_flux-requires-2-clause-there g c =
    let at = (goal.at.swap_each_flux-requires-2-clause-there g c).After-swap_each_flux in
    let had = c.requires.flux.received in
    let one = out g at in
    subst (λ (ts : List TileValue). (i : ℕ) → i < length ts → IsSome (parcel_at (tile_in ts i) here))
    (sym (c.deref_mut-3.ensures.value ∙ tiles_out g at)) (λ i below.
    let count = had.numbered.count in
    let long = one.long in
    still_there _ _ _ _ ((had.ready i (omega (arith, below, count, long))).whole here (omega arith)) (one.each i (omega (arith, below, long))))

-- they move back into the tiles,
back : (g : Over) (c : After-swap_each_flux-2 g)
    → (with_items c.args.self.tiles c.swap_each_flux.new.tiles).items ≡ c.swap_each_flux.new.tiles
    → AreSwapped c.swap_each_flux.new.tiles c.swap_each_flux-2.new.tiles c.into_blocks-spare.result.items c.swap_each_flux-2.new.blocks
back g c items =
    let new = c.swap_each_flux-2.new in
    subst (λ (bs : List BlockValues). AreSwapped c.swap_each_flux.new.tiles new.tiles bs new.blocks) c.deref_mut-4.ensures.value
    (subst (λ (ts : List TileValue). AreSwapped ts new.tiles c.deref_mut-4.result.now new.blocks)
    (c.deref_mut-3.ensures.value ∙ items) c.swap_each_flux-2.ensures)

tiles_back : (g : Over) (c : After-swap_each_flux-2 g) → length c.swap_each_flux-2.new.tiles ≡ length c.args.self.tiles.items
    → (with_items (with_items c.args.self.tiles c.swap_each_flux.new.tiles) c.swap_each_flux-2.new.tiles).items ≡ c.swap_each_flux-2.new.tiles
tiles_back g c long =
    let p = c.args.self in
    with_items_is (with_items p.tiles c.swap_each_flux.new.tiles) c.swap_each_flux-2.new.tiles (long ∙ sym p.tiles.ok.0)

pub returns-clause-particles : goal.returns-clause-particles
returns-clause-particles g c =
    let p = c.args.self in
    let at = goal.at.returns-clause-particles g c in
    let one = out g at.After-swap_each_flux in
    let map = map_is g at.After-swap_each_flux in
    let is = blank_is g at.After-drive_e-e (current_is g at.After-of_blocks-flux one.beside) in
    let h = has_back g at.After-into_blocks-spare map is in
    let two = back g at.After-swap_each_flux-2 (tiles_out g at.After-swap_each_flux) in
    ap all_particles (tiles_back g at.After-swap_each_flux-2 (two.long ∙ one.long))
    ∙ particles_kept p.frame.map p.tiles.items c.swap_each_flux-2.new.tiles c.requires.flux.received.numbered.count
    (swapped_back p.frame.map _ _ _ _ _ _ _ _ p.frame.map.side map c.requires.flux.received one two h is)

pub returns-clause-plasma : goal.returns-clause-plasma
returns-clause-plasma g c =
    let p = c.args.self in
    let at = goal.at.returns-clause-plasma g c in
    let one = out g at.After-swap_each_flux in
    let map = map_is g at.After-swap_each_flux in
    let current = current_is g at.After-of_blocks-flux one.beside in
    let is = blank_is g at.After-drive_e-e current in
    let h = has_back g at.After-into_blocks-spare map is in
    let two = back g at.After-swap_each_flux-2 (tiles_out g at.After-swap_each_flux) in
    let items = tiles_back g at.After-swap_each_flux-2 (two.long ∙ one.long) in
    let tiles = with_items (with_items p.tiles c.swap_each_flux.new.tiles) c.swap_each_flux-2.new.tiles in
    let blocks = with_items c.into_blocks-spare.result c.swap_each_flux-2.new.blocks in
    let long = ap (λ (bs : List BlockValues). length bs)
    (with_items_is c.into_blocks-spare.result c.swap_each_flux-2.new.blocks (two.beside ∙ sym c.into_blocks-spare.result.ok.0))
    ∙ two.beside ∙ back_count g at.After-into_blocks-spare is h ∙ sym c.requires.flux.spare in
    let smooth = c.drive_e-e.result.1.smooth in
    let back_smooth : IfSome smooth (LiesOn (cells_of p.frame.map) p.frame.map.tiles) =
    subst (λ (t : Triple). IfSome smooth (LiesOn (cells_of p.frame.map) t)) (ap (λ (f : Field). f.parts) current)
    (subst (λ (n : Triple). IfSome smooth (LiesOn n c.of_blocks-flux.result.parts)) c.requires.b_cells c.drive_e-e.ensures.smooth) in
    ready_again p (record p { tiles = tiles; spare = blocks; smooth = smooth }) c.requires.flux refl refl long back_smooth refl
    (subst (AreSpent p.frame.map p.tiles.items) (sym items)
    (swapped_back p.frame.map _ _ _ _ _ _ _ _ p.frame.map.side map c.requires.flux.received one two h is))

pub returns-clause-fields : goal.returns-clause-fields
returns-clause-fields g c =
    let p = c.args.self in
    let m = p.frame.map in
    let s = c.args.scales.now in
    let b = c.args.b.now in
    let e = c.args.e in
    let at = goal.at.returns-clause-fields g c in
    let one = out g at.After-swap_each_flux in
    let is = current_is g at.After-of_blocks-flux one.beside in
    let same : (a : Axis) → AreSame b.cells (value_at c.of_blocks-flux.result a) (flux_in m p.tiles.items a) = λ a q within.
    ap (λ (f : Field). value_at f a q) is
    ∙ flux_is m p.tiles.items c.swap_each_flux.new.tiles p.spare.items c.swap_each_flux.new.blocks (map_is g at.After-swap_each_flux)
    c.requires.flux.received one c.requires.flux.spare m.side a q (subst (IsWithin q) c.requires.b_cells within) in
    let filter = filter_in p.smooth in
    advances_same Electric s.e_force b.side b.cells e.parts
    (λ a q. full_of s b no_drive a q (value_at e a q) (filtered filter b.cells (value_at c.of_blocks-flux.result a) q))
    (λ a q. full_of s b no_drive a q (value_at e a q) (filtered filter b.cells (flux_in m p.tiles.items a) q)) c.drive_e-e.result.0
    (λ a q within. ap (full_of s b no_drive a q (value_at e a q)) (filtered_same filter b.cells _ _ (same a) q within))
    c.drive_e-e.ensures.fields

pub returns-clause-filter : goal.returns-clause-filter
returns-clause-filter g c = c.drive_e-e.ensures.filter
