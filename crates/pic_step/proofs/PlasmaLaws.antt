-- The list that the tiles of a state stand for.
use Rattle.std.proofs.Common.{◌≡◌, ℕ, ◌*◌, ◌<◌, pos, List, [], ◌∷◌, length, get_or, replicate, All, sym, ap, ◌∙◌, subst, arith}
use Rattle.std.specs.Option.{IfSome}
use Rattle.std.proofs.Math.Nat.{mod-one, mod_self, mul-mod_right}
use Rattle.std.proofs.lemmas.List.{ext_get_or, length-map}
use Rattle.std.proofs.lemmas.List.Elements.{All-weaker}
use Rattle.pic_num.specs.declared.motion.Particle.{Particle}
use Rattle.pic_num.specs.Space.{Triple, triple}
use Rattle.pic_block.specs.Cells.{Grid, IsCells, count_of}
use Rattle.pic_grid.specs.Hat.{IsInBox, HasTwo}
use Rattle.pic_grid.specs.Lattice.{Field, IsParts}
use Rattle.pic_grid.specs.Parts.{layered}
use Rattle.pic_grid.proofs.SmallLaws.{each_zeros}
use Rattle.pic_tile.specs.Frame.{IsForceField}
use Rattle.pic_num.specs.Limits.{most_force}
use Rattle.pic_tile.specs.InOrder.{AreOrdered, in_order}
use Rattle.pic_tile.specs.Same.{Same}
use Rattle.pic_tile.specs.StandFor.{owned, StandFor}
use Rattle.pic_tile.specs.Totals.{together}
use Rattle.pic_tile.proofs.InOrderLaws.{in_order_is}
use Rattle.pic_tile.proofs.StandForLaws.{stands_together}
use Rattle.pic_tile.specs.CoreState.{all_particles}
use Rattle.pic_tile.specs.Directions.{here}
use Rattle.pic_tile.specs.Held.{chains_of}
use Rattle.pic_tile.specs.Owners.{tile_of}
use Rattle.pic_tile.specs.Parcels.{AreFreshTiles}
use Rattle.pic_tile.specs.Tile.{TileValue, chain_at, tile_in}
use Rattle.pic_tile.specs.Tiling.{Tiling, IsMap, cells_of}
use Rattle.pic_tile.proofs.HeldLaws.{chain_in}
use Rattle.pic_tile.proofs.LeavingLaws.{tile_below}
use Rattle.pic_core.specs.AtStart.{IsScratch}
use Rattle.pic_advance.specs.Current.{LiesOn}
use Rattle.pic_step.specs.declared.plasma.Plasma.{Plasma}
use Rattle.pic_step.specs.TileFlux.{AreSpent}
use Rattle.pic_step.specs.Plasma.{HasFlux, IsPlasma}

-- tiles, each of which has its own of a list, have the list
pub list_is : (m : Tiling) (xs : List Particle) (ts : List TileValue) → 0 < m.side → HasTwo m.size
    → All (λ x. IsInBox m.side (cells_of m) (triple x.x)) xs → AreOrdered xs → length ts ≡ count_of m.tiles
    → ((r : ℕ) → r < count_of m.tiles → Same (chain_at (tile_in ts r) here) (owned (tile_of m) r xs)) → all_particles ts ≡ xs
list_is m xs ts some thick inside ordered count each =
    let long : length (chains_of ts) ≡ count_of m.tiles = length-map ts (λ (t : TileValue). chain_at t here) ∙ count in
    let stand : StandFor (tile_of m) (chains_of ts) xs = record {
      owners = All-weaker (λ x. IsInBox m.side (cells_of m) (triple x.x)) (λ x. tile_of m x < length (chains_of ts))
          (λ x one. subst (λ (n : ℕ). tile_of m x < n) (sym long) (tile_below m x some thick one)) xs inside;
      each = λ t within.
          let below : t < count_of m.tiles = subst (λ (n : ℕ). t < n) long within in
          subst (λ (c : List Particle). Same c (owned (tile_of m) t xs)) (sym (chain_in ts t (subst (λ (n : ℕ). t < n) (sym count) below))) (each t below);
    } in
    in_order_is (together (chains_of ts)) xs (stands_together (tile_of m) (chains_of ts) xs stand) ordered

-- fresh tiles have the list that is cut into them
pub particles_are : (m : Tiling) (xs : List Particle) (ts : List TileValue) → 0 < m.side → HasTwo m.size
    → All (λ x. IsInBox m.side (cells_of m) (triple x.x)) xs → AreOrdered xs → AreFreshTiles m xs ts → all_particles ts ≡ xs
particles_are m xs ts some thick inside ordered fresh =
    list_is m xs ts some thick inside ordered fresh.count (λ r below.
    subst (λ (k : ℕ). Same (chain_at (tile_in ts r) here) (owned (tile_of m) k xs)) (fresh.numbers r below) (fresh.stand r below))

-- tiles that are left without their flux have their particles as before,
pub particles_kept : (m : Tiling) (us vs : List TileValue) → length us ≡ count_of m.tiles → AreSpent m us vs → all_particles vs ≡ all_particles us
particles_kept m us vs count h =
    let long_us : length (chains_of us) ≡ count_of m.tiles = length-map us (λ (t : TileValue). chain_at t here) ∙ count in
    let long_vs : length (chains_of vs) ≡ count_of m.tiles = length-map vs (λ (t : TileValue). chain_at t here) ∙ h.numbered.count in
    let same : chains_of vs ≡ chains_of us =
    ext_get_or [] (chains_of vs) (chains_of us) (long_vs ∙ sym long_us) (λ i within.
    let below : i < count_of m.tiles = subst (λ (n : ℕ). i < n) long_vs within in
    chain_in vs i (subst (λ (n : ℕ). i < n) (sym h.numbered.count) below) ∙ h.chains i below
    ∙ sym (chain_in us i (subst (λ (n : ℕ). i < n) (sym count) below))) in
    ap (λ (cs : List (List Particle)). in_order (together cs)) same

-- and are ready for the next push
pub ready_again : (p q : Plasma) → HasFlux p → q.frame ≡ p.frame → q.room ≡ p.room → length q.spare.items ≡ length p.spare.items
    → IfSome q.smooth (LiesOn (cells_of p.frame.map) p.frame.map.tiles) → q.count ≡ p.count
    → AreSpent p.frame.map p.tiles.items q.tiles.items
    → IsPlasma (all_particles p.tiles.items) q
ready_again p q flux frame room spare smooth count h = subst (λ f. IsPlasma (all_particles p.tiles.items) (record q { frame = f })) (sym frame) (record {
  tiles = record {
    count = h.numbered.count;
    numbers = h.numbered.numbers;
    fresh = h.fresh;
    stand = λ r below.
        let m = p.frame.map in
        let xs = all_particles p.tiles.items in
        let us = p.tiles.items in
        let vs = q.tiles.items in
        let number = flux.received.numbered.numbers r below ∙ sym (h.numbered.numbers r below) in
        subst (λ (c : List Particle). Same c (owned (tile_of m) (tile_in vs r).number xs)) (sym (h.chains r below))
        (subst (λ (k : ℕ). Same (chain_at (tile_in us r) here) (owned (tile_of m) k xs)) number (flux.stand r below));
  };
  room = subst (λ o. IsScratch p.frame.map o) (sym room) flux.room;
  parts = flux.parts;
  spare = spare ∙ flux.spare;
  smooth = smooth;
  count = count ∙ flux.count;
})

-- a grid has a part for each layer of z
pub layered_parts : (n : Triple) → IsCells n → IsParts n (layered n)
layered_parts n cells = record {
  x_least = omega arith;
  x_whole = mod-one n.x;
  y_least = omega arith;
  y_whole = mod-one n.y;
  z_least = let least = cells.z_least in omega (arith, least);
  z_whole = mod_self n.z;
}

-- and these are its parts
pub parts_of_layers : (g : Grid) (ns : List ℕ) → triple ns ≡ g.n → IsCells g.n → IsParts g.n (triple (1 ∷ 1 ∷ get_or ns 2 0 ∷ []))
parts_of_layers g ns is cells = subst (λ (t : Triple). IsParts g.n (layered t)) (sym is) (layered_parts g.n cells)

-- and the cells of a map one for each of its tiles
pub parts_of_map : (m : Tiling) → IsMap m → IsParts (cells_of m) m.tiles
parts_of_map m map = record {
  x_least = map.tiles.x_least;
  x_whole = mul-mod_right m.tiles.x m.size.x;
  y_least = map.tiles.y_least;
  y_whole = mul-mod_right m.tiles.y m.size.y;
  z_least = map.tiles.z_least;
  z_whole = mul-mod_right m.tiles.z m.size.z;
}

-- a lattice of zeros has force values
pub no_forces : (g h : Grid) (parts : Triple) (f : Field) → h ≡ g
    → f ≡ record { cells = h.n; side = h.side; parts = parts; values = replicate (3 * count_of h.n) (pos 0) } → IsForceField g f
no_forces g h parts f same is = subst (IsForceField g) (sym is) (record {
  cells_are = ap (λ (k : Grid). k.n) same;
  side = ap (λ (k : Grid). k.side) same;
  small = each_zeros most_force h.side h.n parts;
})

-- what is made for the tiles of a map is ready for the first push
pub made_ready : (m : Tiling) (xs : List Particle) (p : Plasma) → p.frame.map ≡ m → AreFreshTiles m xs p.tiles.items → IsScratch m p.room
    → p.frame.force_e.parts ≡ layered (cells_of m) → length p.spare.items ≡ length p.tiles.items → IfSome p.smooth (LiesOn (cells_of m) m.tiles)
    → p.count ≡ length xs → IsPlasma xs p
made_ready m xs p map tiles room parts spare smooth count = record {
  tiles = subst (λ (n : Tiling). AreFreshTiles n xs p.tiles.items) (sym map) tiles;
  room = subst (λ (n : Tiling). IsScratch n p.room) (sym map) room;
  parts = parts ∙ ap (λ (n : Tiling). layered (cells_of n)) (sym map);
  spare = spare ∙ tiles.count ∙ ap (λ (n : Tiling). count_of n.tiles) (sym map);
  smooth = subst (λ (n : Tiling). IfSome p.smooth (LiesOn (cells_of n) n.tiles)) (sym map) smooth;
  count = count;
}
