-- What the push of all tiles leaves, from what the exchange left.
use Rattle.std.proofs.Common.{◌≡◌, ℕ, ◌+◌, ◌<◌, List, All, Option, length, unsigned_abs, sym, ap, ◌∙◌, subst, arith}
use Rattle.std.proofs.Math.IntN.{pos, ◌-ℤ◌}
use Rattle.std.specs.List.{range_with_len}
use Rattle.std.specs.Option.{IfSome}
use Rattle.std.proofs.lemmas.Int.{ints}
use Rattle.std.proofs.lemmas.List.Elements.{All-weaker}
use Rattle.pic_num.specs.declared.axis.Axis.{Axis}
use Rattle.pic_num.specs.declared.motion.Particle.{Particle}
use Rattle.pic_num.specs.Space.{Triple, Spot, triple, unwrapped}
use Rattle.pic_block.specs.Block.{AllAtMost, inner_of, inner_at, outer_of}
use Rattle.pic_block.specs.Cells.{Grid, IsWithin, count_of}
use Rattle.pic_block.proofs.BlockLaws.{inner_within}
use Rattle.pic_grid.specs.declared.stop.Stop.{Stop}
use Rattle.pic_grid.specs.Current.{current}
use Rattle.pic_grid.specs.Hat.{IsInBox, HasTwo}
use Rattle.pic_grid.specs.Parts.{layered}
use Rattle.pic_grid.specs.Traces.{most_flux}
use Rattle.pic_grid.specs.PushPhase.{Surroundings, CanShare, moved_all}
use Rattle.pic_tile.specs.InOrder.{AreOrdered}
use Rattle.pic_tile.specs.Same.{Same}
use Rattle.pic_tile.specs.StandFor.{owned}
use Rattle.pic_push.proofs.PushLaws.{ids_kept, length-moved_all, share_kept}
use Rattle.pic_tile.specs.CoreState.{all_particles, IsOpening}
use Rattle.pic_tile.specs.Directions.{here}
use Rattle.pic_tile.specs.Exchanged.{least_stop, AreExchanged}
use Rattle.pic_tile.specs.Frame.{FrameValue, IsPushFrame, felt_in}
use Rattle.pic_tile.specs.Layers.{lowest_cell}
use Rattle.pic_tile.specs.Owners.{tile_of}
use Rattle.pic_tile.specs.Parcels.{StandsFor}
use Rattle.pic_tile.specs.Tile.{TileValue, chain_at, flux_at, tile_in}
use Rattle.pic_tile.specs.Tiling.{Tiling, IsMap, IsInTile, cells_of, owner_of}
use Rattle.pic_tile.proofs.TilingLaws.{owner_below, owner_has}
use Rattle.pic_core.specs.AtStart.{IsScratch}
use Rattle.pic_advance.specs.Current.{LiesOn}
use Rattle.pic_step.specs.declared.plasma.Plasma.{Plasma}
use Rattle.pic_step.specs.TileFlux.{HaveReceived, flux_in}
use Rattle.pic_step.specs.Exchange.{HasExchanged}
use Rattle.pic_step.specs.Plasma.{IsPlasma}
use Rattle.pic_step.specs.PushOn.{ArePushed, HasPushed}
use Rattle.pic_step.proofs.PlasmaLaws.{list_is}
use Rattle.pic_step.proofs.SoundLaws.{has_two}

-- the tiles have received all
pub have_received : (w : Surroundings) (m : Tiling) (xs : List Particle) (us : List TileValue) → AreExchanged w m xs us
    → ((r : ℕ) → r < count_of m.tiles → AllAtMost most_flux (flux_at (tile_in us r) here)) → HaveReceived m us
have_received w m xs us x small = record {
  numbered = record { count = x.count; numbers = λ r below. (x.each r below).number };
  ready = λ r below. (x.each r below).ready;
  quiet = λ r d below. (x.each r below).quiet d;
  small = small;
}

-- the particles as they are pushed are of the box, and in order
pub record AreMoved (m : Tiling) (ys : List Particle) : Type 0 where
  pub inside : All (λ x. IsInBox m.side (cells_of m) (triple x.x)) ys
  pub ordered : AreOrdered ys

pub are_moved : (f : FrameValue) (xs : List Particle) → IsPushFrame f → IsMap f.map → 0 < f.map.side → AreOrdered xs
    → All (CanShare f.map.side (cells_of f.map) f.kinds) xs → AreMoved f.map (moved_all (felt_in f) xs)
are_moved f xs frame map some ordered can =
    let w = felt_in f in
    let ys = moved_all w xs in
    let side : f.map.side ≡ w.side = ap (λ (g : Grid). g.side) frame.map_is ∙ sym frame.e.side in
    let cells : cells_of f.map ≡ w.cells = ap (λ (g : Grid). g.n) frame.map_is ∙ sym frame.e.cells_are in
    let can_w : All (CanShare w.side w.cells f.kinds) xs =
    subst (λ (n : Triple). All (CanShare w.side n f.kinds) xs) cells (subst (λ (s : ℕ). All (CanShare s (cells_of f.map) f.kinds) xs) side can) in
    let shares = share_kept w xs (subst (λ (s : ℕ). 0 < s) side some) (subst HasTwo cells (has_two (cells_of f.map) map.cells)) can_w in
    let inside_w : All (λ x. IsInBox w.side w.cells (triple x.x)) ys =
    All-weaker (CanShare w.side w.cells f.kinds) (λ x. IsInBox w.side w.cells (triple x.x)) (λ x one. one.place) ys shares in
    record {
      inside = subst (λ (n : Triple). All (λ x. IsInBox f.map.side n (triple x.x)) ys) (sym cells)
          (subst (λ (s : ℕ). All (λ x. IsInBox s w.cells (triple x.x)) ys) (sym side) inside_w);
      ordered = record { identities = ids_kept w xs ∙ ordered.identities ∙ ap (range_with_len 0) (sym (length-moved_all w xs)) };
    }

-- the flux of the tile of a cell is the current there
module _ (w : Surroundings) (m : Tiling) (xs : List Particle) (us : List TileValue) (map : IsMap m) (x : AreExchanged w m xs us) where
  pub flux_is : (a : Axis) (p : Triple) → IsWithin p (cells_of m) → flux_in m us a p ≡ current w xs a p
  flux_is a p within =
      let r = owner_of m p in
      let below = owner_below m p map.thick within in
      let inside : IsInTile m r p = owner_has m p map within in
      let received = x.each r below in
      let b = flux_at (tile_in us r) here in
      let low : b.low ≡ lowest_cell m r = received.ready.low ∙ ap (lowest_cell m) received.number in
      let q = inner_of (lowest_cell m r) (unwrapped p) in
      let within_q : IsWithin q m.size = inner_within (lowest_cell m r) m.size (unwrapped p) inside in
      let back_x : unsigned_abs (lowest_cell m r).x + unsigned_abs (pos p.x -ℤ (lowest_cell m r).x) ≡ p.x = omega (arith, ints, inside.x_low) in
      let back_y : unsigned_abs (lowest_cell m r).y + unsigned_abs (pos p.y -ℤ (lowest_cell m r).y) ≡ p.y = omega (arith, ints, inside.y_low) in
      let back_z : unsigned_abs (lowest_cell m r).z + unsigned_abs (pos p.z -ℤ (lowest_cell m r).z) ≡ p.z = omega (arith, ints, inside.z_low) in
      let back : outer_of (lowest_cell m r) q ≡ p = (λ i. record { x = back_x i; y = back_y i; z = back_z i }) in
      ap (λ (l : Spot). inner_at b a (inner_of l (unwrapped p))) low ∙ received.flux a q within_q ∙ ap (current w xs a) back

-- all together
pub are_pushed : (f : FrameValue) (xs : List Particle) (us : List TileValue) (stop : Option Stop) → IsPushFrame f → IsMap f.map → 0 < f.map.side
    → AreOrdered xs → All (CanShare f.map.side (cells_of f.map) f.kinds) xs → AreExchanged (felt_in f) f.map xs us → stop ≡ least_stop us
    → ArePushed (felt_in f) f.map xs us stop
are_pushed f xs us stop frame map some ordered can x stopped =
    let w = felt_in f in
    let moved = are_moved f xs frame map some ordered can in
    let cells : w.cells ≡ cells_of f.map = frame.e.cells_are ∙ sym (ap (λ (g : Grid). g.n) frame.map_is) in
    record {
      particles = list_is f.map (moved_all w xs) us some map.thick moved.inside moved.ordered x.count (λ r below. (x.each r below).chain);
      stop_is = stopped ∙ x.stop;
      current_is = λ a p within. flux_is w f.map xs us map x a p (subst (IsWithin p) cells within);
    }

-- the tiles stand for the particles as they are pushed
stand_for : (w : Surroundings) (m : Tiling) (xs : List Particle) (us : List TileValue) → AreExchanged w m xs us → all_particles us ≡ moved_all w xs
    → (r : ℕ) → r < count_of m.tiles → StandsFor m (all_particles us) (tile_in us r)
stand_for w m xs us x is r below =
    subst (λ (ys : List Particle). Same (chain_at (tile_in us r) here) (owned (tile_of m) (tile_in us r).number ys)) (sym is)
    (subst (λ (k : ℕ). Same (chain_at (tile_in us r) here) (owned (tile_of m) k (moved_all w xs))) (sym (x.each r below).number) (x.each r below).chain)

pub has_pushed : (p q : Plasma) (stop : Option Stop) → HasExchanged p q → IsPushFrame q.frame → IsMap q.frame.map → 0 < p.frame.map.side
    → IsOpening p.frame p.tiles.items → IsPlasma (all_particles p.tiles.items) p → stop ≡ least_stop q.tiles.items
    → HasPushed (felt_in p.frame) p q stop
has_pushed p q stop h frame map some opening ready stopped =
    let xs = all_particles p.tiles.items in
    let us = q.tiles.items in
    let f = q.frame in
    let back = sym h.frame in
    let x : AreExchanged (felt_in f) f.map xs us = subst (λ (g : FrameValue). AreExchanged (felt_in g) g.map xs us) back h.tiles in
    let small : (r : ℕ) → r < count_of f.map.tiles → AllAtMost most_flux (flux_at (tile_in us r) here) =
    subst (λ (g : FrameValue). (r : ℕ) → r < count_of g.map.tiles → AllAtMost most_flux (flux_at (tile_in us r) here)) back h.small in
    let pushed : ArePushed (felt_in f) f.map xs us stop =
    are_pushed f xs us stop frame map (subst (λ (g : FrameValue). 0 < g.map.side) back some) opening.ordered
    (subst (λ (g : FrameValue). All (CanShare g.map.side (cells_of g.map) g.kinds) xs) back opening.can) x stopped in
    record {
      map = ap (λ (g : FrameValue). g.map) h.frame;
      kinds = ap (λ (g : FrameValue). g.kinds) h.frame;
      smooth = h.smooth;
      flux = record {
        received = have_received (felt_in f) f.map xs us x small;
        stand = stand_for (felt_in f) f.map xs us x pushed.particles;
        room = subst (λ (g : FrameValue). IsScratch g.map q.room) back h.room;
        parts = subst (λ (g : FrameValue). g.force_e.parts ≡ layered (cells_of g.map)) back ready.parts;
        spare = ap (λ v. length v.items) h.spare ∙ ready.spare ∙ ap (λ (g : FrameValue). count_of g.map.tiles) back;
        smooth = subst (λ (g : FrameValue). IfSome q.smooth (LiesOn (cells_of g.map) g.map.tiles)) back
            (subst (λ o. IfSome o (LiesOn (cells_of p.frame.map) p.frame.map.tiles)) (sym h.smooth) ready.smooth);
        count = h.count ∙ ready.count ∙ sym (ap length pushed.particles ∙ length-moved_all (felt_in f) xs);
      };
      pushed = subst (λ (g : FrameValue). ArePushed (felt_in g) f.map xs us stop) h.frame pushed;
    }
