-- What the tiles have where each has received all that leads to it: what the push phase leaves.
use Rattle.std.proofs.Common.{◌≡◌, ℕ, suc, ◌<◌, Bool, nat_eq, All, List, [], ◌∷◌, length, get_or, Option, None, IsOk, sym, ap, ◌∙◌, subst, arith}
use Rattle.std.proofs.lemmas.List.{length-map}
use Rattle.std.proofs.lemmas.List.Elements.{All-nil, All-weaker}
use Rattle.pic_num.specs.declared.motion.Particle.{Particle}
use Rattle.pic_num.specs.Space.{triple}
use Rattle.pic_block.specs.Block.{inner_at}
use Rattle.pic_block.specs.Cells.{count_of}
use Rattle.pic_grid.specs.declared.stop.Stop.{Stop}
use Rattle.pic_grid.specs.Hat.{IsInBox, HasTwo}
use Rattle.pic_grid.specs.PushPhase.{Surroundings, push_of, push_stop, moved_all}
use Rattle.pic_tile.specs.InOrder.{AreOrdered}
use Rattle.pic_tile.specs.Same.{Same}
use Rattle.pic_tile.specs.StandFor.{owned}
use Rattle.pic_tile.specs.StopOf.{IsStopOf}
use Rattle.pic_tile.specs.Totals.{together}
use Rattle.pic_tile.proofs.SameLaws.{same_trans}
use Rattle.pic_tile.proofs.StandForLaws.{stands_together}
use Rattle.pic_tile.proofs.StopLaws.{stop_none, stop_append, stop_same, stop_is, quiet_part}
use Rattle.pic_tile.specs.declared.parcel.Parcel.{Parcel}
use Rattle.pic_tile.specs.Directions.{here}
use Rattle.pic_tile.specs.Exchanged.{least_stop, HasReceived, AreExchanged}
use Rattle.pic_tile.specs.Held.{chains_of}
use Rattle.pic_tile.specs.LayerSum.{AreSharedOut, LayersMakeTheCurrent}
use Rattle.pic_tile.specs.Leaving.{WayLeads}
use Rattle.pic_tile.specs.Owners.{tile_of}
use Rattle.pic_tile.specs.Parcels.{AreFreshTiles}
use Rattle.pic_tile.specs.Receiving.{HasMerged, IsReceiving, AreAllDone, coming}
use Rattle.pic_tile.specs.Tile.{TileValue, parcel_at, chain_of, flux_of, stop_of_parcel, chain_at, stop_at, tile_in}
use Rattle.pic_tile.specs.Tiling.{Tiling, cells_of}
use Rattle.pic_tile.proofs.ArrivalLaws.{coming_all}
use Rattle.pic_tile.proofs.HeldLaws.{Leads, chain_in, fresh_stand}
use Rattle.pic_tile.proofs.LeavingLaws.{tile_below}
use Rattle.pic_tile.proofs.ReceivedLaws.{ready_received, merged_is_current}
use Rattle.pic_tile.proofs.ReceivingLaws.{some_there}

-- the least of the stops of tiles, each of which stops a chain, stops all chains together
least_of : (w : Surroundings) (chains : List (List Particle)) (tiles : List TileValue) → length tiles ≡ length chains
    → ((i : ℕ) → i < length chains → IsStopOf w (get_or chains i []) (stop_at (tile_in tiles i) here)) → IsStopOf w (together chains) (least_stop tiles)
unfolding together least_stop
least_of w [] [] long each = stop_none w [] (All-nil (λ (x : Particle). IsOk (push_of w x)))
least_of w [] (t ∷ tiles) long each = absurd (omega (arith, long))
least_of w (c ∷ chains) [] long each = absurd (omega (arith, long))
least_of w (c ∷ chains) (t ∷ tiles) long each =
    stop_append w c (together chains) (stop_at t here) (least_stop tiles) (each 0 (omega arith))
    (least_of w chains tiles (omega (arith, long)) (λ i below. each (suc i) (omega (arith, below))))

-- what the tiles of a list of particles start with
abbrev starts : List TileValue → ℕ → List Particle
starts opening t = chain_at (tile_in opening t) here

module _ (law : LayersMakeTheCurrent) (leads : WayLeads) (w : Surroundings) (m : Tiling) (xs : List Particle) (opening : List TileValue)
    (some : 0 < m.side) (thick : HasTwo m.size) (side : w.side ≡ m.side) (cells : w.cells ≡ cells_of m)
    (inside : All (λ x. IsInBox m.side (cells_of m) (triple x.x)) xs) (fresh : AreFreshTiles m xs opening)
  where
    pub shared_out : AreSharedOut m (starts opening) xs
    shared_out t below = subst (λ (k : ℕ). Same (starts opening t) (owned (tile_of m) k xs)) (fresh.numbers t below) (fresh.stand t below)

    -- one tile that has received all
    pub has_received : (r : ℕ) (t : TileValue) (done : ℕ → Bool) → r < count_of m.tiles → AreAllDone done
        → IsReceiving w m (starts opening) done r t → HasReceived w m xs r t
    has_received r t done below all h =
        let start = starts opening in
        let own = some_there (parcel_at t here) (h.there (all here (omega arith))) in
        let has : HasMerged w m start done r own.0 = h.own own.0 own.1 in
        let Inside : Particle → Type 0 = λ x. IsInBox m.side (cells_of m) (triple x.x) in
        let owners : All (λ x. tile_of m x < count_of m.tiles) xs =
        All-weaker Inside (λ x. tile_of m x < count_of m.tiles) (λ x one. tile_below m x some thick one) xs inside in
        let lead : All (Leads w m) xs = All-weaker Inside (Leads w m) (λ x one. leads w m x side cells some thick one) xs inside in
        let came = coming_all w m start xs done r below shared_out owners lead all in
        let mine : Same own.0.chain (owned (tile_of m) r (moved_all w xs)) =
        same_trans own.0.chain (coming w m start done r) (owned (tile_of m) r (moved_all w xs)) has.chain came in
        record {
          number = h.number;
          ready = ready_received w m start done r t all h;
          chain = subst (λ (o : Option Parcel). Same (chain_of o) (owned (tile_of m) r (moved_all w xs))) (sym own.1) mine;
          flux = λ a q within. ap (λ (o : Option Parcel). inner_at (flux_of o) a q) own.1
              ∙ merged_is_current law w m start done r own.0 xs a q all has some side cells thick below within shared_out inside;
          quiet = λ d within apart. ap stop_of_parcel (h.empty d within apart (all d within));
        }

    -- its stop is that of the particles with which it started
    stop_received : (r : ℕ) (t : TileValue) (done : ℕ → Bool) → AreAllDone done → IsReceiving w m (starts opening) done r t
        → IsStopOf w (starts opening r) (stop_at t here)
    stop_received r t done all h =
        let own = some_there (parcel_at t here) (h.there (all here (omega arith))) in
        subst (λ (o : Option Parcel). IsStopOf w (starts opening r) (stop_of_parcel o)) (sym own.1) (h.own own.0 own.1).halt

    -- where nothing stops the push, nothing stops that of a part
    quiet_owned : (r : ℕ) (stop : Option Stop) → AreOrdered xs → push_stop w xs ≡ None → r < count_of m.tiles → IsStopOf w (starts opening r) stop → stop ≡ None
    unfolding owned
    quiet_owned r stop ordered quiet below is = quiet_part w xs (starts opening r) (λ x. nat_eq (tile_of m x) r) stop ordered quiet (shared_out r below) is

    -- all tiles
    pub are_exchanged : (tiles : List TileValue) (done : ℕ → ℕ → Bool) → AreOrdered xs → length tiles ≡ count_of m.tiles
        → ((r : ℕ) → r < count_of m.tiles → AreAllDone (done r))
        → ((r : ℕ) → r < count_of m.tiles → IsReceiving w m (starts opening) (done r) r (tile_in tiles r))
        → AreExchanged w m xs tiles
    are_exchanged tiles done ordered long all receives =
        let chains = chains_of opening in
        let count : length chains ≡ count_of m.tiles = length-map opening (λ (t : TileValue). chain_at t here) ∙ fresh.count in
        let stop_each : (r : ℕ) → r < count_of m.tiles → IsStopOf w (starts opening r) (stop_at (tile_in tiles r) here) =
        λ r below. stop_received r (tile_in tiles r) (done r) (all r below) (receives r below) in
        let least : IsStopOf w (together chains) (least_stop tiles) =
        least_of w chains tiles (long ∙ sym count) (λ i within.
        let below : i < count_of m.tiles = subst (λ (n : ℕ). i < n) count within in
        subst (λ (c : List Particle). IsStopOf w c (stop_at (tile_in tiles i) here))
        (sym (chain_in opening i (subst (λ (n : ℕ). i < n) (sym fresh.count) below))) (stop_each i below)) in
        let same = stands_together (tile_of m) chains xs (fresh_stand m xs opening some thick inside fresh) in
        record {
          count = long;
          each = λ r below. has_received r (tile_in tiles r) (done r) below (all r below) (receives r below);
          stop = stop_is w xs (least_stop tiles) ordered (stop_same w (together chains) xs (least_stop tiles) same least);
          none = λ quiet r below. quiet_owned r (stop_at (tile_in tiles r) here) ordered quiet below (stop_each r below);
        }
