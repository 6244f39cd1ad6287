-- What a board leaves when all its seats are done.
use Rattle.std.proofs.Common.{◌≡◌, ℕ, ◌<◌, List, [], ◌++◌, length, take, drop, true, Option, Some, refl, sym, ap, ◌∙◌, subst, arith}
use Rattle.std.proofs.lemmas.List.{append-nil, drop_all, take_all}
use mathlib.Core.Option.{some}
use Rattle.atomic_table.specs.Table.{State, Final, Seen}
use Rattle.pic_block.specs.Block.{AllAtMost}
use Rattle.pic_grid.specs.Traces.{most_flux}
use Rattle.pic_tile.specs.declared.parcel.Parcel.{Parcel}
use Rattle.pic_tile.specs.CoreState.{IsOpening, IsSoundFrame, all_particles}
use Rattle.pic_tile.specs.Directions.{directions, here}
use Rattle.pic_tile.specs.Frame.{felt_in}
use Rattle.pic_tile.specs.Tile.{TileValue, flux_of, parcel_at, tile_in}
use Rattle.pic_tile.proofs.ExchangedLaws.{are_exchanged, shared_out}
use Rattle.pic_tile.proofs.OpeningLaws.{opening_inside, felt_side, felt_cells}
use Rattle.pic_tile.proofs.ReceivedLaws.{merged_in_bound}
use Rattle.pic_tile.proofs.ReceivingLaws.{some_there}
use Rattle.pic_push.proofs.LayerSumLaws.{layers_current}
use Rattle.pic_push.proofs.PartialSumLaws.{partial_sums}
use Rattle.pic_push.proofs.WayLaws.{leads}
use Rattle.pic_yard.specs.declared.opening.Opening.{Opening}
use Rattle.pic_yard.specs.declared.slot_content.SlotContent.TheVariants as holds
use Rattle.pic_yard.specs.declared.view.View.{View}
use Rattle.pic_yard.specs.Contents.{IsShut, Slot, start_at, tiles_in}
use Rattle.pic_yard.specs.Ended.{AreMerged, HaveExchanged, KeepTheBound}
use Rattle.pic_yard.specs.Laws.{IsOver}
use Rattle.pic_yard.specs.Laying.{LiesHome, LiesThere}
use Rattle.pic_yard.specs.Rule.{Rule}
use Rattle.pic_yard.specs.Seats.{HasAllNumbers, IsThrough}
use Rattle.pic_yard.specs.Sits.{slot_at}
use Rattle.pic_yard.proofs.TeamLaws.{over}

pub tile_is : (a b : TileValue) → some (Some (holds.Tile (Some a))) ≡ some (Some (holds.Tile (Some b))) → a ≡ b
tile_is a b same = cc

-- the finished tile r lies in its home slot
pub record HasFinished (o : Opening) (slots : List Slot) (r : ℕ) : Type 0 where
  pub tile : TileValue
  pub lies : LiesThere slots r tile
  pub content : IsShut o r tile

pub all_finished : (o : Opening) (id : ℕ) (v : View) (words : List ℕ) (slots : List Slot) → Final (Seen (Rule o) id v) words slots → v.live ≡ true
    → HasAllNumbers o.seats v → IsThrough v → (r : ℕ) → r < tiles_in o → HasFinished o slots r
all_finished o id v words slots final live all ended r below =
    let s : State Slot View = final.0 in
    let done : IsOver o s = over o s id v final.1.0 final.1.1 live ended.told all ended.idle.owes ended.idle.rights in
    let home = done.finished r below in
    record {
      tile = home.is.tile;
      lies = final.4 (slot_at r directions) home.value home.there ∙ ap (λ (s : Slot). some s) home.is.is;
      content = home.is.content;
    }

pub all_merged : (o : Opening) (slots : List Slot) (tiles : List TileValue) → ((r : ℕ) → r < tiles_in o → HasFinished o slots r)
    → length tiles ≡ tiles_in o → ((r : ℕ) → r < length tiles → LiesHome tiles slots r) → AreMerged o tiles
all_merged o slots tiles finished count lie = record {
  count = count;
  each = λ r below.
      let f = finished r below in
      subst (λ (t : TileValue). IsShut o r t)
      (tile_is f.tile (tile_in tiles r) (sym f.lies ∙ lie r (omega (arith, below, count)))) f.content;
}

module _ (o : Opening) (sound : IsSoundFrame o.frame) (opens : IsOpening o.frame o.tiles.items) (tiles : List TileValue) (merged : AreMerged o tiles) where
  pub have_exchanged : HaveExchanged o tiles
  have_exchanged =
      are_exchanged layers_current leads (felt_in o.frame) o.frame.map (all_particles o.tiles.items) o.tiles.items
      (let least = sound.least in omega (arith, least)) sound.map.thick (felt_side o.frame sound) (felt_cells o.frame sound)
      (opening_inside o.frame o.tiles.items opens) opens.fresh tiles (λ r d. true) opens.ordered merged.count
      (λ r below d within. refl) merged.each

  pub keep_the_bound : KeepTheBound o tiles
  keep_the_bound r below =
      let w = felt_in o.frame in
      let m = o.frame.map in
      let xs = all_particles o.tiles.items in
      let least = sound.least in
      let inside = opening_inside o.frame o.tiles.items opens in
      let h = merged.each r below in
      let own = some_there (parcel_at (tile_in tiles r) here) (h.there refl) in
      let shared = shared_out layers_current leads w m xs o.tiles.items (omega (arith, least)) sound.map.thick (felt_side o.frame sound)
      (felt_cells o.frame sound) inside opens.fresh in
      subst (λ (p : Option Parcel). AllAtMost most_flux (flux_of p)) (sym own.1)
      (merged_in_bound partial_sums w m (start_at o) xs (λ d. true) r own.0 (omega (arith, least)) sound.most (felt_side o.frame sound)
      (felt_cells o.frame sound) sound.frame.kinds_are.limits sound.map.thick below shared inside opens.few (h.own own.0 own.1))

-- a list whose places are all filled anew
pub whole_room : (n : ℕ) (tiles room : List TileValue) → n ≡ length room → length tiles ≡ length room → take n (tiles ++ drop (length tiles) room) ≡ tiles
whole_room n tiles room size long =
    let none : drop (length tiles) room ≡ [] = drop_all (length tiles) room (omega (arith, long)) in
    ap (λ (xs : List TileValue). take n (tiles ++ xs)) none ∙ ap (λ (xs : List TileValue). take n xs) (append-nil tiles)
    ∙ take_all n tiles (omega (arith, size, long))
