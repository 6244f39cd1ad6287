-- The least stop of tiles, taken from the last of them on.
use Rattle.std.proofs.Common.{◌≡◌, ℕ, suc, ◌+◌, ◌-◌, ◌<◌, List, length, drop, drop-cons, Option, None, sym, ◌∙◌, ap, arith}
use Rattle.std.proofs.lemmas.List.{drop_all}
use Rattle.pic_grid.specs.declared.stop.Stop.{Stop}
use Rattle.pic_tile.specs.StopOf.{lesser}
use Rattle.pic_tile.specs.Directions.{here}
use Rattle.pic_tile.specs.Exchanged.{least_stop}
use Rattle.pic_tile.specs.Tile.{TileValue, no_tile, stop_at, tile_in}

-- that of the last so many
pub least_of_last : List TileValue → ℕ → Option Stop
least_of_last tiles count = least_stop (drop (length tiles - count) tiles)

pub least_none : (tiles : List TileValue) → None ≡ least_of_last tiles 0
unfolding least_of_last least_stop
least_none tiles = ap least_stop (sym (drop_all (length tiles - 0) tiles (omega arith)))

pub least_more : (tiles : List TileValue) (count at : ℕ) → count < length tiles → at ≡ length tiles - 1 - count
    → lesser (stop_at (tile_in tiles at) here) (least_of_last tiles count) ≡ least_of_last tiles (count + 1)
unfolding least_of_last least_stop
least_more tiles count at below is =
    let inside : at < length tiles = omega (arith, is, below) in
    let next : suc at ≡ length tiles - count = omega (arith, is, below) in
    let this : at ≡ length tiles - (count + 1) = omega (arith, is) in
    ap (λ (k : ℕ). lesser (stop_at (tile_in tiles at) here) (least_stop (drop k tiles))) (sym next)
    ∙ ap least_stop (sym (drop-cons tiles at no_tile inside))
    ∙ ap (λ (k : ℕ). least_stop (drop k tiles)) this

pub least_all : (tiles : List TileValue) (count : ℕ) → length tiles ≡ count → least_of_last tiles count ≡ least_stop tiles
unfolding least_of_last
least_all tiles count is =
    let none : length tiles - count ≡ 0 = omega (arith, is) in
    ap (λ (k : ℕ). least_stop (drop k tiles)) none
