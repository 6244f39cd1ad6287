-- The parts of a board.
use Rattle.std.specs.Prelude.{◌≡◌, suc, ◌*◌, length}
use Rattle.pic_tile.specs.Directions.{directions}
use Rattle.pic_yard.specs.declared.yard.Yard.TheInside.{Inside}
use Rattle.pic_yard.specs.Contents.{tiles_in}
use Rattle.pic_yard.specs.YardValue.{YardValue}

-- what its callers see
abbrev pub yard_of : Inside → YardValue
yard_of parts = record {
  opening = parts.table.shared.key.value;
  table_id = parts.table.shared.table_id;
}

-- the frame of its opening, a place for each tile, and the words and slots of so many tiles
pub record IsFitted (parts : Inside) : Type 0 where
  pub frame_is : parts.frame ≡ (yard_of parts).opening.frame
  pub tiles_are : parts.tiles ≡ tiles_in (yard_of parts).opening
  pub room_is : length parts.room.items ≡ parts.tiles
  pub words_are : (yard_of parts).table_id.words ≡ suc parts.tiles
  pub slots_are : (yard_of parts).table_id.slots ≡ parts.tiles * suc directions
