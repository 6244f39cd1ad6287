-- Whether a grid can be cut into so many tiles, as a deck is asked.
pub use Rattle.pic_settings.specs.Tiles.{tiles_fit}
