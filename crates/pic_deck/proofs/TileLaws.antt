-- Tiles and steps that fit, beside those that a deck may have.
pub use Rattle.pic_settings.proofs.TileLaws.{tiles_that_fit, steps_that_fit}
