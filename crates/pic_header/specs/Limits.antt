-- The limits of a header that its format says: this project's profile.
pub use Rattle.pic_num.specs.Limits.{most_steps, most_letters}
