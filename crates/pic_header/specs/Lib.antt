pub mod Limits
pub mod Header
pub mod HeaderText
pub mod HeaderFields
pub mod HeadReads
pub mod Spelling
pub mod Readable
