pub mod LineLaws
mod ColumnLaws
pub mod SameLineLaws
