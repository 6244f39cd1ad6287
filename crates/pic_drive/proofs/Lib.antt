pub mod OnlyLaws
pub mod CurlLaws
pub mod PlusLaws
pub mod DriveLaws
pub mod NumberLaws
pub mod RaiseLaws
