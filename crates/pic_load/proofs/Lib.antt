pub mod GeneratorLaws
pub mod DrawingLaws
pub mod DrawnSizes
pub mod LoadLaws
