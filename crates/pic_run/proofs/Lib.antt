pub mod CommandLaws
pub mod DeckLaws
pub mod DemoLaws
pub mod MeaningLaws
pub mod UntakenLaws
