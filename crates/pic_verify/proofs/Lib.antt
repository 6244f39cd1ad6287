pub mod WalkLaws
pub mod VerdictLaws
pub mod BreakLaws
pub mod MeaningLaws
pub mod ReachedLaws
pub mod ReadableDump
pub mod SmallDumpLaws
pub mod UntakenLaws
