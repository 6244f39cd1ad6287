pub mod DemoLaws
pub mod WalkedLaws
