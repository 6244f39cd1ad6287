pub mod CarriedLaws
pub mod ResumeLaws
pub mod UpgradeLaws
pub mod VerifyLaws
