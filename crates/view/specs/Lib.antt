pub mod Walk
pub mod Systems
pub mod Shown
