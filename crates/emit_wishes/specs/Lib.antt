pub mod Lines
pub mod Sought
