pub mod Own
pub mod Texts
pub mod Whole
