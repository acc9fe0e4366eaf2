pub mod Coded
pub mod Folds
