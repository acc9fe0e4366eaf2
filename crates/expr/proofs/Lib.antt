pub mod Scans
pub mod Lengths
pub mod Parses
pub mod Sizes
pub mod Places
pub mod Evals
pub mod Prints
