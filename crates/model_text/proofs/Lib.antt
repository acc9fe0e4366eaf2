pub mod Letters
pub mod Munch
pub mod Spelling
pub mod Unique
pub mod LineOnce
pub mod Gather
pub mod OneToOne
