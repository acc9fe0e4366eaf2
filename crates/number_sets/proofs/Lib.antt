pub mod Below
pub mod Collected
mod Told
